-- The first fault of lists of faults, one word after another.
use Rattle.std.proofs.Common.{◌≡◌, ℕ, ◌<◌, ◌≤◌, Bool, true, false, cond, ◌&&◌, ◌||◌, nat_lt, nat_eq, List, [], ◌∷◌, ◌++◌, Option, Some, None, IfSome, All, AllPairs, map, refl, sym, ap, ◌∙◌, inl, inr, lit<, lit≤, arith}
use Rattle.std.proofs.lemmas.Bool.{cases_lt, cond-true, cond-false, lt-ltb, le-ltb, cond_both}
use Rattle.std.proofs.lemmas.List.Elements.{All-head, All-tail, All-append, All-map}
use Rattle.luf_scope.proofs.Lying.{pairs_head, pairs_tail}
use Rattle.luf_scope.specs.Fault.{earlier, first_fault, first_of, rank}
use Rattle.luf_scope.specs.declared.fault.ScopeBad.{ScopeBad}
use Rattle.luf_scope.specs.declared.fault.ScopeWhat.{ScopeWhat}
use Rattle.luf_scope.specs.declared.fault.ScopeWhat.TheVariants.{LabelTwice, NoLabel, JumpIntoScope, BreakOutside}
use Rattle.luf_goto.specs.inner.Faults.{bad_at, first_bad, first_token}

-- faults of one word
abbrev pub bads : ScopeWhat → List ℕ → List ScopeBad
bads what tokens = map {A = ℕ} {B = ScopeBad} (λ token. record { token = token; what = what }) tokens

pub rising_first : (what : ScopeWhat) (tokens : List ℕ) → AllPairs (λ a b. a ≤ b) tokens → first_fault (bads what tokens) ≡ bad_at (first_token tokens) what
rising_first what [] rises = refl
rising_first what (t ∷ tokens) rises =
    ap (λ o. Some (earlier (record { token = t; what = what }) o)) (rising_first what tokens (pairs_tail (λ a b. a ≤ b) t tokens rises))
    ∙ ap Some (earliest tokens (pairs_head (λ a b. a ≤ b) t tokens rises))
  where
    earliest : (later : List ℕ) → All (λ b. t ≤ b) later → earlier (record { token = t; what = what }) (bad_at (first_token later) what) ≡ record { token = t; what = what }
    earliest [] above = refl
    earliest (u ∷ later) above = cond-false (nat_lt u t) _ _ (le-ltb u t (All-head (λ b. t ≤ b) u later above))

-- of two faults the first one given, where it stands at the earlier token
abbrev pick : ScopeBad → ScopeBad → ScopeBad
pick b a = cond (nat_lt b.token a.token) b a

pick_first : (b a : ScopeBad) → b.token < a.token → pick b a ≡ b
pick_first b a less = cond-true (nat_lt b.token a.token) b a (lt-ltb b.token a.token less)

pick_other : (b a : ScopeBad) → a.token ≤ b.token → pick b a ≡ a
pick_other b a more = cond-false (nat_lt b.token a.token) b a (le-ltb b.token a.token more)

pick_in_turn : (a b c : ScopeBad) → pick (pick b c) a ≡ pick b (pick c a)
pick_in_turn a b c = elim (cases_lt c.token a.token) [
  | inl ca ↦ elim (cases_lt b.token c.token) [
    | inl bc ↦ ap (λ x. pick x a) (pick_first b c bc) ∙ pick_first b a (omega arith) ∙ sym (ap (pick b) (pick_first c a ca) ∙ pick_first b c bc)
    | inr cb ↦ ap (λ x. pick x a) (pick_other b c cb) ∙ pick_first c a ca ∙ sym (ap (pick b) (pick_first c a ca) ∙ pick_other b c cb)
  ]
  | inr ac ↦ elim (cases_lt b.token c.token) [
    | inl bc ↦ ap (λ x. pick x a) (pick_first b c bc) ∙ sym (ap (pick b) (pick_other c a ac))
    | inr cb ↦ ap (λ x. pick x a) (pick_other b c cb) ∙ pick_other c a ac ∙ sym (ap (pick b) (pick_other c a ac) ∙ pick_other b a (omega arith))
  ]
]

only_earlier : (x y z : Bool) → z ≡ false → (x || (y && z)) ≡ x
only_earlier true y z is = refl
only_earlier false true z is = is
only_earlier false false z is = refl

told : (a b : ScopeBad) → rank a.what ≤ rank b.what → first_of (Some a) (Some b) ≡ Some (pick b a)
told a b up = ap (λ t. Some (cond t b a)) (only_earlier (nat_lt b.token a.token) (nat_eq b.token a.token) (nat_lt (rank b.what) (rank a.what)) (le-ltb (rank b.what) (rank a.what) up))

module _ (k : ℕ) where
  joined : (a : ScopeBad) (F G : Option ScopeBad) → rank a.what < k → IfSome F (λ c. rank c.what < k) → IfSome G (λ b. k ≤ rank b.what) → Some (earlier a (first_of F G)) ≡ first_of (Some (earlier a F)) G
  joined a None None ra rc rb = refl
  joined a (Some c) None ra rc rb = refl
  joined a None (Some b) ra rc rb = sym (told a b (omega arith))
  joined a (Some c) (Some b) ra rc rb =
      ap (λ o. Some (earlier a o)) (told c b (omega arith))
      ∙ ap Some (pick_in_turn a b c)
      ∙ sym (told (pick c a) b (cond_both (nat_lt c.token a.token) c a (λ x. rank x.what ≤ rank b.what) (λ _. omega arith) (λ _. omega arith)))

  first_low : (xs : List ScopeBad) → All (λ a. rank a.what < k) xs → IfSome (first_fault xs) (λ c. rank c.what < k)
  first_low [] low = tt
  first_low (a ∷ xs) low = of_two (first_fault xs) (first_low xs (All-tail (λ x. rank x.what < k) a xs low))
    where
      of_two : (o : Option ScopeBad) → IfSome o (λ c. rank c.what < k) → rank (earlier a o).what < k
      of_two None rest = All-head (λ x. rank x.what < k) a xs low
      of_two (Some b) rest = cond_both (nat_lt b.token a.token) b a (λ x. rank x.what < k) (λ _. rest) (λ _. All-head (λ x. rank x.what < k) a xs low)

  first_high : (xs : List ScopeBad) → All (λ a. k ≤ rank a.what) xs → IfSome (first_fault xs) (λ c. k ≤ rank c.what)
  first_high [] high = tt
  first_high (a ∷ xs) high = of_two (first_fault xs) (first_high xs (All-tail (λ x. k ≤ rank x.what) a xs high))
    where
      of_two : (o : Option ScopeBad) → IfSome o (λ c. k ≤ rank c.what) → k ≤ rank (earlier a o).what
      of_two None rest = All-head (λ x. k ≤ rank x.what) a xs high
      of_two (Some b) rest = cond_both (nat_lt b.token a.token) b a (λ x. k ≤ rank x.what) (λ _. rest) (λ _. All-head (λ x. k ≤ rank x.what) a xs high)

  -- words that come first, and those that come behind them
  pub first_append : (xs ys : List ScopeBad) → All (λ a. rank a.what < k) xs → All (λ b. k ≤ rank b.what) ys → first_fault (xs ++ ys) ≡ first_of (first_fault xs) (first_fault ys)
  first_append [] ys low high = refl
  first_append (a ∷ xs) ys low high =
      let rest = All-tail (λ x. rank x.what < k) a xs low in
      ap (λ o. Some (earlier a o)) (first_append xs ys rest high)
      ∙ joined a (first_fault xs) (first_fault ys) (All-head (λ x. rank x.what < k) a xs low) (first_low xs rest) (first_high ys high)

bads_are : (what : ScopeWhat) (P : ScopeWhat → Type 0) → P what → (tokens : List ℕ) → All (λ b. P b.what) (bads what tokens)
bads_are what P is tokens = All-map (λ b. P b.what) (λ (token : ℕ). record { token = token; what = what }) tokens (λ i d h. is)

-- the first fault of the four words of jumps
pub first_bad_is :
    (a b c d : List ℕ) → AllPairs (λ x y. x ≤ y) a → AllPairs (λ x y. x ≤ y) b → AllPairs (λ x y. x ≤ y) c → AllPairs (λ x y. x ≤ y) d
    → first_fault (bads LabelTwice a ++ bads NoLabel b ++ bads JumpIntoScope c ++ bads BreakOutside d) ≡ first_bad (first_token a) (first_token b) (first_token c) (first_token d)
first_bad_is a b c d ra rb rc rd =
    let A = bads LabelTwice a in let B = bads NoLabel b in let C = bads JumpIntoScope c in let D = bads BreakOutside d in
    let lowA : All (λ x. rank x.what < 5) A = bads_are LabelTwice (λ w. rank w < 5) (lit< tt) a in
    let lowAB : All (λ x. rank x.what < 6) (A ++ B) = All-append (λ x. rank x.what < 6) A B (bads_are LabelTwice (λ w. rank w < 6) (lit< tt) a) (bads_are NoLabel (λ w. rank w < 6) (lit< tt) b) in
    let lowABC : All (λ x. rank x.what < 7) (A ++ B ++ C) = All-append (λ x. rank x.what < 7) (A ++ B) C (All-append (λ x. rank x.what < 7) A B (bads_are LabelTwice (λ w. rank w < 7) (lit< tt) a) (bads_are NoLabel (λ w. rank w < 7) (lit< tt) b)) (bads_are JumpIntoScope (λ w. rank w < 7) (lit< tt) c) in
    first_append 7 (A ++ B ++ C) D lowABC (bads_are BreakOutside (λ w. 7 ≤ rank w) (lit≤ tt) d)
    ∙ ap (λ o. first_of o (first_fault D))
    (first_append 6 (A ++ B) C lowAB (bads_are JumpIntoScope (λ w. 6 ≤ rank w) (lit≤ tt) c)
    ∙ ap (λ o. first_of o (first_fault C)) (first_append 5 A B lowA (bads_are NoLabel (λ w. 5 ≤ rank w) (lit≤ tt) b)))
    ∙ ap (λ o. first_of (first_of (first_of o (first_fault B)) (first_fault C)) (first_fault D)) (rising_first LabelTwice a ra)
    ∙ ap (λ o. first_of (first_of (first_of (bad_at (first_token a) LabelTwice) o) (first_fault C)) (first_fault D)) (rising_first NoLabel b rb)
    ∙ ap (λ o. first_of (first_of (first_of (bad_at (first_token a) LabelTwice) (bad_at (first_token b) NoLabel)) o) (first_fault D)) (rising_first JumpIntoScope c rc)
    ∙ ap (λ o. first_of (first_of (first_of (bad_at (first_token a) LabelTwice) (bad_at (first_token b) NoLabel)) (bad_at (first_token c) JumpIntoScope)) o) (rising_first BreakOutside d rd)
