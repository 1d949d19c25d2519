-- Where the `local` statements of a part end, by ranks: a significant token stands between any two ends that differ.
use Rattle.std.proofs.Common.{◌≡◌, ℕ, ◌+◌, ◌<◌, ◌≤◌, Bool, true, false, Option, List, [], ◌∷◌, ◌++◌, All, get_or, refl, sym, ap, ◌∙◌, arith, inl, inr, true≢false}
use Rattle.std.proofs.lemmas.List.Elements.{All-nil, All-cons, All-head, All-tail, All-append, All-weaker}
use Rattle.luf_lex.specs.declared.token.Tok.{Tok}
use Rattle.luf_bare.specs.Rank.{rank}
use Rattle.luf_bare.proofs.Ranks.{rank_up, ranks_in_order}
use Rattle.luf_scope.specs.Order.{place, from_of}
use Rattle.luf_scope.specs.declared.occurrence.Occurrence.{Occurrence}
use Rattle.luf_scope.specs.declared.occurrence.Occurrence.TheVariants.{Local, Function}
use Rattle.luf_resolved.proofs.Ranking.{Solid, Opened, Sound}

abbrev pub is_local : Occurrence → Bool
is_local (Local name attribute from to) = true
is_local _ = false

-- ---- lists

pub all_left : {X : Type 0} (P : X → Type 0) (xs ys : List X) → All P (xs ++ ys) → All P xs
all_left P [] ys all = All-nil P
all_left P (x ∷ xs) ys all = All-cons P x xs (All-head P x (xs ++ ys) all) (all_left P xs ys (All-tail P x (xs ++ ys) all))

pub all_right : {X : Type 0} (P : X → Type 0) (xs ys : List X) → All P (xs ++ ys) → All P ys
all_right P [] ys all = all
all_right P (x ∷ xs) ys all = all_right P xs ys (All-tail P x (xs ++ ys) all)

module _ (toks : List Tok) (all : List ℕ) where
  -- two `local` statements that end at one rank end at one place
  abbrev pub OneEnd : Occurrence → Occurrence → Type 0
  OneEnd u v = is_local u ≡ true → is_local v ≡ true → rank all (from_of u) ≡ rank all (from_of v) → from_of u ≡ from_of v

  -- a local of a part from a to e: its statement ends so many significant tokens before e
  pub record LocalIn (k a e : ℕ) (u : Occurrence) : Type 0 where
    pub low : rank all a ≤ rank all (place u)
    pub opens : rank all (place u) < rank all (from_of u)
    pub ends : rank all (from_of u) + k ≤ rank all e

  pub record Locals (k a e : ℕ) (os : List Occurrence) : Type 0 where
    pub each : All (λ u. is_local u ≡ true → LocalIn k a e u) os
    pub pairs : All (λ u. All (OneEnd u) os) os

  pub record Ends (k a e : ℕ) (os : List Occurrence) : Type 0 where
    pub on : a ≤ e
    pub told : All (Sound toks all) os → Locals k a e os

  -- ---- larger parts

  more_locals : (k l a b e c : ℕ) (os : List Occurrence) → a ≤ b → rank all e + l ≤ rank all c + k → Locals k b e os → Locals l a c os
  more_locals k l a b e c os down up w =
      record {
        each = All-weaker (λ u. is_local u ≡ true → LocalIn k b e u) (λ u. is_local u ≡ true → LocalIn l a c u)
            (λ u h is. let at = h is in let low = at.low in let ends = at.ends in record { low = omega (arith, low, rank_up all a b down); opens = at.opens; ends = omega (arith, ends, up) }) os w.each;
        pairs = w.pairs;
      }

  pub wider : (k a b e c : ℕ) (os : List Occurrence) → a ≤ b → e ≤ c → Ends k b e os → Ends k a c os
  wider k a b e c os down up l =
      let on = l.on in
      record { on = omega (arith, on, down, up); told = λ given. more_locals k k a b e c os down (let h = rank_up all e c up in omega (arith, h)) (l.told given) }

  pub looser : (k a e : ℕ) (os : List Occurrence) → Ends k a e os → Ends 0 a e os
  looser k a e os l = record { on = l.on; told = λ given. more_locals k 0 a a e e os (omega arith) (omega arith) (l.told given) }

  -- ---- one after another

  symmetric : (u v : Occurrence) → OneEnd u v → OneEnd v u
  symmetric u v one is its same = sym (one its is (sym same))

  square : (xs ys : List Occurrence) → All (λ u. All (OneEnd u) xs) xs → All (λ v. All (OneEnd v) ys) ys → All (λ u. All (OneEnd u) ys) xs → All (λ u. All (OneEnd u) (xs ++ ys)) (xs ++ ys)
  square xs ys first second across =
      All-append (λ u. All (OneEnd u) (xs ++ ys)) xs ys
      (λ k d within. All-append (OneEnd (get_or xs k d)) xs ys (first k d within) (across k d within))
      (λ k d within. All-append (OneEnd (get_or ys k d)) xs ys (λ j e inside. symmetric (get_or xs j e) (get_or ys k d) (across j e inside k d within)) (second k d within))

  joined_locals : (k a m e : ℕ) (xs ys : List Occurrence) → a ≤ m → m ≤ e → Locals k a m xs → Locals k m e ys → Locals k a e (xs ++ ys)
  joined_locals k a m e xs ys low high first second =
      record {
        each = All-append (λ u. is_local u ≡ true → LocalIn k a e u) xs ys
            (more_locals k k a a m e xs (omega arith) (let h = rank_up all m e high in omega (arith, h)) first).each
            (more_locals k k a m e e ys low (omega arith) second).each;
        pairs = square xs ys first.pairs second.pairs (λ i d within j c inside is its same.
            let u = first.each i d within is in let v = second.each j c inside its in let ends = u.ends in let from = v.low in let opens = v.opens in
            absurd (omega (arith, ends, from, opens, same)));
      }

  pub joins : (k a m e : ℕ) (xs ys : List Occurrence) → Ends k a m xs → Ends k m e ys → Ends k a e (xs ++ ys)
  joins k a m e xs ys first second =
      let low = first.on in let high = second.on in
      record {
        on = omega (arith, low, high);
        told = λ given. joined_locals k a m e xs ys low high (first.told (all_left (Sound toks all) xs ys given)) (second.told (all_right (Sound toks all) xs ys given));
      }

  pub nothing : (k a e : ℕ) → a ≤ e → Ends k a e []
  nothing k a e on = record { on = on; told = λ _. record { each = All-nil (λ u. is_local u ≡ true → LocalIn k a e u); pairs = All-nil (λ u. All (OneEnd u) []) } }

  pub silent_alone : (k a e : ℕ) (u : Occurrence) → a ≤ e → is_local u ≡ false → Ends k a e (u ∷ [])
  silent_alone k a e u on silent =
      record {
        on = on;
        told = λ _. record {
          each = All-cons (λ v. is_local v ≡ true → LocalIn k a e v) u [] (λ is. absurd (true≢false (sym is ∙ silent))) (All-nil (λ v. is_local v ≡ true → LocalIn k a e v));
          pairs = All-cons (λ v. All (OneEnd v) (u ∷ [])) u [] (All-cons (OneEnd u) u [] (λ is. absurd (true≢false (sym is ∙ silent))) (All-nil (OneEnd u))) (All-nil (λ v. All (OneEnd v) (u ∷ [])));
        };
      }

  -- ---- the names of a `local` statement from i on, which ends at f

  pub record Names (i f : ℕ) (os : List Occurrence) : Type 0 where
    pub on : i ≤ f
    pub froms : All (λ u. from_of u ≡ f) os
    pub each : All (Sound toks all) os → All (λ u. is_local u ≡ true → LocalIn 0 i f u) os

  pub no_names : (i f : ℕ) → i ≤ f → Names i f []
  no_names i f on = record { on = on; froms = All-nil (λ u. from_of u ≡ f); each = λ _. All-nil (λ u. is_local u ≡ true → LocalIn 0 i f u) }

  pub name_first : (i n f t : ℕ) (attribute : Option ℕ) (os : List Occurrence) → i ≤ n → n < f → Names i f os → Names i f (Local n attribute f t ∷ os)
  name_first i n f t attribute os low high rest =
      record {
        on = rest.on;
        froms = All-cons (λ u. from_of u ≡ f) (Local n attribute f t) os refl rest.froms;
        each = λ given.
            let solid : Solid toks all n = (All-head (Sound toks all) (Local n attribute f t) os given).0 in
            All-cons (λ u. is_local u ≡ true → LocalIn 0 i f u) (Local n attribute f t) os
            (λ _. record { low = rank_up all i n low; opens = (ranks_in_order all n f solid.kept).0 high; ends = omega arith })
            (rest.each (All-tail (Sound toks all) (Local n attribute f t) os given));
      }

  pub names_from : (i j f : ℕ) (os : List Occurrence) → i ≤ j → Names j f os → Names i f os
  names_from i j f os down names =
      let on = names.on in
      record {
        on = omega (arith, on, down);
        froms = names.froms;
        each = λ given. All-weaker (λ u. is_local u ≡ true → LocalIn 0 j f u) (λ u. is_local u ≡ true → LocalIn 0 i f u)
            (λ u h is. let at = h is in let low = at.low in record { low = omega (arith, low, rank_up all i j down); opens = at.opens; ends = at.ends }) os (names.each given);
      }

  -- the names, and values from j on
  pub local_round : (i j f : ℕ) (names values : List Occurrence) → i ≤ j → Names i f names → Ends 1 j f values → Ends 0 i f (names ++ values)
  local_round i j f names values low first second =
      let high = second.on in
      record {
        on = omega (arith, low, high);
        told = λ given.
            let its = second.told (all_right (Sound toks all) names values given) in
            record {
              each = All-append (λ u. is_local u ≡ true → LocalIn 0 i f u) names values (first.each (all_left (Sound toks all) names values given)) (more_locals 1 0 i j f f values low (omega arith) its).each;
              pairs = square names values (λ k d within l c inside is its_local same. first.froms k d within ∙ sym (first.froms l c inside)) its.pairs
                  (λ k d within l c inside is its_local same.
                  let at = its.each l c inside its_local in let ends = at.ends in
                  let here : rank all (from_of (get_or names k d)) ≡ rank all f = ap (rank all) (first.froms k d within) in
                  absurd (omega (arith, ends, here, same)));
            };
      }

  -- ---- a function from i to p, whose block ends at o

  closed_at : (l o p : ℕ) → p ≡ o + 1 → Opened toks all p → rank all o < rank all p
  closed_at l o p next (inl first) = absurd (omega (arith, next, first))
  closed_at l o p next (inr b) =
      let at : o ≡ b.before = let h = b.next in omega (arith, next, h) in
      let above : rank all b.before < rank all p = (ranks_in_order all b.before p b.solid.kept).0 (let h = b.next in omega (arith, h)) in
      let same : rank all o ≡ rank all b.before = ap (rank all) at in
      omega (arith, above, same)

  pub function_round : (i l o p : ℕ) (vararg : Bool) (names os : List Occurrence) → p ≡ o + 1 → Ends 1 i l (Function i p vararg ∷ names) → Ends 0 l o os → Ends 1 i p (Function i p vararg ∷ (names ++ os))
  function_round i l o p vararg names os next first block =
      let low = first.on in let high = block.on in
      record {
        on = omega (arith, low, high, next);
        told = λ given.
            let opened = All-head (Sound toks all) (Function i p vararg) (names ++ os) given in
            let above = closed_at l o p next opened.1 in
            joined_locals 1 i l p (Function i p vararg ∷ names) os low (omega (arith, high, next)) (first.told (all_left (Sound toks all) (Function i p vararg ∷ names) os given))
            (more_locals 0 1 l l o p os (omega arith) (omega (arith, above)) (block.told (all_right (Sound toks all) (Function i p vararg ∷ names) os given)));
      }
