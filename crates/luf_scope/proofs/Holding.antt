-- How the blocks of the labels of a part lie, from how those of its parts do.
use Rattle.std.proofs.Common.{◌≡◌, ℕ, ◌<◌, ◌≤◌, ◌⊎◌, Bool, true, false, List, [], ◌∷◌, ◌++◌, All, get_or, refl, sym, ◌∙◌, arith, inl, inr, ⊎_elim, true≢false}
use Rattle.std.proofs.lemmas.List.Elements.{All-cons, All-nil, All-append, All-weaker}
use Rattle.luf_scope.specs.declared.occurrence.Occurrence.{Occurrence}
use Rattle.luf_scope.specs.declared.occurrence.Occurrence.TheVariants.{Function, Label}
use Rattle.luf_scope.specs.Order.{place, is_label, block_from, block_to, StandsInBlock}
use Rattle.luf_scope.specs.Nesting.{is_function, function_from, function_to, AreNestedBlocks}

-- a label of a part from a to e in a block from f to t: that block holds it, or one in the part
pub record LabelIn (f t a e : ℕ) (u : Occurrence) : Type 0 where
  pub low : a ≤ place u
  pub high : place u < e
  pub own : StandsInBlock u
  pub block : ((block_from u ≡ f) × (block_to u ≡ t)) ⊎ ((a ≤ block_from u) × (block_to u ≤ e))

pub record FunctionIn (a e : ℕ) (u : Occurrence) : Type 0 where
  pub low : a ≤ function_from u
  pub high : function_to u ≤ e

pub record HoldsIn (f t a e : ℕ) (u : Occurrence) : Type 0 where
  pub label : is_label u ≡ true → LabelIn f t a e u
  pub function : is_function u ≡ true → FunctionIn a e u

pub record Blocks (f t a e : ℕ) (os : List Occurrence) : Type 0 where
  pub low : f ≤ a
  pub on : a ≤ e
  pub high : e ≤ t
  pub each : All (HoldsIn f t a e) os
  pub pairs : All (λ u. All (AreNestedBlocks u) os) os

-- of any two, from the first ones, the last ones, and those across
square_append : {X : Type 0} (R : X → X → Type 0) (xs ys : List X) → All (λ x. All (R x) xs) xs → All (λ y. All (R y) ys) ys → All (λ x. All (λ y. R x y × R y x) ys) xs
    → All (λ x. All (R x) (xs ++ ys)) (xs ++ ys)
square_append R xs ys first second across =
    All-append (λ x. All (R x) (xs ++ ys)) xs ys
    (λ k d within. All-append (R (get_or xs k d)) xs ys (first k d within) (λ j e inside. (across k d within j e inside).0))
    (λ k d within. All-append (R (get_or ys k d)) xs ys (λ j e inside. (across j e inside k d within).1) (second k d within))

-- ---- larger parts

label_more : (f t a b e c : ℕ) (u : Occurrence) → a ≤ b → e ≤ c → LabelIn f t b e u → LabelIn f t a c u
label_more f t a b e c u down up w =
    record {
      low = let h = w.low in omega (arith, h);
      high = let h = w.high in omega (arith, h);
      own = w.own;
      block = ⊎_elim (λ (h : (block_from u ≡ f) × (block_to u ≡ t)). inl h) (λ (h : (b ≤ block_from u) × (block_to u ≤ e)). let x = h.0 in let y = h.1 in inr (omega (arith, x), omega (arith, y))) w.block;
    }

pub wider : (f t a b e c : ℕ) (os : List Occurrence) → f ≤ a → a ≤ b → e ≤ c → c ≤ t → Blocks f t b e os → Blocks f t a c os
wider f t a b e c os low down up high l =
    record {
      low = low;
      on = let h = l.on in omega (arith, h);
      high = high;
      each = All-weaker (HoldsIn f t b e) (HoldsIn f t a c) (λ u w. record { label = λ is. label_more f t a b e c u down up (w.label is); function = λ is. let x = (w.function is).low in let y = (w.function is).high in record { low = omega (arith, x); high = omega (arith, y) } }) os l.each;
      pairs = l.pairs;
    }

label_out : (f t a e : ℕ) (u : Occurrence) → LabelIn a e a e u → LabelIn f t a e u
label_out f t a e u w =
    record {
      low = w.low;
      high = w.high;
      own = w.own;
      block = ⊎_elim (λ (h : (block_from u ≡ a) × (block_to u ≡ e)). let x = h.0 in let y = h.1 in inr (omega (arith, x), omega (arith, y))) (λ (h : (a ≤ block_from u) × (block_to u ≤ e)). inr h) w.block;
    }

-- a block, in another
pub out : (f t a e : ℕ) (os : List Occurrence) → f ≤ a → e ≤ t → Blocks a e a e os → Blocks f t a e os
out f t a e os low high l =
    record {
      low = low;
      on = l.on;
      high = high;
      each = All-weaker (HoldsIn a e a e) (HoldsIn f t a e) (λ u w. record { label = λ is. label_out f t a e u (w.label is); function = w.function }) os l.each;
      pairs = l.pairs;
    }

-- ---- one after another

-- what the block round a label of the part reaches
label_within : (f t a e : ℕ) (u : Occurrence) → f ≤ a → e ≤ t → LabelIn f t a e u → (f ≤ block_from u) × (block_to u ≤ t)
label_within f t a e u low high w =
    ⊎_elim (λ (h : (block_from u ≡ f) × (block_to u ≡ t)). let x = h.0 in let y = h.1 in (omega (arith, x), omega (arith, y)))
    (λ (h : (a ≤ block_from u) × (block_to u ≤ e)). let x = h.0 in let y = h.1 in (omega (arith, x), omega (arith, y))) w.block

-- a label, and what is behind its part
later_nested : (f t a m e : ℕ) (u v : Occurrence) → f ≤ a → a ≤ m → m ≤ e → e ≤ t → HoldsIn f t a m u → HoldsIn f t m e v → AreNestedBlocks u v
later_nested f t a m e u v low on more high hu hv =
    record {
      block = λ lu lv from to.
          let uw = hu.label lu in let vw = hv.label lv in let k = uw.high in let reach = label_within f t a m u low (omega arith) uw in let x = reach.0 in let y = reach.1 in
          ⊎_elim (λ (h : (block_from v ≡ f) × (block_to v ≡ t)). let p = h.0 in let q = h.1 in (omega (arith, p, x), omega (arith, q, y)))
          (λ (h : (m ≤ block_from v) × (block_to v ≤ e)). let p = h.0 in absurd (omega (arith, p, k, from))) vw.block;
      function = λ lu fv from to. let k = (hu.label lu).high in let p = (hv.function fv).low in absurd (omega (arith, p, k, from));
      apart = λ lu lv below.
          let uw = hu.label lu in let vw = hv.label lv in let k = uw.high in let s = uw.own.begun in let reach = label_within f t a m u low (omega arith) uw in let y = reach.1 in
          ⊎_elim (λ (h : (block_from v ≡ f) × (block_to v ≡ t)). let q = h.1 in inl (omega (arith, q, y)))
          (λ (h : (m ≤ block_from v) × (block_to v ≤ e)). let p = h.0 in absurd (omega (arith, p, k, s, below))) vw.block;
    }

-- a label, and what is before its part
earlier_nested : (f t a m e : ℕ) (u v : Occurrence) → f ≤ a → a ≤ m → m ≤ e → e ≤ t → HoldsIn f t a m u → HoldsIn f t m e v → AreNestedBlocks v u
earlier_nested f t a m e u v low on more high hu hv =
    record {
      block = λ lv lu from to.
          let uw = hu.label lu in let vw = hv.label lv in let k = vw.low in let reach = label_within f t m e v (omega arith) high vw in let x = reach.0 in let y = reach.1 in
          ⊎_elim (λ (h : (block_from u ≡ f) × (block_to u ≡ t)). let p = h.0 in let q = h.1 in (omega (arith, p, x), omega (arith, q, y)))
          (λ (h : (a ≤ block_from u) × (block_to u ≤ m)). let q = h.1 in absurd (omega (arith, q, k, to))) uw.block;
      function = λ lv fu from to. let k = (hv.label lv).low in let q = (hu.function fu).high in absurd (omega (arith, q, k, to));
      apart = λ lv lu below.
          let uw = hu.label lu in let vw = hv.label lv in let reach = label_within f t m e v (omega arith) high vw in let y = reach.1 in
          ⊎_elim (λ (h : (block_from u ≡ f) × (block_to u ≡ t)). let q = h.1 in inl (omega (arith, q, y)))
          (λ (h : (a ≤ block_from u) × (block_to u ≤ m)). let p = h.0 in let q = h.1 in
          ⊎_elim (λ (g : (block_from v ≡ f) × (block_to v ≡ t)). let r = g.0 in absurd (omega (arith, p, r, low, below)))
          (λ (g : (m ≤ block_from v) × (block_to v ≤ e)). let r = g.0 in inr (omega (arith, q, r))) vw.block) uw.block;
    }

pub joins : (f t a m e : ℕ) (xs ys : List Occurrence) → Blocks f t a m xs → Blocks f t m e ys → Blocks f t a e (xs ++ ys)
joins f t a m e xs ys first second =
    let low = first.low in let on = first.on in let more = second.on in let high = second.high in
    record {
      low = low;
      on = omega (arith, on, more);
      high = high;
      each = All-append (HoldsIn f t a e) xs ys (wider f t a a m e xs low (omega arith) more high first).each (wider f t a m e e ys low on (omega arith) high second).each;
      pairs = square_append AreNestedBlocks xs ys first.pairs second.pairs (λ k d within j i inside. (
        later_nested f t a m e (get_or xs k d) (get_or ys j i) low on more high (first.each k d within) (second.each j i inside),
        earlier_nested f t a m e (get_or xs k d) (get_or ys j i) low on more high (first.each k d within) (second.each j i inside),
      ));
    }

pub nothing : (f t a e : ℕ) → f ≤ a → a ≤ e → e ≤ t → Blocks f t a e []
nothing f t a e low on high = record { low = low; on = on; high = high; each = All-nil (HoldsIn f t a e); pairs = All-nil (λ u. All (AreNestedBlocks u) []) }

-- ---- what is no label and no function

pub record IsSilent (u : Occurrence) : Type 0 where
  pub no_label : is_label u ≡ false
  pub no_function : is_function u ≡ false

silent_label : (u : Occurrence) → IsSilent u → is_label u ≡ true → ⊥
silent_label u s is = true≢false (sym is ∙ s.no_label)

silent_function : (u : Occurrence) → IsSilent u → is_function u ≡ true → ⊥
silent_function u s is = true≢false (sym is ∙ s.no_function)

from_silent : (u v : Occurrence) → IsSilent u → AreNestedBlocks u v
from_silent u v s = record { block = λ is _ _ _. absurd (silent_label u s is); function = λ is _ _ _. absurd (silent_label u s is); apart = λ is _ _. absurd (silent_label u s is) }

to_silent : (u v : Occurrence) → IsSilent v → AreNestedBlocks u v
to_silent u v s = record { block = λ _ is _ _. absurd (silent_label v s is); function = λ _ is _ _. absurd (silent_function v s is); apart = λ _ is _. absurd (silent_label v s is) }

square_one : (u : Occurrence) → AreNestedBlocks u u → All (λ x. All (AreNestedBlocks x) (u ∷ [])) (u ∷ [])
square_one u h = All-cons (λ x. All (AreNestedBlocks x) (u ∷ [])) u [] (All-cons (AreNestedBlocks u) u [] h (All-nil (AreNestedBlocks u))) (All-nil (λ x. All (AreNestedBlocks x) (u ∷ [])))

pub silent_alone : (f t a e : ℕ) (u : Occurrence) → f ≤ a → a ≤ e → e ≤ t → IsSilent u → Blocks f t a e (u ∷ [])
silent_alone f t a e u low on high s =
    record {
      low = low;
      on = on;
      high = high;
      each = All-cons (HoldsIn f t a e) u [] (record { label = λ is. absurd (silent_label u s is); function = λ is. absurd (silent_function u s is) }) (All-nil (HoldsIn f t a e));
      pairs = square_one u (from_silent u u s);
    }

-- ---- a label, and a function

pub label_alone : (f t a e n : ℕ) (at_end : Bool) → f ≤ a → a ≤ n → n < e → e ≤ t → Blocks f t a e (Label n f t at_end ∷ [])
label_alone f t a e n at_end low here more high =
    record {
      low = low;
      on = omega (arith, here, more);
      high = high;
      each = All-cons (HoldsIn f t a e) (Label n f t at_end) []
          (record { label = λ _. record { low = here; high = more; own = record { begun = omega (arith, low, here); ends = omega (arith, more, high) }; block = inl (refl, refl) }; function = λ is. absurd cc }) (All-nil (HoldsIn f t a e));
      pairs = square_one (Label n f t at_end) (record { block = λ _ _ _ _. (omega arith, omega arith); function = λ _ is _ _. absurd cc; apart = λ _ _ below. absurd (omega (arith, below)) });
    }

-- a function from i to p with its body's block, from l to o
pub function_round : (i l o p : ℕ) (vararg : Bool) (os : List Occurrence) → i < l → o ≤ p → Blocks l o l o os → Blocks i p i p (Function i p vararg ∷ os)
function_round i l o p vararg os behind up body =
    let on = body.on in
    let all = wider i p i l o p os (omega arith) (omega (arith, behind)) up (omega arith) (out i p l o os (omega (arith, behind)) up body) in
    record {
      low = omega arith;
      on = omega (arith, on, behind, up);
      high = omega arith;
      each = All-cons (HoldsIn i p i p) (Function i p vararg) os (record { label = λ is. absurd cc; function = λ _. record { low = omega arith; high = omega arith } }) all.each;
      pairs = square_append AreNestedBlocks (Function i p vararg ∷ []) os
          (square_one (Function i p vararg) (record { block = λ is _ _ _. absurd cc; function = λ is _ _ _. absurd cc; apart = λ is _ _. absurd cc }))
          body.pairs
          (All-cons (λ x. All (λ y. AreNestedBlocks x y × AreNestedBlocks y x) os) (Function i p vararg) []
          (λ k d within. (record { block = λ is _ _ _. absurd cc; function = λ is _ _ _. absurd cc; apart = λ is _ _. absurd cc }, in_function i l o p vararg (get_or os k d) behind up (body.each k d within)))
          (All-nil (λ x. All (λ y. AreNestedBlocks x y × AreNestedBlocks y x) os)));
    }
  where
    in_function : (i l o p : ℕ) (vararg : Bool) (u : Occurrence) → i < l → o ≤ p → HoldsIn l o l o u → AreNestedBlocks u (Function i p vararg)
    in_function i l o p vararg u behind up h =
        record {
          block = λ _ is _ _. absurd cc;
          function = λ is _ _ _. let reach = label_within l o l o u (omega arith) (omega arith) (h.label is) in let x = reach.0 in let y = reach.1 in (omega (arith, behind, x), omega (arith, up, y));
          apart = λ _ is _. absurd cc;
        }
