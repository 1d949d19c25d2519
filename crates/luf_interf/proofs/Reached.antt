-- How far the local variables are named, in the order in which their scopes begin.
use Rattle.std.proofs.Common.{◌≡◌, ℕ, ◌+◌, ◌<◌, ◌≤◌, true, List, [], ◌∷◌, ◌++◌, length, get_or, set, drop, All, refl, sym, ap, subst, ◌∙◌, arith, append_assoc, get_or-set_other}
use Rattle.std.proofs.lemmas.List.{length-set, length-append, drop_more, get_or_default}
use Rattle.std.proofs.lemmas.List.Elements.{All-nil, All-append, All-weaker}
use Rattle.std.proofs.lemmas.Bool.{false_from_ne_true}
use Rattle.luf_interf.specs.declared.uses.Use.{Use}
use Rattle.luf_interf.specs.declared.uses.Scope.{Scope}
use Rattle.luf_interf.specs.inner.Uses.{nowhere, is_of, next_of, IsChoice, IsPassed, IsScope, AreScopes, AreNamed, name_next}
use Rattle.luf_interf.specs.inner.Among.{Among, here, there}
use Rattle.luf_interf.proofs.Among.{all_among, all_from}
use Rattle.luf_interf.proofs.Choice.{behind_all}
use Rattle.luf_interf.proofs.Nexts.{next_behind}

front_all : {X : Type 0} {x : X} {xs : List X} (ys : List X) → Among x xs → Among x (xs ++ ys)
front_all ys here = here
front_all ys (there m) = there (front_all ys m)

module _ (size : ℕ) (uses : List Use) (start firsts : List ℕ) (scopes : List Scope) where
  -- so many are named, and what is passed stands before all others
  pub record IsReached (i : ℕ) (names behind : List ℕ) (rest : List Use) : Type 0 where
    pub done : List Use
    pub whole : done ++ rest ≡ uses
    pub before : (j : ℕ) (d : Scope) → i ≤ j → j < length scopes → All (λ u. u.token < (get_or scopes j d).from) done
    pub unnamed : (j : ℕ) (d : Scope) → i ≤ j → j < length scopes → get_or names (get_or scopes j d).local nowhere ≡ nowhere
    pub count : length names ≡ length start
    pub also : length behind ≡ length start
    pub goes_on : (final : List ℕ) → AreNamed size uses names (drop i scopes) final → AreNamed size uses start scopes final

  -- what is asked where one is named
  pub record IsReady (s : Scope) (rest : List Use) : Type 0 where
    pub inside : All (λ u. is_of s.local u ≡ true → u.token < s.to) rest
    pub first : get_or firsts s.local nowhere ≡ next_of (is_of s.local) rest
    pub few : length rest ≤ length uses

  module _ (are : AreScopes uses start firsts scopes) where
    pub reached_first : (behind : List ℕ) → length behind ≡ length start → IsReached 0 start behind uses
    reached_first behind also = record {
      done = [];
      whole = refl;
      before = λ j d _ below. All-nil (λ u. u.token < (get_or scopes j d).from);
      unnamed = λ j d _ below. (are.each j d below).unnamed;
      count = refl;
      also = also;
      goes_on = λ final run. run;
    }

    module _ (i : ℕ) (names behind : List ℕ) (rest : List Use) (reached : IsReached i names behind rest) (s : Scope) (below : i < length scopes) (is : s ≡ get_or scopes i s) (after : List Use) (passed : IsPassed s.from rest after) where
      done : List Use
      done = reached.done ++ passed.done

      whole : done ++ after ≡ uses
      unfolding done
      whole = append_assoc reached.done passed.done after ∙ ap (λ us. reached.done ++ us) passed.whole ∙ reached.whole

      scope : IsScope uses start firsts s
      scope = subst (IsScope uses start firsts) (sym is) (are.each i s below)

      all_before : All (λ u. u.token < s.from) done
      unfolding done
      all_before = All-append (λ u. u.token < s.from) reached.done passed.done (subst (λ t. All (λ u. u.token < t.from) reached.done) (sym is) (reached.before i s (omega arith) below)) passed.before

      pub ready : IsReady s after
      ready =
          let in_all = λ (u : Use) (m : Among u after). subst (λ us. Among u us) whole (behind_all done m) in
          record {
            inside = all_from (λ u. is_of s.local u ≡ true → u.token < s.to) after (λ u m its. (all_among (λ w. is_of s.local w ≡ true → (s.from ≤ w.token) × (w.token < s.to)) uses u scope.holds (in_all u m) its).1);
            first = scope.first ∙ ap (next_of (is_of s.local)) (sym whole) ∙ next_behind (is_of s.local) done after (λ u m. false_from_ne_true (is_of s.local u) (λ its.
                let low = all_among (λ w. w.token < s.from) done u all_before m in
                let high = (all_among (λ w. is_of s.local w ≡ true → (s.from ≤ w.token) × (w.token < s.to)) uses u scope.holds (subst (λ us. Among u us) whole (front_all after m)) its).0 in
                omega (arith, low, high)));
            few = let a = length-append done after in let b = ap length whole in omega (arith, a, b);
          }

      pub unnamed_here : get_or names s.local nowhere ≡ nowhere
      unnamed_here = subst (λ t. get_or names t.local nowhere ≡ nowhere) (sym is) (reached.unnamed i s (omega arith) below)

      pub within_here : s.local < length names
      within_here = let w = scope.within in let n = reached.count in omega (arith, w, n)

      pub some_here : 0 < s.to
      some_here = scope.some

      pub reached_next : (k : ℕ) (now then : List ℕ) → k < size → ((d : List Use) → All (λ u. u.token < s.from) d → IsChoice (d ++ after) names s k) → now ≡ set names s.local k → length then ≡ length behind → IsReached (i + 1) now then after
      reached_next k now then small choice is_now same =
          record {
            done = done;
            whole = whole;
            before = λ j d next within.
                let order : s.from ≤ (get_or scopes j d).from = subst (λ t. t.from ≤ (get_or scopes j d).from) (get_or_default scopes i d s below ∙ sym is) (are.rising i j d (omega (arith, next)) within) in
                All-weaker (λ u. u.token < s.from) (λ u. u.token < (get_or scopes j d).from) (λ u less. omega (arith, less, order)) done all_before;
            unnamed = λ j d next within.
                let apart : s.local ≡ (get_or scopes j d).local → ⊥ = subst (λ t. t.local ≡ (get_or scopes j d).local → ⊥) (get_or_default scopes i d s below ∙ sym is) (are.apart i j d (omega (arith, next)) within) in
                ap (λ ns. get_or ns (get_or scopes j d).local nowhere) is_now ∙ get_or-set_other names s.local (get_or scopes j d).local k nowhere (λ e. apart (sym e)) ∙ reached.unnamed j d (omega (arith, next)) within;
            count = ap length is_now ∙ length-set names s.local k ∙ reached.count;
            also = same ∙ reached.also;
            goes_on = λ final run. reached.goes_on final (subst (λ ss. AreNamed size uses names ss final) (ap (λ t. t ∷ drop (i + 1) scopes) is ∙ sym (drop_more scopes i s below))
                (name_next small (subst (λ us. IsChoice us names s k) whole (choice done all_before)) (subst (λ ns. AreNamed size uses ns (drop (i + 1) scopes) final) is_now run)));
          }
