-- The cut of a source, piece by piece.
use Rattle.std.proofs.Common.{◌≡◌, ℕ, zero, suc, ◌+◌, ◌-◌, ◌<◌, ◌≤◌, ◌==◌, ◌⊎◌, inl, inr, Bool, true, false, cond, List, [], ◌∷◌, ◌++◌, length, take, drop, refl, sym, ap, ◌∙◌, subst, arith, append_assoc, one-add}
use Rattle.std.specs.Prelude.{Result, Ok, Err, IfErr, IsErrAnd}
use Rattle.std.specs.List.{prefix_len}
use Rattle.std.proofs.lemmas.Bool.{eqb-true, eq-eqb}
use Rattle.std.proofs.lemmas.List.{drop-drop}
use Rattle.luf_byte.specs.Class.{is_blank}
use Rattle.luf_byte.specs.Front.{begins}
use Rattle.luf_lex.specs.Cut.{Cuts, IsCause, head_of, head_end}
use Rattle.luf_lex.specs.First.{IsFirst}
use Rattle.luf_lex.specs.inner.Filled.{blank_between, filled, last_end}
use Rattle.luf_lex.specs.inner.Growing.{IsNext, IsFaultFrom}
use Rattle.luf_lex.specs.declared.fault.LexErr.{LexErr}
use Rattle.luf_lex.specs.declared.fault.LexErr.TheVariants.{Bad, Memory}
use Rattle.luf_lex.specs.declared.token.Kind.{Kind}
use Rattle.luf_lex.specs.declared.token.Kind.TheVariants.{Blank}
use Rattle.luf_lex.proofs.FilledLemmas.{filled_first, last_first}
use Rattle.luf_lex.proofs.PlainLemmas.{blank_group, blank_first}
use Rattle.luf_lex.proofs.RunLemmas.{tail_is}
use Rattle.luf_lex.specs.declared.token.Piece.{Piece}

-- one more piece
pub cuts_push : (source : List ℕ) (at : ℕ) (pieces : List Piece) (mid : ℕ) (p : Piece) → Cuts source at pieces mid → p.span.from ≡ mid → mid ≤ p.span.to → IsFirst (drop mid source) p.kind (p.span.to - mid) → Cuts source at (pieces ++ p ∷ []) p.span.to
cuts_push source at [] mid p cut from more first =
    (from ∙ sym cut, omega arith, subst (λ i. IsFirst (drop i source) p.kind (p.span.to - p.span.from)) (sym cut) (subst (λ i. IsFirst (drop mid source) p.kind (p.span.to - i)) (sym from) first), refl)
cuts_push source at (q ∷ pieces) mid p cut from more first =
    (cut.0, cut.1, cut.2, cuts_push source q.span.to pieces mid p cut.3 from more first)

-- the same for the next piece of a walk
pub cuts_next : (source : List ℕ) (head : ℕ) (pieces : List Piece) (at n : ℕ) (p : Piece) → Cuts source head pieces at → p.span.from ≡ at → p.span.to ≡ at + n → IsFirst (drop at source) p.kind n → Cuts source head (pieces ++ p ∷ []) (at + n)
cuts_next source head pieces at n p cut from to first =
    subst (λ i. Cuts source head (pieces ++ p ∷ []) i) to
    (cuts_push source head pieces at p cut from (omega (arith, to)) (subst (λ m. IsFirst (drop at source) p.kind m) (omega (arith, to)) first))

cuts_join : (source : List ℕ) (at : ℕ) (pieces : List Piece) (mid : ℕ) (more : List Piece) (to : ℕ) → Cuts source at pieces mid → Cuts source mid more to → Cuts source at (pieces ++ more) to
cuts_join source at [] mid more to cut rest = subst (λ i. Cuts source i more to) (sym cut) rest
cuts_join source at (q ∷ pieces) mid more to cut rest = (cut.0, cut.1, cut.2, cuts_join source q.span.to pieces mid more to cut.3 rest)

-- ---- blanks
run_begins : (p : ℕ → Bool) (text : List ℕ) → 0 < prefix_len p text → begins p text ≡ true
run_begins p [] some = absurd (omega arith)
run_begins p (b ∷ text) some = by_test (p b) refl some
  where
    by_test : (v : Bool) → p b ≡ v → 0 < cond v (1 + prefix_len p text) 0 → p b ≡ true
    by_test true e h = e
    by_test false e h = absurd (omega arith)

run_stops : (p : ℕ → Bool) (text : List ℕ) → begins p (drop (prefix_len p text) text) ≡ false
run_stops p [] = refl
run_stops p (b ∷ text) = by_test (p b) refl (run_stops p text)
  where
    by_test : (v : Bool) → p b ≡ v → begins p (drop (prefix_len p text) text) ≡ false → begins p (drop (cond v (1 + prefix_len p text) 0) (b ∷ text)) ≡ false
    by_test true e h = rw one-add h
    by_test false e h = e

no_both : (b : Bool) → b ≡ true → b ≡ false → ⊥
no_both b yea nay = cc

apart_some : (a b : ℕ) → (a == a + b) ≡ false → 0 < b
apart_some a zero e = absurd (no_both (a == a + 0) (eq-eqb a (a + 0) (omega arith)) e)
apart_some a (suc b) e = omega arith

-- the blanks that a source has at a place, if any
pub blanks_cut : (source : List ℕ) (at n : ℕ) → n ≡ prefix_len is_blank (take (length source - at) (drop at source)) → Cuts source at (blank_between at (at + n)) (at + n)
blanks_cut source at n is = by_test (at == at + n) refl
  where
    run : n ≡ prefix_len is_blank (drop at source)
    run = is ∙ ap (prefix_len is_blank) (tail_is source at)

    by_test : (v : Bool) → (at == at + n) ≡ v → Cuts source at (cond v [] (record { kind = Blank; span = record { from = at; to = at + n } } ∷ [])) (at + n)
    by_test true e = eqb-true at (at + n) e
    by_test false e =
        let some : 0 < n = apart_some at n e in
        let blank : begins is_blank (drop at source) ≡ true = run_begins is_blank (drop at source) (omega (arith, run)) in
        (refl, omega arith, subst (λ m. IsFirst (drop at source) Blank m) (omega arith) (blank_first (drop at source) n (blank_group (drop at source) blank) blank run), refl)

pub blanks_stop : (source : List ℕ) (at n : ℕ) → n ≡ prefix_len is_blank (take (length source - at) (drop at source)) → begins is_blank (drop (at + n) source) ≡ false
blanks_stop source at n is =
    ap (begins is_blank) (sym (drop-drop n at source)) ∙ ap (λ m. begins is_blank (drop m (drop at source))) (is ∙ ap (prefix_len is_blank) (tail_is source at)) ∙ run_stops is_blank (drop at source)

-- ---- one more piece
pub pushed_first : (source : List ℕ) (at : ℕ) (kind : Kind) (n : ℕ) → IsFirst (take (length source - at) (drop at source)) kind n → IsFirst (drop at source) kind (at + n - at)
pushed_first source at kind n first = subst (λ m. IsFirst (drop at source) kind m) (omega arith) (subst (λ t. IsFirst t kind n) (tail_is source at) first)

-- The pieces so far with their blanks are the source so far. They end where it does, unless it is all.
pub record IsCutSoFar (source : List ℕ) (at : ℕ) (pieces : List Piece) : Type 0 where
  pub rest : List Piece
  pub all : filled 0 pieces at ≡ head_of source ++ rest
  pub cut : Cuts source (head_end source) rest at
  pub last : (last_end 0 pieces ≡ at) ⊎ (at ≡ length source)

pub cut_more : (source : List ℕ) (at end : ℕ) (old new : List Piece) → at < length source → IsNext source at end old new → IsCutSoFar source at old → IsCutSoFar source end new
cut_more source at end old new inside next so_far = by_last so_far.last next.last
  where
    ended : last_end 0 old ≡ at → (last_end at next.more ≡ end) ⊎ (end ≡ length source) → (last_end 0 new ≡ end) ⊎ (end ≡ length source)
    ended e (inl h) = inl (ap (last_end 0) next.pieces ∙ last_first 0 old next.more ∙ ap (λ i. last_end i next.more) e ∙ h)
    ended e (inr h) = inr h

    by_last : (last_end 0 old ≡ at) ⊎ (at ≡ length source) → (last_end at next.more ≡ end) ⊎ (end ≡ length source) → IsCutSoFar source end new
    by_last (inr e) last = absurd (omega arith)
    by_last (inl e) last = record {
      rest = so_far.rest ++ filled at next.more end;
      all =
          ap (λ ps. filled 0 ps end) next.pieces ∙ filled_first 0 old next.more at end e
          ∙ ap (λ ps. ps ++ filled at next.more end) so_far.all ∙ append_assoc (head_of source) so_far.rest (filled at next.more end);
      cut = cuts_join source (head_end source) so_far.rest at (filled at next.more end) end so_far.cut next.cut;
      last = ended e last;
    }

pub cut_fault : (source : List ℕ) (at : ℕ) (pieces : List Piece) (e : LexErr) → IsFaultFrom source at e → IsCutSoFar source at pieces → IsCause source e
cut_fault source at pieces (Bad place what) fault so_far = record {
  inside = fault.0;
  pieces = so_far.rest ++ blank_between at place;
  before = cuts_join source (head_end source) so_far.rest at (blank_between at place) place so_far.cut fault.1;
  fault = fault.2;
}
cut_fault source at pieces Memory fault so_far = tt

pub cut_passed : {T : Type 0} (source : List ℕ) (at : ℕ) (pieces : List Piece) (r : Result T LexErr) (e : LexErr) → IsErrAnd r (λ x. x ≡ e) → IsFaultFrom source at e → IsCutSoFar source at pieces → IfErr r (IsCause source)
cut_passed source at pieces (Ok x) e is fault so_far = tt
cut_passed source at pieces (Err x) e is fault so_far = subst (IsCause source) (sym is) (cut_fault source at pieces e fault so_far)
