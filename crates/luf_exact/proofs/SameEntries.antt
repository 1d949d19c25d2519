-- Lists of tokens that agree before a place have the same entries there.
use Rattle.std.proofs.Common.{◌≡◌, ℕ, zero, suc, ◌<◌, ◌≤◌, ◌⊎◌, inl, inr, List, [], ◌∷◌, ◌++◌, length, refl, sym, ap, ◌∙◌, subst, arith}
use Rattle.std.specs.Prelude.{Contains}
use Rattle.std.proofs.lemmas.Option.{slice_get_within, same_Some}
use Rattle.std.proofs.lemmas.List.Elements.{Contains-append_left, Contains-append_right, Contains-append_cases}
use Rattle.luf_lex.specs.declared.token.Tok.{Tok}
use Rattle.luf_tree.specs.declared.tree.Chunk.{Chunk}
use Rattle.luf_tree.specs.Agree.{AgreeBefore}
use Rattle.luf_tree.specs.Entry.{Entry, entries}
use Rattle.luf_tree.specs.Grammar.{IsChunk}
use Rattle.luf_exact.proofs.Nesting.{Nest, Hold, Move, stays, settles, softens, lone, enters, enters_two, settles_enters, closes, braces, turns, emits, move, next, Runs, halt, go}
use Rattle.luf_exact.proofs.NestingRuns.{block_runs}

in_none : {e : Entry} → Contains [] e → ⊥
in_none (k, within, is) = omega arith

in_one : {e x : Entry} → Contains (x ∷ []) e → x ≡ e
in_one (zero, within, is) = is
in_one (suc k, within, is) = absurd (omega arith)

in_two : {e x y : Entry} → Contains (x ∷ y ∷ []) e → (x ≡ e) ⊎ (y ≡ e)
in_two (zero, within, is) = inl is
in_two (suc zero, within, is) = inr is
in_two (suc (suc k), within, is) = absurd (omega arith)

-- a token enters its levels at its own place
emitted : (m : Move) (i : ℕ) (s : List Hold) {e : Entry} → Contains (emits m i s) e → i ≡ e.token
emitted (stays b) i s h = absurd (in_none h)
emitted (settles b) i s h = absurd (in_none h)
emitted softens i s h = ap (λ (e : Entry). e.token) (in_one h)
emitted lone i s h = ap (λ (e : Entry). e.token) (in_one h)
emitted (enters b) i s h = ap (λ (e : Entry). e.token) (in_one h)
emitted enters_two i s {e} h = either (in_two h) refl refl
  where
    either : {x y : Entry} → (x ≡ e) ⊎ (y ≡ e) → x.token ≡ i → y.token ≡ i → i ≡ e.token
    either (inl a) p q = sym p ∙ ap (λ (e : Entry). e.token) a
    either (inr a) p q = sym q ∙ ap (λ (e : Entry). e.token) a
emitted (settles_enters b) i s h = ap (λ (e : Entry). e.token) (in_one h)
emitted (closes b) i s h = absurd (in_none h)
emitted braces i s h = absurd (in_none h)
emitted turns i s h = ap (λ (e : Entry). e.token) (in_one h)

-- a run enters levels from its first place on
later : {toks : List Tok} {i k : ℕ} {n m : Nest} {es : List Entry} {e : Entry} → Runs toks i n k m es → Contains es e → i ≤ e.token
later halt h = absurd (in_none h)
later {e = e} (go {i = i} {j = j} {n = n} {t = t} {es = es} d r) h = either (Contains-append_cases (emits (move n.before t) i n.holds) es e h) (λ a. later r a)
  where
    either : Contains (emits (move n.before t) i n.holds) e ⊎ Contains es e → (Contains es e → j ≤ e.token) → i ≤ e.token
    either (inl a) rest = let b = emitted (move n.before t) i n.holds a in omega arith
    either (inr a) rest = let b = rest a in let c = d.next in omega arith

joined : {l : List Tok} {j k o : ℕ} {p : Nest} {t u : Tok} {fs : List Entry} {e : Entry} (i : ℕ) (n : Nest) (es : List Entry) → u ≡ t → k ≡ j → Runs l k (next n u) o p fs → (Runs l j (next n t) o p fs → Contains es e → Contains fs e)
    → Contains (emits (move n.before t) i n.holds ++ es) e → Contains (emits (move n.before u) i n.holds ++ fs) e
joined {l} {j} {k} {o} {p} {t} {u} {fs} {e} i n es same place b rest h = either (Contains-append_cases (emits (move n.before t) i n.holds) es e h)
  where
    either : Contains (emits (move n.before t) i n.holds) e ⊎ Contains es e → Contains (emits (move n.before u) i n.holds ++ fs) e
    either (inl a) = Contains-append_left (emits (move n.before u) i n.holds) fs e (subst (λ (v : Tok). Contains (emits (move n.before v) i n.holds) e) (sym same) a)
    either (inr a) =
        Contains-append_right (emits (move n.before u) i n.holds) fs e (rest (subst (λ (v : Tok). Runs l j (next n v) o p fs) same (subst (λ (q : ℕ). Runs l q (next n u) o p fs) place b)) a)

-- two runs from one place, the second up to the end of its tokens
agree_runs : {toks l : List Tok} {i k o place : ℕ} {n m p : Nest} {es fs : List Entry} {e : Entry} → AgreeBefore toks l place → length l ≡ o → e.token < place → Runs toks i n k m es → Runs l i n o p fs → Contains es e → Contains fs e
agree_runs agree end low halt r h = absurd (in_none h)
agree_runs {toks} {l} {e = e} agree end low (go {i = i} {t = t} d a) halt h =
    let from = later (go d a) h in
    let there = slice_get_within l i t (agree.same i (omega arith) ∙ d.there) in
    absurd (omega arith)
agree_runs {toks} {l} {e = e} agree end low (go {i = i} {n = n} {t = t} {es = es} d a) (go {t = u} c b) h =
    let from = later (go d a) h in
    let x = d.next in
    let y = c.next in
    joined i n es (same_Some u t (sym c.there ∙ agree.same i (omega arith) ∙ d.there)) (omega arith) b (λ r g. agree_runs agree end low a r g) h

pub same_entries : (toks other : List Tok) (chunk another : Chunk) (place : ℕ) → IsChunk toks chunk → IsChunk other another → AgreeBefore toks other place → (e : Entry) → e.token < place
    → Contains (entries chunk) e → Contains (entries another) e
same_entries toks other chunk another place d c agree e low h = let a = block_runs d in let b = block_runs c in agree_runs agree refl low a.runs b.runs h
