-- When a source has a minified text, and which, and when it has a cause of a refusal, and which.
use Rattle.std.proofs.Common.{◌≡◌, ◌≢◌, ◌⊎◌, inl, inr, ℕ, ◌<◌, ◌≤◌, Option, Some, None, List, Ok, Err, length, map, refl, sym, ap, ◌∙◌, subst, arith}
use Rattle.std.specs.Prelude.{Result, IfErr, IsErrAnd, slice_get}
use Rattle.std.specs.Option.{option_map, unwrap_or}
use Rattle.std.proofs.lemmas.Option.{unwrap_or-slice_get, slice_get-map}
use Rattle.luf_text.specs.Place.{place_in}
use Rattle.luf_text.specs.declared.Span.{Span}
use Rattle.luf_text.specs.declared.place.Place.{Place}
use Rattle.luf_lex.specs.Tokens.{toks_of, spans_of}
use Rattle.luf_lex.specs.declared.fault.LexWhat.{LexWhat}
use Rattle.luf_lex.specs.declared.token.Piece.{Piece}
use Rattle.luf_lex.proofs.OneCut.{one_cut, cut_excludes_fault, one_fault}
use Rattle.luf_tree.specs.declared.tree.Chunk.{Chunk}
use Rattle.luf_tree.specs.Grammar.{IsChunk}
use Rattle.luf_descent.specs.declared.error.ParseErr.{ParseErr}
use Rattle.luf_descent.specs.declared.error.ParseErr.TheVariants as error
use Rattle.luf_exact.specs.Exact.{IsExactCause}
use Rattle.luf_exact.proofs.ExactLaws.{cause_no_tree, one_cause}
use Rattle.luf_work.specs.Limits.{source_limit}
use Rattle.luf_min.specs.Minified.{IsMinified}
use Rattle.luf_min.proofs.OneText.{one_minified}
use Rattle.luf_work.specs.Minify.{IsMinifyAccepted, HasLargeText, IsMinifyRefusal}
use Rattle.luf_parse.proofs.OneTree.{one_tree}
use Rattle.luf_scope.specs.Fault.{first_fault, first_of, jump_faults}
use Rattle.luf_scope.specs.Links.{NameTable, spelling_in, occurrences_of}
use Rattle.luf_scope.specs.declared.jump.JumpRole.{JumpRole}
use Rattle.luf_scope.specs.declared.fault.ScopeBad.{ScopeBad}
use Rattle.luf_scope.specs.declared.fault.ScopeWhat.{ScopeWhat}
use Rattle.luf_work.specs.Refusals.{start_of, IsLexicalAt, HasNoTreeAt, HasScopeFaultAt, IsSourceRefusal}
use Rattle.luf_resolved.specs.Source.{IsSource, scope_fault_of}
use Rattle.luf_work.specs.Source.{IsAccepted}
use Rattle.luf_work.specs.inner.Read.{IsRead, AreFoundNames, AreFoundJumps}
use Rattle.luf_work.specs.declared.source.ReadSource.{ReadSource}
use Rattle.luf_work.specs.declared.refusal.Refusal.{Refusal}
use Rattle.luf_work.specs.declared.refusal.Refusal.TheVariants.{TooLarge, Lexical, Syntax, TooDeep, Scope, Chunk as BadChunk, ResultTooLarge, Memory}
use Rattle.luf_work.proofs.Answered.{answered_by, told_by, passed_by, passed_on_by}

-- where a token starts, by its span
pub start_is : (source : List ℕ) (pieces : List Piece) (token : ℕ) (o : Option Span) → o ≡ slice_get (spans_of pieces) token → unwrap_or (option_map (λ s. s.from) o) (length source) ≡ start_of source pieces token
start_is source pieces token o e =
    ap (λ x. unwrap_or (option_map (λ (s : Span). s.from) x) (length source)) e
    ∙ ap (λ x. unwrap_or x (length source)) (sym (slice_get-map (λ (s : Span). s.from) (spans_of pieces) token))
    ∙ unwrap_or-slice_get (map (λ (s : Span). s.from) (spans_of pieces)) token (length source)

-- an accepted source, as it was read
pub accepted_of : (source : List ℕ) (a : ReadSource) → length source ≤ source_limit → IsRead source a → IsAccepted source
accepted_of source a within h = record { within = within; pieces = a.pieces; chunk = a.chunk; is = h.is; scopes = h.scopes }

-- the first fault of a source, where only jumps have one, only names, or both
pub fault_of_jumps : (source : List ℕ) (pieces : List Piece) (chunk : Chunk) {links : NameTable} {names : Result NameTable ScopeBad} {jumps : Result (List (ℕ × JumpRole)) ScopeBad} {jump bad : ScopeBad} → AreFoundNames source pieces chunk names
    → AreFoundJumps source pieces chunk jumps → names ≡ Ok links → jumps ≡ Err jump → bad ≡ jump → scope_fault_of source pieces chunk ≡ Some bad
fault_of_jumps source pieces chunk {links} {names} {jumps} {jump} {bad} n j named jumped is =
    let none = (subst (AreFoundNames source pieces chunk) named n).1 in
    let some = subst (AreFoundJumps source pieces chunk) jumped j in
    ap (λ o. first_of o (first_fault (jump_faults (spelling_in source pieces) (occurrences_of chunk)))) none ∙ some ∙ ap Some (sym is)

pub fault_of_names : (source : List ℕ) (pieces : List Piece) (chunk : Chunk) {marks : List (ℕ × JumpRole)} {names : Result NameTable ScopeBad} {jumps : Result (List (ℕ × JumpRole)) ScopeBad} {name bad : ScopeBad} → AreFoundNames source pieces chunk names
    → AreFoundJumps source pieces chunk jumps → names ≡ Err name → jumps ≡ Ok marks → bad ≡ name → scope_fault_of source pieces chunk ≡ Some bad
fault_of_names source pieces chunk {marks} {names} {jumps} {name} {bad} n j named jumped is =
    let some = subst (AreFoundNames source pieces chunk) named n in
    let none = (subst (AreFoundJumps source pieces chunk) jumped j).1 in
    ap (λ o. first_of o (first_fault (jump_faults (spelling_in source pieces) (occurrences_of chunk)))) some ∙ ap (first_of (Some name)) none ∙ ap Some (sym is)

pub fault_of_both : (source : List ℕ) (pieces : List Piece) (chunk : Chunk) {names : Result NameTable ScopeBad} {jumps : Result (List (ℕ × JumpRole)) ScopeBad} {name jump bad first : ScopeBad} → AreFoundNames source pieces chunk names
    → AreFoundJumps source pieces chunk jumps → names ≡ Err name → jumps ≡ Err jump → bad ≡ first → first_of (Some name) (Some jump) ≡ Some first → scope_fault_of source pieces chunk ≡ Some bad
fault_of_both source pieces chunk {names} {jumps} {name} {jump} {bad} {first} n j named jumped is told =
    let some = subst (AreFoundNames source pieces chunk) named n in
    let other = subst (AreFoundJumps source pieces chunk) jumped j in
    ap (λ o. first_of o (first_fault (jump_faults (spelling_in source pieces) (occurrences_of chunk)))) some ∙ ap (first_of (Some name)) other ∙ told ∙ ap Some (sym is)

-- a source has one minified text at most
pub one_text : (source text other : List ℕ) → IsMinified source text → IsMinified source other → text ≡ other
one_text source text other h g =
    let same : h.pieces ≡ g.pieces = one_cut source h.pieces g.pieces h.is.cut g.is.cut in
    one_minified source text other h g (one_tree (toks_of g.pieces) h.chunk g.chunk (subst (λ (ps : List Piece). IsChunk (toks_of ps) h.chunk) same h.is.tree) g.is.tree)

-- ---- the causes of a refusal by every job

-- a source with a tree has no lexical fault
fault_no_source : (source : List ℕ) (pieces : List Piece) (chunk : Chunk) (place : Place) (what : LexWhat) → IsLexicalAt source place what → IsSource source pieces chunk → ⊥
fault_no_source source pieces chunk place what h is = cut_excludes_fault source pieces h.at what is.cut h.fault

-- the words of the parser that name a token
abbrev NamesToken : (ℕ → ParseErr) → Type 0
NamesToken word = (token : ℕ) → word token ≢ error.Memory

syntax_names : NamesToken error.Syntax
syntax_names token e = cc

deep_names : NamesToken error.TooDeep
deep_names token e = cc

-- nor tokens without one
no_tree_no_source : (source : List ℕ) (pieces : List Piece) (chunk : Chunk) (word : ℕ → ParseErr) (place : Place) → NamesToken word → HasNoTreeAt source word place → IsSource source pieces chunk → ⊥
no_tree_no_source source pieces chunk word place names h is =
    let same : pieces ≡ h.pieces = one_cut source pieces h.pieces is.cut h.cut in
    cause_no_tree (toks_of h.pieces) (word h.token) chunk h.cause (names h.token) (subst (λ (ps : List Piece). IsChunk (toks_of ps) chunk) same is.tree) is.levels

-- nor an end of its cut
fault_no_tree : (source : List ℕ) (place : Place) (what : LexWhat) (word : ℕ → ParseErr) (place' : Place) → IsLexicalAt source place what → HasNoTreeAt source word place' → ⊥
fault_no_tree source place what word place' h g = cut_excludes_fault source g.pieces h.at what g.cut h.fault

-- a source has one cut and one tree, and so one first scope fault or none
pub one_scope_fault : (source : List ℕ) (pieces others : List Piece) (chunk other : Chunk) → IsSource source pieces chunk → IsSource source others other → scope_fault_of source pieces chunk ≡ scope_fault_of source others other
one_scope_fault source pieces others chunk other is is' =
    let same : pieces ≡ others = one_cut source pieces others is.cut is'.cut in
    ap (λ (ps : List Piece). scope_fault_of source ps chunk) same
    ∙ ap (scope_fault_of source others) (one_tree (toks_of others) chunk other (subst (λ (ps : List Piece). IsChunk (toks_of ps) chunk) same is.tree) is'.tree)

nothing_found : {A : Type 0} {o : Option A} {x : A} → o ≡ None → o ≡ Some x → ⊥
nothing_found {A} {o} {x} none some = let same : None ≡ Some x = sym none ∙ some in cc

-- an accepted source has no cause
pub source_not_refused : (source : List ℕ) (refusal : Refusal) → IsAccepted source → IsSourceRefusal source refusal → ⊥
source_not_refused source TooLarge a large = let within = a.within in omega (arith, large, within)
source_not_refused source (Lexical place what) a cause = fault_no_source source a.pieces a.chunk place what cause.1 a.is
source_not_refused source (Syntax place) a cause = no_tree_no_source source a.pieces a.chunk error.Syntax place syntax_names cause.1 a.is
source_not_refused source (TooDeep place) a cause = no_tree_no_source source a.pieces a.chunk error.TooDeep place deep_names cause.1 a.is
source_not_refused source (Scope place what) a cause =
    let h = cause.1 in
    nothing_found a.scopes (one_scope_fault source a.pieces h.pieces a.chunk h.chunk a.is h.is ∙ h.fault)
source_not_refused source (BadChunk at what) a cause = cause
source_not_refused source ResultTooLarge a cause = cause
source_not_refused source Memory a cause = cause

-- a source has one lexical fault at most, at one place
one_lexical : (source : List ℕ) (place : Place) (what : LexWhat) (place' : Place) (what' : LexWhat) → IsLexicalAt source place what → IsLexicalAt source place' what' → Lexical place what ≡ Lexical place' what'
one_lexical source place what place' what' h g =
    let same = one_fault source h.at g.at what what' h.fault g.fault in
    ap (λ (p : Place). Lexical p what) (h.place_is ∙ ap (place_in source) same.0 ∙ sym g.place_is) ∙ ap (λ (w : LexWhat). Lexical place' w) same.1

-- what tells an error of the parser
abbrev refusal_of : List ℕ → List Piece → ParseErr → Refusal
refusal_of source pieces (error.Syntax token) = Syntax (place_in source (start_of source pieces token))
refusal_of source pieces (error.TooDeep token) = TooDeep (place_in source (start_of source pieces token))
refusal_of source pieces error.Memory = Memory

-- and one exact cause of having no tree
one_no_tree : (source : List ℕ) (word other : ℕ → ParseErr) (place place' : Place) → NamesToken word → NamesToken other → (h : HasNoTreeAt source word place) → (g : HasNoTreeAt source other place')
    → refusal_of source h.pieces (word h.token) ≡ refusal_of source g.pieces (other g.token)
one_no_tree source word other place place' names also h g =
    let same : h.pieces ≡ g.pieces = one_cut source h.pieces g.pieces h.cut g.cut in
    let cause : IsExactCause (toks_of g.pieces) (word h.token) = subst (λ (ps : List Piece). IsExactCause (toks_of ps) (word h.token)) same h.cause in
    ap (λ (ps : List Piece). refusal_of source ps (word h.token)) same
    ∙ ap (refusal_of source g.pieces) (one_cause (toks_of g.pieces) (word h.token) (other g.token) cause g.cause (names h.token) (also g.token))

-- and one first scope fault
same_scope : (source : List ℕ) (place : Place) (what : ScopeWhat) (place' : Place) (what' : ScopeWhat) → HasScopeFaultAt source place what → HasScopeFaultAt source place' what' → Scope place what ≡ Scope place' what'
same_scope source place what place' what' h g =
    let pieces : h.pieces ≡ g.pieces = one_cut source h.pieces g.pieces h.is.cut g.is.cut in
    let fault : Some (record { token = h.token; what = what }) ≡ Some (record { token = g.token; what = what' }) = sym h.fault ∙ one_scope_fault source h.pieces g.pieces h.chunk g.chunk h.is g.is ∙ g.fault in
    let bad : ◌≡◌ {A = ScopeBad} (record { token = h.token; what = what }) (record { token = g.token; what = what' }) = cc fault in
    ap (λ (p : Place). Scope p what) (h.place_is ∙ ap (λ (ps : List Piece). place_in source (start_of source ps h.token)) pieces ∙ ap (λ (b : ScopeBad). place_in source (start_of source g.pieces b.token)) bad ∙ sym g.place_is)
    ∙ ap (λ (b : ScopeBad). Scope place' b.what) bad

-- a source that is too large has no other cause
large_only : (source : List ℕ) (other : Refusal) → source_limit < length source → IsSourceRefusal source other → TooLarge ≡ other
large_only source TooLarge h g = refl
large_only source (Lexical q v) h g = absurd (omega (arith, h, g.0))
large_only source (Syntax q) h g = absurd (omega (arith, h, g.0))
large_only source (TooDeep q) h g = absurd (omega (arith, h, g.0))
large_only source (Scope q v) h g = absurd (omega (arith, h, g.0))
large_only source (BadChunk at v) h g = absurd g
large_only source ResultTooLarge h g = absurd g
large_only source Memory h g = absurd g

-- nor has one with a lexical fault
lexical_only : (source : List ℕ) (place : Place) (what : LexWhat) (other : Refusal) → length source ≤ source_limit → IsLexicalAt source place what → IsSourceRefusal source other → Lexical place what ≡ other
lexical_only source p w TooLarge within h g = absurd (omega (arith, g, within))
lexical_only source p w (Lexical q v) within h g = one_lexical source p w q v h g.1
lexical_only source p w (Syntax q) within h g = absurd (fault_no_tree source p w error.Syntax q h g.1)
lexical_only source p w (TooDeep q) within h g = absurd (fault_no_tree source p w error.TooDeep q h g.1)
lexical_only source p w (Scope q v) within h g = absurd (fault_no_source source g.1.pieces g.1.chunk p w h g.1.is)
lexical_only source p w (BadChunk at v) within h g = absurd g
lexical_only source p w ResultTooLarge within h g = absurd g
lexical_only source p w Memory within h g = absurd g

-- nor one without a tree
no_tree_only : (source : List ℕ) (word : ℕ → ParseErr) (place : Place) (other : Refusal) → NamesToken word → length source ≤ source_limit → (h : HasNoTreeAt source word place) → IsSourceRefusal source other → refusal_of source h.pieces (word h.token) ≡ other
no_tree_only source word p TooLarge names within h g = absurd (omega (arith, g, within))
no_tree_only source word p (Lexical q v) names within h g = absurd (fault_no_tree source q v word p g.1 h)
no_tree_only source word p (Syntax q) names within h g = one_no_tree source word error.Syntax p q names syntax_names h g.1 ∙ sym (ap Syntax g.1.place_is)
no_tree_only source word p (TooDeep q) names within h g = one_no_tree source word error.TooDeep p q names deep_names h g.1 ∙ sym (ap TooDeep g.1.place_is)
no_tree_only source word p (Scope q v) names within h g = absurd (no_tree_no_source source g.1.pieces g.1.chunk word p names h g.1.is)
no_tree_only source word p (BadChunk at v) names within h g = absurd g
no_tree_only source word p ResultTooLarge names within h g = absurd g
no_tree_only source word p Memory names within h g = absurd g

-- nor one with a scope fault
scope_only : (source : List ℕ) (place : Place) (what : ScopeWhat) (other : Refusal) → length source ≤ source_limit → HasScopeFaultAt source place what → IsSourceRefusal source other → Scope place what ≡ other
scope_only source p w TooLarge within h g = absurd (omega (arith, g, within))
scope_only source p w (Lexical q v) within h g = absurd (fault_no_source source h.pieces h.chunk q v g.1 h.is)
scope_only source p w (Syntax q) within h g = absurd (no_tree_no_source source h.pieces h.chunk error.Syntax q syntax_names g.1 h.is)
scope_only source p w (TooDeep q) within h g = absurd (no_tree_no_source source h.pieces h.chunk error.TooDeep q deep_names g.1 h.is)
scope_only source p w (Scope q v) within h g = same_scope source p w q v h g.1
scope_only source p w (BadChunk at v) within h g = absurd g
scope_only source p w ResultTooLarge within h g = absurd g
scope_only source p w Memory within h g = absurd g

-- so two causes of one source are one
pub one_source_refusal : (source : List ℕ) (refusal other : Refusal) → IsSourceRefusal source refusal → IsSourceRefusal source other → refusal ≡ other
one_source_refusal source TooLarge other h g = large_only source other h g
one_source_refusal source (Lexical p w) other h g = lexical_only source p w other h.0 h.1 g
one_source_refusal source (Syntax p) other h g = ap Syntax h.1.place_is ∙ no_tree_only source error.Syntax p other syntax_names h.0 h.1 g
one_source_refusal source (TooDeep p) other h g = ap TooDeep h.1.place_is ∙ no_tree_only source error.TooDeep p other deep_names h.0 h.1 g
one_source_refusal source (Scope p w) other h g = scope_only source p w other h.0 h.1 g
one_source_refusal source (BadChunk at w) other h g = absurd h
one_source_refusal source ResultTooLarge other h g = absurd h
one_source_refusal source Memory other h g = absurd h

-- ---- those of `minify`

-- a cause of every job is one of `minify`
pub minify_cause : (source : List ℕ) (refusal : Refusal) → IsSourceRefusal source refusal → IsMinifyRefusal source refusal
minify_cause source ResultTooLarge h = absurd h
minify_cause source TooLarge h = h
minify_cause source (Lexical p w) h = h
minify_cause source (Syntax p) h = h
minify_cause source (TooDeep p) h = h
minify_cause source (Scope p w) h = h
minify_cause source (BadChunk at w) h = h
minify_cause source Memory h = h

-- a text that is too large
abbrev IsLarge : List ℕ → Refusal → Type 0
IsLarge source refusal = (refusal ≡ ResultTooLarge) × IsAccepted source × HasLargeText source

-- and there is no further cause but a text that is too large
minify_causes : (source : List ℕ) (refusal : Refusal) → IsMinifyRefusal source refusal → IsSourceRefusal source refusal ⊎ IsLarge source refusal
minify_causes source ResultTooLarge h = inr (refl, h.0, h.1)
minify_causes source TooLarge h = inl h
minify_causes source (Lexical p w) h = inl h
minify_causes source (Syntax p) h = inl h
minify_causes source (TooDeep p) h = inl h
minify_causes source (Scope p w) h = inl h
minify_causes source (BadChunk at w) h = inl h
minify_causes source Memory h = inl h

-- a source that `minify` accepts has none
pub accepted_not_refused : (source : List ℕ) (refusal : Refusal) → IsMinifyAccepted source → IsMinifyRefusal source refusal → ⊥
accepted_not_refused source refusal a h =
    elim (minify_causes source refusal h) [
      | inl cause ↦ source_not_refused source refusal a.accepted cause
      | inr l ↦ omega (arith, l.2.large, a.fits, ap length (one_text source l.2.text a.text l.2.minified a.minified))
    ]

pub one_refusal : (source : List ℕ) (refusal other : Refusal) → IsMinifyRefusal source refusal → IsMinifyRefusal source other → refusal ≡ other
one_refusal source refusal other h g =
    elim (minify_causes source refusal h) [
      | inl cause ↦ elim (minify_causes source other g) [ inl second ↦ one_source_refusal source refusal other cause second | inr l ↦ absurd (source_not_refused source refusal l.1 cause) ]
      | inr l ↦ elim (minify_causes source other g) [ inl second ↦ absurd (source_not_refused source other l.1 second) | inr m ↦ l.0 ∙ sym m.0 ]
    ]

-- ---- what is answered

-- what is no text of an accepted source is want of memory
pub answered : (source : List ℕ) (r : Result (Unit {0}) Refusal) → IsErrAnd r (λ e. e ≢ Memory → IsMinifyRefusal source e) → IsMinifyAccepted source → (r ≡ Ok tt) ⊎ (r ≡ Err Memory)
answered source r cause a = answered_by (IsMinifyAccepted source) (IsMinifyRefusal source) (accepted_not_refused source) r cause a

-- a refusal that has its cause is the one that is answered, or want of memory is
pub told : (source : List ℕ) (r : Result (Unit {0}) Refusal) → IsErrAnd r (λ e. e ≢ Memory → IsMinifyRefusal source e) → (refusal : Refusal) → IsMinifyRefusal source refusal → (r ≡ Err refusal) ⊎ (r ≡ Err Memory)
told source r cause refusal h = told_by (IsMinifyRefusal source) (one_refusal source) r cause refusal h

-- the same of what every job says
pub source_answered : (source : List ℕ) (r : Result (Unit {0}) Refusal) → IsErrAnd r (λ e. e ≢ Memory → IsSourceRefusal source e) → IsAccepted source → (r ≡ Ok tt) ⊎ (r ≡ Err Memory)
source_answered source r cause a = answered_by (IsAccepted source) (IsSourceRefusal source) (source_not_refused source) r cause a

pub source_told : (source : List ℕ) (r : Result (Unit {0}) Refusal) → IsErrAnd r (λ e. e ≢ Memory → IsSourceRefusal source e) → (refusal : Refusal) → IsSourceRefusal source refusal → (r ≡ Err refusal) ⊎ (r ≡ Err Memory)
source_told source r cause refusal h = told_by (IsSourceRefusal source) (one_source_refusal source) r cause refusal h

-- an error that is passed on is the same
pub passed_source : (source : List ℕ) {e : Refusal} (r : Result (Unit {0}) Refusal) → IsErrAnd r (λ x. x ≡ e) → (e ≢ Memory → IsSourceRefusal source e) → IsErrAnd r (λ x. x ≢ Memory → IsSourceRefusal source x)
passed_source source r is h = passed_by (IsSourceRefusal source) (IsSourceRefusal source) (λ x cause. cause) r is h

pub passed : (source : List ℕ) {e : Refusal} (r : Result (Unit {0}) Refusal) → IsErrAnd r (λ x. x ≡ e) → (e ≢ Memory → IsSourceRefusal source e) → IsErrAnd r (λ x. x ≢ Memory → IsMinifyRefusal source x)
passed source r is h = passed_by (IsSourceRefusal source) (IsMinifyRefusal source) (minify_cause source) r is h

pub passed_on : (source : List ℕ) {e : Refusal} (r : Result (Unit {0}) Refusal) → IsErrAnd r (λ x. x ≡ e) → (e ≢ Memory → IsSourceRefusal source e) → IfErr r (λ x. x ≢ Memory → IsMinifyRefusal source x)
passed_on source r is h = passed_on_by (IsSourceRefusal source) (IsMinifyRefusal source) (minify_cause source) r is h
