-- When a source has a formatted text under options, and which, and when `format` has a cause of a refusal, and which.
use Rattle.std.proofs.Common.{◌≡◌, ◌≢◌, ◌⊎◌, ◌≤◌, inl, inr, subst, ℕ, ◌++◌, List, Ok, Err, length, refl, sym, ap, ◌∙◌, arith}
use Rattle.std.specs.Prelude.{Result, IfErr, IsErrAnd}
use Rattle.luf_conf.specs.declared.settings.Options.{Options}
use Rattle.luf_doc.specs.Document.{Document}
use Rattle.luf_doc.specs.Layout.{layout}
use Rattle.luf_style.specs.Styled.{Choices, choices_of, hash_text, IsStyled, IsFormatted}
use Rattle.luf_style.proofs.StyledLaws.{one_formatted}
use Rattle.luf_lex.specs.Tokens.{toks_of}
use Rattle.luf_lex.specs.declared.token.Piece.{Piece}
use Rattle.luf_lex.proofs.OneCut.{one_cut}
use Rattle.luf_tree.specs.declared.tree.Chunk.{Chunk}
use Rattle.luf_tree.specs.Grammar.{IsChunk}
use Rattle.luf_tree.specs.Level.{level_limit, depth_of}
use Rattle.luf_parse.proofs.OneTree.{one_tree}
use Rattle.luf_resolved.specs.Source.{IsSource}
use Rattle.luf_kept.specs.Kept.{IsKept}
use Rattle.luf_kept.proofs.KeptLaws.{is_kept}
use Rattle.luf_twice.proofs.FormattedOnce.{formatted_once}
use Rattle.luf_work.specs.Limits.{text_limit}
use Rattle.luf_work.specs.Format.{IsFormatAccepted, HasLargeLayout, IsFormatRefusal, KeepsSource}
use Rattle.luf_work.specs.Refusals.{IsSourceRefusal}
use Rattle.luf_work.specs.Source.{IsAccepted}
use Rattle.luf_work.specs.inner.Read.{IsRead}
use Rattle.luf_work.specs.declared.source.ReadSource.{ReadSource}
use Rattle.luf_work.specs.declared.refusal.Refusal.{Refusal}
use Rattle.luf_work.specs.declared.refusal.Refusal.TheVariants.{TooLarge, Lexical, Syntax, TooDeep, Scope, Chunk as BadChunk, ResultTooLarge, Memory}
use Rattle.luf_work.proofs.RefusalLemmas.{source_not_refused, one_source_refusal, one_scope_fault}
use Rattle.luf_work.proofs.Answered.{answered_by, told_by, passed_by, passed_on_by}

-- the layout of the document of a source as it was read is its formatted text
pub formatted_of : (choices : Choices) (source text : List ℕ) (a : ReadSource) (d : Document) → IsRead source a → IsStyled choices source a.pieces a.chunk d → text ≡ hash_text source ++ layout choices.page d → IsFormatted choices source text
formatted_of choices source text a d h styled is = record { pieces = a.pieces; chunk = a.chunk; cut = h.is.cut; tree = h.is.tree; document = d; styled = styled; is = is }

-- what is written of an accepted source is accepted, and it is the same program
pub keeps_source : (o : Options) (source text : List ℕ) → IsAccepted source → IsFormatted (choices_of o) source text → length text ≤ text_limit → KeepsSource o source text
keeps_source o source text a f fits =
    let cut : a.pieces ≡ f.pieces = one_cut source a.pieces f.pieces a.is.cut f.cut in
    let tree : a.chunk ≡ f.chunk = one_tree (toks_of f.pieces) a.chunk f.chunk (subst (λ (ps : List Piece). IsChunk (toks_of ps) a.chunk) cut a.is.tree) f.tree in
    let levels : depth_of f.chunk ≤ level_limit = subst (λ (x : Chunk). depth_of x ≤ level_limit) tree a.is.levels in
    let is : IsSource source f.pieces f.chunk = record { cut = f.cut; tree = f.tree; levels = levels } in
    let same : IsKept o source text = is_kept o source text f levels (one_scope_fault source f.pieces a.pieces f.chunk a.chunk is a.is ∙ a.scopes) in
    record { accepted = record { within = fits; pieces = same.others; chunk = same.other; is = same.read; scopes = same.no_fault }; same = same; once = formatted_once o source text f }

module _ (o : Options) (source : List ℕ) where
  -- under options a source has one formatted text at most
  pub one_formatted_text : (text other : List ℕ) → IsFormatted (choices_of o) source text → IsFormatted (choices_of o) source other → text ≡ other
  one_formatted_text text other a b = one_formatted (choices_of o) source text other a b

  -- ---- the causes of a refusal

  -- a cause of every job is one of `format`
  pub format_cause : (refusal : Refusal) → IsSourceRefusal source refusal → IsFormatRefusal o source refusal
  format_cause ResultTooLarge h = absurd h
  format_cause TooLarge h = h
  format_cause (Lexical p w) h = h
  format_cause (Syntax p) h = h
  format_cause (TooDeep p) h = h
  format_cause (Scope p w) h = h
  format_cause (BadChunk at w) h = h
  format_cause Memory h = h

  -- a text that is too large
  abbrev IsLarge : Refusal → Type 0
  IsLarge refusal = (refusal ≡ ResultTooLarge) × IsAccepted source × HasLargeLayout o source

  -- and there is no further cause but a text that is too large
  format_causes : (refusal : Refusal) → IsFormatRefusal o source refusal → IsSourceRefusal source refusal ⊎ IsLarge refusal
  format_causes ResultTooLarge h = inr (refl, h.0, h.1)
  format_causes TooLarge h = inl h
  format_causes (Lexical p w) h = inl h
  format_causes (Syntax p) h = inl h
  format_causes (TooDeep p) h = inl h
  format_causes (Scope p w) h = inl h
  format_causes (BadChunk at w) h = inl h
  format_causes Memory h = inl h

  -- a source that `format` accepts has none
  pub accepted_not_refused : (refusal : Refusal) → IsFormatAccepted o source → IsFormatRefusal o source refusal → ⊥
  accepted_not_refused refusal a h =
      elim (format_causes refusal h) [
        | inl cause ↦ source_not_refused source refusal a.accepted cause
        | inr l ↦ omega (arith, l.2.large, a.fits, ap length (one_formatted_text l.2.text a.text l.2.formatted a.formatted))
      ]

  pub one_refusal : (refusal other : Refusal) → IsFormatRefusal o source refusal → IsFormatRefusal o source other → refusal ≡ other
  one_refusal refusal other h g =
      elim (format_causes refusal h) [
        | inl cause ↦ elim (format_causes other g) [ inl second ↦ one_source_refusal source refusal other cause second | inr l ↦ absurd (source_not_refused source refusal l.1 cause) ]
        | inr l ↦ elim (format_causes other g) [ inl second ↦ absurd (source_not_refused source other l.1 second) | inr m ↦ l.0 ∙ sym m.0 ]
      ]

  -- ---- what is answered

  -- what is no text of an accepted source is want of memory
  pub answered : (r : Result (Unit {0}) Refusal) → IsErrAnd r (λ e. e ≢ Memory → IsFormatRefusal o source e) → IsFormatAccepted o source → (r ≡ Ok tt) ⊎ (r ≡ Err Memory)
  answered r cause a = answered_by (IsFormatAccepted o source) (IsFormatRefusal o source) accepted_not_refused r cause a

  -- a refusal that has its cause is the one that is answered, or want of memory is
  pub told : (r : Result (Unit {0}) Refusal) → IsErrAnd r (λ e. e ≢ Memory → IsFormatRefusal o source e) → (refusal : Refusal) → IsFormatRefusal o source refusal → (r ≡ Err refusal) ⊎ (r ≡ Err Memory)
  told r cause refusal h = told_by (IsFormatRefusal o source) one_refusal r cause refusal h

  -- an error that is passed on is the same
  pub passed : {e : Refusal} (r : Result (Unit {0}) Refusal) → IsErrAnd r (λ x. x ≡ e) → (e ≢ Memory → IsSourceRefusal source e) → IsErrAnd r (λ x. x ≢ Memory → IsFormatRefusal o source x)
  passed r is h = passed_by (IsSourceRefusal source) (IsFormatRefusal o source) format_cause r is h

  pub passed_on : {e : Refusal} (r : Result (Unit {0}) Refusal) → IsErrAnd r (λ x. x ≡ e) → (e ≢ Memory → IsSourceRefusal source e) → IfErr r (λ x. x ≢ Memory → IsFormatRefusal o source x)
  passed_on r is h = passed_on_by (IsSourceRefusal source) (IsFormatRefusal o source) format_cause r is h
