-- All tokens: the exact cause is a cause, and a block that does not have all of them.
use Rattle.std.proofs.Common.{◌≡◌, ℕ, List, sym, subst, Ok, Err}
use Rattle.std.specs.Prelude.{Result, IfErr}
use Rattle.luf_lex.specs.declared.token.Tok.{Tok}
use Rattle.luf_tree.specs.declared.tree.Chunk.{Chunk}
use Rattle.luf_exact.specs.Exact.{IsSyntaxAt, IsExactCause}
use Rattle.luf_exact.proofs.ExactLaws.{cause_within, cause_no_tree}
use Rattle.luf_parse.specs.Cause.{IsCause}
use Rattle.luf_descent.specs.declared.error.ParseErr.{ParseErr}
use Rattle.luf_descent.specs.declared.error.ParseErr.TheVariants as error

-- an exact cause names a token of the list or the end, and leaves no tree
exact_is_cause : (toks : List Tok) (e : ParseErr) → IsExactCause toks e → IsCause toks e
exact_is_cause toks (error.Syntax t) h = (cause_within toks (error.Syntax t) h, λ chunk. cause_no_tree toks (error.Syntax t) chunk h (λ z. cc))
exact_is_cause toks (error.TooDeep t) h = (cause_within toks (error.TooDeep t) h, λ chunk. cause_no_tree toks (error.TooDeep t) chunk h (λ z. cc))
exact_is_cause toks error.Memory h = tt

pub refused_exactly : (toks : List Tok) (r : Result Chunk ParseErr) → IfErr r (IsExactCause toks) → IfErr r (IsCause toks)
refused_exactly toks (Ok chunk) h = cc
refused_exactly toks (Err e) h = exact_is_cause toks e h

-- the refusal of the token behind a block
pub short_exactly : {toks : List Tok} {t : ℕ} {e : ParseErr} → e ≡ error.Syntax t → IsSyntaxAt toks t → IsExactCause toks e
short_exactly {toks} is h = subst (IsExactCause toks) (sym is) h
