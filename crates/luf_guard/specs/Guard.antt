-- Where a statement needs a `;` before it (a rule of our own).
use Rattle.std.specs.Prelude.{◌≡◌, Bool, false}
use Rattle.luf_lex.specs.declared.token.Tok.{Tok}
use Rattle.luf_lex.specs.declared.token.Tok.TheVariants.{Sign}
use Rattle.luf_lex.specs.declared.token.Sign.TheVariants.{LeftParen}

-- a statement that is not the first of its block and starts with `(` could be read as arguments of the one before
abbrev pub NeedsGuard : Bool → Tok → Type 0
NeedsGuard first starts = (first ≡ false) × (starts ≡ Sign LeftParen)
