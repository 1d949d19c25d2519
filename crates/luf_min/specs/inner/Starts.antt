-- What the functions look at before they write a part.
use Rattle.std.specs.Prelude.{Bool, true, false, List}
use Rattle.luf_lex.specs.declared.token.Tok.{Tok}
use Rattle.luf_tree.specs.Syntax as syntax
use Rattle.luf_tree.specs.TokenSyntax as tokens
use Rattle.luf_min.specs.inner.Items.{opens_first, items_in_expression, items_in_expressions}

-- a `;` by itself
abbrev pub is_empty : tokens.Statement → Bool
is_empty (syntax.empty_statement _) = true
is_empty _ = false

-- whether a statement starts with `(`: only those can that start with an expression
abbrev pub opens_statement : List Tok → tokens.Statement → Bool
opens_statement toks (syntax.call_statement _ call) = opens_first toks (items_in_expression toks call)
opens_statement toks (syntax.assignment _ targets _) = opens_first toks (items_in_expressions toks targets)
opens_statement toks _ = false
