-- What is looked at before a statement is written.
use Rattle.std.specs.Prelude.{Bool, true, false, if◌then◌else◌, List, []}
use Rattle.luf_lex.specs.declared.token.Tok.{Tok}
use Rattle.luf_tree.specs.Syntax as syntax
use Rattle.luf_tree.specs.TokenSyntax as tokens
use Rattle.luf_bare.specs.Writing.{opens}
use Rattle.luf_draft.specs.Flat.{token_at}
use Rattle.luf_draft.specs.declared.mark.Mark.{Mark}
use Rattle.luf_draft.specs.inner.Marks.{is_empty, guard_marks}

module _ (toks : List Tok) where
  -- whether an expression begins with `(`
  abbrev pub opens_expression : tokens.Expression → Bool
  opens_expression (syntax.numeral _ value) = opens (token_at toks value)
  opens_expression (syntax.string _ value) = opens (token_at toks value)
  opens_expression (syntax.variable _ name) = opens (token_at toks name)
  opens_expression (syntax.parenthesised _ _) = true
  opens_expression (syntax.unary _ operator _) = opens (token_at toks operator)
  opens_expression (syntax.chain _ first _) = opens_expression first
  opens_expression (syntax.power _ base _ _) = opens_expression base
  opens_expression (syntax.suffixed _ head _) = opens_expression head
  opens_expression _ = false

  abbrev pub opens_expressions : tokens.Expressions → Bool
  opens_expressions syntax.no_expressions = false
  opens_expressions (syntax.more_expressions first _) = opens_expression first

  -- whether a statement does: only those can that start with an expression
  abbrev pub opens_statement : tokens.Statement → Bool
  opens_statement (syntax.call_statement _ call) = opens_expression call
  opens_statement (syntax.assignment _ targets _) = opens_expressions targets
  opens_statement _ = false

  -- what stands before a statement; before an empty one, nothing
  abbrev pub guard_of : Bool → tokens.Statement → List Mark
  guard_of others s = if is_empty s then [] else guard_marks others (opens_statement s)
