-- The marks of parts that several productions share, and of those that are opened and closed by whether they are empty.
use Rattle.std.specs.Prelude.{Bool, List, [], ◌∷◌, ◌++◌, map}
use Rattle.luf_lex.specs.declared.token.Tok.{Tok}
use Rattle.luf_lex.specs.declared.token.Word.TheVariants as word
use Rattle.luf_tree.specs.declared.tree.Expr.{Expr}
use Rattle.luf_tree.specs.declared.tree.Field.{Field}
use Rattle.luf_tree.specs.TokenSyntax as tokens
use Rattle.luf_tree.specs.SyntaxOf.{expressions_of, fields_of, syntax_of_expr, syntax_of_field}
use Rattle.luf_draft.specs.declared.mark.Mark.{Mark}
use Rattle.luf_draft.specs.declared.mark.Mark.TheVariants.{Word}
use Rattle.luf_draft.specs.declared.mark.GapKind.TheVariants as kind
use Rattle.luf_draft.specs.inner.Marks.{is_none, bracketed_marks, marks_in_expression, marks_in_expressions, marks_in_fields, marks_in_body}
use Rattle.luf_draft.specs.inner.Runs.{space_word, word_closed, table_opened, table_closed, return_opened, return_closed}

module _ (toks : List Tok) (string_has table_has : Bool → Bool) where
  abbrev pub key_marks : tokens.Expression → List Mark
  key_marks e = bracketed_marks (marks_in_expression toks string_has table_has e)

  -- a block and its `end`
  abbrev pub body_to_end : tokens.Block → List Mark
  body_to_end b = marks_in_body toks string_has table_has b ++ (Word word.End ∷ [])

  -- a block between `do` and `end`, where a statement ends
  abbrev pub do_to_end : tokens.Block → List Mark
  do_to_end b = space_word word.Do ++ (marks_in_body toks string_has table_has b ++ word_closed word.End)

  abbrev pub table_marks : List Field → List Mark
  table_marks fs =
      table_opened (is_none fs) ++ (marks_in_fields toks string_has table_has (fields_of (map syntax_of_field fs)) ++ table_closed (is_none fs))

  abbrev pub return_marks : List Expr → List Mark
  return_marks es =
      return_opened (is_none es)
      ++ (marks_in_expressions toks string_has table_has kind.Space (expressions_of (map syntax_of_expr es)) ++ return_closed (is_none es))
