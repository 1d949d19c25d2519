-- Sources with their pieces and trees, formatted: computed by the definitions.
use Rattle.std.proofs.Common.{◌≡◌, ℕ, List, [], ◌∷◌, ◌++◌, refl, codes, get_or}
use Rattle.luf_lex.specs.Tokens.{spellings_of}
use Rattle.luf_lex.specs.declared.token.Kind.{Kind}
use Rattle.luf_lex.specs.declared.token.Kind.TheVariants as kind
use Rattle.luf_lex.specs.declared.token.Tok.TheVariants as tok
use Rattle.luf_lex.specs.declared.token.Sign.TheVariants as sign
use Rattle.luf_lex.specs.declared.token.Word.TheVariants as word
use Rattle.luf_lex.specs.declared.token.Piece.{Piece}
use Rattle.luf_tree.specs.Syntax as syntax
use Rattle.luf_tree.specs.TokenSyntax as tokens
use Rattle.luf_tree.specs.TokenSyntax.{from_to}
use Rattle.luf_bare.specs.Bare.{words_of, as_here, chosen_block}
use Rattle.luf_bare.specs.Dropped.{dropped_block}
use Rattle.luf_doc.specs.Layout.{layout}
use Rattle.luf_draft.specs.Form.{main}
use Rattle.luf_gaps.specs.Gaps.{gaps}
use Rattle.luf_style.specs.Styled.{hash_text}
use Rattle.luf_style.proofs.Fill.{fill}
use Rattle.luf_style.proofs.ExamplePrograms.{needs, always, page, lines}

abbrev piece : Kind → ℕ → ℕ → Piece
piece kind from to = record { kind = kind; span = record { from = from; to = to } }

-- the formatted text of a source without short strings, of these pieces and this syntax
abbrev formatted : List ℕ → List Piece → tokens.Block → List ℕ
formatted source pieces chunk =
    hash_text source
    ++ layout (page 120) (fill needs [] [] (main always always (chosen_block (words_of (λ n. get_or (spellings_of source pieces) n [])) as_here chunk)) (gaps source pieces (dropped_block chunk [])))

-- two `;` go: the comments round them stay in order, and so does the empty line behind a comment
abbrev semicolons : List ℕ
semicolons = codes "x=1 --[[a]] ; --b\n\n;y=2"

abbrev pieces_of_semicolons : List Piece
pieces_of_semicolons = piece (kind.Token tok.Name) 0 1 ∷ piece (kind.Token (tok.Sign sign.Assign)) 1 2 ∷ piece (kind.Token tok.Number) 2 3 ∷ piece kind.Blank 3 4 ∷ piece kind.Comment 4 11 ∷ piece kind.Blank 11 12 ∷ piece (kind.Token (tok.Sign sign.Semicolon)) 12 13 ∷ piece kind.Blank 13 14 ∷ piece kind.Comment 14 17 ∷ piece kind.LineEnd 17 18 ∷ piece kind.LineEnd 18 19 ∷ piece (kind.Token (tok.Sign sign.Semicolon)) 19 20 ∷ piece (kind.Token tok.Name) 20 21 ∷ piece (kind.Token (tok.Sign sign.Assign)) 21 22 ∷ piece (kind.Token tok.Number) 22 23 ∷ []

abbrev syntax_of_semicolons : tokens.Block
syntax_of_semicolons = syntax.block (from_to 0 8) (syntax.more_statements (syntax.assignment (from_to 0 3) (syntax.more_expressions (syntax.variable (from_to 0 1) 0) syntax.no_expressions) (syntax.more_expressions (syntax.numeral (from_to 2 3) 2) syntax.no_expressions)) (syntax.more_statements (syntax.empty_statement (from_to 3 4)) (syntax.more_statements (syntax.empty_statement (from_to 4 5)) (syntax.more_statements (syntax.assignment (from_to 5 8) (syntax.more_expressions (syntax.variable (from_to 5 6) 5) syntax.no_expressions) (syntax.more_expressions (syntax.numeral (from_to 7 8) 7) syntax.no_expressions)) syntax.no_statements))))

text_of_semicolons : formatted semicolons pieces_of_semicolons syntax_of_semicolons ≡ lines (codes "x = 1 --[[a]] --b" ∷ [] ∷ codes "y = 2" ∷ [])
text_of_semicolons = refl

-- the last comment of a source ends its line, where a `;` that goes stands behind it
abbrev empty_statement : List ℕ
empty_statement = codes "--[[a]];"

abbrev pieces_of_empty_statement : List Piece
pieces_of_empty_statement = piece kind.Comment 0 7 ∷ piece (kind.Token (tok.Sign sign.Semicolon)) 7 8 ∷ []

abbrev syntax_of_empty_statement : tokens.Block
syntax_of_empty_statement = syntax.block (from_to 0 1) (syntax.more_statements (syntax.empty_statement (from_to 0 1)) syntax.no_statements)

text_of_empty_statement : formatted empty_statement pieces_of_empty_statement syntax_of_empty_statement ≡ lines (codes "--[[a]]" ∷ [])
text_of_empty_statement = refl

-- a `#` line; a comment that shares its line with a `;` that goes, and so goes to the line before; blanks behind it; an empty
-- line before the last comment
abbrev hash_line : List ℕ
hash_line = codes "#!lua\nx=1\n\n; --a  \nreturn x;\n\n--b"

abbrev pieces_of_hash_line : List Piece
pieces_of_hash_line = piece kind.HashLine 0 5 ∷ piece kind.LineEnd 5 6 ∷ piece (kind.Token tok.Name) 6 7 ∷ piece (kind.Token (tok.Sign sign.Assign)) 7 8 ∷ piece (kind.Token tok.Number) 8 9 ∷ piece kind.LineEnd 9 10 ∷ piece kind.LineEnd 10 11 ∷ piece (kind.Token (tok.Sign sign.Semicolon)) 11 12 ∷ piece kind.Blank 12 13 ∷ piece kind.Comment 13 18 ∷ piece kind.LineEnd 18 19 ∷ piece (kind.Token (tok.Word word.Return)) 19 25 ∷ piece kind.Blank 25 26 ∷ piece (kind.Token tok.Name) 26 27 ∷ piece (kind.Token (tok.Sign sign.Semicolon)) 27 28 ∷ piece kind.LineEnd 28 29 ∷ piece kind.LineEnd 29 30 ∷ piece kind.Comment 30 33 ∷ []

abbrev syntax_of_hash_line : tokens.Block
syntax_of_hash_line = syntax.block (from_to 0 7) (syntax.more_statements (syntax.assignment (from_to 0 3) (syntax.more_expressions (syntax.variable (from_to 0 1) 0) syntax.no_expressions) (syntax.more_expressions (syntax.numeral (from_to 2 3) 2) syntax.no_expressions)) (syntax.more_statements (syntax.empty_statement (from_to 3 4)) (syntax.more_statements (syntax.return_statement (from_to 4 7) (syntax.more_expressions (syntax.variable (from_to 5 6) 5) syntax.no_expressions)) syntax.no_statements)))

text_of_hash_line : formatted hash_line pieces_of_hash_line syntax_of_hash_line ≡ lines (codes "#!lua" ∷ codes "x = 1 --a" ∷ codes "return x" ∷ [] ∷ codes "--b" ∷ [])
text_of_hash_line = refl
