-- A small chunk, `f {a, b = 1}; (g)()`: its bare program, its dropped tokens, and what is written of it.
use Rattle.std.proofs.Common.{◌≡◌, ℕ, ◌+◌, Bool, true, false, List, [], ◌∷◌, get_or, refl}
use Rattle.luf_lex.specs.declared.token.Tok.{Tok}
use Rattle.luf_lex.specs.declared.token.Tok.TheVariants.{Name, Number, Sign}
use Rattle.luf_lex.specs.declared.token.Sign.TheVariants as sign
use Rattle.luf_tree.specs.Syntax as syntax
use Rattle.luf_tree.specs.TokenSyntax as tokens
use Rattle.luf_tree.specs.TokenSyntax.{from_to}
use Rattle.luf_bare.specs.Bare.{words_at, chosen_block}
use Rattle.luf_bare.specs.Dropped.{dropped_block}
use Rattle.luf_bare.specs.Rank.{ranked}
use Rattle.luf_bare.specs.Writing.{written_block}

-- its tokens
abbrev toks : List Tok
toks = Name ∷ Sign sign.LeftBrace ∷ Name ∷ Sign sign.Comma ∷ Name ∷ Sign sign.Assign ∷ Number ∷ Sign sign.RightBrace ∷ Sign sign.Semicolon ∷ Sign sign.LeftParen ∷ Name ∷ Sign sign.RightParen ∷ Sign sign.LeftParen ∷ Sign sign.RightParen ∷ []

abbrev name_at : ℕ → tokens.Expression
name_at i = syntax.variable (from_to i (i + 1)) i

abbrev call_of : tokens.Span → tokens.Expression → tokens.Arguments → tokens.Statement
call_of span head args = syntax.call_statement span (syntax.suffixed span head (syntax.more_suffixes (syntax.call_suffix args) syntax.no_suffixes))

abbrev table : tokens.Expression
table = syntax.table (from_to 1 8) (syntax.more_fields (syntax.item_field (name_at 2)) (syntax.more_fields (syntax.named_field 4 (syntax.numeral (from_to 6 7) 6)) syntax.no_fields))

abbrev chunk : tokens.Block
chunk =
    syntax.block (from_to 0 14) (syntax.more_statements (call_of (from_to 0 8) (name_at 0) (syntax.arguments (from_to 1 8) false (syntax.more_expressions table syntax.no_expressions)))
    (syntax.more_statements (syntax.empty_statement (from_to 8 9))
    (syntax.more_statements (call_of (from_to 9 14) (syntax.parenthesised (from_to 9 12) (name_at 10)) (syntax.arguments (from_to 12 14) true syntax.no_expressions)) syntax.no_statements)))

-- the `,` of the table and the `;` are dropped
dropped : dropped_block chunk [] ≡ 3 ∷ 8 ∷ []
dropped = refl

-- the bare program by ranks has no empty statement, and the lone argument as if it stood in parentheses
abbrev ranked_chunk : tokens.Block
ranked_chunk =
    syntax.block (from_to 0 12) (syntax.more_statements (call_of (from_to 0 7) (name_at 0) (syntax.arguments (from_to 1 7) true (syntax.more_expressions
    (syntax.table (from_to 1 7) (syntax.more_fields (syntax.item_field (name_at 2)) (syntax.more_fields (syntax.named_field 3 (syntax.numeral (from_to 5 6) 5)) syntax.no_fields))) syntax.no_expressions)))
    (syntax.more_statements (call_of (from_to 7 12) (syntax.parenthesised (from_to 7 10) (name_at 8)) (syntax.arguments (from_to 10 12) true syntax.no_expressions)) syntax.no_statements))

by_ranks : ranked chunk ≡ ranked_chunk
by_ranks = refl

-- what is written with no parentheses round the lone argument and no separator behind the last field: the same tokens
abbrev written : Bool → Bool → List Tok
written trails encloses = written_block (λ t. t) (λ t. t) (λ t. t ∷ []) (λ _. trails) (chosen_block (words_at (λ i. get_or toks i Name)) (λ _ _. encloses) chunk)

shortest : written false false ≡ toks
shortest = refl

-- with both: `f({a, b = 1,}); (g)()`
longest : written true true
    ≡ Name ∷ Sign sign.LeftParen ∷ Sign sign.LeftBrace ∷ Name ∷ Sign sign.Comma ∷ Name ∷ Sign sign.Assign ∷ Number ∷ Sign sign.Comma ∷ Sign sign.RightBrace ∷ Sign sign.RightParen ∷ Sign sign.Semicolon ∷ Sign sign.LeftParen ∷ Name ∷ Sign sign.RightParen ∷ Sign sign.LeftParen ∷ Sign sign.RightParen ∷ []
longest = refl
