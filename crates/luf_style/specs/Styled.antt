-- The document of a source and its formatted text, under choices. Rules of our own.
use Rattle.std.specs.Prelude.{◌≡◌, ℕ, ◌==◌, Bool, List, [], ◌∷◌, ◌++◌, if◌then◌else◌, codes, slice_range, count_by}
use Rattle.std.specs.Str.{byte}
use Rattle.luf_str.specs.Requote.{IsRequoted, inside, quote_byte}
use Rattle.luf_quote.specs.Chosen.{chosen}
use Rattle.luf_quote.specs.Parens.{keeps_round_string, keeps_round_table}
use Rattle.luf_conf.specs.declared.settings.Options.{Options}
use Rattle.luf_lex.specs.Cut.{IsCut, head_end, mark_length}
use Rattle.luf_lex.specs.Tokens.{toks_of, spellings_of}
use Rattle.luf_lex.specs.declared.token.Piece.{Piece}
use Rattle.luf_lex.specs.declared.token.Tok.{Tok}
use Rattle.luf_lex.specs.declared.token.Tok.TheVariants.{Short}
use Rattle.luf_tree.specs.declared.tree.Chunk.{Chunk}
use Rattle.luf_tree.specs.Grammar.{IsChunk}
use Rattle.luf_tree.specs.SyntaxOf.{syntax_of}
use Rattle.luf_bare.specs.Dropped.{dropped_block}
use Rattle.luf_doc.specs.declared.page.Page.{Page}
use Rattle.luf_doc.specs.Document.{Document}
use Rattle.luf_doc.specs.Layout.{layout}
use Rattle.luf_draft.specs.Form.{main, written_program}
use Rattle.luf_gaps.specs.Gaps.{gaps}
use Rattle.luf_style.specs.Filled.{IsFilled}

-- What a style chooses: the quotes of a short string, by its spelling; whether a lone string and a lone table stand in
-- parentheses, by whether they do in the source; and the page.
pub record Choices : Type 0 where
  pub quote : List ℕ → ℕ
  pub string_has : Bool → Bool
  pub table_has : Bool → Bool
  pub page : Page

-- what options choose
abbrev pub choices_of : Options → Choices
choices_of o = record {
  quote = λ spelling. quote_byte (chosen o.quotes (record { single = count_by (λ b. b == byte "'") (inside spelling); double = count_by (λ b. b == byte "\"") (inside spelling) }));
  string_has = keeps_round_string o.calls;
  table_has = keeps_round_table o.calls;
  page = record { width = o.column_width; tabs = o.tabs; unit = o.indent_width };
}

-- The tokens, how they are spelled, and how they are written: a short string in the chosen quotes, any other as it is.
pub data AreWritten (quote : List ℕ → ℕ) : List Tok → List (List ℕ) → List (List ℕ) → Type 0 where
  nothing : AreWritten quote [] [] []
  requoted : {spelling written : List ℕ} {toks : List Tok} {spellings all_written : List (List ℕ)} → IsRequoted spelling (quote spelling) written
      → AreWritten quote toks spellings all_written → AreWritten quote (Short ∷ toks) (spelling ∷ spellings) (written ∷ all_written)
  kept : {t : Tok} {spelling : List ℕ} {toks : List Tok} {spellings all_written : List (List ℕ)} → (t ≡ Short → ⊥)
      → AreWritten quote toks spellings all_written → AreWritten quote (t ∷ toks) (spelling ∷ spellings) (spelling ∷ all_written)

-- the document of a source: its program, drafted, with the comments of its gaps
pub record IsStyled (choices : Choices) (source : List ℕ) (pieces : List Piece) (chunk : Chunk) (d : Document) : Type 0 where
  pub written : List (List ℕ)
  pub are_written : AreWritten choices.quote (toks_of pieces) (spellings_of source pieces) written
  pub filled : IsFilled [] [] (main choices.string_has choices.table_has (written_program written chunk)) (gaps source pieces (dropped_block (syntax_of chunk) [])) [] d

-- the `#` line of a source and one line feed, if it has such a line
abbrev pub hash_text : List ℕ → List ℕ
hash_text source = if head_end source == mark_length source then [] else slice_range source (mark_length source) (head_end source) ++ codes "\n"

-- the formatted text of a source: its `#` line, and the layout of its document
pub record IsFormatted (choices : Choices) (source text : List ℕ) : Type 0 where
  pub pieces : List Piece
  pub chunk : Chunk
  pub cut : IsCut source pieces
  pub tree : IsChunk (toks_of pieces) chunk
  pub document : Document
  pub styled : IsStyled choices source pieces chunk document
  pub is : text ≡ hash_text source ++ layout choices.page document
