-- The formatted text of a source is the formatted text of itself, where its layout is cut and its words are chosen as they were.
use Rattle.std.proofs.Common.{◌≡◌, ℕ, true, false, List, [], ◌++◌}
use Rattle.luf_conf.specs.declared.settings.Options.{Options}
use Rattle.luf_quote.specs.Parens.{keeps_round_string, keeps_round_table}
use Rattle.luf_doc.specs.Layout as layout
use Rattle.luf_lex.specs.Cut.{IsCut}
use Rattle.luf_lex.specs.Tokens.{toks_of}
use Rattle.luf_lex.specs.declared.token.Piece.{Piece}
use Rattle.luf_tree.specs.SyntaxOf.{syntax_of}
use Rattle.luf_bare.specs.Dropped.{dropped_block}
use Rattle.luf_gaps.specs.Gaps.{is_short}
use Rattle.luf_style.specs.Styled.{IsFormatted, choices_of, hash_text}
use Rattle.luf_kept.proofs.KeptLaws.{back}
use Rattle.luf_kept.proofs.SnugChunk.{chunk_steps}
use Rattle.luf_again.specs.Lexed.{Lexed, IsHead}
use Rattle.luf_again.specs.Reread.{reread_whole}
use Rattle.luf_again.specs.Shown.{shown}
use Rattle.luf_again.specs.Tells.{untold}
use Rattle.luf_twice.specs.Chooses.{Chooses}
use Rattle.luf_twice.specs.Ready.{HasWords}
use Rattle.luf_twice.specs.Twice.{draft_of}
use Rattle.luf_twice.proofs.ReadAgain.{ReadsAgain, read_again}
use Rattle.luf_twice.proofs.TwiceIsOnce.{twice_is_once}

module _ (o : Options) (source text : List ℕ) (f : IsFormatted (choices_of o) source text) where
  pub formatted_again : (head body : List Piece) → IsHead head → Lexed text [] (layout.pieces (choices_of o).page f.document) body → IsCut text (head ++ body)
      → hash_text text ≡ hash_text source → HasWords (draft_of (choices_of o) f.styled.written f.chunk)
      → Chooses (dropped_block (syntax_of (back o source text f).read.tree) []) (reread_whole is_short (choices_of o).page f.document) untold (shown is_short (layout.pieces (choices_of o).page f.document)) false true
      → IsFormatted (choices_of o) text text
  formatted_again head body is_head lexed cut hash has chosen =
      let reads : ReadsAgain (choices_of o) text (head ++ body) (back o source text f).read.tree (draft_of (choices_of o) f.styled.written f.chunk) = read_again o source text f (head ++ body) cut in
      twice_is_once (choices_of o) source text f.pieces f.chunk f.document f.cut f.styled f.is
      (chunk_steps (toks_of f.pieces) f.chunk f.tree f.styled.written (keeps_round_string o.calls) (keeps_round_table o.calls)) has
      (record {
        head = head;
        body = body;
        is_head = is_head;
        lexed = lexed;
        cut = cut;
        chunk = (back o source text f).read.tree;
        tree = reads.tree;
        written = reads.written;
        are_written = reads.are_written;
        same = reads.same;
        chosen = chosen;
        hash = hash;
      })
