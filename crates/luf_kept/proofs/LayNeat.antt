-- The layout of the document of a draft is a neat list of pieces.
use mathlib.Core.List.{reverse_aux}
use Rattle.std.proofs.Common.{◌≡◌, ℕ, inl, List, [], ◌∷◌, codes, cond, refl, sym, ◌∙◌, subst}
use Rattle.luf_lex.specs.Spelling.{Spells}
use Rattle.luf_lex.specs.Tokens.{is_token}
use Rattle.luf_lex.specs.declared.token.Tok.{Tok}
use Rattle.luf_lex.specs.declared.token.Tok.TheVariants.{Sign}
use Rattle.luf_lex.specs.declared.token.Sign.TheVariants.{Hash}
use Rattle.luf_lex.specs.declared.token.Kind.{Kind}
use Rattle.luf_lex.specs.declared.token.Kind.TheVariants.{Token, LineEnd}
use Rattle.luf_tree.specs.Grammar.{At}
use Rattle.luf_min.proofs.TokensCut.{Spelled, BracketsStop}
use Rattle.luf_neat.specs.Pieces.{Bit, Neat, NoHashFirst, joined}
use Rattle.luf_neat.proofs.NeatCut.{bit_toks, bit_spellings}
use Rattle.luf_neat.proofs.NeatFits.{EachSpelled, fits_neat}
use Rattle.luf_doc.specs.declared.page.Page.{Page}
use Rattle.luf_doc.specs.Document.{Document}
use Rattle.luf_doc.specs.Layout.{Piece, bytes_of, lay, pieces, layout}
use Rattle.luf_doc.specs.Layout as laid
use Rattle.luf_draft.specs.Draft.{Draft}
use Rattle.luf_gaps.specs.declared.notes.GapNotes.{GapNotes}
use Rattle.luf_style.specs.Filled.{IsFilled}
use Rattle.luf_kept.specs.inner.AreNotes.{AllNotes}
use Rattle.luf_kept.specs.inner.LaidNotes.{notes_of}
use Rattle.luf_kept.specs.inner.LaidWords.{AreSpellings, words_of, BracketsApart, NoHashWord}
use Rattle.luf_kept.specs.inner.Steps.{Steps, begun, free}
use Rattle.luf_kept.proofs.LayRows.{Last, at_start, at_gap, at_word, at_note, bytes_onto, words_onto, notes_onto, Shows, no_bits, Tail, Whole, Links, fits_more, line_fits, row_bits}
use Rattle.luf_kept.proofs.LayNotes.{laid_notes}
use Rattle.luf_kept.proofs.NeatComments.{bit_comments}
use Rattle.luf_kept.proofs.LayWords.{laid_words, laid_takes}
use Rattle.luf_kept.proofs.LayTokens.{brackets_apart, no_hash_word, tokens_spelled, taken_spelled, tokens_of_bits}
use Rattle.luf_kept.proofs.LayDraft.{draft_on}

-- The bits of the layout of a document. They are neat too behind the line feed that ends a `#` line.
pub record LaidNeat (page : Page) (doc : Document) : Type 0 where
  pub bits : List Bit
  pub spelled : EachSpelled bits
  pub neat : Neat bits
  pub behind_line : Neat (record { kind = LineEnd; bytes = codes "\n" } ∷ bits)
  pub joined_is : joined bits ≡ layout page doc
  pub spellings_are : bit_spellings bits ≡ words_of (pieces page doc)
  pub comments_are : bit_comments bits ≡ notes_of (pieces page doc)
  pub shows : Shows (pieces page doc) bits
  pub no_hash : NoHashFirst bits

bytes_back : (page : Page) (done ps : List Piece) → laid.joined page (reverse_aux done ps) ≡ bytes_onto page done (laid.joined page ps)
bytes_back page [] ps = refl
bytes_back page (p ∷ done) ps = bytes_back page done (p ∷ ps)

hash_first : (bits : List Bit) → EachSpelled bits → NoHashWord (bit_spellings bits) → NoHashFirst bits
hash_first [] spelled other = tt
hash_first (p ∷ bits) spelled other = λ is. by_kind p.kind p.bytes (bit_spellings bits) is spelled.1 other
  where
    by_kind : (k : Kind) (bytes : List ℕ) (words : List (List ℕ)) → k ≡ Token (Sign Hash) → Spells k bytes → NoHashWord (cond (is_token k) (bytes ∷ words) words) → ⊥
    by_kind k bytes words is h other =
        subst (λ v. NoHashWord (cond (is_token v) (bytes ∷ words) words)) is other (sym (subst (λ v. Spells v bytes) is h))

links_none : (l : Last) → Links l []
links_none at_start = tt
links_none at_gap = tt
links_none (at_word a) = tt
links_none (at_note a) = tt

abbrev no_tail : Tail [] [] [] []
no_tail = record { bits = []; spelled = tt; fits = tt; joined_is = refl; spellings_are = refl; comments_are = refl; shows = no_bits }

whole_neat : (page : Page) (doc : Document)
    → Whole (pieces page doc) (bytes_onto page (lay page laid.outside 0 0 doc []) []) (words_onto (lay page laid.outside 0 0 doc []) []) (notes_onto (lay page laid.outside 0 0 doc []) [])
    → NoHashWord (words_of (pieces page doc)) → LaidNeat page doc
whole_neat page doc whole other =
    let done : List Piece = lay page laid.outside 0 0 doc [] in
    let bits : List Bit = whole.tail.bits in
    let words : bit_spellings bits ≡ words_of (pieces page doc) = whole.tail.spellings_are ∙ sym (laid_words done) in
    let feed : Bit = record { kind = LineEnd; bytes = codes "\n" } in
    record {
      bits = bits;
      spelled = whole.tail.spelled;
      neat = fits_neat bits whole.tail.spelled whole.tail.fits;
      behind_line = fits_neat (feed ∷ bits) (refl, inl refl, whole.tail.spelled) (fits_more feed bits (line_fits (codes "\n") bits whole.solid) whole.tail.fits);
      joined_is = whole.tail.joined_is ∙ sym (bytes_back page done []);
      spellings_are = words;
      comments_are = whole.tail.comments_are ∙ sym (laid_notes done);
      shows = whole.tail.shows;
      no_hash = hash_first bits whole.tail.spelled (subst NoHashWord (sym words) other);
    }

-- where no `[` comes before a `=`, and no `#` first
pub laid_is_neat : (page : Page) {d : Draft} {gaps left : List GapNotes} {doc : Document} → IsFilled [] [] d gaps left doc → Steps d begun free → AreSpellings d → AllNotes gaps
    → BracketsApart (words_of (pieces page doc)) → NoHashWord (words_of (pieces page doc)) → LaidNeat page doc
laid_is_neat page {doc} is steps spelled each apart other =
    let done : List Piece = lay page laid.outside 0 0 doc [] in
    let state = draft_on page laid.outside 0 0 [] is steps spelled each refl in
    whole_neat page doc (row_bits page state.1 no_tail (links_none state.0) (subst BracketsApart (laid_words done) apart)) other

-- the same of words with tokens: those of the bits
pub record LaidTokens (page : Page) (doc : Document) (toks : List Tok) : Type 0 where
  pub laid : LaidNeat page doc
  pub toks_are : bit_toks laid.bits ≡ toks

pub laid_tokens : (page : Page) {d : Draft} {gaps left : List GapNotes} {doc : Document} (toks : List Tok) → IsFilled [] [] d gaps left doc → Steps d begun free → AllNotes gaps
    → Spelled toks (words_of (pieces page doc)) → BracketsStop toks → (At toks 0 (Sign Hash) → ⊥) → LaidTokens page doc toks
laid_tokens page {d} {doc} toks is steps each spelled brackets none =
    let words : List (List ℕ) = words_of (pieces page doc) in
    let own : AreSpellings d = (taken_spelled d words [] (laid_takes page is) (tokens_spelled toks words spelled)).0 in
    let neat : LaidNeat page doc = laid_is_neat page is steps own each (brackets_apart toks words spelled brackets) (no_hash_word toks words spelled none) in
    record { laid = neat; toks_are = tokens_of_bits toks neat.bits neat.spelled (subst (Spelled toks) (sym neat.spellings_are) spelled) }
