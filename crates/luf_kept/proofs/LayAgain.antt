-- The layout of a document, behind the `#` line of its source, has its words' tokens, its notes as comments, and that line.
use Rattle.std.proofs.Common.{◌≡◌, ℕ, ◌+◌, ◌-◌, ◌<◌, ◌⊎◌, inl, inr, Bool, true, false, cond, eqb, List, [], ◌∷◌, ◌++◌, length, append-nil, append_assoc, take, drop, codes, refl, sym, ap, ◌∙◌, subst, arith}
use Rattle.std.specs.Prelude.{slice_range}
use Rattle.std.specs.List.{prefix_len}
use Rattle.std.proofs.Math.Seq.{take-append_seam, drop-append_seam}
use Rattle.std.proofs.lemmas.Bool.{false≢true}
use Rattle.std.proofs.lemmas.Bool.Decides.{nat_tests}
use Rattle.luf_byte.specs.Class.{in_line}
use Rattle.luf_byte.specs.Front.{begins}
use Rattle.luf_lex.specs.Spelling.{IsHashLine}
use Rattle.luf_lex.specs.First.{is_tried, group_of}
use Rattle.luf_lex.specs.declared.group.Group.{Group}
use Rattle.luf_lex.specs.declared.group.Group.TheVariants.{Quoted}
use Rattle.luf_lex.specs.Cut.{Cuts, IsCut, mark_length, hash_length, head_end}
use Rattle.luf_lex.specs.declared.token.Tok.{Tok}
use Rattle.luf_lex.specs.declared.token.Tok.TheVariants.{Sign}
use Rattle.luf_lex.specs.declared.token.Sign.TheVariants.{Hash}
use Rattle.luf_lex.specs.declared.token.Kind.{Kind}
use Rattle.luf_lex.specs.declared.token.Kind.TheVariants.{LineEnd, HashLine}
use Rattle.luf_lex.specs.declared.token.Piece.{Piece}
use Rattle.luf_lex.proofs.RunLemmas.{front_passes, begins_take}
use Rattle.luf_neat.specs.Pieces.{Bit, is_loose, joined, pieces_at}
use Rattle.luf_neat.proofs.NeatCut.{neat_cut, neat_hash_cut, neat_toks, neat_spellings}
use Rattle.luf_neat.proofs.NeatFits.{EachSpelled}
use Rattle.luf_tree.specs.Grammar.{At}
use Rattle.luf_min.specs.Text.{is_hash_line, hash_text}
use Rattle.luf_min.proofs.TextAgain.{TextAgain, marked, hashed}
use Rattle.luf_min.proofs.TokensCut.{Spelled, BracketsStop}
use Rattle.luf_doc.specs.declared.page.Page.{Page}
use Rattle.luf_doc.specs.Document.{Document}
use Rattle.luf_doc.specs.Layout.{pieces as laid_pieces, layout}
use Rattle.luf_draft.specs.Draft.{Draft}
use Rattle.luf_gaps.specs.declared.notes.GapNotes.{GapNotes}
use Rattle.luf_style.specs.Filled.{IsFilled}
use Rattle.luf_style.specs.Styled as styled
use Rattle.luf_kept.specs.inner.AreNotes.{AllNotes}
use Rattle.luf_kept.specs.Kept.{comments_in}
use Rattle.luf_kept.specs.inner.LaidNotes.{notes_of}
use Rattle.luf_kept.specs.inner.LaidWords.{words_of}
use Rattle.luf_kept.specs.inner.Steps.{Steps, begun, free}
use Rattle.luf_kept.proofs.LayRows.{Shows}
use Rattle.luf_kept.proofs.LayNeat.{LaidTokens, laid_tokens}
use Rattle.luf_kept.proofs.NeatComments.{drop_front, neat_comments}

-- ---- the `#` line of a source

no_hash_tried : (g : Group) → is_tried g HashLine ≡ true → ⊥
no_hash_tried Quoted h = false≢true h
no_hash_tried _ h = false≢true h

tried_no_hash : (g : Group) (k : Kind) → is_tried g k ≡ true → is_hash_line k ≡ false
tried_no_hash g HashLine h = absurd (no_hash_tried g h)
tried_no_hash g _ h = refl

-- no `#` line stands behind the head
no_hash_behind : (source : List ℕ) (at : ℕ) (pieces : List Piece) (to : ℕ) → Cuts source at pieces to → hash_text source pieces ≡ []
no_hash_behind source at [] to cut = refl
no_hash_behind source at (p ∷ pieces) to cut =
    ap (λ v. cond v (slice_range source p.span.from p.span.to ++ codes "\n") [] ++ hash_text source pieces) (tried_no_hash (group_of (drop at source)) p.kind cut.2.tried)
    ∙ no_hash_behind source p.span.to pieces to cut.3

head_text : (source : List ℕ) (v w : Bool) (m n : ℕ) (rest : List Piece) → hash_text source rest ≡ [] → hash_text source ((marked v m ++ hashed w m n) ++ rest) ≡ cond w [] (slice_range source m n ++ codes "\n")
head_text source true true m n rest none = none
head_text source false true m n rest none = none
head_text source true false m n rest none = ap (λ t. (slice_range source m n ++ codes "\n") ++ t) none ∙ append-nil (slice_range source m n ++ codes "\n")
head_text source false false m n rest none = ap (λ t. (slice_range source m n ++ codes "\n") ++ t) none ∙ append-nil (slice_range source m n ++ codes "\n")

-- that of its pieces is that of the source
pub source_hash : (source : List ℕ) (pieces : List Piece) → IsCut source pieces → hash_text source pieces ≡ styled.hash_text source
source_hash source pieces cut =
    ap (hash_text source) cut.head
    ∙ head_text source (eqb (mark_length source) 0) (eqb (head_end source) (mark_length source)) (mark_length source) (head_end source) cut.rest
    (no_hash_behind source (head_end source) cut.rest (length source) cut.cut)

-- what the head counts as a `#` line is one
hash_front : (text : List ℕ) (v : Bool) → begins (λ b. eqb b 35) text ≡ v → 0 < cond v (prefix_len in_line text) 0 → IsHashLine (take (cond v (prefix_len in_line text) 0) text)
hash_front text true e some = record { first = begins_take (λ b. eqb b 35) text (prefix_len in_line text) some ∙ e; each = front_passes in_line text }
hash_front text false e some = absurd (omega (arith, some))

hash_line_in : (source : List ℕ) → eqb (head_end source) (mark_length source) ≡ false → IsHashLine (slice_range source (mark_length source) (head_end source))
hash_line_in source some =
    let text : List ℕ = drop (mark_length source) source in
    let more : 0 < hash_length text = grind (arith, nat_tests) in
    subst (λ n. IsHashLine (take n text)) (omega arith) (hash_front text (begins (λ b. eqb b 35) text) refl more)

-- ---- the `#` line of bits

loose_no_hash : (k : Kind) → is_loose k ≡ true → is_hash_line k ≡ false
loose_no_hash HashLine h = absurd (false≢true h)
loose_no_hash _ h = refl

bits_no_hash : (source : List ℕ) (at : ℕ) (bits : List Bit) → EachSpelled bits → hash_text source (pieces_at at bits) ≡ []
bits_no_hash source at [] h = refl
bits_no_hash source at (p ∷ bits) h =
    ap (λ v. cond v (slice_range source at (at + length p.bytes) ++ codes "\n") [] ++ hash_text source (pieces_at (at + length p.bytes) bits)) (loose_no_hash p.kind h.0)
    ∙ bits_no_hash source (at + length p.bytes) bits h.2

-- ---- the text

-- nothing, or a `#` line and its end
abbrev pub IsHead : List Piece → Type 0
IsHead head = (head ≡ []) ⊎ ((p : Piece) × (q : Piece) × (head ≡ p ∷ q ∷ []) × (p.kind ≡ HashLine) × (q.kind ≡ LineEnd))

-- A text with the words and the notes of a layout. Behind its head stands one bit for each piece of the layout.
pub record LaidAgain (source : List ℕ) (pieces : List Piece) (toks : List Tok) (page : Page) (doc : Document) (text : List ℕ) : Type 0 where
  pub again : TextAgain source pieces toks (words_of (laid_pieces page doc)) text
  pub comments_are : comments_in text again.others ≡ notes_of (laid_pieces page doc)
  pub head : List Piece
  pub at : ℕ
  pub bits : List Bit
  pub is_head : IsHead head
  pub others_are : again.others ≡ head ++ pieces_at at bits
  pub behind_head : drop at text ≡ joined bits
  pub shows : Shows (laid_pieces page doc) bits

module _ (source : List ℕ) (pieces : List Piece) (cut : IsCut source pieces) (page : Page) (doc : Document) (toks : List Tok) (is : LaidTokens page doc toks) where
  abbrev bits : List Bit
  bits = is.laid.bits

  abbrev feed : Bit
  feed = record { kind = LineEnd; bytes = codes "\n" }

  alone : styled.hash_text source ≡ [] → LaidAgain source pieces toks page doc (layout page doc)
  alone none = subst (λ t. LaidAgain source pieces toks page doc t) is.laid.joined_is (record {
    again = record {
      others = pieces_at 0 bits;
      cut = neat_cut bits is.laid.neat is.laid.no_hash;
      toks_are = neat_toks 0 bits ∙ is.toks_are;
      spellings_are = neat_spellings (joined bits) 0 bits refl ∙ is.laid.spellings_are;
      hash = bits_no_hash (joined bits) 0 bits is.laid.spelled ∙ sym none ∙ sym (source_hash source pieces cut);
    };
    comments_are = neat_comments (joined bits) 0 bits refl ∙ is.laid.comments_are;
    head = [];
    at = 0;
    bits = bits;
    is_head = inl refl;
    others_are = refl;
    behind_head = refl;
    shows = is.laid.shows;
  })

  behind : (front : List ℕ) → IsHashLine front → styled.hash_text source ≡ front ++ codes "\n" → LaidAgain source pieces toks page doc (front ++ joined (feed ∷ bits))
  behind front line some =
      let text : List ℕ = front ++ joined (feed ∷ bits) in
      let size : length front - 0 ≡ length front = omega arith in
      record {
        again = record {
          others = record { kind = HashLine; span = record { from = 0; to = length front } } ∷ pieces_at (length front) (feed ∷ bits);
          cut = neat_hash_cut front (feed ∷ bits) line refl is.laid.behind_line;
          toks_are = neat_toks (length front) (feed ∷ bits) ∙ is.toks_are;
          spellings_are = neat_spellings text (length front) (feed ∷ bits) (drop-append_seam front (joined (feed ∷ bits))) ∙ is.laid.spellings_are;
          hash = ap (λ t. (slice_range text 0 (length front) ++ codes "\n") ++ t) (bits_no_hash text (length front + 1) bits is.laid.spelled)
              ∙ append-nil (slice_range text 0 (length front) ++ codes "\n")
              ∙ ap (λ n. take n text ++ codes "\n") size
              ∙ ap (λ t. t ++ codes "\n") (take-append_seam front (joined (feed ∷ bits)))
              ∙ sym some ∙ sym (source_hash source pieces cut);
        };
        comments_are = neat_comments text (length front) (feed ∷ bits) (drop-append_seam front (joined (feed ∷ bits))) ∙ is.laid.comments_are;
        head = record { kind = HashLine; span = record { from = 0; to = length front } } ∷ record { kind = LineEnd; span = record { from = length front; to = length front + 1 } } ∷ [];
        at = length front + 1;
        bits = bits;
        is_head = inr (_, _, refl, refl, refl);
        others_are = refl;
        behind_head = drop_front text (codes "\n") (joined bits) (length front) (drop-append_seam front (joined (feed ∷ bits)));
        shows = is.laid.shows;
      }

  laid_behind : LaidAgain source pieces toks page doc (styled.hash_text source ++ layout page doc)
  laid_behind = by_head (eqb (head_end source) (mark_length source)) refl
    where
      by_head : (v : Bool) → eqb (head_end source) (mark_length source) ≡ v → LaidAgain source pieces toks page doc (styled.hash_text source ++ layout page doc)
      by_head true e =
          let none : styled.hash_text source ≡ [] = ap (λ v. cond v [] (slice_range source (mark_length source) (head_end source) ++ codes "\n")) e in
          subst (λ h. LaidAgain source pieces toks page doc (h ++ layout page doc)) (sym none) (alone none)
      by_head false e =
          let front : List ℕ = slice_range source (mark_length source) (head_end source) in
          let some : styled.hash_text source ≡ front ++ codes "\n" = ap (λ v. cond v [] (front ++ codes "\n")) e in
          let text : front ++ joined (feed ∷ bits) ≡ styled.hash_text source ++ layout page doc =
          ap (λ t. front ++ 10 ∷ t) is.laid.joined_is ∙ sym (append_assoc front (codes "\n") (layout page doc)) ∙ ap (λ h. h ++ layout page doc) (sym some) in
          subst (λ t. LaidAgain source pieces toks page doc t) text (behind front (hash_line_in source e) some)

-- the formatted text of a source, where its words have these tokens
pub laid_again : (source : List ℕ) (pieces : List Piece) (page : Page) {d : Draft} {gaps left : List GapNotes} {doc : Document} (toks : List Tok) → IsCut source pieces
    → IsFilled [] [] d gaps left doc → Steps d begun free → AllNotes gaps → Spelled toks (words_of (laid_pieces page doc)) → BracketsStop toks → (At toks 0 (Sign Hash) → ⊥)
    → LaidAgain source pieces toks page doc (styled.hash_text source ++ layout page doc)
laid_again source pieces page {doc} toks cut is steps each spelled brackets none = laid_behind source pieces cut page doc toks (laid_tokens page toks is steps each spelled brackets none)
