-- At each place the cut says what the pieces of the layout show.
use Rattle.std.proofs.Common.{◌≡◌, ℕ, ◌+◌, Bool, true, false, not, ◌&&◌, cond, List, [], ◌∷◌, nat_le, reverse, refl, sym, ap, ◌∙◌}
use Rattle.std.proofs.lemmas.Bool.{false≢true}
use Rattle.luf_doc.specs.Layout.{Piece, word, note, space, line_end, empty_line, indentation}
use Rattle.luf_lex.specs.Note.{is_comment, is_blank_kind, is_line_end, is_content, at_line_start, at_line_end, has_empty_line}
use Rattle.luf_lex.specs.Tokens.{is_token}
use Rattle.luf_lex.specs.declared.token.Piece as lexed
use Rattle.luf_again.specs.Beside.{Begins, word_first, note_first, Fits, alone, AllBeside, more}
use Rattle.luf_again.specs.Lexed.{Lexed, IsHead, no_head, hash_line}
use Rattle.luf_again.specs.Lexed as lex
use Rattle.luf_again.specs.Shown.{is_line_start, line_ends, has_blank}
use Rattle.luf_again.proofs.Truth.{or_at}
use Rattle.luf_again.proofs.LexedKinds.{token_kind, starts, starts_at, stops, stops_at, ends_in, ends_at}

-- only blanks stand up to a line end or the end of these pieces, in order
abbrev pub is_line_after : List Piece → Bool
is_line_after [] = true
is_line_after (word bytes ∷ ps) = false
is_line_after (note bytes ∷ ps) = false
is_line_after (space ∷ ps) = is_line_after ps
is_line_after (line_end ∷ ps) = true
is_line_after (empty_line ∷ ps) = true
is_line_after (indentation level ∷ ps) = is_line_after ps

content : (p : lexed.Piece) → is_token p.kind ≡ true → is_content p.kind ≡ true
content p is = or_at (is_token p.kind) (is_comment p.kind) is

module _ (source : List ℕ) (front : List lexed.Piece) where
  start_same : (done : List Piece) (rev : List lexed.Piece) → starts front ≡ true → Lexed source front done rev → starts rev ≡ is_line_start done
  start_same _ _ clear lex.none = clear
  start_same _ _ clear (lex.a_word bytes p done rev is before) =
      let plain = (token_kind p.kind is).2 in
      let full = content p is in
      λ i. cond (plain i) true (not (full i) && starts rev)
  start_same _ _ clear (lex.a_note bytes p done rev is same before) = λ i. cond (is_line_end (is i)) true (not (is_content (is i)) && starts rev)
  start_same _ _ clear (lex.a_space p done rev is before) =
      (λ i. cond (is_line_end (is i)) true (not (is_content (is i)) && starts rev)) ∙ start_same done rev clear before
  start_same _ _ clear (lex.a_line_end p done rev is before) = λ i. cond (is_line_end (is i)) true (not (is_content (is i)) && starts rev)
  start_same _ _ clear (lex.an_empty_line p done rev is before) = λ i. cond (is_line_end (is i)) true (not (is_content (is i)) && starts rev)
  start_same _ _ clear (lex.indented level p done rev is before) =
      (λ i. cond (is_line_end (is i)) true (not (is_content (is i)) && starts rev)) ∙ start_same done rev clear before
  start_same _ _ clear (lex.not_indented level done rev before) = start_same done rev clear before

stop_same : (source : List ℕ) (ps : List Piece) (after : List lexed.Piece) → Lexed source [] ps after → stops after ≡ is_line_after ps
stop_same source _ _ lex.none = refl
stop_same source _ _ (lex.a_word bytes p ps after is rest) =
    let kind = token_kind p.kind is in
    λ i. cond (kind.2 i) true (kind.1 i && stops after)
stop_same source _ _ (lex.a_note bytes p ps after is same rest) = λ i. cond (is_line_end (is i)) true (is_blank_kind (is i) && stops after)
stop_same source _ _ (lex.a_space p ps after is rest) = (λ i. cond (is_line_end (is i)) true (is_blank_kind (is i) && stops after)) ∙ stop_same source ps after rest
stop_same source _ _ (lex.a_line_end p ps after is rest) = λ i. cond (is_line_end (is i)) true (is_blank_kind (is i) && stops after)
stop_same source _ _ (lex.an_empty_line p ps after is rest) = λ i. cond (is_line_end (is i)) true (is_blank_kind (is i) && stops after)
stop_same source _ _ (lex.indented level p ps after is rest) = (λ i. cond (is_line_end (is i)) true (is_blank_kind (is i) && stops after)) ∙ stop_same source ps after rest
stop_same source _ _ (lex.not_indented level ps after rest) = stop_same source ps after rest

-- ---- line ends: those of the head count only where nothing stands behind it

abbrev total : ℕ → List Piece → ℕ
total n [] = n
total n (p ∷ done) = line_ends (p ∷ done)

abbrev is_text : Piece → Bool
is_text (word bytes) = true
is_text (note bytes) = true
is_text space = false
is_text line_end = false
is_text empty_line = false
is_text (indentation level) = false

begins_text : (p : Piece) → Begins p → is_text p ≡ true
begins_text _ (word_first bytes) = refl
begins_text _ (note_first bytes) = refl

rooted : (short : List ℕ → Bool) (n : ℕ) (p : Piece) (done : List Piece) → Fits short p done → is_text p ≡ false → total n done ≡ line_ends done
rooted short n p [] (alone _ first) is = absurd (false≢true (sym is ∙ begins_text p first))
rooted short n p (q ∷ done) fits is = refl

fits_of : (short : List ℕ → Bool) (p : Piece) (done : List Piece) → AllBeside short (p ∷ done) → Fits short p done
fits_of short p done (more _ _ fits written rest) = fits

pub rest_of : (short : List ℕ → Bool) (p : Piece) (done : List Piece) → AllBeside short (p ∷ done) → AllBeside short done
rest_of short p done (more _ _ fits written rest) = rest

module _ (short : List ℕ → Bool) (source : List ℕ) (front : List lexed.Piece) where
  ends_same : (done : List Piece) (rev : List lexed.Piece) → AllBeside short done → Lexed source front done rev → ends_in rev ≡ total (ends_in front) done
  ends_same _ _ beside lex.none = refl
  ends_same _ _ beside (lex.a_word bytes p done rev is before) =
      let full = content p is in
      λ i. cond (full i) 0 (cond (is_line_end p.kind) (1 + ends_in rev) (ends_in rev))
  ends_same _ _ beside (lex.a_note bytes p done rev is same before) = λ i. cond (is_content (is i)) 0 (cond (is_line_end (is i)) (1 + ends_in rev) (ends_in rev))
  ends_same _ _ beside (lex.a_space p done rev is before) =
      (λ i. cond (is_content (is i)) 0 (cond (is_line_end (is i)) (1 + ends_in rev) (ends_in rev)))
      ∙ ends_same done rev (rest_of short space done beside) before ∙ rooted short (ends_in front) space done (fits_of short space done beside) refl
  ends_same _ _ beside (lex.a_line_end p done rev is before) =
      (λ i. cond (is_content (is i)) 0 (cond (is_line_end (is i)) (1 + ends_in rev) (ends_in rev)))
      ∙ ap (λ n. 1 + n) (ends_same done rev (rest_of short line_end done beside) before ∙ rooted short (ends_in front) line_end done (fits_of short line_end done beside) refl)
  ends_same _ _ beside (lex.an_empty_line p done rev is before) =
      (λ i. cond (is_content (is i)) 0 (cond (is_line_end (is i)) (1 + ends_in rev) (ends_in rev)))
      ∙ ap (λ n. 1 + n) (ends_same done rev (rest_of short empty_line done beside) before ∙ rooted short (ends_in front) empty_line done (fits_of short empty_line done beside) refl)
  ends_same _ _ beside (lex.indented level p done rev is before) =
      (λ i. cond (is_content (is i)) 0 (cond (is_line_end (is i)) (1 + ends_in rev) (ends_in rev)))
      ∙ ends_same done rev (rest_of short (indentation level) done beside) before ∙ rooted short (ends_in front) (indentation level) done (fits_of short (indentation level) done beside) refl
  ends_same _ _ beside (lex.not_indented level done rev before) =
      ends_same done rev (rest_of short (indentation level) done beside) before ∙ rooted short (ends_in front) (indentation level) done (fits_of short (indentation level) done beside) refl

  -- ---- a place

  pub line_start : (done : List Piece) (rev : List lexed.Piece) → starts front ≡ true → Lexed source front done rev → at_line_start (reverse rev) ≡ is_line_start done
  line_start done rev clear before = starts_at rev ∙ start_same source front done rev clear before

  pub empty_before : (done : List Piece) (rev : List lexed.Piece) → nat_le 2 (ends_in front) ≡ false → AllBeside short done → Lexed source front done rev → has_empty_line (reverse rev) ≡ has_blank done
  empty_before done rev few beside before = ends_at rev ∙ ap (nat_le 2) (ends_same done rev beside before) ∙ by done
    where
      by : (done : List Piece) → nat_le 2 (total (ends_in front) done) ≡ has_blank done
      by [] = few
      by (p ∷ done) = refl

pub line_after : (source : List ℕ) (ps : List Piece) (after : List lexed.Piece) → Lexed source [] ps after → at_line_end after ≡ is_line_after ps
line_after source ps after rest = stops_at after ∙ stop_same source ps after rest
