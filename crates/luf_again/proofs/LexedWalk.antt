-- The comments before each token of the cut, and the empty lines there, are those that the pieces of the layout show.
use Rattle.std.specs.Prelude.{slice_range}
use Rattle.std.proofs.Common.{◌≡◌, ℕ, zero, suc, ◌+◌, Bool, true, false, not, ◌&&◌, ◌||◌, cond, List, [], ◌∷◌, ◌++◌, map, nat_le, reverse, refl, sym, ap, ◌∙◌, subst, arith}
use Rattle.std.proofs.lemmas.Bool.{ne_eqb, eq-eqb}
use Rattle.luf_doc.specs.declared.doc.Remark.{Remark}
use Rattle.luf_doc.specs.Layout.{Piece, word, note, space, line_end, empty_line, indentation}
use Rattle.luf_lex.specs.Note.{is_comment, is_line_end, is_content, note_of, has_empty_line, lead_of, blank_of}
use Rattle.luf_lex.specs.Tokens.{is_token}
use Rattle.luf_lex.specs.declared.note.Note.{Note}
use Rattle.luf_lex.specs.declared.token.Piece as lexed
use Rattle.luf_again.specs.Beside.{AllBeside}
use Rattle.luf_again.specs.Lexed.{Lexed, IsHead, no_head, hash_line, read_note, notes_before, blank_before, ReadsAt}
use Rattle.luf_again.specs.Lexed as lex
use Rattle.luf_again.specs.Shown.{is_line_start, has_blank, shown}
use Rattle.luf_again.proofs.LexedKinds.{token_kind, starts, ends_in, tokens_in}
use Rattle.luf_again.proofs.LexedPlaces.{is_line_after, line_start, empty_before, line_after}
use Rattle.luf_again.proofs.LexedSteps.{leads_in, leads_at, none_here, one_here, not_here, passed, blanks_in, blanks_at, skipped}
use Rattle.luf_again.proofs.ShownOrder.{onto, onto_reverse, below, shown_from, in_order}

-- what stands before the layout tells nothing
record IsClear (front : List lexed.Piece) : Type 0 where
  start : starts front ≡ true
  few : nat_le 2 (ends_in front) ≡ false
  tokens : tokens_in front ≡ 0

-- a piece that is no token
same_tokens : (rev : List lexed.Piece) (p : lexed.Piece) → is_token p.kind ≡ false → tokens_in (p ∷ rev) ≡ tokens_in rev
same_tokens rev p is = ap (λ (b : Bool). cond b (suc (tokens_in rev)) (tokens_in rev)) is

one_token : (rev : List lexed.Piece) (p : lexed.Piece) → is_token p.kind ≡ true → tokens_in (p ∷ rev) ≡ suc (tokens_in rev)
one_token rev p is = ap (λ (b : Bool). cond b (suc (tokens_in rev)) (tokens_in rev)) is

module _ (short : List ℕ → Bool) (source : List ℕ) (front : List lexed.Piece) where
  read : List Note → List Remark
  read notes = map (read_note short source) notes

  note_same : (bytes : List ℕ) (p : lexed.Piece) (done ps : List Piece) (rev after : List lexed.Piece) → IsClear front → AllBeside short done → Lexed source front done rev → Lexed source [] ps after
      → slice_range source p.span.from p.span.to ≡ bytes
      → read_note short source (note_of (reverse rev) p after)
      ≡ record { text = bytes; own_line = is_line_start done; ends_line = short bytes || is_line_after ps; blank = has_blank done }
  note_same bytes p done ps rev after clear beside before rest same =
      let start = line_start short source front done rev clear.start before in
      let stop = line_after source ps after rest in
      let empty = empty_before short source front done rev clear.few beside before in
      λ i. record { text = same i; own_line = start i; ends_line = short (same i) || stop i; blank = empty i }

  leads_same : (n m : ℕ) (done ps : List Piece) (rev after : List lexed.Piece) → IsClear front → AllBeside short (onto ps done) → Lexed source front done rev → Lexed source [] ps after → n ≡ tokens_in rev + m
      → read (leads_in n rev after) ≡ notes_before m (shown_from short done ps)
  unfolding read
  leads_same n m done _ rev _ clear beside before lex.none e = refl
  leads_same n zero done _ rev _ clear beside before (lex.a_word bytes p ps after is rest) e =
      let kind = token_kind p.kind is in
      let more = one_token rev p is in
      ap (map (read_note short source)) (none_here n rev p after kind.0 ∙ passed n (p ∷ rev) after (omega (arith, more, e)))
  leads_same n (suc m) done _ rev _ clear beside before (lex.a_word bytes p ps after is rest) e =
      let kind = token_kind p.kind is in
      let more = one_token rev p is in
      ap (map (read_note short source)) (none_here n rev p after kind.0)
      ∙ leads_same n m (word bytes ∷ done) ps (p ∷ rev) after clear beside (lex.a_word bytes p done rev is before) rest (omega (arith, more, e))
  leads_same n zero done _ rev _ clear beside before (lex.a_note bytes p ps after is same rest) e =
      let more = same_tokens rev p (ap is_token is) in
      let here = note_same bytes p done ps rev after clear (below short (note bytes ∷ ps) done beside) before rest same in
      let later = leads_same n zero (note bytes ∷ done) ps (p ∷ rev) after clear beside (lex.a_note bytes p done rev is same before) rest (omega (arith, more, e)) in
      ap (map (read_note short source)) (one_here n rev p after (ap is_comment is) (eq-eqb (tokens_in rev) n (omega (arith, e))))
      ∙ (λ i. here i ∷ later i)
  leads_same n (suc m) done _ rev _ clear beside before (lex.a_note bytes p ps after is same rest) e =
      let more = same_tokens rev p (ap is_token is) in
      ap (map (read_note short source)) (not_here n rev p after (ne_eqb (tokens_in rev) n (λ f. absurd (omega (arith, e, f)))))
      ∙ leads_same n (suc m) (note bytes ∷ done) ps (p ∷ rev) after clear beside (lex.a_note bytes p done rev is same before) rest (omega (arith, more, e))
  leads_same n m done _ rev _ clear beside before (lex.a_space p ps after is rest) e =
      let more = same_tokens rev p (ap is_token is) in
      ap (map (read_note short source)) (none_here n rev p after (ap is_comment is))
      ∙ leads_same n m (space ∷ done) ps (p ∷ rev) after clear beside (lex.a_space p done rev is before) rest (omega (arith, more, e))
  leads_same n m done _ rev _ clear beside before (lex.a_line_end p ps after is rest) e =
      let more = same_tokens rev p (ap is_token is) in
      ap (map (read_note short source)) (none_here n rev p after (ap is_comment is))
      ∙ leads_same n m (line_end ∷ done) ps (p ∷ rev) after clear beside (lex.a_line_end p done rev is before) rest (omega (arith, more, e))
  leads_same n m done _ rev _ clear beside before (lex.an_empty_line p ps after is rest) e =
      let more = same_tokens rev p (ap is_token is) in
      ap (map (read_note short source)) (none_here n rev p after (ap is_comment is))
      ∙ leads_same n m (empty_line ∷ done) ps (p ∷ rev) after clear beside (lex.an_empty_line p done rev is before) rest (omega (arith, more, e))
  leads_same n m done _ rev _ clear beside before (lex.indented level p ps after is rest) e =
      let more = same_tokens rev p (ap is_token is) in
      ap (map (read_note short source)) (none_here n rev p after (ap is_comment is))
      ∙ leads_same n m (indentation level ∷ done) ps (p ∷ rev) after clear beside (lex.indented level p done rev is before) rest (omega (arith, more, e))
  leads_same n m done _ rev _ clear beside before (lex.not_indented level ps after rest) e =
      leads_same n m (indentation level ∷ done) ps rev after clear beside (lex.not_indented level done rev before) rest e

  blanks_same : (m : ℕ) (done ps : List Piece) (rev after : List lexed.Piece) → IsClear front → AllBeside short (onto ps done) → Lexed source front done rev → Lexed source [] ps after
      → blanks_in m rev after ≡ blank_before m (shown_from short done ps) (has_blank (onto ps done))
  blanks_same zero done _ rev _ clear beside before lex.none = empty_before short source front done rev clear.few beside before
  blanks_same (suc m) done _ rev _ clear beside before lex.none = empty_before short source front done rev clear.few beside before
  blanks_same zero done _ rev _ clear beside before (lex.a_word bytes p ps after is rest) =
      ap (λ (b : Bool). cond b (has_empty_line (reverse rev)) (blanks_in zero (p ∷ rev) after)) is
      ∙ empty_before short source front done rev clear.few (below short (word bytes ∷ ps) done beside) before
  blanks_same (suc m) done _ rev _ clear beside before (lex.a_word bytes p ps after is rest) =
      ap (λ (b : Bool). cond b (blanks_in m (p ∷ rev) after) (blanks_in (suc m) (p ∷ rev) after)) is
      ∙ blanks_same m (word bytes ∷ done) ps (p ∷ rev) after clear beside (lex.a_word bytes p done rev is before) rest
  blanks_same zero done _ rev _ clear beside before (lex.a_note bytes p ps after is same rest) =
      skipped zero rev p after (ap is_token is) ∙ blanks_same zero (note bytes ∷ done) ps (p ∷ rev) after clear beside (lex.a_note bytes p done rev is same before) rest
  blanks_same (suc m) done _ rev _ clear beside before (lex.a_note bytes p ps after is same rest) =
      skipped (suc m) rev p after (ap is_token is) ∙ blanks_same (suc m) (note bytes ∷ done) ps (p ∷ rev) after clear beside (lex.a_note bytes p done rev is same before) rest
  blanks_same m done _ rev _ clear beside before (lex.a_space p ps after is rest) =
      skipped m rev p after (ap is_token is) ∙ blanks_same m (space ∷ done) ps (p ∷ rev) after clear beside (lex.a_space p done rev is before) rest
  blanks_same m done _ rev _ clear beside before (lex.a_line_end p ps after is rest) =
      skipped m rev p after (ap is_token is) ∙ blanks_same m (line_end ∷ done) ps (p ∷ rev) after clear beside (lex.a_line_end p done rev is before) rest
  blanks_same m done _ rev _ clear beside before (lex.an_empty_line p ps after is rest) =
      skipped m rev p after (ap is_token is) ∙ blanks_same m (empty_line ∷ done) ps (p ∷ rev) after clear beside (lex.an_empty_line p done rev is before) rest
  blanks_same m done _ rev _ clear beside before (lex.indented level p ps after is rest) =
      skipped m rev p after (ap is_token is) ∙ blanks_same m (indentation level ∷ done) ps (p ∷ rev) after clear beside (lex.indented level p done rev is before) rest
  blanks_same m done _ rev _ clear beside before (lex.not_indented level ps after rest) =
      blanks_same m (indentation level ∷ done) ps rev after clear beside (lex.not_indented level done rev before) rest

-- ---- the whole text

whole : (short : List ℕ → Bool) (source : List ℕ) (front body pieces : List lexed.Piece) (ps : List Piece) (n : ℕ) → IsClear front → Lexed source [] ps body → AllBeside short (reverse ps)
    → lead_of pieces n ≡ leads_in n front body → blank_of pieces n ≡ blanks_in n front body
    → ReadsAt short source pieces n (shown short ps)
unfolding read
whole short source front body pieces ps n clear at beside leads blanks =
    let all : AllBeside short (onto ps []) = subst (AllBeside short) (sym (onto_reverse ps)) beside in
    let tokens = clear.tokens in
    record {
      notes = ap (map (read_note short source)) leads ∙ leads_same short source front n n [] ps front body clear all lex.none at (omega (arith, tokens)) ∙ ap (notes_before n) (sym (in_order short ps));
      blank = blanks ∙ blanks_same short source front n [] ps front body clear all lex.none at
          ∙ (λ i. blank_before n (sym (in_order short ps) i) (has_blank (onto_reverse ps i)));
    }

pub cut_reads : (short : List ℕ → Bool) (source : List ℕ) (head body : List lexed.Piece) (ps : List Piece) (n : ℕ) → IsHead head → Lexed source [] ps body → AllBeside short (reverse ps)
    → ReadsAt short source (head ++ body) n (shown short ps)
cut_reads short source _ body ps n no_head at beside =
    whole short source [] body body ps n (record { start = refl; few = refl; tokens = refl }) at beside (leads_at n [] body) (blanks_at n body)
cut_reads short source _ body ps n (hash_line p q hash end) at beside =
    whole short source (q ∷ p ∷ []) body (p ∷ q ∷ body) ps n
    (record {
      start = λ i. cond (is_line_end (end i)) true (not (is_content (end i)) && starts (p ∷ []));
      few = λ i. nat_le 2 (cond (is_content (end i)) 0 (cond (is_line_end (end i)) (1 + cond (is_content (hash i)) 0 (cond (is_line_end (hash i)) (1 + 0) 0)) (cond (is_content (hash i)) 0 (cond (is_line_end (hash i)) (1 + 0) 0))));
      tokens = λ i. cond (is_token (end i)) (suc (cond (is_token (hash i)) (suc 0) 0)) (cond (is_token (hash i)) (suc 0) 0);
    }) at beside
    (leads_at n [] (p ∷ q ∷ body) ∙ none_here n [] p (q ∷ body) (ap is_comment hash) ∙ none_here n (p ∷ []) q body (ap is_comment end))
    (blanks_at n (p ∷ q ∷ body) ∙ skipped n [] p (q ∷ body) (ap is_token hash) ∙ skipped n (p ∷ []) q body (ap is_token end))
