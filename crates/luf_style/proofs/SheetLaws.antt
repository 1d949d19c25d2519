-- What the sheet keeps: columns that are counted up to a greatest number, and the bytes of pieces.
use Rattle.std.proofs.Common.{◌≡◌, ℕ, ◌+◌, ◌*◌, min, Bool, true, false, cond, List, [], ◌∷◌, ◌++◌, reverse, refl, sym, ap, ◌∙◌, subst, arith, zero-add, append-nil, append_assoc}
use Rattle.std.proofs.lemmas.List.{reverse-append}
use Rattle.luf_doc.specs.declared.page.Page.{Page}
use Rattle.luf_doc.specs.Flat.{is_line_end}
use Rattle.luf_doc.specs.Layout.{Piece, line_end, empty_line, indentation, broken, column_after, written_line_end, written_indentation, bytes_of, joined}
use Rattle.luf_style.specs.declared.sheet.Sheet.{Sheet}
use Rattle.luf_style.specs.inner.Shows.{Shows, written}

past_byte : (e : Bool) (bytes : List ℕ) (column most : ℕ) → ((c : ℕ) → min (column_after bytes (min c most)) most ≡ min (column_after bytes c) most)
    → min (column_after bytes (cond e 0 (min column most + 1))) most ≡ min (column_after bytes (cond e 0 (column + 1))) most
past_byte true bytes column most capped = refl
past_byte false bytes column most capped =
    let same : min (min column most + 1) most ≡ min (column + 1) most = omega arith in
    sym (capped (min column most + 1)) ∙ ap (λ c. min (column_after bytes c) most) same ∙ capped (column + 1)

pub capped_column : (bytes : List ℕ) (column most : ℕ) → min (column_after bytes (min column most)) most ≡ min (column_after bytes column) most
capped_column [] column most = omega arith
capped_column (b ∷ bytes) column most = past_byte (is_line_end b) bytes column most (λ c. capped_column bytes c most)

-- one byte more
pub column_more : (b : ℕ) (bytes : List ℕ) (column reached whole most : ℕ) → whole ≡ min (column_after (b ∷ bytes) column) most
    → reached ≡ cond (is_line_end b) 0 (min (column + 1) most) → whole ≡ min (column_after bytes reached) most
column_more b bytes column reached whole most so_far is = so_far ∙ by (is_line_end b) ∙ ap (λ c. min (column_after bytes c) most) (sym is)
  where
    by : (e : Bool) → min (column_after bytes (cond e 0 (column + 1))) most ≡ min (column_after bytes (cond e 0 (min (column + 1) most))) most
    by true = refl
    by false = sym (capped_column bytes (column + 1) most)

-- ---- what the sheet shows

-- a break
pub break_shows : (page : Page) (old new : Sheet) (level : ℕ) (blank : Bool) (done : List Piece) → Shows page old done → old.begun ≡ true
    → new.bytes.behind ≡ ((old.bytes.behind ++ written_line_end page) ++ cond blank (written_line_end page) []) ++ written_indentation page level
    → new.column ≡ min (page.unit * level) 4294967295 → new.begun ≡ old.begun → Shows page new (broken level blank done)
break_shows page old new level blank done shown begun bytes_are column_is begun_is =
    subst (λ (g : Bool). Shows page new (cond g (indentation level ∷ cond blank (empty_line ∷ line_end ∷ done) (line_end ∷ done)) done)) (sym begun ∙ shown.begun) (by blank bytes_are)
  where
    by : (b : Bool) → new.bytes.behind ≡ ((old.bytes.behind ++ written_line_end page) ++ cond b (written_line_end page) []) ++ written_indentation page level
        → Shows page new (indentation level ∷ cond b (empty_line ∷ line_end ∷ done) (line_end ∷ done))
    by true are = record {
      bytes = are ∙ ap (λ bs. ((bs ++ written_line_end page) ++ written_line_end page) ++ written_indentation page level) shown.bytes;
      column = column_is ∙ ap (λ n. min n 4294967295) (sym (zero-add (page.unit * level)));
      begun = begun_is ∙ begun;
    }
    by false are = record {
      bytes = are ∙ ap (λ bs. bs ++ written_indentation page level) (append-nil (old.bytes.behind ++ written_line_end page)) ∙ ap (λ bs. (bs ++ written_line_end page) ++ written_indentation page level) shown.bytes;
      column = column_is ∙ ap (λ n. min n 4294967295) (sym (zero-add (page.unit * level)));
      begun = begun_is ∙ begun;
    }

joined-append : (page : Page) (a b : List Piece) → joined page (a ++ b) ≡ joined page a ++ joined page b
joined-append page [] b = refl
joined-append page (p ∷ a) b = ap (λ bs. bytes_of page p ++ bs) (joined-append page a b) ∙ sym (append_assoc (bytes_of page p) (joined page a) (joined page b))

-- the bytes of pieces, from the first one on
pub written_joined : (page : Page) (done : List Piece) → written page done ≡ joined page (reverse done)
written_joined page [] = refl
written_joined page (p ∷ done) =
    (λ i. written_joined page done i ++ sym (append-nil (bytes_of page p)) i)
    ∙ sym (joined-append page (reverse done) (p ∷ []))
    ∙ ap (joined page) (sym (reverse-append (p ∷ []) done))
