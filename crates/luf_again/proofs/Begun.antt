-- Where something surely is written.
use Rattle.std.specs.List.{list_any}
use Rattle.std.proofs.Common.{◌≡◌, ℕ, ◌+◌, Bool, true, false, not, ◌&&◌, ◌||◌, cond, List, [], ◌∷◌, refl, ◌∙◌}
use Rattle.luf_doc.specs.declared.doc.Chance.{Chance}
use Rattle.luf_doc.specs.declared.doc.Chance.TheVariants.{Tight, Space, Soft, Line, Hard}
use Rattle.luf_doc.specs.declared.doc.Gap.{Gap}
use Rattle.luf_doc.specs.declared.doc.Remark.{Remark}
use Rattle.luf_doc.specs.declared.page.Page.{Page}
use Rattle.luf_doc.specs.Document.{Document, Documents, text, between, trail, nest, group, sequence, nothing, also}
use Rattle.luf_doc.specs.Flat.{forces, flat, all_lead}
use Rattle.luf_doc.specs.Layout.{Piece, word, Mode, is_broken, is_begun, has_bytes, column_of, broken, must_break, unbroken, lay_notes, lay_gap, mode_of, lay, lay_all, comma}
use Rattle.luf_again.specs.Formed.{note_writes, writes, any_writes}
use Rattle.luf_again.proofs.Truth.{or_on, moved}
use Rattle.luf_again.proofs.SameGap.{begun_break}

begun_notes : (gap : Gap) (level : ℕ) (m h e begun : Bool) (notes : List Remark) (done : List Piece) → (begun ≡ true → is_begun done ≡ true) → (list_any note_writes notes || begun) ≡ true
    → is_begun (lay_notes gap level m h e notes done) ≡ true
begun_notes gap level m h e begun [] done was is = begun_break (e || (m && not h)) level gap.blank done ∙ was is
begun_notes gap level m h e begun (r ∷ notes) done was is =
    begun_notes gap level m (h || (r.own_line || e)) r.ends_line (has_bytes r.text || begun) notes _
    (or_on (has_bytes r.text) begun _ (λ at. begun_break (r.own_line || e) (level + cond gap.deeper 1 0) r.blank done ∙ was at))
    (moved (has_bytes r.text) (list_any note_writes notes) begun is)

begun_unbroken : (c : Chance) (done : List Piece) → is_begun done ≡ true → is_begun (unbroken c done) ≡ true
begun_unbroken Tight done is = is
begun_unbroken Soft done is = is
begun_unbroken Hard done is = is
begun_unbroken Space done is = begun_break false 0 false done ∙ is
begun_unbroken Line done is = begun_break false 0 false done ∙ is

begun_gap : (gap : Gap) (mode : Mode) (level : ℕ) (begun : Bool) (notes : List Remark) (done : List Piece) → (begun ≡ true → is_begun done ≡ true) → (list_any note_writes notes || begun) ≡ true
    → is_begun (lay_gap gap mode level notes done) ≡ true
begun_gap gap mode level begun [] done was is = by (must_break gap.chance mode)
  where
    by : (m : Bool) → is_begun (cond m (broken level gap.blank done) (unbroken gap.chance done)) ≡ true
    by true = begun_break true level gap.blank done ∙ was is
    by false = begun_unbroken gap.chance done (was is)
begun_gap gap mode level begun (r ∷ notes) done was is = begun_notes gap level (must_break gap.chance mode) false false begun (r ∷ notes) done was is

begun_trail : (b : Bool) (done : List Piece) → is_begun done ≡ true → is_begun (cond b (word comma ∷ done) done) ≡ true
begun_trail true done is = refl
begun_trail false done is = is

module _ (page : Page) where
  mutual
    pub begun_on : (begun : Bool) (mode : Mode) (level after : ℕ) (d : Document) (done : List Piece) → (begun ≡ true → is_begun done ≡ true) → (writes d || begun) ≡ true
        → is_begun (lay page mode level after d done) ≡ true
    begun_on begun mode level after (text bytes) done was is = or_on (has_bytes bytes) begun (is_begun done) was is
    begun_on begun mode level after (between gap) done was is = begun_gap gap mode level begun gap.notes done was is
    begun_on begun mode level after trail done was is = begun_trail (is_broken mode) done (was is)
    begun_on begun mode level after (nest inner) done was is = begun_on begun mode (level + 1) after inner done was is
    begun_on begun mode level after (group inner) done was is =
        begun_on begun (mode_of page mode (forces inner) (column_of page done + flat inner after)) level after inner done was is
    begun_on begun mode level after (sequence items) done was is = all_begun_on begun mode level after items done was is

    all_begun_on : (begun : Bool) (mode : Mode) (level after : ℕ) (ds : Documents) (done : List Piece) → (begun ≡ true → is_begun done ≡ true) → (any_writes ds || begun) ≡ true
        → is_begun (lay_all page mode level after ds done) ≡ true
    all_begun_on begun mode level after nothing done was is = was is
    all_begun_on begun mode level after (also first rest) done was is =
        all_begun_on (writes first || begun) mode level after rest _ (begun_on begun mode level (all_lead rest after) first done was) (moved (writes first) (any_writes rest) begun is)
