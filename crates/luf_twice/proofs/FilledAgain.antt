-- A draft that is filled is filled again with the gaps of the document that is read again.
use Rattle.std.proofs.Common.{ℕ, ◌+◌, Bool, true, false, List, []}
use Rattle.luf_doc.specs.declared.page.Page.{Page}
use Rattle.luf_doc.specs.Document.{Document, Documents}
use Rattle.luf_doc.specs.Flat.{forces, flat, all_lead}
use Rattle.luf_doc.specs.Layout.{Piece, Mode, outside, is_begun, column_of, must_break, mode_of, lay}
use Rattle.luf_draft.specs.Draft.{Draft, Drafts}
use Rattle.luf_gaps.specs.declared.notes.GapNotes.{GapNotes}
use Rattle.luf_style.specs.Filled.{IsFilled, AreFilled, first_of_all, last_text}
use Rattle.luf_style.specs.Filled as filled
use Rattle.luf_again.specs.Formed.{IsFormed, AreFormed}
use Rattle.luf_again.specs.Reread.{reread, reread_all}
use Rattle.luf_twice.specs.Again.{gaps_of, all_gaps, FilledAgain}
use Rattle.luf_twice.proofs.GapAgain.{gap_again}

module _ (short : List ℕ → Bool) (page : Page) where
  mutual
    again : (grouped begun : Bool) (mode : Mode) (level lead : ℕ) (done : List Piece) (before after : List ℕ) (draft : Draft) (gaps left : List GapNotes) (d : Document) (more : List GapNotes)
        → IsFormed short grouped begun d → IsFilled before after draft gaps left d
        → IsFilled before after draft (gaps_of (reread short page mode level lead d done) more) more (reread short page mode level lead d done)
    again grouped begun mode level lead done before after _ gaps left _ more formed (filled.word _ _ bytes _) = filled.word before after bytes more
    again grouped begun mode level lead done before after _ _ left _ more formed (filled.opening _ _ opening notes _ gap at) =
        filled.opening before after opening _ more _ (gap_again short before after opening notes gap (must_break gap.chance mode) (is_begun done) formed.1 at)
    again grouped begun mode level lead done before after _ gaps left _ more formed (filled.trail _ _ _) = filled.trail before after more
    again grouped begun mode level lead done before after _ gaps left _ more formed (filled.nest _ _ inner _ _ d at) =
        filled.nest before after inner _ more _ (again grouped begun mode (level + 1) lead done before after inner gaps left d more formed at)
    again grouped begun mode level lead done before after _ gaps left _ more formed (filled.group _ _ inner _ _ d at) =
        filled.group before after inner _ more _ (again true begun (mode_of page mode (forces d) (column_of page done + flat d lead)) level lead done before after inner gaps left d more formed at)
    again grouped begun mode level lead done before after _ gaps left _ more formed (filled.sequence _ _ items _ _ ds at) =
        filled.sequence before after items _ more _ (all_again grouped begun mode level lead done before after items gaps left ds more formed at)

    all_again : (grouped begun : Bool) (mode : Mode) (level lead : ℕ) (done : List Piece) (before after : List ℕ) (drafts : Drafts) (gaps left : List GapNotes) (ds : Documents) (more : List GapNotes)
        → AreFormed short grouped begun ds → AreFilled before after drafts gaps left ds
        → AreFilled before after drafts (all_gaps (reread_all short page mode level lead ds done) more) more (reread_all short page mode level lead ds done)
    all_again grouped begun mode level lead done before after _ gaps left _ more formed (filled.nothing _ _ _) = filled.nothing before after more
    all_again grouped begun mode level lead done before after _ gaps left _ more formed (filled.also _ _ first rest _ mid _ d ds at behind) =
        filled.also before after first rest _ (all_gaps (reread_all short page mode level lead ds (lay page mode level (all_lead ds lead) d done)) more) more _ _
        (again grouped begun mode level (all_lead ds lead) done before (first_of_all rest after) first gaps mid d _ formed.0 at)
        (all_again grouped _ mode level lead (lay page mode level (all_lead ds lead) d done) (last_text first before) after rest mid left ds more formed.1 behind)

pub filled_again : FilledAgain
filled_again short page draft gaps left d formed at = again short page false false outside 0 0 [] [] [] draft gaps left d [] formed at
