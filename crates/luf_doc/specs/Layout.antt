-- The layout of a document: its pieces in order, and their bytes. Rules of our own.
use Rattle.std.specs.Prelude.{ℕ, ◌+◌, ◌*◌, Bool, true, false, cond, not, ◌&&◌, ◌||◌, List, [], ◌∷◌, ◌++◌, nat_lt, replicate, reverse}
use Rattle.luf_doc.specs.declared.doc.Chance.{Chance}
use Rattle.luf_doc.specs.declared.doc.Chance.TheVariants.{Tight, Space, Soft, Line, Hard}
use Rattle.luf_doc.specs.declared.doc.Remark.{Remark}
use Rattle.luf_doc.specs.declared.doc.Gap.{Gap}
use Rattle.luf_doc.specs.declared.page.Page.{Page}
use Rattle.luf_doc.specs.Document.{Document, Documents, text, between, trail, nest, group, sequence, nothing, also}
use Rattle.luf_doc.specs.Flat.{is_line_end, forces, flat, all_lead}

-- What a layout writes. The second line end of a break is a piece of its own, the empty line.
pub data Piece : Type 0 where
  word : (bytes : List ℕ) → Piece
  note : (bytes : List ℕ) → Piece
  space : Piece
  line_end : Piece
  empty_line : Piece
  indentation : (level : ℕ) → Piece

-- How the group that holds a place is laid, if one does.
pub data Mode : Type 0 where
  outside flat_group broken_group : Mode

abbrev pub is_broken : Mode → Bool
is_broken broken_group = true
is_broken _ = false

abbrev pub has_bytes : List ℕ → Bool
has_bytes [] = false
has_bytes (b ∷ bytes) = true

-- ---- Below, `done` is what has been written, the last piece first.

-- Something of the document has been written.
abbrev pub is_begun : List Piece → Bool
is_begun [] = false
is_begun (word bytes ∷ done) = has_bytes bytes || is_begun done
is_begun (note bytes ∷ done) = has_bytes bytes || is_begun done
is_begun (space ∷ done) = true
is_begun (line_end ∷ done) = true
is_begun (empty_line ∷ done) = true
is_begun (indentation level ∷ done) = true

-- A byte counts one column; after a line end the columns count anew.
abbrev pub column_after : List ℕ → ℕ → ℕ
column_after [] column = column
column_after (b ∷ bytes) column = column_after bytes (cond (is_line_end b) 0 (column + 1))

-- The columns that the last line has. A level of indentation counts `unit`, also as a TAB.
abbrev pub column_of : Page → List Piece → ℕ
column_of page [] = 0
column_of page (word bytes ∷ done) = column_after bytes (column_of page done)
column_of page (note bytes ∷ done) = column_after bytes (column_of page done)
column_of page (space ∷ done) = column_of page done + 1
column_of page (line_end ∷ done) = 0
column_of page (empty_line ∷ done) = 0
column_of page (indentation level ∷ done) = column_of page done + page.unit * level

-- While nothing of the document has been written, breaks and spaces write nothing.

abbrev pub spaced : List Piece → List Piece
spaced done = cond (is_begun done) (space ∷ done) done

-- A break is a line end, a second one where its blank flag is set, and the indentation of the level.
abbrev pub broken : ℕ → Bool → List Piece → List Piece
broken level blank done = cond (is_begun done) (indentation level ∷ cond blank (empty_line ∷ line_end ∷ done) (line_end ∷ done)) done

-- ---- a gap

-- It must break where it is Hard, and where it is Soft or Line in a broken group.
abbrev pub must_break : Chance → Mode → Bool
must_break Tight mode = false
must_break Space mode = false
must_break Soft mode = is_broken mode
must_break Line mode = is_broken mode
must_break Hard mode = true

-- A gap without notes that need not break writes one space for Space and Line, and nothing for the others.
abbrev pub unbroken : Chance → List Piece → List Piece
unbroken Tight done = done
unbroken Space done = spaced done
unbroken Soft done = done
unbroken Line done = spaced done
unbroken Hard done = done

-- Whether a break stands before the notes that are left, or behind the last one: before a note of its own line and
-- behind a note that ends its line; and behind the last one where the gap must break and has had no break. A break
-- that wrote nothing counts.
abbrev pub next_break : Bool → Bool → Bool → List Remark → Bool
next_break must had ends [] = ends || (must && not had)
next_break must had ends (next ∷ notes) = next.own_line || ends

-- The notes in order, each behind its break or else a space; those breaks are one level deeper in a gap that is
-- `deeper`. After the last note a break of the gap's level, or a space.
abbrev pub lay_notes : Gap → ℕ → Bool → Bool → Bool → List Remark → List Piece → List Piece
lay_notes gap level must had ends [] done = cond (next_break must had ends []) (broken level gap.blank done) (spaced done)
lay_notes gap level must had ends (next ∷ notes) done =
    lay_notes gap level must (had || next_break must had ends (next ∷ notes)) next.ends_line notes
    (note next.text ∷ cond (next_break must had ends (next ∷ notes)) (broken (level + cond gap.deeper 1 0) next.blank done) (spaced done))

-- A gap without notes writes a break where it must break. One with notes writes them.
abbrev pub lay_gap : Gap → Mode → ℕ → List Remark → List Piece → List Piece
lay_gap gap mode level [] done = cond (must_break gap.chance mode) (broken level gap.blank done) (unbroken gap.chance done)
lay_gap gap mode level (first ∷ notes) done = lay_notes gap level (must_break gap.chance mode) false false (first ∷ notes) done

-- ---- a group

-- It is flat where the group that holds it is. Otherwise it is flat exactly where nothing in it forces, and `end`,
-- its column and flat bytes and lead, is at most the width.
abbrev pub mode_of : Page → Mode → Bool → ℕ → Mode
mode_of page flat_group forced end = flat_group
mode_of page outside forced end = cond (forced || nat_lt page.width end) broken_group flat_group
mode_of page broken_group forced end = cond (forced || nat_lt page.width end) broken_group flat_group

-- ---- a document

abbrev pub comma : List ℕ
comma = 44 ∷ []

module _ (page : Page) where
  abbrev mutual
    -- `after` is the lead of what follows.
    pub lay : Mode → ℕ → ℕ → Document → List Piece → List Piece
    lay mode level after (text bytes) done = word bytes ∷ done
    lay mode level after (between gap) done = lay_gap gap mode level gap.notes done
    lay mode level after trail done = cond (is_broken mode) (word comma ∷ done) done
    lay mode level after (nest inner) done = lay mode (level + 1) after inner done
    lay mode level after (group inner) done =
        lay (mode_of page mode (forces inner) (column_of page done + flat inner after)) level after inner done
    lay mode level after (sequence items) done = lay_all mode level after items done

    pub lay_all : Mode → ℕ → ℕ → Documents → List Piece → List Piece
    lay_all mode level after nothing done = done
    lay_all mode level after (also first rest) done =
        lay_all mode level after rest (lay mode level (all_lead rest after) first done)

  -- the pieces of a document's layout, in order
  abbrev pub pieces : Document → List Piece
  pieces d = reverse (lay outside 0 0 d [])

-- ---- bytes

-- A line end as it is written outside of texts and notes.
abbrev pub written_line_end : Page → List ℕ
written_line_end page = 10 ∷ []

-- One TAB a level, or `unit` spaces a level.
abbrev pub written_indentation : Page → ℕ → List ℕ
written_indentation page level = cond page.tabs (replicate level 9) (replicate (page.unit * level) 32)

abbrev pub bytes_of : Page → Piece → List ℕ
bytes_of page (word bytes) = bytes
bytes_of page (note bytes) = bytes
bytes_of page space = 32 ∷ []
bytes_of page line_end = written_line_end page
bytes_of page empty_line = written_line_end page
bytes_of page (indentation level) = written_indentation page level

abbrev pub joined : Page → List Piece → List ℕ
joined page [] = []
joined page (p ∷ ps) = bytes_of page p ++ joined page ps

-- the bytes of a document's layout
abbrev pub layout : Page → Document → List ℕ
layout page d = joined page (pieces page d)
