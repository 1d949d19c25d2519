-- A draft written flat: its words, its gaps and its parts, one after another. What marks stand for, where the tokens of a
-- source are written so. Rules of our own.
use Rattle.std.specs.Prelude.{◌≡◌, ℕ, Bool, true, false, List, [], ◌∷◌, ◌++◌, codes, bytes_eq, get_or}
use Rattle.luf_lex.specs.Word.{word_spelling}
use Rattle.luf_lex.specs.Sign.{sign_spelling}
use Rattle.luf_lex.specs.declared.token.Tok.{Tok}
use Rattle.luf_lex.specs.declared.token.Tok.TheVariants as tok
use Rattle.luf_lex.specs.declared.token.Word as token_word
use Rattle.luf_lex.specs.declared.token.Word.TheVariants as word_is
use Rattle.luf_bare.specs.Writing.{opens}
use Rattle.luf_doc.specs.declared.doc.Chance.{Chance}
use Rattle.luf_doc.specs.declared.doc.Chance.TheVariants as chance
use Rattle.luf_draft.specs.Draft.{Draft, Drafts, Border, Opening, word, opening, trail, nest, group, sequence, nothing, also, inside, first_statement, later_statement, block_end, empty_block}
use Rattle.luf_draft.specs.declared.mark.Mark.{Mark}
use Rattle.luf_draft.specs.declared.mark.Mark.TheVariants as mark
use Rattle.luf_draft.specs.declared.mark.Part.{Part}
use Rattle.luf_draft.specs.declared.mark.Part.TheVariants.{Nest, Group, Sequence}
use Rattle.luf_draft.specs.declared.mark.GapKind.{GapKind}
use Rattle.luf_draft.specs.declared.mark.GapKind.TheVariants as kind

pub data Flat : Type 0 where
  flat_word : (bytes : List ℕ) → Flat
  flat_gap : (gap : Opening) → Flat
  flat_trail : Flat
  flat_open : (part : Part) → Flat
  flat_close : Flat

abbrev mutual
  pub flat : Draft → List Flat
  flat (word bytes) = flat_word bytes ∷ []
  flat (opening gap) = flat_gap gap ∷ []
  flat trail = flat_trail ∷ []
  flat (nest inner) = flat_open Nest ∷ (flat inner ++ (flat_close ∷ []))
  flat (group inner) = flat_open Group ∷ (flat inner ++ (flat_close ∷ []))
  flat (sequence items) = flat_open Sequence ∷ (all_flat items ++ (flat_close ∷ []))

  pub all_flat : Drafts → List Flat
  all_flat nothing = []
  all_flat (also first rest) = flat first ++ all_flat rest

-- ---- what a mark stands for

abbrev gap_with : Chance → Bool → Border → Opening
gap_with c d b = record { chance = c; deeper = d; border = b }

abbrev pub gap_of_kind : GapKind → Opening
gap_of_kind kind.Tight = gap_with chance.Tight false inside
gap_of_kind kind.Space = gap_with chance.Space false inside
gap_of_kind kind.Soft = gap_with chance.Soft false inside
gap_of_kind kind.Line = gap_with chance.Line false inside
gap_of_kind kind.TightEnd = gap_with chance.Tight true inside
gap_of_kind kind.SoftEnd = gap_with chance.Soft true inside
gap_of_kind kind.LineEnd = gap_with chance.Line true inside
gap_of_kind kind.FirstStatement = gap_with chance.Hard false first_statement
gap_of_kind kind.LaterStatement = gap_with chance.Hard false later_statement
gap_of_kind kind.BlockEnd = gap_with chance.Hard true block_end
gap_of_kind kind.EmptyBlock = gap_with chance.Space true empty_block
gap_of_kind kind.SourceEnd = gap_with chance.Hard false block_end
gap_of_kind kind.EmptySource = gap_with chance.Hard false empty_block

-- where the tokens are written so; a token that is none has no bytes
abbrev pub shown : List (List ℕ) → Mark → Flat
shown written (mark.Token n) = flat_word (get_or written n [])
shown written (mark.Word w) = flat_word (word_spelling w)
shown written (mark.Sign s) = flat_word (sign_spelling s)
shown written (mark.Gap g) = flat_gap (gap_of_kind g)
shown written mark.Trail = flat_trail
shown written (mark.Open part) = flat_open part
shown written mark.Close = flat_close

-- ---- how tokens may be written: just a `(` as one, and just a `not`

abbrev pub token_at : List Tok → ℕ → Tok
token_at toks n = get_or toks n tok.Name

abbrev pub word_is_not : token_word.Word → Bool
word_is_not word_is.Not = true
word_is_not _ = false

-- this token is `not`
abbrev pub is_not : Tok → Bool
is_not (tok.Word w) = word_is_not w
is_not _ = false

pub record AreAlike (toks : List Tok) (written : List (List ℕ)) : Type 0 where
  pub same_opens : (n : ℕ) → bytes_eq (get_or written n []) (codes "(") ≡ opens (token_at toks n)
  pub same_not : (n : ℕ) → bytes_eq (get_or written n []) (codes "not") ≡ is_not (token_at toks n)
