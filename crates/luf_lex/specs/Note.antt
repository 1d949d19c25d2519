-- The comments between the tokens of a source, and the empty lines before them (our own rules).
use Rattle.std.specs.Prelude.{ℕ, ◌-◌, Bool, true, false, not, ◌||◌, ◌&&◌, ◌==◌, nat_le, List, [], ◌∷◌, ◌++◌, if◌then◌else◌, length, reverse, take, drop, slice_index_or, take_while, count_by}
use Rattle.std.specs.List.{list_all, suffix_len}
use Rattle.luf_lex.specs.Tokens.{is_token, tokens_of, token_places}
use Rattle.luf_lex.specs.declared.note.Note.{Note}
use Rattle.luf_lex.specs.declared.token.Kind.{Kind}
use Rattle.luf_lex.specs.declared.token.Kind.TheVariants.{Comment, Blank, LineEnd}
use Rattle.luf_lex.specs.declared.token.Piece.{Piece}

abbrev pub is_comment : Kind → Bool
is_comment Comment = true
is_comment _ = false

abbrev pub is_blank_kind : Kind → Bool
is_blank_kind Blank = true
is_blank_kind _ = false

abbrev pub is_line_end : Kind → Bool
is_line_end LineEnd = true
is_line_end _ = false

-- what makes a line other than empty
abbrev pub is_content : Kind → Bool
is_content kind = is_token kind || is_comment kind

-- Whether no token and no comment stands after the last line end of these pieces, or from their start where there is
-- none. What has several lines counts on its last line. A mark and a `#` line count as nothing.
abbrev pub at_line_start : List Piece → Bool
at_line_start before = list_all (λ p. not (is_content p.kind)) (take_while (λ p. not (is_line_end p.kind)) (reverse before))

-- whether only blanks stand before the first line end of these pieces, or to their end where there is none
abbrev pub at_line_end : List Piece → Bool
at_line_end after = list_all (λ p. is_blank_kind p.kind) (take_while (λ p. not (is_line_end p.kind)) after)

-- the pieces after the last token and the last comment
abbrev pub last_gap : List Piece → List Piece
last_gap before = drop (length before - suffix_len (λ p. not (is_content p.kind)) before) before

-- Whether an empty line ends these pieces: two line ends or more stand in their last gap. The first ends the line of
-- what stands before the gap, or of a `#` line; at the start of the source it is not counted either.
abbrev pub has_empty_line : List Piece → Bool
has_empty_line before = nat_le 2 (count_by (λ p. is_line_end p.kind) (last_gap before))

-- a comment, of which these pieces stand before it and these after it
abbrev pub note_of : List Piece → Piece → List Piece → Note
note_of before p after = record { span = p.span; own_line = at_line_start before; line_after = at_line_end after; blank_before = has_empty_line before }

-- the comments among the later pieces that n tokens stand before, where the earlier pieces stand before them all
abbrev pub lead_from : ℕ → List Piece → List Piece → List Note
lead_from n before [] = []
lead_from n before (p ∷ after) = (if is_comment p.kind && length (tokens_of before) == n then note_of before p after ∷ [] else []) ++ lead_from n (before ++ p ∷ []) after

-- the comments between token n - 1 and token n, or the end, in order
abbrev pub lead_of : List Piece → ℕ → List Note
lead_of pieces n = lead_from n [] pieces

-- the pieces before token n; all of them where there are not so many tokens
abbrev pub before_token : List Piece → ℕ → List Piece
before_token pieces n = take (slice_index_or (token_places 0 pieces) n (length pieces)) pieces

-- whether an empty line stands directly before token n, or the end
abbrev pub blank_of : List Piece → ℕ → Bool
blank_of pieces n = has_empty_line (before_token pieces n)
