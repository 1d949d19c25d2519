-- How the arguments of a call are written, by what they are and whether they had parentheses.
use Rattle.std.specs.Prelude.{Bool, true, false, List, [], ◌∷◌}
use Rattle.luf_lex.specs.declared.token.Sign.TheVariants as sign
use Rattle.luf_draft.specs.Form.{Items, no_items, lone_string, lone_table, with_block, plain_items}
use Rattle.luf_draft.specs.declared.mark.Mark.{Mark}
use Rattle.luf_draft.specs.declared.mark.Mark.TheVariants.{Sign, Gap, Open, Close}
use Rattle.luf_draft.specs.declared.mark.Part.TheVariants.{Nest, Group, Sequence}
use Rattle.luf_draft.specs.declared.mark.GapKind.{GapKind}
use Rattle.luf_draft.specs.declared.mark.GapKind.TheVariants as kind
use Rattle.luf_draft.specs.declared.arguments.Shape.{Shape}
use Rattle.luf_draft.specs.declared.arguments.Shape.TheVariants.{Empty, Bare, Round, Hugged, Spread}

abbrev pub lone_shape : Bool → Shape
lone_shape true = Round
lone_shape false = Bare

-- of several arguments, by the last
abbrev pub last_shape : Items → Shape
last_shape with_block = Hugged
last_shape _ = Spread

abbrev pub shape_of : (string_has table_has : Bool → Bool) → Bool → Items → Shape
shape_of string_has table_has had no_items = Empty
shape_of string_has table_has had lone_string = lone_shape (string_has had)
shape_of string_has table_has had lone_table = lone_shape (table_has had)
shape_of string_has table_has had with_block = Hugged
shape_of string_has table_has had plain_items = Spread

abbrev pub arguments_opened : Shape → List Mark
arguments_opened Empty = Gap kind.Tight ∷ Sign sign.LeftParen ∷ Gap kind.TightEnd ∷ []
arguments_opened Bare = Gap kind.Space ∷ []
arguments_opened Round = Sign sign.LeftParen ∷ Gap kind.Tight ∷ []
arguments_opened Hugged = Gap kind.Tight ∷ Sign sign.LeftParen ∷ Gap kind.Tight ∷ []
arguments_opened Spread =
    Gap kind.Tight ∷ Open Group ∷ Open Sequence ∷ Sign sign.LeftParen ∷ Open Nest ∷ Open Sequence ∷ Gap kind.Soft ∷ []

-- the gap behind each `,`
abbrev pub arguments_gap : Shape → GapKind
arguments_gap Empty = kind.Space
arguments_gap Bare = kind.Space
arguments_gap Round = kind.Space
arguments_gap Hugged = kind.Space
arguments_gap Spread = kind.Line

abbrev pub arguments_closed : Shape → List Mark
arguments_closed Empty = Sign sign.RightParen ∷ []
arguments_closed Bare = []
arguments_closed Round = Sign sign.RightParen ∷ []
arguments_closed Hugged = Gap kind.TightEnd ∷ Sign sign.RightParen ∷ []
arguments_closed Spread = Close ∷ Close ∷ Gap kind.SoftEnd ∷ Sign sign.RightParen ∷ Close ∷ Close ∷ []
