-- The marks of each part of a chunk, as they are written one after another; what the functions that read the tree go by.
-- `flat` of the part's draft is what they stand for.
use Rattle.std.specs.Prelude.{ℕ, Bool, true, false, ◌&&◌, if◌then◌else◌, Option, Some, None, List, [], ◌∷◌, ◌++◌}
use Rattle.luf_lex.specs.declared.token.Tok.{Tok}
use Rattle.luf_lex.specs.declared.token.Sign.TheVariants as sign
use Rattle.luf_lex.specs.declared.token.Word.TheVariants as word
use Rattle.luf_tree.specs.Syntax as syntax
use Rattle.luf_tree.specs.TokenSyntax as tokens
use Rattle.luf_bare.specs.Writing.{opens}
use Rattle.luf_draft.specs.Form.{Items, no_items, lone_string, lone_table, with_block, plain_items, items_of}
use Rattle.luf_draft.specs.Flat.{token_at, is_not}
use Rattle.luf_draft.specs.declared.mark.Mark.{Mark}
use Rattle.luf_draft.specs.declared.mark.Mark.TheVariants.{Token, Word, Sign, Gap, Trail, Open, Close}
use Rattle.luf_draft.specs.declared.mark.Part.TheVariants.{Nest, Group, Sequence}
use Rattle.luf_draft.specs.declared.mark.GapKind.{GapKind}
use Rattle.luf_draft.specs.declared.mark.GapKind.TheVariants as kind

-- ---- lists: what stands before each part but the first

abbrev pub before_part : List Mark → Bool → List Mark
before_part between true = []
before_part between false = between

-- the marks of parts, of which the first is the first of all or not
abbrev pub listed : {X : Type 0} → List Mark → (X → List Mark) → Bool → List X → List Mark
listed between says first [] = []
listed between says first (x ∷ xs) = before_part between first ++ (says x ++ listed between says false xs)

-- a `,` and a gap behind it
abbrev pub comma_and : GapKind → List Mark
comma_and g = Gap kind.Tight ∷ Sign sign.Comma ∷ Gap g ∷ []

abbrev pub token_mark : ℕ → List Mark
token_mark n = Token n ∷ []

abbrev pub name_marks : List ℕ → List Mark
name_marks names = listed (comma_and kind.Space) token_mark true names

-- ---- parts that begin and end

-- behind what opens a group or a nest, which hold a sequence each
abbrev pub closed : List Mark
closed = Close ∷ Close ∷ []

abbrev pub is_none : {X : Type 0} → List X → Bool
is_none [] = true
is_none (_ ∷ _) = false

-- the `...` behind parameters
abbrev pub dots_behind : List ℕ → Bool → List Mark
dots_behind names false = []
dots_behind names true = before_part (comma_and kind.Line) (is_none names) ++ (Sign sign.Dots ∷ [])

abbrev pub parameter_list : List ℕ → Bool → List Mark
parameter_list names vararg = listed (comma_and kind.Line) token_mark true names ++ dots_behind names vararg

-- between parentheses
abbrev pub enclosed_parameters : List Mark → List Mark
enclosed_parameters [] = Sign sign.LeftParen ∷ Gap kind.TightEnd ∷ Sign sign.RightParen ∷ []
enclosed_parameters (m ∷ ms) =
    Open Group ∷ Open Sequence ∷ Sign sign.LeftParen ∷ Open Nest ∷ Open Sequence ∷ Gap kind.Soft ∷ (m ∷ ms)
    ++ (Close ∷ Close ∷ Gap kind.SoftEnd ∷ Sign sign.RightParen ∷ Close ∷ Close ∷ [])

abbrev pub parameter_marks : List ℕ → Bool → List Mark
parameter_marks names vararg = enclosed_parameters (parameter_list names vararg)

abbrev pub attribute_marks : Option ℕ → List Mark
attribute_marks None = []
attribute_marks (Some name) = Gap kind.Space ∷ Sign sign.Less ∷ Gap kind.Tight ∷ Token name ∷ Gap kind.Tight ∷ Sign sign.Greater ∷ []

abbrev pub declared_mark : tokens.DeclaredName → List Mark
declared_mark d = Token d.name ∷ attribute_marks d.attribute

abbrev pub declared_marks : List tokens.DeclaredName → List Mark
declared_marks names = listed (comma_and kind.Space) declared_mark true names

-- a `.` with its gaps
abbrev pub dot_marks : List Mark
dot_marks = Gap kind.Tight ∷ Sign sign.Dot ∷ Gap kind.Tight ∷ []

abbrev pub method_marks : Option ℕ → List Mark
method_marks None = []
method_marks (Some name) = Gap kind.Tight ∷ Sign sign.Colon ∷ Gap kind.Tight ∷ Token name ∷ []

abbrev pub path_marks : Option ℕ → List ℕ → List Mark
path_marks None fields = listed dot_marks token_mark false fields
path_marks (Some name) fields = listed dot_marks token_mark true (name ∷ fields)

-- [e]
abbrev pub bracketed_marks : List Mark → List Mark
bracketed_marks inner = Sign sign.LeftBracket ∷ Gap kind.Tight ∷ (inner ++ (Gap kind.Tight ∷ Sign sign.RightBracket ∷ []))

-- the gap behind the operator of a unary operation
abbrev pub behind_sign : Tok → GapKind
behind_sign t = if is_not t then kind.Space else kind.Tight

abbrev pub lone_marks : Bool → List Mark → List Mark
lone_marks true items = Sign sign.LeftParen ∷ Gap kind.Tight ∷ (items ++ (Sign sign.RightParen ∷ []))
lone_marks false items = Gap kind.Space ∷ items

-- ---- what a part begins with

-- whether the first word of these marks is `(`
abbrev pub opens_first : List Tok → List Mark → Bool
opens_first toks [] = false
opens_first toks (Token n ∷ ms) = opens (token_at toks n)
opens_first toks (Word w ∷ ms) = false
opens_first toks (Sign s ∷ ms) = opens (Tok.Sign s)
opens_first toks (Gap g ∷ ms) = opens_first toks ms
opens_first toks (Trail ∷ ms) = opens_first toks ms
opens_first toks (Open part ∷ ms) = opens_first toks ms
opens_first toks (Close ∷ ms) = opens_first toks ms

-- the gap before a statement, and the `;` where others are before it and it begins with `(`
abbrev pub guard_marks : Bool → Bool → List Mark
guard_marks false opening = Gap kind.FirstStatement ∷ []
guard_marks true true = Gap kind.LaterStatement ∷ Sign sign.Semicolon ∷ []
guard_marks true false = Gap kind.LaterStatement ∷ []

abbrev pub guarded_marks : List Tok → Bool → List Mark → List Mark
guarded_marks toks others ms = guard_marks others (opens_first toks ms) ++ ms

abbrev pub is_empty : tokens.Statement → Bool
is_empty (syntax.empty_statement _) = true
is_empty _ = false

-- only empty statements
abbrev pub are_empty : tokens.Statements → Bool
are_empty syntax.no_statements = true
are_empty (syntax.more_statements s rest) = is_empty s && are_empty rest

-- a block between the words round it, where it has no statements or these
abbrev pub body_marks : Bool → List Mark → List Mark
body_marks true inner = Gap kind.EmptyBlock ∷ []
body_marks false inner = Open Nest ∷ Open Sequence ∷ (inner ++ (Close ∷ Close ∷ Gap kind.BlockEnd ∷ []))

abbrev pub source_marks : Bool → List Mark → List Mark
source_marks true inner = Gap kind.EmptySource ∷ []
source_marks false inner = Open Sequence ∷ (inner ++ (Gap kind.SourceEnd ∷ Close ∷ []))

-- ---- the parts of a chunk that has these tokens

module _ (toks : List Tok) (string_has table_has : Bool → Bool) where
  abbrev pub argument_marks : Items → Bool → (spaced broken : List Mark) → List Mark
  argument_marks no_items had spaced broken = Gap kind.Tight ∷ Sign sign.LeftParen ∷ Gap kind.TightEnd ∷ Sign sign.RightParen ∷ []
  argument_marks lone_string had spaced broken = lone_marks (string_has had) spaced
  argument_marks lone_table had spaced broken = lone_marks (table_has had) spaced
  argument_marks with_block had spaced broken =
      Gap kind.Tight ∷ Sign sign.LeftParen ∷ Gap kind.Tight ∷ (spaced ++ (Gap kind.TightEnd ∷ Sign sign.RightParen ∷ []))
  argument_marks plain_items had spaced broken =
      Gap kind.Tight ∷ Open Group ∷ Open Sequence ∷ Sign sign.LeftParen ∷ Open Nest ∷ Open Sequence ∷ Gap kind.Soft
      ∷ (broken ++ (Close ∷ Close ∷ Gap kind.SoftEnd ∷ Sign sign.RightParen ∷ Close ∷ Close ∷ []))

  abbrev mutual
    pub marks_in_expression : tokens.Expression → List Mark
    marks_in_expression (syntax.nil_value _) = Word word.Nil ∷ []
    marks_in_expression (syntax.true_value _) = Word word.True ∷ []
    marks_in_expression (syntax.false_value _) = Word word.False ∷ []
    marks_in_expression (syntax.numeral _ value) = Token value ∷ []
    marks_in_expression (syntax.string _ value) = Token value ∷ []
    marks_in_expression (syntax.varargs _) = Sign sign.Dots ∷ []
    marks_in_expression (syntax.variable _ name) = Token name ∷ []
    marks_in_expression (syntax.parenthesised _ inner) =
        Open Sequence ∷ Sign sign.LeftParen ∷ Gap kind.Tight ∷ (marks_in_expression inner ++ (Gap kind.Tight ∷ Sign sign.RightParen ∷ Close ∷ []))
    marks_in_expression (syntax.function _ inner) = Open Sequence ∷ Word word.Function ∷ (marks_in_function inner ++ (Close ∷ []))
    marks_in_expression (syntax.table _ syntax.no_fields) =
        Open Sequence ∷ Sign sign.LeftBrace ∷ Gap kind.TightEnd ∷ Sign sign.RightBrace ∷ Close ∷ []
    marks_in_expression (syntax.table _ (syntax.more_fields first rest)) =
        Open Group ∷ Open Sequence ∷ Sign sign.LeftBrace ∷ Open Nest ∷ Open Sequence ∷ Gap kind.Line
        ∷ ((marks_in_field first ++ marks_in_more_fields rest) ++ (Trail ∷ Close ∷ Close ∷ Gap kind.LineEnd ∷ Sign sign.RightBrace ∷ Close ∷ Close ∷ []))
    marks_in_expression (syntax.unary _ operator operand) =
        Open Sequence ∷ Token operator ∷ Gap (behind_sign (token_at toks operator)) ∷ (marks_in_expression operand ++ (Close ∷ []))
    marks_in_expression (syntax.chain _ first rest) =
        Open Group ∷ Open Sequence ∷ (marks_in_expression first ++ (Open Nest ∷ Open Sequence ∷ (marks_in_operations rest ++ (Close ∷ Close ∷ Close ∷ Close ∷ []))))
    marks_in_expression (syntax.power _ base operator exponent) =
        Open Sequence ∷ (marks_in_expression base ++ (Gap kind.Space ∷ Token operator ∷ Gap kind.Space ∷ (marks_in_expression exponent ++ (Close ∷ []))))
    marks_in_expression (syntax.suffixed _ head suffixes) = Open Sequence ∷ (marks_in_expression head ++ (marks_in_suffixes suffixes ++ (Close ∷ [])))

    -- with this gap behind each `,`
    pub marks_in_expressions : GapKind → tokens.Expressions → List Mark
    marks_in_expressions g syntax.no_expressions = []
    marks_in_expressions g (syntax.more_expressions first rest) = marks_in_expression first ++ marks_in_more g rest

    pub marks_in_more : GapKind → tokens.Expressions → List Mark
    marks_in_more g syntax.no_expressions = []
    marks_in_more g (syntax.more_expressions e rest) = comma_and g ++ (marks_in_expression e ++ marks_in_more g rest)

    pub marks_in_operation : tokens.Operation → List Mark
    marks_in_operation (syntax.operation operator right) = Gap kind.Line ∷ Token operator ∷ Gap kind.Space ∷ marks_in_expression right

    pub marks_in_operations : tokens.Operations → List Mark
    marks_in_operations syntax.no_operations = []
    marks_in_operations (syntax.more_operations first rest) = marks_in_operation first ++ marks_in_operations rest

    pub marks_in_suffix : tokens.Suffix → List Mark
    marks_in_suffix (syntax.name_suffix name) = Gap kind.Tight ∷ Sign sign.Dot ∷ Gap kind.Tight ∷ Token name ∷ []
    marks_in_suffix (syntax.index_suffix index) = Gap kind.Tight ∷ bracketed_marks (marks_in_expression index)
    marks_in_suffix (syntax.call_suffix args) = marks_in_arguments args
    marks_in_suffix (syntax.method_suffix name args) = Gap kind.Tight ∷ Sign sign.Colon ∷ Gap kind.Tight ∷ Token name ∷ marks_in_arguments args

    pub marks_in_suffixes : tokens.Suffixes → List Mark
    marks_in_suffixes syntax.no_suffixes = []
    marks_in_suffixes (syntax.more_suffixes first rest) = marks_in_suffix first ++ marks_in_suffixes rest

    pub marks_in_arguments : tokens.Arguments → List Mark
    marks_in_arguments (syntax.arguments _ had items) =
        argument_marks (items_of items) had (marks_in_expressions kind.Space items) (marks_in_expressions kind.Line items)

    pub marks_in_field : tokens.Field → List Mark
    marks_in_field (syntax.item_field value) = marks_in_expression value
    marks_in_field (syntax.named_field name value) = Token name ∷ Gap kind.Space ∷ Sign sign.Assign ∷ Gap kind.Space ∷ marks_in_expression value
    marks_in_field (syntax.keyed_field key value) =
        bracketed_marks (marks_in_expression key) ++ (Gap kind.Space ∷ Sign sign.Assign ∷ Gap kind.Space ∷ marks_in_expression value)

    -- a `,` and a gap that breaks between two fields
    pub marks_in_fields : tokens.Fields → List Mark
    marks_in_fields syntax.no_fields = []
    marks_in_fields (syntax.more_fields first rest) = marks_in_field first ++ marks_in_more_fields rest

    pub marks_in_more_fields : tokens.Fields → List Mark
    marks_in_more_fields syntax.no_fields = []
    marks_in_more_fields (syntax.more_fields first rest) = Sign sign.Comma ∷ Gap kind.Line ∷ (marks_in_field first ++ marks_in_more_fields rest)

    -- parameters body end
    pub marks_in_function : tokens.FunctionBody → List Mark
    marks_in_function (syntax.function_body _ names vararg inner) =
        Gap kind.Tight ∷ (parameter_marks names vararg ++ (marks_in_body inner ++ (Word word.End ∷ [])))

    -- = list
    pub marks_in_values : tokens.Expressions → List Mark
    marks_in_values syntax.no_expressions = []
    marks_in_values (syntax.more_expressions e rest) =
        Gap kind.Space ∷ Sign sign.Assign ∷ Gap kind.Space ∷ (marks_in_expression e ++ marks_in_more kind.Space rest)

    -- an empty one has none
    pub marks_in_statement : tokens.Statement → List Mark
    marks_in_statement (syntax.empty_statement _) = []
    marks_in_statement (syntax.local_statement _ names values) =
        Open Sequence ∷ Word word.Local ∷ Gap kind.Space ∷ (declared_marks names ++ (marks_in_values values ++ (Close ∷ [])))
    marks_in_statement (syntax.assignment _ targets values) =
        Open Sequence ∷ (marks_in_expressions kind.Space targets ++ (marks_in_values values ++ (Close ∷ [])))
    marks_in_statement (syntax.call_statement _ call) = marks_in_expression call
    marks_in_statement (syntax.do_statement _ inner) = Open Sequence ∷ Word word.Do ∷ (marks_in_body inner ++ (Word word.End ∷ Close ∷ []))
    marks_in_statement (syntax.while_statement _ test inner) =
        Open Sequence ∷ Word word.While ∷ Gap kind.Space
        ∷ (marks_in_expression test ++ (Gap kind.Space ∷ Word word.Do ∷ (marks_in_body inner ++ (Word word.End ∷ Close ∷ []))))
    marks_in_statement (syntax.repeat_statement _ inner test) =
        Open Sequence ∷ Word word.Repeat ∷ (marks_in_body inner ++ (Word word.Until ∷ Gap kind.Space ∷ (marks_in_expression test ++ (Close ∷ []))))
    marks_in_statement (syntax.if_statement _ parts last) = Open Sequence ∷ Word word.If ∷ (marks_in_arms parts ++ (marks_in_else last ++ (Close ∷ [])))
    marks_in_statement (syntax.for_statement _ name first limit step inner) =
        Open Sequence ∷ Word word.For ∷ Gap kind.Space ∷ Token name ∷ Gap kind.Space ∷ Sign sign.Assign ∷ Gap kind.Space
        ∷ (marks_in_expression first ++ (comma_and kind.Space ++ (marks_in_expression limit ++ (marks_in_step step
        ++ (Gap kind.Space ∷ Word word.Do ∷ (marks_in_body inner ++ (Word word.End ∷ Close ∷ [])))))))
    marks_in_statement (syntax.for_in_statement _ names values inner) =
        Open Sequence ∷ Word word.For ∷ Gap kind.Space ∷ (name_marks names ++ (Gap kind.Space ∷ Word word.In ∷ Gap kind.Space
        ∷ (marks_in_expressions kind.Space values ++ (Gap kind.Space ∷ Word word.Do ∷ (marks_in_body inner ++ (Word word.End ∷ Close ∷ []))))))
    marks_in_statement (syntax.function_statement _ name fields method inner) =
        Open Sequence ∷ Word word.Function ∷ Gap kind.Space ∷ (path_marks name fields ++ (method_marks method ++ (marks_in_function inner ++ (Close ∷ []))))
    marks_in_statement (syntax.local_function_statement _ name inner) =
        Open Sequence ∷ Word word.Local ∷ Gap kind.Space ∷ Word word.Function ∷ Gap kind.Space ∷ Token name ∷ (marks_in_function inner ++ (Close ∷ []))
    marks_in_statement (syntax.label _ name) =
        Open Sequence ∷ Sign sign.DoubleColon ∷ Gap kind.Tight ∷ Token name ∷ Gap kind.Tight ∷ Sign sign.DoubleColon ∷ Close ∷ []
    marks_in_statement (syntax.goto_statement _ name) = Open Sequence ∷ Word word.Goto ∷ Gap kind.Space ∷ Token name ∷ Close ∷ []
    marks_in_statement (syntax.break_statement _) = Word word.Break ∷ []
    marks_in_statement (syntax.return_statement _ syntax.no_expressions) = Word word.Return ∷ []
    marks_in_statement (syntax.return_statement _ (syntax.more_expressions e rest)) =
        Open Sequence ∷ Word word.Return ∷ Gap kind.Space ∷ ((marks_in_expression e ++ marks_in_more kind.Space rest) ++ (Close ∷ []))

    pub marks_in_step : tokens.OptionalExpression → List Mark
    marks_in_step syntax.no_expression = []
    marks_in_step (syntax.an_expression e) = comma_and kind.Space ++ marks_in_expression e

    pub marks_in_arm : tokens.Arm → List Mark
    marks_in_arm (syntax.arm test inner) =
        Gap kind.Space ∷ (marks_in_expression test ++ (Gap kind.Space ∷ Word word.Then ∷ marks_in_body inner))

    pub marks_in_arms : tokens.Arms → List Mark
    marks_in_arms syntax.no_arms = []
    marks_in_arms (syntax.more_arms first rest) = marks_in_arm first ++ marks_in_more_arms rest

    pub marks_in_more_arms : tokens.Arms → List Mark
    marks_in_more_arms syntax.no_arms = []
    marks_in_more_arms (syntax.more_arms first rest) = Word word.ElseIf ∷ (marks_in_arm first ++ marks_in_more_arms rest)

    pub marks_in_else : tokens.OptionalBlock → List Mark
    marks_in_else syntax.no_block = Word word.End ∷ []
    marks_in_else (syntax.a_block inner) = Word word.Else ∷ (marks_in_body inner ++ (Word word.End ∷ []))

    -- the statements that are not empty, where such are before them in their block or not
    pub marks_in_statements : Bool → tokens.Statements → List Mark
    marks_in_statements others syntax.no_statements = []
    marks_in_statements others (syntax.more_statements s rest) =
        if is_empty s then marks_in_statements others rest else guarded_marks toks others (marks_in_statement s) ++ marks_in_statements true rest

    pub marks_in_body : tokens.Block → List Mark
    marks_in_body (syntax.block _ statements) = body_marks (are_empty statements) (marks_in_statements false statements)

  -- the marks of the main block
  abbrev pub marks_in_main : tokens.Block → List Mark
  marks_in_main (syntax.block _ statements) = source_marks (are_empty statements) (marks_in_statements false statements)
