-- The form of each construct: how it is drafted. In the comments `_` is a gap that is a space, `|` one that breaks or is a
-- space, `!` one that breaks or is nothing, `^` a break, and what stands side by side has a tight gap between. All pieces of
-- an expression or a statement are one sequence: a part that has no sequence of its own puts its pieces before `more`, those
-- that follow it there. Rules of our own.
use Rattle.std.specs.Prelude.{ℕ, Bool, true, false, cond, Option, Some, None, List, [], ◌∷◌, codes, bytes_eq, get_or}
use Rattle.luf_tree.specs.Syntax as syntax
use Rattle.luf_tree.specs.declared.tree.Chunk.{Chunk}
use Rattle.luf_tree.specs.SyntaxOf.{syntax_of}
use Rattle.luf_bare.specs.Bare.{Bare, words_of, as_here, chosen_block}
use Rattle.luf_draft.specs.Draft.{Draft, Drafts, word, opening, trail, nest, group, sequence, nothing, also, pieces, tight, space, soft, line, tight_end, soft_end, line_end, before_statement, block_ends, nothing_inside, source_ends, nothing_at_all}

-- What the arguments of a call are: none, one string, one table, several of which the last is a function or a table, or
-- others. A function alone is of the fourth kind.
pub data Items : Type 0 where
  no_items lone_string lone_table with_block plain_items : Items

-- the first text of a draft; none where it has no text
abbrev mutual
  pub first_word : Draft → Option (List ℕ) → Option (List ℕ)
  first_word (word bytes) other = Some bytes
  first_word (opening gap) other = other
  first_word trail other = other
  first_word (nest inner) other = first_word inner other
  first_word (group inner) other = first_word inner other
  first_word (sequence items) other = first_word_of items other

  pub first_word_of : Drafts → Option (List ℕ) → Option (List ℕ)
  first_word_of nothing other = other
  first_word_of (also first rest) other = first_word first (first_word_of rest other)

-- a `(`
abbrev pub opens : Option (List ℕ) → Bool
opens None = false
opens (Some bytes) = bytes_eq bytes (codes "(")

-- a statement behind others: with a `;` before it where it begins with `(`
abbrev pub guarded : Draft → List Draft → List Draft
guarded statement more = cond (opens (first_word statement None)) (word (codes ";") ∷ statement ∷ more) (statement ∷ more)

-- x,_y
abbrev pub more_words : List (List ℕ) → List Draft → List Draft
more_words [] more = more
more_words (name ∷ names) more = tight ∷ word (codes ",") ∷ space ∷ word name ∷ more_words names more

abbrev pub words : List (List ℕ) → List Draft → List Draft
words [] more = more
words (name ∷ names) more = word name ∷ more_words names more

-- ,| before each but the first
abbrev pub more_parameters : List (List ℕ) → List Draft
more_parameters [] = []
more_parameters (name ∷ names) = tight ∷ word (codes ",") ∷ line ∷ word name ∷ more_parameters names

-- () , or a group: (!parameters!)
abbrev pub parameters : List (List ℕ) → List Draft → List Draft
parameters [] more = word (codes "(") ∷ tight_end ∷ word (codes ")") ∷ more
parameters (name ∷ names) more =
    group (pieces (word (codes "(") ∷ nest (pieces (soft ∷ word name ∷ more_parameters names)) ∷ soft_end ∷ word (codes ")") ∷ [])) ∷ more

abbrev pub with_dots : Bool → List (List ℕ) → List (List ℕ)
with_dots true [] = codes "..." ∷ []
with_dots false [] = []
with_dots vararg (name ∷ names) = name ∷ with_dots vararg names

-- _<attribute>
abbrev pub attribute : Option (List ℕ) → List Draft → List Draft
attribute None more = more
attribute (Some name) more = space ∷ word (codes "<") ∷ tight ∷ word name ∷ tight ∷ word (codes ">") ∷ more

-- .field
abbrev pub path_fields : List (List ℕ) → List Draft → List Draft
path_fields [] more = more
path_fields (name ∷ names) more = tight ∷ word (codes ".") ∷ tight ∷ word name ∷ path_fields names more

abbrev pub path : Option (List ℕ) → List (List ℕ) → List Draft → List Draft
path None fields more = path_fields fields more
path (Some name) fields more = word name ∷ path_fields fields more

-- :method
abbrev pub method : Option (List ℕ) → List Draft → List Draft
method None more = more
method (Some name) more = tight ∷ word (codes ":") ∷ tight ∷ word name ∷ more

-- the gap behind the operator of a unary operation
abbrev pub behind_sign : List ℕ → Draft
behind_sign sign = cond (bytes_eq sign (codes "not")) space tight

-- [e]
abbrev pub bracketed : Draft → List Draft → List Draft
bracketed inner more = word (codes "[") ∷ tight ∷ inner ∷ tight ∷ word (codes "]") ∷ more

-- a program whose words stand as they are written
abbrev pub Words : syntax.Shape
Words = Bare (List ℕ)

-- x<attribute>,_y
abbrev pub more_declared : List (syntax.DeclaredName Words) → List Draft → List Draft
more_declared [] more = more
more_declared (d ∷ ds) more = tight ∷ word (codes ",") ∷ space ∷ word d.name ∷ attribute d.attribute (more_declared ds more)

abbrev pub declared : List (syntax.DeclaredName Words) → List Draft → List Draft
declared [] more = more
declared (d ∷ ds) more = word d.name ∷ attribute d.attribute (more_declared ds more)

-- ---- what the arguments of a call are

abbrev pub last_kind : {K : syntax.Shape} → syntax.Expression K → Items
last_kind (syntax.function _ _) = with_block
last_kind (syntax.table _ _) = with_block
last_kind _ = plain_items

abbrev pub kind_of_last : {K : syntax.Shape} → syntax.Expression K → syntax.Expressions K → Items
kind_of_last last syntax.no_expressions = last_kind last
kind_of_last e (syntax.more_expressions f rest) = kind_of_last f rest

abbrev pub kind_of_one : {K : syntax.Shape} → syntax.Expression K → Items
kind_of_one (syntax.string _ _) = lone_string
kind_of_one (syntax.table _ _) = lone_table
kind_of_one e = last_kind e

abbrev pub items_of : {K : syntax.Shape} → syntax.Expressions K → Items
items_of syntax.no_expressions = no_items
items_of (syntax.more_expressions e syntax.no_expressions) = kind_of_one e
items_of (syntax.more_expressions e (syntax.more_expressions f rest)) = kind_of_last f rest

-- ---- the forms, by whether a lone string and a lone table are to have parentheses, where they have them or not

module _ (string_has table_has : Bool → Bool) where
  -- a lone argument: behind a `(`, or behind a space
  abbrev pub lone : Bool → (List Draft → List Draft) → List Draft → List Draft
  lone true item more = word (codes "(") ∷ tight ∷ item (word (codes ")") ∷ more)
  lone false item more = space ∷ item more

  -- arguments, with the gap before them: their items as a list, and with gaps that break between them
  abbrev pub arguments_as : Items → Bool → (listed broken : List Draft → List Draft) → List Draft → List Draft
  arguments_as no_items had listed broken more = tight ∷ word (codes "(") ∷ tight_end ∷ word (codes ")") ∷ more
  arguments_as lone_string had listed broken more = lone (string_has had) listed more
  arguments_as lone_table had listed broken more = lone (table_has had) listed more
  arguments_as with_block had listed broken more = tight ∷ word (codes "(") ∷ tight ∷ listed (tight_end ∷ word (codes ")") ∷ more)
  arguments_as plain_items had listed broken more =
      tight ∷ group (pieces (word (codes "(") ∷ nest (pieces (soft ∷ broken [])) ∷ soft_end ∷ word (codes ")") ∷ [])) ∷ more

  abbrev mutual
    pub expression : syntax.Expression Words → Draft
    expression (syntax.nil_value _) = word (codes "nil")
    expression (syntax.true_value _) = word (codes "true")
    expression (syntax.false_value _) = word (codes "false")
    expression (syntax.numeral _ value) = word value
    expression (syntax.string _ value) = word value
    expression (syntax.varargs _) = word (codes "...")
    expression (syntax.variable _ name) = word name
    -- (e)
    expression (syntax.parenthesised _ inner) = pieces (word (codes "(") ∷ tight ∷ expression inner ∷ tight ∷ word (codes ")") ∷ [])
    -- function body
    expression (syntax.function _ inner) = pieces (word (codes "function") ∷ function_body inner)
    -- {} , or a group: {|fields,|}
    expression (syntax.table _ syntax.no_fields) = pieces (word (codes "{") ∷ tight_end ∷ word (codes "}") ∷ [])
    expression (syntax.table _ (syntax.more_fields first rest)) =
        group (pieces (word (codes "{") ∷ nest (pieces (line ∷ field first (more_fields rest))) ∷ line_end ∷ word (codes "}") ∷ []))
    -- not_e  -e
    expression (syntax.unary _ sign operand) = pieces (word sign ∷ behind_sign sign ∷ expression operand ∷ [])
    -- a group: e|op_e|op_e
    expression (syntax.chain _ first rest) = group (pieces (expression first ∷ nest (pieces (operations rest)) ∷ []))
    -- e_^_e
    expression (syntax.power _ base sign exponent) = pieces (expression base ∷ space ∷ word sign ∷ space ∷ expression exponent ∷ [])
    expression (syntax.suffixed _ head suffixes) = pieces (expression head ∷ suffixes_of suffixes)

    -- e,_e
    pub expressions : syntax.Expressions Words → List Draft → List Draft
    expressions syntax.no_expressions more = more
    expressions (syntax.more_expressions first rest) more = expression first ∷ more_expressions rest more

    pub more_expressions : syntax.Expressions Words → List Draft → List Draft
    more_expressions syntax.no_expressions more = more
    more_expressions (syntax.more_expressions e rest) more = tight ∷ word (codes ",") ∷ space ∷ expression e ∷ more_expressions rest more

    -- e,|e
    pub broken_expressions : syntax.Expressions Words → List Draft → List Draft
    broken_expressions syntax.no_expressions more = more
    broken_expressions (syntax.more_expressions first rest) more = expression first ∷ more_broken rest more

    pub more_broken : syntax.Expressions Words → List Draft → List Draft
    more_broken syntax.no_expressions more = more
    more_broken (syntax.more_expressions e rest) more = tight ∷ word (codes ",") ∷ line ∷ expression e ∷ more_broken rest more

    -- |op_e
    pub operations : syntax.Operations Words → List Draft
    operations syntax.no_operations = []
    operations (syntax.more_operations (syntax.operation sign right) rest) = line ∷ word sign ∷ space ∷ expression right ∷ operations rest

    -- .x  [e]  :x
    pub suffix : syntax.Suffix Words → List Draft → List Draft
    suffix (syntax.name_suffix name) more = tight ∷ word (codes ".") ∷ tight ∷ word name ∷ more
    suffix (syntax.index_suffix index) more = tight ∷ bracketed (expression index) more
    suffix (syntax.call_suffix args) more = arguments args more
    suffix (syntax.method_suffix name args) more = tight ∷ word (codes ":") ∷ tight ∷ word name ∷ arguments args more

    pub suffixes_of : syntax.Suffixes Words → List Draft
    suffixes_of syntax.no_suffixes = []
    suffixes_of (syntax.more_suffixes first rest) = suffix first (suffixes_of rest)

    pub arguments : syntax.Arguments Words → List Draft → List Draft
    arguments (syntax.arguments _ had items) more = arguments_as (items_of items) had (λ ds. expressions items ds) (λ ds. broken_expressions items ds) more

    -- e  x_=_e  [e]_=_e
    pub field : syntax.Field Words → List Draft → List Draft
    field (syntax.item_field value) more = expression value ∷ more
    field (syntax.named_field name value) more = word name ∷ space ∷ word (codes "=") ∷ space ∷ expression value ∷ more
    field (syntax.keyed_field key value) more = bracketed (expression key) (space ∷ word (codes "=") ∷ space ∷ expression value ∷ more)

    -- the `,` is added before its gap, and behind the last field where the table is broken
    pub more_fields : syntax.Fields Words → List Draft
    more_fields syntax.no_fields = trail ∷ []
    more_fields (syntax.more_fields first rest) = word (codes ",") ∷ line ∷ field first (more_fields rest)

    -- parameters body end
    pub function_body : syntax.FunctionBody Words → List Draft
    function_body (syntax.function_body _ names vararg inner) = tight ∷ parameters (with_dots vararg names) (body inner (word (codes "end") ∷ []))

    -- _=_list
    pub assigned : syntax.Expressions Words → List Draft
    assigned syntax.no_expressions = []
    assigned (syntax.more_expressions e rest) = space ∷ word (codes "=") ∷ space ∷ expression e ∷ more_expressions rest []

    pub statement : syntax.Statement Words → Draft
    statement (syntax.empty_statement _) = pieces []
    statement (syntax.local_statement _ names values) = pieces (word (codes "local") ∷ space ∷ declared names (assigned values))
    statement (syntax.assignment _ targets values) = pieces (expressions targets (assigned values))
    statement (syntax.call_statement _ call) = expression call
    statement (syntax.do_statement _ inner) = pieces (word (codes "do") ∷ body inner (word (codes "end") ∷ []))
    statement (syntax.while_statement _ test inner) =
        pieces (word (codes "while") ∷ space ∷ expression test ∷ space ∷ word (codes "do") ∷ body inner (word (codes "end") ∷ []))
    statement (syntax.repeat_statement _ inner test) = pieces (word (codes "repeat") ∷ body inner (word (codes "until") ∷ space ∷ expression test ∷ []))
    statement (syntax.if_statement _ parts last) = pieces (word (codes "if") ∷ arms parts (otherwise last))
    statement (syntax.for_statement _ name first limit step inner) =
        pieces (word (codes "for") ∷ space ∷ word name ∷ space ∷ word (codes "=") ∷ space ∷ expression first ∷ tight ∷ word (codes ",") ∷ space ∷ expression limit
        ∷ for_step step (space ∷ word (codes "do") ∷ body inner (word (codes "end") ∷ [])))
    statement (syntax.for_in_statement _ names values inner) =
        pieces (word (codes "for") ∷ space ∷ words names (space ∷ word (codes "in") ∷ space ∷ expressions values (space ∷ word (codes "do") ∷ body inner (word (codes "end") ∷ []))))
    statement (syntax.function_statement _ name fields named inner) =
        pieces (word (codes "function") ∷ space ∷ path name fields (method named (function_body inner)))
    statement (syntax.local_function_statement _ name inner) =
        pieces (word (codes "local") ∷ space ∷ word (codes "function") ∷ space ∷ word name ∷ function_body inner)
    statement (syntax.label _ name) = pieces (word (codes "::") ∷ tight ∷ word name ∷ tight ∷ word (codes "::") ∷ [])
    statement (syntax.goto_statement _ name) = pieces (word (codes "goto") ∷ space ∷ word name ∷ [])
    statement (syntax.break_statement _) = word (codes "break")
    statement (syntax.return_statement _ syntax.no_expressions) = word (codes "return")
    statement (syntax.return_statement _ (syntax.more_expressions e rest)) = pieces (word (codes "return") ∷ space ∷ expression e ∷ more_expressions rest [])

    -- ,_e
    pub for_step : syntax.OptionalExpression Words → List Draft → List Draft
    for_step syntax.no_expression more = more
    for_step (syntax.an_expression e) more = tight ∷ word (codes ",") ∷ space ∷ expression e ∷ more

    -- _e_then body
    pub arm : syntax.Arm Words → List Draft → List Draft
    arm (syntax.arm test inner) more = space ∷ expression test ∷ space ∷ word (codes "then") ∷ body inner more

    pub arms : syntax.Arms Words → List Draft → List Draft
    arms syntax.no_arms more = more
    arms (syntax.more_arms first rest) more = arm first (more_arms rest more)

    -- elseif arm
    pub more_arms : syntax.Arms Words → List Draft → List Draft
    more_arms syntax.no_arms more = more
    more_arms (syntax.more_arms first rest) more = word (codes "elseif") ∷ arm first (more_arms rest more)

    -- else body end
    pub otherwise : syntax.OptionalBlock Words → List Draft
    otherwise syntax.no_block = word (codes "end") ∷ []
    otherwise (syntax.a_block inner) = word (codes "else") ∷ body inner (word (codes "end") ∷ [])

    -- ^statement, behind others
    pub statements : syntax.Statements Words → List Draft → List Draft
    statements syntax.no_statements more = more
    statements (syntax.more_statements s rest) more = before_statement false ∷ guarded (statement s) (statements rest more)

    -- the statements one level deeper, and a gap before the word that ends them
    pub body : syntax.Block Words → List Draft → List Draft
    body (syntax.block _ syntax.no_statements) more = nothing_inside ∷ more
    body (syntax.block _ (syntax.more_statements s rest)) more = nest (pieces (before_statement true ∷ statement s ∷ statements rest [])) ∷ block_ends ∷ more

  -- the main block
  abbrev pub main : syntax.Block Words → Draft
  main (syntax.block _ syntax.no_statements) = nothing_at_all
  main (syntax.block _ (syntax.more_statements s rest)) = pieces (before_statement true ∷ statement s ∷ statements rest (source_ends ∷ []))

-- the bare program of a chunk whose tokens are written so; of arguments it is kept whether they have parentheses
abbrev pub written_program : List (List ℕ) → Chunk → syntax.Block Words
written_program written chunk = chosen_block (words_of (λ n. get_or written n [])) as_here (syntax_of chunk)
