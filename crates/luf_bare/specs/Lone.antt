-- Lone arguments: one string or one table, which may stand without parentheses (Lua 5.4 manual, 3.4.10).
use Rattle.std.specs.Prelude.{Bool, true, false}
use Rattle.luf_tree.specs.Syntax as syntax

-- a string or a table: what may stand alone
abbrev pub is_lone_item : {K : syntax.Shape} → syntax.Expression K → Bool
is_lone_item (syntax.string _ _) = true
is_lone_item (syntax.table _ _) = true
is_lone_item _ = false

-- one string or table, and nothing else
abbrev pub is_lone : {K : syntax.Shape} → syntax.Expressions K → Bool
is_lone syntax.no_expressions = false
is_lone (syntax.more_expressions e syntax.no_expressions) = is_lone_item e
is_lone (syntax.more_expressions e (syntax.more_expressions f rest)) = false

-- ---- whether arguments stand in parentheses, by whether one string does and whether one table does: all others do

abbrev pub item_enclosed : {K : syntax.Shape} → Bool → Bool → syntax.Expression K → Bool
item_enclosed of_string of_table (syntax.string _ _) = of_string
item_enclosed of_string of_table (syntax.table _ _) = of_table
item_enclosed of_string of_table _ = true

abbrev pub items_enclosed : {K : syntax.Shape} → Bool → Bool → syntax.Expressions K → Bool
items_enclosed of_string of_table syntax.no_expressions = true
items_enclosed of_string of_table (syntax.more_expressions e syntax.no_expressions) = item_enclosed of_string of_table e
items_enclosed of_string of_table (syntax.more_expressions e (syntax.more_expressions f rest)) = true

-- as is chosen where they are lone
abbrev pub where_lone : {K : syntax.Shape} → (syntax.Expressions K → Bool → Bool) → syntax.Expressions K → Bool → Bool
where_lone encloses items had = items_enclosed (encloses items had) (encloses items had) items

-- as is chosen for one string and for one table, by whether they stand in parentheses here
abbrev pub by_kind : {K : syntax.Shape} → (Bool → Bool) → (Bool → Bool) → syntax.Expressions K → Bool → Bool
by_kind string_has table_has items had = items_enclosed (string_has had) (table_has had) items
