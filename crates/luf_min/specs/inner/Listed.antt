-- Lists as a loop writes them: with something before each part but the first. What the functions that enter no part of
-- the tree go by.
use Rattle.std.specs.Prelude.{ℕ, Bool, true, false, Option, Some, None, List, [], ◌∷◌, ◌++◌}
use Rattle.luf_lex.specs.declared.token.Sign.TheVariants.{Comma, Dot, Dots, Colon, Less, Greater, LeftParen, RightParen}
use Rattle.luf_tree.specs.declared.tree.Declared.{Declared}
use Rattle.luf_min.specs.declared.item.Item.{Item}
use Rattle.luf_min.specs.declared.item.Item.TheVariants.{Token, Sign}

-- what stands before a part: nothing before the first
abbrev pub before_part : Item → Bool → List Item
before_part between true = []
before_part between false = between ∷ []

-- the items of parts, of which the first is the first of all or not
abbrev pub listed : {X : Type 0} → Item → (X → List Item) → Bool → List X → List Item
listed between says first [] = []
listed between says first (x ∷ xs) = before_part between first ++ (says x ++ listed between says false xs)

abbrev pub token_item : ℕ → List Item
token_item n = Token n ∷ []

abbrev pub names_listed : List ℕ → List Item
names_listed names = listed (Sign Comma) token_item true names

abbrev pub is_none : {X : Type 0} → List X → Bool
is_none [] = true
is_none (_ ∷ _) = false

-- the `...` behind parameters
abbrev pub dots_behind : List ℕ → Bool → List Item
dots_behind names false = []
dots_behind names true = before_part (Sign Comma) (is_none names) ++ (Sign Dots ∷ [])

abbrev pub parameters_listed : List ℕ → Bool → List Item
parameters_listed names vararg = Sign LeftParen ∷ (names_listed names ++ (dots_behind names vararg ++ (Sign RightParen ∷ [])))

abbrev pub attribute_items : Option ℕ → List Item
attribute_items None = []
attribute_items (Some name) = Sign Less ∷ Token name ∷ Sign Greater ∷ []

abbrev pub declared_item : Declared → List Item
declared_item d = Token d.name ∷ attribute_items d.attribute

abbrev pub declared_listed : List Declared → List Item
declared_listed names = listed (Sign Comma) declared_item true names

abbrev pub method_items : Option ℕ → List Item
method_items None = []
method_items (Some name) = Sign Colon ∷ Token name ∷ []

abbrev pub path_listed : List ℕ → Option ℕ → List Item
path_listed path method = listed (Sign Dot) token_item true path ++ method_items method
