-- Which arguments are lone, and which of them stand in parentheses.
use Rattle.std.proofs.Common.{◌≡◌, Bool, true, false, refl}
use Rattle.luf_tree.specs.Syntax as syntax
use Rattle.luf_tree.specs.SyntaxMap.{ShapeMap}
use Rattle.luf_bare.specs.Bare.{chosen_expression, chosen_expressions}
use Rattle.luf_bare.specs.Lone.{is_lone, is_lone_item, item_enclosed, items_enclosed}

module _ {K M : syntax.Shape} (f : ShapeMap K M) (encloses : syntax.Expressions K → Bool → Bool) where
  lone_item_chosen : (e : syntax.Expression K) → is_lone_item (chosen_expression f encloses e) ≡ is_lone_item e
  lone_item_chosen (syntax.string _ _) = refl
  lone_item_chosen (syntax.table _ _) = refl
  lone_item_chosen _ = refl

  pub lone_chosen : (es : syntax.Expressions K) → is_lone (chosen_expressions f encloses es) ≡ is_lone es
  lone_chosen syntax.no_expressions = refl
  lone_chosen (syntax.more_expressions e syntax.no_expressions) = lone_item_chosen e
  lone_chosen (syntax.more_expressions e (syntax.more_expressions g rest)) = refl

module _ {K : syntax.Shape} where
  lone_item_enclosed : (b : Bool) (e : syntax.Expression K) → is_lone_item e ≡ true → item_enclosed b b e ≡ b
  lone_item_enclosed b (syntax.string _ _) lone = refl
  lone_item_enclosed b (syntax.table _ _) lone = refl
  lone_item_enclosed b _ lone = absurd cc

  pub lone_enclosed : (b : Bool) (es : syntax.Expressions K) → is_lone es ≡ true → items_enclosed b b es ≡ b
  lone_enclosed b syntax.no_expressions lone = absurd cc
  lone_enclosed b (syntax.more_expressions e syntax.no_expressions) lone = lone_item_enclosed b e lone
  lone_enclosed b (syntax.more_expressions e (syntax.more_expressions f rest)) lone = absurd cc

  other_item_enclosed : (b c : Bool) (e : syntax.Expression K) → is_lone_item e ≡ false → item_enclosed b c e ≡ true
  other_item_enclosed b c (syntax.string _ _) other = absurd cc
  other_item_enclosed b c (syntax.table _ _) other = absurd cc
  other_item_enclosed b c _ other = refl

  pub others_enclosed : (b c : Bool) (es : syntax.Expressions K) → is_lone es ≡ false → items_enclosed b c es ≡ true
  others_enclosed b c syntax.no_expressions other = refl
  others_enclosed b c (syntax.more_expressions e syntax.no_expressions) other = other_item_enclosed b c e other
  others_enclosed b c (syntax.more_expressions e (syntax.more_expressions f rest)) other = refl
