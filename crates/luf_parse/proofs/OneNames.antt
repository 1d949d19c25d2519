-- From a place on there is at most one list of names of each kind.
use Rattle.std.proofs.Common.{◌≡◌, ℕ, Bool, true, false, Option, Some, None, List, [], refl, ap, ◌∙◌}
use Rattle.luf_lex.specs.declared.token.Tok.{Tok}
use Rattle.luf_lex.specs.declared.token.Tok.TheVariants.{Sign}
use Rattle.luf_lex.specs.declared.token.Sign.TheVariants as sign
use Rattle.luf_tree.specs.declared.tree.Declared.{Declared}
use Rattle.luf_tree.specs.Grammar as g
use Rattle.luf_tree.specs.Grammar.{At, IsToken, AreNames, AreParams, IsAttribute, AreDeclared, IsPath, IsMethod}
use Rattle.luf_descent.specs.Exact.{Alone}
use Rattle.luf_descent.specs.Follow.{NotAt}
use Rattle.luf_descent.specs.Parts.{ReadNames, ReadPath, ReadMethod, ReadParams, ReadAttribute, ReadDeclared, EndsDeclared}
use Rattle.luf_descent.proofs.Exactness.{alone_form, alone_next, alone_is, alone_triple, token_only}
use Rattle.luf_descent.proofs.NameForms.{same_end, second_end, attribute_form, names_form, path_form, declared_form, names_begin, ParamsRead, ReadNamed, params_named, params_more, params_last, params_dots}
use Rattle.luf_parse.proofs.Only.{before, rest_more, rest_last}

pub names_only : {toks : List Tok} {i j : ℕ} {names : List ℕ} → AreNames toks i j names → NotAt toks j (Sign sign.Comma) → Alone (ReadNames toks i) (names, j)
names_only (g.one_name t) ends = alone_form names_form (alone_next (token_only t) (rest_last refl (λ next u. ends u.there)))
names_only (g.more_names t u d) ends = alone_form names_form (alone_next (token_only t) (rest_more _ u (names_only d ends)))

pub path_only : {toks : List Tok} {i j : ℕ} {path : List ℕ} → IsPath toks i j path → NotAt toks j (Sign sign.Dot) → Alone (ReadPath toks i) (path, j)
path_only (g.path_end t) ends = alone_form path_form (alone_next (token_only t) (rest_last refl (λ next u. ends u.there)))
path_only (g.path_more t u d) ends = alone_form path_form (alone_next (token_only t) (rest_more _ u (path_only d ends)))

pub method_only : {toks : List Tok} {i j : ℕ} {method : Option ℕ} → IsMethod toks i j method → At toks j (Sign sign.LeftParen) → Alone (ReadMethod toks i) (method, j)
method_only {toks} {i} g.no_method ends r h = none r.0 r.1 h.is
  where
    none : (method : Option ℕ) (k : ℕ) → IsMethod toks i k method → ◌≡◌ {A = Option ℕ × ℕ} (method, k) (None, i)
    none _ _ g.no_method = refl
    none _ _ (g.a_method t _) = let colon = t.there in absurd cc
method_only {toks} {i} (g.a_method {j = j} {k = k} t n) ends r h = some r.0 r.1 h.is h.ends
  where
    some : (method : Option ℕ) (l : ℕ) → IsMethod toks i l method → At toks l (Sign sign.LeftParen) → ◌≡◌ {A = Option ℕ × ℕ} (method, l) (Some j, k)
    some _ _ g.no_method paren = let colon = t.there in absurd cc
    some _ l (g.a_method u m) paren = ap (λ p. (Some p, l)) (same_end u t) ∙ ap (λ p. (Some j, p)) (second_end u m t n)

attribute_only : {toks : List Tok} {i j : ℕ} {a : Option ℕ} → IsAttribute toks i j a → NotAt toks j (Sign sign.Less) → Alone (ReadAttribute toks i) (a, j)
attribute_only {toks} {i} g.no_attribute ends = λ r h. none r.0 r.1 h.is
  where
    none : (a : Option ℕ) (k : ℕ) → IsAttribute toks i k a → ◌≡◌ {A = Option ℕ × ℕ} (a, k) (None, i)
    none _ _ g.no_attribute = refl
    none _ _ (g.an_attribute t _ _) = absurd (ends t.there)
attribute_only (g.an_attribute t n u) ends = alone_form (attribute_form t) (alone_next (token_only n) (alone_next (token_only u) (alone_is refl)))

pub declared_only : {toks : List Tok} {i j : ℕ} {declared : List Declared} → AreDeclared toks i j declared → EndsDeclared toks j → Alone (ReadDeclared toks i) (declared, j)
declared_only (g.one_declared t d) ends = alone_form declared_form (alone_next (alone_next (token_only t) (attribute_only d ends.less)) (rest_last refl (λ next u. ends.comma u.there)))
declared_only (g.more_declared t d u rest) ends =
    alone_form declared_form (alone_next (alone_next (token_only t) (attribute_only d (λ less. let comma = u.there in absurd cc))) (rest_more _ u (declared_only rest ends)))

name_no_dots : {toks : List Tok} {i j : ℕ} {names : List ℕ} → AreNames toks i j names → NotAt toks i (Sign sign.Dots)
name_no_dots d dots = let name = names_begin d in absurd cc

-- parameters that begin with a name, and end with one
named_only : {toks : List Tok} {i j : ℕ} {names : List ℕ} → AreNames toks i j names → At toks j (Sign sign.RightParen) → Alone (ReadNamed toks i) (names, (false, j))
named_only (g.one_name t) close = params_last t (λ comma. absurd cc)
named_only (g.more_names t u d) close = λ r h. before (named_only d close) (params_more t u (name_no_dots d) r h)

-- parameters that begin with a name, and end with `...`
dotted_only : {toks : List Tok} {i j k l : ℕ} {names : List ℕ} → AreNames toks i j names → IsToken toks j (Sign sign.Comma) k → IsToken toks k (Sign sign.Dots) l → Alone (ReadNamed toks i) (names, (true, l))
dotted_only (g.one_name t) u v = params_dots t u v
dotted_only (g.more_names t w d) u v = λ r h. before (dotted_only d u v) (params_more t w (name_no_dots d) r h)

params_read_only : {toks : List Tok} {i j : ℕ} {params : List ℕ} {vararg : Bool} → AreParams toks i j params vararg → At toks j (Sign sign.RightParen) → Alone (ParamsRead toks i) (params, (vararg, j))
params_read_only {toks} {i} g.no_params close r h = none r.0 r.1.0 r.1.1 h.is
  where
    none : (params : List ℕ) (vararg : Bool) (k : ℕ) → AreParams toks i k params vararg → ◌≡◌ {A = List ℕ × (Bool × ℕ)} (params, (vararg, k)) ([], (false, i))
    none _ _ _ g.no_params = refl
    none _ _ _ (g.dots_alone t) = let dots = t.there in absurd cc
    none _ _ _ (g.names_alone d) = let name = names_begin d in absurd cc
    none _ _ _ (g.names_and_dots d _ _) = let name = names_begin d in absurd cc
params_read_only {toks} {i} (g.dots_alone {j = j} t) close r h = dots r.0 r.1.0 r.1.1 h.is h.ends
  where
    dots : (params : List ℕ) (vararg : Bool) (k : ℕ) → AreParams toks i k params vararg → At toks k (Sign sign.RightParen) → ◌≡◌ {A = List ℕ × (Bool × ℕ)} (params, (vararg, k)) ([], (true, j))
    dots _ _ _ g.no_params ends = let here = t.there in absurd cc
    dots _ _ _ (g.dots_alone u) ends = ap (λ p. ([], (true, p))) (same_end u t)
    dots _ _ _ (g.names_alone d) ends = let here = t.there in let name = names_begin d in absurd cc
    dots _ _ _ (g.names_and_dots d _ _) ends = let here = t.there in let name = names_begin d in absurd cc
params_read_only (g.names_alone d) close r h = named_only d close r (params_named (names_begin d) r h)
params_read_only (g.names_and_dots d u v) close r h = dotted_only d u v r (params_named (names_begin d) r h)

pub params_only : {toks : List Tok} {i j : ℕ} {params : List ℕ} {vararg : Bool} → AreParams toks i j params vararg → At toks j (Sign sign.RightParen) → Alone (ReadParams toks i) (params, vararg, j)
params_only {toks} {i} d close = alone_triple (ReadParams toks i) (params_read_only d close)
