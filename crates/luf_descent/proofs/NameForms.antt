-- Lists of names, in the form in which they are read.
use Rattle.std.proofs.Common.{◌≡◌, ℕ, ◌+◌, Bool, true, false, Option, Some, None, List, [], ◌∷◌, refl, ap, subst, arith}
use Rattle.luf_lex.specs.declared.token.Tok.{Tok}
use Rattle.luf_lex.specs.declared.token.Tok.TheVariants.{Name, Sign}
use Rattle.luf_lex.specs.declared.token.Sign.TheVariants as sign
use Rattle.luf_tree.specs.declared.tree.Declared.{Declared}
use Rattle.luf_tree.specs.Grammar as g
use Rattle.luf_tree.specs.Grammar.{At, IsToken, AreNames, AreParams, IsAttribute, AreDeclared, IsPath}
use Rattle.luf_descent.specs.Exact.{Then}
use Rattle.luf_descent.specs.Follow.{NotAt}
use Rattle.luf_descent.specs.Parts.{ReadNames, ReadPath, ReadParams, ReadAttribute, ReadDeclared, EndsDeclared}
use Rattle.luf_descent.proofs.Exactness.{ListRest}

-- the same token stands at the same place
pub same_end : {toks : List Tok} {i j k : ℕ} {t u : Tok} → IsToken toks i t j → IsToken toks i u k → j ≡ k
same_end t u = let a = t.next in let b = u.next in omega arith

-- behind two tokens from the same place
pub second_end : {toks : List Tok} {i j k l m : ℕ} {t u v w : Tok} → IsToken toks i t j → IsToken toks j u k → IsToken toks i v l → IsToken toks l w m → k ≡ m
second_end t u v w = let a = t.next in let b = u.next in let c = v.next in let d = w.next in omega arith

abbrev pub AttributeForm : List Tok → ℕ → (Option ℕ × ℕ) → Type 0
AttributeForm toks name = Then (IsToken toks name Name) (λ close. Then (IsToken toks close (Sign sign.Greater)) (λ to r. r ≡ (Some name, to)))

pub attribute_form : {toks : List Tok} {i name : ℕ} → IsToken toks i (Sign sign.Less) name → (r : Option ℕ × ℕ) → ReadAttribute toks i r
    → AttributeForm toks name r
attribute_form {toks} {i} {name} t r h = form r.0 r.1 h.is h.ends
  where
    form : (a : Option ℕ) (j : ℕ) → IsAttribute toks i j a → NotAt toks j (Sign sign.Less) → AttributeForm toks name (a, j)
    form None _ g.no_attribute ends = absurd (ends t.there)
    form (Some x) j (g.an_attribute l n u) ends = subst (λ p. AttributeForm toks p (Some x, j)) (same_end l t) (record { part = _; first = n; rest = record { part = _; first = u; rest = refl } })

abbrev pub NamesForm : List Tok → ℕ → (List ℕ × ℕ) → Type 0
NamesForm toks i = Then (IsToken toks i Name) (λ j. ListRest (IsToken toks j (Sign sign.Comma)) (λ next. ReadNames toks next) i j)

pub names_form : {toks : List Tok} {i : ℕ} → (r : List ℕ × ℕ) → ReadNames toks i r → NamesForm toks i r
names_form {toks} {i} r h = form r.0 r.1 h.is h.ends
  where
    form : (names : List ℕ) (j : ℕ) → AreNames toks i j names → NotAt toks j (Sign sign.Comma) → NamesForm toks i (names, j)
    form _ j (g.one_name t) ends = record { part = j; first = t; rest = record { more = λ next u. absurd (ends u.there); last = λ none. refl } }
    form _ l (g.more_names {j = j} {names = names} t u d) ends = record {
      part = j;
      first = t;
      rest = record {
        more = λ next v. ((names, l), subst (λ p. ReadNames toks p (names, l)) (same_end u v) (record { is = d; ends = ends; level = omega arith }), refl);
        last = λ none. absurd (none _ u);
      };
    }

abbrev pub PathForm : List Tok → ℕ → (List ℕ × ℕ) → Type 0
PathForm toks i = Then (IsToken toks i Name) (λ j. ListRest (IsToken toks j (Sign sign.Dot)) (λ next. ReadPath toks next) i j)

pub path_form : {toks : List Tok} {i : ℕ} → (r : List ℕ × ℕ) → ReadPath toks i r → PathForm toks i r
path_form {toks} {i} r h = form r.0 r.1 h.is h.ends
  where
    form : (path : List ℕ) (j : ℕ) → IsPath toks i j path → NotAt toks j (Sign sign.Dot) → PathForm toks i (path, j)
    form _ j (g.path_end t) ends = record { part = j; first = t; rest = record { more = λ next u. absurd (ends u.there); last = λ none. refl } }
    form _ l (g.path_more {j = j} {path = path} t u d) ends = record {
      part = j;
      first = t;
      rest = record {
        more = λ next v. ((path, l), subst (λ p. ReadPath toks p (path, l)) (same_end u v) (record { is = d; ends = ends; level = omega arith }), refl);
        last = λ none. absurd (none _ u);
      };
    }

-- a name that is declared, and its attribute
abbrev pub ReadOne : List Tok → ℕ → (Option ℕ × ℕ) → Type 0
ReadOne toks i = Then (IsToken toks i Name) (λ after. ReadAttribute toks after)

abbrev pub DeclaredForm : List Tok → ℕ → (List Declared × ℕ) → Type 0
DeclaredForm toks i = Then (ReadOne toks i) (λ a. ListRest (IsToken toks a.1 (Sign sign.Comma)) (λ next. ReadDeclared toks next) (record { name = i; attribute = a.0 }) a.1)

pub declared_form : {toks : List Tok} {i : ℕ} → (r : List Declared × ℕ) → ReadDeclared toks i r → DeclaredForm toks i r
declared_form {toks} {i} r h = form r.0 r.1 h.is h.ends
  where
    form : (declared : List Declared) (j : ℕ) → AreDeclared toks i j declared → EndsDeclared toks j → DeclaredForm toks i (declared, j)
    form _ k (g.one_declared {j = j} {a = a} t d) ends = record {
      part = (a, k);
      first = record { part = j; first = t; rest = record { is = d; ends = ends.less; level = omega arith } };
      rest = record { more = λ next u. absurd (ends.comma u.there); last = λ none. refl };
    }
    form _ o (g.more_declared {j = j} {k = k} {a = a} {declared = declared} t d u rest) ends = record {
      part = (a, k);
      first = record { part = j; first = t; rest = record { is = d; ends = λ less. let comma = u.there in absurd cc; level = omega arith } };
      rest = record {
        more = λ next v. ((declared, o), subst (λ p. ReadDeclared toks p (declared, o)) (same_end u v) (record { is = rest; ends = ends; level = omega arith }), refl);
        last = λ none. absurd (none _ u);
      };
    }

-- the parameters, and beside them whether `...` is among them, and the place behind them
abbrev pub ParamsRead : List Tok → ℕ → List ℕ × (Bool × ℕ) → Type 0
ParamsRead toks i r = ReadParams toks i (r.0, r.1.0, r.1.1)

-- parameters that begin with a name
pub record ReadNamed (toks : List Tok) (i : ℕ) (r : List ℕ × (Bool × ℕ)) : Type 0 where
  pub params : ParamsRead toks i r
  pub place : ℕ
  pub name : IsToken toks i Name place

pub params_named : {toks : List Tok} {i : ℕ} → At toks i Name → (r : List ℕ × (Bool × ℕ)) → ParamsRead toks i r → ReadNamed toks i r
params_named {toks} {i} t r h = record { params = h; place = i + 1; name = record { there = t; next = refl } }

-- names begin with a name
pub names_begin : {toks : List Tok} {i j : ℕ} {names : List ℕ} → AreNames toks i j names → At toks i Name
names_begin (g.one_name t) = t.there
names_begin (g.more_names t _ _) = t.there

abbrev read : List ℕ → Bool → ℕ → List ℕ × (Bool × ℕ)
read params vararg j = (params, (vararg, j))

abbrev MoreForm : List Tok → ℕ → ℕ → (List ℕ × (Bool × ℕ)) → Type 0
MoreForm toks i next r = (s : List ℕ × (Bool × ℕ)) × ReadNamed toks next s × (r ≡ (i ∷ s.0, s.1))

pub params_more : {toks : List Tok} {i to next : ℕ} → IsToken toks i Name to → IsToken toks to (Sign sign.Comma) next → NotAt toks next (Sign sign.Dots) → (r : List ℕ × (Bool × ℕ)) → ReadNamed toks i r
    → (s : List ℕ × (Bool × ℕ)) × ReadNamed toks next s × (r ≡ (i ∷ s.0, s.1))
params_more {toks} {i} {to} {next} n t other r h = form r.0 r.1.0 r.1.1 h.params.is h.params.ends
  where
    named : (params : List ℕ) (vararg : Bool) (j k : ℕ) → j ≡ next → At toks j Name → AreParams toks j k params vararg → At toks k (Sign sign.RightParen) → MoreForm toks i next (i ∷ params, (vararg, k))
    named params vararg j k e name d close = ((params, (vararg, k)), params_named (subst (λ p. At toks p Name) e name) (params, (vararg, k)) (record { is = subst (λ p. AreParams toks p k params vararg) e d; ends = close; level = omega arith }), refl)

    form : (params : List ℕ) (vararg : Bool) (j : ℕ) → AreParams toks i j params vararg → At toks j (Sign sign.RightParen) → MoreForm toks i next (params, (vararg, j))
    form _ _ _ g.no_params close = let name = n.there in absurd cc
    form _ _ _ (g.dots_alone u) close = let name = n.there in let dots = u.there in absurd cc
    form _ _ j (g.names_alone (g.one_name u)) close = let comma = t.there in let e = same_end u n in absurd cc
    form _ _ j (g.names_alone (g.more_names u v d)) close = named _ false _ j (second_end u v n t) (names_begin d) (g.names_alone d) close
    form _ _ j (g.names_and_dots (g.one_name u) v w) close = let dots = w.there in absurd (other (subst (λ p. At toks p (Sign sign.Dots)) (second_end u v n t) dots))
    form _ _ j (g.names_and_dots (g.more_names u v d) w x) close = named _ true _ j (second_end u v n t) (names_begin d) (g.names_and_dots d w x) close

pub params_last : {toks : List Tok} {i to : ℕ} → IsToken toks i Name to → NotAt toks to (Sign sign.Comma) → (r : List ℕ × (Bool × ℕ)) → ReadNamed toks i r → r ≡ (i ∷ [], (false, to))
params_last {toks} {i} {to} n other r h = form r.0 r.1.0 r.1.1 h.params.is h.params.ends
  where
    form : (params : List ℕ) (vararg : Bool) (j : ℕ) → AreParams toks i j params vararg → At toks j (Sign sign.RightParen) → read params vararg j ≡ read (i ∷ []) false to
    form _ _ _ g.no_params close = let name = n.there in absurd cc
    form _ _ _ (g.dots_alone u) close = let name = n.there in let dots = u.there in absurd cc
    form _ _ j (g.names_alone (g.one_name u)) close = ap (λ p. read (i ∷ []) false p) (same_end u n)
    form _ _ j (g.names_alone (g.more_names u v d)) close = absurd (other (subst (λ p. At toks p (Sign sign.Comma)) (same_end u n) v.there))
    form _ _ j (g.names_and_dots (g.one_name u) v w) close = absurd (other (subst (λ p. At toks p (Sign sign.Comma)) (same_end u n) v.there))
    form _ _ j (g.names_and_dots (g.more_names u v d) w x) close = absurd (other (subst (λ p. At toks p (Sign sign.Comma)) (same_end u n) v.there))

pub params_dots : {toks : List Tok} {i to next end : ℕ} → IsToken toks i Name to → IsToken toks to (Sign sign.Comma) next → IsToken toks next (Sign sign.Dots) end → (r : List ℕ × (Bool × ℕ)) → ReadNamed toks i r → r ≡ (i ∷ [], (true, end))
params_dots {toks} {i} {to} {next} {end} n t dots r h = form r.0 r.1.0 r.1.1 h.params.is h.params.ends
  where
    form : (params : List ℕ) (vararg : Bool) (j : ℕ) → AreParams toks i j params vararg → At toks j (Sign sign.RightParen) → read params vararg j ≡ read (i ∷ []) true end
    form _ _ _ g.no_params close = let name = n.there in absurd cc
    form _ _ _ (g.dots_alone u) close = let name = n.there in let mark = u.there in absurd cc
    form _ _ j (g.names_alone (g.one_name u)) close = let comma = t.there in let e = same_end u n in absurd cc
    form _ _ j (g.names_alone (g.more_names u v d)) close = let name = names_begin d in let mark = dots.there in let e = second_end u v n t in absurd cc
    form _ _ j (g.names_and_dots (g.one_name u) v w) close = let e = second_end u v n t in let a = w.next in let b = dots.next in ap (λ p. read (i ∷ []) true p) (omega arith)
    form _ _ j (g.names_and_dots (g.more_names u v d) w x) close = let name = names_begin d in let mark = dots.there in let e = second_end u v n t in absurd cc
