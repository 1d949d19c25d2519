-- Each part of an expression that is looked for at a place, in the form in which it is read: from the token that stands
-- there, one part after another.
use Rattle.std.proofs.Common.{◌≡◌, ℕ, ◌+◌, ◌<◌, ◌≤◌, ◌⊎◌, inl, inr, Bool, true, false, cond, Option, Some, None, List, [], ◌∷◌, length, map, refl, sym, ap, ◌∙◌, subst, arith}
use Rattle.std.specs.Prelude.{slice_get}
use Rattle.luf_lex.specs.declared.token.Tok.{Tok}
use Rattle.luf_lex.specs.declared.token.Tok.TheVariants.{Name, Short, Long, Word, Sign}
use Rattle.luf_lex.specs.declared.token.Word.TheVariants as word
use Rattle.luf_lex.specs.declared.token.Sign.TheVariants as sign
use Rattle.luf_tree.specs.declared.tree.Expr.{Expr, out-Expr}
use Rattle.luf_tree.specs.declared.tree.ExprKind.{ExprKind}
use Rattle.luf_tree.specs.declared.tree.ExprKind.TheVariants as expr
use Rattle.luf_tree.specs.declared.tree.ExprKind.TheViews.{out-roll-Args}
use Rattle.luf_tree.specs.declared.tree.Step.{Step, roll-Step}
use Rattle.luf_tree.specs.declared.tree.Suffix.{Suffix}
use Rattle.luf_tree.specs.declared.tree.Suffix.TheVariants as suffix
use Rattle.luf_tree.specs.declared.tree.Args.{Args, roll-Args, out-Args}
use Rattle.luf_tree.specs.declared.tree.Field.{Field}
use Rattle.luf_tree.specs.declared.tree.Field.TheVariants as field
use Rattle.luf_tree.specs.Operator.{is_unary}
use Rattle.luf_tree.specs.Level.{deepest, expr_levels, field_levels, suffix_levels, step_levels, args_levels, body_levels}
use Rattle.luf_tree.specs.Grammar as g
use Rattle.luf_tree.specs.Grammar.{At, expression, IsToken, IsString, IsExpr, AreSteps, IsOperand, IsSimple, IsPrefix, IsVariable, IsCall, IsParen, IsHead, AreSuffixes, IsSuffix, IsArgs, AreExprs, IsTable, AreFields, IsField}
use Rattle.luf_tree.proofs.LevelEquations as lv
use Rattle.luf_descent.specs.Exact.{Then, Enters}
use Rattle.luf_descent.specs.Follow.{NotAt, NotAssigned, NotString, IsSeparator, continues_prefix, EndsOperand, EndsExpr, EndsExprs, EndsField, ends_field, precedence_at}
use Rattle.luf_descent.specs.Parts.{ReadExpr, ReadSteps, ReadChain, ReadOperand, ReadSimple, ReadUnary, ReadExponent, ReadPower, ReadFunction, ReadTable, ReadTableExpr, ReadFields, ReadField, ReadKeyed, ReadExprs, ReadPrefix, ReadHead, ReadParen, ReadSuffixes, ReadSuffix, ReadArgs, list_args, ReadListArgs, ReadLoneArg}
use Rattle.luf_descent.specs.Reads.{begins_suffix}
use Rattle.luf_descent.specs.Shapes.{IsShaped, suffixed_shape, lone_args, leaf_kind}
use Rattle.luf_descent.specs.declared.prefixes.PrefixExpr.{PrefixExpr}
use Rattle.luf_descent.specs.declared.prefixes.Shape.{Shape}
use Rattle.luf_descent.specs.declared.prefixes.Shape.TheVariants.{Variable, Call, Paren}
use Rattle.luf_descent.proofs.Exactness.{ListRest}
use Rattle.std.proofs.lemmas.Option.{same_Some}
use Rattle.std.proofs.lemmas.Bool.{cases_lt}
use Rattle.luf_tree.proofs.TokenLaws.{expr_starts}
use Rattle.luf_tree.specs.First.{starts_expr}
use Rattle.luf_descent.proofs.NameForms.{same_end}
use Rattle.luf_descent.proofs.Begins.{expr_inside, table_begins, paren_begins, prefix_begins, string_begins, unary_at, simple_begins, begins_args, args_begin, suffixes_begin, steps_begin, exprs_start, field_begins, expr_name_end}
use Rattle.luf_descent.proofs.Ends.{read_expr, read_operand, read_simple, read_args, read_body, enters, moved, paren_to, head_to, variable_to, call_to, prefix_to, simple_to, operand_to, expr_to, args_to, body_to}
use Rattle.luf_descent.proofs.Following.{not_at, token_closes, field_ends_expr, binary_ends_operand, closed_suffix}

-- operands

pub operand_inside : {toks : List Tok} {left i : ℕ} → length toks ≤ i → (e : Expr) → ReadOperand toks left i e → ⊥
operand_inside {toks} {left} {i} end e h = expr_inside end (g.operand_expr {n = 1} h.is)

pub unary_form : {toks : List Tok} {left i next : ℕ} {tok : Tok} → IsToken toks i tok next → is_unary tok ≡ true → (e : Expr) → ReadOperand toks left i e → ReadUnary toks left i next e
unary_form {toks} {left} {i} {next} {tok} t u e h = form _ e h.is h.ends h.level
  where
    form : (j : ℕ) (e : Expr) → IsOperand toks i j e → EndsOperand toks j → expr_levels e ≤ left → ReadUnary toks left i next e
    form j _ (g.unary_operand {k = k} {e = operand} t2 _ d) ends level =
        let enter = enters left (expr_levels operand) (omega (arith, lv.unary_levels i j operand)) in
        subst (λ (p : ℕ). ReadUnary toks left i p (expression i j (expr.Unary operand))) (same_end t2 t)
        (record { part = enter.0; first = enter.1; rest = record { part = operand; first = read_operand d ends enter.2; rest = ap (λ (p : ℕ). expression i p (expr.Unary operand)) (sym (operand_to d)) } })
    form j _ (g.power_operand d _ _) ends level = let a = simple_begins d in let b = ap unary_at t.there in absurd cc
    form j _ (g.simple_operand d) ends level = let a = simple_begins d in let b = ap unary_at t.there in absurd cc

pub power_form : {toks : List Tok} {left i next : ℕ} {tok : Tok} → IsToken toks i tok next → is_unary tok ≡ false → (e : Expr) → ReadOperand toks left i e → ReadPower toks left i e
power_form {toks} {left} {i} {next} {tok} t u e h = form _ e h.is h.ends h.level
  where
    form : (j : ℕ) (e : Expr) → IsOperand toks i j e → EndsOperand toks j → expr_levels e ≤ left → ReadPower toks left i e
    form j _ (g.unary_operand t2 u2 d) ends level = let a = ap unary_at t.there in let b = ap unary_at t2.there in absurd cc
    form j _ (g.power_operand {j = k} {base = base} {exponent = exponent} d c x) ends level =
        record {
          part = base;
          first = read_simple d (ap continues_prefix c.there) (omega (arith, lv.power_levels i j base k exponent));
          rest = record {
            power = λ next n. subst (λ (p : ℕ). ReadExponent toks left i base p (expression i j (expr.Power base k exponent))) (same_end (moved (simple_to d) c) n)
                (let enter = enters left (expr_levels exponent) (omega (arith, lv.power_levels i j base k exponent)) in
                record {
                  part = enter.0;
                  first = enter.1;
                  rest = record {
                    part = exponent;
                    first = read_operand x ends enter.2;
                    rest =
                        ap (λ (p : ℕ). expression i p (expr.Power base k exponent)) (sym (operand_to x)) ∙ ap (λ (p : ℕ). expression i (out-Expr exponent).to (expr.Power base p exponent)) (sym (simple_to d));
                  };
                });
            none = λ other. absurd (other (moved (simple_to d) c).there);
          };
        }
    form j e (g.simple_operand d) ends level =
        record { part = e; first = read_simple d ends.suffix level; rest = record { power = λ next c. absurd (ends.power (moved (sym (simple_to d)) c).there); none = λ other. refl } }

-- simple expressions

-- a name or a `(`
abbrev begins_prefix : Option Tok → Bool
begins_prefix (Some Name) = true
begins_prefix (Some (Sign sign.LeftParen)) = true
begins_prefix _ = false

abbrev is_string : Option Tok → Bool
is_string (Some Short) = true
is_string (Some Long) = true
is_string _ = false

pub simple_inside : {toks : List Tok} {left i : ℕ} → length toks ≤ i → (e : Expr) → ReadSimple toks left i e → ⊥
simple_inside {toks} {left} {i} end e h = expr_inside end (g.operand_expr {n = 1} (g.simple_operand h.is))

pub function_form : {toks : List Tok} {left i next : ℕ} → IsToken toks i (Word word.Function) next → (e : Expr) → ReadSimple toks left i e → ReadFunction toks left i next e
function_form {toks} {left} {i} {next} t e h = form _ e h.is h.level
  where
    form : (j : ℕ) (e : Expr) → IsSimple toks i j e → expr_levels e ≤ left → ReadFunction toks left i next e
    form j _ (g.function_simple {f = f} t2 d) level =
        let enter = enters left (body_levels f) (omega (arith, lv.function_levels i j f)) in
        subst (λ (p : ℕ). ReadFunction toks left i p (expression i j (expr.Function f))) (same_end t2 t)
        (record { part = enter.0; first = enter.1; rest = record { part = f; first = read_body d enter.2; rest = ap (λ (p : ℕ). expression i p (expr.Function f)) (sym (body_to d)) } })
    form j _ (g.nil_simple t2) level = let a = t.there in let b = t2.there in absurd cc
    form j _ (g.true_simple t2) level = let a = t.there in let b = t2.there in absurd cc
    form j _ (g.false_simple t2) level = let a = t.there in let b = t2.there in absurd cc
    form j _ (g.number_simple t2) level = let a = t.there in let b = t2.there in absurd cc
    form j _ (g.string_simple d) level = absurd (not_at toks i begins_args (string_begins begins_args refl refl d) refl t.there)
    form j _ (g.vararg_simple t2) level = let a = t.there in let b = t2.there in absurd cc
    form j _ (g.table_simple d) level = let a = t.there in let b = table_begins d in absurd cc
    form j _ (g.prefix_simple d _) level = absurd (not_at toks i begins_prefix (prefix_begins begins_prefix refl refl d) refl t.there)

pub table_expr_form : {toks : List Tok} {left i : ℕ} → At toks i (Sign sign.LeftBrace) → (e : Expr) → ReadSimple toks left i e → ReadTableExpr toks left i e
table_expr_form {toks} {left} {i} at e h = form _ e h.is h.level
  where
    form : (j : ℕ) (e : Expr) → IsSimple toks i j e → expr_levels e ≤ left → ReadTableExpr toks left i e
    form j _ (g.table_simple {fields = fields} d) level = record { part = (fields, j); first = record { is = d; ends = tt; level = omega (arith, lv.table_levels i j fields) }; rest = refl }
    form j _ (g.function_simple t2 d) level = let a = at in let b = t2.there in absurd cc
    form j _ (g.nil_simple t2) level = let a = at in let b = t2.there in absurd cc
    form j _ (g.true_simple t2) level = let a = at in let b = t2.there in absurd cc
    form j _ (g.false_simple t2) level = let a = at in let b = t2.there in absurd cc
    form j _ (g.number_simple t2) level = let a = at in let b = t2.there in absurd cc
    form j _ (g.string_simple d) level = absurd (not_at toks i is_string (string_begins is_string refl refl d) refl at)
    form j _ (g.vararg_simple t2) level = let a = at in let b = t2.there in absurd cc
    form j _ (g.prefix_simple d _) level = absurd (not_at toks i begins_prefix (prefix_begins begins_prefix refl refl d) refl at)

abbrev leaf_at : Option Tok → Option ExprKind
leaf_at None = None
leaf_at (Some t) = leaf_kind t

abbrev is_some_kind : Option ExprKind → Bool
is_some_kind None = false
is_some_kind (Some _) = true

abbrev leaf_test : Option Tok → Bool
leaf_test None = false
leaf_test (Some t) = is_some_kind (leaf_kind t)

-- two leaves at one place
leaf : {toks : List Tok} {i next j : ℕ} {tok u : Tok} {kind k : ExprKind} → IsToken toks i tok next → leaf_kind tok ≡ Some kind → IsToken toks i u j → leaf_kind u ≡ Some k → expression i j k ≡ expression i next kind
leaf {toks} {i} {next} {j} {tok} {u} {kind} {k} t known t2 known2 =
    ap (λ (p : ℕ). expression i p k) (same_end t2 t) ∙ ap (λ (z : ExprKind). expression i next z) (same_Some k kind (sym known2 ∙ sym (ap leaf_at t2.there) ∙ ap leaf_at t.there ∙ known))

-- no leaf begins another part
no_leaf : (toks : List Tok) (i : ℕ) {u tok : Tok} {kind : ExprKind} {A : Type 0} → At toks i u → leaf_kind u ≡ None → At toks i tok → leaf_kind tok ≡ Some kind → A
no_leaf toks i u none t some = let a = ap leaf_at u in let b = ap leaf_at t in absurd cc

pub leaf_only : {toks : List Tok} {left i next : ℕ} {tok : Tok} {kind : ExprKind} → IsToken toks i tok next → leaf_kind tok ≡ Some kind → (e : Expr) → ReadSimple toks left i e → e ≡ expression i next kind
leaf_only {toks} {left} {i} {next} {tok} {kind} t k e h = form _ e h.is
  where
    form : (j : ℕ) (e : Expr) → IsSimple toks i j e → e ≡ expression i next kind
    form j _ (g.nil_simple t2) = leaf t k t2 refl
    form j _ (g.true_simple t2) = leaf t k t2 refl
    form j _ (g.false_simple t2) = leaf t k t2 refl
    form j _ (g.number_simple t2) = leaf t k t2 refl
    form j _ (g.string_simple (inl t2)) = leaf t k t2 refl
    form j _ (g.string_simple (inr t2)) = leaf t k t2 refl
    form j _ (g.vararg_simple t2) = leaf t k t2 refl
    form j _ (g.function_simple t2 d) = no_leaf toks i t2.there refl t.there k
    form j _ (g.table_simple d) = no_leaf toks i (table_begins d) refl t.there k
    form j e (g.prefix_simple d _) = let a = prefix_begins leaf_test refl refl d in let b = ap leaf_test t.there in let c = ap is_some_kind k in absurd cc

abbrev pub PrefixedForm : List Tok → ℕ → ℕ → Expr → Type 0
PrefixedForm toks left i = Then (ReadPrefix toks left i) (λ p e. e ≡ p.expr)

pub prefixed_form : {toks : List Tok} {left i next : ℕ} {tok : Tok} → IsToken toks i tok next → leaf_kind tok ≡ None → NotAt toks i (Word word.Function) → NotAt toks i (Sign sign.LeftBrace)
    → (e : Expr) → ReadSimple toks left i e → PrefixedForm toks left i e
prefixed_form {toks} {left} {i} {next} {tok} t k f b e h = form _ e h.is h.ends h.level
  where
    other : {u : Tok} {j : ℕ} {kind : ExprKind} {A : Type 0} → IsToken toks i u j → leaf_kind u ≡ Some kind → A
    other t2 some = no_leaf toks i t.there k t2.there some

    read : (j : ℕ) (e : Expr) (shape : Shape) → IsShaped toks i j shape e → j ≡ (out-Expr e).to → begins_suffix toks j ≡ false → expr_levels e ≤ left → PrefixedForm toks left i e
    read j e shape d to ends level =
        record { part = record { shape = shape; expr = e }; first = record { is = subst (λ (p : ℕ). IsShaped toks i p shape e) to d; ends = subst (λ (p : ℕ). begins_suffix toks p ≡ false) to ends; level = level }; rest = refl }

    prefixed : (j : ℕ) (e : Expr) → IsPrefix toks i j e → begins_suffix toks j ≡ false → expr_levels e ≤ left → PrefixedForm toks left i e
    prefixed j e (g.variable_prefix d) ends level = read j e Variable d (sym (variable_to d)) ends level
    prefixed j e (g.call_prefix d) ends level = read j e Call d (sym (call_to d)) ends level
    prefixed j e (g.paren_prefix d) ends level = read j e Paren d (sym (paren_to d)) ends level

    form : (j : ℕ) (e : Expr) → IsSimple toks i j e → continues_prefix (slice_get toks (out-Expr e).to) ≡ false → expr_levels e ≤ left → PrefixedForm toks left i e
    form j _ (g.nil_simple t2) ends level = other t2 refl
    form j _ (g.true_simple t2) ends level = other t2 refl
    form j _ (g.false_simple t2) ends level = other t2 refl
    form j _ (g.number_simple t2) ends level = other t2 refl
    form j _ (g.string_simple (inl t2)) ends level = other t2 refl
    form j _ (g.string_simple (inr t2)) ends level = other t2 refl
    form j _ (g.vararg_simple t2) ends level = other t2 refl
    form j _ (g.function_simple t2 d) ends level = absurd (f t2.there)
    form j _ (g.table_simple d) ends level = absurd (b (table_begins d))
    form j e (g.prefix_simple d closed) ends level =
        prefixed j e d (closed_suffix toks j (subst (λ (p : ℕ). continues_prefix (slice_get toks p) ≡ false) (prefix_to d) ends) closed) level

-- tables

abbrev pub TableForm : List Tok → ℕ → ℕ → (List Field × ℕ) → Type 0
TableForm toks left i = Then (IsToken toks i (Sign sign.LeftBrace)) (λ first. Then (Enters left) (λ inner. Then (ReadFields toks inner first) (λ r. Then (IsToken toks r.1 (Sign sign.RightBrace)) (λ to y. y ≡ (r.0, to)))))

pub table_form : {toks : List Tok} {left i : ℕ} → (r : List Field × ℕ) → ReadTable toks left i r → TableForm toks left i r
table_form {toks} {left} {i} r h = form r.0 r.1 h.is h.level
  where
    form : (fields : List Field) (j : ℕ) → IsTable toks i j fields → deepest (map field_levels fields) + 1 ≤ left → TableForm toks left i (fields, j)
    form fields j (g.table t d c) level =
        let enter = enters left (deepest (map field_levels fields)) level in
        record { part = _; first = t; rest = record { part = enter.0; first = enter.1; rest = record { part = (fields, _); first = record { is = d; ends = c.there; level = enter.2 }; rest = record { part = j; first = c; rest = refl } } } }

abbrev pub FieldsForm : List Tok → ℕ → ℕ → (List Field × ℕ) → Type 0
FieldsForm toks left i = Then (ReadField toks left i) (λ f. ListRest (IsSeparator toks f.1) (λ next. ReadFields toks left next) f.0 f.1)

pub fields_form : {toks : List Tok} {left i : ℕ} → NotAt toks i (Sign sign.RightBrace) → (r : List Field × ℕ) → ReadFields toks left i r → FieldsForm toks left i r
fields_form {toks} {left} {i} other r h = form r.0 r.1 h.is h.ends h.level
  where
    separator_ends : {j k : ℕ} → IsSeparator toks j k → EndsField toks j
    separator_ends (inl c) = ap ends_field c.there
    separator_ends (inr c) = ap ends_field c.there

    separator_next : {j k n : ℕ} → IsSeparator toks j k → IsSeparator toks j n → k ≡ n
    separator_next (inl c) (inl d) = same_end c d
    separator_next (inl c) (inr d) = let a = c.there in let b = d.there in absurd cc
    separator_next (inr c) (inl d) = let a = c.there in let b = d.there in absurd cc
    separator_next (inr c) (inr d) = same_end c d

    separator_other : {j k : ℕ} → IsSeparator toks j k → At toks j (Sign sign.RightBrace) → ⊥
    separator_other (inl c) close = let a = c.there in absurd cc
    separator_other (inr c) close = let a = c.there in absurd cc

    form : (fields : List Field) (j : ℕ) → AreFields toks i j fields → At toks j (Sign sign.RightBrace) → deepest (map field_levels fields) ≤ left → FieldsForm toks left i (fields, j)
    form _ j g.no_fields close level = absurd (other close)
    form _ j (g.last_field {f = f} d) close level =
        record {
          part = (f, j);
          first = record { is = d; ends = ap ends_field close; level = omega (arith, level) };
          rest = record
              { more = λ next sep. absurd (separator_other sep close); last = λ none. refl };
        }
    form _ j (g.more_fields {j = k} {k = l} {f = f} {fields = fields} d sep rest) close level =
        record {
          part = (f, k);
          first = record { is = d; ends = separator_ends sep; level = omega (arith, level) };
          rest = record {
            more = λ next sep2. ((fields, j), subst (λ (p : ℕ). ReadFields toks left p (fields, j)) (separator_next sep sep2) (record { is = rest; ends = close; level = omega (arith, level) }), refl);
            last = λ none. absurd (none l sep);
          };
        }

pub fields_end : {toks : List Tok} {left i : ℕ} → At toks i (Sign sign.RightBrace) → (r : List Field × ℕ) → ReadFields toks left i r → r ≡ ([], i)
fields_end {toks} {left} {i} close r h = form r.0 r.1 h.is
  where
    form : (fields : List Field) (j : ℕ) → AreFields toks i j fields → ◌≡◌ {A = List Field × ℕ} (fields, j) ([], i)
    form _ j g.no_fields = refl
    form _ j (g.last_field d) = absurd (field_begins d close)
    form _ j (g.more_fields d _ _) = absurd (field_begins d close)

pub keyed_form : {toks : List Tok} {left i inside : ℕ} → IsToken toks i (Sign sign.LeftBracket) inside → (r : Field × ℕ) → ReadField toks left i r → ReadKeyed toks left inside r
keyed_form {toks} {left} {i} {inside} t r h = form r.0 r.1 h.is h.ends h.level
  where
    form : (f : Field) (j : ℕ) → IsField toks i j f → EndsField toks j → field_levels f ≤ left → ReadKeyed toks left inside (f, j)
    form _ j (g.keyed_field {k = k} {l = close} {o = from} {key = key} {value = value} t2 d c equal v) ends level =
        let enter = enters left (expr_levels key) (omega (arith, lv.keyed_levels key value)) in
        subst (λ (p : ℕ). ReadKeyed toks left p (field.Keyed key value, j)) (same_end t2 t)
        (record {
          part = enter.0;
          first = enter.1;
          rest = record {
            part = key;
            first = read_expr d (token_closes c.there refl refl refl) enter.2;
            rest = record {
              part = close;
              first = moved (expr_to d) c;
              rest = record {
                part = from;
                first = equal;
                rest = record
                    { part = value; first = read_expr v (field_ends_expr ends) (omega (arith, lv.keyed_levels key value)); rest = ap (λ (p : ℕ). (field.Keyed key value, p)) (sym (expr_to v)) };
              };
            };
          };
        })
    form _ j (g.named_field t2 _ _) ends level = let a = t.there in let b = t2.there in absurd cc
    form _ j (g.item_field d) ends level = absurd (not_at toks i starts_expr (expr_starts d) refl t.there)

abbrev pub NamedForm : List Tok → ℕ → ℕ → ℕ → (Field × ℕ) → Type 0
NamedForm toks left i from = Then (ReadExpr toks 1 left from) (λ value r. r ≡ (field.Named i value, (out-Expr value).to))

pub named_form : {toks : List Tok} {left i after from : ℕ} → IsToken toks i Name after → IsToken toks after (Sign sign.Assign) from → (r : Field × ℕ) → ReadField toks left i r → NamedForm toks left i from r
named_form {toks} {left} {i} {after} {from} n t r h = form r.0 r.1 h.is h.ends h.level
  where
    form : (f : Field) (j : ℕ) → IsField toks i j f → EndsField toks j → field_levels f ≤ left → NamedForm toks left i from (f, j)
    form _ j (g.keyed_field t2 _ _ _ _) ends level = let a = n.there in let b = t2.there in absurd cc
    form _ j (g.named_field {value = value} n2 t2 d) ends level =
        subst (λ (p : ℕ). NamedForm toks left i p (field.Named i value, j)) (same_end (moved (same_end n n2) t2) t)
        (record { part = value; first = read_expr d (field_ends_expr ends) (omega (arith, lv.named_levels i value)); rest = ap (λ (p : ℕ). (field.Named i value, p)) (sym (expr_to d)) })
    form _ j (g.item_field d) ends level = absurd (not_at toks after ends_field (subst (λ (p : ℕ). EndsField toks p) (expr_name_end n t.there d) ends) refl t.there)

abbrev pub ItemForm : List Tok → ℕ → ℕ → (Field × ℕ) → Type 0
ItemForm toks left i = Then (ReadExpr toks 1 left i) (λ e r. r ≡ (field.Item e, (out-Expr e).to))

pub item_form : {toks : List Tok} {left i : ℕ} → NotAt toks i (Sign sign.LeftBracket) → NotAssigned toks i → (r : Field × ℕ) → ReadField toks left i r → ItemForm toks left i r
item_form {toks} {left} {i} bracket assigned r h = form r.0 r.1 h.is h.ends h.level
  where
    form : (f : Field) (j : ℕ) → IsField toks i j f → EndsField toks j → field_levels f ≤ left → ItemForm toks left i (f, j)
    form _ j (g.keyed_field t _ _ _ _) ends level = absurd (bracket t.there)
    form _ j (g.named_field n t _) ends level = absurd (assigned _ (record { after = _; name = n; sign = t }))
    form _ j (g.item_field {e = e} d) ends level = record { part = e; first = read_expr d (field_ends_expr ends) (omega (arith, lv.item_levels e)); rest = ap (λ (p : ℕ). (field.Item e, p)) (sym (expr_to d)) }

-- lists of expressions

abbrev pub ExprsForm : List Tok → ℕ → ℕ → (List Expr × ℕ) → Type 0
ExprsForm toks left i = Then (ReadExpr toks 1 left i) (λ e. ListRest (IsToken toks (out-Expr e).to (Sign sign.Comma)) (λ next. ReadExprs toks left next) e (out-Expr e).to)

pub exprs_form : {toks : List Tok} {left i : ℕ} → (r : List Expr × ℕ) → ReadExprs toks left i r → ExprsForm toks left i r
exprs_form {toks} {left} {i} r h = form r.0 r.1 h.is h.ends h.level
  where
    form : (es : List Expr) (j : ℕ) → AreExprs toks i j es → EndsExprs toks j → deepest (map expr_levels es) ≤ left → ExprsForm toks left i (es, j)
    form _ j (g.one_expr {e = e} d) ends level =
        record {
          part = e;
          first = read_expr d ends.expr (omega (arith, level));
          rest = record
              { more = λ next c. absurd (ends.comma (moved (sym (expr_to d)) c).there); last = λ none. ap (λ (p : ℕ). (e ∷ [], p)) (sym (expr_to d)) };
        }
    form _ j (g.more_exprs {j = k} {k = l} {e = e} {es = es} d c rest) ends level =
        record {
          part = e;
          first = read_expr d (token_closes c.there refl refl refl) (omega (arith, level));
          rest = record {
            more = λ next c2. ((es, j), subst (λ (p : ℕ). ReadExprs toks left p (es, j)) (same_end (moved (expr_to d) c) c2) (record { is = rest; ends = ends; level = omega (arith, level) }), refl);
            last = λ none. absurd (none l (moved (expr_to d) c));
          };
        }

-- prefix expressions

abbrev pub SuffixedForm : List Tok → ℕ → ℕ → PrefixExpr → PrefixExpr → Type 0
SuffixedForm toks left i head = Then (ReadSuffixes toks left (out-Expr head.expr).to) (λ r p. p ≡ record { shape = suffixed_shape r.1; expr = g.suffixed i r.2 head.expr r.0 })

-- what stands behind a head: suffixes, if one begins there
pub record PrefixRest (toks : List Tok) (left i : ℕ) (head p : PrefixExpr) : Type 0 where
  pub alone : begins_suffix toks (out-Expr head.expr).to ≡ false → p ≡ head
  pub more : begins_suffix toks (out-Expr head.expr).to ≡ true → SuffixedForm toks left i head p

abbrev pub PrefixForm : List Tok → ℕ → ℕ → PrefixExpr → Type 0
PrefixForm toks left i = Then (ReadHead toks left i) (λ head. PrefixRest toks left i head)

pub prefix_form : {toks : List Tok} {left i : ℕ} → (p : PrefixExpr) → ReadPrefix toks left i p → PrefixForm toks left i p
prefix_form {toks} {left} {i} p h = shaped p.shape p.expr _ h.is h.ends h.level
  where
    head_read : {j : ℕ} {e : Expr} → IsHead toks i j e → expr_levels e ≤ left → (s : Shape) × ReadHead toks left i (record { shape = s; expr = e })
    head_read {j} (g.name_head t) level = (Variable, record { is = g.name_head t; ends = g.name_variable t; level = level })
    head_read {j} {e} (g.paren_head d) level =
        (Paren, record { is = subst (λ (p : ℕ). IsHead toks i p e) (sym (paren_to d)) (g.paren_head d); ends = subst (λ (p : ℕ). IsParen toks i p e) (sym (paren_to d)) d; level = level })

    alone_form : (j : ℕ) (s : Shape) (e : Expr) → IsHead toks i j e → IsShaped toks i j s e → j ≡ (out-Expr e).to → begins_suffix toks j ≡ false → expr_levels e ≤ left → PrefixForm toks left i (record { shape = s; expr = e })
    alone_form j s e d shape to ends level =
        record {
          part = record { shape = s; expr = e };
          first = record { is = subst (λ (p : ℕ). IsHead toks i p e) to d; ends = subst (λ (p : ℕ). IsShaped toks i p s e) to shape; level = level };
          rest = record { alone = λ none. refl; more = λ some. let none = subst (λ (p : ℕ). begins_suffix toks p ≡ false) to ends in absurd cc };
        }

    suffixed : {j k : ℕ} {head : Expr} {suffixes : List Suffix} (calls : Bool) → IsHead toks i j head → AreSuffixes toks calls j k suffixes → begins_suffix toks k ≡ false → expr_levels (g.suffixed i k head suffixes) ≤ left
        → PrefixForm toks left i (record { shape = suffixed_shape calls; expr = g.suffixed i k head suffixes })
    suffixed {j} {k} {head} {suffixes} calls d rest ends level =
        let read = head_read d (omega (arith, lv.suffixed_levels i k head suffixes)) in
        let at_head = subst (λ (p : ℕ). AreSuffixes toks calls p k suffixes) (sym (head_to d)) rest in
        record {
          part = record { shape = read.0; expr = head };
          first = read.1;
          rest = record {
            alone = λ none. let some = suffixes_begin at_head in absurd cc;
            more = λ some. record { part = (suffixes, calls, k); first = record { is = at_head; ends = ends; level = omega (arith, lv.suffixed_levels i k head suffixes) }; rest = refl };
          };
        }

    variable : (j : ℕ) (e : Expr) → IsVariable toks i j e → begins_suffix toks j ≡ false → expr_levels e ≤ left → PrefixForm toks left i (record { shape = Variable; expr = e })
    variable j _ (g.name_variable t) ends level = alone_form j Variable (expression i j expr.Name) (g.name_head t) (g.name_variable t) refl ends level
    variable j _ (g.suffixed_variable d rest) ends level = suffixed false d rest ends level

    call : (j : ℕ) (e : Expr) → IsCall toks i j e → begins_suffix toks j ≡ false → expr_levels e ≤ left → PrefixForm toks left i (record { shape = Call; expr = e })
    call j _ (g.suffixed_call d rest) ends level = suffixed true d rest ends level

    shaped : (s : Shape) (e : Expr) (j : ℕ) → IsShaped toks i j s e → begins_suffix toks j ≡ false → expr_levels e ≤ left → PrefixForm toks left i (record { shape = s; expr = e })
    shaped Variable e j d ends level = variable j e d ends level
    shaped Call e j d ends level = call j e d ends level
    shaped Paren e j d ends level = alone_form j Paren e (g.paren_head d) d (sym (paren_to d)) ends level

abbrev prefix_of : Shape → Expr → PrefixExpr
prefix_of s e = record { shape = s; expr = e }

-- a head with suffixes is neither a name nor an expression in parentheses
suffixed_name : (i j k : ℕ) (head : Expr) (suffixes : List Suffix) → g.suffixed i j head suffixes ≡ expression i k expr.Name → ⊥
suffixed_name i j k head suffixes same = by (g.is_name_from i head) (ap (λ e. (out-Expr e).what) same)
  where
    by : (b : Bool) → cond b (expr.NameSuffixed suffixes) (expr.Suffixed head suffixes) ≡ expr.Name → ⊥
    by true kinds = absurd cc
    by false kinds = absurd cc

suffixed_paren : (i j k : ℕ) (head : Expr) (suffixes : List Suffix) (e : Expr) → g.suffixed i j head suffixes ≡ expression i k (expr.Paren e) → ⊥
suffixed_paren i j k head suffixes e same = by (g.is_name_from i head) (ap (λ e. (out-Expr e).what) same)
  where
    by : (b : Bool) → cond b (expr.NameSuffixed suffixes) (expr.Suffixed head suffixes) ≡ expr.Paren e → ⊥
    by true kinds = absurd cc
    by false kinds = absurd cc

name_no_call : {toks : List Tok} {i j k : ℕ} {e : Expr} → IsCall toks i j e → e ≡ expression i k expr.Name → ⊥
name_no_call {k = k} (g.suffixed_call {head = head} {suffixes = suffixes} _ _) same = suffixed_name _ _ k head suffixes same

paren_no_call : {toks : List Tok} {i j k : ℕ} {e : Expr} (inner : Expr) → IsCall toks i j e → e ≡ expression i k (expr.Paren inner) → ⊥
paren_no_call {k = k} inner (g.suffixed_call {head = head} {suffixes = suffixes} _ _) same = suffixed_paren _ _ k head suffixes inner same

paren_no_variable : {toks : List Tok} {i j k : ℕ} {e : Expr} (inner : Expr) → NotAt toks i Name → IsVariable toks i j e → e ≡ expression i k (expr.Paren inner) → ⊥
paren_no_variable inner other (g.name_variable t) same = other t.there
paren_no_variable {k = k} inner other (g.suffixed_variable {head = head} {suffixes = suffixes} _ _) same = suffixed_paren _ _ k head suffixes inner same

pub head_name : {toks : List Tok} {left i to : ℕ} → IsToken toks i Name to → (p : PrefixExpr) → ReadHead toks left i p → p ≡ record { shape = Variable; expr = expression i to expr.Name }
head_name {toks} {left} {i} {to} t p h = form p.shape p.expr _ h.is h.ends
  where
    form : (s : Shape) (e : Expr) (j : ℕ) → IsHead toks i j e → IsShaped toks i j s e → prefix_of s e ≡ prefix_of Variable (expression i to expr.Name)
    form Variable _ j (g.name_head t2) d = ap (λ (p : ℕ). prefix_of Variable (expression i p expr.Name)) (same_end t2 t)
    form Call _ j (g.name_head t2) d = absurd (name_no_call d refl)
    form Paren _ j (g.name_head t2) d = let a = paren_begins d in let b = t.there in absurd cc
    form s _ j (g.paren_head d) _ = let a = paren_begins d in let b = t.there in absurd cc

abbrev pub HeadForm : List Tok → ℕ → ℕ → PrefixExpr → Type 0
HeadForm toks left i = Then (ReadParen toks left i) (λ e p. p ≡ record { shape = Paren; expr = e })

pub head_form : {toks : List Tok} {left i : ℕ} → NotAt toks i Name → (p : PrefixExpr) → ReadHead toks left i p → HeadForm toks left i p
head_form {toks} {left} {i} other p h = form p.shape p.expr _ h.is h.ends h.level
  where
    no_variable : {j k : ℕ} {e : Expr} → IsVariable toks i j e → IsParen toks i k e → ⊥
    no_variable d (g.paren {e = inner} _ _ _) = paren_no_variable inner other d refl

    no_call : {j k : ℕ} {e : Expr} → IsCall toks i j e → IsParen toks i k e → ⊥
    no_call d (g.paren {e = inner} _ _ _) = paren_no_call inner d refl

    form : (s : Shape) (e : Expr) (j : ℕ) → IsHead toks i j e → IsShaped toks i j s e → expr_levels e ≤ left → HeadForm toks left i (prefix_of s e)
    form s _ j (g.name_head t) _ level = absurd (other t.there)
    form Variable e j (g.paren_head d) v level = absurd (no_variable v d)
    form Call e j (g.paren_head d) v level = absurd (no_call v d)
    form Paren e j (g.paren_head d) _ level = record { part = e; first = record { is = subst (λ (p : ℕ). IsParen toks i p e) (sym (paren_to d)) d; ends = tt; level = level }; rest = refl }

abbrev pub ParenForm : List Tok → ℕ → ℕ → Expr → Type 0
ParenForm toks left i = Then (IsToken toks i (Sign sign.LeftParen)) (λ next. Then (Enters left) (λ inner. Then (ReadExpr toks 1 inner next) (λ inside. Then (IsToken toks (out-Expr inside).to (Sign sign.RightParen)) (λ to e. e ≡ expression i to (expr.Paren inside)))))

pub paren_form : {toks : List Tok} {left i : ℕ} → (e : Expr) → ReadParen toks left i e → ParenForm toks left i e
paren_form {toks} {left} {i} e h = form _ e h.is h.level
  where
    form : (j : ℕ) (e : Expr) → IsParen toks i j e → expr_levels e ≤ left → ParenForm toks left i e
    form j _ (g.paren {e = inside} t d c) level =
        let enter = enters left (expr_levels inside) (omega (arith, lv.paren_levels i j inside)) in
        record {
          part = _;
          first = t;
          rest = record {
            part = enter.0;
            first = enter.1;
            rest = record {
              part = inside;
              first = read_expr d (token_closes c.there refl refl refl) enter.2;
              rest = record
                  { part = j; first = moved (expr_to d) c; rest = refl };
            };
          };
        }

-- suffixes

-- the suffixes, and beside them whether the last makes a call, and the place behind it
abbrev pub SuffixesRead : List Tok → ℕ → ℕ → List Suffix × (Bool × ℕ) → Type 0
SuffixesRead toks left i r = ReadSuffixes toks left i (r.0, r.1.0, r.1.1)

abbrev pub SuffixesForm : List Tok → ℕ → ℕ → List Suffix × (Bool × ℕ) → Type 0
SuffixesForm toks left i = Then (ReadSuffix toks left i) (λ s. ListRest (λ next. (begins_suffix toks s.2 ≡ true) × (next ≡ s.2)) (λ next. SuffixesRead toks left next) s.0 (s.1, s.2))

pub suffixes_form : {toks : List Tok} {left i : ℕ} → (r : List Suffix × (Bool × ℕ)) → SuffixesRead toks left i r → SuffixesForm toks left i r
suffixes_form {toks} {left} {i} r h = form r.0 r.1.0 r.1.1 h.is h.ends h.level
  where
    form : (suffixes : List Suffix) (calls : Bool) (j : ℕ) → AreSuffixes toks calls i j suffixes → begins_suffix toks j ≡ false → deepest (map suffix_levels suffixes) ≤ left → SuffixesForm toks left i (suffixes, (calls, j))
    form _ calls j (g.one_suffix {s = s} d) ends level =
        record {
          part = (s, calls, j);
          first = record { is = d; ends = tt; level = omega (arith, level) };
          rest = record
              { more = λ next some. let begins = some.0 in absurd cc; last = λ none. refl };
        }
    form _ calls j (g.more_suffixes {before = before} {j = k} {s = s} {rest = others} d rest) ends level =
        record {
          part = (s, before, k);
          first = record { is = d; ends = tt; level = omega (arith, level) };
          rest = record {
            more = λ next some. ((others, (calls, j)), subst (λ (p : ℕ). SuffixesRead toks left p (others, (calls, j))) (sym some.1) (record { is = rest; ends = ends; level = omega (arith, level) }), refl);
            last = λ none. absurd (none k (suffixes_begin rest, refl));
          };
        }

abbrev pub DotForm : List Tok → ℕ → (Suffix × Bool × ℕ) → Type 0
DotForm toks name = Then (IsToken toks name Name) (λ to r. r ≡ (suffix.Dot name, false, to))

pub dot_form : {toks : List Tok} {left i name : ℕ} → IsToken toks i (Sign sign.Dot) name → (r : Suffix × Bool × ℕ) → ReadSuffix toks left i r → DotForm toks name r
dot_form {toks} {left} {i} {name} t r h = form r.0 r.1 r.2 h.is
  where
    form : (s : Suffix) (calls : Bool) (j : ℕ) → IsSuffix toks calls i j s → DotForm toks name (s, calls, j)
    form _ _ j (g.dot_suffix {j = k} t2 n) = subst (λ (p : ℕ). DotForm toks p (suffix.Dot k, false, j)) (same_end t2 t) (record { part = j; first = n; rest = refl })
    form _ _ j (g.index_suffix t2 _ _) = let a = t.there in let b = t2.there in absurd cc
    form _ _ j (g.call_suffix d) = absurd (not_at toks i begins_args (args_begin d) refl t.there)
    form _ _ j (g.method_suffix t2 _ _) = let a = t.there in let b = t2.there in absurd cc

abbrev pub IndexForm : List Tok → ℕ → ℕ → (Suffix × Bool × ℕ) → Type 0
IndexForm toks left inside = Then (Enters left) (λ inner. Then (ReadExpr toks 1 inner inside) (λ key. Then (IsToken toks (out-Expr key).to (Sign sign.RightBracket)) (λ to r. r ≡ (suffix.Index key, false, to))))

pub index_form : {toks : List Tok} {left i inside : ℕ} → IsToken toks i (Sign sign.LeftBracket) inside → (r : Suffix × Bool × ℕ) → ReadSuffix toks left i r → IndexForm toks left inside r
index_form {toks} {left} {i} {inside} t r h = form r.0 r.1 r.2 h.is h.level
  where
    form : (s : Suffix) (calls : Bool) (j : ℕ) → IsSuffix toks calls i j s → suffix_levels s ≤ left → IndexForm toks left inside (s, calls, j)
    form _ _ j (g.index_suffix {e = key} t2 d c) level =
        let enter = enters left (expr_levels key) (omega (arith, lv.index_levels key)) in
        subst (λ (p : ℕ). IndexForm toks left p (suffix.Index key, false, j)) (same_end t2 t)
        (record { part = enter.0; first = enter.1; rest = record { part = key; first = read_expr d (token_closes c.there refl refl refl) enter.2; rest = record { part = j; first = moved (expr_to d) c; rest = refl } } })
    form _ _ j (g.dot_suffix t2 _) level = let a = t.there in let b = t2.there in absurd cc
    form _ _ j (g.call_suffix d) level = absurd (not_at toks i begins_args (args_begin d) refl t.there)
    form _ _ j (g.method_suffix t2 _ _) level = let a = t.there in let b = t2.there in absurd cc

abbrev pub MethodForm : List Tok → ℕ → ℕ → (Suffix × Bool × ℕ) → Type 0
MethodForm toks left name = Then (IsToken toks name Name) (λ after. Then (ReadArgs toks left after) (λ args r. r ≡ (suffix.Method name args, true, (out-Args args).to)))

pub method_form : {toks : List Tok} {left i name : ℕ} → IsToken toks i (Sign sign.Colon) name → (r : Suffix × Bool × ℕ) → ReadSuffix toks left i r → MethodForm toks left name r
method_form {toks} {left} {i} {name} t r h = form r.0 r.1 r.2 h.is h.level
  where
    form : (s : Suffix) (calls : Bool) (j : ℕ) → IsSuffix toks calls i j s → suffix_levels s ≤ left → MethodForm toks left name (s, calls, j)
    form _ _ j (g.method_suffix {j = k} {args = args} t2 n d) level =
        subst (λ (p : ℕ). MethodForm toks left p (suffix.Method k args, true, j)) (same_end t2 t)
        (record { part = _; first = n; rest = record { part = args; first = read_args d (omega (arith, lv.method_levels k args)); rest = ap (λ (p : ℕ). (suffix.Method k args, true, p)) (sym (args_to d)) } })
    form _ _ j (g.dot_suffix t2 _) level = let a = t.there in let b = t2.there in absurd cc
    form _ _ j (g.index_suffix t2 _ _) level = let a = t.there in let b = t2.there in absurd cc
    form _ _ j (g.call_suffix d) level = absurd (not_at toks i begins_args (args_begin d) refl t.there)

abbrev pub CallForm : List Tok → ℕ → ℕ → (Suffix × Bool × ℕ) → Type 0
CallForm toks left i = Then (ReadArgs toks left i) (λ args r. r ≡ (suffix.Call args, true, (out-Args args).to))

pub call_form : {toks : List Tok} {left i : ℕ} → NotAt toks i (Sign sign.Dot) → NotAt toks i (Sign sign.LeftBracket) → NotAt toks i (Sign sign.Colon) → (r : Suffix × Bool × ℕ) → ReadSuffix toks left i r → CallForm toks left i r
call_form {toks} {left} {i} dot bracket colon r h = form r.0 r.1 r.2 h.is h.level
  where
    form : (s : Suffix) (calls : Bool) (j : ℕ) → IsSuffix toks calls i j s → suffix_levels s ≤ left → CallForm toks left i (s, calls, j)
    form _ _ j (g.call_suffix {args = args} d) level = record { part = args; first = read_args d (omega (arith, lv.call_suffix_levels args)); rest = ap (λ (p : ℕ). (suffix.Call args, true, p)) (sym (args_to d)) }
    form _ _ j (g.dot_suffix t _) level = absurd (dot t.there)
    form _ _ j (g.index_suffix t _ _) level = absurd (bracket t.there)
    form _ _ j (g.method_suffix t _ _) level = absurd (colon t.there)

pub args_list : {toks : List Tok} {left i inside : ℕ} → IsToken toks i (Sign sign.LeftParen) inside → (a : Args) → ReadArgs toks left i a → ReadListArgs toks left i inside a
args_list {toks} {left} {i} {inside} t a h = form _ a h.is h.level
  where
    form : (j : ℕ) (a : Args) → IsArgs toks i j a → args_levels a ≤ left → ReadListArgs toks left i inside a
    form j _ (g.no_args {j = k} t2 c) level =
        let enter = enters left 0 (omega (arith, lv.args_of_levels i j true [])) in
        subst (λ (p : ℕ). ReadListArgs toks left i p (list_args i j [])) (same_end t2 t)
        (record { part = enter.0; first = enter.1; rest = record { empty = λ to c2. ap (λ (p : ℕ). list_args i p []) (same_end c c2); list = λ other. absurd (other c.there) } })
    form j _ (g.list_args {j = k} {es = es} t2 d c) level =
        let enter = enters left (deepest (map expr_levels es)) (omega (arith, lv.args_of_levels i j true es)) in
        subst (λ (p : ℕ). ReadListArgs toks left i p (list_args i j es)) (same_end t2 t)
        (record {
          part = enter.0;
          first = enter.1;
          rest = record {
            empty = λ to c2. absurd (not_at toks k starts_expr (exprs_start d) refl c2.there);
            list = λ other. record { part = (es, _); first = record { is = d; ends = record { expr = token_closes c.there refl refl refl; comma = no_comma c }; level = enter.2 }; rest = record { part = j; first = c; rest = refl } };
          };
        })
      where
        no_comma : {m n : ℕ} → IsToken toks m (Sign sign.RightParen) n → NotAt toks m (Sign sign.Comma)
        no_comma c there = let a = c.there in absurd cc
    form j _ (g.string_args d) level = absurd (not_at toks i is_string (string_begins is_string refl refl d) refl t.there)
    form j _ (g.table_args d) level = let a = t.there in let b = table_begins d in absurd cc

abbrev pub LoneForm : List Tok → ℕ → ℕ → Args → Type 0
LoneForm toks left i = Then (ReadLoneArg toks left i) (λ e a. a ≡ lone_args i e)

pub args_lone : {toks : List Tok} {left i : ℕ} → NotAt toks i (Sign sign.LeftParen) → (a : Args) → ReadArgs toks left i a → LoneForm toks left i a
args_lone {toks} {left} {i} other a h = form _ a h.is h.level
  where
    form : (j : ℕ) (a : Args) → IsArgs toks i j a → args_levels a ≤ left → LoneForm toks left i a
    form j _ (g.no_args t _) level = absurd (other t.there)
    form j _ (g.list_args t _ _) level = absurd (other t.there)
    form j _ (g.string_args d) level =
        record { part = expression i j expr.Str; first = record { is = g.string_args d; ends = tt; level = omega (arith, lv.args_of_levels i j false (expression i j expr.Str ∷ [])) }; rest = refl }
    form j _ (g.table_args {fields = fields} d) level =
        record { part = expression i j (expr.Table fields); first = record { is = g.table_args d; ends = tt; level = omega (arith, lv.args_of_levels i j false (expression i j (expr.Table fields) ∷ [])) }; rest = refl }

lone_item : (i j : ℕ) (x e : Expr) → roll-Args (record { from = i; to = j; parens = false; items = x ∷ [] }) ≡ lone_args i e → e ≡ x
lone_item i j x e same =
    let items = sym (ap (λ r. r.items) (out-roll-Args (record { from = i; to = j; parens = false; items = x ∷ [] }))) ∙ ap (λ a. (out-Args a).items) same ∙ ap (λ r. r.items) (out-roll-Args (record { from = i; to = (out-Expr e).to; parens = false; items = e ∷ [] })) in cc

lone_parens : (i j : ℕ) (es : List Expr) (e : Expr) → list_args i j es ≡ lone_args i e → ⊥
lone_parens i j es e same =
    let parens = sym (ap (λ r. r.parens) (out-roll-Args (record { from = i; to = j; parens = true; items = es }))) ∙ ap (λ a. (out-Args a).parens) same ∙ ap (λ r. r.parens) (out-roll-Args (record { from = i; to = (out-Expr e).to; parens = false; items = e ∷ [] })) in absurd cc

string_end : {toks : List Tok} {i j k : ℕ} → IsString toks i j → IsString toks i k → j ≡ k
string_end (inl t) (inl u) = same_end t u
string_end (inl t) (inr u) = let a = t.next in let b = u.next in omega arith
string_end (inr t) (inl u) = let a = t.next in let b = u.next in omega arith
string_end (inr t) (inr u) = same_end t u

abbrev pub LoneStringForm : ℕ → ℕ → ℕ → Expr → Type 0
LoneStringForm left i to = Then (Enters left) (λ inner e. e ≡ expression i to expr.Str)

pub lone_string : {toks : List Tok} {left i to : ℕ} → IsString toks i to → (e : Expr) → ReadLoneArg toks left i e → LoneStringForm left i to e
lone_string {toks} {left} {i} {to} t e h = form _ _ h.is refl
  where
    form : (j : ℕ) (a : Args) → IsArgs toks i j a → a ≡ lone_args i e → LoneStringForm left i to e
    form j _ (g.no_args t2 _) same = absurd (not_at toks i is_string (string_begins is_string refl refl t) refl t2.there)
    form j _ (g.list_args t2 _ _) same = absurd (not_at toks i is_string (string_begins is_string refl refl t) refl t2.there)
    form j _ (g.string_args d) same =
        let enter = enters left (expr_levels e) h.level in
        record { part = enter.0; first = enter.1; rest = lone_item i j (expression i j expr.Str) e same ∙ ap (λ (p : ℕ). expression i p expr.Str) (string_end d t) }
    form j _ (g.table_args d) same = absurd (not_at toks i is_string (string_begins is_string refl refl t) refl (table_begins d))

abbrev pub LoneTableForm : List Tok → ℕ → ℕ → Expr → Type 0
LoneTableForm toks left i = Then (IsToken toks i (Sign sign.LeftBrace)) (λ first. Then (Enters left) (λ inner. Then (ReadTable toks inner i) (λ r e. e ≡ expression i r.1 (expr.Table r.0))))

pub lone_table : {toks : List Tok} {left i : ℕ} → NotString toks i → (e : Expr) → ReadLoneArg toks left i e → LoneTableForm toks left i e
lone_table {toks} {left} {i} other e h = form _ _ h.is refl
  where
    table : (j : ℕ) (fields : List Field) → IsTable toks i j fields → e ≡ expression i j (expr.Table fields) → LoneTableForm toks left i e
    table j fields (g.table t d c) same =
        let level = h.level in
        let enter = enters left (deepest (map field_levels fields) + 1) (omega (arith, ap expr_levels same, lv.table_levels i j fields)) in
        record { part = _; first = t; rest = record { part = enter.0; first = enter.1; rest = record { part = (fields, j); first = record { is = g.table t d c; ends = tt; level = enter.2 }; rest = same } } }

    form : (j : ℕ) (a : Args) → IsArgs toks i j a → a ≡ lone_args i e → LoneTableForm toks left i e
    form j _ (g.no_args _ _) same = absurd (lone_parens i j [] e same)
    form j _ (g.list_args {es = es} _ _ _) same = absurd (lone_parens i j es e same)
    form j _ (g.string_args d) same = absurd (other j d)
    form j _ (g.table_args {fields = fields} d) same = table j fields d (lone_item i j (expression i j (expr.Table fields)) e same)

-- binary operators

-- the steps of a chain, the first of whose operators stands at i
abbrev pub StepsForm : List Tok → ℕ → ℕ → ℕ → ℕ → (List Step × ℕ) → Type 0
StepsForm toks level left i next = Then (ReadExpr toks (level + 1) left next) (λ e. ListRest (λ n. (precedence_at toks (out-Expr e).to ≡ level) × (n ≡ (out-Expr e).to)) (λ n. ReadSteps toks level left n) (roll-Step (record { sign = i; right = e })) (out-Expr e).to)

pub steps_form : {toks : List Tok} {level left i next : ℕ} {tok : Tok} → 0 < level → IsToken toks i tok next → (r : List Step × ℕ) → ReadSteps toks level left i r → StepsForm toks level left i next r
steps_form {toks} {level} {left} {i} {next} {tok} low t r h = form r.0 r.1 h.is h.ends h.level
  where
    form : (steps : List Step) (j : ℕ) → AreSteps toks level i j steps → EndsExpr toks level j → deepest (map step_levels steps) ≤ left → StepsForm toks level left i next (steps, j)
    form _ j (g.one_step {e = e} t2 known d) ends levels =
        let low = ends.precedence in
        subst (λ (p : ℕ). StepsForm toks level left i p (roll-Step (record { sign = i; right = e }) ∷ [], j)) (same_end t2 t)
        (record {
          part = e;
          first = read_expr d (record { precedence = omega arith; operand = ends.operand }) (omega (arith, levels, lv.step_of_levels i e));
          rest = record {
            more = λ n sep. let same = subst (λ (p : ℕ). precedence_at toks p ≡ level) (expr_to d) sep.0 in absurd (omega arith);
            last = λ none. ap (λ (p : ℕ). (roll-Step (record { sign = i; right = e }) ∷ [], p)) (sym (expr_to d));
          };
        })
    form _ j (g.more_steps {k = k} {e = e} {rest = others} t2 known d rest) ends levels =
        let here = steps_begin rest in
        subst (λ (p : ℕ). StepsForm toks level left i p (roll-Step (record { sign = i; right = e }) ∷ others, j)) (same_end t2 t)
        (record {
          part = e;
          first = read_expr d (record { precedence = omega arith; operand = binary_ends_operand (omega arith) }) (omega (arith, levels, lv.step_of_levels i e));
          rest = record {
            more = λ n sep. ((others, j), subst (λ (p : ℕ). ReadSteps toks level left p (others, j)) (sym (expr_to d) ∙ sym sep.1) (record { is = rest; ends = ends; level = omega (arith, levels) }), refl);
            last = λ none. absurd (none _ (subst (λ (p : ℕ). precedence_at toks p ≡ level) (sym (expr_to d)) here, refl));
          };
        })

-- An expression that begins with a whole one: it is that, or a chain whose first operand begins with it.
pub data Grown (toks : List Tok) (left i : ℕ) (whole : Expr) : ℕ → Expr → Type 0 where
  grown_whole : {least : ℕ} → precedence_at toks (out-Expr whole).to < least → Grown toks left i whole least whole
  -- no chain of a level from the least on goes on behind the chain
  grown_chain : {least level : ℕ} {first e : Expr} → 0 < level → least ≤ level → Grown toks left i whole (level + 1) first → ReadChain toks level left i first e → precedence_at toks (out-Expr e).to < least → Grown toks left i whole least e

abbrev pub OperandForm : List Tok → ℕ → ℕ → ℕ → Expr → Type 0
OperandForm toks least left i = Then (ReadOperand toks left i) (λ whole e. Grown toks left i whole least e)

pub operand_form : {toks : List Tok} {least left i : ℕ} → (e : Expr) → ReadExpr toks least left i e → OperandForm toks least left i e
operand_form {toks} {least} {left} {i} e h = form least _ e h.is h.ends h.level
  where
    form : (n j : ℕ) (e : Expr) → IsExpr toks n i j e → EndsExpr toks n j → expr_levels e ≤ left → OperandForm toks n left i e
    form n j e (g.operand_expr d) ends level =
        record { part = e; first = read_operand d ends.operand level; rest = grown_whole (subst (λ (p : ℕ). precedence_at toks p < n) (sym (operand_to d)) ends.precedence) }
    form n j _ (g.chain_expr {m = m} {j = k} {first = first} {rest = steps} some above d rest) ends level =
        let here = steps_begin rest in
        let low = ends.precedence in
        let inner = form (m + 1) k first d (record { precedence = omega arith; operand = binary_ends_operand (omega arith) }) (omega (arith, lv.chain_levels i j first steps)) in
        record {
          part = inner.part;
          first = inner.first;
          rest = grown_chain some above inner.rest
              (record {
                part = (steps, j);
                first = record { is = subst (λ (p : ℕ). AreSteps toks m p j steps) (sym (expr_to d)) rest; ends = record { precedence = omega arith; operand = ends.operand }; level = omega (arith, lv.chain_levels i j first steps) };
                rest = refl;
              }) low;
        }

pub grown_end : {toks : List Tok} {least left i : ℕ} {whole : Expr} → precedence_at toks (out-Expr whole).to < least → (e : Expr) → Grown toks left i whole least e → e ≡ whole
grown_end {toks} {least} {left} {i} {whole} low e h = ended least e h low
  where
    ended : (n : ℕ) (e : Expr) → Grown toks left i whole n e → precedence_at toks (out-Expr whole).to < n → e ≡ whole
    ended n _ (grown_whole _) low = refl
    ended n _ (grown_chain {level = m} {first = first} some above inner chain _) low =
        let same = ended (m + 1) first inner (omega arith) in
        let here = subst (λ (x : Expr). precedence_at toks (out-Expr x).to ≡ m) same (steps_begin chain.first.is) in absurd (omega arith)

abbrev pub GrownForm : List Tok → ℕ → ℕ → ℕ → Expr → ℕ → Expr → Type 0
GrownForm toks level left i whole least = Then (ReadChain toks level left i whole) (λ longer e. Grown toks left i longer least e)

pub grown_form : {toks : List Tok} {least level left i : ℕ} {whole : Expr} → precedence_at toks (out-Expr whole).to ≡ level → least ≤ level → (e : Expr) → Grown toks left i whole least e → GrownForm toks level left i whole least e
grown_form {toks} {least} {level} {left} {i} {whole} next low e h = form least e h low
  where
    step : (n m : ℕ) (first e : Expr) → 0 < m → n ≤ m → Grown toks left i whole (m + 1) first → ReadChain toks m left i first e → precedence_at toks (out-Expr e).to < n
        → (m + 1 ≤ level → GrownForm toks level left i whole (m + 1) first) → (m < level) ⊎ (level ≤ m) → GrownForm toks level left i whole n e
    step n m first e some above inner chain ends form (inl lower) = let f = form (omega arith) in record { part = f.part; first = f.first; rest = grown_chain some above f.rest chain ends }
    step n m first e some above inner chain ends form (inr higher) =
        let same = grown_end (omega arith) first inner in
        let at_whole : ReadChain toks m left i whole e = subst (λ (x : Expr). ReadChain toks m left i x e) same chain in
        let here = steps_begin at_whole.first.is in
        record { part = e; first = subst (λ (x : ℕ). ReadChain toks x left i whole e) (sym here ∙ next) at_whole; rest = grown_whole ends }

    form : (n : ℕ) (e : Expr) → Grown toks left i whole n e → n ≤ level → GrownForm toks level left i whole n e
    form n _ (grown_whole ends) low = absurd (omega arith)
    form n e (grown_chain {level = m} {first = first} some above inner chain ends) low = step n m first e some above inner chain ends (λ h. form (m + 1) first inner h) (cases_lt m level)
