-- Lists of names in each list of tokens that agrees: what is known of them, and where they stop.
use Rattle.std.proofs.Common.{◌≡◌, ℕ, ◌+◌, ◌≤◌, Bool, true, false, Option, Some, None, List, [], ◌∷◌, ◌++◌, length, refl, sym, ap, ◌∙◌, subst, arith}
use Rattle.luf_lex.specs.declared.token.Tok.{Tok}
use Rattle.luf_lex.specs.declared.token.Tok.TheVariants.{Name, Sign}
use Rattle.luf_lex.specs.declared.token.Sign.TheVariants as sign
use Rattle.luf_tree.specs.declared.tree.Declared.{Declared}
use Rattle.luf_tree.specs.Agree.{AgreeBefore}
use Rattle.luf_tree.specs.Grammar as g
use Rattle.luf_tree.specs.Grammar.{At, IsToken, AreNames, AreParams, IsAttribute, AreDeclared, IsPath, IsMethod}
use Rattle.luf_descent.specs.Follow.{NotAt}
use Rattle.luf_descent.specs.Parts as p
use Rattle.luf_descent.specs.Reads.{Found}
use Rattle.luf_descent.specs.PartStops.{StopsNames, StopsParams, StopsAttribute, StopsDeclared}
use Rattle.luf_descent.specs.Stops.{Known, Missing, NameMissing}
use Rattle.luf_descent.specs.declared.error.ParseErr.{ParseErr}
use Rattle.luf_descent.proofs.Exactness.{then_rest, token_only, alone_next, alone_triple, Ahead, ahead_start, ahead_more, ahead_last, list_more, list_last}
use Rattle.luf_descent.proofs.Joining.{Joins, joins_none, joins_more, joins_last}
use Rattle.luf_descent.proofs.NameForms.{same_end, names_form, path_form, attribute_form, declared_form, names_begin, ParamsRead, ReadNamed, params_named, params_more, params_last, params_dots}
use Rattle.luf_descent.proofs.Completing.{agree_less, token_agrees}
use Rattle.luf_descent.proofs.Knowing.{agree_self, token_stops}
use Rattle.luf_descent.proofs.ExprStops.{not_here}
use Rattle.luf_descent.proofs.FunctionStops.{path_item}
use Rattle.luf_descent.proofs.NameStops.{names_item, params_item, declared_name, declared_attribute}
use Rattle.luf_descent.proofs.SoFar.{SoFar, so_far_more, so_far_last}

-- ---- names

abbrev pub NamesSoFar : List Tok → ℕ → ℕ → List ℕ → Type 0
NamesSoFar toks from at found = SoFar toks (λ l i. AgreeBefore toks l i) (λ l n i. p.ReadNames l i) (λ l i k x. AreNames l i k x) from at found

pub names_more : {toks : List Tok} {from at to next : ℕ} {found new : List ℕ} → NamesSoFar toks from at found → new ≡ found ++ at ∷ [] → IsToken toks at Name to → IsToken toks to (Sign sign.Comma) next → NamesSoFar toks from next new
names_more h e t u =
    let n = t.next in
    let o = u.next in
    so_far_more h e (omega arith) (λ l agree n. list_more names_form (token_only (token_agrees agree (omega arith) t)) (token_agrees agree (omega arith) u)) (λ l agree. agree_less agree (omega arith))
    (λ l agree k rest d. g.more_names (token_agrees agree (omega arith) t) (token_agrees agree (omega arith) u) d)

pub names_known : {toks : List Tok} {from at to : ℕ} {found all : List ℕ} → NamesSoFar toks from at found → all ≡ found ++ at ∷ [] → IsToken toks at Name to → NotAt toks to (Sign sign.Comma) → Known toks to (λ l n. p.ReadNames l from) (all, to)
names_known {to = to} h e t none =
    let n = t.next in
    so_far_last to h e (omega arith) (λ l agree n. list_last names_form (token_only (token_agrees agree (omega arith) t)) (λ next u. not_here to agree none u.there))

pub names_found : {toks : List Tok} {from at to : ℕ} {found all : List ℕ} → NamesSoFar toks from at found → all ≡ found ++ at ∷ [] → IsToken toks at Name to → to ≤ length toks → Found toks (from + 1) to 0 0 (AreNames toks from to all)
names_found {toks} {from} {at} {to} {found} {all} h e t within =
    let n = t.next in
    let f = h.forward in
    record { is = joins_last (AreNames toks) from at to found all at (h.joins toks (agree_self toks at)) e (g.one_name t); ends = record { forward = omega arith; within = within }; level = omega arith }

pub names_stop : {toks : List Tok} {from at left : ℕ} {found : List ℕ} {e : ParseErr} → NamesSoFar toks from at found → at ≤ length toks → Missing toks at Name e → StopsNames toks left from e
names_stop {found = found} h within missing = names_item found h.forward h.joins (λ l agree. h.ahead l agree 0) (token_stops within missing)

-- ---- paths and methods

abbrev pub PathSoFar : List Tok → ℕ → ℕ → List ℕ → Type 0
PathSoFar toks from at found = SoFar toks (λ l i. AgreeBefore toks l i) (λ l n i. p.ReadPath l i) (λ l i k x. IsPath l i k x) from at found

pub path_more : {toks : List Tok} {from at to next : ℕ} {found new : List ℕ} → PathSoFar toks from at found → new ≡ found ++ at ∷ [] → IsToken toks at Name to → IsToken toks to (Sign sign.Dot) next → PathSoFar toks from next new
path_more h e t u =
    let n = t.next in
    let o = u.next in
    so_far_more h e (omega arith) (λ l agree n. list_more path_form (token_only (token_agrees agree (omega arith) t)) (token_agrees agree (omega arith) u)) (λ l agree. agree_less agree (omega arith))
    (λ l agree k rest d. g.path_more (token_agrees agree (omega arith) t) (token_agrees agree (omega arith) u) d)

pub path_known : {toks : List Tok} {from at to : ℕ} {found all : List ℕ} → PathSoFar toks from at found → all ≡ found ++ at ∷ [] → IsToken toks at Name to → NotAt toks to (Sign sign.Dot) → Known toks to (λ l n. p.ReadPath l from) (all, to)
path_known {to = to} h e t none =
    let n = t.next in
    so_far_last to h e (omega arith) (λ l agree n. list_last path_form (token_only (token_agrees agree (omega arith) t)) (λ next u. not_here to agree none u.there))

pub path_found : {toks : List Tok} {from at to : ℕ} {found all : List ℕ} → PathSoFar toks from at found → all ≡ found ++ at ∷ [] → IsToken toks at Name to → to ≤ length toks → Found toks (from + 1) to 0 0 (IsPath toks from to all)
path_found {toks} {from} {at} {to} {found} {all} h e t within =
    let n = t.next in
    let f = h.forward in
    record { is = joins_last (IsPath toks) from at to found all at (h.joins toks (agree_self toks at)) e (g.path_end t); ends = record { forward = omega arith; within = within }; level = omega arith }

pub path_stop : {toks : List Tok} {from at : ℕ} {found : List ℕ} {e : ParseErr} → PathSoFar toks from at found → at ≤ length toks → Missing toks at Name e → NameMissing toks from (λ l k x. IsPath l from k x) (λ l. p.ReadPath l from) e
path_stop {found = found} h within missing = path_item found h.forward within h.joins (λ l agree. h.ahead l agree 0) missing

abbrev named : ℕ → ℕ → Option ℕ × ℕ
named name to = (Some name, to)

method_some : {l : List Tok} {i name to j : ℕ} {method : Option ℕ} → IsToken l i (Sign sign.Colon) name → IsToken l name Name to → IsMethod l i j method → At l j (Sign sign.LeftParen) → ◌≡◌ {A = Option ℕ × ℕ} (method, j) (Some name, to)
method_some t u g.no_method paren = let a = t.there in absurd cc
method_some {l} {name = name} {to = to} {j = j} t u (g.a_method v n) paren =
    let same = same_end v t in
    let a = u.next in
    let b = n.next in
    ap (λ (q : ℕ). named q j) same ∙ ap (λ (q : ℕ). named name q) (omega arith)

method_none : {l : List Tok} {i j : ℕ} {method : Option ℕ} → NotAt l i (Sign sign.Colon) → IsMethod l i j method → ◌≡◌ {A = Option ℕ × ℕ} (method, j) (None, i)
method_none none g.no_method = refl
method_none none (g.a_method t n) = absurd (none t.there)

pub method_known : {toks : List Tok} {at name to : ℕ} → IsToken toks at (Sign sign.Colon) name → IsToken toks name Name to → Known toks to (λ l n. p.ReadMethod l at) (Some name, to)
method_known t u =
    let n = t.next in
    let o = u.next in
    record { only = λ l agree n y d. method_some (token_agrees agree (omega arith) t) (token_agrees agree (omega arith) u) d.is d.ends }

pub no_method_known : {toks : List Tok} {at : ℕ} → NotAt toks at (Sign sign.Colon) → Known toks at (λ l n. p.ReadMethod l at) (None, at)
no_method_known {at = at} none = record { only = λ l agree n y d. method_none (not_here at agree none) d.is }

-- ---- parameters

pub record ParamsSoFar (toks : List Tok) (from at : ℕ) (found : List ℕ) : Type 0 where
  pub ahead : (l : List Tok) → AgreeBefore toks l (at + 1) → Ahead (ParamsRead l from) found (ReadNamed l at)
  pub joins : (l : List Tok) → AgreeBefore toks l at → Joins (AreNames l) from at found
  pub forward : from ≤ at

pub params_start : {toks : List Tok} {from : ℕ} {found : List ℕ} → At toks from Name → found ≡ [] → ParamsSoFar toks from from found
params_start {from = from} {found = found} here e = record {
  ahead = λ l agree. ahead_start e (params_named (agree.same from (omega arith) ∙ here));
  joins = λ l agree. joins_none (AreNames l) from found e;
  forward = omega arith;
}

pub params_next : {toks : List Tok} {from at to next : ℕ} {found new : List ℕ} → ParamsSoFar toks from at found → new ≡ found ++ at ∷ [] → IsToken toks at Name to → IsToken toks to (Sign sign.Comma) next → NotAt toks next (Sign sign.Dots) → ParamsSoFar toks from next new
params_next {from = from} {at = at} {next = next} {found = found} {new = new} h e t u none =
    let n = t.next in
    let o = u.next in
    let f = h.forward in
    record {
      ahead = λ l agree. ahead_more found (h.ahead l (agree_less agree (omega arith))) e (params_more (token_agrees agree (omega arith) t) (token_agrees agree (omega arith) u) (not_here next agree none));
      joins = λ l agree. joins_more (AreNames l) from at next found new at (h.joins l (agree_less agree (omega arith))) e (λ k rest d. g.more_names (token_agrees agree (omega arith) t) (token_agrees agree (omega arith) u) d);
      forward = omega arith;
    }

pub params_known : {toks : List Tok} {from at to : ℕ} {found all : List ℕ} → ParamsSoFar toks from at found → all ≡ found ++ at ∷ [] → IsToken toks at Name to → NotAt toks to (Sign sign.Comma) → Known toks to (λ l n. p.ReadParams l from) (all, false, to)
params_known {from = from} {to = to} {found = found} h e t none =
    let n = t.next in
    record { only = λ l agree n. alone_triple (p.ReadParams l from) (ahead_last found (h.ahead l (agree_less agree (omega arith))) e (params_last (token_agrees agree (omega arith) t) (not_here to agree none))) }

pub params_dots_known : {toks : List Tok} {from at to next end : ℕ} {found all : List ℕ} → ParamsSoFar toks from at found → all ≡ found ++ at ∷ [] → IsToken toks at Name to → IsToken toks to (Sign sign.Comma) next → IsToken toks next (Sign sign.Dots) end
    → Known toks end (λ l n. p.ReadParams l from) (all, true, end)
params_dots_known {from = from} {found = found} h e t u v =
    let n = t.next in
    let o = u.next in
    let q = v.next in
    record { only = λ l agree n. alone_triple (p.ReadParams l from) (ahead_last found (h.ahead l (agree_less agree (omega arith))) e (params_dots (token_agrees agree (omega arith) t) (token_agrees agree (omega arith) u) (token_agrees agree (omega arith) v))) }

abbrev triple : List ℕ → Bool → ℕ → List ℕ × Bool × ℕ
triple ps vararg j = (ps, vararg, j)

dots_only : {l : List Tok} {i j to : ℕ} {ps : List ℕ} {vararg : Bool} → IsToken l i (Sign sign.Dots) to → AreParams l i j ps vararg → At l j (Sign sign.RightParen) → triple ps vararg j ≡ triple [] true to
dots_only t g.no_params close = let a = t.there in absurd cc
dots_only t (g.dots_alone u) close = ap (λ (q : ℕ). triple [] true q) (same_end u t)
dots_only t (g.names_alone d) close = let a = t.there in let b = names_begin d in absurd cc
dots_only t (g.names_and_dots d u v) close = let a = t.there in let b = names_begin d in absurd cc

empty_only : {l : List Tok} {i j : ℕ} {ps : List ℕ} {vararg : Bool} → NotAt l i (Sign sign.Dots) → NotAt l i Name → AreParams l i j ps vararg → triple ps vararg j ≡ triple [] false i
empty_only dots name g.no_params = refl
empty_only dots name (g.dots_alone u) = absurd (dots u.there)
empty_only dots name (g.names_alone d) = absurd (name (names_begin d))
empty_only dots name (g.names_and_dots d u v) = absurd (name (names_begin d))

pub dots_known : {toks : List Tok} {at to : ℕ} {ps : List ℕ} → ps ≡ [] → IsToken toks at (Sign sign.Dots) to → Known toks to (λ l n. p.ReadParams l at) (ps, true, to)
dots_known {to = to} e t =
    let n = t.next in
    record { only = λ l agree n y d. dots_only (token_agrees agree (omega arith) t) d.is d.ends ∙ ap (λ ps. triple ps true to) (sym e) }

pub no_params_known : {toks : List Tok} {at : ℕ} {ps : List ℕ} → ps ≡ [] → NotAt toks at (Sign sign.Dots) → NotAt toks at Name → Known toks at (λ l n. p.ReadParams l at) (ps, false, at)
no_params_known {at = at} e dots name = record { only = λ l agree n y d. empty_only (not_here at agree dots) (not_here at agree name) d.is ∙ ap (λ ps. triple ps false at) (sym e) }

pub params_found : {toks : List Tok} {from at to : ℕ} {found all : List ℕ} → ParamsSoFar toks from at found → all ≡ found ++ at ∷ [] → IsToken toks at Name to → to ≤ length toks → Found toks from to 0 0 (AreParams toks from to all false)
params_found {toks} {from} {at} {to} {found} {all} h e t within =
    let n = t.next in
    let f = h.forward in
    record { is = g.names_alone (joins_last (AreNames toks) from at to found all at (h.joins toks (agree_self toks at)) e (g.one_name t)); ends = record { forward = omega arith; within = within }; level = omega arith }

pub params_dots_found : {toks : List Tok} {from at to next end : ℕ} {found all : List ℕ} → ParamsSoFar toks from at found → all ≡ found ++ at ∷ [] → IsToken toks at Name to → IsToken toks to (Sign sign.Comma) next → IsToken toks next (Sign sign.Dots) end → end ≤ length toks
    → Found toks from end 0 0 (AreParams toks from end all true)
params_dots_found {toks} {from} {at} {to} {found = found} {all = all} h e t u v within =
    let n = t.next in
    let o = u.next in
    let q = v.next in
    let f = h.forward in
    record { is = g.names_and_dots (joins_last (AreNames toks) from at to found all at (h.joins toks (agree_self toks at)) e (g.one_name t)) u v; ends = record { forward = omega arith; within = within }; level = omega arith }

pub dots_found : {toks : List Tok} {at to : ℕ} {ps : List ℕ} → ps ≡ [] → IsToken toks at (Sign sign.Dots) to → to ≤ length toks → Found toks at to 0 0 (AreParams toks at to ps true)
dots_found {toks} {at} {to} e t within =
    let n = t.next in
    record { is = subst (λ ps. AreParams toks at to ps true) (sym e) (g.dots_alone t); ends = record { forward = omega arith; within = within }; level = omega arith }

pub no_params_found : {toks : List Tok} {at : ℕ} {ps : List ℕ} → ps ≡ [] → at ≤ length toks → Found toks at at 0 0 (AreParams toks at at ps false)
no_params_found {toks} {at} e within = record { is = subst (λ ps. AreParams toks at at ps false) (sym e) g.no_params; ends = record { forward = omega arith; within = within }; level = omega arith }

pub params_stop : {toks : List Tok} {from at left : ℕ} {found : List ℕ} {e : ParseErr} → ParamsSoFar toks from at found → at ≤ length toks → Missing toks at Name e → StopsParams toks left from e
params_stop {found = found} h within missing = params_item found h.forward h.joins h.ahead (token_stops within missing)

-- ---- attributes, and names that are declared

pub attribute_known : {toks : List Tok} {at name close to : ℕ} → IsToken toks at (Sign sign.Less) name → IsToken toks name Name close → IsToken toks close (Sign sign.Greater) to → Known toks to (λ l n. p.ReadAttribute l at) (Some name, to)
attribute_known t u v =
    let n = t.next in
    let o = u.next in
    let q = v.next in
    record {
      only = λ l agree n y d.
          let r = then_rest (token_only (token_agrees agree (omega arith) u)) (attribute_form (token_agrees agree (omega arith) t) y d) in
          then_rest (token_only (token_agrees agree (omega arith) v)) r;
    }

attribute_none : {l : List Tok} {i j : ℕ} {a : Option ℕ} → NotAt l i (Sign sign.Less) → IsAttribute l i j a → ◌≡◌ {A = Option ℕ × ℕ} (a, j) (None, i)
attribute_none none g.no_attribute = refl
attribute_none none (g.an_attribute t n u) = absurd (none t.there)

pub no_attribute_known : {toks : List Tok} {at : ℕ} → NotAt toks at (Sign sign.Less) → Known toks at (λ l n. p.ReadAttribute l at) (None, at)
no_attribute_known {at = at} none = record { only = λ l agree n y d. attribute_none (not_here at agree none) d.is }

attribute_agrees : {toks l : List Tok} {i j : ℕ} {a : Option ℕ} → IsAttribute toks i j a → AgreeBefore toks l j → IsAttribute l i j a
attribute_agrees g.no_attribute agree = g.no_attribute
attribute_agrees (g.an_attribute t n u) agree =
    let a = t.next in
    let b = n.next in
    let c = u.next in
    g.an_attribute (token_agrees agree (omega arith) t) (token_agrees agree (omega arith) n) (token_agrees agree (omega arith) u)

abbrev pub DeclaredSoFar : List Tok → ℕ → ℕ → List Declared → Type 0
DeclaredSoFar toks from at found = SoFar toks (λ l i. AgreeBefore toks l i) (λ l n i. p.ReadDeclared l i) (λ l i k x. AreDeclared l i k x) from at found

abbrev declaring : ℕ → Option ℕ → Declared
declaring name attribute = record { name = name; attribute = attribute }

pub declared_more : {toks : List Tok} {from at after to next : ℕ} {attribute : Option ℕ} {found new : List Declared} → DeclaredSoFar toks from at found → new ≡ found ++ declaring at attribute ∷ [] → IsToken toks at Name after
    → Found toks after to 0 0 (IsAttribute toks after to attribute) → Known toks to (λ l n. p.ReadAttribute l after) (attribute, to) → IsToken toks to (Sign sign.Comma) next → DeclaredSoFar toks from next new
declared_more h e t ok known u =
    let n = t.next in
    let o = u.next in
    let f = ok.ends.forward in
    so_far_more h e (omega arith)
    (λ l agree n. list_more declared_form (alone_next (token_only (token_agrees agree (omega arith) t)) (known.only l (agree_less agree (omega arith)) n)) (token_agrees agree (omega arith) u)) (λ l agree. agree_less agree (omega arith))
    (λ l agree k rest d. g.more_declared (token_agrees agree (omega arith) t) (attribute_agrees ok.is (agree_less agree (omega arith))) (token_agrees agree (omega arith) u) d)

pub declared_known : {toks : List Tok} {from at after to : ℕ} {attribute : Option ℕ} {found all : List Declared} → DeclaredSoFar toks from at found → all ≡ found ++ declaring at attribute ∷ [] → IsToken toks at Name after
    → Found toks after to 0 0 (IsAttribute toks after to attribute) → Known toks to (λ l n. p.ReadAttribute l after) (attribute, to) → NotAt toks to (Sign sign.Comma) → Known toks to (λ l n. p.ReadDeclared l from) (all, to)
declared_known {to = to} h e t ok known none =
    let n = t.next in
    let f = ok.ends.forward in
    so_far_last to h e (omega arith) (λ l agree n. list_last declared_form (alone_next (token_only (token_agrees agree (omega arith) t)) (known.only l agree n)) (λ next u. not_here to agree none u.there))

pub declared_found : {toks : List Tok} {from at after to : ℕ} {attribute : Option ℕ} {found all : List Declared} → DeclaredSoFar toks from at found → all ≡ found ++ declaring at attribute ∷ [] → IsToken toks at Name after
    → Found toks after to 0 0 (IsAttribute toks after to attribute) → Found toks (from + 1) to 0 0 (AreDeclared toks from to all)
declared_found {toks} {from} {at} {to = to} {attribute = attribute} {found = found} {all = all} h e t ok =
    let n = t.next in
    let f = h.forward in
    let o = ok.ends.forward in
    record { is = joins_last (AreDeclared toks) from at to found all (declaring at attribute) (h.joins toks (agree_self toks at)) e (g.one_declared t ok.is); ends = record { forward = omega arith; within = ok.ends.within }; level = omega arith }

pub declared_stop : {toks : List Tok} {from at left : ℕ} {found : List Declared} {e : ParseErr} → DeclaredSoFar toks from at found → at ≤ length toks → Missing toks at Name e → StopsDeclared toks left from e
declared_stop {found = found} h within missing = declared_name found h.forward h.joins (λ l agree. h.ahead l agree 0) (token_stops within missing)

pub declared_stops : {toks : List Tok} {from at after left : ℕ} {found : List Declared} {e : ParseErr} → DeclaredSoFar toks from at found → IsToken toks at Name after → StopsAttribute toks left after e → StopsDeclared toks left from e
declared_stops {found = found} h t s = declared_attribute found h.forward h.joins (λ l agree. h.ahead l agree 0) t s
