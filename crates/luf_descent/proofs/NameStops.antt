-- Where lists of names stop, and what completes them.
use Rattle.std.proofs.Common.{ℕ, ◌+◌, ◌≤◌, false, Some, None, List, [], ◌∷◌, ◌++◌, refl, arith}
use Rattle.luf_lex.specs.declared.token.Tok.{Tok}
use Rattle.luf_lex.specs.declared.token.Tok.TheVariants.{Name, Sign}
use Rattle.luf_lex.specs.declared.token.Sign.TheVariants as sign
use Rattle.luf_tree.specs.declared.tree.Declared.{Declared}
use Rattle.luf_tree.specs.Agree.{AgreeBefore}
use Rattle.luf_tree.specs.Grammar as g
use Rattle.luf_tree.specs.Grammar.{AreNames, AreDeclared, IsToken}
use Rattle.luf_descent.specs.Parts as p
use Rattle.luf_descent.specs.PartStops.{StopsNames, StopsParams, StopsAttribute, StopsDeclared, StopsToken}
use Rattle.luf_descent.specs.declared.error.ParseErr.{ParseErr}
use Rattle.luf_descent.proofs.NameForms.{names_form, attribute_form, declared_form, ParamsRead, ReadNamed}
use Rattle.luf_descent.proofs.Joining.{Joins}
use Rattle.luf_descent.proofs.Exactness.{then_rest, token_only, Ahead}
use Rattle.luf_descent.proofs.Completing.{agree_less, token_agrees, carried_token}
use Rattle.luf_descent.proofs.Frames.{stops_after, stops_last, one}

pub names_item : {toks : List Tok} {from at left : ℕ} {e : ParseErr} (found : List ℕ) → from ≤ at → ((l : List Tok) → AgreeBefore toks l at → Joins (AreNames l) from at found)
    → ((l : List Tok) → AgreeBefore toks l (at + 1) → Ahead (p.ReadNames l from) found (p.ReadNames l at)) → StopsToken toks left at Name e → StopsNames toks left from e
names_item {at = at} found forward joins ahead h =
    stops_last forward h
    (λ kind w l k le b. record { part = found ++ at ∷ []; derived = joins l b.room.agree k (at ∷ []) (g.one_name b.made.derived); levels = b.made.levels })
    (λ w l le agree n y d. let a = ahead l (agree_less agree (omega arith)) y d in let f = names_form a.0 a.1 in record { left = n; part = f.part; is = f.first })

pub params_item : {toks : List Tok} {from at left : ℕ} {e : ParseErr} (found : List ℕ) → from ≤ at → ((l : List Tok) → AgreeBefore toks l at → Joins (AreNames l) from at found)
    → ((l : List Tok) → AgreeBefore toks l (at + 1) → Ahead (ParamsRead l from) found (ReadNamed l at)) → StopsToken toks left at Name e → StopsParams toks left from e
params_item {at = at} found forward joins ahead h =
    stops_last forward h
    (λ kind w l k le b. record { part = (found ++ at ∷ [], false); derived = g.names_alone (joins l b.room.agree k (at ∷ []) (g.one_name b.made.derived)); levels = b.made.levels })
    (λ w l le agree n y d. let a = ahead l (agree_less agree (omega arith)) (y.0, (y.1, y.2)) d in record { left = n; part = a.1.place; is = a.1.name })

pub attribute_name : {toks : List Tok} {at name left : ℕ} {e : ParseErr} → IsToken toks at (Sign sign.Less) name → StopsToken toks left name Name e → StopsAttribute toks left at e
attribute_name {name = name} t h =
    let n = t.next in
    stops_after (Sign sign.Greater ∷ []) refl (omega arith) h
    (λ kind w l m k le b. record { part = Some name; derived = g.an_attribute (carried_token b.room t (omega arith)) b.made.derived (one b.stand); levels = b.made.levels })
    (λ w l le agree n y d. let f = attribute_form (token_agrees agree (omega arith) t) y d in record { left = n; part = f.part; is = f.first })

pub attribute_close : {toks : List Tok} {at name close left : ℕ} {e : ParseErr} → IsToken toks at (Sign sign.Less) name → IsToken toks name Name close → StopsToken toks left close (Sign sign.Greater) e → StopsAttribute toks left at e
attribute_close {name = name} t u h =
    let n = t.next in
    let o = u.next in
    stops_last (omega arith) h
    (λ kind w l k le b. record { part = Some name; derived = g.an_attribute (carried_token b.room t (omega arith)) (carried_token b.room u (omega arith)) b.made.derived; levels = b.made.levels })
    (λ w l le agree n y d. let r = then_rest (token_only (token_agrees agree (omega arith) u)) (attribute_form (token_agrees agree (omega arith) t) y d) in record { left = n; part = r.part; is = r.first })

pub declared_name : {toks : List Tok} {from at left : ℕ} {e : ParseErr} (found : List Declared) → from ≤ at → ((l : List Tok) → AgreeBefore toks l at → Joins (AreDeclared l) from at found)
    → ((l : List Tok) → AgreeBefore toks l (at + 1) → Ahead (p.ReadDeclared l from) found (p.ReadDeclared l at)) → StopsToken toks left at Name e → StopsDeclared toks left from e
declared_name {at = at} found forward joins ahead h =
    stops_last forward h
    (λ kind w l k le b. record { part = found ++ record { name = at; attribute = None } ∷ []; derived = joins l b.room.agree k (record { name = at; attribute = None } ∷ []) (g.one_declared b.made.derived g.no_attribute); levels = b.made.levels })
    (λ w l le agree n y d. let a = ahead l (agree_less agree (omega arith)) y d in let f = declared_form a.0 a.1 in record { left = n; part = f.first.part; is = f.first.first })

pub declared_attribute : {toks : List Tok} {from at after left : ℕ} {e : ParseErr} (found : List Declared) → from ≤ at → ((l : List Tok) → AgreeBefore toks l at → Joins (AreDeclared l) from at found)
    → ((l : List Tok) → AgreeBefore toks l (at + 1) → Ahead (p.ReadDeclared l from) found (p.ReadDeclared l at)) → IsToken toks at Name after → StopsAttribute toks left after e → StopsDeclared toks left from e
declared_attribute {at = at} found forward joins ahead t h =
    let n = t.next in
    stops_last (omega arith) h
    (λ kind w l k le b. record {
      part = found ++ record { name = at; attribute = b.made.part } ∷ [];
      derived = joins l (agree_less b.room.agree (omega arith)) k (record { name = at; attribute = b.made.part } ∷ []) (g.one_declared (carried_token b.room t (omega arith)) b.made.derived);
      levels = b.made.levels;
    })
    (λ w l le agree n y d. let a = ahead l (agree_less agree (omega arith)) y d in let f = declared_form a.0 a.1 in let r = then_rest (token_only (token_agrees agree (omega arith) t)) f.first in record { left = n; part = f.part; is = r })
