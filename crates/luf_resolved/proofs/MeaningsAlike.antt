-- Of occurrences and the same by ranks, where the tokens are spelled alike: locals, functions, labels and gotos are the same,
-- and so is what names and labels mean.
use Rattle.std.proofs.Common.{◌≡◌, ℕ, ◌+◌, ◌&&◌, Bool, true, false, cond, Option, Some, None, List, ◌∷◌, ap, sym, refl, subst, ◌∙◌}
use Rattle.std.specs.Prelude.{nat_le, nat_lt, nat_eq, bytes_eq, codes}
use Rattle.std.specs.List.{list_any, position_from}
use Rattle.std.specs.Option.{option_eq}
use Rattle.luf_lex.specs.declared.token.Tok.{Tok}
use Rattle.luf_bare.specs.Rank.{rank}
use Rattle.luf_scope.specs.Local.{Spelling, LocalVariable, FunctionAt, is_active, kind_of, declared_by, locals_of, meaning, function_by, functions_of, is_held, function_of}
use Rattle.luf_scope.specs.Jump.{LabelAt, GotoAt, label_by, goto_by, labels_of, gotos_of, is_seen, inner, innermost, target, jump_to, goto_role, label_role}
use Rattle.luf_scope.specs.Role.{is_variable, is_field, reference, declaration, declared_at, role_of}
use Rattle.luf_scope.specs.declared.binder.Role.TheVariants as role
use Rattle.luf_scope.specs.declared.jump.JumpRole.TheVariants as jump
use Rattle.luf_scope.specs.declared.occurrence.Occurrence.{Occurrence}
use Rattle.luf_scope.specs.declared.occurrence.Occurrence.TheVariants.{Local, LocalFunction, Parameter, ImplicitSelf, LoopVariable, Reads, Assigns, Field, Function, Label, Goto}
use Rattle.luf_resolved.specs.Resolved.{name_meaning, label_number, kinds_of, meanings}
use Rattle.luf_resolved.proofs.Paired.{Paired, PairedOption, nothing, more, neither, both, filtered, same_last, same_any, same_position, same_map}
use Rattle.luf_resolved.proofs.Ranking.{Solid, SolidOption, Opened, Sound, ranked_option, ranked_occurrence, Ranked}
use Rattle.luf_resolved.proofs.RankOrder.{before_alike, reached_alike, equal_alike, opened_alike, begun_alike}

module _ (toks : List Tok) (all : List ℕ) (spelled told : Spelling) (tells : (i : ℕ) → Solid toks all i → told (rank all i) ≡ spelled i) where
  -- ---- local variables

  pub record RankedLocal (v w : LocalVariable) : Type 0 where
    pub solid : Solid toks all v.token
    pub token : w.token ≡ rank all v.token
    pub name : w.name ≡ v.name
    pub kind : w.kind ≡ v.kind
    pub from : w.from ≡ rank all v.from
    pub to : w.to ≡ rank all v.to

  kind_alike : (a : Option ℕ) → SolidOption toks all a → kind_of told (ranked_option toks all a) ≡ kind_of spelled a
  kind_alike None s = refl
  kind_alike (Some a) s = ap (λ z. kind_of (λ _. z) (Some a)) (tells a s)

  declared_alike : (u : Occurrence) → Sound toks all u → PairedOption RankedLocal (declared_by spelled u) (declared_by told (ranked_occurrence toks all u))
  declared_alike (Local name attribute from to) s = both (record { solid = s.0; token = refl; name = tells name s.0; kind = kind_alike attribute s.1; from = refl; to = refl })
  declared_alike (LocalFunction name from to) s = both (record { solid = s; token = refl; name = tells name s; kind = refl; from = refl; to = refl })
  declared_alike (Parameter name from to) s = both (record { solid = s; token = refl; name = tells name s; kind = refl; from = refl; to = refl })
  declared_alike (ImplicitSelf colon from to) s = both (record { solid = s; token = refl; name = refl; kind = refl; from = refl; to = refl })
  declared_alike (LoopVariable name from to) s = both (record { solid = s; token = refl; name = tells name s; kind = refl; from = refl; to = refl })
  declared_alike _ s = neither

  -- ---- functions

  pub record RankedFunction (f h : FunctionAt) : Type 0 where
    opening : Opened toks all f.from
    closing : Opened toks all f.to
    from : h.from ≡ rank all f.from
    to : h.to ≡ rank all f.to
    pub vararg : h.vararg ≡ f.vararg

  function_alike : (u : Occurrence) → Sound toks all u → PairedOption RankedFunction (function_by u) (function_by (ranked_occurrence toks all u))
  function_alike (Function from to vararg) s = both (record { opening = s.0; closing = s.1; from = refl; to = refl; vararg = refl })
  function_alike _ s = neither

  variable_alike : {t : ℕ} → Solid toks all t → (u : Occurrence) → Sound toks all u → is_variable (rank all t) (ranked_occurrence toks all u) ≡ is_variable t u
  variable_alike at (Reads name) s = equal_alike at s
  variable_alike at (Assigns name) s = equal_alike at s
  variable_alike at _ s = refl

  field_alike : {t : ℕ} → Solid toks all t → (u : Occurrence) → Sound toks all u → is_field (rank all t) (ranked_occurrence toks all u) ≡ is_field t u
  field_alike at (Field name) s = equal_alike at s
  field_alike at _ s = refl

  active_alike : {p : ℕ} → Solid toks all p → (name : List ℕ) → (v w : LocalVariable) → RankedLocal v w → (is_active (rank all p) w && bytes_eq w.name name) ≡ (is_active p v && bytes_eq v.name name)
  active_alike {p} at name v w r =
      (λ t. (nat_le (r.from t) (rank all p) && nat_lt (rank all p) (r.to t)) && bytes_eq (r.name t) name)
      ∙ (λ t. (reached_alike at v.from t && before_alike at v.to t) && bytes_eq v.name name)

  held_alike : (p : ℕ) (f h : FunctionAt) → RankedFunction f h → is_held (rank all p) h ≡ is_held p f
  held_alike p f h r =
      (λ t. nat_le (r.from t) (rank all p) && nat_lt (rank all p) (r.to t)) ∙ (λ t. begun_alike p r.opening t && opened_alike p r.closing t)

  -- ---- labels and gotos

  pub record RankedLabel (l m : LabelAt) : Type 0 where
    pub solid : Solid toks all l.token
    opening : Opened toks all l.from
    pub token : m.token ≡ rank all l.token
    pub name : m.name ≡ l.name
    pub function : m.function ≡ l.function
    pub from : m.from ≡ rank all l.from
    pub to : m.to ≡ rank all l.to
    pub at_end : m.at_end ≡ l.at_end

  pub record RankedGoto (g h : GotoAt) : Type 0 where
    pub solid : Solid toks all g.token
    solid_label : Solid toks all g.label
    pub token : h.token ≡ rank all g.token
    label : h.label ≡ rank all g.label
    name : h.name ≡ g.name
    function : h.function ≡ g.function

  seen_alike : {g h : GotoAt} → RankedGoto g h → (l m : LabelAt) → RankedLabel l m → is_seen h.function h.token h.name m ≡ is_seen g.function g.token g.name l
  seen_alike {g} {h} r l m q =
      (λ t. option_eq nat_eq (q.function t) (r.function t) && nat_le (q.from t) (r.token t) && nat_lt (r.token t) (q.to t) && bytes_eq (q.name t) (r.name t))
      ∙ (λ t. option_eq nat_eq l.function g.function && reached_alike r.solid l.from t && before_alike r.solid l.to t && bytes_eq l.name g.name)

  pub record NumberedAlike (x y : ℕ × LabelAt) : Type 0 where
    number : y.0 ≡ x.0
    pub label : RankedLabel x.1 y.1

  inner_alike : (n : ℕ) {l m : LabelAt} {o p : Option (ℕ × LabelAt)} → RankedLabel l m → PairedOption NumberedAlike o p → NumberedAlike (inner n l o) (inner n m p)
  inner_alike n q neither = record { number = refl; label = q }
  inner_alike n {l} {m} q (both {x} {y} r) =
      subst (λ b. NumberedAlike (cond (nat_lt l.from x.1.from) x (n, l)) (cond b y (n, m)))
      (sym ((λ t. nat_lt (q.from t) (r.label.from t)) ∙ opened_alike l.from r.label.opening)) (by_case (nat_lt l.from x.1.from))
    where
      by_case : (b : Bool) → NumberedAlike (cond b x (n, l)) (cond b y (n, m))
      by_case true = r
      by_case false = record { number = refl; label = q }

  chosen_alike : (b : Bool) (n : ℕ) {l m : LabelAt} {o p : Option (ℕ × LabelAt)} → RankedLabel l m → PairedOption NumberedAlike o p → PairedOption NumberedAlike (cond b (Some (inner n l o)) o) (cond b (Some (inner n m p)) p)
  chosen_alike true n q r = both (inner_alike n q r)
  chosen_alike false n q r = r

  pub innermost_alike : {g h : GotoAt} → RankedGoto g h → {ls ms : List LabelAt} → Paired RankedLabel ls ms → (n : ℕ) → PairedOption NumberedAlike (innermost (is_seen g.function g.token g.name) n ls) (innermost (is_seen h.function h.token h.name) n ms)
  innermost_alike r nothing n = neither
  innermost_alike {g} {h} r (more {x} {y} {xs} {ys} q rest) n =
      subst (λ b. PairedOption NumberedAlike (innermost (is_seen g.function g.token g.name) n (x ∷ xs)) (cond b (Some (inner n y (innermost (is_seen h.function h.token h.name) (n + 1) ys))) (innermost (is_seen h.function h.token h.name) (n + 1) ys)))
      (sym (seen_alike r x y q)) (chosen_alike (is_seen g.function g.token g.name x) n q (innermost_alike r rest (n + 1)))

  jump_alike : {o p : Option (ℕ × LabelAt)} → PairedOption NumberedAlike o p → jump_to p ≡ jump_to o
  jump_alike neither = refl
  jump_alike (both r) = λ t. Some (jump.Goto (r.number t))

  goto_alike : {ls ms : List LabelAt} → Paired RankedLabel ls ms → {gs hs : List GotoAt} → Paired RankedGoto gs hs → {t : ℕ} → Solid toks all t → goto_role ms hs (rank all t) ≡ goto_role ls gs t
  goto_alike labels nothing at = refl
  goto_alike {ls} labels (more {x} {y} {xs} r rest) {t} at =
      (λ i. cond (nat_eq (r.label i) (rank all t)) (jump_alike (innermost_alike r labels 0) i) (goto_alike labels rest at i))
      ∙ (λ i. cond (equal_alike r.solid_label at i) (jump_to (target ls x)) (goto_role ls xs t))

  -- ---- what a chunk says, and the same by ranks

  module _ {us vs : List Occurrence} (ranked : Ranked toks all us vs) where
    pub locals_alike : Paired RankedLocal (locals_of spelled us) (locals_of told vs)
    locals_alike = filtered (declared_by spelled) (declared_by told) (λ u v r. subst (λ z. PairedOption RankedLocal (declared_by spelled u) (declared_by told z)) (sym r.is) (declared_alike u r.sound)) ranked

    pub functions_alike : Paired RankedFunction (functions_of us) (functions_of vs)
    functions_alike = filtered function_by function_by (λ u v r. subst (λ z. PairedOption RankedFunction (function_by u) (function_by z)) (sym r.is) (function_alike u r.sound)) ranked

    pub holder_alike : (p : ℕ) → function_of (functions_of vs) (rank all p) ≡ function_of (functions_of us) p
    holder_alike p = same_last (is_held p) (is_held (rank all p)) (held_alike p) functions_alike 0

    label_alike : (u : Occurrence) → Sound toks all u → PairedOption RankedLabel (label_by spelled (functions_of us) u) (label_by told (functions_of vs) (ranked_occurrence toks all u))
    label_alike (Label name from to at_end) s = both (record { solid = s.0; opening = s.1; token = refl; name = tells name s.0; function = holder_alike name; from = refl; to = refl; at_end = refl })
    label_alike _ s = neither

    jumper_alike : (u : Occurrence) → Sound toks all u → PairedOption RankedGoto (goto_by spelled (functions_of us) u) (goto_by told (functions_of vs) (ranked_occurrence toks all u))
    jumper_alike (Goto token name) s = both (record { solid = s.0; solid_label = s.1; token = refl; label = refl; name = tells name s.1; function = holder_alike token })
    jumper_alike _ s = neither

    pub labels_alike : Paired RankedLabel (labels_of spelled us) (labels_of told vs)
    labels_alike = filtered (label_by spelled (functions_of us)) (label_by told (functions_of vs)) (λ u v r. subst (λ z. PairedOption RankedLabel (label_by spelled (functions_of us) u) (label_by told (functions_of vs) z)) (sym r.is) (label_alike u r.sound)) ranked

    pub gotos_alike : Paired RankedGoto (gotos_of spelled us) (gotos_of told vs)
    gotos_alike = filtered (goto_by spelled (functions_of us)) (goto_by told (functions_of vs)) (λ u v r. subst (λ z. PairedOption RankedGoto (goto_by spelled (functions_of us) u) (goto_by told (functions_of vs) z)) (sym r.is) (jumper_alike u r.sound)) ranked

    pub kinds_alike : kinds_of told vs ≡ kinds_of spelled us
    kinds_alike = same_map (λ v. v.kind) (λ w. w.kind) (λ v w r. r.kind) locals_alike

    pub meaning_alike : {p : ℕ} → Solid toks all p → (name : List ℕ) → meaning (locals_of told vs) (rank all p) name ≡ meaning (locals_of spelled us) p name
    meaning_alike {p} at name = same_last (λ v. is_active p v && bytes_eq v.name name) (λ w. is_active (rank all p) w && bytes_eq w.name name) (active_alike at name) locals_alike 0

    declared_at_alike : {t : ℕ} → Solid toks all t → declared_at (locals_of told vs) (rank all t) ≡ declared_at (locals_of spelled us) t
    declared_at_alike {t} at = same_position (λ v. nat_eq v.token t) (λ w. nat_eq w.token (rank all t)) (λ v w r. (λ i. nat_eq (r.token i) (rank all t)) ∙ equal_alike r.solid at) locals_alike 0

    role_alike : {t : ℕ} → Solid toks all t → role_of told vs (rank all t) ≡ role_of spelled us t
    role_alike {t} at =
        let means : meaning (locals_of told vs) (rank all t) (told (rank all t)) ≡ meaning (locals_of spelled us) t (spelled t) = ap (meaning (locals_of told vs) (rank all t)) (tells t at) ∙ meaning_alike at (spelled t) in
        let variable : list_any (is_variable (rank all t)) vs ≡ list_any (is_variable t) us = same_any (is_variable t) (is_variable (rank all t)) (λ u v r. ap (is_variable (rank all t)) r.is ∙ variable_alike at u r.sound) ranked in
        let field : list_any (is_field (rank all t)) vs ≡ list_any (is_field t) us = same_any (is_field t) (is_field (rank all t)) (λ u v r. ap (is_field (rank all t)) r.is ∙ field_alike at u r.sound) ranked in
        λ i. declaration (declared_at_alike at i) (cond (variable i) (reference (means i)) (cond (field i) role.Field role.Plain))

    pub name_alike : (t : ℕ) → Solid toks all t → (meanings spelled us).name t ≡ (meanings told vs).name (rank all t)
    name_alike t at = sym (λ i. name_meaning (role_alike at i) (meaning_alike at (codes "_ENV") i) (tells t at i))

    pub number_alike : (t : ℕ) → Solid toks all t → (meanings spelled us).label t ≡ (meanings told vs).label (rank all t)
    number_alike t at =
        let position : position_from (λ l. nat_eq l.token (rank all t)) 0 (labels_of told vs) ≡ position_from (λ l. nat_eq l.token t) 0 (labels_of spelled us) = same_position (λ l. nat_eq l.token t) (λ m. nat_eq m.token (rank all t)) (λ l m r. (λ i. nat_eq (r.token i) (rank all t)) ∙ equal_alike r.solid at) labels_alike 0 in
        sym (λ i. label_number (label_role (position i) (goto_alike labels_alike gotos_alike at i)))
