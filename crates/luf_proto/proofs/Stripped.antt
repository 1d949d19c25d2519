-- The function of a prototype without its lines, by the parts of the prototype.
use Rattle.std.proofs.Common.{◌≡◌, ◌∙◌, ap, sym, refl, List, [], ◌∷◌, map}
use Rattle.luf_proto.specs.Function.{Function, Functions, function, more_functions, without_lines, all_without_lines}
use Rattle.luf_proto.specs.FunctionOf.{function_of, functions_of, function_layer}
use Rattle.luf_proto.specs.declared.proto.Proto.{Proto}
use Rattle.luf_proto.specs.declared.proto.Proto.TheViews.{out-Proto, roll-out-Proto}
use Rattle.luf_proto.specs.declared.proto.Proto.TheFolds.{fold-roll-Proto}
use Rattle.luf_proto.specs.inner.Level.{SameLevel, stripped}

-- the function of a prototype, by its parts
pub function_of_parts : (p : Proto) → function_of p ≡ function (out-Proto p).numparams (out-Proto p).is_vararg (out-Proto p).maxstack (out-Proto p).code (out-Proto p).consts (out-Proto p).upvals (functions_of (map function_of (out-Proto p).subs)) (out-Proto p).line_from (out-Proto p).line_to
function_of_parts p = ap function_of (sym (roll-out-Proto p)) ∙ fold-roll-Proto Function function_layer (out-Proto p)

all_without_lines-functions_of : (ps : List Proto) → all_without_lines (functions_of (map function_of ps)) ≡ functions_of (map stripped ps)
all_without_lines-functions_of [] = refl
all_without_lines-functions_of (p ∷ ps) = ap (λ (rest : Functions). more_functions (stripped p) rest) (all_without_lines-functions_of ps)

stripped_parts : (p : Proto) → stripped p ≡ function (out-Proto p).numparams (out-Proto p).is_vararg (out-Proto p).maxstack (out-Proto p).code (out-Proto p).consts (out-Proto p).upvals (functions_of (map stripped (out-Proto p).subs)) 0 0
stripped_parts p =
    ap without_lines (function_of_parts p)
    ∙ ap (λ (inner : Functions). function (out-Proto p).numparams (out-Proto p).is_vararg (out-Proto p).maxstack (out-Proto p).code (out-Proto p).consts (out-Proto p).upvals inner 0 0) (all_without_lines-functions_of (out-Proto p).subs)

-- no two lists make the same functions
functions_of_same : (fs gs : List Function) → functions_of fs ≡ functions_of gs → fs ≡ gs
functions_of_same [] [] e = refl
functions_of_same [] (g ∷ gs) e = cc
functions_of_same (f ∷ fs) [] e = cc
functions_of_same (f ∷ fs) (g ∷ gs) e =
    let first : f ≡ g = cc in
    let tails : functions_of fs ≡ functions_of gs = cc in
    let rest : fs ≡ gs = functions_of_same fs gs tails in
    cc

-- equal without lines are those that are the same on their level and inside
pub stripped_same : (a b : Proto) → SameLevel a b → map stripped (out-Proto a).subs ≡ map stripped (out-Proto b).subs → stripped a ≡ stripped b
stripped_same a b level inner =
    let parts_a = stripped_parts a in
    let parts_b = stripped_parts b in
    cc (level.parameters, level.vararg, level.registers, level.code, level.constants, level.upvalues)

pub stripped_level : (a b : Proto) → stripped a ≡ stripped b → SameLevel a b
stripped_level a b e =
    let parts_a = stripped_parts a in
    let parts_b = stripped_parts b in
    record { parameters = cc; vararg = cc; registers = cc; code = cc; constants = cc; upvalues = cc }

pub stripped_inner : (a b : Proto) → stripped a ≡ stripped b → map stripped (out-Proto a).subs ≡ map stripped (out-Proto b).subs
stripped_inner a b e =
    let parts_a = stripped_parts a in
    let parts_b = stripped_parts b in
    functions_of_same _ _ (cc)
