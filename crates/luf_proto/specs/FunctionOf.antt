-- The function that a prototype is: one fold, from the type of the program to the data of `Function`.
use Rattle.std.specs.Prelude.{List, [], ◌∷◌}
use Rattle.luf_proto.specs.Function.{Function, Functions, function, no_functions, more_functions}
use Rattle.luf_proto.specs.declared.proto.Proto.{Proto, fold-Proto}
use Rattle.luf_proto.specs.declared.proto.Proto.TheOpen.{Proto-F}

-- functions in order
abbrev pub functions_of : List Function → Functions
functions_of [] = no_functions
functions_of (f ∷ fs) = more_functions f (functions_of fs)

-- one level, with the function of each inner prototype in its place
abbrev pub function_layer : Proto-F Function → Function
function_layer p = function p.numparams p.is_vararg p.maxstack p.code p.consts p.upvals (functions_of p.subs) p.line_from p.line_to

abbrev pub function_of : Proto → Function
function_of = fold-Proto Function function_layer
