-- Two prototypes that are the same on their own level.
use Rattle.std.specs.Prelude.{◌≡◌}
use Rattle.luf_proto.specs.Function.{Function, without_lines}
use Rattle.luf_proto.specs.FunctionOf.{function_of}
use Rattle.luf_proto.specs.declared.proto.Proto.{Proto, out-Proto}

-- equal in all but the functions inside and the lines
pub record SameLevel (a b : Proto) : Type 0 where
  pub parameters : (out-Proto a).numparams ≡ (out-Proto b).numparams
  pub vararg : (out-Proto a).is_vararg ≡ (out-Proto b).is_vararg
  pub registers : (out-Proto a).maxstack ≡ (out-Proto b).maxstack
  pub code : (out-Proto a).code ≡ (out-Proto b).code
  pub constants : (out-Proto a).consts ≡ (out-Proto b).consts
  pub upvalues : (out-Proto a).upvals ≡ (out-Proto b).upvals

-- the function of a prototype without its lines
abbrev pub stripped : Proto → Function
stripped p = without_lines (function_of p)
