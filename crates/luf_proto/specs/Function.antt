-- A function of Lua 5.4 as plain data: what lobject.h keeps in a Proto, but for what only debugging reads.
use Rattle.std.specs.Prelude.{ℕ, Bool, List}
use Rattle.luf_proto.specs.declared.proto.Const.{Const}
use Rattle.luf_proto.specs.declared.proto.Upval.{Upval}

mutual
  pub data Function : Type 0 where
    function : (parameters : ℕ) (vararg : Bool) (registers : ℕ) (code : List ℕ) (constants : List Const) (upvalues : List Upval) (inner : Functions) (line_from line_to : ℕ) → Function

  pub data Functions : Type 0 where
    no_functions : Functions
    more_functions : (first : Function) (rest : Functions) → Functions

-- A function without its lines, at every level: with both of them 0.
abbrev mutual
  pub without_lines : Function → Function
  without_lines (function parameters vararg registers code constants upvalues inner line_from line_to) =
      function parameters vararg registers code constants upvalues (all_without_lines inner) 0 0

  pub all_without_lines : Functions → Functions
  all_without_lines no_functions = no_functions
  all_without_lines (more_functions first rest) = more_functions (without_lines first) (all_without_lines rest)
