-- The functions that a chunk keeps whole, so that they are read as they were written: within so many levels, with no float that is
-- only spelled, and with numbers that fit their bytes.
use Rattle.std.specs.Prelude.{ℕ, zero, suc, ◌+◌, ◌^◌, ◌<◌, length, FitsSigned}
use Rattle.std.specs.Int.{w64}
use Rattle.std.specs.List.{AllByRecursion}
use Rattle.luf_proto.specs.Function.{Function, Functions, function, no_functions, more_functions}
use Rattle.luf_proto.specs.declared.proto.Const.{Const}
use Rattle.luf_proto.specs.declared.proto.Const.TheVariants as const

abbrev pub IsReadableConstant : Const → Type 0
IsReadableConstant (const.Int n) = FitsSigned w64 n
IsReadableConstant (const.Word word) = word < 2 ^ 64
IsReadableConstant (const.Str s) = length s + 1 < 2 ^ 64
IsReadableConstant (const.Spelled spelling) = ⊥
IsReadableConstant constant = Unit {0}

abbrev mutual
  pub IsReadable : Function → ℕ → Type 0
  IsReadable (function parameters vararg registers code constants upvalues inner line_from line_to) zero = ⊥
  IsReadable (function parameters vararg registers code constants upvalues inner line_from line_to) (suc levels) =
      AllByRecursion (λ word. word < 2 ^ 32) code × AllByRecursion IsReadableConstant constants × AreReadable inner levels

  pub AreReadable : Functions → ℕ → Type 0
  AreReadable no_functions levels = Unit {0}
  AreReadable (more_functions first rest) levels = IsReadable first levels × AreReadable rest levels
