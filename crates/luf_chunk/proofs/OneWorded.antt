-- A function is worded in one way, since a spelling has one word.
use Rattle.std.proofs.Common.{◌≡◌, ℕ, List, [], ◌∷◌, sym, ap, ap₂, ◌∙◌}
use Rattle.luf_chunk.specs.Worded.{AreWorded, AreWordedConstants, IsWorded, IsWordedConstant}
use Rattle.luf_num.specs.Word.{IsFloatWord}
use Rattle.luf_proto.specs.Function.{Function, Functions, function, no_functions, more_functions}
use Rattle.luf_proto.specs.declared.proto.Const.{Const}
use Rattle.luf_proto.specs.declared.proto.Const.TheVariants.{Spelled, Word}

module _ (one_word : (s : List ℕ) (v w : ℕ) → IsFloatWord s v → IsFloatWord s w → v ≡ w) where
  one_constant : (constant v w : Const) → IsWordedConstant constant v → IsWordedConstant constant w → v ≡ w
  one_constant (Spelled spelling) v w is also = is.2 ∙ ap Word (one_word spelling is.0 also.0 is.1 also.1) ∙ sym also.2
  one_constant constant v w is also = is ∙ sym also

  one_list : (constants v w : List Const) → AreWordedConstants constants v → AreWordedConstants constants w → v ≡ w
  one_list [] v w is also = is ∙ sym also
  one_list (constant ∷ constants) v w is also =
      is.4 ∙ ap₂ (λ (first : Const) (rest : List Const). first ∷ rest) (one_constant constant is.0 also.0 is.2 also.2) (one_list constants is.1 also.1 is.3 also.3) ∙ sym also.4

  mutual
    pub one_function : (f v w : Function) → IsWorded f v → IsWorded f w → v ≡ w
    one_function (function parameters vararg registers code constants upvalues inner line_from line_to) v w is also =
        is.4 ∙ ap₂ (λ (words : List Const) (within : Functions). function parameters vararg registers code words upvalues within line_from line_to)
        (one_list constants is.0 also.0 is.2 also.2) (all_one inner is.1 also.1 is.3 also.3) ∙ sym also.4

    all_one : (fs v w : Functions) → AreWorded fs v → AreWorded fs w → v ≡ w
    all_one no_functions v w is also = is ∙ sym also
    all_one (more_functions first rest) v w is also =
        is.4 ∙ ap₂ more_functions (one_function first is.0 also.0 is.2 also.2) (all_one rest is.1 also.1 is.3 also.3) ∙ sym also.4
