-- What a part of the writer appends. Cited by private functions alone.
use Rattle.std.specs.Prelude.{◌≡◌, ℕ, List, [], ◌∷◌, ◌++◌}
use Rattle.std.specs.List.{flat_map}
use Rattle.luf_chunk.specs.Worded.{IsWorded, AreWorded, IsWordedConstant, AreWordedConstants}
use Rattle.luf_proto.specs.Chunk.{constant_bytes, function_bytes, functions_bytes, list_bytes}
use Rattle.luf_proto.specs.Function.{Function, Functions}
use Rattle.luf_proto.specs.FunctionOf.{functions_of}
use Rattle.luf_num.specs.Word.{IsFloatWord}
use Rattle.luf_proto.specs.declared.proto.Const.{Const}
use Rattle.luf_proto.specs.declared.proto.Const.TheVariants.{Spelled, Word}

-- the bytes of a constant are appended, with its word in place of a float that is spelled
pub record WritesConstant (constant : Const) (old new : List ℕ) : Type 0 where
  pub worded : Const
  pub is_worded : IsWordedConstant constant worded
  pub appended : new ≡ old ++ constant_bytes worded

-- the word of a float is appended as a constant
pub record WritesFloat (spelling old new : List ℕ) : Type 0 where
  pub word : ℕ
  pub is_word : IsFloatWord spelling word
  pub appended : new ≡ old ++ constant_bytes (Word word)

abbrev pub IsNotSpelled : Const → Type 0
IsNotSpelled (Spelled spelling) = ⊥
IsNotSpelled constant = Unit {0}

pub record WritesConstants (constants : List Const) (old new : List ℕ) : Type 0 where
  pub worded : List Const
  pub are_worded : AreWordedConstants constants worded
  pub appended : new ≡ old ++ flat_map constant_bytes worded

pub record WritesConstantList (constants : List Const) (old new : List ℕ) : Type 0 where
  pub worded : List Const
  pub are_worded : AreWordedConstants constants worded
  pub appended : new ≡ old ++ list_bytes constant_bytes worded

pub record WritesFunction (f : Function) (old new : List ℕ) : Type 0 where
  pub worded : Function
  pub is_worded : IsWorded f worded
  pub appended : new ≡ old ++ function_bytes worded

pub record WritesFunctions (fs : Functions) (old new : List ℕ) : Type 0 where
  pub worded : Functions
  pub are_worded : AreWorded fs worded
  pub appended : new ≡ old ++ functions_bytes worded

abbrev pub AreWordedList : List Function → List Function → Type 0
AreWordedList [] worded = worded ≡ []
AreWordedList (f ∷ fs) worded = (first : Function) × (rest : List Function) × IsWorded f first × AreWordedList fs rest × (worded ≡ first ∷ rest)

pub record WritesList (fs : List Function) (old new : List ℕ) : Type 0 where
  pub worded : List Function
  pub are_worded : AreWordedList fs worded
  pub appended : new ≡ old ++ functions_bytes (functions_of worded)
