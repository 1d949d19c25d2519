-- A function with a word in place of each float that is spelled, and the first float that has no word.
use Rattle.std.specs.Prelude.{◌≡◌, ℕ, List, [], ◌∷◌, ◌++◌}
use Rattle.std.specs.List.{AllByRecursion}
use Rattle.luf_chunk.specs.declared.error.ChunkErr.{ChunkErr}
use Rattle.luf_chunk.specs.declared.error.ChunkErr.TheVariants.{FloatReach, Memory}
use Rattle.luf_num.specs.Float.{Scaled, IsFloat, IsInReach}
use Rattle.luf_num.specs.Word.{IsFloatWord}
use Rattle.luf_proto.specs.Function.{Function, Functions, function, no_functions, more_functions}
use Rattle.luf_proto.specs.declared.proto.Const.{Const}
use Rattle.luf_proto.specs.declared.proto.Const.TheVariants.{Spelled, Word}

abbrev pub IsWordedConstant : Const → Const → Type 0
IsWordedConstant (Spelled spelling) worded = (word : ℕ) × IsFloatWord spelling word × (worded ≡ Word word)
IsWordedConstant constant worded = worded ≡ constant

abbrev pub AreWordedConstants : List Const → List Const → Type 0
AreWordedConstants [] worded = worded ≡ []
AreWordedConstants (constant ∷ constants) worded =
    (first : Const) × (rest : List Const) × IsWordedConstant constant first × AreWordedConstants constants rest × (worded ≡ first ∷ rest)

abbrev mutual
  pub IsWorded : Function → Function → Type 0
  IsWorded (function parameters vararg registers code constants upvalues inner line_from line_to) worded =
      (words : List Const) × (within : Functions) × AreWordedConstants constants words × AreWorded inner within
      × (worded ≡ function parameters vararg registers code words upvalues within line_from line_to)

  pub AreWorded : Functions → Functions → Type 0
  AreWorded no_functions worded = worded ≡ no_functions
  AreWorded (more_functions first rest) worded =
      (f : Function) × (fs : Functions) × IsWorded first f × AreWorded rest fs × (worded ≡ more_functions f fs)

-- the floats that are spelled, in order: those of a function before those of the functions inside it
abbrev pub constant_floats : List Const → List (List ℕ)
constant_floats [] = []
constant_floats (Spelled spelling ∷ constants) = spelling ∷ constant_floats constants
constant_floats (constant ∷ constants) = constant_floats constants

abbrev mutual
  pub floats_of : Function → List (List ℕ)
  floats_of (function parameters vararg registers code constants upvalues inner line_from line_to) = constant_floats constants ++ all_floats inner

  pub all_floats : Functions → List (List ℕ)
  all_floats no_functions = []
  all_floats (more_functions first rest) = floats_of first ++ all_floats rest

abbrev pub HasWord : List ℕ → Type 0
HasWord spelling = (word : ℕ) × IsFloatWord spelling word

abbrev pub HasNoWord : List ℕ → Type 0
HasNoWord spelling = (v : Scaled) → IsFloat spelling v → IsInReach v → ⊥

-- the first of the floats that has no word
pub record IsFirstWithout (floats : List (List ℕ)) (spelling : List ℕ) : Type 0 where
  pub before : List (List ℕ)
  pub behind : List (List ℕ)
  pub in_order : floats ≡ before ++ spelling ∷ [] ++ behind
  pub have_words : AllByRecursion HasWord before
  pub has_none : HasNoWord spelling

-- why there is no chunk: a float has no word, the first such, or no memory was found
abbrev pub HasCause : ChunkErr → List (List ℕ) → Type 0
HasCause (FloatReach spelling) floats = IsFirstWithout floats spelling
HasCause Memory floats = Unit {0}
