-- The fields of a chunk, by its grammar: in each part, what field is the next behind some of its bytes.
use Rattle.std.specs.Prelude.{◌≡◌, ℕ, zero, suc, ◌-◌, Bool, List, [], ◌∷◌, ◌++◌, None}
use Rattle.luf_proto.specs.Chunk.{bit, header}
use Rattle.luf_undump.specs.Grammar.{AreDistances, IsConstantOf, IsCountOf, IsDebugList, IsDebugLocal, IsDebugString, IsFunctionOf, IsHeadOf, IsInstructionOf, IsListOf, IsPair, IsSizeOf, IsUpvalueOf}
use Rattle.luf_undump.specs.Reading.{most_levels}

-- a field is a size, or so many bytes
pub data Kind : Type 0 where
  a_size : Kind
  some_bytes : ℕ → Kind

-- a part of one field
pub data InField (kind : Kind) : List ℕ → Kind → Type 0 where
  begins : InField kind [] kind

abbrev pub InSize : List ℕ → Kind → Type 0
InSize = InField a_size

abbrev pub InBytes : ℕ → List ℕ → Kind → Type 0
InBytes n = InField (some_bytes n)

-- two parts, one behind the other
pub data Then {A : Type 0} (Is : List ℕ → A → Type 0) (InFirst : List ℕ → Kind → Type 0) (InSecond : A → List ℕ → Kind → Type 0) : List ℕ → Kind → Type 0 where
  in_first : (front : List ℕ) (kind : Kind) → InFirst front kind → Then Is InFirst InSecond front kind
  in_second : (first front : List ℕ) (x : A) (kind : Kind) → Is first x → InSecond x front kind → Then Is InFirst InSecond (first ++ front) kind

-- a first part that stands for nothing
abbrev pub Such : (List ℕ → Type 0) → List ℕ → Unit {0} → Type 0
Such Is bytes x = Is bytes

abbrev pub IsByte : List ℕ → ℕ → Type 0
IsByte bytes byte = bytes ≡ byte ∷ []

abbrev pub IsFlag : List ℕ → Bool → Type 0
IsFlag bytes b = bytes ≡ bit b ∷ []

-- so many of one kind
abbrev pub InMany : {A : Type 0} → (List ℕ → A → Type 0) → (List ℕ → Kind → Type 0) → ℕ → List ℕ → Kind → Type 0
InMany Is In zero front kind = ⊥
InMany Is In (suc n) front kind = Then Is In (λ x. InMany Is In n) front kind

-- a list
abbrev pub InList : {A : Type 0} → (List ℕ → A → Type 0) → (List ℕ → Kind → Type 0) → List ℕ → Kind → Type 0
InList Is In = Then IsCountOf InSize (λ n. InMany Is In n)

-- ---- the parts of a function

abbrev pub InString : List ℕ → Kind → Type 0
InString = Then IsSizeOf InSize (λ n. InBytes (n - 1))

pub data InConstant : List ℕ → Kind → Type 0 where
  tag : InConstant [] (some_bytes 1)
  integer : (front : List ℕ) (kind : Kind) → InBytes 8 front kind → InConstant (3 ∷ front) kind
  float : (front : List ℕ) (kind : Kind) → InBytes 8 front kind → InConstant (19 ∷ front) kind
  short_string : (front : List ℕ) (kind : Kind) → InString front kind → InConstant (4 ∷ front) kind
  long_string : (front : List ℕ) (kind : Kind) → InString front kind → InConstant (20 ∷ front) kind

abbrev pub InUpvalue : List ℕ → Kind → Type 0
InUpvalue = Then IsFlag (InBytes 1) (λ instack. Then IsByte (InBytes 1) (λ idx. InBytes 1))

abbrev pub InPair : List ℕ → Kind → Type 0
InPair = Then IsCountOf InSize (λ first. InSize)

abbrev pub InLocal : List ℕ → Kind → Type 0
InLocal = Then (Such IsDebugString) InString (λ name. InPair)

abbrev pub InDebug : List ℕ → Kind → Type 0
InDebug =
    Then (Such AreDistances) (InList IsByte (InBytes 1)) (λ distances.
    Then (Such (IsDebugList IsPair)) (InList (Such IsPair) InPair) (λ lines.
    Then (Such (IsDebugList IsDebugLocal)) (InList (Such IsDebugLocal) InLocal) (λ locals.
    InList (Such IsDebugString) InString)))

abbrev pub InHead : List ℕ → Kind → Type 0
InHead =
    Then (Such IsDebugString) InString (λ source.
    Then IsCountOf InSize (λ line_from.
    Then IsCountOf InSize (λ line_to.
    Then IsByte (InBytes 1) (λ parameters.
    Then IsFlag (InBytes 1) (λ vararg. InBytes 1)))))

abbrev pub InFunction : ℕ → List ℕ → Kind → Type 0
InFunction zero front kind = ⊥
InFunction (suc levels) front kind =
    Then IsHeadOf InHead (λ head.
    Then (IsListOf IsInstructionOf) (InList IsInstructionOf (InBytes 4)) (λ code.
    Then (IsListOf IsConstantOf) (InList IsConstantOf InConstant) (λ constants.
    Then (IsListOf IsUpvalueOf) (InList IsUpvalueOf InUpvalue) (λ upvalues.
    Then (IsListOf (IsFunctionOf levels None)) (InList (IsFunctionOf levels None) (InFunction levels)) (λ functions.
    InDebug))))) front kind

-- ---- a chunk

pub data InChunk : List ℕ → Kind → Type 0 where
  in_header : (front others : List ℕ) (byte : ℕ) → header ≡ front ++ byte ∷ others → InChunk front (some_bytes 1)
  upvalue_byte : InChunk header (some_bytes 1)
  in_main : (upvalues : ℕ) (front : List ℕ) (kind : Kind) → InFunction most_levels front kind → InChunk (header ++ upvalues ∷ front) kind
