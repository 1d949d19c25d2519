-- New names of labels by numbers. A label is a row: its function, and its block from the first token to one past the last.
use Rattle.std.specs.Prelude.{◌≡◌, ℕ, ◌+◌, ◌<◌, ◌≤◌, ◌⊎◌, Some, List, length, slice_get, slice_index}
use Rattle.luf_name.specs.Barred.{IsBarred}
use Rattle.luf_name.specs.Order.{IsNth}
use Rattle.luf_interf.specs.declared.label_rows.LabelRow.{LabelRow}

pub record IsBarredNumber (k : ℕ) : Type 0 where
  pub name : List ℕ
  pub is_nth : IsNth name k
  pub barred : IsBarred name

-- an earlier label of the function, whose block reaches beyond where this one's begins, has the number
pub record IsTaken (rows : List LabelRow) (numbers : List ℕ) (n : ℕ) (row : LabelRow) (k : ℕ) : Type 0 where
  pub number : ℕ
  pub other : LabelRow
  pub earlier : number < n
  pub is : slice_get rows number ≡ Some other
  pub class : other.class ≡ row.class
  pub reaches : row.from < other.to
  pub same : slice_index numbers number ≡ k

-- the least number that is neither barred nor taken
pub record IsLeastNumber (rows : List LabelRow) (numbers : List ℕ) (n : ℕ) (row : LabelRow) (k : ℕ) : Type 0 where
  pub allowed : IsBarredNumber k → ⊥
  pub free : IsTaken rows numbers n row k → ⊥
  pub least : (j : ℕ) → j < k → IsBarredNumber j ⊎ IsTaken rows numbers n row j

pub record AreLeastNumbers (rows : List LabelRow) (numbers : List ℕ) : Type 0 where
  pub count : length numbers ≡ length rows
  pub each : (n : ℕ) (row : LabelRow) → slice_get rows n ≡ Some row → IsLeastNumber rows numbers n row (slice_index numbers n)

-- ---- the table of a function

-- a label of the function that has the number, with a block that reaches as far as the table says, or further
pub record HasReach (rows : List LabelRow) (numbers : List ℕ) (class : ℕ) (table : List ℕ) (k : ℕ) : Type 0 where
  pub number : ℕ
  pub other : LabelRow
  pub done : number < length numbers
  pub is : slice_get rows number ≡ Some other
  pub class_is : other.class ≡ class
  pub same : slice_index numbers number ≡ k
  pub far : 4294967295 ≤ slice_index table k + other.to

-- a label that has its number has it in the table, and reaches no further than it says
pub record IsNoted (table : List ℕ) (k to : ℕ) : Type 0 where
  pub within : k < length table
  pub low : slice_index table k + to ≤ 4294967295

-- what the table says of the labels that have their numbers
pub record IsTable (rows : List LabelRow) (numbers : List ℕ) (class : ℕ) (table : List ℕ) : Type 0 where
  pub barred : (k : ℕ) → k < length table → IsBarredNumber k → slice_index table k ≡ 0
  pub noted : (n : ℕ) (other : LabelRow) → n < length numbers → slice_get rows n ≡ Some other → other.class ≡ class → IsNoted table (slice_index numbers n) other.to
  pub met : (k : ℕ) → k < length table → IsBarredNumber k ⊎ HasReach rows numbers class table k

-- barred numbers, from the end of the table on, and one that is not
pub record IsAdded (old : List ℕ) (end k : ℕ) (new : List ℕ) : Type 0 where
  pub behind : length old ≤ k
  pub long : length new ≡ k + 1
  pub kept : (j : ℕ) → j < length old → slice_index new j ≡ slice_index old j
  pub skipped : (j : ℕ) → length old ≤ j → j < k → IsBarredNumber j × (slice_index new j ≡ 0)
  pub at : slice_index new k ≡ end
  pub allowed : IsBarredNumber k → ⊥

-- the first number of the table that is free for the label; where none is, one behind it
pub record IsPicked (old : List ℕ) (row : LabelRow) (k : ℕ) (new : List ℕ) : Type 0 where
  pub inside : k < length old → length new ≡ length old
  pub outside : length old ≤ k → length new ≡ k + 1
  pub kept : (j : ℕ) → j < length old → (j ≡ k → ⊥) → slice_index new j ≡ slice_index old j
  pub at : slice_index new k + row.to ≡ 4294967295
  pub passed : (j : ℕ) → j < k → j < length old → slice_index old j + row.from < 4294967295
  pub skipped : (j : ℕ) → length old ≤ j → j < k → IsBarredNumber j × (slice_index new j ≡ 0)
  pub reached : k < length old → 4294967295 ≤ slice_index old k + row.from
  pub allowed : length old ≤ k → IsBarredNumber k → ⊥
