-- What the reader answers of bytes.
use Rattle.std.specs.Prelude.{◌≡◌, ℕ, ◌+◌, List, length, Err}
use Rattle.luf_undump.specs.Reading.{chunk_at}
use Rattle.luf_undump.specs.declared.error.UndumpErr.{UndumpErr}
use Rattle.luf_undump.specs.declared.error.UndumpErr.TheVariants.{Bad, Memory}

-- the first wrong field, by what the bytes read as, begins at this byte and is wrong so; or no memory was found
abbrev pub HasCause : List ℕ → UndumpErr → Type 0
HasCause bytes (Bad at what) = (left : ℕ) × (at + left ≡ length bytes) × (chunk_at bytes ≡ Err (record { left = left; what = what }))
HasCause bytes Memory = Unit {0}
