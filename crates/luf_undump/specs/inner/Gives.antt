-- What a part of the reader returned, seen by a view, is what the bytes read as, unless no memory was found.
use Rattle.std.specs.Prelude.{◌≡◌, Result, Ok, Err}
use Rattle.luf_undump.specs.Reading.{Wrong}
use Rattle.luf_undump.specs.declared.error.Stop.{Stop}
use Rattle.luf_undump.specs.declared.error.Stop.TheVariants.{Bad, Memory}

abbrev pub Fails : {Y : Type 0} → Stop → Result Y Wrong → Type 0
Fails (Bad left what) read = read ≡ Err (record { left = left; what = what })
Fails Memory read = Unit {0}

abbrev pub Gives : {X Y : Type 0} → (X → Y) → Result X Stop → Result Y Wrong → Type 0
Gives view (Ok x) read = read ≡ Ok (view x)
Gives view (Err e) read = Fails e read
