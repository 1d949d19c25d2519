-- The parts of a float, and the value that they give. Cited by private functions alone.
use Rattle.std.specs.Prelude.{◌≡◌, ℕ, ◌+◌, ◌*◌, Bool, List, [], ◌++◌, length}
use Rattle.luf_num.specs.inner.Base.{exponent_base_of, places_of, radix_of}
use Rattle.std.specs.Str.Parse.{digits_value}
use Rattle.luf_num.specs.Float.{Scaled, raised, lowered}
use Rattle.luf_num.specs.Numeral.{HasFloatForm}
use Rattle.luf_num.specs.declared.form.Base.{Base}

-- the bytes are a numeral with a point or an exponent, of which these are the digits before and behind the point, and the exponent
pub record HasParts (digit mark : ℕ → Bool) (s whole fraction exponent : List ℕ) : Type 0 where
  pub form : HasFloatForm digit mark s
  pub whole_is : form.whole ≡ whole
  pub fraction_is : form.fraction ≡ fraction
  pub exponent_is : form.exponent ≡ exponent
  pub behind_point : form.point ≡ [] → form.fraction ≡ []

-- the value of a float with these parts
abbrev pub value_of_parts : Base → List ℕ → List ℕ → List ℕ → Scaled
value_of_parts base whole fraction exponent = record {
  base = exponent_base_of base;
  digits = digits_value (radix_of base) (whole ++ fraction);
  up = raised exponent;
  down = lowered exponent + places_of base * length fraction;
}
