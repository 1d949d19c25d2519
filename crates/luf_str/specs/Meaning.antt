-- What a part of a short string stands for.
use Rattle.std.specs.Prelude.{ℕ, List, [], ◌∷◌}
use Rattle.luf_str.specs.declared.escapes.Meaning.{Meaning}
use Rattle.luf_str.specs.declared.escapes.Meaning.TheVariants.{Byte, Code, Nothing}
use Rattle.luf_str.specs.Escape.{utf8}

-- the bytes that it is
abbrev pub bytes_of : Meaning → List ℕ
bytes_of (Byte b) = b ∷ []
bytes_of (Code n) = utf8 n
bytes_of Nothing = []
