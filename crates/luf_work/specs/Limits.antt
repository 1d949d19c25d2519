-- Limits on sizes, in bytes. Our own rules. The limit on levels of nesting stands beside the levels, in luf_tree.
use Rattle.std.specs.Prelude.{ℕ}

-- the most bytes of a source
abbrev pub source_limit : ℕ
source_limit = 4194304

-- the most bytes of a text that is made from a source
abbrev pub text_limit : ℕ
text_limit = 4194304
