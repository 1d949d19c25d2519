-- A line that is written, if there is one.
use Rattle.std.specs.Prelude.{ℕ, Option, None, Some, List, [], ◌++◌, codes}

-- a line and one line feed, if there is a line
abbrev pub line_text : Option (List ℕ) → List ℕ
line_text None = []
line_text (Some line) = line ++ codes "\n"
