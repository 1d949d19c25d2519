use Rattle.std.proofs.Common.{◌≡◌, ◌++◌, drop}
use Rattle.luf_lex.specs.inner.Filled.{filled}
use Rattle.luf_lex.proofs.pieces.Cut.pieces.Given as goal

-- what is there, and what is left with its blanks, are all
abbrev pub invariant-loop-piece : goal.invariant-loop-piece
invariant-loop-piece l = l.pieces.items ++ filled l.at (drop l.piece-index l.piece-items) l.self-inside.end ≡ filled 0 l.piece-items l.self-inside.end
