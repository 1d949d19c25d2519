use Rattle.std.proofs.Common.{◌≡◌, ◌+◌, ◌-◌, ◌≤◌, not, length, take}
use Rattle.std.specs.List.{suffix_len}
use Rattle.luf_lex.specs.Note.{is_content}
use Rattle.luf_lex.proofs.note.last_gap.Given as goal

-- the pieces passed so far are of the gap
abbrev pub invariant-loop-from : goal.invariant-loop-from
invariant-loop-from l = record {
  within : l.from ≤ length l.before;
  so_far : suffix_len (λ p. not (is_content p.kind)) (take l.from l.before) + (length l.before - l.from) ≡ suffix_len (λ p. not (is_content p.kind)) l.before;
}

abbrev pub decreases-loop-from : goal.decreases-loop-from
decreases-loop-from l = l.from
