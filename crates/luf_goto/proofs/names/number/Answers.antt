use Rattle.std.proofs.Common.{sym, ap, ◌∙◌}
use Rattle.luf_goto.specs.inner.Names.{name_of, place_in}
use Rattle.luf_goto.proofs.Numbers.{same_is, kept_is}
use Rattle.luf_goto.proofs.names.number.Goals as goal

pub returns-in_ok-insert-in-None-clause-kept : goal.returns-in_ok-insert-in-None-clause-kept
returns-in_ok-insert-in-None-clause-kept c = λ other.
    kept_is (name_of c.args.name) other (place_in c.args.first.now other) (place_in c.insert.new.self other) c.args.next
    (c.in_ok-insert-in-None.ensures.updates.0 (other.0, record { ref_ptr = (0, 0); now = other.1 }))
    (λ same. ap (place_in c.args.first.now) (same_is other (name_of c.args.name) same) ∙ sym c.in-None.ensures.value)
