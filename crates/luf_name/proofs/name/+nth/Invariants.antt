use Rattle.luf_name.proofs.name.+nth.Given as goal

abbrev pub decreases-nth : goal.decreases-nth
decreases-nth l = l.n
