use Rattle.luf_work.proofs.RefusalLemmas.{fault_of_jumps, fault_of_names, fault_of_both}
use Rattle.luf_work.proofs.source.meanings_of.Goals as goal
use Rattle.luf_work.proofs.source.meanings_of.Goals.{in-Ok-Err, in-Err-Ok, in-Err-Err}

pub returns-clause-refused : goal.returns-clause-refused
returns-clause-refused c = λ other. (
  c.requires.within,
  record {
    pieces = c.args.pieces.now;
    chunk = c.args.chunk.now;
    is = c.requires.source;
    token = c.match-names-2.bad.token;
    fault = elim c.match-names-2.branch [
      | in-Ok-Err w ↦ fault_of_jumps c.args.src.now c.args.pieces.now c.args.chunk.now c.in_ok-names.ensures c.in_ok-jumps.ensures w.in-Ok-Err.is-0 w.in-Ok-Err.is-1 w.bad-is
      | in-Err-Ok w ↦ fault_of_names c.args.src.now c.args.pieces.now c.args.chunk.now c.in_ok-names.ensures c.in_ok-jumps.ensures w.in-Err-Ok.is-0 w.in-Err-Ok.is-1 w.bad-is
      | in-Err-Err w ↦ fault_of_both c.args.src.now c.args.pieces.now c.args.chunk.now c.in_ok-names.ensures c.in_ok-jumps.ensures w.in-Err-Err.is-0 w.in-Err-Err.is-1 w.bad-is w.first_of_two-bad.ensures
    ];
    place_is = c.place_of_token.ensures;
  },
)
