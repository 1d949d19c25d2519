use Rattle.std.proofs.Common.{sym, ◌∙◌}
use Rattle.luf_scope.specs.Fault.{first_of}
use Rattle.luf_work.proofs.source.check_scopes.Goals as goal

pub returns-in-Some-clause-refused : goal.returns-in-Some-clause-refused
returns-in-Some-clause-refused c = λ other. (
  c.requires.within,
  record {
    pieces = c.args.pieces.now;
    chunk = c.args.chunk.now;
    is = c.requires.source;
    token = c.in-Some.bad.token;
    fault = (λ i. first_of (sym c.in_ok-name.ensures i) (sym c.in_ok-jump.ensures i)) ∙ sym c.first_of.ensures ∙ c.in-Some.is;
    place_is = c.place_of_token.ensures;
  },
)
