use Rattle.std.proofs.Common.{◌≡◌, take, drop}
use Rattle.std.specs.List.{All}
use Rattle.luf_name.specs.Order.{IsLetter, number_from}
use Rattle.luf_name.proofs.number.number_behind.Given as goal

abbrev pub invariant-loop-letter : goal.invariant-loop-letter
invariant-loop-letter l = record {
  letters : All IsLetter (take l.letter-index l.rest);
  rest : number_from l.number (drop l.letter-index l.rest) ≡ number_from l.initial.number l.rest;
}
