-- One function more.
use Rattle.std.proofs.Common.{◌≡◌, ◌++◌, ◌∷◌, [], None, map}
use Rattle.std.proofs.lemmas.Result.{err_from_is_err_and}
use Rattle.std.proofs.lemmas.List.{map_push}
use Rattle.luf_proto.specs.FunctionOf.{function_of}
use Rattle.luf_undump.specs.Reading.{function_at, many_at}
use Rattle.luf_undump.proofs.Loop.{goes_on, ends, is_done}
use Rattle.luf_undump.proofs.function.+function.Goals as goal

pub functions-returns-in_err-sub : goal.functions-returns-in_err-sub
functions-returns-in_err-sub t c =
    let p = err_from_is_err_and c.from_residual.result c.from_residual.ensures.1 in
    rw (p.1, p.2) (ends (function_at c.args.levels None) c.in_err-sub.field-0.0 (map function_of c.loop.subs.items) c.args.count c.loop.counter c.loop.rest.now
    (many_at (function_at c.args.levels None) c.args.count c.args.bytes.now) c.loop-test.true c.in_err-sub.ensures c.loop.invariant)

pub functions-loop-preserved : goal.functions-loop-preserved
functions-loop-preserved t c =
    let sub = c.in_ok-sub.sub in
    let e : map function_of c.push.new.self.items ≡ map function_of c.loop.subs.items ++ function_of sub ∷ [] = rw c.in_ok-push.ensures.items (map_push _ c.loop.subs.items sub) in
    rw e (goes_on (function_at c.args.levels None) (map function_of c.loop.subs.items) c.args.count c.loop.counter c.loop.rest.now (function_of sub) c.in_ok-sub.after.now
    (many_at (function_at c.args.levels None) c.args.count c.args.bytes.now) c.loop-test.true c.in_ok-sub.ensures c.loop.invariant)

pub functions-returns : goal.functions-returns
functions-returns t c =
    is_done (function_at c.args.levels None) (map function_of c.loop.subs.items) c.args.count c.loop.counter c.loop.rest.now (many_at (function_at c.args.levels None) c.args.count c.args.bytes.now)
    c.loop-test.false c.loop.invariant
