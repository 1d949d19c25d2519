use Rattle.std.proofs.Common.{◌-◌, refl, arith}
use Rattle.std.proofs.lemmas.Result.{IfOk-weaker}
use Rattle.luf_interf.specs.inner.LabelNumbers.{IsAdded, IsPicked}
use Rattle.luf_interf.proofs.Picked.{picked_at, picked_added, found_within}
use Rattle.luf_interf.proofs.label_names.pick.Goals as goal

pub returns-in_default : goal.returns-in_default
returns-in_default c =
    IfOk-weaker c.add_free.result (λ k. IsAdded c.args.table.now (4294967295 - c.args.row.to) k c.add_free.new.table) (λ k. IsPicked c.args.table.now c.args.row k c.add_free.new.table)
    (λ k added. picked_added c.args.table.now c.args.row (4294967295 - c.args.row.from) (4294967295 - c.args.row.to) refl refl c.requires (omega arith) c.in_default.ensures k c.add_free.new.table added)
    c.add_free.ensures

pub set-requires : goal.set-requires
set-requires c = found_within c.args.table.now (4294967295 - c.args.row.from) c.in-Some.place c.in-Some.ensures

pub returns : goal.returns
returns c = picked_at c.args.table.now c.args.row (4294967295 - c.args.row.from) (4294967295 - c.args.row.to) refl refl c.requires (omega arith) c.in-Some.place c.in-Ok.number c.set.new.self c.in-Some.ensures c.in-Ok.ensures.1 c.set.ensures
