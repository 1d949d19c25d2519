use Rattle.std.proofs.Common.{arith}
use Rattle.luf_scope.proofs.Numbered.{changed_if}
use Rattle.luf_scope.proofs.names.Names.number.Goals as goal

pub returns-clause-names : goal.returns-clause-names
returns-clause-names c = changed_if c.number.result c.args.name.now c.args.self.now.buckets.items c.index_mut.result.now c.number.new.self c.args.number c.bucket_of.result c.bucket_of.ensures.value (omega (arith, c.bucket_of.ensures.within, c.requires.count)) c.index_mut.ensures.value c.number.ensures.names
