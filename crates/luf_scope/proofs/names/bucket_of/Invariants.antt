use Rattle.std.proofs.Common.{◌≡◌, ◌<◌, drop}
use Rattle.luf_scope.specs.inner.Buckets.{bucket_from}
use Rattle.luf_scope.proofs.names.bucket_of.Given as goal

abbrev pub invariant-loop-b : goal.invariant-loop-b
invariant-loop-b l = record {
  value : bucket_from l.bucket (drop l.b-index l.name) ≡ bucket_from 0 l.name;
  within : l.bucket < 1024;
}
