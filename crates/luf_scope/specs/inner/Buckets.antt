-- Numbers of names, which are spread over buckets.
use Rattle.std.specs.Prelude.{ℕ, ◌+◌, ◌*◌, ◌%◌, Option, List, [], ◌∷◌, slice_get}
use Rattle.std.specs.BTreeMap.{BTreeMap, get_by}
use denote.Ref.{Bor}
use Rattle.std.specs.Cmp.Lexicographic.{slice_cmp}
use Rattle.std.specs.Ordering.{nat_cmp}
use Rattle.std.specs.Option.{option_and_then}
use Rattle.luf_scope.specs.declared.names.Bucket.{Bucket}

-- the bucket of a name, where so much is known of it from the bytes before
abbrev pub bucket_from : ℕ → List ℕ → ℕ
bucket_from bucket [] = bucket
bucket_from bucket (b ∷ name) = bucket_from ((bucket * 31 + b) % 1024) name

-- the number that a map gives a name
abbrev pub number_among : BTreeMap (Bor (List ℕ)) ℕ → List ℕ → Option ℕ
number_among numbers name = get_by (λ k. slice_cmp nat_cmp name k.now) numbers

-- the number that the bucket of a name gives it
abbrev pub number_in : List Bucket → List ℕ → Option ℕ
number_in buckets name = option_and_then (λ b. number_among b.numbers name) (slice_get buckets (bucket_from 0 name))
