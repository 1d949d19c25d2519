use Rattle.std.proofs.Common.{◌≡◌, ◌++◌, drop, length, map, take}
use Rattle.luf_list.specs.Listing.{inner_listings}
use Rattle.luf_proto.specs.FunctionOf.{function_of, functions_of}
use Rattle.luf_list.proofs.functions.+functions.Given as goal

-- what is written and what is left are the whole, and what was there before is kept
abbrev pub invariant-write_inner-loop-index : goal.invariant-write_inner-loop-index
invariant-write_inner-loop-index l = (l.into.items ++ inner_listings l.path l.index (functions_of (map function_of (drop l.index l.subs))) ≡ l.fn.into.items ++ inner_listings l.path 0 (functions_of (map function_of l.subs))) × (take (length l.fn.into.items) l.into.items ≡ l.fn.into.items)
