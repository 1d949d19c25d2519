use Rattle.std.proofs.Common.{map}
use Rattle.luf_scope.specs.Links.{spelling_in}
use Rattle.luf_min.specs.Minified.{spelled_under}
use Rattle.luf_min.specs.inner.Items.{spelling_of}
use Rattle.luf_min.proofs.TextLemmas.{Written}
use Rattle.luf_min.proofs.text.write_items.Given as goal

-- the words so far are written, and the last of them is at hand
abbrev pub invariant-loop-item : goal.invariant-loop-item
invariant-loop-item l = Written (map (spelling_of (spelled_under l.names (spelling_in l.src l.cut))) l.items) l.item-index l.fn.into.items l.into.items l.last
