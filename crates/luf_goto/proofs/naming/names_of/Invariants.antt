use Rattle.std.proofs.Common.{◌≡◌, ◌++◌, map, take}
use Rattle.luf_scope.specs.Links.{spelling_in}
use Rattle.luf_goto.specs.inner.Names.{name_of, label_name, goto_name}
use Rattle.luf_goto.proofs.naming.names_of.Given as goal

abbrev pub invariant-loop-l : goal.invariant-loop-l
invariant-loop-l l = map name_of l.names.items ≡ map (label_name (spelling_in l.src l.cut)) (take l.l-index l.labels)

abbrev pub invariant-loop-g : goal.invariant-loop-g
invariant-loop-g l = map name_of l.names.items ≡ map (label_name (spelling_in l.src l.cut)) l.labels ++ map (goto_name (spelling_in l.src l.cut)) (take l.g-index l.gotos)
