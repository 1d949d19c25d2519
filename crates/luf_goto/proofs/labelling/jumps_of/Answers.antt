use Rattle.std.proofs.Common.{◌∙◌, sym, ap, subst}
use Rattle.luf_scope.specs.Links.{spelling_in}
use Rattle.luf_goto.specs.Jumps.{AreJumps}
use Rattle.luf_goto.specs.inner.Marking.{marks_from}
use Rattle.luf_goto.proofs.Roles.{roles_are}
use Rattle.luf_goto.proofs.labelling.jumps_of.Goals as goal

pub returns-clause-ok : goal.returns-clause-ok
returns-clause-ok c =
    subst (AreJumps (spelling_in c.args.src.now c.args.cut.now) c.args.os.now)
    (sym (c.in_ok-of-in-None.ensures ∙ ap (λ ts. marks_from ts 0 0 c.args.os.now) (c.as_slice.ensures.value ∙ c.in_ok-checked.ensures.targets)))
    (roles_are (spelling_in c.args.src.now c.args.cut.now) c.args.os.now c.requires.order)
