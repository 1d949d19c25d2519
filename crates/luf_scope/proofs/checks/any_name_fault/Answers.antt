use Rattle.std.proofs.Common.{ap, ◌∙◌}
use Rattle.luf_scope.specs.Fault as fault
use Rattle.luf_scope.specs.Links.{spelling_in}
use Rattle.luf_scope.proofs.Told.{first_name_fault}
use Rattle.luf_scope.proofs.checks.any_name_fault.Goals as goal

pub returns : goal.returns
returns c =
    let spelled = spelling_in c.args.src.now c.args.cut.now in
    let constant = c.first_constant-constant.ensures spelled c.requires.meanings c.requires.binders in
    let varargs = c.in_ok-varargs.ensures spelled in
    c.first_of-3.ensures
    ∙ ap (λ o. fault.first_of o c.in_ok-varargs.varargs) (c.first_of-2.ensures ∙ ap (λ o. fault.first_of o c.first_constant-constant.result) (c.first_of.ensures ∙ ap (λ o. fault.first_of o c.in_ok-second.second) c.first_unknown-unknown.ensures ∙ ap (fault.first_of _) c.in_ok-second.ensures) ∙ ap (fault.first_of _) constant)
    ∙ ap (fault.first_of _) varargs
    ∙ first_name_fault spelled c.args.os.now c.requires.laid
