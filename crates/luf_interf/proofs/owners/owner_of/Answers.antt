use Rattle.std.proofs.Common.{Some, true, slice_get, length, sym, ap, ◌∙◌, subst}
use Rattle.std.specs.Option.{option_map_or}
use Rattle.luf_lex.specs.Tokens.{toks_of}
use Rattle.luf_scope.specs.Links.{spelling_in}
use Rattle.luf_interf.specs.inner.Owners.{IsFreeOwner}
use Rattle.luf_interf.proofs.OwnersMade.{refers_fixed, refers_renamed, refers_free, refers_something, no_declaration}
use Rattle.luf_interf.proofs.owners.owner_of.Goals as goal

pub returns-then-keeps_name : goal.returns-then-keeps_name
returns-then-keeps_name c os lies are is =
    refers_fixed (length (toks_of c.args.cut.now)) os lies (spelling_in c.args.src.now c.args.cut.now) c.args.l.now are c.args.size c.args.token is c.in-Some-Refers.number
    (sym c.at.ensures ∙ c.in-Some-Refers.is ∙ ap Some c.in-Some-Refers.field-0-is)
    (ap (λ bs. option_map_or (λ b. b.fixed) (slice_get bs c.in-Some-Refers.number) true) (sym c.binders.ensures) ∙ sym c.keeps_name.ensures ∙ c.if-keeps_name.true)

pub returns-else-keeps_name : goal.returns-else-keeps_name
returns-else-keeps_name c os lies are is =
    refers_renamed (length (toks_of c.args.cut.now)) os lies (spelling_in c.args.src.now c.args.cut.now) c.args.l.now are c.args.size c.args.token is c.in-Some-Refers.number
    (sym c.at.ensures ∙ c.in-Some-Refers.is ∙ ap Some c.in-Some-Refers.field-0-is)
    (ap (λ bs. option_map_or (λ b. b.fixed) (slice_get bs c.in-Some-Refers.number) true) (sym c.binders.ensures) ∙ sym c.keeps_name.ensures ∙ c.if-keeps_name.false)

pub returns-in-Some-Global : goal.returns-in-Some-Global
returns-in-Some-Global c os lies are is =
    refers_free (length (toks_of c.args.cut.now)) os lies (spelling_in c.args.src.now c.args.cut.now) c.args.l.now are c.args.size c.args.token is c.free_owner.result
    (sym c.at.ensures ∙ c.in-Some-Global.is ∙ ap Some c.in-Some-Global.field-0-is)
    (subst (λ word. IsFreeOwner c.args.size word c.free_owner.result) c.spelled.ensures c.free_owner.ensures)

pub returns-in-Some-Declares : goal.returns-in-Some-Declares
returns-in-Some-Declares c os lies are is =
    absurd (no_declaration (length (toks_of c.args.cut.now)) os lies (spelling_in c.args.src.now c.args.cut.now) c.args.l.now are c.args.size c.args.token is c.in-Some-Declares.field-0-0
    (sym c.at.ensures ∙ c.in-Some-Declares.is ∙ ap Some c.in-Some-Declares.field-0-is))

pub returns-in-None : goal.returns-in-None
returns-in-None c os lies are is =
    absurd (refers_something (length (toks_of c.args.cut.now)) os lies (spelling_in c.args.src.now c.args.cut.now) c.args.l.now are c.args.size c.args.token is (sym c.at.ensures ∙ c.in-None.is))
