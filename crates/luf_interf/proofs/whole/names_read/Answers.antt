use Rattle.std.proofs.Common.{◌≡◌, ◌+◌, length, sym, ◌∙◌, subst, arith}
use Rattle.luf_lex.specs.Tokens.{toks_of}
use Rattle.luf_scope.specs.Links.{spelling_in}
use Rattle.luf_scope.specs.Order.{AreOrdered}
use Rattle.luf_scope.proofs.Places.{block_lies}
use Rattle.luf_interf.specs.RenamingLaws.{said_in}
use Rattle.luf_interf.specs.inner.LabelNames.{LabelsLie, AreLabelNames}
use Rattle.luf_interf.specs.inner.Owners.{AreLocalNames}
use Rattle.luf_interf.specs.inner.Told.{name_told, AreToldTo}
use Rattle.luf_interf.proofs.Named.{labels_lie}
use Rattle.luf_interf.proofs.Told.{are_names, told_good, told_here, told_more, told_none}
use Rattle.luf_interf.proofs.whole.names_read.Goals as goal
use Rattle.luf_interf.proofs.whole.names_read.Goals.{in-Some+in_ok-add, in_default}

pub local_names-requires-clause-order : goal.local_names-requires-clause-order
local_names-requires-clause-order c =
    let tokens = length (toks_of c.args.cut.now) in
    subst (AreOrdered 0 tokens tokens) (sym c.requires.read) (block_lies c.requires.tree)

pub label_names-requires : goal.label_names-requires
label_names-requires c = subst LabelsLie (sym c.requires.read) (labels_lie (toks_of c.args.cut.now) c.args.c.now c.requires.tree)

pub add-requires-clause-name : goal.add-requires-clause-name
add-requires-clause-name c =
    let spelled = spelling_in c.args.src.now c.args.cut.now in
    let toks = toks_of c.args.cut.now in
    let os = said_in c.args.c.now in
    let locals : AreLocalNames spelled os c.in_ok-locals.locals.items = subst (λ xs. AreLocalNames spelled xs c.in_ok-locals.locals.items) c.requires.read c.in_ok-locals.ensures in
    let labels : AreLabelNames spelled os c.in_ok-labels.labels.items = subst (λ xs. AreLabelNames spelled xs c.in_ok-labels.labels.items) c.requires.read (c.in_ok-labels.ensures spelled) in
    told_good toks c.args.c.now c.requires.tree spelled c.args.l.now c.args.j.now c.in_ok-locals.locals.items c.in_ok-labels.labels.items c.requires.links c.requires.jumps locals labels c.loop-n.n c.in-Some.name (omega (arith, c.loop-n-test.true, c.tokens-tokens.ensures.count))
    (told_here toks c.args.l.now c.args.j.now c.loop-n.n (sym c.as_slice.ensures.value) (sym c.as_slice-in-loop-n.ensures.value) c.name_at.ensures ∙ c.in-Some.is)

pub loop-n-preserved : goal.loop-n-preserved
loop-n-preserved c =
    let told = name_told (toks_of c.args.cut.now) c.args.l.now c.args.j.now c.in_ok-locals.locals.items c.in_ok-labels.labels.items in
    let here : told c.loop-n.n ≡ c.name_at.result = told_here (toks_of c.args.cut.now) c.args.l.now c.args.j.now c.loop-n.n (sym c.as_slice.ensures.value) (sym c.as_slice-in-loop-n.ensures.value) c.name_at.ensures in
    elim c.match-name_at.branch [
      | in-Some+in_ok-add w ↦ subst (AreToldTo told (c.loop-n.n + 1)) (sym (w.found-is ∙ w.in_ok-add.ensures)) (told_more told c.loop-n.n c.loop-n.found w.in-Some.name c.loop-n.invariant (here ∙ w.in-Some.is))
      | in_default w ↦ subst (AreToldTo told (c.loop-n.n + 1)) (sym w.found-is) (told_none told c.loop-n.n c.loop-n.found c.loop-n.invariant (here ∙ w.in_default.is))
    ]

pub returns : goal.returns
returns c =
    let spelled = spelling_in c.args.src.now c.args.cut.now in
    let toks = toks_of c.args.cut.now in
    let os = said_in c.args.c.now in
    let locals : AreLocalNames spelled os c.in_ok-locals.locals.items = subst (λ xs. AreLocalNames spelled xs c.in_ok-locals.locals.items) c.requires.read c.in_ok-locals.ensures in
    let labels : AreLabelNames spelled os c.in_ok-labels.labels.items = subst (λ xs. AreLabelNames spelled xs c.in_ok-labels.labels.items) c.requires.read (c.in_ok-labels.ensures spelled) in
    are_names toks c.args.c.now c.requires.tree spelled c.args.l.now c.args.j.now c.in_ok-locals.locals.items c.in_ok-labels.labels.items c.requires.links c.requires.jumps locals labels c.loop-n.found
    (let all : c.loop-n.n ≡ length toks = omega (arith, c.loop-n-test.false, c.loop-n.auto.n-end, c.tokens-tokens.ensures.count) in
    subst (λ n. AreToldTo (name_told toks c.args.l.now c.args.j.now c.in_ok-locals.locals.items c.in_ok-labels.labels.items) n c.loop-n.found) all c.loop-n.invariant)
