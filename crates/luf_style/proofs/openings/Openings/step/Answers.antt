use Rattle.std.proofs.Common.{rules, map, refl}
use Rattle.luf_draft.specs.Flat.{shown}
use Rattle.luf_style.proofs.FillSteps.{gap_like}
use Rattle.luf_style.proofs.GapSteps.{text_adds, gap_adds, none_adds}
use Rattle.luf_style.proofs.openings.Openings.step.Goals as goal

pub returns-in-Token : goal.returns-in-Token
returns-in-Token c = text_adds c.args.written.now (map (shown c.args.written.now) c.args.rest.now) c.args.self.now _ c.args.mark (search (rules, c.in-Token.is)) refl refl refl

pub returns-in_ok-push-in-Gap : goal.returns-in_ok-push-in-Gap
returns-in_ok-push-in-Gap c = gap_adds c.args.written.now (map (shown c.args.written.now) c.args.rest.now) c.args.self.now _ c.args.mark c.in-Gap.kind c.in_ok-gap-in-Gap.gap c.in-Gap.is
    (gap_like c.args.written.now _ _ c.in-Gap.kind _ _ refl c.in_ok-notes-in-Gap.ensures.gap c.in_ok-gap-in-Gap.ensures)
    c.in_ok-notes-in-Gap.ensures.left refl c.in_ok-push-in-Gap.ensures

pub returns-in-Trail : goal.returns-in-Trail
returns-in-Trail c = none_adds c.args.written.now (map (shown c.args.written.now) c.args.rest.now) c.args.self.now c.args.mark c.in-Trail.is
