use Rattle.std.proofs.Common.{get_or, length, ◌≡◌, sym, ◌∙◌, ap, arith}
use Rattle.luf_lex.specs.Note.{lead_of}
use Rattle.luf_lex.specs.inner.Leads.{gap_start}
use Rattle.luf_lex.proofs.FilledLemmas.{lead_filled}
use Rattle.luf_lex.proofs.NoteLemmas.{lead_count, lead_rising, lead_between}
use Rattle.luf_lex.proofs.pieces.Cut.lead.Goals as goal

pub gap_start-requires : goal.gap_start-requires
gap_start-requires c = omega (arith, c.self.invariant.0.few, c.len-end.ensures ∙ c.self.inside.solid.ok.0)

pub between-requires-clause-count : goal.between-requires-clause-count
between-requires-clause-count c = lead_count _ _ _ c.self.invariant.1

pub between-requires-clause-rising : goal.between-requires-clause-rising
between-requires-clause-rising c = lead_rising _ _ _ c.self.invariant.1

pub returns : goal.returns
returns c =
    let pieces = c.self.inside.solid.items in
    let end : c.len-end.result ≡ length pieces = c.len-end.ensures ∙ c.self.inside.solid.ok.0 in
    c.between.ensures
    ∙ lead_between c.self.inside.leads.notes.items c.self.inside.leads.places.items c.self.inside.tokens.items pieces c.args.n _ _ c.self.invariant.1 c.self.invariant.0.places
    (c.gap_start.ensures ∙ ap (λ ts. gap_start ts c.len-end.result c.args.n) c.as_slice-places.ensures.value ∙ ap (λ e. gap_start c.self.inside.tokens.items e c.args.n) end)
    (c.place_of.ensures ∙ ap (λ ts. get_or ts c.args.n c.len-end.result) c.as_slice-places.ensures.value ∙ ap (get_or c.self.inside.tokens.items c.args.n) end)
    ∙ sym (lead_filled 0 pieces c.self.inside.end c.args.n)
    ∙ ap (λ ps. lead_of ps c.args.n) c.self.view_is
