use Rattle.std.proofs.Common.{◌≤◌, length, get_or, take, sym, ◌∙◌, ap, arith}
use Rattle.std.proofs.lemmas.List.{length-take-le}
use Rattle.luf_lex.specs.Note.{has_empty_line, blank_of}
use Rattle.luf_lex.proofs.FilledLemmas.{blank_filled, read_within, read_before}
use Rattle.luf_lex.proofs.pieces.Cut.blank.Goals as goal

pub slice_bounds-has_empty_line-end : goal.slice_bounds-has_empty_line-end
slice_bounds-has_empty_line-end c =
    let within : c.place_of.result ≤ length c.self.inside.solid.items = read_within c.self.inside.tokens.items c.self.inside.solid.items c.args.n c.place_of.result c.len.result c.self.invariant.0.places (c.len.ensures ∙ c.self.inside.solid.ok.0) (c.place_of.ensures ∙ ap (λ ts. get_or ts c.args.n c.len.result) c.as_slice.ensures.value) in
    omega (arith, within, ap length c.deref.ensures.value, length-take-le c.place_of.result c.deref.result.now (omega (arith, within, ap length c.deref.ensures.value)))

pub returns : goal.returns
returns c =
    c.has_empty_line.ensures
    ∙ ap (λ ps. has_empty_line (take c.place_of.result ps)) c.deref.ensures.value
    ∙ ap has_empty_line (read_before c.self.inside.tokens.items c.self.inside.solid.items c.args.n c.place_of.result c.len.result c.self.invariant.0.places (c.len.ensures ∙ c.self.inside.solid.ok.0) (c.place_of.ensures ∙ ap (λ ts. get_or ts c.args.n c.len.result) c.as_slice.ensures.value))
    ∙ sym (blank_filled 0 c.self.inside.solid.items c.self.inside.end c.args.n)
    ∙ ap (λ ps. blank_of ps c.args.n) c.self.view_is
