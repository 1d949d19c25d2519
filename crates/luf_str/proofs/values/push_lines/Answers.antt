use Rattle.std.proofs.Common.{◌≡◌, ◌++◌, [], ◌∷◌, take, drop, ap, subst, sym, ◌∙◌, ℕ, List}
use Rattle.std.proofs.lemmas.List.{append-nil}
use Rattle.luf_byte.specs.LineEnd.{line_end_length}
use Rattle.luf_str.proofs.InPlace.{appended}
use Rattle.luf_str.proofs.LongLaws.{IsLongReadTo, long_starts, over_line, last_line}
use Rattle.luf_str.proofs.values.push_lines.Goals as goal

pub lines-init : goal.lines-init
lines-init c =
    let body : List ℕ = c.args.body.now in
    (c.line_end_length-at.ensures.bound, ([], subst (λ n. IsLongReadTo body (drop n body) []) (sym c.line_end_length-at.ensures.value) (long_starts body), sym (append-nil c.args.into.now.items)))

pub lines-preserved : goal.lines-preserved
lines-preserved c =
    let body : List ℕ = c.args.body.now in
    let rest : List ℕ = c.tail-rest.result.now in
    let line : List ℕ = take c.in-Some.line rest in
    let state = c.lines.invariant.1 in
    let found = c.in-Some.ensures in
    let over = over_line body state.0 rest c.lines.at c.in-Some.line c.line_end_length.result state.1 c.tail-rest.ensures found.0 found.1 (c.line_end_length.ensures.value ∙ ap line_end_length c.tail.ensures) in
    let front : c.extend_from_slice-in-lines.new.self.items ≡ c.lines.into.items ++ line = c.in_ok-extend_from_slice-2.ensures.items ∙ ap (λ t. c.lines.into.items ++ t) c.head.ensures in
    let done : List ℕ = state.0 ++ line in
    (over.0, (done ++ 10 ∷ [], over.2, appended _ done _ _ (10 ∷ []) (appended _ state.0 _ _ line state.2 front) c.in_ok-push.ensures.items))

pub returns-in_default-clause-ok : goal.returns-in_default-clause-ok
returns-in_default-clause-ok c =
    let rest : List ℕ = c.tail-rest.result.now in
    let state = c.lines.invariant.1 in
    (state.0 ++ rest, last_line c.args.body.now state.0 rest c.lines.at state.1 c.tail-rest.ensures c.in_default.ensures, appended _ state.0 _ _ rest state.2 c.in_ok-extend_from_slice.ensures.items)
