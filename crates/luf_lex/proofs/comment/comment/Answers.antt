use Rattle.std.proofs.Common.{◌-◌, ℕ, List, length, take, drop, refl, sym, ap, ◌∙◌, arith}
use Rattle.luf_lex.proofs.CommentLemmas.{behind, all_in_line, not_all_in_line, short_comment, long_comment, open_comment}
use Rattle.luf_lex.proofs.comment.comment.Goals as goal

pub returns-in-Some : goal.returns-in-Some
returns-in-Some c = long_comment c.args.text.now _ _ c.in-Some.length (behind c.args.text.now _ c.requires refl) (omega arith) c.in-Some.ensures.0 c.in-Some.ensures.1

pub returns-in-None : goal.returns-in-None
returns-in-None c = open_comment c.args.text.now _ (behind c.args.text.now _ c.requires refl) c.in-None.ensures

pub returns-in-Some-memchr2 : goal.returns-in-Some-memchr2
returns-in-Some-memchr2 c =
    let text : List ℕ = c.args.text.now in
    let rest : List ℕ = take (length text - 2) (drop 2 text) in
    let k : ℕ = c.in-Some-memchr2.length in
    let found = c.in-Some-memchr2.ensures in
    short_comment text rest _ k (behind text rest c.requires refl) (omega arith) (sym c.opens_long.ensures ∙ c.if-opens_long.false) (omega (arith, found.0.high))
    (all_in_line rest k (omega (arith, found.0.high)) (λ i below. found.0.before i (omega arith) below)) (λ m more within. not_all_in_line rest k m more within found.1)

pub returns-in-None-memchr2 : goal.returns-in-None-memchr2
returns-in-None-memchr2 c =
    let text : List ℕ = c.args.text.now in
    let rest : List ℕ = take (length text - 2) (drop 2 text) in
    let e = behind text rest c.requires refl in
    short_comment text rest _ (length rest) e (sym (ap length e)) (sym c.opens_long.ensures ∙ c.if-opens_long.false) (omega arith)
    (all_in_line rest (length rest) (omega arith) (λ i below. c.in-None-memchr2.ensures i (omega arith) below)) (λ m more within each. omega arith)
