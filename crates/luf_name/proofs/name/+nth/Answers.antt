use Rattle.std.proofs.Common.{◌≡◌, ℕ, List, subst, sym}
use Rattle.luf_name.specs.Order.{alphabet, IsNth}
use Rattle.luf_name.proofs.Naming.{named_by_letter, named_by_more, short}
use Rattle.luf_name.proofs.name.+nth.Goals as goal

along : (name other : List ℕ) (n : ℕ) → name ≡ other → IsNth other n → IsNth name n
along name other n same is_nth = subst (λ (x : List ℕ). IsNth x n) (sym same) is_nth

pub returns-then-n-lt-FIRST_LETTERS-clause-name : goal.returns-then-n-lt-FIRST_LETTERS-clause-name
unfolding alphabet
returns-then-n-lt-FIRST_LETTERS-clause-name t c = along c.of_letter.result _ c.args.n c.of_letter.ensures (named_by_letter c.args.n c.if-n-lt-FIRST_LETTERS.true)

pub returns-clause-name : goal.returns-clause-name
unfolding alphabet
returns-clause-name t c = along c.push.new.self _ c.args.n c.push.ensures (named_by_more c.args.n c.nth-name.result c.if-n-lt-FIRST_LETTERS.false c.nth-name.ensures.name)

pub returns-clause-short : goal.returns-clause-short
unfolding alphabet
returns-clause-short t c = short c.push.new.self c.args.n (along c.push.new.self _ c.args.n c.push.ensures (named_by_more c.args.n c.nth-name.result c.if-n-lt-FIRST_LETTERS.false c.nth-name.ensures.name)) c.ranges.n.fits
