use Rattle.std.proofs.Common.{◌≡◌, ◌==◌, ◌≤◌, take, count_by}
use Rattle.luf_str.proofs.quoting.quotes_in.Given as goal

abbrev pub invariant-loop-b : goal.invariant-loop-b
invariant-loop-b l = (l.single ≤ l.b-index) × (l.double ≤ l.b-index) × (l.single ≡ count_by (λ b. b == 39) (take l.b-index l.text)) × (l.double ≡ count_by (λ b. b == 34) (take l.b-index l.text))
