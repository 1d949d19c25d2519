use Rattle.std.proofs.Common.{ℕ, List}
use Rattle.std.proofs.lemmas.Result.{on_ok_weaker}
use Rattle.luf_str.specs.Requote.{quote_byte}
use Rattle.luf_str.proofs.Requoting.{same_string, quote_byte_is_quote}
use Rattle.luf_str.proofs.quoting.requote.Goals as goal

pub returns-else-is_err-clause-same : goal.returns-else-is_err-clause-same
returns-else-is_err-clause-same c =
    let s : List ℕ = c.args.spelling.now in
    let q : ℕ = quote_byte c.args.q in
    on_ok_weaker c.push_requoted-result.result (λ r. (r.0, same_string s q r.0 (quote_byte_is_quote c.args.q) r.1, r.2)) c.push_requoted-result.ensures.ok
