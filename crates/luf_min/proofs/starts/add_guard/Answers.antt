use Rattle.std.proofs.Common.{refl}
use Rattle.std.proofs.lemmas.Bool.{false≢true}
use Rattle.luf_lex.specs.Tokens.{toks_of}
use Rattle.luf_tree.specs.SyntaxOf.{syntax_of_stat}
use Rattle.luf_min.proofs.Added.{whole, nothing}
use Rattle.luf_min.proofs.StatementLaws.{guard_there, guard_none}
use Rattle.luf_min.proofs.starts.add_guard.Goals as goal

pub returns-then-needs_guard : goal.returns-then-needs_guard
returns-then-needs_guard c = whole _ _ _ _ _ (guard_there (toks_of c.args.cut.now) c.args.first c.statement_start.result (syntax_of_stat c.args.s.now) (c.if-needs_guard.ensures.0 refl) c.statement_start.ensures) c.add_sign.ensures

pub returns : goal.returns
returns c = nothing _ _ (guard_none (toks_of c.args.cut.now) c.args.first c.statement_start.result (syntax_of_stat c.args.s.now) (λ needs. false≢true (c.if-needs_guard.ensures.1 needs)) c.statement_start.ensures)
