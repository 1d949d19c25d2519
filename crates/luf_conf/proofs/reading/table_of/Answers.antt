use Rattle.std.proofs.Common.{sym, ◌∙◌, arith}
use Rattle.std.proofs.lemmas.Option.{none-some}
use Rattle.toml.specs.Errors.{IsMemory}
use Rattle.luf_conf.specs.Answers.{not_toml}
use Rattle.luf_conf.proofs.reading.table_of.Goals as goal

pub returns-else-is_memory-clause-refused : goal.returns-else-is_memory-clause-refused
returns-else-is_memory-clause-refused c =
    let other : IsMemory c.in-Err.e → ⊥ = λ memory. grind (arith, c.is_memory.ensures.1 memory, c.if-is_memory.false) in
    λ _. not_toml (λ table is. none-some table (sym (c.in-Err.ensures.refused other is.0) ∙ is.1))
