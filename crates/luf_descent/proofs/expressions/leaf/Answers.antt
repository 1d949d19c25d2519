use Rattle.std.proofs.Common.{rules, ◌≡◌, subst, inl, inr}
use Rattle.luf_lex.specs.declared.token.Tok.{Tok}
use Rattle.luf_lex.specs.declared.token.Tok.TheVariants.{Word, Sign}
use Rattle.luf_lex.specs.declared.token.Word.TheVariants as word
use Rattle.luf_lex.specs.declared.token.Sign.TheVariants as sign
use Rattle.luf_tree.specs.Grammar.{IsToken, nil_simple, true_simple, false_simple, number_simple, string_simple, vararg_simple}
use Rattle.luf_tree.proofs.LevelEquations.{nil_levels, true_levels, false_levels, number_levels, string_levels, vararg_levels}
use Rattle.luf_descent.proofs.expressions.leaf.Goals as goal

pub returns-in-Word-Nil-clause-leaf : goal.returns-in-Word-Nil-clause-leaf
returns-in-Word-Nil-clause-leaf c =
    let e : c.args.tok ≡ Word word.Nil = search (rules, c.in-Word-Nil.is, c.in-Word-Nil.field-0-is) in
    λ toks i j t. (nil_simple (subst (λ (k : Tok). IsToken toks i k j) e t), nil_levels i j)

pub returns-in-Word-True-clause-leaf : goal.returns-in-Word-True-clause-leaf
returns-in-Word-True-clause-leaf c =
    let e : c.args.tok ≡ Word word.True = search (rules, c.in-Word-True.is, c.in-Word-True.field-0-is) in
    λ toks i j t. (true_simple (subst (λ (k : Tok). IsToken toks i k j) e t), true_levels i j)

pub returns-in-Word-False-clause-leaf : goal.returns-in-Word-False-clause-leaf
returns-in-Word-False-clause-leaf c =
    let e : c.args.tok ≡ Word word.False = search (rules, c.in-Word-False.is, c.in-Word-False.field-0-is) in
    λ toks i j t. (false_simple (subst (λ (k : Tok). IsToken toks i k j) e t), false_levels i j)

pub returns-in-Number-clause-leaf : goal.returns-in-Number-clause-leaf
returns-in-Number-clause-leaf c = λ toks i j t. (number_simple (subst (λ (k : Tok). IsToken toks i k j) c.in-Number.is t), number_levels i j)

pub returns-in-Short-clause-leaf : goal.returns-in-Short-clause-leaf
returns-in-Short-clause-leaf c = λ toks i j t. (string_simple (inl (subst (λ (k : Tok). IsToken toks i k j) c.in-Short.is t)), string_levels i j)

pub returns-in-Long-clause-leaf : goal.returns-in-Long-clause-leaf
returns-in-Long-clause-leaf c = λ toks i j t. (string_simple (inr (subst (λ (k : Tok). IsToken toks i k j) c.in-Long.is t)), string_levels i j)

pub returns-in-Sign-Dots-clause-leaf : goal.returns-in-Sign-Dots-clause-leaf
returns-in-Sign-Dots-clause-leaf c =
    let e : c.args.tok ≡ Sign sign.Dots = search (rules, c.in-Sign-Dots.is, c.in-Sign-Dots.field-0-is) in
    λ toks i j t. (vararg_simple (subst (λ (k : Tok). IsToken toks i k j) e t), vararg_levels i j)
