-- Where expressions and blocks begin, and the token before them, which opens them.
use Rattle.std.proofs.Common.{◌≡◌, ℕ, List, ap, arith, ◌∙◌}
use Rattle.luf_lex.specs.declared.token.Tok.{Tok}
use Rattle.luf_tree.specs.declared.tree.Block.{Block}
use Rattle.luf_tree.specs.declared.tree.Expr.{Expr}
use Rattle.luf_tree.specs.TokenSyntax as tokens
use Rattle.luf_tree.specs.Span.{span_of}
use Rattle.luf_tree.specs.SyntaxOf.{syntax_of_expr, syntax_of_block}
use Rattle.luf_tree.specs.Entry.{opener_of_expression, opener_of_block}
use Rattle.luf_tree.specs.Grammar as g
use Rattle.luf_tree.specs.Grammar.{IsToken, IsExpr, IsOperand, IsSimple, IsPrefix, IsVariable, IsCall, IsParen, IsBlock}
use Rattle.luf_tree.proofs.SyntaxEquations.{nil_syntax, true_syntax, false_syntax, number_syntax, string_syntax, vararg_syntax, name_syntax, paren_syntax, function_syntax, table_syntax, unary_syntax, chain_syntax, power_syntax, suffixed_syntax, block_of_syntax}

abbrev first_of : tokens.Expression → ℕ
first_of e = (span_of e).from

paren_from : {toks : List Tok} {i j : ℕ} {e : Expr} → IsParen toks i j e → first_of (syntax_of_expr e) ≡ i
paren_from {i = i} {j = j} (g.paren {e = e} t d u) = ap first_of (paren_syntax i j e)

variable_from : {toks : List Tok} {i j : ℕ} {e : Expr} → IsVariable toks i j e → first_of (syntax_of_expr e) ≡ i
variable_from {i = i} {j = j} (g.name_variable t) = ap first_of (name_syntax i j)
variable_from {i = i} {j = j} (g.suffixed_variable {head = head} {suffixes = suffixes} d rest) = ap first_of (suffixed_syntax i j head suffixes)

call_from : {toks : List Tok} {i j : ℕ} {e : Expr} → IsCall toks i j e → first_of (syntax_of_expr e) ≡ i
call_from {i = i} {j = j} (g.suffixed_call {head = head} {suffixes = suffixes} d rest) = ap first_of (suffixed_syntax i j head suffixes)

prefix_from : {toks : List Tok} {i j : ℕ} {e : Expr} → IsPrefix toks i j e → first_of (syntax_of_expr e) ≡ i
prefix_from (g.variable_prefix d) = variable_from d
prefix_from (g.call_prefix d) = call_from d
prefix_from (g.paren_prefix d) = paren_from d

simple_from : {toks : List Tok} {i j : ℕ} {e : Expr} → IsSimple toks i j e → first_of (syntax_of_expr e) ≡ i
simple_from {i = i} {j = j} (g.nil_simple t) = ap first_of (nil_syntax i j)
simple_from {i = i} {j = j} (g.true_simple t) = ap first_of (true_syntax i j)
simple_from {i = i} {j = j} (g.false_simple t) = ap first_of (false_syntax i j)
simple_from {i = i} {j = j} (g.number_simple t) = ap first_of (number_syntax i j)
simple_from {i = i} {j = j} (g.string_simple t) = ap first_of (string_syntax i j)
simple_from {i = i} {j = j} (g.vararg_simple t) = ap first_of (vararg_syntax i j)
simple_from {i = i} {j = j} (g.function_simple {f = f} t d) = ap first_of (function_syntax i j f)
simple_from {i = i} {j = j} (g.table_simple {fields = fields} d) = ap first_of (table_syntax i j fields)
simple_from (g.prefix_simple d closed) = prefix_from d

operand_from : {toks : List Tok} {i j : ℕ} {e : Expr} → IsOperand toks i j e → first_of (syntax_of_expr e) ≡ i
operand_from {i = i} {j = j} (g.unary_operand {e = e} t u d) = ap first_of (unary_syntax i j e)
operand_from {i = i} {j = j} (g.power_operand {j = k} {base = base} {exponent = exponent} d c x) = ap first_of (power_syntax i j base k exponent)
operand_from (g.simple_operand d) = simple_from d

expr_from : {toks : List Tok} {n i j : ℕ} {e : Expr} → IsExpr toks n i j e → first_of (syntax_of_expr e) ≡ i
expr_from (g.operand_expr d) = operand_from d
expr_from {i = i} {j = j} (g.chain_expr {first = first} {rest = rest} some above d steps) = ap first_of (chain_syntax i j first rest)

-- the token before an expression opens it, and the one before a block
pub expr_opener : {toks : List Tok} {n i j k : ℕ} {t : Tok} {e : Expr} → IsToken toks i t j → IsExpr toks n j k e → opener_of_expression (syntax_of_expr e) ≡ i
expr_opener t d = let a = t.next in let b = expr_from d in omega arith

pub block_opener : {toks : List Tok} {i j k : ℕ} {t : Tok} {b : Block} → IsToken toks i t j → IsBlock toks j k b → opener_of_block (syntax_of_block b) ≡ i
block_opener {j = j} {k = k} t (g.block {stats = stats} d) = let a = t.next in ap opener_of_block (block_of_syntax j k stats) ∙ omega arith
