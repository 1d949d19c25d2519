-- The span of an expression.
use Rattle.luf_tree.specs.Syntax as syntax

abbrev pub span_of : {K : syntax.Shape} → syntax.Expression K → K.Span
span_of (syntax.nil_value span) = span
span_of (syntax.true_value span) = span
span_of (syntax.false_value span) = span
span_of (syntax.numeral span _) = span
span_of (syntax.string span _) = span
span_of (syntax.varargs span) = span
span_of (syntax.variable span _) = span
span_of (syntax.parenthesised span _) = span
span_of (syntax.function span _) = span
span_of (syntax.table span _) = span
span_of (syntax.unary span _ _) = span
span_of (syntax.chain span _ _) = span
span_of (syntax.power span _ _ _) = span
span_of (syntax.suffixed span _ _) = span
