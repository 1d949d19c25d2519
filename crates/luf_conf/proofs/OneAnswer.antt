-- A text tells one set of options, or is refused for one cause.
use Rattle.std.proofs.Common.{◌≡◌, ◌≢◌, ◌⊎◌, ℕ, Bool, List, [], Result, Ok, Err, IfOk, IfErr, pos, refl, sym, ap, subst, ◌∙◌, arith, inl, inr}
use Rattle.std.proofs.lemmas.Option.{same_Some}
use Rattle.toml.specs.Data.{Data, integer, string, Members}
use Rattle.luf_quote.specs.declared.calls.CallStyle.{CallStyle}
use Rattle.luf_quote.specs.declared.quotes.QuoteStyle.{QuoteStyle}
use Rattle.luf_conf.proofs.Named.{one_indent, one_quote_style, one_call_style}
use Rattle.luf_conf.proofs.Refusals.{one_first_wrong, options_not_wrong}
use Rattle.luf_conf.specs.Answers.{AreOptions, IsFirstWrong, IsRefused, IsTable, TellsOptions, not_toml, wrong_table}
use Rattle.luf_conf.specs.Settings.{AreInRange}
use Rattle.luf_conf.specs.declared.error.ConfErr.{ConfErr}
use Rattle.luf_conf.specs.declared.error.ConfErr.TheVariants.{NotToml, UnknownKey, BadValue, Memory}
use Rattle.luf_conf.specs.declared.keys.Key.TheVariants as key
use Rattle.luf_conf.specs.declared.settings.Options.{Options}

-- what integers and strings hold
abbrev number_in : Data → ℕ
number_in (integer (pos n)) = n
number_in d = 0

abbrev text_in : Data → List ℕ
text_in (string s) = s
text_in d = []

abbrev made : ℕ → Bool → ℕ → QuoteStyle → CallStyle → Options
made columns tabs indent quotes calls = record { column_width = columns; tabs = tabs; indent_width = indent; quotes = quotes; calls = calls }

same_parts : (o p : Options) → o.column_width ≡ p.column_width → o.tabs ≡ p.tabs → o.indent_width ≡ p.indent_width → o.quotes ≡ p.quotes → o.calls ≡ p.calls → o ≡ p
same_parts o p columns tabs indent quotes calls =
    ap (λ x. made x o.tabs o.indent_width o.quotes o.calls) columns ∙ ap (λ x. made p.column_width x o.indent_width o.quotes o.calls) tabs
    ∙ ap (λ x. made p.column_width p.tabs x o.quotes o.calls) indent ∙ ap (λ x. made p.column_width p.tabs p.indent_width x o.calls) quotes ∙ ap (λ x. made p.column_width p.tabs p.indent_width p.quotes x) calls

pub options_once : (table : Members) (o p : Options) → AreOptions table o → AreOptions table p → o ≡ p
options_once table o p a b =
    same_parts o p (ap number_in (sym (a.told key.ColumnWidth).0 ∙ (b.told key.ColumnWidth).0)) (one_indent _ _ (ap text_in (sym (a.told key.IndentType) ∙ b.told key.IndentType)))
    (ap number_in (sym (a.told key.IndentWidth).0 ∙ (b.told key.IndentWidth).0)) (one_quote_style _ _ (ap text_in (sym (a.told key.QuoteStyle) ∙ b.told key.QuoteStyle)))
    (one_call_style _ _ (ap text_in (sym (a.told key.CallParentheses) ∙ b.told key.CallParentheses)))

pub options_in_range : (table : Members) (o : Options) → AreOptions table o → AreInRange o
options_in_range table o are =
    let columns = are.told key.ColumnWidth in
    let indent = are.told key.IndentWidth in
    (columns.1, columns.2, indent.1, indent.2)

one_table : (text : List ℕ) (t u : Members) → IsTable text t → IsTable text u → t ≡ u
one_table text t u a b = same_Some t u (sym a.1 ∙ b.1)

pub one_options : (text : List ℕ) (o p : Options) → TellsOptions text o → TellsOptions text p → o ≡ p
one_options text o p a b = options_once b.0 o p (subst (λ t. AreOptions t o) (one_table text a.0 b.0 a.1 b.1) a.2) b.2

pub options_not_refused : (text : List ℕ) (o : Options) (e : ConfErr) → TellsOptions text o → IsRefused text e → ⊥
options_not_refused text o _ tells (not_toml none) = none tells.0 tells.1
options_not_refused text o _ tells (wrong_table t e is wrong) = options_not_wrong t o e (subst (λ u. AreOptions u o) (one_table text tells.0 t tells.1 is) tells.2) wrong

pub one_refusal : (text : List ℕ) (e f : ConfErr) → IsRefused text e → IsRefused text f → e ≡ f
one_refusal text _ _ (not_toml none) (not_toml other) = refl
one_refusal text _ _ (not_toml none) (wrong_table t f is wrong) = absurd (none t is)
one_refusal text _ _ (wrong_table t e is wrong) (not_toml none) = absurd (none t is)
one_refusal text _ _ (wrong_table t e is wrong) (wrong_table u f is' wrong') = one_first_wrong u e f (subst (λ x. IsFirstWrong x e) (one_table text t u is is') wrong) wrong'

memory_or : (e : ConfErr) → (e ≡ Memory) ⊎ (e ≢ Memory)
memory_or Memory = inl refl
memory_or NotToml = inr (λ same. grind (arith, same))
memory_or (UnknownKey name) = inr (λ same. grind (arith, same))
memory_or (BadValue name) = inr (λ same. grind (arith, same))

-- an answer that is right is the answer that there is, or want of memory
pub complete : (text : List ℕ) (r : Result Options ConfErr) → IfOk r (TellsOptions text) → IfErr r (λ e. e ≢ Memory → IsRefused text e) → (o : Options) → TellsOptions text o → (r ≡ Ok o) ⊎ (r ≡ Err Memory)
complete text (Ok p) ok refused o tells = inl (ap Ok (one_options text p o ok tells))
complete text (Err e) ok refused o tells =
    elim (memory_or e) [
      | inl memory ↦ inr (ap Err memory)
      | inr other ↦ absurd (options_not_refused text o e tells (refused other))
    ]

pub exact : (text : List ℕ) (r : Result Options ConfErr) → IfOk r (TellsOptions text) → IfErr r (λ e. e ≢ Memory → IsRefused text e) → (e : ConfErr) → IsRefused text e → (r ≡ Err e) ⊎ (r ≡ Err Memory)
exact text (Ok p) ok refused e is = absurd (options_not_refused text p e ok is)
exact text (Err f) ok refused e is =
    elim (memory_or f) [
      | inl memory ↦ inr (ap Err memory)
      | inr other ↦ inl (ap Err (one_refusal text f e (refused other) is))
    ]

-- what is told of the table of a text, is told of the text
pub tells_by : (text : List ℕ) (table : Members) (r : Result Options ConfErr) → IsTable text table → IfOk r (AreOptions table) → IfOk r (TellsOptions text)
tells_by text table (Ok o) is told = (table, is, told)
tells_by text table (Err e) is told = tt

pub refused_by : (text : List ℕ) (table : Members) (r : Result Options ConfErr) → IsTable text table → IfErr r (λ e. e ≢ Memory → IsFirstWrong table e) → IfErr r (λ e. e ≢ Memory → IsRefused text e)
refused_by text table (Ok o) is refused = tt
refused_by text table (Err e) is refused = λ other. wrong_table table e is (refused other)
