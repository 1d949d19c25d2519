-- What is found by a name has that name, and each key and style is found by its own.
use Rattle.std.proofs.Common.{◌≡◌, ℕ, Bool, true, false, cond, List, Option, Some, None, refl, sym, ap, ◌∙◌, inl, inr}
use Rattle.std.specs.Prelude.{bytes_eq, IfSome}
use Rattle.std.specs.Cmp.Lexicographic.{bytes_decides}
use Rattle.std.proofs.lemmas.Bool.{cases_Bool}
use Rattle.std.proofs.lemmas.Option.{none-some, same_Some}
use Rattle.luf_quote.specs.declared.calls.CallStyle.{CallStyle}
use Rattle.luf_quote.specs.declared.calls.CallStyle.TheVariants as calls
use Rattle.luf_quote.specs.declared.quotes.QuoteStyle.{QuoteStyle}
use Rattle.luf_quote.specs.declared.quotes.QuoteStyle.TheVariants as quotes
use Rattle.luf_conf.specs.Settings.{IsKnown, key_name, indent_name, quote_name, call_name}
use Rattle.luf_conf.specs.inner.Named.{key_named, tabs_named, quotes_named, calls_named}
use Rattle.luf_conf.specs.declared.keys.Key.{Key}
use Rattle.luf_conf.specs.declared.keys.Key.TheVariants as key

-- what one test finds has the name, if what is found behind it has
tried : {A : Type 0} (named : A → List ℕ) (name : List ℕ) (x : A) (rest : Option A) → IfSome rest (λ y. named y ≡ name) → IfSome (cond (bytes_eq name (named x)) (Some x) rest) (λ y. named y ≡ name)
tried named name x rest behind =
    elim (cases_Bool (bytes_eq name (named x))) [
      | inl same ↦ rw same (sym ((bytes_decides name (named x)).0 same))
      | inr other ↦ rw other behind
    ]

found : {A : Type 0} (named : A → List ℕ) (name : List ℕ) (o : Option A) (x : A) → IfSome o (λ y. named y ≡ name) → Some x ≡ o → named x ≡ name
found named name None x all same = absurd (none-some x (sym same))
found named name (Some y) x all same = ap named (same_Some x y same) ∙ all

-- ---- keys

pub key_again : (k : Key) → key_named (key_name k) ≡ Some k
key_again key.ColumnWidth = refl
key_again key.IndentType = refl
key_again key.IndentWidth = refl
key_again key.QuoteStyle = refl
key_again key.CallParentheses = refl
key_again key.LineEndings = refl
key_again key.CollapseSimpleStatement = refl

pub key_found : (name : List ℕ) (k : Key) → Some k ≡ key_named name → key_name k ≡ name
key_found name k =
    found key_name name _ k (tried key_name name key.ColumnWidth _ (tried key_name name key.IndentType _ (tried key_name name key.IndentWidth _ (tried key_name name key.QuoteStyle _
    (tried key_name name key.CallParentheses _ (tried key_name name key.LineEndings _ (tried key_name name key.CollapseSimpleStatement None tt)))))))

pub no_key : (name : List ℕ) → None ≡ key_named name → IsKnown name → ⊥
no_key name none known = none-some known.0 (none ∙ ap key_named (sym known.1) ∙ key_again known.0)

pub one_key : (k l : Key) → key_name k ≡ key_name l → k ≡ l
one_key k l same = same_Some k l (sym (key_again k) ∙ ap key_named same ∙ key_again l)

-- ---- indentation

tabs_again : (tabs : Bool) → tabs_named (indent_name tabs) ≡ Some tabs
tabs_again true = refl
tabs_again false = refl

pub one_indent : (x y : Bool) → indent_name x ≡ indent_name y → x ≡ y
one_indent x y same = same_Some x y (sym (tabs_again x) ∙ ap tabs_named same ∙ tabs_again y)

-- ---- quotes

quotes_again : (style : QuoteStyle) → quotes_named (quote_name style) ≡ Some style
quotes_again quotes.AutoPreferDouble = refl
quotes_again quotes.AutoPreferSingle = refl
quotes_again quotes.ForceDouble = refl
quotes_again quotes.ForceSingle = refl

pub one_quote_style : (x y : QuoteStyle) → quote_name x ≡ quote_name y → x ≡ y
one_quote_style x y same = same_Some x y (sym (quotes_again x) ∙ ap quotes_named same ∙ quotes_again y)

-- ---- calls

calls_again : (style : CallStyle) → calls_named (call_name style) ≡ Some style
calls_again calls.Always = refl
calls_again calls.NoSingleString = refl
calls_again calls.NoSingleTable = refl
calls_again calls.None = refl
calls_again calls.Input = refl

pub one_call_style : (x y : CallStyle) → call_name x ≡ call_name y → x ≡ y
one_call_style x y same = same_Some x y (sym (calls_again x) ∙ ap calls_named same ∙ calls_again y)
