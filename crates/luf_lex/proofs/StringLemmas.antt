-- Strings at the front of a text.
use Rattle.std.proofs.Common.{◌≡◌, ℕ, zero, suc, ◌<◌, ◌≤◌, true, List, [], length, get_or, take, refl, ap, ◌∙◌, arith, inl, inr}
use Rattle.luf_str.specs.Bytes.{is_quote}
use Rattle.luf_str.specs.Spelling.{IsLongSpelling, IsStringSpelling}
use Rattle.luf_str.proofs.Apart.{valued_is_spelled}
use Rattle.luf_lex.specs.Spelling.{IsShortString}
use Rattle.luf_lex.specs.First.{group_of, IsFirst}
use Rattle.luf_lex.specs.declared.group.Group.TheVariants.{Quoted, Bracketed}
use Rattle.luf_lex.specs.declared.token.Tok.TheVariants.{Short, Long}
use Rattle.luf_lex.specs.declared.token.Kind.TheVariants.{Token}
use Rattle.luf_lex.proofs.LoneKind.{quoted_cut, quoted_kind, bracketed_kind, first_alone, fronts_apart}

-- ---- long strings

long_some : (text : List ℕ) (n : ℕ) → IsLongSpelling (take n text) → 0 < n
long_some text zero long = absurd (let e : [] ≡ _ = long.2.0 in cc)
long_some text (suc n) long = omega arith

pub first_long : (text : List ℕ) (n : ℕ) → group_of text ≡ Bracketed → n ≤ length text → IsLongSpelling (take n text) → IsFirst text (Token Long) n
first_long text n e within long =
    first_alone text Bracketed (Token Long) n e refl bracketed_kind (λ f. absurd cc) (λ f. absurd cc) (long_some text n long) within long (λ m more fits other. fronts_apart text n m more fits (inr long) (inr other))

-- ---- strings in quotes

short_some : (text : List ℕ) (n : ℕ) → IsShortString (take n text) → 0 < n
short_some text zero short = absurd (let e : [] ≡ _ = short.1.4 in cc)
short_some text (suc n) short = omega arith

short_is_spelled : (text : List ℕ) → IsShortString text → IsStringSpelling text
short_is_spelled text s = valued_is_spelled text s.0 (inl s.1)

pub first_short : (text : List ℕ) (n : ℕ) → group_of text ≡ Quoted → n ≤ length text → IsShortString (take n text) → IsFirst text (Token Short) n
first_short text n e within short =
    first_alone text Quoted (Token Short) n e refl quoted_kind (λ f. absurd cc) (λ f. absurd cc) (short_some text n short) within short
    (λ m more fits other. fronts_apart text n m more fits (short_is_spelled _ short) (short_is_spelled _ other))

-- where one begins a quote stands
pub starts_quoted : (text : List ℕ) → group_of text ≡ Quoted → (0 < length text) × (is_quote (get_or text 0 0) ≡ true)
starts_quoted text e =
    let cut = quoted_cut text e in
    (omega (arith, ap length cut.2), ap (λ t. is_quote (get_or t 0 0)) cut.2 ∙ cut.1)
