-- Strings before any text: their own last bytes end them.
use Rattle.std.proofs.Common.{◌≡◌, ℕ, ◌<◌, true, List, [], ◌∷◌, ◌++◌, length, length-append, take, refl, sym, ap, ◌∙◌, subst, arith, inl}
use Rattle.std.proofs.Math.Seq.{take-append_seam}
use Rattle.std.proofs.lemmas.Bool.{false≢true, and_parts, eqb-true}
use Rattle.luf_str.specs.Bytes.{is_quote}
use Rattle.luf_str.specs.Spelling.{IsLongSpelling}
use Rattle.luf_str.specs.Value.{spelling_of}
use Rattle.luf_str.proofs.LongLaws.{long_length}
use Rattle.luf_str.proofs.Apart.{short_is_spelled}
use Rattle.luf_byte.specs.Front.{begins}
use Rattle.luf_lex.specs.Spelling.{IsShortString}
use Rattle.luf_str.specs.LongEnd.{opens_long}
use Rattle.luf_lex.specs.First.{IsFirst, group_of}
use Rattle.luf_lex.specs.declared.group.Group.TheVariants.{Quoted, Bracketed}
use Rattle.luf_lex.specs.declared.token.Tok.TheVariants.{Short, Long}
use Rattle.luf_lex.specs.declared.token.Kind.TheVariants.{Token}
use Rattle.luf_str.proofs.BracketLaws.{long_opens, opens_more}
use Rattle.luf_lex.proofs.LoneKind.{quoted_kind, first_alone, fronts_apart}
use Rattle.luf_lex.proofs.StringLemmas.{first_long}

pub bracketed_group : (text : List ℕ) → opens_long text ≡ true → group_of text ≡ Bracketed
bracketed_group [] h = absurd (false≢true h)
bracketed_group (b ∷ text) h =
    let plain = ap is_quote (eqb-true b 91 (and_parts _ _ h).0) in
    rw (plain, h) refl

quoted_group : (a x : List ℕ) → IsShortString a → group_of (a ++ x) ≡ Quoted
quoted_group a x (value, (q, parts, quote, are, spelled, is)) = ap (λ t. group_of (t ++ x)) spelled ∙ rw quote refl

pub short_some : (a : List ℕ) → IsShortString a → 1 < length a
short_some a (value, (q, parts, quote, are, spelled, is)) = omega (arith, ap length spelled, length-append (spelling_of parts) (q ∷ []))

pub short_quote : (a : List ℕ) → IsShortString a → begins is_quote a ≡ true
short_quote a (value, (q, parts, quote, are, spelled, is)) = ap (begins is_quote) spelled ∙ quote

pub short_before : (a x : List ℕ) → IsShortString a → IsFirst (a ++ x) (Token Short) (length a)
short_before a x h =
    let front : IsShortString (take (length a) (a ++ x)) = subst IsShortString (sym (take-append_seam a x)) h in
    first_alone (a ++ x) Quoted (Token Short) (length a) (quoted_group a x h) refl quoted_kind (λ f. absurd cc) (λ f. absurd cc) (omega (arith, short_some a h)) (omega (arith, length-append a x)) front
    (λ m more fits other. fronts_apart (a ++ x) (length a) m more fits (inl (short_is_spelled _ front.0 front.1)) (inl (short_is_spelled _ other.0 other.1)))

pub long_some : (a : List ℕ) → IsLongSpelling a → 3 < length a
long_some a (n, body, long) = omega (arith, long_length n body a long)

pub long_before : (a x : List ℕ) → IsLongSpelling a → IsFirst (a ++ x) (Token Long) (length a)
long_before a x h =
    first_long (a ++ x) (length a) (bracketed_group (a ++ x) (opens_more a x (long_opens a h))) (omega (arith, length-append a x)) (subst IsLongSpelling (sym (take-append_seam a x)) h)
