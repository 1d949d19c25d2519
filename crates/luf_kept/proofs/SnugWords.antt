-- Words that follow each other without a gap stand apart: no token goes on over a `(`, a `)` or a `,`, and a `(` goes on over nothing.
use Rattle.std.proofs.Common.{◌≡◌, ℕ, false, List, [], ◌∷◌, codes, refl}
use Rattle.luf_byte.specs.Front.{begins}
use Rattle.luf_lex.specs.declared.token.Tok.{Tok}
use Rattle.luf_lex.specs.declared.token.Tok.TheVariants.{Name}
use Rattle.luf_lex.specs.declared.token.Tok.TheVariants as tok
use Rattle.luf_lex.specs.declared.token.Sign.{Sign}
use Rattle.luf_lex.specs.declared.token.Sign.TheVariants.{Plus, Comma, LeftParen, RightParen}
use Rattle.luf_doc.specs.declared.doc.Chance.TheVariants.{Soft}
use Rattle.luf_guard.specs.Space.{IsTokenSpelling, StandApart}
use Rattle.luf_guard.specs.inner.Joins.{goes_on, sign_goes_on}
use Rattle.luf_guard.proofs.Needed.{stops_apart}
use Rattle.luf_kept.specs.inner.Steps.{Place, behind, Word, Gap}
use Rattle.luf_kept.specs.inner.Steps as step

-- the bytes of `,`, `(` and `)`
sign_stops : (s : Sign) → (sign_goes_on s 44 ≡ false) × (sign_goes_on s 40 ≡ false) × (sign_goes_on s 41 ≡ false)
sign_stops Plus = (refl, refl, refl)
sign_stops _ = (refl, refl, refl)

token_stops : (t : Tok) → (goes_on t 44 ≡ false) × (goes_on t 40 ≡ false) × (goes_on t 41 ≡ false)
token_stops (tok.Sign s) = sign_stops s
token_stops Name = (refl, refl, refl)
token_stops _ = (refl, refl, refl)

pub apart_sign : (a : List ℕ) → IsTokenSpelling a → StandApart a (codes ",") × StandApart a (codes "(") × StandApart a (codes ")")
apart_sign a (t, h) = (
  stops_apart t (tok.Sign Comma) a (codes ",") h refl (token_stops t).0,
  stops_apart t (tok.Sign LeftParen) a (codes "(") h refl (token_stops t).1,
  stops_apart t (tok.Sign RightParen) a (codes ")") h refl (token_stops t).2,
)

open_stops : (b : List ℕ) → begins (goes_on (tok.Sign LeftParen)) b ≡ false
open_stops [] = refl
open_stops (c ∷ b) = refl

pub open_apart : (b : List ℕ) → IsTokenSpelling b → StandApart (codes "(") b
open_apart b (u, g) = stops_apart (tok.Sign LeftParen) u (codes "(") b refl g (open_stops b)

-- ---- words with no gap between, and with one that may be nothing

pub word_apart : {before bytes : List ℕ} → Word (behind before) bytes → IsTokenSpelling before → StandApart before bytes
word_apart (step.comma before) is = (apart_sign before is).0
word_apart (step.opens before) is = (apart_sign before is).1
word_apart (step.ends before) is = (apart_sign before is).2

pub soft_apart : {before bytes : List ℕ} {to : Place} → Gap (behind before) Soft to → Word to bytes → IsTokenSpelling before → IsTokenSpelling bytes → StandApart before bytes
soft_apart (step.apart before chance stays) word is is_next = absurd (stays refl)
soft_apart step.opened word is is_next = open_apart _ is_next
soft_apart (step.soft before) step.closes is is_next = (apart_sign before is).2
