use Rattle.std.proofs.Common.{◌≡◌, ℕ, inl, inr, List, Some, refl, sym, subst}
use Rattle.std.specs.Prelude.{slice_get}
use Rattle.luf_str.proofs.Apart.{short_is_spelled}
use Rattle.luf_lex.specs.Cut.{IsCut}
use Rattle.luf_lex.specs.Spelling.{Spells}
use Rattle.luf_lex.specs.Tokens.{toks_of, spellings_of}
use Rattle.luf_lex.specs.declared.token.Kind.TheVariants.{Token}
use Rattle.luf_lex.specs.declared.token.Piece.{Piece}
use Rattle.luf_lex.specs.declared.token.Tok.{Tok}
use Rattle.luf_lex.specs.declared.token.Tok.TheVariants.{Short, Long}
use Rattle.luf_lex.proofs.PieceSpellings.{spelled_at}
use Rattle.luf_rows.proofs.strings.string_in.Goals as goal

-- the first token is spelled as its kind is
first_spelled : (source : List ℕ) (pieces : List Piece) → IsCut source pieces → (t : Tok) (a : List ℕ) → Some t ≡ slice_get (toks_of pieces) 0 → Some a ≡ slice_get (spellings_of source pieces) 0 → Spells (Token t) a
first_spelled source pieces cut t a tok found =
    let at = spelled_at source pieces cut 0 a (sym found) in
    let same : at.0 ≡ t = cc (at.1, tok) in
    subst (λ (u : Tok). Spells (Token u) a) same at.2

pub returns-then-is_at : goal.returns-then-is_at
returns-then-is_at g c =
    let short = first_spelled c.args.src.now c.args.cut.now c.requires Short c.in-Some.spelling.now (sym (c.if-is_at.ensures.0 refl)) c.in-Some.ensures in
    inl (short_is_spelled c.in-Some.spelling.now short.0 short.1)

pub returns-then-is_at-2 : goal.returns-then-is_at-2
returns-then-is_at-2 g c = inr (first_spelled c.args.src.now c.args.cut.now c.requires Long c.in-Some.spelling.now (sym (c.if-is_at-2.ensures.0 refl)) c.in-Some.ensures)
