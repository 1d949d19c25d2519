-- A statement behind others: its words do not begin with `(`, or a `;` stands before it.
use Rattle.std.proofs.Common.{◌≡◌, ℕ, ◌+◌, suc, ◌⊎◌, inl, inr, Bool, true, false, cond, Option, Some, None, List, [], ◌∷◌, ◌++◌, codes, length, refl, sym, ap, subst, ◌∙◌, arith}
use Rattle.std.proofs.lemmas.Bool.{true≢false}
use Rattle.std.proofs.lemmas.List.{length-append}
use Rattle.luf_lex.specs.declared.token.Tok.TheVariants as tok
use Rattle.luf_lex.specs.declared.token.Sign.TheVariants as sign_is
use Rattle.luf_tree.specs.Syntax as syntax
use Rattle.luf_bare.specs.Bare.{Bare}
use Rattle.luf_bare.specs.Significant.{IsFixed}
use Rattle.luf_bare.specs.Writing.{opens as token_opens}
use Rattle.luf_bare.specs.ReadBack.{TextWord, token_of, is_added}
use Rattle.luf_bare.specs.Texts as w
use Rattle.luf_bare.specs.Texts.{NoParenFirst, WritesStats}
use Rattle.luf_bare.proofs.EachWritten.{Each, all_more}
use Rattle.luf_min.specs.Minified.{fixed_spelling, spellings}
use Rattle.luf_draft.specs.Draft.{Draft, Drafts, word, opening, trail, nest, group, sequence, nothing, also, drafts}
use Rattle.luf_draft.specs.Form.{first_word, first_word_of, opens}
use Rattle.luf_kept.specs.inner.Takes.{Takes, TakeAll}
use Rattle.luf_kept.specs.inner.DraftText.{IsSpelled}
use Rattle.luf_kept.proofs.TextParts.{extra, fixed_so, Stood, Before, Stands, Reads, part_before, part, extra_sign, follow}

-- the first of some words
abbrev first_of : List (List ℕ) → Option (List ℕ)
first_of [] = None
first_of (bytes ∷ words) = Some bytes

abbrev Shut : List (List ℕ) → Type 0
Shut words = opens (first_of words) ≡ false

-- no word was taken, or the first one is no `(`
abbrev TakesShut : List (List ℕ) → List (List ℕ) → Option (List ℕ) → Type 0
TakesShut words rest other = ((words ≡ rest) × (opens other ≡ false)) ⊎ Shut words

shut_word : {bytes : List ℕ} {words rest : List (List ℕ)} → words ≡ bytes ∷ rest → opens (Some bytes) ≡ false → Shut words
shut_word same is = ap (λ l. opens (first_of l)) same ∙ is

shut_trail : {words rest : List (List ℕ)} (other : Option (List ℕ)) → (words ≡ rest) ⊎ (words ≡ codes "," ∷ rest) → opens other ≡ false → TakesShut words rest other
shut_trail other (inl same) is = inl (same, is)
shut_trail other (inr same) is = inr (shut_word same refl)

shut_then : (words mid rest : List (List ℕ)) (next other : Option (List ℕ)) → TakesShut words mid next → (opens next ≡ false → TakesShut mid rest other) → TakesShut words rest other
shut_then words mid rest next other (inl taken) later = subst (λ z. TakesShut z rest other) (sym taken.0) (later taken.1)
shut_then words mid rest next other (inr shut) later = inr shut

mutual
  takes_shut : (d : Draft) (words rest : List (List ℕ)) (other : Option (List ℕ)) → Takes d words rest → opens (first_word d other) ≡ false → TakesShut words rest other
  takes_shut (word bytes) words rest other takes is = inr (shut_word takes is)
  takes_shut (opening gap) words rest other takes is = inl (takes, is)
  takes_shut trail words rest other takes is = shut_trail other takes is
  takes_shut (nest inner) words rest other takes is = takes_shut inner words rest other takes is
  takes_shut (group inner) words rest other takes is = takes_shut inner words rest other takes is
  takes_shut (sequence items) words rest other takes is = take_all_shut items words rest other takes is

  take_all_shut : (ds : Drafts) (words rest : List (List ℕ)) (other : Option (List ℕ)) → TakeAll ds words rest → opens (first_word_of ds other) ≡ false → TakesShut words rest other
  take_all_shut nothing words rest other takes is = inl (takes, is)
  take_all_shut (also first items) words rest other takes is =
      shut_then words takes.0 rest (first_word_of items other) other (takes_shut first words takes.0 (first_word_of items other) takes.1 is) (λ later. take_all_shut items takes.0 rest other takes.2 later)

abbrev added_semicolon : TextWord
added_semicolon = extra (tok.Sign sign_is.Semicolon)

-- ---- the text of a statement and of those behind it

never : {A : Type 0} → true ≡ false → A
never e = absurd (true≢false e)

opens_itself : (w : TextWord) → IsSpelled w → token_of w ≡ tok.Sign sign_is.LeftParen → w.spelled.spelling ≡ codes "("
opens_itself w is paren = fixed_so (token_of w) w.spelled.spelling is (subst IsFixed (sym paren) tt) ∙ ap fixed_spelling paren

no_paren : (text later : List TextWord) (words mid : List (List ℕ)) → Each IsSpelled text → words ≡ spellings text ++ mid → TakesShut words mid None → NoParenFirst token_of is_added later → NoParenFirst token_of is_added (text ++ later)
no_paren [] later words mid each same taken shut = shut
no_paren (x ∷ text) later words mid (all_more is each) same (inl taken) shut =
    let longer : length words ≡ suc (length (spellings text ++ mid)) = ap length same in
    let counted : length (spellings text ++ mid) ≡ length (spellings text) + length mid = length-append (spellings text) mid in
    let equal : length words ≡ length mid = ap length taken.0 in
    absurd (omega (arith, longer, counted, equal))
no_paren (x ∷ text) later words mid (all_more is each) same (inr shut_words) shut =
    λ paren. never (sym (ap (λ l. opens (Some l)) (opens_itself x is paren)) ∙ sym (ap (λ l. opens (first_of l)) same) ∙ shut_words)

-- the texts of statements behind others
pub record Later (stats : syntax.Statements (Bare TextWord)) (text : List TextWord) : Type 0 where
  pub wrote : WritesStats token_of is_added stats text
  pub shut : NoParenFirst token_of is_added text

-- those that go on behind a text
pub record GoesOn (stats : syntax.Statements (Bare TextWord)) (text later : List TextWord) : Type 0 where
  pub wrote : WritesStats token_of is_added stats (text ++ later)
  pub shut : NoParenFirst token_of is_added later

semicolon_shut : token_of (added_semicolon) ≡ tok.Sign sign_is.LeftParen → ⊥
semicolon_shut paren = never (sym (ap token_opens paren))

guarded_later : {stats : syntax.Statements (Bare TextWord)} (text later : List TextWord) → GoesOn stats text later → Later stats (added_semicolon ∷ (text ++ later))
guarded_later text later goes = record { wrote = w.empty_stat (refl, refl) goes.wrote; shut = semicolon_shut }

open_later : {from mid_way to : Bool} {Part : List TextWord → Type 0} {stats : syntax.Statements (Bare TextWord)} {d : Draft} {ds more : Drafts} {words mid rest : List (List ℕ)} {taken : Takes d words mid} {takes : TakeAll ds mid rest}
    → TakesShut words mid None → (one : Stood from mid_way Part d words mid taken) → Before mid_way to (GoesOn stats one.told.text) ds more mid rest takes
    → Before from to (Later stats) (also d ds) more words rest (mid, taken, takes)
open_later {words} {mid} shut one later = part_before one later (record {
  wrote = later.told.wrote.wrote;
  shut = no_paren one.told.text later.told.text words mid one.told.spelled.each one.told.spelled.same shut later.told.wrote.shut;
})

-- a statement behind others, and those behind it
pub tell_guarded : {to : Bool} {Part : List TextWord → Type 0} {stats : syntax.Statements (Bare TextWord)} {more : Drafts} (d : Draft) (ds : List Draft) (guard : Bool) → opens (first_word d None) ≡ guard
    → Stands true false Part d → ((t : List TextWord) → Part t → Reads false to (GoesOn stats t) (drafts ds) more) → Reads true to (Later stats) (drafts (cond guard (word (codes ";") ∷ d ∷ ds) (d ∷ ds))) more
tell_guarded d ds true is stands next = extra_sign sign_is.Semicolon (part stands (λ t told. follow (next t told) (λ u goes. guarded_later t u goes)))
tell_guarded d ds false is stands next = record {
  at = λ words rest takes. let one = stands.at words takes.0 takes.1 in
      open_later (takes_shut d words takes.0 None takes.1 is) one ((next one.told.text one.told.wrote).at takes.0 rest takes.2);
}
