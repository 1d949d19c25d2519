-- The text of words, word by word.
use Rattle.std.proofs.Common.{◌≡◌, ℕ, ◌+◌, ◌<◌, ◌≤◌, Bool, true, false, ◌↔◌, Option, List, [], ◌∷◌, ◌++◌, Some, None, codes, length, length-append, take, drop, map, get_or, append-nil, append_assoc, IfSome, refl, sym, ap, ◌∙◌, subst, arith}
use Rattle.std.specs.Prelude.{slice_get, IsTrue}
use Rattle.std.proofs.lemmas.List.{take_more, take-take, length-map}
use Rattle.std.proofs.Math.ListN.{get_or-map}
use Rattle.std.proofs.Math.Seq.{take-append_seam}
use Rattle.std.proofs.lemmas.Option.{slice_get-get_or}
use Rattle.luf_lex.specs.Tokens.{toks_of, spellings_of}
use Rattle.luf_lex.specs.declared.token.Piece.{Piece}
use Rattle.luf_guard.specs.Space.{IsTokenSpelling, StandApart, NeedSpace}
use Rattle.luf_min.specs.inner.Next.{IsNext, first, next_apart, next_spaced, IsWritten, last_word, spaced as with_space}
use Rattle.luf_min.proofs.TextAgain.{length_spellings}
use Rattle.luf_min.specs.Text.{IsJoined, nothing, alone, apart, spaced}

-- the last of the words, if there is one
abbrev pub last_of : List (List ℕ) → Option (List ℕ)
last_of [] = None
last_of (a ∷ []) = Some a
last_of (a ∷ b ∷ rest) = last_of (b ∷ rest)

pub last_push : (words : List (List ℕ)) (b : List ℕ) → last_of (words ++ b ∷ []) ≡ Some b
last_push [] b = refl
last_push (a ∷ []) b = refl
last_push (a ∷ c ∷ rest) b = last_push (c ∷ rest) b

-- one more word
alone_push : {a b more : List ℕ} → IsNext (Some a) b more → IsJoined (a ∷ b ∷ []) (a ++ more)
alone_push (next_apart s) = apart s alone
alone_push (next_spaced n) = spaced n alone

pub joined_push : {words : List (List ℕ)} {text : List ℕ} (b more : List ℕ) → IsJoined words text → IsNext (last_of words) b more → IsJoined (words ++ b ∷ []) (text ++ more)
joined_push b more nothing first = alone
joined_push b more alone next = alone_push next
joined_push b more (apart {a} {b = c} {text} {rest} s j) next =
    subst (IsJoined (a ∷ c ∷ (rest ++ b ∷ []))) (sym (append_assoc a text more)) (apart s (joined_push b more j next))
joined_push b more (spaced {a} {b = c} {text} {rest} n j) next =
    subst (IsJoined (a ∷ c ∷ (rest ++ b ∷ []))) (sym (append_assoc a (codes " " ++ text) more)) (spaced n (joined_push b more j next))

-- The first n words were written behind what was there, and the last of them is a token's spelling and begins there.
pub record Written (words : List (List ℕ)) (n : ℕ) (old now : List ℕ) (last : Option ℕ) : Type 0 where
  pub text : List ℕ
  pub joined : IsJoined (take n words) text
  pub written : now ≡ old ++ text
  pub at_hand : last_word last now ≡ last_of (take n words)
  pub spelled : IfSome last (λ from. (from ≤ length now) × IsTokenSpelling (drop from now))

pub written_none : (words : List (List ℕ)) (old : List ℕ) → Written words 0 old old None
written_none words old = record { text = []; joined = nothing; written = sym (append-nil old); at_hand = refl; spelled = tt }

-- with one more
pub written_more : (words : List (List ℕ)) (n : ℕ) (old mid new word : List ℕ) (last : Option ℕ) (from : ℕ) → Written words n old mid last → take (n + 1) words ≡ take n words ++ word ∷ [] → IsWritten (last_word last mid) word mid new from
    → Written words (n + 1) old new (Some from)
written_more words n old mid new word last from w one added = record {
  text = w.text ++ added.more;
  joined = subst (λ ts. IsJoined ts (w.text ++ added.more)) (sym one) (joined_push word added.more w.joined (subst (λ o. IsNext o word added.more) w.at_hand added.next));
  written = added.written ∙ ap (λ t. t ++ added.more) w.written ∙ append_assoc old w.text added.more;
  at_hand = ap Some added.last ∙ sym (ap last_of one ∙ last_push (take n words) word);
  spelled = (added.inside, subst IsTokenSpelling (sym added.last) added.token);
}

-- the words up to one, with it
pub words_more : {X : Type 0} (says : X → List ℕ) (items : List X) (n : ℕ) (d : X) → n < length items → take (n + 1) (map says items) ≡ take n (map says items) ++ says (get_or items n d) ∷ []
words_more says items n d inside =
    take_more (map says items) n (says d) (omega (arith, inside, length-map items says))
    ∙ ap (λ w. take n (map says items) ++ w ∷ []) (get_or-map says items n d)

-- the same, where the item is at hand
pub words_next : {X : Type 0} (says : X → List ℕ) (items : List X) (n : ℕ) (item : X) → n < length items → item ≡ get_or items n item → take (n + 1) (map says items) ≡ take n (map says items) ++ says item ∷ []
words_next says items n item inside is = words_more says items n item inside ∙ ap (λ x. take n (map says items) ++ says x ∷ []) (sym is)

-- a word behind a space or not is what comes next
pub spaced_next : (text : List ℕ) (from : ℕ) (a b : List ℕ) (result : Bool) → a ≡ drop from text → IsTrue result ↔ NeedSpace a b → (result ≡ false → StandApart a b) → IsNext (Some (drop from text)) b (with_space result b)
spaced_next text from a b true same exact stands = subst (λ x. IsNext (Some x) b (codes " " ++ b)) same (next_spaced (exact.0 refl))
spaced_next text from a b false same exact stands = subst (λ x. IsNext (Some x) b b) same (next_apart (stands refl))

-- what begins with a longer front begins with a shorter one
pub front_kept : (old more mid new : List ℕ) → mid ≡ old ++ more → take (length mid) new ≡ mid → take (length old) new ≡ old
front_kept old more mid new is kept =
    sym (take-take (length old) (length mid) new (omega (arith, length-append old more, ap length is))) ∙ ap (take (length old)) (kept ∙ is) ∙ take-append_seam old more

-- a token that is counted is there
pub counted : (source : List ℕ) (pieces : List Piece) (n : ℕ) → n < length (toks_of pieces) → None ≡ slice_get (spellings_of source pieces) n → ⊥
counted source pieces n inside none =
    let there = slice_get-get_or (spellings_of source pieces) n [] (omega (arith, length_spellings source pieces, inside)) in
    cc (there, none)
