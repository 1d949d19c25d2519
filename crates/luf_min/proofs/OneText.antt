-- With one tree a source has one minified text, and each source has one.
use Rattle.std.proofs.Common.{◌≡◌, ℕ, Bool, true, false, List, [], ◌∷◌, ◌++◌, codes, map, refl, sym, ap, subst, ◌∙◌}
use Rattle.luf_lex.specs.Spelling.{Spells}
use Rattle.luf_lex.specs.Tokens.{toks_of}
use Rattle.luf_lex.specs.declared.token.Kind.TheVariants.{Token}
use Rattle.luf_lex.specs.declared.token.Piece.{Piece}
use Rattle.luf_lex.specs.declared.token.Tok.{Tok}
use Rattle.luf_lex.proofs.OneCut.{one_cut}
use Rattle.luf_tree.specs.declared.tree.Chunk.{Chunk}
use Rattle.luf_bare.specs.ReadBack.{token_of}
use Rattle.luf_guard.specs.inner.Joins.{is_needed}
use Rattle.luf_guard.proofs.Needed.{needed_exact, needed_apart}
use Rattle.luf_scope.specs.Links.{spelling_in, occurrences_of}
use Rattle.luf_scope.specs.Local.{Spelling}
use Rattle.luf_interf.specs.NewNames.{Naming, AreLeast}
use Rattle.luf_interf.proofs.Exist.{least_names_exist}
use Rattle.luf_interf.proofs.NewWords.{renamed_agree}
use Rattle.luf_interf.proofs.OneNaming.{one_naming}
use Rattle.luf_min.specs.Minified.{minified_words, spellings, renamed_in, IsMinifiedSo}
use Rattle.luf_min.specs.MinifiedLaws.{MinifiedExists, OneMinified}
use Rattle.luf_min.specs.Text.{IsJoined, nothing, alone, apart, spaced, hash_text}
use Rattle.luf_min.proofs.Same.{words_spelled}
use Rattle.luf_min.proofs.TokensCut.{Spelled}

-- ---- spellings joined with the fewest spaces

pub one_joined : {spellings : List (List ℕ)} {text other : List ℕ} → IsJoined spellings text → IsJoined spellings other → text ≡ other
one_joined nothing nothing = refl
one_joined alone alone = refl
one_joined (apart {a} s j) (apart s' k) = ap (λ t. a ++ t) (one_joined j k)
one_joined (apart s j) (spaced n k) = absurd (n s)
one_joined (spaced n j) (apart s k) = absurd (n s)
one_joined (spaced {a} n j) (spaced n' k) = ap (λ t. a ++ (codes " " ++ t)) (one_joined j k)

joined_next : (t u : Tok) (a b text : List ℕ) (rest : List (List ℕ)) → Spells (Token t) a → Spells (Token u) b → IsJoined (b ∷ rest) text → (v : Bool) → v ≡ is_needed a b → (joined : List ℕ) × IsJoined (a ∷ b ∷ rest) joined
joined_next t u a b text rest h g j true is = (a ++ (codes " " ++ text), spaced ((needed_exact a b true (t, h) (u, g) is).0 refl) j)
joined_next t u a b text rest h g j false is = (a ++ text, apart (needed_apart a b false (t, h) (u, g) is refl) j)

pub joined_exists : (toks : List Tok) (spellings : List (List ℕ)) → Spelled toks spellings → (text : List ℕ) × IsJoined spellings text
joined_exists [] [] h = ([], nothing)
joined_exists [] (a ∷ spellings) h = absurd h
joined_exists (t ∷ toks) [] h = absurd h
joined_exists (t ∷ []) (a ∷ []) h = (a, alone)
joined_exists (t ∷ []) (a ∷ b ∷ rest) h = absurd h.1
joined_exists (t ∷ u ∷ toks) (a ∷ []) h = absurd h.1
joined_exists (t ∷ u ∷ toks) (a ∷ b ∷ rest) h = let later = joined_exists (u ∷ toks) (b ∷ rest) h.1 in joined_next t u a b later.0 rest h.0 h.1.0 later.1 (is_needed a b) refl

pub minified_exists : MinifiedExists
minified_exists source pieces chunk is none =
    let names = least_names_exist (spelling_in source pieces) (occurrences_of chunk) in
    let words = minified_words (renamed_in source pieces chunk names.0 names.1) (toks_of pieces) chunk in
    let joined = joined_exists (map token_of words) (spellings words) (words_spelled source pieces chunk is names.0 names.1 names.2) in (
      hash_text source pieces ++ joined.0,
      record { pieces = pieces; chunk = chunk; is = is; naming = names.0; label_naming = names.1; least = names.2; minified = record { tokens = joined.0; joined = joined.1; is = refl } },
    )

-- ---- one text

-- a text by these pieces and this tree
record By (source : List ℕ) (pieces : List Piece) (chunk : Chunk) (text : List ℕ) : Type 0 where
  naming : Naming
  label_naming : Naming
  least : AreLeast (spelling_in source pieces) (occurrences_of chunk) naming label_naming
  minified : IsMinifiedSo source pieces chunk (renamed_in source pieces chunk naming label_naming) text

-- where tokens are spelled alike the texts are one
pub one_so : (source : List ℕ) (pieces : List Piece) (chunk : Chunk) (told other : Spelling) (text other_text : List ℕ) → ((token : ℕ) → told token ≡ other token) → IsMinifiedSo source pieces chunk told text → IsMinifiedSo source pieces chunk other other_text → text ≡ other_text
one_so source pieces chunk told other text other_text same a b =
    let spelled : spellings (minified_words told (toks_of pieces) chunk) ≡ spellings (minified_words other (toks_of pieces) chunk) = λ i. spellings (minified_words (λ token. same token i) (toks_of pieces) chunk) in
    a.is ∙ ap (λ t. hash_text source pieces ++ t) (one_joined (subst (λ ss. IsJoined ss a.tokens) spelled a.joined) b.joined) ∙ sym b.is

one_by : (source : List ℕ) (pieces : List Piece) (chunk : Chunk) (text other_text : List ℕ) → By source pieces chunk text → By source pieces chunk other_text → text ≡ other_text
one_by source pieces chunk text other_text a b =
    one_so source pieces chunk (renamed_in source pieces chunk a.naming a.label_naming) (renamed_in source pieces chunk b.naming b.label_naming) text other_text
    (renamed_agree (spelling_in source pieces) (occurrences_of chunk) a.naming a.label_naming b.naming b.label_naming
    (one_naming (spelling_in source pieces) (occurrences_of chunk) a.naming a.label_naming b.naming b.label_naming a.least b.least)) a.minified b.minified

pub one_minified : OneMinified
one_minified source text other_text a b same =
    let pieces : a.pieces ≡ b.pieces = one_cut source a.pieces b.pieces a.is.cut b.is.cut in
    let first : By source a.pieces a.chunk text = record { naming = a.naming; label_naming = a.label_naming; least = a.least; minified = a.minified } in
    one_by source b.pieces b.chunk text other_text (subst (λ (c : Chunk). By source b.pieces c text) same (subst (λ (ps : List Piece). By source ps a.chunk text) pieces first))
    (record { naming = b.naming; label_naming = b.label_naming; least = b.least; minified = b.minified })
