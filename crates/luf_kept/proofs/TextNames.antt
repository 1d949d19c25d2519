-- Names, parameters, declarations and paths: the words of their forms are texts of them.
use Rattle.std.proofs.Common.{sym, subst, ◌≡◌, ℕ, Bool, true, false, Option, Some, List, [], ◌∷◌, ◌++◌, codes, slice_get, map, refl}
use Rattle.std.specs.Option.{option_map}
use Rattle.luf_lex.specs.declared.token.Tok.{Tok}
use Rattle.luf_lex.specs.declared.token.Tok.TheVariants as tok
use Rattle.luf_lex.specs.declared.token.Sign.TheVariants as sign_is
use Rattle.luf_tree.specs.declared.tree.Declared.{Declared}
use Rattle.luf_tree.specs.Grammar as g
use Rattle.luf_tree.specs.Grammar.{IsToken, AreNames, AreParams, IsAttribute, AreDeclared, IsPath, IsMethod}
use Rattle.luf_tree.specs.Syntax as syntax
use Rattle.luf_tree.specs.SyntaxOf.{declared_of, first_of_path, rest_of_path}
use Rattle.luf_bare.specs.Bare.{words_of, as_here, bare_declared, chosen_declared}
use Rattle.luf_lex.specs.Spelling.{Spells}
use Rattle.luf_lex.specs.declared.token.Kind.TheVariants.{Token}
use Rattle.luf_bare.specs.ReadBack.{TextWord, token_of, is_added, own_word}
use Rattle.luf_bare.specs.Texts as w
use Rattle.luf_bare.specs.Texts.{WritesNames, WritesParams, WritesAttribute, WritesDeclared, WritesPath, WritesMethod}
use Rattle.luf_draft.specs.Draft.{Draft, Drafts, word, nothing, also, drafts, tight, space, line}
use Rattle.luf_draft.specs.Form.{Words, more_words, words, more_parameters, parameters, with_dots, attribute, path_fields, path, method, more_declared, declared}
use Rattle.luf_kept.specs.inner.DraftText.{IsSpelled}
use Rattle.luf_kept.proofs.TextParts.{own, Reads, done, own_next, sign, gap, part, lead, follow, whole, nested, opened}

-- how the tokens of a source are written, each as its kind is spelled
pub record Source (toks : List Tok) : Type 0 where
  pub bytes : ℕ → List ℕ
  pub token : ℕ → Tok
  pub kinds : (i : ℕ) (t : Tok) → slice_get toks i ≡ Some t → token i ≡ t
  pub spelled : (i : ℕ) (t : Tok) → slice_get toks i ≡ Some t → Spells (Token t) (bytes i)

-- a form that is put before the drafts that follow it: its words are a text of this kind
abbrev pub Leads : Bool → Bool → (List TextWord → Type 0) → (List Draft → List Draft) → Type 0
Leads from to Kind form = (more : List Draft) → Reads from to Kind (drafts (form more)) (drafts more)

module _ (toks : List Tok) (source : Source toks) where
  abbrev pub says : ℕ → TextWord
  says i = own_word (record { token = source.token i; spelling = source.bytes i })

  pub says_keeps : {i j : ℕ} {t : Tok} → IsToken toks i t j → (token_of (says i) ≡ t) × (is_added (says i) ≡ false)
  says_keeps {i} {t} token = (source.kinds i t token.there, refl)

  pub says_spelled : {i j : ℕ} {t : Tok} → IsToken toks i t j → IsSpelled (says i)
  says_spelled {i} {t} token = subst (λ (u : Tok). Spells (Token u) (source.bytes i)) (sym (source.kinds i t token.there)) (source.spelled i t token.there)

  -- a token of the source
  pub leaf : {to : Bool} {Kind : List TextWord → Type 0} {ds more : Drafts} {i j : ℕ} {t : Tok} → IsToken toks i t j → Reads false to (λ t. Kind (says i ∷ t)) ds more → Reads true to Kind (also (word (source.bytes i)) ds) more
  leaf {i} token next = own_next (says i) (says_spelled token) refl next

  -- ---- names

  more_comma : {from to : Bool} {Kind : List TextWord → Type 0} {after : Drafts} {i k : ℕ} {names : List ℕ} → AreNames toks i k names → (more : List Draft)
      → Reads from to Kind (drafts (tight ∷ word (codes ",") ∷ space ∷ words (map source.bytes names) more)) after → Reads from to Kind (drafts (more_words (map source.bytes names) more)) after
  more_comma (g.one_name _) more reads = reads
  more_comma (g.more_names _ _ _) more reads = reads

  pub tell_names : {i k : ℕ} {names : List ℕ} → AreNames toks i k names → Leads true false (WritesNames token_of is_added (map says names)) (words (map source.bytes names))
  tell_names (g.one_name {i} t) = λ more. leaf t (done (w.one_name (says_keeps t)))
  tell_names (g.more_names {i} t _ d) = λ more. leaf t (more_comma d more (gap (sign sign_is.Comma (gap (follow (tell_names d more) (λ u told. w.more_names (says_keeps t) (refl, refl) told))))))

  -- ---- parameters

  -- the names inside the parentheses
  abbrev inside : List (List ℕ) → List Draft
  inside [] = []
  inside (name ∷ names) = word name ∷ more_parameters names

  more_inside : {from to : Bool} {Kind : List TextWord → Type 0} {i k : ℕ} {names : List ℕ} (vararg : Bool) → AreNames toks i k names
      → Reads from to Kind (drafts (tight ∷ word (codes ",") ∷ line ∷ inside (with_dots vararg (map source.bytes names)))) nothing
      → Reads from to Kind (drafts (more_parameters (with_dots vararg (map source.bytes names)))) nothing
  more_inside true (g.one_name _) reads = reads
  more_inside false (g.one_name _) reads = reads
  more_inside true (g.more_names _ _ _) reads = reads
  more_inside false (g.more_names _ _ _) reads = reads

  tell_listed : {i k : ℕ} {names : List ℕ} → AreNames toks i k names → Reads true false (WritesNames token_of is_added (map says names)) (drafts (inside (with_dots false (map source.bytes names)))) nothing
  tell_listed (g.one_name {i} t) = leaf t (done (w.one_name (says_keeps t)))
  tell_listed (g.more_names {i} t _ d) = leaf t (more_inside false d (gap (sign sign_is.Comma (gap (follow (tell_listed d) (λ u told. w.more_names (says_keeps t) (refl, refl) told))))))

  data Dotted (names : List TextWord) : List TextWord → Type 0 where
    dotted : {text : List TextWord} → WritesNames token_of is_added names text → Dotted names (text ++ (own (tok.Sign sign_is.Comma) ∷ own (tok.Sign sign_is.Dots) ∷ []))

  dotted_more : {i j : ℕ} (names : List ℕ) → IsToken toks i tok.Name j → (text : List TextWord) → Dotted (map says names) text
      → Dotted (map says (i ∷ names)) (says i ∷ own (tok.Sign sign_is.Comma) ∷ text)
  dotted_more names t text (dotted told) = dotted (w.more_names (says_keeps t) (refl, refl) told)

  dotted_params : {names : List TextWord} (text : List TextWord) → Dotted names text → WritesParams token_of is_added names true text
  dotted_params text (dotted told) = w.names_and_dots told (refl, refl) (refl, refl)

  tell_dotted : {i k : ℕ} {names : List ℕ} → AreNames toks i k names → Reads true false (Dotted (map says names)) (drafts (inside (with_dots true (map source.bytes names)))) nothing
  tell_dotted (g.one_name {i} t) = leaf t (gap (sign sign_is.Comma (gap (sign sign_is.Dots (done (dotted (w.one_name (says_keeps t))))))))
  tell_dotted (g.more_names {i} {names} t _ d) = leaf t (more_inside true d (gap (sign sign_is.Comma (gap (follow (tell_dotted d) (λ u told. dotted_more names t u told))))))

  -- one or more parameters, with what follows them
  some_in_parens : {to : Bool} {Kind Params : List TextWord → Type 0} {after : Drafts} (name : List ℕ) (names : List (List ℕ)) (more : List Draft) → Reads true false Params (drafts (inside (name ∷ names))) nothing
      → ((t : List TextWord) → Params t → Reads false to (λ u. Kind (own (tok.Sign sign_is.LeftParen) ∷ (t ++ (own (tok.Sign sign_is.RightParen) ∷ u)))) (drafts more) after)
      → Reads true to Kind (drafts (parameters (name ∷ names) more)) after
  some_in_parens name names more listed next = opened (sign sign_is.LeftParen (part (nested (whole (gap listed))) (λ t told. gap (sign sign_is.RightParen (next t told)))))

  names_in_parens : {to : Bool} {Kind Params : List TextWord → Type 0} {after : Drafts} {i k : ℕ} {names : List ℕ} (vararg : Bool) (more : List Draft) → AreNames toks i k names
      → Reads true false Params (drafts (inside (with_dots vararg (map source.bytes names)))) nothing
      → ((t : List TextWord) → Params t → Reads false to (λ u. Kind (own (tok.Sign sign_is.LeftParen) ∷ (t ++ (own (tok.Sign sign_is.RightParen) ∷ u)))) (drafts more) after)
      → Reads true to Kind (drafts (parameters (with_dots vararg (map source.bytes names)) more)) after
  names_in_parens true more (g.one_name {i} _) listed next = some_in_parens (source.bytes i) (codes "..." ∷ []) more listed next
  names_in_parens false more (g.one_name {i} _) listed next = some_in_parens (source.bytes i) [] more listed next
  names_in_parens true more (g.more_names {i} {names} _ _ _) listed next = some_in_parens (source.bytes i) (with_dots true (map source.bytes names)) more listed next
  names_in_parens false more (g.more_names {i} {names} _ _ _) listed next = some_in_parens (source.bytes i) (with_dots false (map source.bytes names)) more listed next

  dots_inside : Reads true false (WritesParams token_of is_added [] true) (drafts (inside (codes "..." ∷ []))) nothing
  dots_inside = sign sign_is.Dots (done (w.dots_alone (refl, refl)))

  pub tell_params : {to : Bool} {Kind : List TextWord → Type 0} {after : Drafts} {i k : ℕ} {names : List ℕ} {vararg : Bool} → AreParams toks i k names vararg → (more : List Draft)
      → ((t : List TextWord) → WritesParams token_of is_added (map says names) vararg t → Reads false to (λ u. Kind (own (tok.Sign sign_is.LeftParen) ∷ (t ++ (own (tok.Sign sign_is.RightParen) ∷ u)))) (drafts more) after)
      → Reads true to Kind (drafts (parameters (with_dots vararg (map source.bytes names)) more)) after
  tell_params g.no_params more next = sign sign_is.LeftParen (gap (sign sign_is.RightParen (next [] w.no_params)))
  tell_params (g.dots_alone _) more next = some_in_parens (codes "...") [] more dots_inside next
  tell_params (g.names_alone d) more next = names_in_parens false more d (follow (tell_listed d) (λ t told. w.names_alone told)) next
  tell_params (g.names_and_dots d _ _) more next = names_in_parens true more d (follow (tell_dotted d) dotted_params) next

  -- ---- declarations and paths

  tell_attribute : {i k : ℕ} {a : Option ℕ} → IsAttribute toks i k a → Leads false false (WritesAttribute token_of is_added (option_map says a)) (attribute (option_map source.bytes a))
  tell_attribute g.no_attribute = λ more. done w.no_attribute
  tell_attribute (g.an_attribute {j} _ t _) = λ more. gap (sign sign_is.Less (gap (leaf t (gap (sign sign_is.Greater (done (w.an_attribute (refl, refl) (says_keeps t) (refl, refl))))))))

  abbrev declared_words : List Declared → List (syntax.DeclaredName Words)
  declared_words ds = map (chosen_declared (words_of source.bytes) as_here) (map declared_of ds)

  more_declared_comma : {from to : Bool} {Kind : List TextWord → Type 0} {after : Drafts} {i k : ℕ} {ds : List Declared} → AreDeclared toks i k ds → (more : List Draft)
      → Reads from to Kind (drafts (tight ∷ word (codes ",") ∷ space ∷ declared (declared_words ds) more)) after → Reads from to Kind (drafts (more_declared (declared_words ds) more)) after
  more_declared_comma (g.one_declared _ _) more reads = reads
  more_declared_comma (g.more_declared _ _ _ _) more reads = reads

  pub tell_declared : {i k : ℕ} {ds : List Declared} → AreDeclared toks i k ds → Leads true false (WritesDeclared token_of is_added (map (bare_declared (words_of says)) (map declared_of ds))) (declared (declared_words ds))
  tell_declared (g.one_declared {i} t a) = λ more. leaf t (follow (tell_attribute a more) (λ u told. w.one_declared (says_keeps t) told))
  tell_declared (g.more_declared {i} t a _ d) =
      λ more. leaf t (lead (tell_attribute a _) (λ u told. more_declared_comma d more (gap (sign sign_is.Comma (gap (follow (tell_declared d more) (λ v told_more. w.more_declared (says_keeps t) told (refl, refl) told_more)))))))

  dot_before : {from to : Bool} {Kind : List TextWord → Type 0} {after : Drafts} {i k : ℕ} {names : List ℕ} → IsPath toks i k names → (more : List Draft)
      → Reads from to Kind (drafts (tight ∷ word (codes ".") ∷ tight ∷ path (option_map source.bytes (first_of_path names)) (map source.bytes (rest_of_path names)) more)) after
      → Reads from to Kind (drafts (path_fields (map source.bytes names) more)) after
  dot_before (g.path_end _) more reads = reads
  dot_before (g.path_more _ _ _) more reads = reads

  pub tell_path : {i k : ℕ} {names : List ℕ} → IsPath toks i k names → Leads true false (WritesPath token_of is_added (map says names)) (path (option_map source.bytes (first_of_path names)) (map source.bytes (rest_of_path names)))
  tell_path (g.path_end {i} t) = λ more. leaf t (done (w.path_end (says_keeps t)))
  tell_path (g.path_more {i} t _ d) = λ more. leaf t (dot_before d more (gap (sign sign_is.Dot (gap (follow (tell_path d more) (λ u told. w.path_more (says_keeps t) (refl, refl) told))))))

  pub tell_method : {i k : ℕ} {m : Option ℕ} → IsMethod toks i k m → Leads false false (WritesMethod token_of is_added (option_map says m)) (method (option_map source.bytes m))
  tell_method g.no_method = λ more. done w.no_method
  tell_method (g.a_method {j} _ t) = λ more. gap (sign sign_is.Colon (gap (leaf t (done (w.a_method (refl, refl) (says_keeps t))))))
