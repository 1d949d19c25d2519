-- What a part of a chunk says, by what stands at its tokens; and two maps of words that agree on all that it says, and on
-- its literals and operators, give one bare part. How such claims join.
use Rattle.std.proofs.Common.{◌≡◌, ℕ, ◌-◌, ◌<◌, ◌⊎◌, inl, inr, Bool, true, false, Option, Some, None, List, [], ◌∷◌, ◌++◌, map, refl, sym, subst, ◌∙◌, ⊎_elim, arith}
use Rattle.std.specs.Option.{option_map}
use Rattle.std.proofs.lemmas.Bool.{true≢false, false_from_ne_true}
use Rattle.luf_lex.specs.declared.token.Tok.{Tok}
use Rattle.luf_lex.specs.declared.token.Tok.TheVariants as tok
use Rattle.luf_lex.specs.declared.token.Sign.TheVariants as sign
use Rattle.luf_tree.specs.Operator.{binary_precedence, is_unary}
use Rattle.luf_tree.specs.declared.tree.Declared.{Declared}
use Rattle.luf_tree.specs.Grammar as grammar
use Rattle.luf_tree.specs.Grammar.{At, IsToken, IsString, AreNames, AreParams, IsAttribute, AreDeclared, IsPath, IsMethod}
use Rattle.luf_tree.specs.Syntax as syntax
use Rattle.luf_tree.specs.TokenSyntax as tokens
use Rattle.luf_tree.specs.SyntaxOf.{declared_of, first_of_path, rest_of_path}
use Rattle.luf_tree.specs.SyntaxMap.{ShapeMap}
use Rattle.luf_bare.specs.Bare.{bare_declared}
use Rattle.luf_scope.specs.Occurrences.{declared_locals, loop_variables_of, parameters_of, path_of, method_of}
use Rattle.luf_scope.specs.declared.occurrence.Occurrence.{Occurrence}
use Rattle.luf_scope.specs.declared.occurrence.Occurrence.TheVariants.{Local, LocalFunction, Parameter, ImplicitSelf, LoopVariable, Reads, Assigns, Field, Label, Goto}
use Rattle.luf_interf.specs.inner.Among.{Among, here, there}

-- a name, or the `:` of a method
abbrev pub is_word : Tok → Bool
is_word tok.Name = true
is_word (tok.Sign sign.Colon) = true
is_word _ = false

word_unary : (t : Tok) → is_word t ≡ true → is_unary t ≡ false
word_unary tok.Name is = refl
word_unary (tok.Sign sign.Colon) is = refl
word_unary _ is = absurd cc

word_binary : (t : Tok) → is_word t ≡ true → binary_precedence t ≡ 0
word_binary tok.Name is = refl
word_binary (tok.Sign sign.Colon) is = refl
word_binary _ is = absurd cc

pub unary_sign : (t : Tok) → is_unary t ≡ true → is_word t ≡ false
unary_sign t is = false_from_ne_true (is_word t) (λ word. true≢false (sym is ∙ word_unary t word))

pub binary_sign : (t : Tok) (m : ℕ) → binary_precedence t ≡ m → 0 < m → is_word t ≡ false
binary_sign t m is some = false_from_ne_true (is_word t) (λ word. let none = word_binary t word in omega (arith, is, some, none))

pub among_left : {X : Type 0} {x : X} {xs : List X} (ys : List X) → Among x xs → Among x (xs ++ ys)
among_left ys here = here
among_left ys (there m) = there (among_left ys m)

pub among_right : {X : Type 0} {x : X} (xs : List X) {ys : List X} → Among x ys → Among x (xs ++ ys)
among_right [] m = m
among_right (y ∷ xs) m = there (among_right xs m)

among_either : {X : Type 0} {x : X} (xs ys : List X) → Among x (xs ++ ys) → Among x xs ⊎ Among x ys
among_either [] ys m = inr m
among_either (y ∷ xs) ys here = inl here
among_either (y ∷ xs) ys (there m) = ⊎_elim (λ left. inl (there left)) (λ right. inr right) (among_either xs ys m)

module _ (toks : List Tok) where
  -- what stands at the tokens of an occurrence
  abbrev pub NamedOption : Option ℕ → Type 0
  NamedOption None = Unit {0}
  NamedOption (Some attribute) = At toks attribute tok.Name

  abbrev pub Named : Occurrence → Type 0
  Named (Local name attribute from to) = At toks name tok.Name × NamedOption attribute
  Named (LocalFunction name from to) = At toks name tok.Name
  Named (Parameter name from to) = At toks name tok.Name
  Named (ImplicitSelf colon from to) = At toks colon (tok.Sign sign.Colon)
  Named (LoopVariable name from to) = At toks name tok.Name
  Named (Reads name) = At toks name tok.Name
  Named (Assigns name) = At toks name tok.Name
  Named (Field name) = At toks name tok.Name
  Named (Label name from to at_end) = At toks name tok.Name
  Named (Goto token name) = At toks name tok.Name
  Named _ = Unit {0}

module _ {M : syntax.Shape} (f g : ShapeMap tokens.Tokens M) where
  abbrev pub AgreeOption : Option ℕ → Type 0
  AgreeOption None = Unit {0}
  AgreeOption (Some i) = f.leaf i ≡ g.leaf i

  -- two maps agree on the words of an occurrence
  abbrev pub Agree : Occurrence → Type 0
  Agree (Local name attribute from to) = (f.name name ≡ g.name name) × AgreeOption attribute
  Agree (LocalFunction name from to) = f.name name ≡ g.name name
  Agree (Parameter name from to) = f.name name ≡ g.name name
  Agree (LoopVariable name from to) = f.name name ≡ g.name name
  Agree (Reads name) = f.name name ≡ g.name name
  Agree (Assigns name) = f.name name ≡ g.name name
  Agree (Field name) = f.leaf name ≡ g.leaf name
  Agree (Label name from to at_end) = f.label name ≡ g.label name
  Agree (Goto token name) = f.label name ≡ g.label name
  Agree _ = Unit {0}

module _ {M : syntax.Shape} (f g : ShapeMap tokens.Tokens M) where
  option_agrees : (a : Option ℕ) → AgreeOption f g a → option_map f.leaf a ≡ option_map g.leaf a
  option_agrees None agree = refl
  option_agrees (Some x) agree = λ j. Some (agree j)

  abbrev PathAlike : List ℕ → Type 0
  PathAlike path = (option_map f.name (first_of_path path) ≡ option_map g.name (first_of_path path)) × (map f.leaf (rest_of_path path) ≡ map g.leaf (rest_of_path path))

attribute_named : {toks : List Tok} {i j : ℕ} {a : Option ℕ} → IsAttribute toks i j a → NamedOption toks a
attribute_named grammar.no_attribute = tt
attribute_named (grammar.an_attribute _ name _) = name.there

none_named : (toks : List Tok) (u : Occurrence) → Among u [] → Named toks u
none_named toks u m = elim m [ ]

first_named : (toks : List Tok) (u v : Occurrence) (os : List Occurrence) → Named toks u → ((w : Occurrence) → Among w os → Named toks w) → Among v (u ∷ os) → Named toks v
first_named toks u u' os named rest here = named
first_named toks u v os named rest (there m) = rest v m

-- what is said, and what holds where the maps agree on it
pub record Says (toks : List Tok) {M : syntax.Shape} (f g : ShapeMap tokens.Tokens M) (os : List Occurrence) (E : Type 0) : Type 0 where
  pub named : (u : Occurrence) → Among u os → Named toks u
  pub same : ((u : Occurrence) → Among u os → Agree f g u) → E

module _ {toks : List Tok} {M : syntax.Shape} {f g : ShapeMap tokens.Tokens M} where
  pub none : {E : Type 0} → E → Says toks f g [] E
  none e = record { named = none_named toks; same = λ _. e }

  pub nothing : Says toks f g [] (Unit {0})
  nothing = none tt

  pub to : {os : List Occurrence} {E F : Type 0} → Says toks f g os E → (E → F) → Says toks f g os F
  to part next = record { named = part.named; same = λ agree. next (part.same agree) }

  infixr 5 ◌⨾◌
  pub ◌⨾◌ : {xs ys : List Occurrence} {E F : Type 0} → Says toks f g xs E → Says toks f g ys F → Says toks f g (xs ++ ys) (E × F)
  ◌⨾◌ {xs} {ys} a b = record {
    named = λ u m. ⊎_elim (a.named u) (b.named u) (among_either xs ys m);
    same = λ agree. (a.same (λ u m. agree u (among_left ys m)), b.same (λ u m. agree u (among_right xs m)));
  }

  pub first : {u : Occurrence} {os : List Occurrence} {E : Type 0} → Named toks u → Says toks f g os E → Says toks f g (u ∷ os) (Agree f g u × E)
  first {u} {os} named rest = record { named = λ v m. first_named toks u v os named rest.named m; same = λ agree. (agree u here, rest.same (λ v m. agree v (there m))) }

  -- ---- lists of words

  pub loop_names : {i k : ℕ} {names : List ℕ} → AreNames toks i k names → (b : tokens.Span) → Says toks f g (loop_variables_of b names) (map f.name names ≡ map g.name names)
  loop_names (grammar.one_name t) b = to (first t.there nothing) (λ c j. c.0 j ∷ [])
  loop_names (grammar.more_names t u d) b = to (first t.there (loop_names d b)) (λ c j. c.0 j ∷ c.1 j)

  parameter_names : {i k : ℕ} {names : List ℕ} → AreNames toks i k names → (b : tokens.Span) → Says toks f g (parameters_of b names) (map f.name names ≡ map g.name names)
  parameter_names (grammar.one_name t) b = to (first t.there nothing) (λ c j. c.0 j ∷ [])
  parameter_names (grammar.more_names t u d) b = to (first t.there (parameter_names d b)) (λ c j. c.0 j ∷ c.1 j)

  pub parameters : {i k : ℕ} {names : List ℕ} {vararg : Bool} → AreParams toks i k names vararg → (b : tokens.Span) → Says toks f g (parameters_of b names) (map f.name names ≡ map g.name names)
  parameters grammar.no_params b = none refl
  parameters (grammar.dots_alone t) b = none refl
  parameters (grammar.names_alone d) b = parameter_names d b
  parameters (grammar.names_and_dots d u t) b = parameter_names d b

  pub declared_names : {i k : ℕ} {ds : List Declared} → AreDeclared toks i k ds → (from end : ℕ) → Says toks f g (declared_locals from end (map declared_of ds)) (map (bare_declared f) (map declared_of ds) ≡ map (bare_declared g) (map declared_of ds))
  declared_names (grammar.one_declared {a} t named) from end = to (first (t.there, attribute_named named) nothing) (λ c j. record { name = c.0.0 j; attribute = option_agrees f g a c.0.1 j } ∷ [])
  declared_names (grammar.more_declared {a} t named u d) from end = to (first (t.there, attribute_named named) (declared_names d from end)) (λ c j. record { name = c.0.0 j; attribute = option_agrees f g a c.0.1 j } ∷ c.1 j)

  fields : {i k : ℕ} {path : List ℕ} → IsPath toks i k path → Says toks f g (map Field path) (map f.leaf path ≡ map g.leaf path)
  fields (grammar.path_end t) = to (first t.there nothing) (λ c j. c.0 j ∷ [])
  fields (grammar.path_more t u d) = to (first t.there (fields d)) (λ c j. c.0 j ∷ c.1 j)

  pub path : {i k : ℕ} {names : List ℕ} (m : Option ℕ) → IsPath toks i k names → Says toks f g (path_of (first_of_path names) (rest_of_path names) m) (PathAlike f g names)
  path None (grammar.path_end t) = to (first t.there nothing) (λ c. ((λ j. Some (c.0 j)), refl))
  path (Some method) (grammar.path_end t) = to (first t.there nothing) (λ c. ((λ j. Some (c.0 j)), refl))
  path None (grammar.path_more t u (grammar.path_end v)) = to (first t.there (fields (grammar.path_end v))) (λ c. ((λ j. Some (c.0 j)), c.1))
  path None (grammar.path_more t u (grammar.path_more v w d)) = to (first t.there (fields (grammar.path_more v w d))) (λ c. ((λ j. Some (c.0 j)), c.1))
  path (Some method) (grammar.path_more t u (grammar.path_end v)) = to (first t.there (fields (grammar.path_end v))) (λ c. ((λ j. Some (c.0 j)), c.1))
  path (Some method) (grammar.path_more t u (grammar.path_more v w d)) = to (first t.there (fields (grammar.path_more v w d))) (λ c. ((λ j. Some (c.0 j)), c.1))

  pub method : {i k : ℕ} {m : Option ℕ} → IsMethod toks i k m → (b : tokens.Span) → Says toks f g (method_of b m) (option_map f.leaf m ≡ option_map g.leaf m)
  method grammar.no_method b = none refl
  method (grammar.a_method {i} {j} u t) b =
      let before : i ≡ j - 1 = let next = u.next in omega (arith, next) in
      to (first (subst (λ n. At toks n (tok.Sign sign.Colon)) before u.there) (first t.there nothing)) (λ c n. Some (c.1.0 n))
