-- Occurrences by the ranks of their tokens: each token that is told apart by its place is significant.
use Rattle.std.proofs.Common.{◌≡◌, ℕ, ◌+◌, ◌<◌, ◌⊎◌, inl, inr, false, Option, Some, None, List, ◌∷◌, length}
use Rattle.std.proofs.lemmas.Option.{slice_get_within}
use Rattle.luf_lex.specs.declared.token.Tok.{Tok}
use Rattle.luf_tree.specs.Grammar.{IsToken, IsString}
use Rattle.luf_bare.specs.Significant.{is_among}
use Rattle.luf_bare.specs.Rank.{rank, ranks}
use Rattle.luf_bare.proofs.RankedParts.{Step as Kept}
use Rattle.luf_scope.specs.Occurrences.{Holder}
use Rattle.luf_scope.specs.declared.occurrence.Occurrence.{Occurrence}
use Rattle.luf_scope.specs.declared.occurrence.Occurrence.TheVariants.{Local, LocalFunction, Parameter, ImplicitSelf, LoopVariable, Reads, Assigns, Field, Varargs, Function, Loop, Label, Goto, Break}
use Rattle.luf_resolved.proofs.Paired.{Paired, more as more_paired}

module _ (toks : List Tok) (all : List ℕ) where
  -- a significant token
  pub record Solid (i : ℕ) : Type 0 where
    pub kept : is_among i all ≡ false
    pub within : i < length toks

  abbrev pub SolidOption : Option ℕ → Type 0
  SolidOption None = Unit {0}
  SolidOption (Some i) = Solid i

  -- a place behind a significant token
  pub record Behind (i : ℕ) : Type 0 where
    pub before : ℕ
    pub next : i ≡ before + 1
    pub solid : Solid before

  -- the first place, or one behind a significant token, as the first of each block is, and where a function begins and ends
  abbrev pub Opened : ℕ → Type 0
  Opened i = (i ≡ 0) ⊎ Behind i

  abbrev pub Sound : Occurrence → Type 0
  Sound (Local name attribute from to) = Solid name × SolidOption attribute
  Sound (LocalFunction name from to) = Solid name
  Sound (Parameter name from to) = Solid name
  Sound (ImplicitSelf colon from to) = Solid colon
  Sound (LoopVariable name from to) = Solid name
  Sound (Reads name) = Solid name
  Sound (Assigns name) = Solid name
  Sound (Field name) = Solid name
  Sound (Varargs token) = Solid token
  Sound (Function from to vararg) = Opened from × Opened to
  Sound (Loop from to) = Unit {0}
  Sound (Label name from to at_end) = Solid name × Opened from
  Sound (Goto token name) = Solid token × Solid name
  Sound (Break token) = Solid token

  abbrev pub ranked_option : Option ℕ → Option ℕ
  ranked_option None = None
  ranked_option (Some i) = Some (rank all i)

  abbrev pub ranked_occurrence : Occurrence → Occurrence
  ranked_occurrence (Local name attribute from to) = Local (rank all name) (ranked_option attribute) (rank all from) (rank all to)
  ranked_occurrence (LocalFunction name from to) = LocalFunction (rank all name) (rank all from) (rank all to)
  ranked_occurrence (Parameter name from to) = Parameter (rank all name) (rank all from) (rank all to)
  ranked_occurrence (ImplicitSelf colon from to) = ImplicitSelf (rank all colon) (rank all from) (rank all to)
  ranked_occurrence (LoopVariable name from to) = LoopVariable (rank all name) (rank all from) (rank all to)
  ranked_occurrence (Reads name) = Reads (rank all name)
  ranked_occurrence (Assigns name) = Assigns (rank all name)
  ranked_occurrence (Field name) = Field (rank all name)
  ranked_occurrence (Varargs token) = Varargs (rank all token)
  ranked_occurrence (Function from to vararg) = Function (rank all from) (rank all to) vararg
  ranked_occurrence (Loop from to) = Loop (rank all from) (rank all to)
  ranked_occurrence (Label name from to at_end) = Label (rank all name) (rank all from) (rank all to) at_end
  ranked_occurrence (Goto token name) = Goto (rank all token) (rank all name)
  ranked_occurrence (Break token) = Break (rank all token)

  -- an occurrence, and the same by ranks
  pub record RankedOccurrence (u v : Occurrence) : Type 0 where
    pub sound : Sound u
    pub is : v ≡ ranked_occurrence u

  abbrev pub Ranked : List Occurrence → List Occurrence → Type 0
  Ranked = Paired RankedOccurrence

  abbrev pub ranked_holder : Holder → Holder
  ranked_holder h = record { span = (ranks all).span h.span; end = rank all h.end; until = h.until }

module _ {toks : List Tok} {all : List ℕ} where
  pub more : {u v : Occurrence} {us vs : List Occurrence} → Sound toks all u → v ≡ ranked_occurrence toks all u → Ranked toks all us vs → Ranked toks all (u ∷ us) (v ∷ vs)
  more sound is rest = more_paired (record { sound = sound; is = is }) rest

  pub solid : {t : Tok} {i j : ℕ} → IsToken toks i t j → Kept all i j → Solid toks all i
  solid {t} {i} token kept = record { kept = kept.solid; within = slice_get_within toks i t token.there }

  pub solid_string : {i j : ℕ} → IsString toks i j → Kept all i j → Solid toks all i
  solid_string (inl token) kept = solid token kept
  solid_string (inr token) kept = solid token kept

  pub opened : {t : Tok} {i j : ℕ} → IsToken toks i t j → Kept all i j → Opened toks all j
  opened {t} {i} token kept = inr (record { before = i; next = token.next; solid = solid token kept })
