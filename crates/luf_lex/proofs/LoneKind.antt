-- Groups of places at which one kind is tried.
use Rattle.std.proofs.Common.{◌≡◌, ℕ, ◌<◌, ◌≤◌, Bool, true, false, cond, List, [], ◌∷◌, ◌++◌, length, take, drop, refl, sym, ap, subst, ◌∙◌, arith, length-drop}
use Rattle.std.proofs.lemmas.Bool.{false≢true, and_parts, eqb-true}
use Rattle.std.proofs.lemmas.List.{take-append-drop, take-take, length-take-le}
use Rattle.luf_str.specs.Bytes.{is_quote}
use Rattle.luf_str.specs.Spelling.{IsStringSpelling}
use Rattle.luf_str.proofs.Apart.{apart}
use Rattle.luf_byte.specs.Front.{begins}
use Rattle.luf_lex.specs.Spelling.{Spells, IsLongComment}
use Rattle.luf_str.specs.LongEnd.{opens_long}
use Rattle.luf_lex.specs.First.{group_of, is_tried, begins_comment, begins_numeral, IsFirst}
use Rattle.luf_lex.specs.declared.group.Group.{Group}
use Rattle.luf_lex.specs.declared.group.Group.TheVariants.{Quoted, Bracketed, Commented, Numeric, Other}
use Rattle.luf_lex.specs.declared.token.Tok.TheVariants.{Short, Long}
use Rattle.luf_lex.specs.declared.token.Kind.{Kind}
use Rattle.luf_lex.specs.declared.token.Kind.TheVariants.{Token, Comment}

-- ---- what each group begins with

abbrev chosen : Bool → Bool → Bool → Bool → Group
chosen q l c n = cond q Quoted (cond l Bracketed (cond c Commented (cond n Numeric Other)))

quoted_is : (q l c n : Bool) → chosen q l c n ≡ Quoted → q ≡ true
quoted_is true l c n e = refl
quoted_is false true c n e = absurd cc
quoted_is false false true n e = absurd cc
quoted_is false false false true e = absurd cc
quoted_is false false false false e = absurd cc

bracketed_is : (q l c n : Bool) → chosen q l c n ≡ Bracketed → l ≡ true
bracketed_is true l c n e = absurd cc
bracketed_is false true c n e = refl
bracketed_is false false true n e = absurd cc
bracketed_is false false false true e = absurd cc
bracketed_is false false false false e = absurd cc

commented_is : (q l c n : Bool) → chosen q l c n ≡ Commented → c ≡ true
commented_is true l c n e = absurd cc
commented_is false true c n e = absurd cc
commented_is false false true n e = refl
commented_is false false false true e = absurd cc
commented_is false false false false e = absurd cc

pub quoted_begins : (text : List ℕ) → group_of text ≡ Quoted → begins is_quote text ≡ true
quoted_begins text e = quoted_is (begins is_quote text) (opens_long text) (begins_comment text) (begins_numeral text) e

pub bracketed_opens : (text : List ℕ) → group_of text ≡ Bracketed → opens_long text ≡ true
bracketed_opens text e = bracketed_is (begins is_quote text) (opens_long text) (begins_comment text) (begins_numeral text) e

pub commented_begins : (text : List ℕ) → group_of text ≡ Commented → begins_comment text ≡ true
commented_begins text e = commented_is (begins is_quote text) (opens_long text) (begins_comment text) (begins_numeral text) e

pub quoted_cut : (text : List ℕ) → group_of text ≡ Quoted → (q : ℕ) × (is_quote q ≡ true) × (text ≡ q ∷ drop 1 text)
quoted_cut [] e = absurd (false≢true (quoted_begins [] e))
quoted_cut (q ∷ text) e = (q, quoted_begins (q ∷ text) e, refl)

dashes : (text : List ℕ) → begins_comment text ≡ true → text ≡ 45 ∷ 45 ∷ drop 2 text
dashes [] h = absurd (false≢true h)
dashes (a ∷ []) h = absurd (false≢true (and_parts _ _ h).1)
dashes (a ∷ b ∷ text) h = let parts = and_parts _ _ h in ap (λ x. x ∷ b ∷ text) (eqb-true a 45 parts.0) ∙ ap (λ x. 45 ∷ x ∷ text) (eqb-true b 45 parts.1)

pub commented_cut : (text : List ℕ) → group_of text ≡ Commented → text ≡ 45 ∷ 45 ∷ drop 2 text
commented_cut text e = dashes text (commented_begins text e)

-- ---- the one kind that is tried

pub quoted_kind : (kind : Kind) → is_tried Quoted kind ≡ true → kind ≡ Token Short
quoted_kind (Token Short) h = refl
quoted_kind _ h = absurd (false≢true h)

pub bracketed_kind : (kind : Kind) → is_tried Bracketed kind ≡ true → kind ≡ Token Long
bracketed_kind (Token Long) h = refl
bracketed_kind _ h = absurd (false≢true h)

pub commented_kind : (kind : Kind) → is_tried Commented kind ≡ true → kind ≡ Comment
commented_kind Comment h = refl
commented_kind _ h = absurd (false≢true h)

-- such a kind is the first piece, where no longer front is of it
pub first_alone : (text : List ℕ) (group : Group) (kind : Kind) (n : ℕ) → group_of text ≡ group → is_tried group kind ≡ true → ((other : Kind) → is_tried group other ≡ true → other ≡ kind) → (group ≡ Numeric → ⊥)
    → (group ≡ Commented → opens_long (drop 2 text) ≡ true → IsLongComment (take n text)) → 0 < n → n ≤ length text → Spells kind (take n text) → ((m : ℕ) → n < m → m ≤ length text → Spells kind (take m text) → ⊥) → IsFirst text kind n
first_alone text group kind n e tried alone plain long some within spelled longest = record {
  some = some;
  within = within;
  tried = subst (λ g. is_tried g kind ≡ true) (sym e) tried;
  spelled = spelled;
  longest = λ _ other m t more fits s. longest m more fits (subst (λ k. Spells k (take m text)) (alone other (subst (λ g. is_tried g other ≡ true) e t)) s);
  numeral = λ numeric. absurd (plain (sym e ∙ numeric));
  long = λ comment. long (sym e ∙ comment);
}

-- and where no front is of it, the text has no first piece
pub none_alone : (text : List ℕ) (group : Group) (kind : Kind) → group_of text ≡ group → ((other : Kind) → is_tried group other ≡ true → other ≡ kind) → ((n : ℕ) → n ≤ length text → Spells kind (take n text) → ⊥)
    → (other : Kind) (n : ℕ) → IsFirst text other n → ⊥
none_alone text group kind e alone none other n h =
    none n h.within (subst (λ k. Spells k (take n text)) (alone other (subst (λ g. is_tried g other ≡ true) e h.tried)) h.spelled)

-- ---- fronts of a text

pub longer_front : (text : List ℕ) (n m : ℕ) → n ≤ m → take m text ≡ take n text ++ drop n (take m text)
longer_front text n m le = sym (take-append-drop n (take m text)) ∙ ap (λ t. t ++ drop n (take m text)) (take-take n m text le)

-- of two fronts one at most is a string
pub fronts_apart : (text : List ℕ) (n m : ℕ) → n < m → m ≤ length text → IsStringSpelling (take n text) → IsStringSpelling (take m text) → ⊥
fronts_apart text n m more within a b =
    let nothing : drop n (take m text) ≡ [] = apart (take n text) (drop n (take m text)) a (subst IsStringSpelling (longer_front text n m (omega arith)) b) in
    omega (arith, ap length nothing, length-drop n (take m text), length-take-le m text within)
