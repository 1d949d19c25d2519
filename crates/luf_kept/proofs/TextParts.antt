-- Drafts that are read off as texts: what the words of a draft spell, part after part, and which of them are added. `from`
-- and `to` say of a place whether it is open, as `Marks` has it.
use Rattle.std.proofs.Common.{◌≡◌, ℕ, ◌⊎◌, inl, inr, Bool, true, false, cond, List, [], ◌∷◌, ◌++◌, codes, append_assoc, refl, sym, ap, subst, ◌∙◌}
use Rattle.std.proofs.lemmas.List.{map-append, append-nil}
use Rattle.luf_lex.specs.Spelling as spelling
use Rattle.luf_lex.specs.declared.token.Kind.TheVariants.{Token}
use Rattle.luf_lex.specs.Word.{word_spelling}
use Rattle.luf_lex.specs.Sign.{sign_spelling}
use Rattle.luf_lex.specs.declared.token.Tok.{Tok}
use Rattle.luf_lex.specs.declared.token.Tok.TheVariants as tok
use Rattle.luf_lex.specs.declared.token.Word as token_word
use Rattle.luf_lex.specs.declared.token.Sign as token_sign
use Rattle.luf_lex.specs.declared.token.Sign.TheVariants as sign_is
use Rattle.luf_bare.specs.ReadBack.{TextWord, own_word, added_word, spelled_by}
use Rattle.luf_bare.specs.Significant.{IsFixed}
use Rattle.luf_bare.proofs.EachWritten.{Each, all_none, all_more}
use Rattle.luf_min.specs.Minified.{fixed_spelling, spellings}
use Rattle.luf_draft.specs.Draft.{Draft, Drafts, Opening, word, opening, trail, nest, group, sequence, nothing, also, space, tight}
use Rattle.luf_kept.specs.inner.DraftText.{IsSpelled}
use Rattle.luf_kept.specs.inner.Marks.{Turns, Marks, MarkAll}
use Rattle.luf_kept.specs.inner.Takes.{Takes, TakeAll}

-- a word of the program, and one that it has not, in their one spelling
abbrev pub own : Tok → TextWord
own t = own_word (spelled_by fixed_spelling t)

abbrev pub extra : Tok → TextWord
extra t = added_word (spelled_by fixed_spelling t)

-- a keyword or a sign has its one spelling
pub fixed_so : (t : Tok) (bytes : List ℕ) → spelling.Spells (Token t) bytes → IsFixed t → bytes ≡ fixed_spelling t
fixed_so (tok.Word w) bytes is fixed = sym is
fixed_so (tok.Sign s) bytes is fixed = sym is
fixed_so _ bytes is fixed = absurd fixed

-- the words are those of this text, and then the rest
pub record Spells (text : List TextWord) (words rest : List (List ℕ)) : Type 0 where
  pub same : words ≡ spellings text ++ rest
  pub each : Each IsSpelled text

pub spell_none : {words : List (List ℕ)} → Spells [] words words
spell_none = record { same = refl; each = all_none }

pub spell_one : {w : TextWord} {text : List TextWord} {words mid rest : List (List ℕ)} → IsSpelled w → words ≡ w.spelled.spelling ∷ mid → Spells text mid rest → Spells (w ∷ text) words rest
spell_one {w} is same more = record { same = same ∙ ap (λ l. w.spelled.spelling ∷ l) more.same; each = all_more is more.each }

both_each : {xs ys : List TextWord} → Each IsSpelled xs → Each IsSpelled ys → Each IsSpelled (xs ++ ys)
both_each all_none more = more
both_each (all_more is all) more = all_more is (both_each all more)

pub spell_both : {xs ys : List TextWord} {words mid rest : List (List ℕ)} → Spells xs words mid → Spells ys mid rest → Spells (xs ++ ys) words rest
spell_both {xs} {ys} {rest} first more = record {
  same =
      first.same ∙ ap (λ l. spellings xs ++ l) more.same ∙ sym (append_assoc (spellings xs) (spellings ys) rest)
      ∙ ap (λ l. l ++ rest) (sym (map-append (λ (w : TextWord). w.spelled.spelling) xs ys));
  each = both_each first.each more.each;
}

-- a text of this kind
pub record Told (Kind : List TextWord → Type 0) (words rest : List (List ℕ)) : Type 0 where
  pub text : List TextWord
  pub wrote : Kind text
  pub spelled : Spells text words rest

-- of the draft whose words are taken so
pub record Stood (from to : Bool) (Kind : List TextWord → Type 0) (d : Draft) (words rest : List (List ℕ)) (takes : Takes d words rest) : Type 0 where
  pub told : Told Kind words rest
  pub marked : (more : List TextWord) → Marks d words rest takes (told.text ++ more) more from to

-- and behind it the words of these drafts
pub record Before (from to : Bool) (Kind : List TextWord → Type 0) (ds more : Drafts) (words rest : List (List ℕ)) (takes : TakeAll ds words rest) : Type 0 where
  pub middle : List (List ℕ)
  pub told : Told Kind words middle
  pub behind : TakeAll more middle rest
  pub marked : (text end : List TextWord) (last : Bool) → MarkAll more middle rest behind text end to last → MarkAll ds words rest takes (told.text ++ text) end from last

-- the words of a draft of its own are a text of this kind
pub record Stands (from to : Bool) (Kind : List TextWord → Type 0) (d : Draft) : Type 0 where
  pub at : (words rest : List (List ℕ)) (takes : Takes d words rest) → Stood from to Kind d words rest takes

-- the words of these drafts are a text of this kind before those of others
pub record Reads (from to : Bool) (Kind : List TextWord → Type 0) (ds more : Drafts) : Type 0 where
  pub at : (words rest : List (List ℕ)) (takes : TakeAll ds words rest) → Before from to Kind ds more words rest takes

-- ---- from words to texts

pub done : {at : Bool} {Kind : List TextWord → Type 0} {more : Drafts} → Kind [] → Reads at at Kind more more
done wrote = record {
  at = λ words rest takes. record { middle = words; told = record { text = []; wrote = wrote; spelled = spell_none }; behind = takes; marked = λ text end last marks. marks };
}

word_before : {from mid_way to : Bool} {Kind : List TextWord → Type 0} {ds more : Drafts} {words mid rest : List (List ℕ)} {takes : TakeAll ds mid rest} (w : TextWord) → IsSpelled w → Turns w.added from mid_way
    → (same : words ≡ w.spelled.spelling ∷ mid) → Before mid_way to (λ t. Kind (w ∷ t)) ds more mid rest takes → Before from to Kind (also (word w.spelled.spelling) ds) more words rest (mid, same, takes)
word_before {mid_way} w is turns same found = record {
  middle = found.middle;
  told = record { text = w ∷ found.told.text; wrote = found.told.wrote; spelled = spell_one is same found.told.spelled };
  behind = found.behind;
  marked = λ text end last marks. (found.told.text ++ text, mid_way, (w, refl, refl, turns), found.marked text end last marks);
}

a_word : {from mid_way to : Bool} {Kind : List TextWord → Type 0} {ds more : Drafts} (w : TextWord) → IsSpelled w → Turns w.added from mid_way → Reads mid_way to (λ t. Kind (w ∷ t)) ds more
    → Reads from to Kind (also (word w.spelled.spelling) ds) more
a_word w is turns next = record { at = λ words rest takes. word_before w is turns takes.1 (next.at takes.0 rest takes.2) }

-- a word of the program
pub own_next : {to : Bool} {Kind : List TextWord → Type 0} {ds more : Drafts} (w : TextWord) → IsSpelled w → w.added ≡ false → Reads false to (λ t. Kind (w ∷ t)) ds more
    → Reads true to Kind (also (word w.spelled.spelling) ds) more
own_next w is own_word next = a_word w is (inr (own_word, refl, refl)) next

pub keyword : {to : Bool} {Kind : List TextWord → Type 0} {ds more : Drafts} (w : token_word.Word) → Reads false to (λ t. Kind (own (tok.Word w) ∷ t)) ds more → Reads true to Kind (also (word (word_spelling w)) ds) more
keyword w next = own_next (own (tok.Word w)) refl refl next

pub sign : {to : Bool} {Kind : List TextWord → Type 0} {ds more : Drafts} (s : token_sign.Sign) → Reads false to (λ t. Kind (own (tok.Sign s) ∷ t)) ds more → Reads true to Kind (also (word (sign_spelling s)) ds) more
sign s next = own_next (own (tok.Sign s)) refl refl next

-- a sign that the program has not
pub extra_sign : {from to : Bool} {Kind : List TextWord → Type 0} {ds more : Drafts} (s : token_sign.Sign) → Reads from to (λ t. Kind (extra (tok.Sign s) ∷ t)) ds more → Reads from to Kind (also (word (sign_spelling s)) ds) more
extra_sign s next = a_word (extra (tok.Sign s)) refl (inl (refl, refl)) next

gap_before : {to : Bool} {Kind : List TextWord → Type 0} {opens : Opening} {ds more : Drafts} {words mid rest : List (List ℕ)} {takes : TakeAll ds mid rest} (same : words ≡ mid)
    → Before true to Kind ds more mid rest takes → Before false to Kind (also (opening opens) ds) more words rest (mid, same, takes)
gap_before same found = record {
  middle = found.middle;
  told = record { text = found.told.text; wrote = found.told.wrote; spelled = record { same = same ∙ found.told.spelled.same; each = found.told.spelled.each } };
  behind = found.behind;
  marked = λ text end last marks. (found.told.text ++ text, true, (refl, refl, refl), found.marked text end last marks);
}

pub gap : {to : Bool} {Kind : List TextWord → Type 0} {opens : Opening} {ds more : Drafts} → Reads true to Kind ds more → Reads false to Kind (also (opening opens) ds) more
gap next = record { at = λ words rest takes. gap_before takes.1 (next.at takes.0 rest takes.2) }

pub behind_sign : {to : Bool} {Kind : List TextWord → Type 0} {ds more : Drafts} (b : Bool) → Reads true to Kind ds more → Reads false to Kind (also (cond b space tight) ds) more
behind_sign true next = gap next
behind_sign false next = gap next

abbrev comma_word : TextWord
comma_word = extra (tok.Sign sign_is.Comma)

trail_before : {from to : Bool} {Kind : List TextWord → Type 0} {ds more : Drafts} {words mid rest : List (List ℕ)} {takes : TakeAll ds mid rest} (taken : (words ≡ mid) ⊎ (words ≡ codes "," ∷ mid))
    → Before from to Kind ds more mid rest takes → Before from to (λ t. Kind (comma_word ∷ t)) ds more mid rest takes → Before from to Kind (also trail ds) more words rest (mid, taken, takes)
trail_before {from} (inl same) none comma = record {
  middle = none.middle;
  told = record { text = none.told.text; wrote = none.told.wrote; spelled = record { same = same ∙ none.told.spelled.same; each = none.told.spelled.each } };
  behind = none.behind;
  marked = λ text end last marks. (none.told.text ++ text, from, (refl, refl), none.marked text end last marks);
}
trail_before {from} (inr same) none comma = record {
  middle = comma.middle;
  told = record { text = comma_word ∷ comma.told.text; wrote = comma.told.wrote; spelled = spell_one refl same comma.told.spelled };
  behind = comma.behind;
  marked = λ text end last marks. (comma.told.text ++ text, from, ((comma_word, refl, refl, refl), refl), comma.marked text end last marks);
}

pub may_trail : {from to : Bool} {Kind : List TextWord → Type 0} {ds more : Drafts} → Reads from to Kind ds more → Reads from to (λ t. Kind (extra (tok.Sign sign_is.Comma) ∷ t)) ds more → Reads from to Kind (also trail ds) more
may_trail none comma = record { at = λ words rest takes. trail_before takes.1 (none.at takes.0 rest takes.2) (comma.at takes.0 rest takes.2) }

-- a draft of its own, and then a text of what follows it
pub part_before : {from mid_way to : Bool} {Kind Part Later : List TextWord → Type 0} {d : Draft} {ds more : Drafts} {words mid rest : List (List ℕ)} {taken : Takes d words mid} {takes : TakeAll ds mid rest}
    → (one : Stood from mid_way Part d words mid taken) → (later : Before mid_way to Later ds more mid rest takes) → Kind (one.told.text ++ later.told.text)
    → Before from to Kind (also d ds) more words rest (mid, taken, takes)
part_before {from} {mid_way} {d} {words} {mid} {taken} one later wrote = record {
  middle = later.middle;
  told = record { text = one.told.text ++ later.told.text; wrote = wrote; spelled = spell_both one.told.spelled later.told.spelled };
  behind = later.behind;
  marked = λ text end last marks. (
    later.told.text ++ text,
    mid_way,
    subst (λ (l : List TextWord). Marks d words mid taken l (later.told.text ++ text) from mid_way) (sym (append_assoc one.told.text later.told.text text)) (one.marked (later.told.text ++ text)),
    later.marked text end last marks,
  );
}

pub part : {from mid_way to : Bool} {Kind Part : List TextWord → Type 0} {d : Draft} {ds more : Drafts} → Stands from mid_way Part d → ((t : List TextWord) → Part t → Reads mid_way to (λ u. Kind (t ++ u)) ds more)
    → Reads from to Kind (also d ds) more
part stands next = record {
  at = λ words rest takes. let one = stands.at words takes.0 takes.1 in
      let later = (next one.told.text one.told.wrote).at takes.0 rest takes.2 in
      part_before one later later.told.wrote;
}

lead_before : {from mid_way to : Bool} {Kind Part : List TextWord → Type 0} {ds mid more : Drafts} {words rest : List (List ℕ)} {takes : TakeAll ds words rest}
    → (one : Before from mid_way Part ds mid words rest takes) → Before mid_way to (λ u. Kind (one.told.text ++ u)) mid more one.middle rest one.behind → Before from to Kind ds more words rest takes
lead_before {from} {ds} {words} {rest} {takes} one later = record {
  middle = later.middle;
  told = record { text = one.told.text ++ later.told.text; wrote = later.told.wrote; spelled = spell_both one.told.spelled later.told.spelled };
  behind = later.behind;
  marked = λ text end last marks.
      subst (λ (l : List TextWord). MarkAll ds words rest takes l end from last) (sym (append_assoc one.told.text later.told.text text))
      (one.marked (later.told.text ++ text) end last (later.marked text end last marks));
}

-- drafts, and then what follows them
pub lead : {from mid_way to : Bool} {Kind Part : List TextWord → Type 0} {ds mid more : Drafts} → Reads from mid_way Part ds mid → ((t : List TextWord) → Part t → Reads mid_way to (λ u. Kind (t ++ u)) mid more)
    → Reads from to Kind ds more
lead reads next = record {
  at = λ words rest takes. let one = reads.at words rest takes in
      lead_before one ((next one.told.text one.told.wrote).at one.middle rest one.behind);
}

-- the same drafts, of another kind
pub follow : {from to : Bool} {Kind Part : List TextWord → Type 0} {ds more : Drafts} → Reads from to Part ds more → ((t : List TextWord) → Part t → Kind t) → Reads from to Kind ds more
follow reads turn = record {
  at = λ words rest takes. let found = reads.at words rest takes in
      record {
        middle = found.middle;
        told = record { text = found.told.text; wrote = turn found.told.text found.told.wrote; spelled = found.told.spelled };
        behind = found.behind;
        marked = found.marked;
      };
}

pub last : {from to : Bool} {Kind Part : List TextWord → Type 0} {d : Draft} {more : Drafts} → Stands from to Part d → ((t : List TextWord) → Part t → Kind t) → Reads from to Kind (also d more) more
last {to} stands turn = record {
  at = λ words rest takes. let one = stands.at words takes.0 takes.1 in
      record {
        middle = takes.0;
        told = record { text = one.told.text; wrote = turn one.told.text one.told.wrote; spelled = one.told.spelled };
        behind = takes.2;
        marked = λ text end last marks. (text, to, one.marked text, marks);
      };
}

pub as_well : {from to : Bool} {Kind Part : List TextWord → Type 0} {d : Draft} → Stands from to Part d → ((t : List TextWord) → Part t → Kind t) → Stands from to Kind d
as_well stands turn = record {
  at = λ words rest takes. let one = stands.at words rest takes in
      record { told = record { text = one.told.text; wrote = turn one.told.text one.told.wrote; spelled = one.told.spelled }; marked = one.marked };
}

-- ---- drafts of their own

abbrev told_whole : {Kind : List TextWord → Type 0} {words mid rest : List (List ℕ)} → Told Kind words mid → mid ≡ rest → Told Kind words rest
told_whole found behind = record {
  text = found.text;
  wrote = found.wrote;
  spelled = record { same = found.spelled.same ∙ ap (λ (l : List (List ℕ)). spellings found.text ++ l) behind; each = found.spelled.each };
}

pub whole : {from to : Bool} {Kind : List TextWord → Type 0} {ds : Drafts} → Reads from to Kind ds nothing → Stands from to Kind (sequence ds)
whole {to} reads = record {
  at = λ words rest takes. let found = reads.at words rest takes in
      record { told = told_whole found.told found.behind; marked = λ more. found.marked more more to (refl, refl) };
}

pub grouped : {from to : Bool} {Kind : List TextWord → Type 0} {d : Draft} → Stands from to Kind d → Stands from to Kind (group d)
grouped stands = record { at = λ words rest takes. let one = stands.at words rest takes in record { told = one.told; marked = one.marked } }

pub nested : {from to : Bool} {Kind : List TextWord → Type 0} {d : Draft} → Stands from to Kind d → Stands from to Kind (nest d)
nested stands = record { at = λ words rest takes. let one = stands.at words rest takes in record { told = one.told; marked = one.marked } }

pub lone : {Kind : List TextWord → Type 0} (w : TextWord) → IsSpelled w → w.added ≡ false → Kind (w ∷ []) → Stands true false Kind (word w.spelled.spelling)
lone w is own_word wrote = record {
  at = λ words rest takes. record { told = record { text = w ∷ []; wrote = wrote; spelled = spell_one is takes spell_none }; marked = λ more. (w, refl, refl, inr (own_word, refl, refl)) };
}

pub lone_keyword : {Kind : List TextWord → Type 0} (w : token_word.Word) → Kind (own (tok.Word w) ∷ []) → Stands true false Kind (word (word_spelling w))
lone_keyword w wrote = lone (own (tok.Word w)) refl refl wrote

pub lone_sign : {Kind : List TextWord → Type 0} (s : token_sign.Sign) → Kind (own (tok.Sign s) ∷ []) → Stands true false Kind (word (sign_spelling s))
lone_sign s wrote = lone (own (tok.Sign s)) refl refl wrote

-- a gap in which drafts without a word would stand
pub lone_gap : {Kind : List TextWord → Type 0} {opens : Opening} → Reads true true Kind nothing nothing → Stands false true Kind (opening opens)
lone_gap reads = record {
  at = λ words rest takes. let found = reads.at words rest takes in
      record { told = told_whole found.told found.behind; marked = λ more. ((found.marked more more true (refl, refl)).0, refl, refl) };
}

-- ---- a group among others

abbrev pub joined : Drafts → Drafts → Drafts
joined nothing ds = ds
joined (also first rest) ds = also first (joined rest ds)

-- taken as one list, and the marks of both from those of the list
record Joined (xs ds : Drafts) (words mid rest : List (List ℕ)) (first : TakeAll xs words mid) (more : TakeAll ds mid rest) : Type 0 where
  takes : TakeAll (joined xs ds) words rest
  apart : (text end : List TextWord) (from last : Bool) → MarkAll (joined xs ds) words rest takes text end from last
      → (between : List TextWord) × (at : Bool) × MarkAll xs words mid first text between from at × MarkAll ds mid rest more between end at last

take_both : (xs ds : Drafts) (words mid rest : List (List ℕ)) (first : TakeAll xs words mid) (more : TakeAll ds mid rest) → Joined xs ds words mid rest first more
take_both nothing ds words mid rest first more = record {
  takes = coe 1 0 (i. TakeAll ds (first i) rest) more;
  apart = λ text end from last marks. (text, from, (refl, refl), coe 0 1 (i. MarkAll ds (first i) rest (coe 1 i (j. TakeAll ds (first j) rest) more) text end from last) marks);
}
take_both (also d xs) ds words mid rest first more = let both = take_both xs ds first.0 mid rest first.2 more in
    record {
      takes = (first.0, first.1, both.takes);
      apart = λ text end from last marks. let found = both.apart marks.0 end marks.1 last marks.3 in (found.0, found.1, (marks.0, marks.1, marks.2, found.2), found.3);
    }

opened_before : {from to : Bool} {Kind : List TextWord → Type 0} {xs ds more : Drafts} {words mid rest : List (List ℕ)} {first : TakeAll xs words mid} {takes : TakeAll ds mid rest}
    → (both : Joined xs ds words mid rest first takes) → Before from to Kind (joined xs ds) more words rest both.takes → Before from to Kind (also (group (sequence xs)) ds) more words rest (mid, first, takes)
opened_before {from} both found = record { middle = found.middle; told = found.told; behind = found.behind; marked = λ text end last marks. both.apart (found.told.text ++ text) end from last (found.marked text end last marks) }

pub opened : {from to : Bool} {Kind : List TextWord → Type 0} {xs ds more : Drafts} → Reads from to Kind (joined xs ds) more → Reads from to Kind (also (group (sequence xs)) ds) more
opened {xs} {ds} reads = record {
  at = λ words rest takes. let both = take_both xs ds words takes.0 rest takes.1 takes.2 in
      opened_before both (reads.at words rest both.takes);
}

-- nothing behind a text
pub to_end : (Kind : List TextWord → Type 0) (text : List TextWord) → Kind text → Kind (text ++ [])
to_end Kind text wrote = subst Kind (sym (append-nil text)) wrote
