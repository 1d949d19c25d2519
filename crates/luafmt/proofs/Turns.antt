-- Sources in turn: one, and some after others.
use Rattle.std.proofs.Common.{◌≡◌, ℕ, ◌+◌, ◌<◌, ◌≤◌, ◌==◌, false, List, [], ◌∷◌, ◌++◌, length, map, take, drop, Option, Some, None, refl, sym, ap, ap₂, ◌∙◌, subst, append_assoc, append-nil}
use Rattle.std.specs.Borrow.{Bor}
use Rattle.std.proofs.Math.ListN.{get_or}
use Rattle.std.proofs.Math.Seq.{take-append-add}
use Rattle.std.proofs.lemmas.List.{take_all, take_more, take-append-drop, map-append}
use Rattle.luf_io.specs.Files.{FileMap}
use Rattle.luf_io.specs.Sink.{Appends}
use Rattle.luf_io.proofs.Pieces.{Appends-append}
use Rattle.luafmt.specs.Counts.{Counts, ReadsAreCalm, WritesAreCalm}
use Rattle.luafmt.specs.Outcome.{Origin, file, name_of, Holds, Turn, Comes, rewritten_by, InTurn, no_more, one_more, origins, or_next, status_of, out_of, errs_of}
use Rattle.luafmt.specs.declared.job.Job.{Job}
use Rattle.luafmt.specs.declared.status.Status.{Status}
use Rattle.luafmt.specs.declared.status.Status.TheVariants.{Done, Differs, Usage, Refused, ReadFault, WriteFault, NoMemory, Config}
use Rattle.luafmt.specs.inner.Ended.{World, Through, CannotRead, CannotWrite, Halted, unread, starved, unwritten, Ended}

-- ---- joined

pub one_turn : (job : Job) (left : Option (List ℕ)) (told : Option FileMap) (origin : Origin) (contents : List ℕ) (t : Turn) → Holds left told origin contents → Comes job (name_of origin) contents t → InTurn job left told (origin ∷ []) (t ∷ []) (rewritten_by origin t.rewritten told)
one_turn job left told origin contents t holds comes =
    one_more job left told (rewritten_by origin t.rewritten told) origin [] contents t [] holds comes (no_more job left (rewritten_by origin t.rewritten told))

pub in_turn_append : (job : Job) (left : Option (List ℕ)) (told middle after : Option FileMap) (first later : List Origin) (turns others : List Turn) → InTurn job left told first turns middle → InTurn job left middle later others after → InTurn job left told (first ++ later) (turns ++ others) after
in_turn_append job left told middle after first later turns others (no_more _ _ _) second = second
in_turn_append job left told middle after first later turns others (one_more _ _ _ _ origin origins contents t rest holds comes in_turn) second =
    one_more job left told after origin (origins ++ later) contents t (rest ++ others) holds comes
    (in_turn_append job left (rewritten_by origin t.rewritten told) middle after origins later rest others in_turn second)

or_next_assoc : (a b c : Status) → or_next (or_next a b) c ≡ or_next a (or_next b c)
or_next_assoc Done b c = refl
or_next_assoc Differs b c = refl
or_next_assoc Usage b c = refl
or_next_assoc Refused b c = refl
or_next_assoc ReadFault b c = refl
or_next_assoc WriteFault b c = refl
or_next_assoc NoMemory b c = refl
or_next_assoc Config b c = refl

pub or_next_done : (s : Status) → or_next s Done ≡ s
or_next_done Done = refl
or_next_done Differs = refl
or_next_done Usage = refl
or_next_done Refused = refl
or_next_done ReadFault = refl
or_next_done WriteFault = refl
or_next_done NoMemory = refl
or_next_done Config = refl

status_of-append : (turns others : List Turn) → status_of (turns ++ others) ≡ or_next (status_of turns) (status_of others)
status_of-append [] others = refl
status_of-append (t ∷ turns) others = ap (or_next t.status) (status_of-append turns others) ∙ sym (or_next_assoc t.status (status_of turns) (status_of others))

out_of-append : (turns others : List Turn) → out_of (turns ++ others) ≡ out_of turns ++ out_of others
out_of-append [] others = refl
out_of-append (t ∷ turns) others = ap (λ bytes. t.out ++ bytes) (out_of-append turns others) ∙ sym (append_assoc t.out (out_of turns) (out_of others))

errs_of-append : (turns others : List Turn) → errs_of (turns ++ others) ≡ errs_of turns ++ errs_of others
errs_of-append [] others = refl
errs_of-append (t ∷ turns) others = ap (λ bytes. t.errs ++ bytes) (errs_of-append turns others) ∙ sym (append_assoc t.errs (errs_of turns) (errs_of others))

-- ---- what was put

pub nothing_put : (written after : Option (List ℕ)) → after ≡ written → Appends written [] after
nothing_put None after is = is
nothing_put (Some bytes) after is = is ∙ ap Some (sym (append-nil bytes))

alone : (written after : Option (List ℕ)) (bytes : List ℕ) → Appends written bytes after → Appends written (bytes ++ []) after
alone written after bytes put = subst (λ (piece : List ℕ). Appends written piece after) (sym (append-nil bytes)) put

part_put : (before middle after : Option (List ℕ)) (a b : List ℕ) (n : ℕ) → Appends before a middle → Appends middle (take n b) after → Appends before (take (length a + n) (a ++ b)) after
part_put before middle after a b n first second =
    subst (λ (piece : List ℕ). Appends before piece after) (sym (take-append-add a b n)) (Appends-append before a middle (take n b) after first second)

-- ---- the end of one source

pub one_through : (job : Job) (left : Option (List ℕ)) (origin : Origin) (contents : List ℕ) (t : Turn) (s : Status) (before after : World) → s ≡ t.status → Holds left before.told origin contents → Comes job (name_of origin) contents t
    → after.told ≡ rewritten_by origin t.rewritten before.told → Appends before.out t.out after.out → Appends before.errs t.errs after.errs → after.counts ≡ before.counts → Through job left (origin ∷ []) before after s
one_through job left origin contents t s before after status holds comes told out errs counts = record {
  turns = t ∷ [];
  in_turn = subst (λ (files : Option FileMap). InTurn job left before.told (origin ∷ []) (t ∷ []) files) (sym told) (one_turn job left before.told origin contents t holds comes);
  status_is = status ∙ sym (or_next_done t.status);
  out = alone before.out after.out t.out out;
  errs = alone before.errs after.errs t.errs errs;
  counts = counts;
}

no_turn : (job : Job) (left : Option (List ℕ)) (told after : Option FileMap) → after ≡ told → InTurn job left told [] [] after
no_turn job left told after is = subst (λ (files : Option FileMap). InTurn job left told [] [] files) (sym is) (no_more job left told)

pub one_unread : (job : Job) (left : Option (List ℕ)) (origin : Origin) (before after : World)
    → after.told ≡ before.told → after.out ≡ before.out → after.errs ≡ before.errs → WritesAreCalm before.counts after.counts → CannotRead origin before.told before.counts after.counts → Halted job left (origin ∷ []) before after ReadFault
one_unread job left origin before after told out errs calm cause = unread (record {
  first = [];
  origin = origin;
  later = [];
  is = refl;
  turns = [];
  in_turn = no_turn job left before.told after.told told;
  out = nothing_put before.out after.out out;
  errs = nothing_put before.errs after.errs errs;
  calm = calm;
  cause = subst (λ (files : Option FileMap). CannotRead origin files before.counts after.counts) (sym told) cause;
})

pub one_starved : (job : Job) (left : Option (List ℕ)) (origin : Origin) (before after : World)
    → after.told ≡ before.told → after.out ≡ before.out → after.errs ≡ before.errs → after.counts ≡ before.counts → Halted job left (origin ∷ []) before after NoMemory
one_starved job left origin before after told out errs counts = starved (record {
  first = [];
  later = origin ∷ [];
  is = refl;
  turns = [];
  in_turn = no_turn job left before.told after.told told;
  out = nothing_put before.out after.out out;
  errs = nothing_put before.errs after.errs errs;
  counts = counts;
})

pub one_unwritten : (job : Job) (left : Option (List ℕ)) (origin : Origin) (contents : List ℕ) (t : Turn) (before after : World) (n m : ℕ) → Holds left before.told origin contents → Comes job (name_of origin) contents t
    → after.told ≡ rewritten_by origin t.rewritten before.told → Appends before.out (take n t.out) after.out → Appends before.errs (take m t.errs) after.errs → ReadsAreCalm before.counts after.counts → CannotWrite job before.counts after.counts → Halted job left (origin ∷ []) before after WriteFault
one_unwritten job left origin contents t before after n m holds comes told out errs calm cause = unwritten (record {
  first = origin ∷ [];
  later = [];
  is = refl;
  turns = t ∷ [];
  in_turn = subst (λ (files : Option FileMap). InTurn job left before.told (origin ∷ []) (t ∷ []) files) (sym told) (one_turn job left before.told origin contents t holds comes);
  out_bytes = n;
  errs_bytes = m;
  out = subst (λ (piece : List ℕ). Appends before.out (take n piece) after.out) (sym (append-nil t.out)) out;
  errs = subst (λ (piece : List ℕ). Appends before.errs (take m piece) after.errs) (sym (append-nil t.errs)) errs;
  calm = calm;
  cause = cause;
})

-- its file could not be replaced
pub one_unreplaced : (job : Job) (left : Option (List ℕ)) (origin : Origin) (before after : World)
    → after.told ≡ before.told → after.out ≡ before.out → after.errs ≡ before.errs → ReadsAreCalm before.counts after.counts → CannotWrite job before.counts after.counts → Halted job left (origin ∷ []) before after WriteFault
one_unreplaced job left origin before after told out errs calm cause = unwritten (record {
  first = [];
  later = origin ∷ [];
  is = refl;
  turns = [];
  in_turn = no_turn job left before.told after.told told;
  out_bytes = 0;
  errs_bytes = 0;
  out = nothing_put before.out after.out out;
  errs = nothing_put before.errs after.errs errs;
  calm = calm;
  cause = cause;
})

-- ---- some sources, and then others

pub through_none : (job : Job) (left : Option (List ℕ)) (before : World) → Through job left [] before before Done
through_none job left before = record {
  turns = [];
  in_turn = no_more job left before.told;
  status_is = refl;
  out = nothing_put before.out before.out refl;
  errs = nothing_put before.errs before.errs refl;
  counts = refl;
}

pub through_then : (job : Job) (left : Option (List ℕ)) (first later : List Origin) (before middle after : World) (s next : Status) → Through job left first before middle s → Through job left later middle after next → Through job left (first ++ later) before after (or_next s next)
through_then job left first later before middle after s next a b = record {
  turns = a.turns ++ b.turns;
  in_turn = in_turn_append job left before.told middle.told after.told first later a.turns b.turns a.in_turn b.in_turn;
  status_is = ap₂ or_next a.status_is b.status_is ∙ sym (status_of-append a.turns b.turns);
  out = subst (λ (piece : List ℕ). Appends before.out piece after.out) (sym (out_of-append a.turns b.turns)) (Appends-append before.out (out_of a.turns) middle.out (out_of b.turns) after.out a.out b.out);
  errs = subst (λ (piece : List ℕ). Appends before.errs piece after.errs) (sym (errs_of-append a.turns b.turns)) (Appends-append before.errs (errs_of a.turns) middle.errs (errs_of b.turns) after.errs a.errs b.errs);
  counts = b.counts ∙ a.counts;
}

grouped : (first more a b later : List Origin) → more ≡ a ++ b → first ++ (more ++ later) ≡ (first ++ a) ++ (b ++ later)
grouped first more a b later is = ap (λ (xs : List Origin). first ++ (xs ++ later)) is ∙ ap (λ (xs : List Origin). first ++ xs) (append_assoc a b later) ∙ sym (append_assoc first a (b ++ later))

pub halted_then : (job : Job) (left : Option (List ℕ)) (first more later : List Origin) (before middle after : World) (s end : Status) → Through job left first before middle s → Halted job left more middle after end → Halted job left (first ++ (more ++ later)) before after end
halted_then job left first more later before middle after s end a (unread u) = unread (record {
  first = first ++ u.first;
  origin = u.origin;
  later = u.later ++ later;
  is = grouped first more u.first (u.origin ∷ u.later) later u.is;
  turns = a.turns ++ u.turns;
  in_turn = in_turn_append job left before.told middle.told after.told first u.first a.turns u.turns a.in_turn u.in_turn;
  out = subst (λ (piece : List ℕ). Appends before.out piece after.out) (sym (out_of-append a.turns u.turns)) (Appends-append before.out (out_of a.turns) middle.out (out_of u.turns) after.out a.out u.out);
  errs = subst (λ (piece : List ℕ). Appends before.errs piece after.errs) (sym (errs_of-append a.turns u.turns)) (Appends-append before.errs (errs_of a.turns) middle.errs (errs_of u.turns) after.errs a.errs u.errs);
  calm = subst (λ (k : Counts). WritesAreCalm k after.counts) a.counts u.calm;
  cause = subst (λ (k : Counts). CannotRead u.origin after.told k after.counts) a.counts u.cause;
})
halted_then job left first more later before middle after s end a (starved u) = starved (record {
  first = first ++ u.first;
  later = u.later ++ later;
  is = grouped first more u.first u.later later u.is;
  turns = a.turns ++ u.turns;
  in_turn = in_turn_append job left before.told middle.told after.told first u.first a.turns u.turns a.in_turn u.in_turn;
  out = subst (λ (piece : List ℕ). Appends before.out piece after.out) (sym (out_of-append a.turns u.turns)) (Appends-append before.out (out_of a.turns) middle.out (out_of u.turns) after.out a.out u.out);
  errs = subst (λ (piece : List ℕ). Appends before.errs piece after.errs) (sym (errs_of-append a.turns u.turns)) (Appends-append before.errs (errs_of a.turns) middle.errs (errs_of u.turns) after.errs a.errs u.errs);
  counts = u.counts ∙ a.counts;
})
halted_then job left first more later before middle after s end a (unwritten u) = unwritten (record {
  first = first ++ u.first;
  later = u.later ++ later;
  is = grouped first more u.first u.later later u.is;
  turns = a.turns ++ u.turns;
  in_turn = in_turn_append job left before.told middle.told after.told first u.first a.turns u.turns a.in_turn u.in_turn;
  out_bytes = length (out_of a.turns) + u.out_bytes;
  errs_bytes = length (errs_of a.turns) + u.errs_bytes;
  out = subst (λ (piece : List ℕ). Appends before.out (take (length (out_of a.turns) + u.out_bytes) piece) after.out) (sym (out_of-append a.turns u.turns)) (part_put before.out middle.out after.out (out_of a.turns) (out_of u.turns) u.out_bytes a.out u.out);
  errs = subst (λ (piece : List ℕ). Appends before.errs (take (length (errs_of a.turns) + u.errs_bytes) piece) after.errs) (sym (errs_of-append a.turns u.turns)) (part_put before.errs middle.errs after.errs (errs_of a.turns) (errs_of u.turns) u.errs_bytes a.errs u.errs);
  calm = subst (λ (k : Counts). ReadsAreCalm k after.counts) a.counts u.calm;
  cause = subst (λ (k : Counts). CannotWrite job k after.counts) a.counts u.cause;
})

-- ---- the files of a loop over their names

abbrev texts : List (Bor (List ℕ)) → List (List ℕ)
texts = map (λ s. s.now)

-- one name more
files_more : (names : List (Bor (List ℕ))) (i : ℕ) (d : Bor (List ℕ)) → i < length names → map file (texts (take (i + 1) names)) ≡ map file (texts (take i names)) ++ file (get_or names i d).now ∷ []
files_more names i d more =
    ap (λ (xs : List (Bor (List ℕ))). map file (texts xs)) (take_more names i d more)
    ∙ ap (map file) (map-append (λ (s : Bor (List ℕ)). s.now) (take i names) (get_or names i d ∷ []))
    ∙ map-append file (texts (take i names)) ((get_or names i d).now ∷ [])

-- the names before, this one, and those behind it
files_around : (names : List (Bor (List ℕ))) (i : ℕ) (d : Bor (List ℕ)) → i < length names
    → map file (texts names) ≡ map file (texts (take i names)) ++ ((file (get_or names i d).now ∷ []) ++ map file (texts (drop (i + 1) names)))
files_around names i d more =
    ap (λ (xs : List (Bor (List ℕ))). map file (texts xs)) (sym (take-append-drop (i + 1) names))
    ∙ ap (map file) (map-append (λ (s : Bor (List ℕ)). s.now) (take (i + 1) names) (drop (i + 1) names))
    ∙ map-append file (texts (take (i + 1) names)) (texts (drop (i + 1) names))
    ∙ ap (λ (xs : List Origin). xs ++ map file (texts (drop (i + 1) names))) (files_more names i d more)
    ∙ append_assoc (map file (texts (take i names))) (file (get_or names i d).now ∷ []) (map file (texts (drop (i + 1) names)))

pub through_files : (job : Job) (left : Option (List ℕ)) (names : List (Bor (List ℕ))) (i : ℕ) (d : Bor (List ℕ)) (before middle after : World) (s next whole : Status) → i < length names → whole ≡ or_next s next
    → Through job left (map file (map (λ s. s.now) (take i names))) before middle s → Through job left (file (get_or names i d).now ∷ []) middle after next → Through job left (map file (map (λ s. s.now) (take (i + 1) names))) before after whole
through_files job left names i d before middle after s next whole more is a b =
    subst (λ (xs : List Origin). Through job left xs before after whole) (sym (files_more names i d more))
    (subst (λ (w : Status). Through job left (map file (texts (take i names)) ++ file (get_or names i d).now ∷ []) before after w) (sym is)
    (through_then job left (map file (texts (take i names))) (file (get_or names i d).now ∷ []) before middle after s next a b))

pub halted_files : (job : Job) (left : Option (List ℕ)) (names : List (Bor (List ℕ))) (i : ℕ) (d : Bor (List ℕ)) (before middle after : World) (s end : Status) → i < length names
    → Through job left (map file (map (λ s. s.now) (take i names))) before middle s → Halted job left (file (get_or names i d).now ∷ []) middle after end → Halted job left (map file (map (λ s. s.now) names)) before after end
halted_files job left names i d before middle after s end more a b =
    subst (λ (xs : List Origin). Halted job left xs before after end) (sym (files_around names i d more))
    (halted_then job left (map file (texts (take i names))) (file (get_or names i d).now ∷ []) (map file (texts (drop (i + 1) names))) before middle after s end a b)

pub through_all : (job : Job) (left : Option (List ℕ)) (names : List (Bor (List ℕ))) (i : ℕ) (before after : World) (s : Status) → length names ≤ i → Through job left (map file (map (λ s. s.now) (take i names))) before after s → Through job left (map file (map (λ s. s.now) names)) before after s
through_all job left names i before after s most a = subst (λ (xs : List (Bor (List ℕ))). Through job left (map file (texts xs)) before after s) (take_all i names most) a

-- where files are named, they are the sources
origins_named : (names : List (Bor (List ℕ))) → (length names == 0) ≡ false → map file (texts names) ≡ origins (texts names)
origins_named [] none = absurd cc
origins_named (name ∷ names) some = refl

pub ended_named : (job : Job) (left : Option (List ℕ)) (names items : List (Bor (List ℕ))) (before after : World) (s : Status) → names ≡ items → (length names == 0) ≡ false → Ended job left (map file (map (λ s. s.now) names)) before after s → Ended job left (origins (map (λ s. s.now) items)) before after s
ended_named job left names items before after s is some ended =
    subst (λ (xs : List (Bor (List ℕ))). Ended job left (origins (texts xs)) before after s) is
    (subst (λ (xs : List Origin). Ended job left xs before after s) (origins_named names some) ended)
