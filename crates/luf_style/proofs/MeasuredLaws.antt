-- What is measured of a document that is written flat.
use Rattle.std.proofs.Common.{◌≡◌, ℕ, ◌+◌, min, Bool, true, false, ◌||◌, cond, List, [], ◌∷◌, refl, sym, ap, ◌∙◌}
use Rattle.std.proofs.Math.Bool.{or_assoc}
use Rattle.luf_doc.specs.Document.{Document, Documents, text, between, trail, nest, group, sequence, nothing, also}
use Rattle.luf_doc.specs.Flat.{flat, all_flat, lead, all_lead, forces, any_forces, is_ended, any_ended}
use Rattle.luf_doc.proofs.FlatLaws.{flat_after, all_flat_after}
use Rattle.luf_draft.specs.declared.mark.Part.TheVariants.{Nest, Group, Sequence}
use Rattle.luf_style.specs.inner.Measured.{Stretch, Measured, measured, unmeasured, need, before_outer, open_before, needs_of, all_needs}
use Rattle.luf_style.specs.inner.Tape.{Tape, tape_close, tape, all_tape}

-- a document stands before what has been measured
abbrev pub document_before : Document → Measured → Measured
document_before d m = record {
  lead = lead d m.lead;
  now = record { bytes = flat d m.now.bytes; ended = is_ended d || m.now.ended; forced = forces d || m.now.forced; behind = m.now.behind };
  outer = m.outer;
  needs = needs_of d m.lead m.needs;
}

abbrev pub all_before : Documents → Measured → Measured
all_before ds m = record {
  lead = all_lead ds m.lead;
  now = record { bytes = all_flat ds m.now.bytes; ended = any_ended ds || m.now.ended; forced = any_forces ds || m.now.forced; behind = m.now.behind };
  outer = m.outer;
  needs = all_needs ds m.lead m.needs;
}

-- an inner part of so many bytes
abbrev part_of : (bytes : ℕ) (ended forced : Bool) (behind : ℕ) → Stretch
part_of bytes ended forced behind = record { bytes = bytes; ended = ended || false; forced = forced || false; behind = behind }

-- the part around it, once the inner part is whole: `total` are its bytes
joined : (bytes : ℕ) (ended forced : Bool) (behind total : ℕ) (outer : Stretch) → total ≡ cond ended bytes (bytes + outer.bytes)
    → before_outer (part_of bytes ended forced behind) outer ≡ record { bytes = total; ended = ended || outer.ended; forced = forced || outer.forced; behind = outer.behind }
joined bytes true true behind total outer is = ap (λ (n : ℕ). record { bytes = n; ended = true; forced = true; behind = outer.behind }) (sym is)
joined bytes true false behind total outer is = ap (λ (n : ℕ). record { bytes = n; ended = true; forced = outer.forced; behind = outer.behind }) (sym is)
joined bytes false true behind total outer is = ap (λ (n : ℕ). record { bytes = n; ended = outer.ended; forced = true; behind = outer.behind }) (sym is)
joined bytes false false behind total outer is = ap (λ (n : ℕ). record { bytes = n; ended = outer.ended; forced = outer.forced; behind = outer.behind }) (sym is)

-- what it needs if it is a group
needed : (bytes : ℕ) (ended forced : Bool) (behind total : ℕ) → total ≡ cond ended bytes (bytes + behind)
    → need (part_of bytes ended forced behind) ≡ cond forced 4294967295 (min total 4294967295)
needed bytes true true behind total is = refl
needed bytes true false behind total is = ap (λ (n : ℕ). min n 4294967295) (sym is)
needed bytes false true behind total is = refl
needed bytes false false behind total is = ap (λ (n : ℕ). min n 4294967295) (sym is)

-- one document before others
before_others : (first : Document) (more : Documents) (m : Measured) → document_before first (all_before more m) ≡ all_before (also first more) m
before_others first more m =
    ap (λ (e : Bool). record {
      lead = lead first (all_lead more m.lead);
      now = record { bytes = flat first (all_flat more m.now.bytes); ended = e; forced = forces first || (any_forces more || m.now.forced); behind = m.now.behind };
      outer = m.outer;
      needs = needs_of first (all_lead more m.lead) (all_needs more m.lead m.needs);
    })
    (sym (or_assoc (is_ended first) (any_ended more) m.now.ended))
    ∙ ap (λ (f : Bool). record {
      lead = lead first (all_lead more m.lead);
      now = record { bytes = flat first (all_flat more m.now.bytes); ended = (is_ended first || any_ended more) || m.now.ended; forced = f; behind = m.now.behind };
      outer = m.outer;
      needs = needs_of first (all_lead more m.lead) (all_needs more m.lead m.needs);
    })
    (sym (or_assoc (forces first) (any_forces more) m.now.forced))

-- what stands in a part, before the end of the part
abbrev part_before : (Measured → Measured) → Measured → Measured
part_before inside m = inside (record { lead = m.lead; now = unmeasured m.lead; outer = m.now ∷ m.outer; needs = m.needs })

nest_before : (inner : Document) (m : Measured) → open_before Nest (part_before (document_before inner) m) (m.now ∷ m.outer) ≡ document_before (nest inner) m
nest_before inner m =
    ap (λ (s : Stretch). record { lead = lead inner m.lead; now = s; outer = m.outer; needs = needs_of inner m.lead m.needs })
    (joined (flat inner 0) (is_ended inner) (forces inner) m.lead (flat inner m.now.bytes) m.now (flat_after inner m.now.bytes))

sequence_before : (items : Documents) (m : Measured) → open_before Sequence (part_before (all_before items) m) (m.now ∷ m.outer) ≡ document_before (sequence items) m
sequence_before items m =
    ap (λ (s : Stretch). record { lead = all_lead items m.lead; now = s; outer = m.outer; needs = all_needs items m.lead m.needs })
    (joined (all_flat items 0) (any_ended items) (any_forces items) m.lead (all_flat items m.now.bytes) m.now (all_flat_after items m.now.bytes))

group_before : (inner : Document) (m : Measured) → open_before Group (part_before (document_before inner) m) (m.now ∷ m.outer) ≡ document_before (group inner) m
group_before inner m =
    ap (λ (s : Stretch). record { lead = lead inner m.lead; now = s; outer = m.outer; needs = need (part_of (flat inner 0) (is_ended inner) (forces inner) m.lead) ∷ needs_of inner m.lead m.needs })
    (joined (flat inner 0) (is_ended inner) (forces inner) m.lead (flat inner m.now.bytes) m.now (flat_after inner m.now.bytes))
    ∙ ap (λ (n : ℕ). record {
      lead = lead inner m.lead;
      now = record { bytes = flat inner m.now.bytes; ended = is_ended inner || m.now.ended; forced = forces inner || m.now.forced; behind = m.now.behind };
      outer = m.outer;
      needs = n ∷ needs_of inner m.lead m.needs;
    })
    (needed (flat inner 0) (is_ended inner) (forces inner) m.lead (flat inner m.lead) (flat_after inner m.lead))

mutual
  pub measured_tape : (d : Document) (rest : List Tape) → measured (tape d rest) ≡ document_before d (measured rest)
  measured_tape (text bytes) rest = refl
  measured_tape (between gap) rest = refl
  measured_tape trail rest = refl
  measured_tape (nest inner) rest = ap (λ (m : Measured). open_before Nest m m.outer) (measured_tape inner (tape_close ∷ rest)) ∙ nest_before inner (measured rest)
  measured_tape (group inner) rest = ap (λ (m : Measured). open_before Group m m.outer) (measured_tape inner (tape_close ∷ rest)) ∙ group_before inner (measured rest)
  measured_tape (sequence items) rest = ap (λ (m : Measured). open_before Sequence m m.outer) (measured_all items (tape_close ∷ rest)) ∙ sequence_before items (measured rest)

  pub measured_all : (ds : Documents) (rest : List Tape) → measured (all_tape ds rest) ≡ all_before ds (measured rest)
  measured_all nothing rest = refl
  measured_all (also first more) rest = measured_tape first (all_tape more rest) ∙ ap (document_before first) (measured_all more rest) ∙ before_others first more (measured rest)

pub needs_of_whole : (d : Document) → (measured (tape d [])).needs ≡ needs_of d 0 []
needs_of_whole d = ap (λ (m : Measured). m.needs) (measured_tape d [])
