-- The least numbers of labels are those of the first names that are free.
use Rattle.std.proofs.Common.{◌≡◌, ℕ, ◌<◌, ◌≤◌, true, Option, Some, None, option_map, IfSome, List, [], ◌∷◌, All, map, length, slice_get, get_or, refl, sym, ap, subst, ◌∙◌, ⊎_elim, arith}
use Rattle.std.specs.List.{filter_map, cons_option}
use Rattle.std.proofs.lemmas.List.{length-map}
use Rattle.std.proofs.lemmas.Option.{none-some, same_Some, slice_get-map}
use Rattle.std.proofs.lemmas.Bool.{cases_lt}
use Rattle.luf_name.specs.Barred.{IsBarred}
use Rattle.luf_name.specs.Order.{IsName, IsNth, number_of}
use Rattle.luf_name.proofs.Naming.{none_left_out}
use Rattle.luf_name.proofs.Rising.{names_rise, one_name}
use Rattle.luf_scope.specs.Jump.{LabelAt, label_by, labels_of}
use Rattle.luf_scope.specs.Local.{Spelling, FunctionAt, functions_of}
use Rattle.luf_scope.specs.Order.{is_label, StandsInBlock, Within}
use Rattle.luf_scope.specs.declared.occurrence.Occurrence.{Occurrence}
use Rattle.luf_scope.specs.declared.occurrence.Occurrence.TheVariants.{Label}
use Rattle.luf_scope.proofs.Laying.{all_filter_map}
use Rattle.luf_interf.specs.Interference.{IsLabel, LabelsInterfere}
use Rattle.luf_interf.specs.NewNames.{IsFirstFree, IsFreeLabel}
use Rattle.luf_interf.specs.declared.label_rows.LabelRow.{LabelRow}
use Rattle.luf_interf.specs.inner.LabelRows.{class_of, row_of}
use Rattle.luf_interf.specs.inner.LabelNumbers.{IsBarredNumber, IsTaken, IsLeastNumber, AreLeastNumbers}
use Rattle.luf_interf.specs.inner.LabelNames.{name_of_number, naming_by, LabelsLie, AreLabelNames}
use Rattle.luf_interf.proofs.Among.{all_among, among_at}
use Rattle.luf_interf.proofs.Labels.{label_from, labels_rise, nest}
use Rattle.luf_interf.specs.RenamingLaws.{said_in}
use Rattle.luf_lex.specs.declared.token.Tok.{Tok}
use Rattle.luf_tree.specs.declared.tree.Chunk.{Chunk}
use Rattle.luf_tree.specs.Grammar.{IsChunk}
use Rattle.luf_scope.proofs.Places.{block_lies}
use Rattle.luf_scope.proofs.Blocks.{block_lies as blocks_lie}

-- what a chunk says lies so
pub labels_lie : (toks : List Tok) (chunk : Chunk) → IsChunk toks chunk → LabelsLie (said_in chunk)
labels_lie toks chunk derived = record { tokens = length toks; order = block_lies derived; nested = (blocks_lie derived).pairs }

-- ---- names and numbers

pub number_named : (n : ℕ) → IsNth (name_of_number n) n
unfolding name_of_number
number_named n = (none_left_out n).1

one_number : (n m : ℕ) → name_of_number n ≡ name_of_number m → n ≡ m
one_number n m same = sym (number_named n).1 ∙ ap number_of same ∙ (number_named m).1

-- ---- rows and labels

abbrev row_at : LabelAt → LabelRow
row_at l = record { class = class_of l.function; from = l.from; to = l.to }

map_consed : {X Y : Type 0} (f : X → Y) (o : Option X) (xs : List X) → cons_option (option_map f o) (map f xs) ≡ map f (cons_option o xs)
map_consed f None xs = refl
map_consed f (Some x) xs = refl

module _ (spelled : Spelling) (fs : List FunctionAt) where
  one_row : (u : Occurrence) → row_of fs u ≡ option_map row_at (label_by spelled fs u)
  one_row (Label name from to at_end) = refl
  one_row _ = refl

  pub rows_are : (us : List Occurrence) → filter_map (row_of fs) us ≡ map row_at (filter_map (label_by spelled fs) us)
  rows_are [] = refl
  rows_are (u ∷ us) = (λ i. cons_option (one_row u i) (rows_are us i)) ∙ map_consed row_at (label_by spelled fs u) (filter_map (label_by spelled fs) us)

same_class : (o p : Option ℕ) → class_of o ≡ class_of p → o ≡ p
same_class None None is = refl
same_class None (Some n) is = absurd (omega (arith, is))
same_class (Some n) None is = absurd (omega (arith, is))
same_class (Some n) (Some m) is = let same : n ≡ m = omega (arith, is) in ap Some same

-- a row has a block of some length
pub rows_long : (os : List Occurrence) (lies : LabelsLie os) (rows : List LabelRow) → rows ≡ filter_map (row_of (functions_of os)) os → All (λ r. r.from < r.to) rows
rows_long os lies rows is = subst (All (λ r. r.from < r.to)) (sym is) (all_filter_map (row_of (functions_of os)) (λ r. r.from < r.to) os
    (λ i d within. long (get_or os i d) (lies.order.within i d within).own.block))
  where
    long : (u : Occurrence) → (is_label u ≡ true → StandsInBlock u) → IfSome (row_of (functions_of os) u) (λ r. r.from < r.to)
    long (Label name from to at_end) block = let own = block refl in let begun = own.begun in let ends = own.ends in omega (arith, begun, ends)
    long _ block = tt

module _ (os : List Occurrence) (lies : LabelsLie os) (spelled : Spelling) where
  -- ---- which labels interfere

  module _ (n : ℕ) (l : LabelAt) (is : IsLabel spelled os n l) where
    own : (l.from ≤ l.token) × (l.token < l.to)
    own =
        let f = label_from 0 lies.tokens lies.tokens os lies.order spelled l (among_at (labels_of spelled os) n l is) in
        let block = (all_among (Within 0 lies.tokens lies.tokens) os f.0 lies.order.within f.1).own.block f.2.is in
        let begun = block.begun in let ends = block.ends in let token = f.2.token in let from = f.2.from in let to = f.2.to in
        (omega (arith, begun, token, from), omega (arith, ends, token, to))

  module _ (m n : ℕ) (k l : LabelAt) (below : m < n) (earlier : IsLabel spelled os m k) (is : IsLabel spelled os n l) where
    rises : k.token < l.token
    rises = labels_rise 0 lies.tokens lies.tokens os lies.order spelled m n k l below earlier is

    meets : k.function ≡ l.function → l.from < k.to → LabelsInterfere k l
    meets same reaches =
        let order = rises in let k_own = own m k earlier in let l_own = own n l is in
        let held = nest 0 lies.tokens lies.tokens os lies.order spelled lies.nested k l in
        let k_among = among_at (labels_of spelled os) m k earlier in
        let l_among = among_at (labels_of spelled os) n l is in
        record {
          function = same;
          blocks = ⊎_elim
              (λ before. held l.from k_among l_among (omega (arith, before), omega (arith, reaches)) (omega arith, omega (arith, l_own)))
              (λ behind. held k.from k_among l_among (omega arith, omega (arith, k_own)) (omega (arith, behind), omega (arith, k_own, l_own, order)))
              (cases_lt k.from l.from);
        }

    reaches_if : LabelsInterfere k l → l.from < k.to
    reaches_if i =
        let k_own = own m k earlier in let l_own = own n l is in
        ⊎_elim (λ outer. omega (arith, outer, l_own)) (λ within. omega (arith, within, k_own)) i.blocks

  -- ---- the first name that is free

  module _ (rows : List LabelRow) (numbers : List ℕ) (rows_is : rows ≡ filter_map (row_of (functions_of os)) os) (are : AreLeastNumbers rows numbers) where
    mapped : rows ≡ map row_at (labels_of spelled os)
    mapped = rows_is ∙ rows_are spelled (functions_of os) os

    row_there : (n : ℕ) (l : LabelAt) → IsLabel spelled os n l → slice_get rows n ≡ Some (row_at l)
    row_there n l is = ap (λ rs. slice_get rs n) mapped ∙ slice_get-map row_at (labels_of spelled os) n ∙ ap (option_map row_at) is

    label_there : (n : ℕ) (r : LabelRow) → slice_get rows n ≡ Some r → (l : LabelAt) × IsLabel spelled os n l × (row_at l ≡ r)
    label_there n r is = by (slice_get (labels_of spelled os) n) refl (sym (slice_get-map row_at (labels_of spelled os) n) ∙ sym (ap (λ rs. slice_get rs n) mapped) ∙ is)
      where
        by : (o : Option LabelAt) → slice_get (labels_of spelled os) n ≡ o → option_map row_at o ≡ Some r → (l : LabelAt) × IsLabel spelled os n l × (row_at l ≡ r)
        by None at same = absurd (none-some r same)
        by (Some l) at same = (l, at, same_Some (row_at l) r same)

    module _ (n : ℕ) (l : LabelAt) (is : IsLabel spelled os n l) where
      least : IsLeastNumber rows numbers n (row_at l) (get_or numbers n 0)
      least = are.each n (row_at l) (row_there n l is)

      free : IsFreeLabel spelled os (naming_by numbers) n l (naming_by numbers n)
      free = record {
        allowed = λ b. least.allowed (record { name = naming_by numbers n; is_nth = number_named (get_or numbers n 0); barred = b });
        no_earlier = λ m k below earlier interfere same. least.free (record {
          number = m;
          other = row_at k;
          earlier = below;
          is = row_there m k earlier;
          class = ap class_of interfere.function;
          reaches = reaches_if m n k l below earlier is interfere;
          same = one_number (get_or numbers m 0) (get_or numbers n 0) same;
        });
      }

      -- a name before it is barred, or an earlier label has it
      module _ (other : List ℕ) (its : IsName other) (free_too : IsFreeLabel spelled os (naming_by numbers) n l other) where
        named : (name : List ℕ) → IsNth name (number_of other) → name ≡ other
        named name is_nth = one_name (number_of other) name other is_nth (its, refl)

        not_barred : IsBarredNumber (number_of other) → ⊥
        not_barred b = free_too.allowed (subst IsBarred (named b.name b.is_nth) b.barred)

        not_taken : IsTaken rows numbers n (row_at l) (number_of other) → ⊥
        not_taken t =
            let found = label_there t.number t.other t.is in
            let same : found.0.function ≡ l.function = same_class found.0.function l.function (ap (λ r. r.class) found.2 ∙ t.class) in
            let to : found.0.to ≡ t.other.to = ap (λ r. r.to) found.2 in
            let reaches = t.reaches in
            free_too.no_earlier t.number found.0 t.earlier found.1 (meets t.number n found.0 l t.earlier found.1 is same (omega (arith, to, reaches)))
            (ap name_of_number t.same ∙ named (name_of_number (number_of other)) (number_named (number_of other)))

      first : IsFirstFree (IsFreeLabel spelled os (naming_by numbers) n l) (naming_by numbers n)
      first = record {
        is_name = (number_named (get_or numbers n 0)).0;
        free = free;
        first = λ other its before free_too.
            let below : number_of other < get_or numbers n 0 = let rise = (names_rise other (naming_by numbers n) its (number_named (get_or numbers n 0)).0).0 before in let number = (number_named (get_or numbers n 0)).1 in omega (arith, rise, number) in
            ⊎_elim (not_barred other its free_too) (not_taken other its free_too) (least.least (number_of other) below);
      }

    pub are_named : AreLabelNames spelled os numbers
    are_named = record { count = are.count ∙ ap length mapped ∙ length-map (labels_of spelled os) row_at; least = first }
