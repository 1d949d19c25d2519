-- The rows of a document, as far as they are added.
use Rattle.std.proofs.Common.{◌≡◌, ℕ, ◌+◌, ◌≤◌, List, [], ◌∷◌, ◌++◌, length, sym, ap, ◌∙◌, subst, arith, append-nil, append_assoc, length-append}
use Rattle.std.proofs.Math.ListN.{set, get_or}
use Rattle.std.proofs.Math.Seq.{set-append_seam, get_or-append_seam}
use Rattle.luf_doc.specs.declared.size.Size.{Size}
use Rattle.luf_doc.specs.declared.table.Node.{Node}
use Rattle.luf_doc.specs.Document.{Document, Documents, nothing, also}
use Rattle.luf_doc.specs.Table.{node_count, all_count, places, inside, row_of, rows_from, all_rows, kind_of}
use Rattle.luf_doc.specs.Sizes.{size_of, own_size, then}
use Rattle.luf_doc.proofs.SizeLoop.{Counts, counts_own, counts_more, counts_whole}
use Rattle.luf_doc.proofs.TableLaws.{rows_count, rows_inside, count_inside}

-- Of document `d`, whose row is row `at`, the rows before it and the row that keeps its place are `opened`; `rows` are there
-- now, `n` in number; `children` and `size` are those of what has been added, and `left` is still to be added.
pub record Adding (d : Document) (at : ℕ) (opened rows : List Node) (n : ℕ) (children : List ℕ) (size : Size) (left : Documents) : Type 0 where
  pub below : 1 + all_count left ≤ node_count d
  pub room : n + all_count left ≡ at + node_count d
  pub rows_are : rows ++ all_rows n left ≡ opened ++ all_rows (at + 1) (inside d)
  pub children_are : children ++ places n left ≡ places (at + 1) (inside d)
  pub sizes : Counts d size left

-- nothing inside is added
pub adding_first : (d : Document) (at : ℕ) (opened : List Node) (n : ℕ) (children : List ℕ) (size : Size) (left : Documents)
    → n ≡ at + 1 → children ≡ [] → size ≡ own_size d → left ≡ inside d → Adding d at opened opened n children size left
adding_first d at opened n children size left n_is children_is size_is left_is =
    let count = count_inside d in
    let here = ap all_count left_is in
    record {
      below = omega (arith, count, here);
      room = omega (arith, count, here, n_is);
      rows_are = λ i. opened ++ all_rows (n_is i) (left_is i);
      children_are = λ i. children_is i ++ places (n_is i) (left_is i);
      sizes = subst (λ s. Counts d s left) (sym size_is) (subst (Counts d (own_size d)) (sym left_is) (counts_own d));
    }

-- one document more
pub adding_more : (d : Document) (at : ℕ) (opened rows : List Node) (n : ℕ) (children : List ℕ) (size : Size) (left : Documents)
    → Adding d at opened rows n children size left
    → (x : Document) (rest : Documents) → left ≡ also x rest
    → (rows' : List Node) (n' : ℕ) (children' : List ℕ) (size' : Size) → n ≡ length rows → n' ≡ length rows' → rows' ≡ rows ++ rows_from n x → children' ≡ children ++ n ∷ [] → size' ≡ then size (size_of x)
    → Adding d at opened rows' n' children' size' rest
adding_more d at opened rows n children size left so_far x rest left_is rows' n' children' size' len len' rows_is children_is size_is =
    let known : Adding d at opened rows n children size (also x rest) = subst (Adding d at opened rows n children size) left_is so_far in
    let both = length-append rows (rows_from n x) in
    let added = rows_count n x in
    let longer : length rows' ≡ length (rows ++ rows_from n x) = ap length rows_is in
    let next : n' ≡ n + node_count x = omega (arith, both, added, longer, len, len') in
    let room = known.room in
    let below = known.below in
    record {
      below = omega (arith, below);
      room = omega (arith, room, next);
      rows_are = (λ i. rows_is i ++ all_rows (next i) rest) ∙ append_assoc rows (rows_from n x) (all_rows (n + node_count x) rest) ∙ known.rows_are;
      children_are = (λ i. children_is i ++ places (next i) rest) ∙ append_assoc children (n ∷ []) (places (n + node_count x) rest) ∙ known.children_are;
      sizes = subst (λ s. Counts d s rest) (sym size_is) (counts_more d size x rest known.sizes);
    }

-- all is added: the size is that of the document, and its row is put in its place
pub added_size : (d : Document) (at : ℕ) (opened rows : List Node) (n : ℕ) (children : List ℕ) (size : Size) (left : Documents)
    → Adding d at opened rows n children size left → left ≡ nothing → size ≡ size_of d
added_size d at opened rows n children size left so_far left_is = counts_whole d size (subst (Counts d size) left_is so_far.sizes)

pub added_rows : (d : Document) (at : ℕ) (opened rows : List Node) (n : ℕ) (children : List ℕ) (size : Size) (left : Documents)
    → Adding d at opened rows n children size left → left ≡ nothing
    → (before : List Node) (place : Node) → opened ≡ before ++ place ∷ [] → place.kind ≡ kind_of d → at ≡ length before
    → (row : Node) → row ≡ get_or rows at row → (children' : List ℕ) → children' ≡ children
    → set rows at (record { kind = row.kind; children = children'; flat = size.flat; ended = size.ended; forced = size.forced }) ≡ before ++ rows_from at d
added_rows d at opened rows n children size left so_far left_is before place opened_is kind_is at_is row row_is children' same =
    let sized = added_size d at opened rows n children size left so_far left_is in
    let inner = all_rows (at + 1) (inside d) in
    let done : rows ++ all_rows n nothing ≡ opened ++ inner = subst (λ ds. rows ++ all_rows n ds ≡ opened ++ inner) left_is so_far.rows_are in
    let rows_is : rows ≡ before ++ place ∷ inner =
    sym (append-nil rows) ∙ done ∙ ap (λ (o : List Node). o ++ inner) opened_is ∙ append_assoc before (place ∷ []) inner in
    let none_left : children ++ places n nothing ≡ places (at + 1) (inside d) = subst (λ ds. children ++ places n ds ≡ places (at + 1) (inside d)) left_is so_far.children_are in
    let children_is : children' ≡ places (at + 1) (inside d) = same ∙ sym (append-nil children) ∙ none_left in
    let row_is_place : row ≡ place = row_is ∙ (λ i. get_or (rows_is i) (at_is i) row) ∙ get_or-append_seam before place inner row in
    let row_kind : row.kind ≡ kind_of d = ap (λ (r : Node). r.kind) row_is_place ∙ kind_is in
    let new : Node = record { kind = row.kind; children = children'; flat = size.flat; ended = size.ended; forced = size.forced } in
    let new_is : new ≡ row_of at d = λ i. record { kind = row_kind i; children = children_is i; flat = (sized i).flat; ended = (sized i).ended; forced = (sized i).forced } in
    (λ i. set (rows_is i) (at_is i) new)
    ∙ set-append_seam before place inner new
    ∙ ap (λ (r : Node). before ++ r ∷ inner) new_is
    ∙ ap (λ (more : List Node). before ++ more) (sym (rows_inside at d))
