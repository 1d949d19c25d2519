-- What is told of the jumps of a chunk, where all that it says was read or its outline.
use Rattle.std.proofs.Common.{◌≡◌, ℕ, ◌<◌, ◌^◌, ◌⊎◌, inl, inr, ⊎_elim, List, sym, ap, ◌∙◌, subst}
use Rattle.luf_tree.specs.declared.tree.Chunk.{Chunk}
use Rattle.luf_scope.specs.Fault.{jump_faults}
use Rattle.luf_scope.specs.Jump.{jump_role_of}
use Rattle.luf_scope.specs.Links.{occurrences_of}
use Rattle.luf_scope.specs.Local.{Spelling}
use Rattle.luf_scope.specs.Order.{AreOrdered}
use Rattle.luf_scope.specs.Outline.{outlined, outline_of, AreReadOf}
use Rattle.luf_scope.specs.declared.occurrence.Occurrence.{Occurrence}
use Rattle.luf_scope.proofs.Outlined.{outline_ordered, outline_jumps, outline_roles}
use Rattle.luf_goto.specs.inner.Sites.{IsInOrder}

-- what holds of all, and of an outline where it holds of all
pub either : (P : List Occurrence → Type 0) (c : Chunk) (os : List Occurrence) → AreReadOf os c → P (occurrences_of c) → P (outline_of c) → P os
either P c os read all outline = ⊎_elim (λ (is : os ≡ occurrences_of c). subst P (sym is) all) (λ (is : os ≡ outline_of c). subst P (sym is) outline) read

pub in_order : (c : Chunk) (os : List Occurrence) → AreReadOf os c → IsInOrder (occurrences_of c) → IsInOrder os
in_order c os read order = either IsInOrder c os read order (record { tokens = order.tokens; few = order.few; order = outline_ordered 0 order.tokens order.tokens (occurrences_of c) order.order })

pub jumps_read : (spelled : Spelling) (c : Chunk) (os : List Occurrence) → AreReadOf os c → jump_faults spelled os ≡ jump_faults spelled (occurrences_of c)
jumps_read spelled c os read = either (λ xs. jump_faults spelled xs ≡ jump_faults spelled (occurrences_of c)) c os read (λ i. jump_faults spelled (occurrences_of c)) (outline_jumps spelled (occurrences_of c))

pub roles_read : (spelled : Spelling) (c : Chunk) (os : List Occurrence) → AreReadOf os c → (token : ℕ) → jump_role_of spelled os token ≡ jump_role_of spelled (occurrences_of c) token
roles_read spelled c os read token = either (λ xs. jump_role_of spelled xs token ≡ jump_role_of spelled (occurrences_of c) token) c os read (λ i. jump_role_of spelled (occurrences_of c) token) (outline_roles spelled (occurrences_of c) token)
