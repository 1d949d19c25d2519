-- What `labels` answers: of each token what it is to the labels of a chunk.
use Rattle.std.specs.Prelude.{◌≡◌, ℕ, List}
use Rattle.luf_scope.specs.Local.{Spelling}
use Rattle.luf_scope.specs.Jump.{jump_role_of}
use Rattle.luf_scope.specs.Marks.{mark_at}
use Rattle.luf_scope.specs.declared.jump.JumpRole.{JumpRole}
use Rattle.luf_scope.specs.declared.occurrence.Occurrence.{Occurrence}

-- what is written down of the names of labels is the role of each token, and no other token has one
abbrev pub AreJumps : Spelling → List Occurrence → List (ℕ × JumpRole) → Type 0
AreJumps spelled occurrences jumps = (token : ℕ) → mark_at jumps token ≡ jump_role_of spelled occurrences token
