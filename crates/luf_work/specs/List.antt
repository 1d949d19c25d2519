-- What `list` writes, accepts and refuses. Our own rules. Until sources can be listed, every input is read as a chunk.
use Rattle.std.specs.Prelude.{◌≡◌, ℕ, ◌<◌, ◌≤◌, List, length}
use Rattle.luf_list.specs.Listing.{listing}
use Rattle.luf_proto.specs.Function.{Function}
use Rattle.luf_undump.specs.Answers.{HasCause}
use Rattle.luf_undump.specs.Grammar.{IsChunkOf}
use Rattle.luf_undump.specs.declared.error.UndumpErr.TheVariants.{Bad}
use Rattle.luf_work.specs.Limits.{source_limit}
use Rattle.luf_work.specs.declared.refusal.Refusal.{Refusal}
use Rattle.luf_work.specs.declared.refusal.Refusal.TheVariants.{TooLarge, Chunk}

-- the listing of the function whose chunk the input is
pub record IsListing (source text : List ℕ) : Type 0 where
  pub main : Function
  pub is : IsChunkOf source main
  pub text_is : text ≡ listing main

-- what `list` accepts: the chunk of a function, within the limit of 4 MiB
pub record IsListAccepted (source : List ℕ) : Type 0 where
  pub within : length source ≤ source_limit
  pub main : Function
  pub is : IsChunkOf source main

-- the cause of each refusal of `list`: the limit is looked at first, and then the bytes from left to right
abbrev pub IsListRefusal : List ℕ → Refusal → Type 0
IsListRefusal source TooLarge = source_limit < length source
IsListRefusal source (Chunk at what) = length source ≤ source_limit × HasCause source (Bad at what)
IsListRefusal source _ = ⊥
