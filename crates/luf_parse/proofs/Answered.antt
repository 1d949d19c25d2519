-- A tree that there is is the answer, or no memory was found.
use Rattle.std.proofs.Common.{◌≡◌, ◌≤◌, ◌⊎◌, inl, inr, List, Ok, Err, ap, refl}
use Rattle.std.specs.Prelude.{Result, IfOk, IfErr}
use Rattle.luf_lex.specs.declared.token.Tok.{Tok}
use Rattle.luf_tree.specs.declared.tree.Chunk.{Chunk}
use Rattle.luf_tree.specs.Grammar.{IsChunk}
use Rattle.luf_tree.specs.Level.{depth_of, level_limit}
use Rattle.luf_parse.specs.Cause.{IsCause}
use Rattle.luf_descent.specs.declared.error.ParseErr.{ParseErr}
use Rattle.luf_descent.specs.declared.error.ParseErr.TheVariants as error
use Rattle.luf_parse.proofs.OneTree.{one_tree}

refused : {toks : List Tok} (e : ParseErr) → IsCause toks e → (tree : Chunk) → IsChunk toks tree → depth_of tree ≤ level_limit → ◌≡◌ {A = Result Chunk ParseErr} (Err e) (Err error.Memory)
refused (error.Syntax t) cause tree is depth = absurd (cause.1 tree is depth)
refused (error.TooDeep t) cause tree is depth = absurd (cause.1 tree is depth)
refused error.Memory cause tree is depth = refl

pub answered : {toks : List Tok} (r : Result Chunk ParseErr) → IfOk r (IsChunk toks) → IfErr r (IsCause toks) → (tree : Chunk) → IsChunk toks tree → depth_of tree ≤ level_limit
    → (r ≡ Ok tree) ⊎ (r ≡ Err error.Memory)
answered {toks} (Ok chunk) found cause tree is depth = inl (ap Ok (one_tree toks chunk tree found is))
answered (Err e) found cause tree is depth = inr (refused e cause tree is depth)
