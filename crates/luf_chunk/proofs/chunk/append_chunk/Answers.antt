-- The function stands behind the header.
use Rattle.std.proofs.Common.{◌∷◌, ◌++◌, [], sym, ap, ◌∙◌, append_assoc}
use Rattle.luf_proto.specs.Chunk.{header, upvalue_count}
use Rattle.luf_proto.specs.FunctionOf.{function_of}
use Rattle.luf_proto.proofs.Stripped.{function_of_parts}
use Rattle.luf_chunk.proofs.Kept.{kept_on_err}
use Rattle.luf_chunk.proofs.Words.{chunk_written}
use Rattle.luf_chunk.proofs.chunk.append_chunk.Goals as goal

pub returns-clause-ok : goal.returns-clause-ok
returns-clause-ok c =
    chunk_written c.append_function.result (function_of c.args.p.now) c.len.result c.args.into.now.items c.extend_from_slice.new.self.items c.push.new.self.items c.append_function.new.into.items
    c.in_ok-extend_from_slice.ensures.items c.in_ok-push.ensures.items (c.len.ensures ∙ sym (ap upvalue_count (function_of_parts c.args.p.now))) c.append_function.ensures.ok

pub returns-clause-err : goal.returns-clause-err
returns-clause-err c =
    kept_on_err c.append_function.result c.args.into.now.items c.push.new.self.items c.append_function.new.into.items (header ++ c.len.result ∷ [])
    (c.in_ok-push.ensures.items ∙ ap (λ t. t ++ c.len.result ∷ []) c.in_ok-extend_from_slice.ensures.items ∙ append_assoc c.args.into.now.items header (c.len.result ∷ []))
    c.append_function.ensures.err
