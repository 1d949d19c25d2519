-- A function is written part by part, the functions inside it one by one.
use Rattle.std.proofs.Common.{◌≡◌, ◌∙◌, sym, ap, subst, map, take, add-one, length, refl}
use Rattle.luf_proto.specs.Chunk.{functions_bytes}
use Rattle.luf_proto.specs.FunctionOf.{function_of, functions_of}
use Rattle.luf_proto.specs.declared.proto.Proto.{out-Proto}
use Rattle.luf_chunk.specs.Worded.{HasCause, all_floats, floats_of}
use Rattle.luf_chunk.specs.inner.Written.{WritesFunction}
use Rattle.luf_chunk.proofs.Kept.{kept_behind, on_err, passed}
use Rattle.luf_chunk.proofs.Words.{constants_first, count_of-functions_of, functions_last, kept_five, length_map, lent_parts, parts_written, subs_cause, subs_done, subs_more}
use Rattle.luf_chunk.proofs.chunk.+function.Goals as goal

pub append_function-returns-clause-ok : goal.append_function-returns-clause-ok
append_function-returns-clause-ok t c =
    let p = out-Proto c.args.p.now in
    subst (λ f. WritesFunction f c.args.into.now.items c.append_no_debug.new.into.items)
    (lent_parts c.args.p.now c.as_slice.result.now c.as_slice-2.result.now c.as_slice-3.result.now c.as_slice-4.result.now c.as_slice.ensures c.as_slice-2.ensures c.as_slice-3.ensures c.as_slice-4.ensures)
    (parts_written p.numparams p.line_from p.line_to p.maxstack p.is_vararg c.as_slice.result.now c.as_slice-2.result.now c.as_slice-3.result.now (functions_of (map function_of c.as_slice-4.result.now))
    c.len.result c.args.into.now.items c.append_head.new.into.items c.append_code.new.into.items c.append_constants.new.into.items c.append_upvalues.new.into.items c.append_size.new.into.items
    c.append_functions.new.into.items c.append_no_debug.new.into.items
    (c.len.ensures ∙ ap length (sym c.as_slice-4.ensures) ∙ sym (length_map function_of c.as_slice-4.result.now) ∙ sym (count_of-functions_of (map function_of c.as_slice-4.result.now)))
    c.in_ok-append_head.ensures.ok c.in_ok-append_code.ensures.ok c.in_ok-append_constants.ensures.ok c.in_ok-append_upvalues.ensures.ok c.in_ok-append_size.ensures.ok
    c.in_ok-append_functions.ensures.ok c.in_ok-append_no_debug.ensures.ok)

pub append_function-returns-in_err-append_constants-clause-cause : goal.append_function-returns-in_err-append_constants-clause-cause
append_function-returns-in_err-append_constants-clause-cause t c =
    let p = out-Proto c.args.p.now in
    let e = c.in_err-append_constants.field-0.0 in
    passed c.from_residual-in_err-append_constants.result e (λ e. HasCause e (floats_of (function_of c.args.p.now))) c.from_residual-in_err-append_constants.ensures.1
    (subst (λ f. HasCause e (floats_of f)) (lent_parts c.args.p.now p.code c.as_slice-2.result.now p.upvals p.subs refl c.as_slice-2.ensures refl refl)
    (constants_first e c.as_slice-2.result.now (functions_of (map function_of p.subs)) c.in_err-append_constants.ensures.cause))

pub append_function-returns-in_err-append_functions-clause-cause : goal.append_function-returns-in_err-append_functions-clause-cause
append_function-returns-in_err-append_functions-clause-cause t c =
    let p = out-Proto c.args.p.now in
    let e = c.in_err-append_functions.field-0.0 in
    passed c.from_residual-in_err-append_functions.result e (λ e. HasCause e (floats_of (function_of c.args.p.now))) c.from_residual-in_err-append_functions.ensures.1
    (subst (λ f. HasCause e (floats_of f)) (lent_parts c.args.p.now p.code c.as_slice-2.result.now p.upvals c.as_slice-4.result.now refl c.as_slice-2.ensures refl c.as_slice-4.ensures)
    (functions_last e c.as_slice-2.result.now (functions_of (map function_of c.as_slice-4.result.now)) c.append_code.new.into.items c.append_constants.new.into.items
    c.in_ok-append_constants.ensures.ok c.in_err-append_functions.ensures.cause))

pub append_function-returns-in_err-append_functions-clause-err : goal.append_function-returns-in_err-append_functions-clause-err
append_function-returns-in_err-append_functions-clause-err t c =
    on_err c.from_residual-in_err-append_functions.result _ (kept_five c.args.into.now.items c.append_head.new.into.items c.append_code.new.into.items c.append_constants.new.into.items
    c.append_upvalues.new.into.items c.append_size.new.into.items c.append_functions.new.into.items _ _ _ _ _
    c.in_ok-append_head.ensures.ok c.in_ok-append_code.ensures.ok c.in_ok-append_constants.ensures.ok.appended c.in_ok-append_upvalues.ensures.ok c.in_ok-append_size.ensures.ok
    c.in_err-append_functions.ensures.err)

pub append_function-returns-in_err-append_no_debug-clause-err : goal.append_function-returns-in_err-append_no_debug-clause-err
append_function-returns-in_err-append_no_debug-clause-err t c =
    on_err c.from_residual-in_err-append_no_debug.result _ (kept_five c.args.into.now.items c.append_head.new.into.items c.append_code.new.into.items c.append_constants.new.into.items
    c.append_upvalues.new.into.items c.append_size.new.into.items c.append_no_debug.new.into.items _ _ _ _ _
    c.in_ok-append_head.ensures.ok c.in_ok-append_code.ensures.ok c.in_ok-append_constants.ensures.ok.appended c.in_ok-append_upvalues.ensures.ok c.in_ok-append_size.ensures.ok
    (kept_behind c.append_size.new.into.items c.append_functions.new.into.items c.append_no_debug.new.into.items (functions_bytes c.in_ok-append_functions.ensures.ok.worded)
    c.in_ok-append_functions.ensures.ok.appended c.in_err-append_no_debug.ensures.err))

pub append_functions-loop-sub-preserved : goal.append_functions-loop-sub-preserved
append_functions-loop-sub-preserved t c =
    rw add-one (subs_more c.args.subs.now c.loop-sub.sub-index c.sub-item.result c.args.into.now.items c.loop-sub.into.items c.append_function.new.into.items
    c.loop-sub-test.true c.sub-item.is c.loop-sub.invariant c.in_ok-append_function.ensures.ok)

pub append_functions-returns-in_err-append_function-clause-cause : goal.append_functions-returns-in_err-append_function-clause-cause
append_functions-returns-in_err-append_function-clause-cause t c =
    passed c.from_residual.result c.in_err-append_function.field-0.0 (λ e. HasCause e (all_floats (functions_of (map function_of c.args.subs.now)))) c.from_residual.ensures.1
    (subs_cause c.in_err-append_function.field-0.0 c.args.subs.now c.loop-sub.sub-index c.sub-item.result c.args.into.now.items c.loop-sub.into.items
    c.loop-sub-test.true c.sub-item.is c.loop-sub.invariant c.in_err-append_function.ensures.cause)

pub append_functions-returns-in_err-append_function-clause-err : goal.append_functions-returns-in_err-append_function-clause-err
append_functions-returns-in_err-append_function-clause-err t c =
    on_err c.from_residual.result _ (kept_behind c.args.into.now.items c.loop-sub.into.items c.append_function.new.into.items
    (functions_bytes (functions_of c.loop-sub.invariant.worded)) c.loop-sub.invariant.appended c.in_err-append_function.ensures.err)

pub append_functions-returns-clause-ok : goal.append_functions-returns-clause-ok
append_functions-returns-clause-ok t c = subs_done c.args.subs.now c.loop-sub.sub-index c.args.into.now.items c.loop-sub.into.items c.loop-sub-test.false c.loop-sub.invariant
