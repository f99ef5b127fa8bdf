use Rattle.std.proofs.lemmas.Result.{err_from_is_err_and}
use Rattle.text_shapes.proofs.Chain.{LeadsTo-found, found_accepts, found_refuses, missed_refuses}
use Rattle.pd_reader.proofs.StopLemmas.{LeadsTo-stop, stop_refuses}
use Rattle.braid_trace.specs.Braids.{IsTextBraid, braid_tokens, entries_tokens}
use Rattle.braid_trace.proofs.Texts.{Fit}
use Rattle.braid_trace.proofs.text.read_text.Goals as goal

pub returns-in_err-strands-clause-err : goal.returns-in_err-strands-clause-err
returns-in_err-strands-clause-err c =
    let p = err_from_is_err_and c.from_residual.result c.from_residual.ensures.1 in
    rw (p.1, p.2) (missed_refuses IsTextBraid braid_tokens c.args.bytes.now c.in_err-strands.field-0.0 c.in_err-strands.ensures.err)

pub returns-in_err-entries-clause-err : goal.returns-in_err-entries-clause-err
returns-in_err-entries-clause-err c =
    let p = err_from_is_err_and c.from_residual-in_err-entries.result c.from_residual-in_err-entries.ensures.1 in
    rw (p.1, p.2) (stop_refuses IsTextBraid braid_tokens c.args.bytes.now c.in_err-entries.field-0.0
    (LeadsTo-stop IsTextBraid braid_tokens Fit entries_tokens (λ word. record { strands = c.in_ok-strands.strands; word = word }) c.args.bytes.now 0 c.in_ok-strands.at c.in_err-entries.field-0.0 c.in_ok-strands.ensures.ok c.in_err-entries.ensures.err))

pub returns-in_err-finish-clause-err : goal.returns-in_err-finish-clause-err
returns-in_err-finish-clause-err c =
    let p = err_from_is_err_and c.from_residual-in_err-finish.result c.from_residual-in_err-finish.ensures.1 in
    let rest = c.in_err-finish.ensures.err in
    let found = LeadsTo-found IsTextBraid braid_tokens Fit entries_tokens (λ word. record { strands = c.in_ok-strands.strands; word = word }) c.args.bytes.now 0 c.in_ok-strands.at c.in_ok-entries.end c.in_ok-entries.entries.items c.in_ok-strands.ensures.ok c.in_ok-entries.ensures.ok in
    rw (p.1, p.2) (found_refuses IsTextBraid braid_tokens c.args.bytes.now (record { strands = c.in_ok-strands.strands; word = c.in_ok-entries.entries.items }) c.in_ok-entries.end c.in_err-finish.field-0.0 found rest.0 rest.1)

pub returns-clause-ok : goal.returns-clause-ok
returns-clause-ok c =
    found_accepts IsTextBraid braid_tokens c.args.bytes.now (record { strands = c.in_ok-strands.strands; word = c.in_ok-entries.entries.items }) c.in_ok-entries.end
    (LeadsTo-found IsTextBraid braid_tokens Fit entries_tokens (λ word. record { strands = c.in_ok-strands.strands; word = word }) c.args.bytes.now 0 c.in_ok-strands.at c.in_ok-entries.end c.in_ok-entries.entries.items c.in_ok-strands.ensures.ok c.in_ok-entries.ensures.ok)
    c.in_ok-finish.ensures.ok
