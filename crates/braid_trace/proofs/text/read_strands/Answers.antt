use Rattle.std.proofs.Common.{codes}
use Rattle.std.proofs.lemmas.Result.{err_from_is_err_and}
use Rattle.text_shapes.proofs.Chain.{LeadsTo-then, LeadsTo-missed, token_falls, token_stands}
use Rattle.braid_trace.specs.Braids.{IsTextBraid, braid_tokens, entries_tokens}
use Rattle.braid_trace.proofs.Texts.{Fit, bracket_is_token, bracketed, head_is_token, least_fits, least_text, number_lacks, number_leads, numbered, opened}
use Rattle.braid_trace.proofs.text.read_strands.Goals as goal

pub word-requires-clause-token : goal.word-requires-clause-token
word-requires-clause-token c = head_is_token

pub mark-requires-clause-token : goal.mark-requires-clause-token
mark-requires-clause-token c = bracket_is_token

pub returns-in_err-head-clause-err : goal.returns-in_err-head-clause-err
returns-in_err-head-clause-err c =
    let p = err_from_is_err_and c.from_residual.result c.from_residual.ensures.1 in
    rw (p.1, p.2) (token_falls IsTextBraid (codes "BR") bracketed c.args.bytes.now 0 c.in_err-head.field-0.0 least_text least_fits c.in_err-head.ensures.err)

pub returns-in_err-opened-clause-err : goal.returns-in_err-opened-clause-err
returns-in_err-opened-clause-err c =
    let p = err_from_is_err_and c.from_residual-in_err-opened.result c.from_residual-in_err-opened.ensures.1 in
    rw (p.1, p.2) (LeadsTo-missed IsTextBraid braid_tokens IsTextBraid bracketed (λ braid. braid) c.args.bytes.now 0 c.in_ok-head.head c.in_err-opened.field-0.0
    (token_stands IsTextBraid (codes "BR") bracketed c.args.bytes.now 0 c.in_ok-head.head head_is_token c.in_ok-head.ensures.ok)
    (token_falls IsTextBraid (codes "[") numbered c.args.bytes.now c.in_ok-head.head c.in_err-opened.field-0.0 least_text least_fits c.in_err-opened.ensures.err))

pub returns-in_err-strands-clause-err : goal.returns-in_err-strands-clause-err
returns-in_err-strands-clause-err c =
    let p = err_from_is_err_and c.from_residual-in_err-strands.result c.from_residual-in_err-strands.ensures.1 in
    rw (p.1, p.2) (LeadsTo-missed IsTextBraid braid_tokens IsTextBraid numbered (λ braid. braid) c.args.bytes.now 0 c.in_ok-opened.opened c.in_err-strands.field-0.0
    (opened c.args.bytes.now c.in_ok-head.head c.in_ok-opened.opened c.in_ok-head.ensures.ok c.in_ok-opened.ensures.ok)
    (number_lacks c.args.bytes.now c.in_ok-opened.opened c.in_err-strands.field-0.0 c.in_err-strands.ensures.err))

pub returns-clause-ok : goal.returns-clause-ok
returns-clause-ok c =
    LeadsTo-then IsTextBraid braid_tokens IsTextBraid numbered Fit entries_tokens (λ braid. braid) (λ word. record { strands = c.in_ok-strands.strands; word = word }) c.args.bytes.now 0 c.in_ok-opened.opened c.in_ok-strands.next
    (opened c.args.bytes.now c.in_ok-head.head c.in_ok-opened.opened c.in_ok-head.ensures.ok c.in_ok-opened.ensures.ok)
    (number_leads c.args.bytes.now c.in_ok-opened.opened c.in_ok-strands.strands c.in_ok-strands.next c.in_ok-strands.ensures.ok)
