use Rattle.std.proofs.Common.{codes, [], ◌≡◌, false, refl}
use Rattle.std.proofs.lemmas.Result.{err_from_is_err_and}
use Rattle.text_shapes.specs.Tokens.{is_space}
use Rattle.text_shapes.specs.Reach.{is_word_byte}
use Rattle.text_shapes.proofs.Chain.{LeadsTo-found, LeadsTo-missed, then_falls, then_found, token_falls, token_stands}
use Rattle.pd_reader.proofs.StopLemmas.{LeadsTo-stop}
use Rattle.braid_trace.specs.Braids.{entries_tokens}
use Rattle.braid_trace.proofs.Texts.{Fit, brace_is_token, braced, closed, comma_is_token, inside, inside_opened, then_stops}
use Rattle.braid_trace.proofs.text.read_entries.Goals as goal

bracket_is_no_space : is_space 93 ≡ false
unfolding is_space
bracket_is_no_space = refl

bracket_is_mark : is_word_byte 93 ≡ false
unfolding is_word_byte
bracket_is_mark = refl

pub mark-requires-clause-token : goal.mark-requires-clause-token
mark-requires-clause-token c = comma_is_token

pub mark-requires-2-clause-token : goal.mark-requires-2-clause-token
mark-requires-2-clause-token c = brace_is_token

pub mark-requires-3-clause-token : goal.mark-requires-3-clause-token
mark-requires-3-clause-token c = bracket_is_no_space

pub returns-in_err-comma-clause-err : goal.returns-in_err-comma-clause-err
returns-in_err-comma-clause-err c =
    let p = err_from_is_err_and c.from_residual.result c.from_residual.ensures.1 in
    rw (p.1, p.2) (token_falls Fit (codes ",") braced c.args.bytes.now c.args.at c.in_err-comma.field-0.0 [] tt c.in_err-comma.ensures.err)

pub returns-in_err-opened-clause-err : goal.returns-in_err-opened-clause-err
returns-in_err-opened-clause-err c =
    let p = err_from_is_err_and c.from_residual-in_err-opened.result c.from_residual-in_err-opened.ensures.1 in
    rw (p.1, p.2) (LeadsTo-missed Fit entries_tokens Fit braced (λ word. word) c.args.bytes.now c.args.at c.in_ok-comma.comma c.in_err-opened.field-0.0
    (token_stands Fit (codes ",") braced c.args.bytes.now c.args.at c.in_ok-comma.comma comma_is_token c.in_ok-comma.ensures.ok)
    (token_falls Fit (codes "{") closed c.args.bytes.now c.in_ok-comma.comma c.in_err-opened.field-0.0 [] tt c.in_err-opened.ensures.err))

pub returns-in_err-entries-clause-err : goal.returns-in_err-entries-clause-err
returns-in_err-entries-clause-err c =
    let p = err_from_is_err_and c.from_residual-in_err-entries.result c.from_residual-in_err-entries.ensures.1 in
    rw (p.1, p.2) (LeadsTo-stop Fit entries_tokens Fit closed (λ word. word) c.args.bytes.now c.args.at c.in_ok-opened.opened c.in_err-entries.field-0.0
    (inside_opened c.args.bytes.now c.args.at c.in_ok-comma.comma c.in_ok-opened.opened c.in_ok-comma.ensures.ok c.in_ok-opened.ensures.ok)
    (then_stops Fit inside 93 bracket_is_no_space bracket_is_mark c.args.bytes.now c.in_ok-opened.opened c.in_err-entries.field-0.0 c.in_err-entries.ensures.err))

pub returns-in_err-next-clause-err : goal.returns-in_err-next-clause-err
returns-in_err-next-clause-err c =
    let p = err_from_is_err_and c.from_residual-in_err-next.result c.from_residual-in_err-next.ensures.1 in
    rw (p.1, p.2) (LeadsTo-missed Fit entries_tokens Fit closed (λ word. word) c.args.bytes.now c.args.at c.in_ok-opened.opened c.in_err-next.field-0.0
    (inside_opened c.args.bytes.now c.args.at c.in_ok-comma.comma c.in_ok-opened.opened c.in_ok-comma.ensures.ok c.in_ok-opened.ensures.ok)
    (then_falls Fit inside 93 bracket_is_no_space bracket_is_mark c.args.bytes.now c.in_ok-opened.opened c.in_ok-entries.entries.items c.in_ok-entries.closed c.in_err-next.field-0.0 c.in_ok-entries.ensures.ok c.in_err-next.ensures.err))

pub returns-clause-ok : goal.returns-clause-ok
returns-clause-ok c =
    LeadsTo-found Fit entries_tokens Fit closed (λ word. word) c.args.bytes.now c.args.at c.in_ok-opened.opened c.in_ok-next.next c.in_ok-entries.entries.items
    (inside_opened c.args.bytes.now c.args.at c.in_ok-comma.comma c.in_ok-opened.opened c.in_ok-comma.ensures.ok c.in_ok-opened.ensures.ok)
    (then_found Fit inside 93 bracket_is_no_space bracket_is_mark c.args.bytes.now c.in_ok-opened.opened c.in_ok-entries.entries.items c.in_ok-entries.closed c.in_ok-next.next c.in_ok-entries.ensures.ok c.in_ok-next.ensures.ok)
