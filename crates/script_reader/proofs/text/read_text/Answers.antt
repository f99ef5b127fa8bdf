use Rattle.std.proofs.Common.{◌≡◌, codes, List, [], ◌++◌, sym, ap, subst, ◌∙◌}
use Rattle.std.proofs.lemmas.Result.{err_from_is_err_and}
use Rattle.text_shapes.proofs.Chain.{LeadsTo-found, LeadsTo-missed, found_accepts, found_refuses, missed_refuses, token_falls, token_stands}
use Rattle.text_shapes.specs.Readers.{Accepts}
use Rattle.script_reader.specs.declared.step.Step.{Step}
use Rattle.pd_reader.proofs.StopLemmas.{LeadsTo-stop, stop_refuses}
use Rattle.script_reader.specs.ScriptTexts.{IsTextScript, script_tokens, steps_tokens}
use Rattle.script_reader.proofs.PartsOfScripts.{FitSteps, bracket_is_token, bracketed, inside, items_stop, least_fits, moves_is_token, opened, parts, pd_is_token, steps_behind}
use Rattle.script_reader.proofs.text.read_text.Goals as goal

pub word-requires-clause-token : goal.word-requires-clause-token
word-requires-clause-token c = moves_is_token

pub mark-requires-clause-token : goal.mark-requires-clause-token
mark-requires-clause-token c = bracket_is_token

pub read_list-requires-clause-token : goal.read_list-requires-clause-token
read_list-requires-clause-token c = pd_is_token

pub returns-in_err-head-clause-err : goal.returns-in_err-head-clause-err
returns-in_err-head-clause-err c =
    let p = err_from_is_err_and c.from_residual.result c.from_residual.ensures.1 in
    rw (p.1, p.2) (missed_refuses IsTextScript script_tokens c.args.bytes.now c.in_err-head.field-0.0
    (token_falls IsTextScript (codes "Moves") bracketed c.args.bytes.now 0 c.in_err-head.field-0.0 (parts [] []) least_fits c.in_err-head.ensures.err))

pub returns-in_err-opened-clause-err : goal.returns-in_err-opened-clause-err
returns-in_err-opened-clause-err c =
    let p = err_from_is_err_and c.from_residual-in_err-opened.result c.from_residual-in_err-opened.ensures.1 in
    rw (p.1, p.2) (missed_refuses IsTextScript script_tokens c.args.bytes.now c.in_err-opened.field-0.0
    (LeadsTo-missed IsTextScript script_tokens IsTextScript bracketed (λ script. script) c.args.bytes.now 0 c.in_ok-head.head c.in_err-opened.field-0.0
    (token_stands IsTextScript (codes "Moves") bracketed c.args.bytes.now 0 c.in_ok-head.head moves_is_token c.in_ok-head.ensures.ok)
    (token_falls IsTextScript (codes "[") inside c.args.bytes.now c.in_ok-head.head c.in_err-opened.field-0.0 (parts [] []) least_fits c.in_err-opened.ensures.err)))

pub returns-in_err-items-clause-err : goal.returns-in_err-items-clause-err
returns-in_err-items-clause-err c =
    let p = err_from_is_err_and c.from_residual-in_err-items.result c.from_residual-in_err-items.ensures.1 in
    rw (p.1, p.2) (stop_refuses IsTextScript script_tokens c.args.bytes.now c.in_err-items.field-0.0
    (LeadsTo-stop IsTextScript script_tokens IsTextScript inside (λ script. script) c.args.bytes.now 0 c.in_ok-opened.opened c.in_err-items.field-0.0
    (opened c.args.bytes.now c.in_ok-head.head c.in_ok-opened.opened c.in_ok-head.ensures.ok c.in_ok-opened.ensures.ok)
    (items_stop c.args.bytes.now c.in_ok-opened.opened c.in_err-items.field-0.0 c.in_err-items.ensures.err)))

pub returns-in_err-end-clause-err : goal.returns-in_err-end-clause-err
returns-in_err-end-clause-err c =
    let p = err_from_is_err_and c.from_residual-in_err-end.result c.from_residual-in_err-end.ensures.1 in
    rw (p.1, p.2) (stop_refuses IsTextScript script_tokens c.args.bytes.now c.in_err-end.field-0.0
    (LeadsTo-stop IsTextScript script_tokens FitSteps steps_tokens (parts c.in_ok-items.items.items) c.args.bytes.now 0 c.in_ok-items.place c.in_err-end.field-0.0
    (steps_behind c.args.bytes.now c.in_ok-head.head c.in_ok-opened.opened c.in_ok-items.place c.in_ok-items.items.items c.in_ok-head.ensures.ok c.in_ok-opened.ensures.ok c.in_ok-items.ensures.ok)
    c.in_err-end.ensures.err))

pub returns-in_err-finish-clause-err : goal.returns-in_err-finish-clause-err
returns-in_err-finish-clause-err c =
    let p = err_from_is_err_and c.from_residual-in_err-finish.result c.from_residual-in_err-finish.ensures.1 in
    let rest = c.in_err-finish.ensures.err in
    let read = c.in_ok-end.ensures.ok in
    let found = LeadsTo-found IsTextScript script_tokens FitSteps steps_tokens (parts c.in_ok-items.items.items) c.args.bytes.now 0 c.in_ok-items.place c.in_ok-end.end read.0
    (steps_behind c.args.bytes.now c.in_ok-head.head c.in_ok-opened.opened c.in_ok-items.place c.in_ok-items.items.items c.in_ok-head.ensures.ok c.in_ok-opened.ensures.ok c.in_ok-items.ensures.ok) read.2 in
    rw (p.1, p.2) (found_refuses IsTextScript script_tokens c.args.bytes.now (parts c.in_ok-items.items.items read.0) c.in_ok-end.end c.in_err-finish.field-0.0 found rest.0 rest.1)

pub returns-clause-ok : goal.returns-clause-ok
returns-clause-ok c =
    let read = c.in_ok-end.ensures.ok in
    let found = LeadsTo-found IsTextScript script_tokens FitSteps steps_tokens (parts c.in_ok-items.items.items) c.args.bytes.now 0 c.in_ok-items.place c.in_ok-end.end read.0
    (steps_behind c.args.bytes.now c.in_ok-head.head c.in_ok-opened.opened c.in_ok-items.place c.in_ok-items.items.items c.in_ok-head.ensures.ok c.in_ok-opened.ensures.ok c.in_ok-items.ensures.ok) read.2 in
    let all : c.read_behind.new.items.items ≡ read.0 = read.1 ∙ ap (λ (xs : List Step). xs ++ read.0) c.new-steps.ensures.items in
    subst (λ (xs : List Step). Accepts IsTextScript script_tokens c.args.bytes.now (parts c.in_ok-items.items.items xs)) (sym all)
    (found_accepts IsTextScript script_tokens c.args.bytes.now (parts c.in_ok-items.items.items read.0) c.in_ok-end.end found c.in_ok-finish.ensures.ok)
