use Rattle.std.proofs.lemmas.Result.{IfOk-weaker}
use Rattle.wrt_words.specs.Program.{program_app}
use Rattle.wrt_words.proofs.ProgramLemmas.{app_more}
use Rattle.wrt_words.proofs.program.program.Goals as goal

-- One argument after the other.
pub returns : goal.returns
unfolding program_app
returns c =
    let e0 = c.new.ensures.app in
    let e1 = app_more _ _ _ _ _ c.in_ok-arg.ensures c.command_arg.ensures.local e0 c.command_arg.ensures.rule in
    let e2 = app_more _ _ _ _ _ c.in_ok-arg-2.ensures c.numbers_arg.ensures.local e1 c.numbers_arg.ensures.rule in
    let e3 = app_more _ _ _ _ _ c.in_ok-arg-3.ensures c.option_arg.ensures.local e2 c.option_arg.ensures.rule in
    let e4 = app_more _ _ _ _ _ c.in_ok-arg-4.ensures c.option_arg-2.ensures.local e3 c.option_arg-2.ensures.rule in
    let e5 = app_more _ _ _ _ _ c.in_ok-arg-5.ensures c.option_arg-3.ensures.local e4 c.option_arg-3.ensures.rule in
    let e6 = app_more _ _ _ _ _ c.in_ok-arg-6.ensures c.option_arg-4.ensures.local e5 c.option_arg-4.ensures.rule in
    let e7 = app_more _ _ _ _ _ c.in_ok-arg-7.ensures c.flag_arg.ensures.local e6 c.flag_arg.ensures.rule in
    IfOk-weaker c.arg-8.result _ _ (λ r added. app_more _ r _ _ _ added c.flag_arg-2.ensures.local e7 c.flag_arg-2.ensures.rule) c.arg-8.ensures
