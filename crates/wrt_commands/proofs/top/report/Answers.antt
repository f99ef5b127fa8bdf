use Rattle.std.proofs.lemmas.Result.{err_from_is_err_and}
use Rattle.wrt_commands.proofs.NoWords.{no_words_stop}
use Rattle.wrt_commands.proofs.RunLemmas.{some_bytes, words_stopped}
use Rattle.wrt_commands.proofs.top.report.Goals as goal

pub returns-in_err-opened-clause-answer : goal.returns-in_err-opened-clause-answer
returns-in_err-opened-clause-answer g c =
    let p = err_from_is_err_and c.from_residual.result c.from_residual.ensures.1 in
    let b = some_bytes _ in
    (b.0, b.1, rw p.1 (words_stopped _ b.0 _ p.0 p.2 c.in_err-opened.ensures.answer))

pub returns-clause-taken : goal.returns-clause-taken
returns-clause-taken g c = λ takes e.
    let a = c.task_report.ensures.answer in
    no_words_stop _ a.0 c.task_report.result _ a.2 _ e
