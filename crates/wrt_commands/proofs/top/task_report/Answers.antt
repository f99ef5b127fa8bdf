use Rattle.std.proofs.Common.{refl}
use Rattle.std.proofs.lemmas.Result.{err_from_is_err_and}
use Rattle.wrt_request.specs.declared.request.Task.TheVariants.{Torus, Wrt}
use Rattle.wrt_commands.proofs.RunLemmas.{some_bytes}
use Rattle.wrt_commands.proofs.TaskLemmas.{bracket_stopped, colored_stopped, moves_stopped, net_stopped, task_answer, wrt_stopped, braid_stopped, tetrahedra_stopped}
use Rattle.wrt_commands.proofs.top.task_report.Goals as goal

pub returns-in_err-bytes-in-Bracket-clause-answer : goal.returns-in_err-bytes-in-Bracket-clause-answer
returns-in_err-bytes-in-Bracket-clause-answer g c =
    let p = err_from_is_err_and c.from_residual.result c.from_residual.ensures.1 in
    let h = bracket_stopped c.args.opened.now _ _ _ _ c.in-Bracket.is refl c.in_err-bytes-in-Bracket.ensures.answer in
    (h.0, h.1, rw (p.1, p.2) h.2)

pub returns-in_err-bytes-in-Colored-clause-answer : goal.returns-in_err-bytes-in-Colored-clause-answer
returns-in_err-bytes-in-Colored-clause-answer g c =
    let p = err_from_is_err_and c.from_residual-in_err-bytes-in-Colored.result c.from_residual-in_err-bytes-in-Colored.ensures.1 in
    let h = colored_stopped c.args.opened.now _ _ _ _ _ c.in-Colored.is refl c.in_err-bytes-in-Colored.ensures.answer in
    (h.0, h.1, rw (p.1, p.2) h.2)

pub returns-in_err-bytes-in-Net-clause-answer : goal.returns-in_err-bytes-in-Net-clause-answer
returns-in_err-bytes-in-Net-clause-answer g c =
    let p = err_from_is_err_and c.from_residual-in_err-bytes-in-Net.result c.from_residual-in_err-bytes-in-Net.ensures.1 in
    let h = net_stopped c.args.opened.now _ _ _ _ _ c.in-Net.is refl c.in_err-bytes-in-Net.ensures.answer in
    (h.0, h.1, rw (p.1, p.2) h.2)

pub returns-in_err-bytes-in-Braid-clause-answer : goal.returns-in_err-bytes-in-Braid-clause-answer
returns-in_err-bytes-in-Braid-clause-answer g c =
    let p = err_from_is_err_and c.from_residual-in_err-bytes-in-Braid.result c.from_residual-in_err-bytes-in-Braid.ensures.1 in
    let h = braid_stopped c.args.opened.now _ _ _ c.in-Braid.is refl c.in_err-bytes-in-Braid.ensures.answer in
    (h.0, h.1, rw (p.1, p.2) h.2)

pub returns-in_err-bytes-in-Tetrahedra-clause-answer : goal.returns-in_err-bytes-in-Tetrahedra-clause-answer
returns-in_err-bytes-in-Tetrahedra-clause-answer g c =
    let p = err_from_is_err_and c.from_residual-in_err-bytes-in-Tetrahedra.result c.from_residual-in_err-bytes-in-Tetrahedra.ensures.1 in
    let h = tetrahedra_stopped c.args.opened.now _ _ _ c.in-Tetrahedra.is refl c.in_err-bytes-in-Tetrahedra.ensures.answer in
    (h.0, h.1, rw (p.1, p.2) h.2)

pub returns-in-Torus-clause-answer : goal.returns-in-Torus-clause-answer
returns-in-Torus-clause-answer g c =
    let b = some_bytes _ in
    (b.0, b.1, task_answer c.args.opened.now (Torus _ _) b.0 c.in-Torus.is c.torus_report.result c.torus_report.ensures)

pub returns-in_err-bytes-in-Wrt-clause-answer : goal.returns-in_err-bytes-in-Wrt-clause-answer
returns-in_err-bytes-in-Wrt-clause-answer g c =
    let p = err_from_is_err_and c.from_residual-in_err-bytes-in-Wrt.result c.from_residual-in_err-bytes-in-Wrt.ensures.1 in
    let h = wrt_stopped c.args.opened.now _ _ _ _ _ _ _ c.in-Wrt.is refl c.in_err-bytes-in-Wrt.ensures.answer in
    (h.0, h.1, rw (p.1, p.2) h.2)

pub returns-in_err-bytes-in-Moves-clause-answer : goal.returns-in_err-bytes-in-Moves-clause-answer
returns-in_err-bytes-in-Moves-clause-answer g c =
    let p = err_from_is_err_and c.from_residual-in_err-bytes-in-Moves.result c.from_residual-in_err-bytes-in-Moves.ensures.1 in
    let h = moves_stopped c.args.opened.now _ _ _ _ c.in-Moves.is refl c.in_err-bytes-in-Moves.ensures.answer in
    (h.0, h.1, rw (p.1, p.2) h.2)

pub returns-in_ok-bytes-in-Wrt-clause-answer : goal.returns-in_ok-bytes-in-Wrt-clause-answer
returns-in_ok-bytes-in-Wrt-clause-answer g c =
    let read = c.in_ok-bytes-in-Wrt.ensures.answer in
    let bytes = c.in_ok-bytes-in-Wrt.bytes.items in
    (bytes, read.0, task_answer c.args.opened.now (Wrt _ _ _ _) bytes c.in-Wrt.is c.wrt_report.result (rw c.deref-in-Wrt.ensures.value at c.wrt_report.ensures))
