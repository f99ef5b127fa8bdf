use Rattle.std.proofs.Common.{◌≡◌, ◌∙◌, ⊎_elim, Err, refl, sym, ap, string_bytes}
use Rattle.wrt_commands.specs.declared.status.Status.TheVariants.{Done, ReadFault, WriteFault}
use Rattle.wrt_commands.proofs.StatusLemmas.{read_fault_stop}
use Rattle.wrt_commands.proofs.Settled.{with_settled, completes}
use Rattle.wrt_commands.proofs.RunLemmas.{part_law, runs_stopped}
use Rattle.wrt_commands.proofs.top.run.Goals as goal

pub returns-in-Ok-write_all-clause-outcome : goal.returns-in-Ok-write_all-clause-outcome
returns-in-Ok-write_all-clause-outcome g c =
    let a = c.in-Ok.ensures.answer in
    let w = c.in-Ok-write_all.ensures in
    with_settled _ _ a.0 Done _ _ a.1 (string_bytes c.in-Ok.report, a.2, (rw (sym c.as_bytes.ensures.value) w.whole, w.no_fault), (refl, refl))

pub returns-in-Ok-clause-outcome : goal.returns-in-Ok-clause-outcome
returns-in-Ok-clause-outcome g c =
    let a = c.in-Ok.ensures.answer in
    let w = c.write_all.ensures in
    let part = part_law _ c.as_bytes.result.now c.write_all.result c.in-Err-Fault.field-0 c.in-Err-Fault.is w.fault w.sent w.short in
    with_settled _ _ a.0 WriteFault _ _ a.1 (string_bytes c.in-Ok.report, a.2, rw (sym c.as_bytes.ensures.value) part, c.say.ensures.says)

pub returns-clause-outcome : goal.returns-clause-outcome
returns-clause-outcome g c =
    let a = c.in-Err.ensures.answer in
    ⊎_elim
    (λ r. with_settled _ _ a.0 c.tell.result _ _ a.1 (rw r.0 (runs_stopped _ a.0 c.in-Err.stop _ _ a.2 (refl, refl) r.1)))
    (λ r. with_settled _ _ a.0 c.tell.result _ _ a.1 (rw r.0 ((refl, refl), r.1)))
    c.tell.ensures.says

pub returns-clause-complete : goal.returns-clause-complete
returns-clause-complete g c = λ bytes report tells outcome read write.
    let h = returns-clause-outcome g c in
    let rose = λ (e : c.tell.result ≡ ReadFault).
    ⊎_elim
    (λ r. c.report.ensures.read_fault (c.in-Err.is ∙ ap Err (read_fault_stop c.in-Err.stop (sym r.0 ∙ e))))
    (λ r. let memory = r.0 in absurd (cc))
    c.tell.ensures.says in
    completes _ _ bytes h.0 report c.tell.result _ _ tells h.1 outcome h.2 (λ e. read (rose e)) write
