use Rattle.std.proofs.Common.{◌+◌, inl, inr, ⊎_elim, ap, sym, subst, ◌∙◌, arith}
use Rattle.std.proofs.lemmas.Result.{err_from_is_err_and}
use Rattle.wenzl_table.specs.Tables.{IsOf, Keeps, Knows}
use Rattle.planar_check.specs.Components.{greatest}
use Rattle.planar_check.proofs.Strands.{member_at_most}
use Rattle.skein_network.proofs.ListColours.{top_few}
use Rattle.skein_network.proofs.FoundProjectors.{IsFoundBelow, found_one, found_skip, no_common_below, no_inverse_above}
use Rattle.skein_network.proofs.projectors.find_projectors.Goals as goal
use Rattle.skein_network.proofs.projectors.find_projectors.Goals.{then-stands+in_ok-push_projector, else-stands}

pub overflow_add-n-end : goal.overflow_add-n-end
overflow_add-n-end c =
    let few = top_few c.args.table.now.params c.top-n-end.result c.top-n-end.ensures.few in
    omega (arith, few)

pub loop-n-preserved : goal.loop-n-preserved
loop-n-preserved c =
    let table = c.args.table.now in
    let colours = c.args.colours.now in
    let n = c.loop-n.n in
    let before = c.args.notes.now in
    elim c.if-stands.branch [
      | then-stands+in_ok-push_projector w ↦
          let found = w.in_ok-push_projector.ensures.found in
          found_one table colours n c.loop-n.projectors.items before c.loop-n.notes c.loop-n.invariant found.0 c.if-stands.projectors.items c.if-stands.notes found.1
          (ap (λ v. v.items) w.projectors-is ∙ found.2) w.in_ok-push_projector.ensures.none
          (subst (λ ns. IsOf ns table) (sym w.notes-is) w.in_ok-push_projector.ensures.of)
          (subst (λ ns. Keeps c.loop-n.notes ns) (sym w.notes-is) w.in_ok-push_projector.ensures.kept)
          (subst (λ ns. Knows ns n) (sym w.notes-is) w.in_ok-push_projector.ensures.known)
      | else-stands w ↦
          subst (λ ns. IsFoundBelow table colours (n + 1) c.if-stands.projectors.items before ns) (sym w.notes-is)
          (subst (λ fs. IsFoundBelow table colours (n + 1) fs before c.loop-n.notes) (sym (ap (λ v. v.items) w.projectors-is))
          (found_skip table colours n c.loop-n.projectors.items before c.loop-n.notes c.loop-n.invariant (sym c.stands.ensures ∙ w.if-stands.false)))
    ]

pub returns-clause-held : goal.returns-clause-held
returns-clause-held c = λ n low there.
    let most = member_at_most c.args.colours.now n there in
    let high = c.requires.high in
    let ended = c.loop-n-test.false in
    let top = c.top-n-end.ensures.value in
    c.loop-n.invariant.held n low (omega (arith, most, high, ended, top)) there

pub returns-clause-none : goal.returns-clause-none
returns-clause-none c =
    let high = c.requires.high in
    let ended = c.loop-n-test.false in
    let top = c.top-n-end.ensures.value in
    no_common_below c.args.table.now c.args.colours.now c.loop-n.n c.loop-n.projectors.items c.args.notes.now c.loop-n.notes c.loop-n.invariant (omega (arith, high, ended, top))

pub returns-clause-known : goal.returns-clause-known
returns-clause-known c = λ n low there.
    let most = member_at_most c.args.colours.now n there in
    let high = c.requires.high in
    let ended = c.loop-n-test.false in
    let top = c.top-n-end.ensures.value in
    c.loop-n.invariant.known n low (omega (arith, most, high, ended, top)) there

pub returns-in_err-push_projector-clause-refused : goal.returns-in_err-push_projector-clause-refused
returns-in_err-push_projector-clause-refused c =
    let colours = c.args.colours.now in
    let n = c.loop-n.n in
    let fault = c.in_err-push_projector.field-0.0 in
    let most = member_at_most colours n (sym c.stands.ensures ∙ c.if-stands.true) in
    let p = err_from_is_err_and c.from_residual.result c.from_residual.ensures.1 in
    rw (p.1, p.2) (⊎_elim (λ m. inl m) (λ is. inr (no_inverse_above c.args.table.now.params n (greatest colours) fault most is)) c.in_err-push_projector.ensures.refused)
