use Rattle.std.proofs.Common.{◌+◌, ◌*◌, ◌^◌, ◌%◌, ◌<◌, ◌≤◌, ◌==◌, ◌≡◌, true, List, length, refl, rules, sym, ap, subst, ◌∙◌, arith}
use Rattle.std.specs.Map.{lookup}
use Rattle.std.specs.Option.{unwrap_or}
use Rattle.std.specs.Set.{is_member}
use Rattle.state_sums.specs.Networks.{Node, WeightsBelow}
use Rattle.state_sums.specs.StateSums.{value}
use Rattle.frontier_laws.specs.Orders.{View}
use Rattle.frontier_sweep.specs.LoopPowers.{LoopPowers}
use Rattle.frontier_sweep.specs.Sweeps.{IsStopped}
use Rattle.frontier_laws.specs.Views.{IsView}
use Rattle.frontier_sweep.proofs.Contractions.{IsContractedTo, first, shown, shown_rises, some_left, one_more, stopped, summed}
use Rattle.frontier_sweep.proofs.SweepResults.{swept_by, stopped_by}
use Rattle.frontier_sweep.proofs.contraction.contract.Goals as goal

pub loop-taken-init : goal.loop-taken-init
loop-taken-init g c =
    let answers = g.C.Choose.answers c.args.chooser.now in
    let m = c.of-powers.result.modulus in
    let delta = c.of-powers.result.delta in
    let network = c.args.network.now in
    let same = ap (λ (powers : LoopPowers). powers.modulus) c.of-powers.ensures ∙ c.ring.ensures in
    let some = subst (λ m. 1 < m) (sym same) c.args.params.now.meets.modulus.0 in
    subst (IsContractedTo answers m delta network 0 c.in-Ok.frontier) (sym c.new-own.ensures) (first answers m delta network c.in-Ok.frontier some c.in-Ok.ensures)

pub view-requires-clause-view : goal.view-requires-clause-view
view-requires-clause-view g c =
    shown (g.C.Choose.answers c.args.chooser.now) c.of-powers.result.modulus c.of-powers.result.delta c.args.network.now c.loop-taken.taken c.loop-taken.frontier c.loop-taken.own c.loop-taken.invariant

pub view-requires-clause-rises : goal.view-requires-clause-rises
view-requires-clause-rises g c =
    let same = ap (λ (powers : LoopPowers). powers.modulus) c.of-powers.ensures ∙ c.ring.ensures in
    let some : 0 < c.args.params.now.modulus = (let more = c.args.params.now.meets.modulus.0 in omega (arith, more)) in
    shown_rises (g.C.Choose.answers c.args.chooser.now) c.of-powers.result.modulus c.of-powers.result.delta c.args.network.now c.loop-taken.taken c.loop-taken.frontier c.loop-taken.own c.loop-taken.invariant
    c.nodes-taken-end.ensures.network (subst (λ m. WeightsBelow m c.args.network.now.nodes) (sym same) c.requires.weights) (subst (λ m. 0 < m) (sym same) some)

pub view-requires-clause-groups : goal.view-requires-clause-groups
view-requires-clause-groups g c = c.loop-taken.invariant.is.groups_are

pub name-place-requires-clause-view : goal.name-place-requires-clause-view
name-place-requires-clause-view g c =
    subst IsView (sym c.view.ensures) (shown (g.C.Choose.answers c.args.chooser.now) c.of-powers.result.modulus c.of-powers.result.delta c.args.network.now c.loop-taken.taken c.loop-taken.frontier c.loop-taken.own c.loop-taken.invariant)

pub name-place-requires-clause-left : goal.name-place-requires-clause-left
name-place-requires-clause-left g c none =
    let small = subst (λ (nodes : List Node). c.loop-taken.taken < length nodes) c.nodes-taken-end.ensures.value c.loop-taken-test.true in
    some_left (g.C.Choose.answers c.args.chooser.now) c.of-powers.result.modulus c.of-powers.result.delta c.args.network.now c.loop-taken.taken c.loop-taken.frontier c.loop-taken.own c.loop-taken.invariant small
    (ap (λ (view : View). view.left) (sym c.view.ensures) ∙ none)

pub returns-in-Err-advance-clause-stopped : goal.returns-in-Err-advance-clause-stopped
returns-in-Err-advance-clause-stopped g c =
    let answers = g.C.Choose.answers c.args.chooser.now in
    let m = c.of-powers.result.modulus in
    let delta = c.of-powers.result.delta in
    let network = c.args.network.now in
    let h = c.loop-taken.invariant in
    let answer = subst (λ (view : View). answers view c.name-place.result) c.view.ensures c.name-place.ensures.answer in
    let left = subst (λ (view : View). is_member ◌==◌ view.left c.name-place.result ≡ true) c.view.ensures c.name-place.ensures.left in
    let limit = (c.in-Err-advance.ensures {u = tt}).refused h.order h.is in
    let small = subst (λ (nodes : List Node). c.loop-taken.taken < length nodes) c.nodes-taken-end.ensures.value c.loop-taken-test.true in
    subst (IsStopped answers network) (sym c.stopped_at.ensures)
    (stopped answers m delta network c.loop-taken.taken c.loop-taken.frontier c.loop-taken.own h c.name-place.result answer left small (c.loop-taken.taken + 1) refl c.in-Err-advance.reason limit)

pub returns-in-Err-advance-clause-limit : goal.returns-in-Err-advance-clause-limit
returns-in-Err-advance-clause-limit g c next is_next =
    stopped_by next (g.C.Choose.answers c.args.chooser.now) c.args.network.now is_next c.stopped_at.result (returns-in-Err-advance-clause-stopped g c)

pub returns-clause-swept : goal.returns-clause-swept
returns-clause-swept g c = search rules

pub returns-clause-turns : goal.returns-clause-turns
returns-clause-turns g c next is_next = swept_by next (g.C.Choose.answers c.args.chooser.now) c.args.network.now is_next _ _ (returns-clause-swept g c)

pub loop-taken-preserved : goal.loop-taken-preserved
loop-taken-preserved g c =
    let answers = g.C.Choose.answers c.args.chooser.now in
    let m = c.of-powers.result.modulus in
    let delta = c.of-powers.result.delta in
    let network = c.args.network.now in
    let h = c.loop-taken.invariant in
    let answer = subst (λ (view : View). answers view c.name-place.result) c.view.ensures c.name-place.ensures.answer in
    let left = subst (λ (view : View). is_member ◌==◌ view.left c.name-place.result ≡ true) c.view.ensures c.name-place.ensures.left in
    let next = (c.in-Ok-advance.ensures {u = tt}).after h.order h.is in
    one_more answers m delta network c.loop-taken.taken c.loop-taken.frontier c.loop-taken.own h c.name-place.result answer left c.advance.new.self c.advance.new.turns next

pub returns-clause-value : goal.returns-clause-value
returns-clause-value g c =
    let answers = g.C.Choose.answers c.args.chooser.now in
    let m = c.of-powers.result.modulus in
    let delta = c.of-powers.result.delta in
    let network = c.args.network.now in
    let frontier = c.loop-taken.frontier in
    let all = subst (λ (nodes : List Node). length nodes ≤ c.loop-taken.taken) c.nodes-taken-end.ensures.value c.loop-taken-test.false in
    c.value-sum.ensures
    ∙ ap (λ free. unwrap_or (lookup (◌==◌ 0) frontier.table) 0 * delta ^ free % m) c.free.ensures.value
    ∙ summed answers m delta network c.loop-taken.taken frontier c.loop-taken.own c.loop-taken.invariant all c.nodes-taken-end.ensures.network
    ∙ ap (λ (powers : LoopPowers). value powers.modulus powers.delta network) c.of-powers.ensures
    ∙ ap (λ m. value m c.loop_value.result network) c.ring.ensures
    ∙ ap (λ delta. value c.args.params.now.modulus delta network) c.loop_value.ensures.value
