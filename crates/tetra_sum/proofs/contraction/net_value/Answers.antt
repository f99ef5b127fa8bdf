use Rattle.std.proofs.Common.{◌≡◌, ◌<◌, Ok, IfOk, subst, arith}
use Rattle.std.proofs.lemmas.Result.{IfOk-weaker}
use Rattle.state_sums.specs.Networks.{Network}
use Rattle.state_sums.specs.StateSums.{value}
use Rattle.root_quantum.specs.Parameters.{Parameters}
use Rattle.root_quantum.specs.QuantumNumbers.{loop_value}
use Rattle.cables.specs.Nets.{cabled_net, coloured_net}
use Rattle.frontier_sweep.specs.Next.{next_of}
use Rattle.frontier_sweep.specs.SweepResults.{sweep}
use Rattle.frontier_sweep.specs.declared.order.Order.TheVariants.{Listed}
use Rattle.skein_network.specs.Refusals.{net_colour}
use Rattle.kirby_terms.proofs.Weights.{value_below}
use Rattle.tetra_sum.specs.Nets.{by_turns}
use Rattle.tetra_sum.proofs.NetValues.{given_value}
use Rattle.tetra_sum.proofs.contraction.net_value.Goals as goal

pub returns-clause-value : goal.returns-clause-value
unfolding coloured_net
returns-clause-value c =
    let result = c.listed_value.result in
    let q = c.params.result.now in
    let n = c.in-Ok.network in
    let given : IfOk result (λ x. by_turns (value q.modulus (loop_value q) n) (sweep (next_of Listed) n) ≡ Ok x) =
    given_value (value q.modulus (loop_value q) n) (sweep (next_of Listed) n) result c.listed_value.ensures.value c.listed_value.ensures.swept in
    let network_is : n ≡ cabled_net c.args.table.now.params c.args.net.now (net_colour c.args.net.now c.args.colours.now) = c.in-Ok.ensures.network in
    subst (λ (m : Network). IfOk result (λ x. by_turns (value c.args.table.now.params.modulus (loop_value c.args.table.now.params) m) (sweep (next_of Listed) m) ≡ Ok x)) network_is
    (subst (λ (r : Parameters). IfOk result (λ x. by_turns (value r.modulus (loop_value r) n) (sweep (next_of Listed) n) ≡ Ok x)) c.params.ensures given)

pub returns-clause-below : goal.returns-clause-below
returns-clause-below c =
    let p = c.params.result.now in
    let low = p.meets.modulus.0 in
    subst (λ (r : Parameters). IfOk c.listed_value.result (λ x. x < r.modulus)) c.params.ensures
    (IfOk-weaker c.listed_value.result _ _ (λ sum e. value_below p.modulus (loop_value p) c.in-Ok.network sum (omega (arith, low)) e) c.listed_value.ensures.value)
