-- The network is that of the colouring with the number.
use Rattle.std.proofs.Common.{◌≡◌, ◌⊎◌, ℕ, ◌+◌, ◌≤◌, List, Ok, Err, ◌*ℤ◌, ap, ap₂, subst, ◌∙◌, arith}
use Rattle.std.specs.List.{All, Contains}
use Rattle.arc_pairing.specs.Nodes.{IsShortNode}
use Rattle.state_sums.specs.Networks.{Network}
use Rattle.state_sums.specs.StateSums.{value}
use Rattle.ring_identities.specs.Residues.{residue}
use Rattle.root_quantum.specs.QuantumNumbers.{loop_value}
use Rattle.coloured_values.specs.Coloured.{twists}
use Rattle.coloured_values.specs.Surgery.{deltas}
use Rattle.frontier_sweep.specs.SweepResults.{sweep}
use Rattle.frontier_sweep.specs.Sweeps.{IsSwept, IsStopped}
use Rattle.frontier_sweep.specs.declared.fault.SweepFault.TheVariants.{Memory}
use Rattle.wenzl_table.specs.Tables.{Knows}
use Rattle.kirby_terms.specs.Terms.{network_of, chosen_colours, network_at}
use Rattle.kirby_terms.proofs.TurnBounds.{swept_few}
use Rattle.kirby_terms.proofs.Weights.{value_below, chosen, contracted, term_is}
use Rattle.kirby_terms.proofs.colour_term.term.Goals as goal

pub returns-in-Err-contract-clause-stopped : goal.returns-in-Err-contract-clause-stopped
returns-in-Err-contract-clause-stopped g c =
    let p = c.args.table.now.params in
    let d = c.args.framed.now in
    let colours_are : c.in-Ok.colours.items ≡ chosen_colours p d c.args.index =
    chosen p c.params-params.result.now d c.planar.result.now c.components.result c.args.index c.in-Ok.colours.items c.params-params.ensures c.components.ensures.count c.planar.ensures.planar ((c.in-Ok.ensures {u = tt}).colours) in
    let network_is : c.in-Ok-coloured_cable.network ≡ network_at p d c.args.index =
    (c.in-Ok-coloured_cable.ensures {u = tt}).network ∙ ap (network_of p d) (c.deref.ensures.value ∙ colours_are) in
    subst (λ (n : Network). IsStopped (g.C.Choose.answers c.args.chooser.now) n c.in-Err-contract.fault) network_is ((c.in-Err-contract.ensures {u = tt}).stopped)

pub returns-in-Err-contract-clause-limit : goal.returns-in-Err-contract-clause-limit
returns-in-Err-contract-clause-limit g c next is_next =
    let p = c.args.table.now.params in
    let d = c.args.framed.now in
    let colours_are : c.in-Ok.colours.items ≡ chosen_colours p d c.args.index =
    chosen p c.params-params.result.now d c.planar.result.now c.components.result c.args.index c.in-Ok.colours.items c.params-params.ensures c.components.ensures.count c.planar.ensures.planar ((c.in-Ok.ensures {u = tt}).colours) in
    let network_is : c.in-Ok-coloured_cable.network ≡ network_at p d c.args.index =
    (c.in-Ok-coloured_cable.ensures {u = tt}).network ∙ ap (network_of p d) (c.deref.ensures.value ∙ colours_are) in
    subst (λ (n : Network). (c.in-Err-contract.fault ≡ Memory) ⊎ (sweep next n ≡ Err c.in-Err-contract.fault)) network_is ((c.in-Err-contract.ensures {u = tt}).limit next is_next)

pub mul-requires-clause-x_below : goal.mul-requires-clause-x_below
mul-requires-clause-x_below g c =
    let low = c.args.table.now.params.meets.modulus.0 in
    let m : c.params-params.result.now.modulus ≡ c.args.table.now.params.modulus = ap (λ q. q.modulus) c.params-params.ensures in
    let below = value_below c.params-params.result.now.modulus (loop_value c.params-params.result.now) c.in-Ok-coloured_cable.network c.in-Ok-contract.value (omega (arith, low, m)) ((c.in-Ok-contract.ensures {u = tt}).value) in
    let ring = c.ring.ensures in
    omega (arith, below, ring)

pub returns-clause-value : goal.returns-clause-value
returns-clause-value g c =
    let p = c.args.table.now.params in
    let d = c.args.framed.now in
    let colours_are : c.in-Ok.colours.items ≡ chosen_colours p d c.args.index =
    chosen p c.params-params.result.now d c.planar.result.now c.components.result c.args.index c.in-Ok.colours.items c.params-params.ensures c.components.ensures.count c.planar.ensures.planar ((c.in-Ok.ensures {u = tt}).colours) in
    let network_is : c.in-Ok-coloured_cable.network ≡ network_at p d c.args.index =
    (c.in-Ok-coloured_cable.ensures {u = tt}).network ∙ ap (network_of p d) (c.deref.ensures.value ∙ colours_are) in
    let q = c.params-params.result.now in
    let value_is : c.in-Ok-contract.value ≡ value p.modulus (loop_value p) (network_at p d c.args.index) =
    (c.in-Ok-contract.ensures {u = tt}).value ∙ ap (λ r. value r.modulus (loop_value r) c.in-Ok-coloured_cable.network) c.params-params.ensures ∙ ap (value p.modulus (loop_value p)) network_is in
    let coloured_is = contracted p d (chosen_colours p d c.args.index) c.in-Ok-contract.value value_is in
    let weight_is = c.weight.ensures.value ∙ ap₂ (λ r xs. residue r.modulus (deltas r xs *ℤ twists r d.items 1 d.framings xs)) c.params-params.ensures (c.deref-2.ensures.value ∙ colours_are) in
    term_is p d (chosen_colours p d c.args.index) c.ring.result.now c.in-Ok-contract.value c.weight.result c.mul.result (c.ring.ensures ∙ ap (λ r. r.modulus) c.params-params.ensures) coloured_is weight_is c.mul.ensures.product

pub returns-clause-swept : goal.returns-clause-swept
returns-clause-swept g c =
    let p = c.args.table.now.params in
    let d = c.args.framed.now in
    let colours_are : c.in-Ok.colours.items ≡ chosen_colours p d c.args.index =
    chosen p c.params-params.result.now d c.planar.result.now c.components.result c.args.index c.in-Ok.colours.items c.params-params.ensures c.components.ensures.count c.planar.ensures.planar ((c.in-Ok.ensures {u = tt}).colours) in
    let network_is : c.in-Ok-coloured_cable.network ≡ network_at p d c.args.index =
    (c.in-Ok-coloured_cable.ensures {u = tt}).network ∙ ap (network_of p d) (c.deref.ensures.value ∙ colours_are) in
    subst (λ (n : Network). IsSwept (g.C.Choose.answers c.args.chooser.now) n c.args.turns.now c.contract.new.turns) network_is ((c.in-Ok-contract.ensures {u = tt}).swept)

pub returns-clause-turns : goal.returns-clause-turns
returns-clause-turns g c next is_next =
    let p = c.args.table.now.params in
    let d = c.args.framed.now in
    let colours_are : c.in-Ok.colours.items ≡ chosen_colours p d c.args.index =
    chosen p c.params-params.result.now d c.planar.result.now c.components.result c.args.index c.in-Ok.colours.items c.params-params.ensures c.components.ensures.count c.planar.ensures.planar ((c.in-Ok.ensures {u = tt}).colours) in
    let network_is : c.in-Ok-coloured_cable.network ≡ network_at p d c.args.index =
    (c.in-Ok-coloured_cable.ensures {u = tt}).network ∙ ap (network_of p d) (c.deref.ensures.value ∙ colours_are) in
    subst (λ (n : Network). (count : ℕ) × (sweep next n ≡ Ok count) × (c.contract.new.turns ≡ c.args.turns.now + count)) network_is ((c.in-Ok-contract.ensures {u = tt}).turns next is_next)

pub returns-clause-known : goal.returns-clause-known
returns-clause-known g c =
    let p = c.args.table.now.params in
    let d = c.args.framed.now in
    let colours_are : c.in-Ok.colours.items ≡ chosen_colours p d c.args.index =
    chosen p c.params-params.result.now d c.planar.result.now c.components.result c.args.index c.in-Ok.colours.items c.params-params.ensures c.components.ensures.count c.planar.ensures.planar ((c.in-Ok.ensures {u = tt}).colours) in
    let network_is : c.in-Ok-coloured_cable.network ≡ network_at p d c.args.index =
    (c.in-Ok-coloured_cable.ensures {u = tt}).network ∙ ap (network_of p d) (c.deref.ensures.value ∙ colours_are) in
    subst (λ (xs : List ℕ). (n : ℕ) → 2 ≤ n → Contains xs n → Knows c.coloured_cable.new.notes n) (c.deref.ensures.value ∙ colours_are) ((c.in-Ok-coloured_cable.ensures {u = tt}).known)

pub returns-clause-few : goal.returns-clause-few
returns-clause-few g c =
    let network = c.in-Ok-coloured_cable.network in
    swept_few (g.C.Choose.answers c.args.chooser.now) network c.args.turns.now c.contract.new.turns c.nodes.ensures.network.few_nodes (subst (All IsShortNode) c.nodes.ensures.value c.short_nodes.ensures)
    ((c.in-Ok-contract.ensures {u = tt}).swept)
