use Rattle.std.proofs.Common.{◌≡◌, ◌⊎◌, ◌∙◌, ℕ, List, Some, None, length, replicate, ap, ap₂, subst, arith}
use Rattle.pd_reader.specs.Diagrams.{IsDiagram}
use Rattle.planar_check.specs.Components.{greatest, least_labels}
use Rattle.coloured_values.specs.Coloured.{cabled}
use Rattle.skein_network.specs.declared.fault.CableFault.TheVariants.{Memory}
use Rattle.skein_network.specs.Refusals.{colour_refusal, IsNoInverse}
use Rattle.wrt_values.proofs.Ones.{memory_alone, plain_network}
use Rattle.wrt_values.proofs.bracket.plain_cable.Goals as goal

pub returns-in-Ok-clause-network : goal.returns-in-Ok-clause-network
returns-in-Ok-clause-network c =
    let items = c.args.diagram.now in
    let ones = c.deref.ensures.value ∙ c.in_ok-ones.ensures.items_if_clones_equal (λ y e. e) ∙ ap (λ (n : ℕ). replicate n 1) c.components.ensures.count in
    c.in-Ok.ensures.network
    ∙ ap₂ (λ p colours. cabled p items colours) c.in_ok-table.ensures.0 ones
    ∙ plain_network c.args.params.now items (subst IsDiagram c.diagram.ensures.diagram c.items-items.ensures.diagram)

pub unreachable-requires : goal.unreachable-requires
unreachable-requires c =
    let p = c.in_ok-table.table.params in
    let top = c.in_ok-table.table.top in
    let fault = c.in-Err.fault in
    let wanted : ℕ = length (least_labels c.args.diagram.now) in
    let ones = c.deref.ensures.value ∙ c.in_ok-ones.ensures.items_if_clones_equal (λ y e. e) ∙ ap (λ (n : ℕ). replicate n 1) c.components.ensures.count in
    let P : List ℕ → Type 0 = λ colours.
    (fault ≡ Memory) ⊎ ((colour_refusal top wanted colours ≡ Some fault) ⊎ ((colour_refusal top wanted colours ≡ None) × IsNoInverse p (greatest colours) fault)) in
    memory_alone p wanted top fault (let one = c.in_ok-table.ensures.1 in omega (arith, one)) c.in_default.not-Memory (subst P ones (c.in-Err.ensures {u = tt}).refused)
