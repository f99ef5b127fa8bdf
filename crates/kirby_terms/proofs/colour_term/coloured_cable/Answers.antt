-- The colours are the form's, and have projectors.
use Rattle.std.proofs.Common.{◌≡◌, ◌⊎◌, length, subst, None, Some}
use Rattle.planar_check.specs.Components.{greatest, least_labels}
use Rattle.skein_network.specs.declared.fault.CableFault.TheVariants.{Memory}
use Rattle.skein_network.specs.Refusals.{colour_refusal, IsNoInverse}
use Rattle.kirby_terms.proofs.NoFaults.{memory_alone}
use Rattle.kirby_terms.proofs.colour_term.coloured_cable.Goals as goal

pub unreachable-requires : goal.unreachable-requires
unreachable-requires c =
    let p = c.args.table.now.params in
    let top = c.args.table.now.top in
    let fault = c.in-Err.fault in
    memory_alone p c.args.framed.now c.args.colours.now top fault c.requires.count c.requires.few c.requires.top c.requires.inverses c.in_default.not-Memory
    (subst
    (λ items.
    (fault ≡ Memory)
    ⊎ ((colour_refusal top (length (least_labels items)) c.args.colours.now ≡ Some fault) ⊎ ((colour_refusal top (length (least_labels items)) c.args.colours.now ≡ None) × IsNoInverse p (greatest c.args.colours.now) fault)))
    c.planar.ensures.planar ((c.in-Err.ensures {u = tt}).refused))
