use Rattle.std.proofs.Common.{◌≡◌, ◌⊎◌, Ok, Err, ap, subst, ◌∙◌}
use Rattle.frontier_sweep.specs.declared.fault.SweepFault.TheVariants.{Memory}
use Rattle.skein_network.specs.Refusals.{net_refusal}
use Rattle.tetra_sum.specs.Nets.{net_value, tetrahedron_net}
use Rattle.tetra_sum.specs.Refusals.{by_tet}
use Rattle.tetra_sum.proofs.NetValues.{tet_fault}
use Rattle.tetra_sum.proofs.places.tet_value.Goals as goal

pub value-requires-clause-fits : goal.value-requires-clause-fits
value-requires-clause-fits c = ap (λ n. net_refusal c.args.table.now.top n c.args.colours.now) c.requires.net ∙ c.requires.fits

pub returns-in-Ok-clause-none : goal.returns-in-Ok-clause-none
returns-in-Ok-clause-none c =
    let p = c.args.table.now.params in
    ap (by_tet c.args.number) (subst (λ n. net_value p n c.args.colours.now ≡ Ok c.in-Ok.value) c.requires.net ((c.in-Ok.ensures {u = tt}).value))

pub returns-in-Err-clause-refused : goal.returns-in-Err-clause-refused
returns-in-Err-clause-refused c =
    let p = c.args.table.now.params in
    tet_fault c.args.number (net_value p tetrahedron_net c.args.colours.now) c.in-Err.fault c.limit_at.result c.limit_at.ensures
    (subst (λ n. (c.in-Err.fault ≡ Memory) ⊎ (net_value p n c.args.colours.now ≡ Err c.in-Err.fault)) c.requires.net ((c.in-Err.ensures {u = tt}).refused))
