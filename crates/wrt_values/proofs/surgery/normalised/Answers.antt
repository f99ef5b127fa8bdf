use Rattle.std.proofs.Common.{subst}
use Rattle.kirby_terms.specs.Normalisations.{IsRefused}
use Rattle.kirby_terms.specs.declared.normalisation.NormFault.{NormFault}
use Rattle.wrt_values.proofs.Surgeries.{norm_is, omegas_exist, omegas_refused}
use Rattle.wrt_values.proofs.surgery.normalised.Goals as goal

pub returns-in-Ok-clause-inverses : goal.returns-in-Ok-clause-inverses
returns-in-Ok-clause-inverses c =
    omegas_exist c.args.params.now c.args.framed.now _ _ c.requires.plus c.requires.minus c.in-Ok.ensures.plus c.in-Ok.ensures.minus

pub returns-in-Err-NoInverse-clause-refused : goal.returns-in-Err-NoInverse-clause-refused
returns-in-Err-NoInverse-clause-refused c =
    let told = norm_is c.in-Err-NoInverse.field-0 in
    let F : NormFault → Type 0 = IsRefused c.args.params.now c.args.counts.now.positive c.args.counts.now.negative in
    rw told.2 (omegas_refused c.args.params.now c.args.framed.now _ _ told.0 told.1 c.requires.plus c.requires.minus (subst F told.2 c.in-Err-NoInverse.ensures.refused))
