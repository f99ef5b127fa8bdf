use Rattle.std.proofs.Common.{sym}
use Rattle.inertia_laws.specs.Elimination.{eliminated}
use Rattle.inertia_laws.proofs.Eliminated.{eliminated_certifies}
use Rattle.inertia_laws.proofs.SameCertificate.{same_certificate}
use Rattle.inertia_cert.specs.SymmetricMatrices.{entry}
use Rattle.inertia_cert.specs.Eliminations.{state}
use Rattle.inertia_cert.proofs.certificate.inertia.Goals as goal

pub returns-clause-certifies : goal.returns-clause-certifies
returns-clause-certifies c =
    let n = c.args.matrix.now.size in
    let l = entry c.args.matrix.now in
    let s = state c.in_ok-done.done in
    let e = eliminated n l in
    let h = c.in_ok-done.ensures.made in
    same_certificate n l e.p e.q s.p s.q (λ i. e.m i i) (λ i. s.m i i)
    (λ i j hi hj. sym (h.p i j hi hj)) (λ i j hi hj. sym (h.q i j hi hj)) (λ i hi. sym (h.m i i hi hi))
    (eliminated_certifies n l c.size-size.ensures.matrix.symmetric)

pub returns-clause-eliminated : goal.returns-clause-eliminated
returns-clause-eliminated c =
    let h = c.in_ok-done.ensures.made in
    record { p = h.p; q = h.q; diagonal = λ i hi. h.m i i hi hi }
