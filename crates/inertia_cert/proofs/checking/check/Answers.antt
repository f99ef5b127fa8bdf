use Rattle.std.proofs.Common.{subst, rules}
use Rattle.inertia_laws.specs.Certificates.{IsCertificate}
use Rattle.inertia_laws.specs.Checking.{check_fits}
use Rattle.inertia_cert.specs.SymmetricMatrices.{entry}
use Rattle.inertia_cert.specs.Grids.{Decides}
use Rattle.inertia_cert.specs.Eliminations.{CertifiedInertia, p_of, q_of, diagonal_of}
use Rattle.inertia_cert.proofs.checking.check.Goals as goal

pub returns : goal.returns
returns c =
    let n = c.args.matrix.now.size in
    let l = entry c.args.matrix.now in
    let P : CertifiedInertia → Type 0 = λ k. Decides c.checked.result (check_fits n l (p_of k) (q_of k)) (IsCertificate n l (p_of k) (q_of k) (diagonal_of k)) in
    let told = subst P c.done.ensures c.checked.ensures in
    search rules
