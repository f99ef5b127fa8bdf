-- Each certificate of a symmetric matrix has the matrix's indices: the elimination gives a certificate with them, and any two
-- certificates have the same counts.
use Rattle.inertia_laws.specs.Elimination.{eliminated}
use Rattle.inertia_laws.specs.Indices.{positive_index, negative_index, nullity, final_diagonal}
use Rattle.inertia_laws.specs.Laws.{CertificateIndices}
use Rattle.inertia_laws.proofs.Clearing.{same_inertia}
use Rattle.inertia_laws.proofs.Eliminated.{eliminated_certifies}

-- EACH CERTIFICATE HAS THE MATRIX'S INDICES
pub certificate_indices_law : CertificateIndices
unfolding positive_index negative_index nullity
certificate_indices_law n l p q d symmetric certificate =
    let done = eliminated n l in
    let same = same_inertia n l p q d done.p done.q (final_diagonal n l) certificate (eliminated_certifies n l symmetric) in
    record { positive = same.0; negative = same.1; zero = same.2 }
