-- The law of the inverses of Omega+ and Omega-.
use Rattle.std.specs.Prelude.{ℕ, ◌↔◌}
use Rattle.std.specs.Int.{IsGcd}
use Rattle.ring_identities.specs.Powers.{IsInverse}
use Rattle.root_quantum.specs.Parameters.{Parameters}
use Rattle.planar_check.specs.declared.sign.Sign.{Sign}
use Rattle.planar_check.specs.Tables.{sign_value}
use Rattle.coloured_values.specs.Surgery.{omega_inverse}
use Rattle.kirby_terms.specs.Normalisations.{omega_of}

-- An Omega has an inverse exactly where it shares no factor with m, and then trying each residue finds it.
pub record HasInverseLaw (p : Parameters) (sign : Sign) : Type 0 where
  pub exists : ((inverse : ℕ) × IsInverse p.modulus (omega_of p sign) inverse) ↔ IsGcd (omega_of p sign) p.modulus 1
  pub found : IsGcd (omega_of p sign) p.modulus 1 → IsInverse p.modulus (omega_of p sign) (omega_inverse p (sign_value sign))

abbrev pub OmegaInverseLaw : Type 0
OmegaInverseLaw = (p : Parameters) (sign : Sign) → HasInverseLaw p sign
