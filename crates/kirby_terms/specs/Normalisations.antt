-- What turns a Kirby sum into a surgery value (Lickorish, ch. 13): inverse powers of Omega+ and Omega-.
--
--     omega_of p sign                  Omega+ or Omega-: the Kirby sum of an unknot with no crossing framed +1 or -1
--     omega_term p sign n              what colour n adds to it
--     normalised p k plus minus        the residue k times Omega+ to the power -plus and Omega- to the power -minus
--     IsMissing p sign count common    the count is above 0, and that Omega shares the factor with m: it has no inverse
--     IsRefused p plus minus fault     the first sign, plus before minus, of which an inverse is missing
--
-- At 41, 2, 5 Omega+ is 23 and Omega- is 5, and the sum 30 of the unknot framed 3 has the value 12 (proofs/Examples.antt).
use Rattle.std.specs.Prelude.{◌≢◌, ℕ, ◌<◌, ℤ, pos, ◌*ℤ◌}
use Rattle.std.specs.Int.{IsGcd}
use Rattle.ring_identities.specs.Residues.{residue}
use Rattle.ring_identities.specs.Powers.{power}
use Rattle.root_quantum.specs.Parameters.{Parameters}
use Rattle.root_quantum.specs.QuantumNumbers.{delta, twist}
use Rattle.planar_check.specs.declared.sign.Sign.{Sign}
use Rattle.planar_check.specs.declared.sign.Sign.TheVariants.{Plus, Minus}
use Rattle.planar_check.specs.Tables.{sign_value}
use Rattle.coloured_values.specs.Surgery.{omega_sum, omega_inverse}
use Rattle.kirby_terms.specs.declared.normalisation.NormFault.{NormFault}
use Rattle.kirby_terms.specs.declared.normalisation.NormFault.TheVariants.{NoInverse}

abbrev pub omega_of : Parameters → Sign → ℕ
omega_of p sign = omega_sum p (sign_value sign)

-- What colour n adds to it.
abbrev pub omega_term : Parameters → Sign → ℕ → ℤ
omega_term p sign n = pos (delta p n) *ℤ pos (delta p n) *ℤ pos (twist p n (sign_value sign))

-- Omega to the power -count, as a residue.
abbrev pub inverse_power : Parameters → Sign → ℕ → ℕ
inverse_power p sign count = residue p.modulus (power (pos (omega_inverse p (sign_value sign))) count)

abbrev pub normalised : Parameters → ℕ → ℕ → ℕ → ℕ
normalised p k plus minus = residue p.modulus (pos k *ℤ power (pos (omega_inverse p (sign_value Plus))) plus *ℤ power (pos (omega_inverse p (sign_value Minus))) minus)

pub record IsMissing (p : Parameters) (sign : Sign) (count common : ℕ) : Type 0 where
  pub counted : 0 < count
  pub divisor : IsGcd (omega_of p sign) p.modulus common
  pub shared : common ≢ 1

abbrev pub IsRefused : Parameters → ℕ → ℕ → NormFault → Type 0
IsRefused p plus minus (NoInverse Plus common) = IsMissing p Plus plus common
IsRefused p plus minus (NoInverse Minus common) = ((other : ℕ) → ¬ IsMissing p Plus plus other) × IsMissing p Minus minus common
