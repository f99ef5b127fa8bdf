-- The numbers of skein theory that parameters fix, as residues modulo m. (Lickorish, ch. 13; Kauffman and Lins.)
--
--     inverse_root p           A^-1, which is A^(4r-1)
--     loop_value p             delta = -A^2 - A^-2, the value of a loop
--     quantum_number d n       Delta_n as a whole number, where a loop has the value d
--     delta p n                Delta_n: at 41, 2, 5 these are 1, 6, 35, 40, 0
--     twist_factor a n         mu_n = (-1)^n A^(n^2+2n) as a whole number, for A = a
--     twist p n t              mu_n to the power t; for a negative t the power -t of (-1)^n A^-(n^2+2n)
use Rattle.std.specs.Prelude.{ℕ, zero, suc, ◌+◌, ◌-◌, ◌*◌, ℤ, pos, ◌-ℤ◌, ◌*ℤ◌, neg_ℤ}
use Rattle.ring_identities.specs.Residues.{residue}
use Rattle.ring_identities.specs.Powers.{power, sign, signed_power}
use Rattle.root_quantum.specs.Parameters.{Parameters}

-- A^-1
unfoldable pub inverse_root : Parameters → ℕ
inverse_root p = residue p.modulus (power (pos p.root) (4 * p.level - 1))

-- delta
unfoldable pub loop_value : Parameters → ℕ
loop_value p = residue p.modulus (neg_ℤ (pos p.root *ℤ pos p.root) -ℤ pos (inverse_root p) *ℤ pos (inverse_root p))

-- Delta_n, where a loop has the value d
unfoldable pub quantum_number : ℤ → ℕ → ℤ
quantum_number d zero = pos 1
quantum_number d (suc zero) = d
quantum_number d (suc (suc n)) = d *ℤ quantum_number d (suc n) -ℤ quantum_number d n

-- Delta_n
unfoldable pub delta : Parameters → ℕ → ℕ
delta p n = residue p.modulus (quantum_number (pos (loop_value p)) n)

-- mu_n, for A = a
unfoldable pub twist_factor : ℤ → ℕ → ℤ
twist_factor a n = sign n *ℤ power a (n * n + 2 * n)

-- mu_n to the power t
unfoldable pub twist : Parameters → ℕ → ℤ → ℕ
twist p n t = residue p.modulus (signed_power (twist_factor (pos p.root) n) (twist_factor (pos (inverse_root p)) n) t)
