-- Equations "the residue is 1", as they stand in contracts, against congruences, as identities use them.
--
--     unity_congruent, congruent_unity     from one to the other
--     inverse_unique                       a residue has one inverse
use Rattle.std.proofs.Common.{◌≡◌, ℕ, ◌<◌, ℤ, pos, ◌*ℤ◌, [], ◌∷◌, refl, sym, ◌∙◌, arith}
use Rattle.ring_identities.specs.Residues.{residue, Congruent}
use Rattle.ring_identities.specs.Powers.{IsInverse}
use Rattle.ring_identities.proofs.Congruences.{congruent_sym, congruent_trans, from_residue, same_residue, residue_small}
use Rattle.ring_identities.proofs.Modulo.{modulos, by_congruences}

pub unity_congruent : {m : ℕ} (z : ℤ) → 0 < m → residue m z ≡ 1 → Congruent m z (pos 1)
unity_congruent {m} z positive unity = congruent_sym (from_residue m 1 z positive (sym unity))

pub congruent_unity : {m : ℕ} {z : ℤ} → 1 < m → Congruent m z (pos 1) → residue m z ≡ 1
congruent_unity {m} {z} many c = same_residue (omega arith) c ∙ residue_small m 1 many

-- y and z are both y x z
pub inverse_unique : (m x y z : ℕ) → y < m → z < m → IsInverse m x y → IsInverse m x z → y ≡ z
inverse_unique m x y z y_below z_below xy xz =
    let positive : 0 < m = omega arith in
    let xy_is = unity_congruent (pos x *ℤ pos y) positive xy in
    let xz_is = unity_congruent (pos x *ℤ pos z) positive xz in
    let one_way : Congruent m (pos y) (pos y *ℤ pos x *ℤ pos z) = by_congruences 1 (pos x ∷ pos z ∷ pos y ∷ []) (search modulos depth 30) (search modulos depth 30) (xz_is, tt) refl in
    let other_way : Congruent m (pos y *ℤ pos x *ℤ pos z) (pos z) = by_congruences 1 (pos x ∷ pos y ∷ pos z ∷ []) (search modulos depth 30) (search modulos depth 30) (xy_is, tt) refl in
    sym (residue_small m y y_below) ∙ same_residue positive (congruent_trans one_way other_way) ∙ residue_small m z z_below
