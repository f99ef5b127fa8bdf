-- The laws of specs/Laws.antt, from the lemmas on congruences and powers.
use Rattle.std.proofs.Common.{◌≡◌, ℕ, zero, suc, ◌%◌, ◌<◌, pos, Option, refl, sym, ap, subst, ◌∙◌, arith, mod-lt}
use Rattle.ring_identities.specs.Residues.{residue}
use Rattle.ring_identities.specs.Powers.{power, IsUnity, IsOrder, IsOrderUpTo, order_up_to}
use Rattle.ring_identities.specs.Laws.{ResidueInRange, ResidueCongruent, SameResidues, ResidueOfNatural, InverseUnique, PowerModOrder, UnityAtMultiples, OrderUpToLimit, SignedPowerSum}
use Rattle.ring_identities.proofs.Congruences.{residue_below, residue_congruent, residue_small, same_residue, congruent_of_residues}
use Rattle.ring_identities.proofs.OrderSearch.{order_up_to-meets, order_up_to-unique}
use Rattle.ring_identities.proofs.PowerLemmas.{power-mod}
use Rattle.ring_identities.proofs.SignedPowers.{signed_power-plus}
use Rattle.ring_identities.proofs.Unities.{unity_congruent, inverse_unique}

pub residue_in_range : ResidueInRange
residue_in_range = residue_below

pub residue_congruent_law : ResidueCongruent
residue_congruent_law = residue_congruent

pub same_residues : SameResidues
same_residues m x y positive = (congruent_of_residues x y positive, same_residue positive)

pub residue_of_natural : ResidueOfNatural
unfolding residue
residue_of_natural m n = refl

pub inverse_unique_law : InverseUnique
inverse_unique_law = inverse_unique

pub power_mod_order : PowerModOrder
power_mod_order m x t n positive unity =
    same_residue positive (power-mod (pos x) t n (unity_congruent (power (pos x) t) positive unity))

-- a remainder that gives 1 too is no less than the order, or 0
rest_of_unity : (m x t rest : ℕ) → IsOrder m x t → rest < t → IsUnity m x rest → rest ≡ 0
rest_of_unity m x t zero order below unity = refl
rest_of_unity m x t (suc rest) order below unity = absurd (order.least (suc rest) (omega arith) below unity)

pub unity_at_multiples : UnityAtMultiples
unfolding power
unity_at_multiples m x t n many order =
    let positive : 0 < m = omega arith in
    let enough : 0 < t = omega (arith, order.positive) in
    let same = power_mod_order m x t n positive order.unity in
    ((λ unity. rest_of_unity m x t (n % t) order (mod-lt n enough) (sym same ∙ unity)), (λ divides. same ∙ ap (λ k. residue m (power (pos x) k)) divides ∙ residue_small m 1 many))

pub order_up_to_law : OrderUpToLimit
order_up_to_law m x limit found =
    let P : Option ℕ → Type 0 = IsOrderUpTo m x limit in
    let meets = order_up_to-meets m x limit in
    ((λ here. order_up_to-unique m x limit found (order_up_to m x limit) here meets), (λ same. subst P (sym same) meets))

pub signed_power_sum : SignedPowerSum
signed_power_sum = signed_power-plus
