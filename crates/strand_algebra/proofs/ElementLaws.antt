-- The laws of elements.
use Rattle.std.proofs.Common.{◌≡◌, ℕ, ◌%◌, ◌<◌, List, [], ◌∷◌, pos, sym, ◌∙◌, All, mod-eq_of_lt}
use Rattle.std.proofs.lemmas.List.Elements.{All-head, All-tail}
use Rattle.ring_identities.specs.Residues.{residue, Congruent}
use Rattle.ring_identities.proofs.Congruences.{congruent_refl, congruent_eq, congruent_sym, congruent_trans, same_residue}
use Rattle.state_sums.specs.Networks.{Term}
use Rattle.strand_algebra.specs.Elements.{coefficient, collected, identity, multiply}
use Rattle.strand_algebra.specs.Laws.{IsNoncrossingOn, CollectedTerms, CollectedCoefficients, ElementsByCoefficients, AssociativeElements, IdentityAbove, IdentityBelow}
use Rattle.strand_algebra.proofs.Collecting.{signed, AreNoncrossingTerms, only_at, coefficient_total, coefficient_below, collected_alike, IsElement-collected, noncrossing_element, same_elements}
use Rattle.strand_algebra.proofs.PairingLaws.{pairing_of}
use Rattle.strand_algebra.proofs.FormalSums.{Sum, total, AreAlike, formal_multiply, formal_identity}
use Rattle.strand_algebra.proofs.Operations.{IsElement-identity, IsElement-multiply, identity_alike, multiply_alike, pairings_of}
use Rattle.strand_algebra.proofs.PairingAlgebra.{times_alike, assoc_alike, unit_alike, alike_unit}

pub collected_element : CollectedTerms
collected_element = IsElement-collected

pub element_collected : ElementsByCoefficients
element_collected m n x h e = same_elements m n (collected m n x) x h (IsElement-collected m n x h) e (collected_alike m n x h (noncrossing_element m n x e))

noncrossing_from_all : (n : ℕ) (x : List Term) → All (λ term. IsNoncrossingOn n term.partner) x → AreNoncrossingTerms n x
noncrossing_from_all n [] h = tt
noncrossing_from_all n (t ∷ x) h =
    let free : Term → Type 0 = λ term. IsNoncrossingOn n term.partner in
    let f = All-head free t x h in
    ((pairing_of n t.partner f, f.noncrossing), noncrossing_from_all n x (All-tail free t x h))

pub same_mod : (m a b : ℕ) → 0 < m → Congruent m (pos a) (pos b) → a % m ≡ b % m
unfolding residue
same_mod m a b h c = same_residue h c

pub collected_coefficient : CollectedCoefficients
collected_coefficient m n x p h f =
    let e = IsElement-collected m n x h in
    sym (mod-eq_of_lt (coefficient_below m n (collected m n x) p h e))
    ∙ same_mod m (coefficient (collected m n x) p) (coefficient x p) h
    (congruent_trans (congruent_eq (coefficient_total (collected m n x) p)) (congruent_trans (collected_alike m n x h (noncrossing_from_all n x f) (only_at p)) (congruent_eq (sym (coefficient_total x p)))))

-- ---- alike sums, one after another
pub alike_trans : (m : ℕ) (x y z : Sum) → AreAlike m x y → AreAlike m y z → AreAlike m x z
alike_trans m x y z h g w = congruent_trans (h w) (g w)

pub alike_sym : (m : ℕ) (x y : Sum) → AreAlike m x y → AreAlike m y x
alike_sym m x y h w = congruent_sym (h w)

pub alike_refl : (m : ℕ) (x : Sum) → AreAlike m x x
alike_refl m x w = congruent_refl m (total x w)

-- THE PRODUCT IS ASSOCIATIVE
pub multiply_assoc : AssociativeElements
multiply_assoc m delta n x y z h ex ey ez =
    let fx = noncrossing_element m n x ex in
    let fy = noncrossing_element m n y ey in
    let fz = noncrossing_element m n z ez in
    let exy = IsElement-multiply m delta n x y h in
    let eyz = IsElement-multiply m delta n y z h in
    let times = formal_multiply n (pos delta) in
    let left : AreAlike m (signed (multiply m delta n (multiply m delta n x y) z)) (times (times (signed x) (signed y)) (signed z)) =
    alike_trans m _ (times (signed (multiply m delta n x y)) (signed z)) _ (multiply_alike m delta n (multiply m delta n x y) z h (noncrossing_element m n _ exy) fz)
    (times_alike m n (pos delta) (signed (multiply m delta n x y)) (times (signed x) (signed y)) (signed z) (signed z) (multiply_alike m delta n x y h fx fy) (alike_refl m (signed z))) in
    let right : AreAlike m (signed (multiply m delta n x (multiply m delta n y z))) (times (signed x) (times (signed y) (signed z))) =
    alike_trans m _ (times (signed x) (signed (multiply m delta n y z))) _ (multiply_alike m delta n x (multiply m delta n y z) h fx (noncrossing_element m n _ eyz))
    (times_alike m n (pos delta) (signed x) (signed x) (signed (multiply m delta n y z)) (times (signed y) (signed z)) (alike_refl m (signed x)) (multiply_alike m delta n y z h fy fz)) in
    same_elements m n (multiply m delta n (multiply m delta n x y) z) (multiply m delta n x (multiply m delta n y z)) h
    (IsElement-multiply m delta n (multiply m delta n x y) z h) (IsElement-multiply m delta n x (multiply m delta n y z) h)
    (alike_trans m _ (times (times (signed x) (signed y)) (signed z)) _ left
    (alike_trans m _ (times (signed x) (times (signed y) (signed z))) _ (assoc_alike m n (pos delta) (signed x) (signed y) (signed z) (pairings_of n x fx) (pairings_of n y fy) (pairings_of n z fz)) (alike_sym m _ _ right)))

-- THE IDENTITY CHANGES NOTHING
pub identity_above : IdentityAbove
identity_above m delta n x h ex =
    let fx = noncrossing_element m n x ex in
    let ei = IsElement-identity m n h in
    same_elements m n (multiply m delta n (identity m n) x) x h (IsElement-multiply m delta n (identity m n) x h) ex
    (alike_trans m _ (formal_multiply n (pos delta) (signed (identity m n)) (signed x)) _ (multiply_alike m delta n (identity m n) x h (noncrossing_element m n (identity m n) ei) fx)
    (alike_trans m _ (formal_multiply n (pos delta) (formal_identity n) (signed x)) _
    (times_alike m n (pos delta) (signed (identity m n)) (formal_identity n) (signed x) (signed x) (identity_alike m n h) (alike_refl m (signed x)))
    (unit_alike m n (pos delta) (signed x) (pairings_of n x fx))))

pub identity_below : IdentityBelow
identity_below m delta n x h ex =
    let fx = noncrossing_element m n x ex in
    let ei = IsElement-identity m n h in
    same_elements m n (multiply m delta n x (identity m n)) x h (IsElement-multiply m delta n x (identity m n) h) ex
    (alike_trans m _ (formal_multiply n (pos delta) (signed x) (signed (identity m n))) _ (multiply_alike m delta n x (identity m n) h fx (noncrossing_element m n (identity m n) ei))
    (alike_trans m _ (formal_multiply n (pos delta) (signed x) (formal_identity n)) _
    (times_alike m n (pos delta) (signed x) (signed x) (signed (identity m n)) (formal_identity n) (alike_refl m (signed x)) (identity_alike m n h))
    (alike_unit m n (pos delta) (signed x) (pairings_of n x fx))))
