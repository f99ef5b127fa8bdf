-- The operations of elements are alike to those of formal sums, and their results are elements.
use Rattle.std.proofs.Common.{◌≡◌, ℕ, ◌+◌, ◌-◌, ◌*◌, ◌^◌, ◌<◌, List, [], ◌∷◌, ◌++◌, map, ℤ, pos, ◌+ℤ◌, ◌*ℤ◌, refl, sym, ap, ap₂, ◌∙◌, arith}
use Rattle.std.proofs.Math.IntN.{pos-*ℤ-pos}
use Rattle.std.specs.List.{AllByRecursion, flat_map, sum_by}
use Rattle.std.proofs.lemmas.List.{map-append}
use Rattle.std.proofs.lemmas.List.Sums.{sum_by-cons}
use Rattle.graph_parts.proofs.Renaming.{map_map}
use Rattle.ring_identities.specs.Powers.{power}
use Rattle.ring_identities.specs.Residues.{Congruent}
use Rattle.ring_identities.proofs.Congruences.{congruent_eq, congruent_trans, natural_mod}
use Rattle.ring_identities.proofs.PowerLemmas.{power-pos}
use Rattle.state_sums.specs.Networks.{Term}
use Rattle.strand_algebra.specs.StrandPairings.{straight, hooked, widened, product, product_loops, closure_loops}
use Rattle.strand_algebra.specs.Elements.{IsElement, identity, hook, add, scaled, term_on, multiply, beside, close}
use Rattle.strand_algebra.proofs.ByLabels.{product-labels, product_loops-labels, closure_loops-labels}
use Rattle.strand_algebra.proofs.Collecting.{signed, AreNoncrossingTerms, collected_alike, IsElement-collected}
use Rattle.strand_algebra.proofs.PairingLaws.{pairing_of, straight_noncrossing, hooked_noncrossing, widened_noncrossing, IsNoncrossingOn-from_points}
use Rattle.strand_algebra.proofs.Each.{Each-append, Each-map, Each-flat_map, Each-weaker}
use Rattle.strand_algebra.proofs.FormalSums.{Sum, total, AreAlike, formal_identity, formal_hook, formal_add, formal_scale, formal_multiply, formal_beside, formal_close}
use Rattle.strand_algebra.proofs.LabelProducts.{label_product, label_loops, label_closed_loops}
use Rattle.strand_algebra.proofs.NoncrossingLists.{IsNoncrossingOf}
use Rattle.strand_algebra.proofs.Stacks.{IsPairingOf-product}
use Rattle.strand_algebra.proofs.Totals.{AreTerms}
use Rattle.strand_algebra.proofs.Uncrossed.{IsNoncrossing-product}
use Rattle.strand_algebra.specs.Laws.{IsNoncrossingOn}

alike_on : (m : ℕ) (x y z : Sum) → AreAlike m x y → y ≡ z → AreAlike m x z
alike_on m x y z h e w = congruent_trans (h w) (congruent_eq (ap (λ s. total s w) e))

by_size : (n : ℕ) (p : List ℕ) → IsNoncrossingOn n p → IsNoncrossingOf (n + n) p
by_size n p h = (pairing_of n p h, h.noncrossing)

from_size : (n : ℕ) (p : List ℕ) → IsNoncrossingOf (n + n) p → IsNoncrossingOn n p
from_size n p h = IsNoncrossingOn-from_points n p h.0 h.1

pub pairings_of : (n : ℕ) (x : List Term) → AreNoncrossingTerms n x → AreTerms (n + n) (signed x)
pairings_of n [] h = tt
pairings_of n (t ∷ x) h = (h.0.0, pairings_of n x h.1)

pub signed-append : (x y : List Term) → signed (x ++ y) ≡ signed x ++ signed y
signed-append x y = map-append (λ (term : Term). (pos term.weight, term.partner)) x y

-- ---- the identity and hooks
pub identity_alike : (m n : ℕ) → 0 < m → AreAlike m (signed (identity m n)) (formal_identity n)
identity_alike m n h = collected_alike m n (record { weight = 1; partner = straight n } ∷ []) h (by_size n (straight n) (straight_noncrossing n), tt)

pub hook_alike : (m n i : ℕ) → 0 < m → 0 < i → i < n → AreAlike m (signed (hook m n i)) (formal_hook n (i - 1))
hook_alike m n i h some below =
    alike_on m (signed (hook m n i)) ((pos 1, hooked n i) ∷ []) (formal_hook n (i - 1))
    (collected_alike m n (record { weight = 1; partner = hooked n i } ∷ []) h (by_size n (hooked n i) (hooked_noncrossing n i some below), tt))
    (let z : i ≡ i - 1 + 1 = omega arith in ap (λ k. (pos 1, hooked n k) ∷ []) z)

-- ---- sums and multiples
pub add_alike : (m n : ℕ) (x y : List Term) → 0 < m → AreNoncrossingTerms n x → AreNoncrossingTerms n y → AreAlike m (signed (add m n x y)) (formal_add (signed x) (signed y))
add_alike m n x y h f g =
    alike_on m (signed (add m n x y)) (signed (x ++ y)) (formal_add (signed x) (signed y))
    (collected_alike m n (x ++ y) h (Each-append (λ term. IsNoncrossingOf (n + n) term.partner) x y f g)) (signed-append x y)

abbrev pub by_weight : ℕ → List Term → List Term
by_weight c x = map (λ term. record { weight = c * term.weight; partner = term.partner }) x

signed_scaled : (c : ℕ) (x : List Term) → signed (by_weight c x) ≡ formal_scale (pos c) (signed x)
signed_scaled c [] = refl
signed_scaled c (t ∷ x) = ap₂ (λ a b. (a, t.partner) ∷ b) (sym (pos-*ℤ-pos c t.weight)) (signed_scaled c x)

pub scaled_alike : (m n c : ℕ) (x : List Term) → 0 < m → AreNoncrossingTerms n x → AreAlike m (signed (scaled m n c x)) (formal_scale (pos c) (signed x))
scaled_alike m n c x h f =
    alike_on m (signed (scaled m n c x)) (signed (by_weight c x)) (formal_scale (pos c) (signed x))
    (collected_alike m n (by_weight c x) h (Each-map (λ term. IsNoncrossingOf (n + n) term.partner) (λ (term : Term). record { weight = c * term.weight; partner = term.partner }) x f)) (signed_scaled c x)

-- ---- products
weight_on : (a b d k l : ℕ) → k ≡ l → pos (a * (b * d ^ k)) ≡ pos a *ℤ (pos b *ℤ power (pos d) l)
weight_on a b d k l e =
    sym (pos-*ℤ-pos a (b * d ^ k)) ∙ ap (λ t. pos a *ℤ t) (sym (pos-*ℤ-pos b (d ^ k)) ∙ ap (λ t. pos b *ℤ t) (ap (λ i. pos (d ^ i)) e ∙ sym (power-pos d l)))

signed_row : (delta n : ℕ) (above : Term) (y : List Term) → IsNoncrossingOf (n + n) above.partner → AreNoncrossingTerms n y →
    signed (map (λ below. term_on delta n above below) y)
    ≡ map (λ t. (pos above.weight *ℤ (t.0 *ℤ power (pos delta) (label_loops n above.partner t.1)), label_product n above.partner t.1)) (signed y)
signed_row delta n above [] p g = refl
signed_row delta n above (below ∷ y) p g =
    ap₂ (λ f k. f ∷ k)
    (λ i. (
      weight_on above.weight below.weight delta (product_loops n above.partner below.partner) (label_loops n above.partner below.partner) (product_loops-labels n above.partner below.partner p.0 g.0.0) i,
      product-labels n above.partner below.partner p.0 g.0.0 i,
    ))
    (signed_row delta n above y p g.1)

abbrev pub terms_on : ℕ → ℕ → List Term → List Term → List Term
terms_on delta n x y = flat_map (λ above. map (λ below. term_on delta n above below) y) x

signed_multiply : (delta n : ℕ) (x y : List Term) → AreNoncrossingTerms n x → AreNoncrossingTerms n y → signed (terms_on delta n x y) ≡ formal_multiply n (pos delta) (signed x) (signed y)
signed_multiply delta n [] y f g = refl
signed_multiply delta n (above ∷ x) y f g =
    signed-append (map (λ below. term_on delta n above below) y) (terms_on delta n x y)
    ∙ ap₂ (λ a b. a ++ b) (signed_row delta n above y f.0 g) (signed_multiply delta n x y f.1 g)

noncrossing_product : (n : ℕ) (p q : List ℕ) → IsNoncrossingOf (n + n) p → IsNoncrossingOf (n + n) q → IsNoncrossingOf (n + n) (product n p q)
noncrossing_product n p q f g =
    let own : IsNoncrossingOf (n + n) (label_product n p q) = (IsPairingOf-product n p q f.0 g.0, IsNoncrossing-product n p q f.0 g.0 f.1 g.1) in
    rw (← product-labels n p q f.0 g.0) at own

noncrossing_terms_on : (delta n : ℕ) (x y : List Term) → AreNoncrossingTerms n x → AreNoncrossingTerms n y → AreNoncrossingTerms n (terms_on delta n x y)
noncrossing_terms_on delta n x y f g =
    let free : Term → Type 0 = λ term. IsNoncrossingOf (n + n) term.partner in
    Each-flat_map free (λ above. map (λ below. term_on delta n above below) y) x
    (Each-weaker free (λ above. AllByRecursion free (map (λ below. term_on delta n above below) y))
    (λ above p. Each-map free (λ below. term_on delta n above below) y (Each-weaker free (λ below. free (term_on delta n above below)) (λ below q. noncrossing_product n above.partner below.partner p q) y g)) x f)

pub multiply_alike : (m delta n : ℕ) (x y : List Term) → 0 < m → AreNoncrossingTerms n x → AreNoncrossingTerms n y → AreAlike m (signed (multiply m delta n x y)) (formal_multiply n (pos delta) (signed x) (signed y))
multiply_alike m delta n x y h f g =
    alike_on m (signed (multiply m delta n x y)) (signed (terms_on delta n x y)) (formal_multiply n (pos delta) (signed x) (signed y))
    (collected_alike m n (terms_on delta n x y) h (noncrossing_terms_on delta n x y f g)) (signed_multiply delta n x y f g)

-- ---- one more strand
pub beside_alike : (m n : ℕ) (x : List Term) → 0 < m → AreNoncrossingTerms n x → AreAlike m (signed (beside m n x)) (formal_beside n (signed x))
beside_alike m n x h f =
    let wide : Term → Term = λ term. record { weight = term.weight; partner = widened n term.partner } in
    alike_on m (signed (beside m n x)) (signed (map (λ (term : Term). record { weight = term.weight; partner = widened n term.partner }) x)) (formal_beside n (signed x))
    (collected_alike m (n + 1) (map (λ (term : Term). record { weight = term.weight; partner = widened n term.partner }) x) h
    (Each-map (λ term. IsNoncrossingOf (n + 1 + (n + 1)) term.partner) (λ (term : Term). record { weight = term.weight; partner = widened n term.partner }) x
    (Each-weaker (λ term. IsNoncrossingOf (n + n) term.partner) (λ term. IsNoncrossingOf (n + 1 + (n + 1)) (widened n term.partner)) (λ term p. by_size (n + 1) (widened n term.partner) (widened_noncrossing n term.partner (from_size n term.partner p))) x f)))
    (map_map (λ (term : Term). (pos term.weight, term.partner)) (λ (term : Term). record { weight = term.weight; partner = widened n term.partner }) x
    ∙ sym (map_map (λ (term : ℤ × List ℕ). (term.0, widened n term.1)) (λ (term : Term). (pos term.weight, term.partner)) x))

-- ---- closures
closed_sum : (delta n : ℕ) (x : List Term) → AreNoncrossingTerms n x → pos (sum_by (λ term. term.weight * delta ^ closure_loops n term.partner) x) ≡ formal_close n (pos delta) (signed x)
closed_sum delta n [] f = refl
closed_sum delta n (t ∷ x) f =
    ap pos (sum_by-cons (λ term. term.weight * delta ^ closure_loops n term.partner) t x)
    ∙ ap₂ (λ a b. a +ℤ b)
    (sym (pos-*ℤ-pos t.weight (delta ^ closure_loops n t.partner)) ∙ ap (λ k. pos t.weight *ℤ k) (ap (λ i. pos (delta ^ i)) (closure_loops-labels n t.partner f.0.0) ∙ sym (power-pos delta (label_closed_loops n t.partner))))
    (closed_sum delta n x f.1)

pub close_alike : (m delta n : ℕ) (x : List Term) → 0 < m → AreNoncrossingTerms n x → Congruent m (pos (close m delta n x)) (formal_close n (pos delta) (signed x))
close_alike m delta n x h f = natural_mod h (congruent_eq (closed_sum delta n x f))

-- ---- results are elements
pub IsElement-identity : (m n : ℕ) → 0 < m → IsElement m n (identity m n)
IsElement-identity m n h = IsElement-collected m n (record { weight = 1; partner = straight n } ∷ []) h

pub IsElement-hook : (m n i : ℕ) → 0 < m → IsElement m n (hook m n i)
IsElement-hook m n i h = IsElement-collected m n (record { weight = 1; partner = hooked n i } ∷ []) h

pub IsElement-add : (m n : ℕ) (x y : List Term) → 0 < m → IsElement m n (add m n x y)
IsElement-add m n x y h = IsElement-collected m n (x ++ y) h

pub IsElement-scaled : (m n c : ℕ) (x : List Term) → 0 < m → IsElement m n (scaled m n c x)
IsElement-scaled m n c x h = IsElement-collected m n (by_weight c x) h

pub IsElement-multiply : (m delta n : ℕ) (x y : List Term) → 0 < m → IsElement m n (multiply m delta n x y)
IsElement-multiply m delta n x y h = IsElement-collected m n (terms_on delta n x y) h

pub IsElement-beside : (m n : ℕ) (x : List Term) → 0 < m → IsElement m (n + 1) (beside m n x)
IsElement-beside m n x h = IsElement-collected m (n + 1) (map (λ (term : Term). record { weight = term.weight; partner = widened n term.partner }) x) h
