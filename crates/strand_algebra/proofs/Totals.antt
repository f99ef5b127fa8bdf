-- Totals of formal sums: a total passes through sums, multiples and products.
--
--     within n d w p q       the worth of q behind p: delta for each loop, times the worth of the product
use Rattle.std.proofs.Common.{◌≡◌, ℕ, List, [], ◌∷◌, ◌++◌, map, ℤ, pos, ◌+ℤ◌, ◌*ℤ◌, refl, ap, ap₂, ◌∙◌}
use Rattle.ring_identities.proofs.Congruences.{congruent_refl, congruent_plus, congruent_times}
use Rattle.ring_identities.proofs.Identities.{reads, by_ring}
use Rattle.ring_identities.specs.Powers.{power}
use Rattle.ring_identities.specs.Residues.{Congruent}
use Rattle.strand_algebra.proofs.FormalSums.{Sum, total, formal_scale, formal_multiply}
use Rattle.strand_algebra.proofs.LabelProducts.{label_product, label_loops, IsPairingOf}

-- each pairing is one of so many points
abbrev pub AreTerms : ℕ → Sum → Type 0
AreTerms size [] = Unit {0}
AreTerms size (term ∷ x) = IsPairingOf size term.1 × AreTerms size x

pub AreTerms-append : (size : ℕ) (x y : Sum) → AreTerms size x → AreTerms size y → AreTerms size (x ++ y)
AreTerms-append size [] y p q = q
AreTerms-append size (term ∷ x) y p q = (p.0, AreTerms-append size x y p.1 q)

pub total-append : (x y : Sum) (w : List ℕ → ℤ) → total (x ++ y) w ≡ total x w +ℤ total y w
total-append [] y w = by_ring (total y w ∷ []) (search reads depth 30) (search reads depth 30) refl
total-append (term ∷ x) y w =
    ap (λ k. term.0 *ℤ w term.1 +ℤ k) (total-append x y w)
    ∙ by_ring (term.0 ∷ w term.1 ∷ total x w ∷ total y w ∷ []) (search reads depth 30) (search reads depth 30) refl

pub total-scale : (c : ℤ) (x : Sum) (w : List ℕ → ℤ) → total (formal_scale c x) w ≡ c *ℤ total x w
total-scale c [] w = by_ring (c ∷ []) (search reads depth 30) (search reads depth 30) refl
total-scale c (term ∷ x) w =
    ap (λ k. c *ℤ term.0 *ℤ w term.1 +ℤ k) (total-scale c x w)
    ∙ by_ring (c ∷ term.0 ∷ w term.1 ∷ total x w ∷ []) (search reads depth 30) (search reads depth 30) refl

-- a factor in the worth
pub total-times : (c : ℤ) (x : Sum) (w : List ℕ → ℤ) → total x (λ p. c *ℤ w p) ≡ c *ℤ total x w
total-times c [] w = by_ring (c ∷ []) (search reads depth 30) (search reads depth 30) refl
total-times c (term ∷ x) w =
    ap (λ k. term.0 *ℤ (c *ℤ w term.1) +ℤ k) (total-times c x w)
    ∙ by_ring (c ∷ term.0 ∷ w term.1 ∷ total x w ∷ []) (search reads depth 30) (search reads depth 30) refl

pub total-plus : (x : Sum) (w v : List ℕ → ℤ) → total x (λ p. w p +ℤ v p) ≡ total x w +ℤ total x v
total-plus [] w v = by_ring [] (search reads depth 30) (search reads depth 30) refl
total-plus (term ∷ x) w v =
    ap (λ k. term.0 *ℤ (w term.1 +ℤ v term.1) +ℤ k) (total-plus x w v)
    ∙ by_ring (term.0 ∷ w term.1 ∷ v term.1 ∷ total x w ∷ total x v ∷ []) (search reads depth 30) (search reads depth 30) refl

pub total-nothing : (x : Sum) → total x (λ p. pos 0) ≡ pos 0
total-nothing [] = refl
total-nothing (term ∷ x) = ap (λ k. term.0 *ℤ pos 0 +ℤ k) (total-nothing x) ∙ by_ring (term.0 ∷ []) (search reads depth 30) (search reads depth 30) refl

pub total_same : (size : ℕ) (x : Sum) (w v : List ℕ → ℤ) → AreTerms size x → ((p : List ℕ) → IsPairingOf size p → w p ≡ v p) → total x w ≡ total x v
total_same size [] w v a h = refl
total_same size (term ∷ x) w v a h = ap₂ (λ s t. term.0 *ℤ s +ℤ t) (h term.1 a.0) (total_same size x w v a.1 h)

pub total_congruent : (m : ℕ) (x : Sum) (w v : List ℕ → ℤ) → ((p : List ℕ) → Congruent m (w p) (v p)) → Congruent m (total x w) (total x v)
total_congruent m [] w v h = congruent_refl m (pos 0)
total_congruent m (term ∷ x) w v h = congruent_plus (congruent_times (congruent_refl m term.0) (h term.1)) (total_congruent m x w v h)

-- the worth of a pairing before and behind others
abbrev pub within : ℕ → ℤ → (List ℕ → ℤ) → List ℕ → List ℕ → ℤ
within n d w p q = power d (label_loops n p q) *ℤ w (label_product n p q)

pub total-row : (n : ℕ) (d a : ℤ) (p : List ℕ) (y : Sum) (w : List ℕ → ℤ) → total (map (λ t. (a *ℤ (t.0 *ℤ power d (label_loops n p t.1)), label_product n p t.1)) y) w ≡ a *ℤ total y (within n d w p)
total-row n d a p [] w = by_ring (a ∷ []) (search reads depth 30) (search reads depth 30) refl
total-row n d a p (t ∷ y) w =
    ap (λ k. a *ℤ (t.0 *ℤ power d (label_loops n p t.1)) *ℤ w (label_product n p t.1) +ℤ k) (total-row n d a p y w)
    ∙ by_ring (a ∷ t.0 ∷ power d (label_loops n p t.1) ∷ w (label_product n p t.1) ∷ total y (within n d w p) ∷ []) (search reads depth 30) (search reads depth 30) refl

-- THE TOTAL OF A PRODUCT
pub total-multiply : (n : ℕ) (d : ℤ) (x y : Sum) (w : List ℕ → ℤ) → total (formal_multiply n d x y) w ≡ total x (λ p. total y (within n d w p))
total-multiply n d [] y w = refl
total-multiply n d (s ∷ x) y w =
    total-append (map (λ t. (s.0 *ℤ (t.0 *ℤ power d (label_loops n s.1 t.1)), label_product n s.1 t.1)) y) (formal_multiply n d x y) w
    ∙ ap₂ (λ a b. a +ℤ b) (total-row n d s.0 s.1 y w) (total-multiply n d x y w)
