-- Projectors on fewer strands, carried to more: one strand more is a map of algebras, so Wenzl's recursion on n strands is one
-- in the algebra of more strands, and its laws are those of WenzlRecursion.
use Rattle.std.proofs.Common.{◌≡◌, ℕ, zero, suc, ◌+◌, ◌-◌, ◌<◌, min, List, [], ◌∷◌, ◌++◌, slice_index, ℤ, pos, ◌+ℤ◌, ◌*ℤ◌, neg_ℤ, refl, sym, ap, ap₂, ◌∙◌, arith, subst}
use Rattle.std.proofs.lemmas.Bool.Decides.{nat_tests}
use Rattle.std.proofs.lemmas.List.{map-append}
use Rattle.ring_identities.proofs.Congruences.{congruent_refl, congruent_eq, congruent_trans, congruent_plus, congruent_times}
use Rattle.ring_identities.specs.Powers.{power}
use Rattle.ring_identities.specs.Residues.{Congruent}
use Rattle.root_quantum.specs.QuantumNumbers.{quantum_number}
use Rattle.strand_algebra.proofs.Algebras.{AreProjectors}
use Rattle.strand_algebra.proofs.FormalSums.{Sum, total, formal_add, formal_scale, formal_multiply, formal_identity, formal_hook, formal_beside, AreAlike, formal_projector}
use Rattle.strand_algebra.proofs.HookRelations.{hooked_at, IsPairingOf-hooked, hooks, place, AreHooks-hooks}
use Rattle.strand_algebra.proofs.LabelProducts.{hooked_behind_point, hooked_behind}
use Rattle.strand_algebra.proofs.PairingAlgebra.{Element, pairings, AreTerms-scale, AreTerms-multiply, times_alike}
use Rattle.strand_algebra.proofs.StraightStrands.{same_list, straight_at, IsPairingOf-straight}
use Rattle.strand_algebra.proofs.Totals.{AreTerms, AreTerms-append, total_same, within, total-multiply, total-append, total-scale}
use Rattle.strand_algebra.proofs.WenzlRecursion.{IsLevel, level}
use Rattle.strand_algebra.proofs.WenzlScalars.{ratio, growth, ratio_growth}
use Rattle.strand_algebra.proofs.WiderStacks.{by_points, moved_below, wide_old, wide_new, wide_next, IsPairingOf-widened, product_widened, loops_widened}
use Rattle.strand_algebra.specs.StrandPairings.{straight, moved, widened}

-- ---- one strand more is a map of algebras
pub total-beside : (n : ℕ) (x : Sum) (w : List ℕ → ℤ) → total (formal_beside n x) w ≡ total x (λ p. w (widened n p))
total-beside n [] w = refl
total-beside n (t ∷ x) w = ap (λ k. t.0 *ℤ w (widened n t.1) +ℤ k) (total-beside n x w)

pub AreTerms-beside : (n : ℕ) (x : Sum) → AreTerms (n + n) x → AreTerms (n + 1 + (n + 1)) (formal_beside n x)
AreTerms-beside n [] a = tt
AreTerms-beside n (t ∷ x) a = (IsPairingOf-widened n t.1 a.0, AreTerms-beside n x a.1)

pub beside_alike : (m n : ℕ) (x y : Sum) → AreAlike m x y → AreAlike m (formal_beside n x) (formal_beside n y)
beside_alike m n x y h w = congruent_trans (congruent_eq (total-beside n x w)) (congruent_trans (h (λ p. w (widened n p))) (congruent_eq (sym (total-beside n y w))))

pub beside_multiply : (m n : ℕ) (d : ℤ) (x y : Sum) → AreTerms (n + n) x → AreTerms (n + n) y → AreAlike m (formal_beside n (formal_multiply n d x y)) (formal_multiply (n + 1) d (formal_beside n x) (formal_beside n y))
beside_multiply m n d x y a b w =
    congruent_eq
    (total-beside n (formal_multiply n d x y) w
    ∙ total-multiply n d x y (λ p. w (widened n p))
    ∙ total_same (n + n) x (λ p. total y (within n d (λ r. w (widened n r)) p)) (λ p. total (formal_beside n y) (within (n + 1) d w (widened n p))) a
    (λ p hp. total_same (n + n) y (within n d (λ r. w (widened n r)) p) (λ q. within (n + 1) d w (widened n p) (widened n q)) b
    (λ q hq. ap₂ (λ i r. power d i *ℤ w r) (sym (loops_widened n p q hp hq)) (sym (product_widened n p q hp hq)))
    ∙ sym (total-beside n y (within (n + 1) d w (widened n p))))
    ∙ sym (total-beside n x (λ p. total (formal_beside n y) (within (n + 1) d w p)))
    ∙ sym (total-multiply (n + 1) d (formal_beside n x) (formal_beside n y) w))

-- ---- hooks and straight strands
hook_old : (n i j : ℕ) → i + 1 < n → j < n + n → moved n (hooked_behind_point n i j) ≡ hooked_behind_point (n + 1) i (moved n j)
hook_old n i j b h = grind (arith, nat_tests)

hook_new : (n i : ℕ) → i + 1 < n → hooked_behind_point (n + 1) i n ≡ n + 1
hook_new n i b = grind (arith, nat_tests)

hook_next : (n i : ℕ) → i + 1 < n → hooked_behind_point (n + 1) i (n + 1) ≡ n
hook_next n i b = grind (arith, nat_tests)

straight_old : (n j : ℕ) → j < n + n → moved n (n + n - 1 - j) ≡ n + 1 + (n + 1) - 1 - moved n j
straight_old n j b = grind (arith, nat_tests)

pub widened_hook : (n i : ℕ) → i + 1 < n → widened n (hooked_behind n i) ≡ hooked_behind (n + 1) i
widened_hook n i b =
    same_list (n + 1 + (n + 1)) (widened n (hooked_behind n i)) (hooked_behind (n + 1) i) (IsPairingOf-widened n (hooked_behind n i) (IsPairingOf-hooked n i b)).length_is (IsPairingOf-hooked (n + 1) i (omega arith)).length_is
    (by_points n (λ j. slice_index (widened n (hooked_behind n i)) j ≡ slice_index (hooked_behind (n + 1) i) j)
    (wide_new n (hooked_behind n i) (IsPairingOf-hooked n i b).length_is ∙ sym (hooked_at (n + 1) i n (omega arith) ∙ hook_new n i b))
    (wide_next n (hooked_behind n i) (IsPairingOf-hooked n i b).length_is ∙ sym (hooked_at (n + 1) i (n + 1) (omega arith) ∙ hook_next n i b))
    (λ j h. wide_old n (hooked_behind n i) (IsPairingOf-hooked n i b).length_is j h ∙ ap (moved n) (hooked_at n i j h) ∙ hook_old n i j b h ∙ sym (hooked_at (n + 1) i (moved n j) (moved_below n j h))))

pub widened_straight : (n : ℕ) → widened n (straight n) ≡ straight (n + 1)
widened_straight n =
    same_list (n + 1 + (n + 1)) (widened n (straight n)) (straight (n + 1)) (IsPairingOf-widened n (straight n) (IsPairingOf-straight n)).length_is (IsPairingOf-straight (n + 1)).length_is
    (by_points n (λ j. slice_index (widened n (straight n)) j ≡ slice_index (straight (n + 1)) j)
    (wide_new n (straight n) (IsPairingOf-straight n).length_is ∙ sym (straight_at (n + 1) n (omega arith) ∙ omega arith))
    (wide_next n (straight n) (IsPairingOf-straight n).length_is ∙ sym (straight_at (n + 1) (n + 1) (omega arith) ∙ omega arith))
    (λ j h. wide_old n (straight n) (IsPairingOf-straight n).length_is j h ∙ ap (moved n) (straight_at n j h) ∙ straight_old n j h ∙ sym (straight_at (n + 1) (moved n j) (moved_below n j h))))

-- ---- j strands more
abbrev pub lift : ℕ → ℕ → Sum → Sum
lift zero n x = x
lift (suc j) n x = lift j (n + 1) (formal_beside n x)

pub AreTerms-lift : (j n k : ℕ) (x : Sum) → n + j ≡ k → AreTerms (n + n) x → AreTerms (k + k) (lift j n x)
AreTerms-lift zero n k x e a = let s : n ≡ k = omega arith in subst (λ t. AreTerms (t + t) x) s a
AreTerms-lift (suc j) n k x e a = AreTerms-lift j (n + 1) k (formal_beside n x) (omega arith) (AreTerms-beside n x a)

pub lift_alike : (m j n : ℕ) (x y : Sum) → AreAlike m x y → AreAlike m (lift j n x) (lift j n y)
lift_alike m zero n x y h = h
lift_alike m (suc j) n x y h = lift_alike m j (n + 1) (formal_beside n x) (formal_beside n y) (beside_alike m n x y h)

pub lift_add : (j n : ℕ) (x y : Sum) → lift j n (x ++ y) ≡ lift j n x ++ lift j n y
lift_add zero n x y = refl
lift_add (suc j) n x y = ap (lift j (n + 1)) (map-append (λ term. (term.0, widened n term.1)) x y) ∙ lift_add j (n + 1) (formal_beside n x) (formal_beside n y)

beside_scale : (n : ℕ) (c : ℤ) (x : Sum) → formal_beside n (formal_scale c x) ≡ formal_scale c (formal_beside n x)
beside_scale n c [] = refl
beside_scale n c (t ∷ x) = ap (λ k. (c *ℤ t.0, widened n t.1) ∷ k) (beside_scale n c x)

pub lift_scale : (j n : ℕ) (c : ℤ) (x : Sum) → lift j n (formal_scale c x) ≡ formal_scale c (lift j n x)
lift_scale zero n c x = refl
lift_scale (suc j) n c x = ap (lift j (n + 1)) (beside_scale n c x) ∙ lift_scale j (n + 1) c (formal_beside n x)

pub lift_multiply : (m j n k : ℕ) (d : ℤ) (x y : Sum) → n + j ≡ k → AreTerms (n + n) x → AreTerms (n + n) y → AreAlike m (lift j n (formal_multiply n d x y)) (formal_multiply k d (lift j n x) (lift j n y))
lift_multiply m zero n k d x y e a b w = let s : n ≡ k = omega arith in congruent_eq (ap (λ t. total (formal_multiply t d x y) w) s)
lift_multiply m (suc j) n k d x y e a b w =
    congruent_trans (lift_alike m j (n + 1) (formal_beside n (formal_multiply n d x y)) (formal_multiply (n + 1) d (formal_beside n x) (formal_beside n y)) (beside_multiply m n d x y a b) w)
    (lift_multiply m j (n + 1) k d (formal_beside n x) (formal_beside n y) (omega arith) (AreTerms-beside n x a) (AreTerms-beside n y b) w)

pub lift_hook : (j n k i : ℕ) → n + j ≡ k → i + 1 < n → lift j n (formal_hook n i) ≡ formal_hook k i
lift_hook zero n k i e b = let s : n ≡ k = omega arith in ap (λ t. formal_hook t i) s
lift_hook (suc j) n k i e b = ap (λ p. lift j (n + 1) ((pos 1, p) ∷ [])) (widened_hook n i b) ∙ lift_hook j (n + 1) k i (omega arith) (omega arith)

pub lift_identity : (j n k : ℕ) → n + j ≡ k → lift j n (formal_identity n) ≡ formal_identity k
lift_identity zero n k e = let s : n ≡ k = omega arith in ap formal_identity s
lift_identity (suc j) n k e = ap (λ p. lift j (n + 1) ((pos 1, p) ∷ [])) (widened_straight n) ∙ lift_identity j (n + 1) k (omega arith)

-- ---- the projectors
pub AreTerms-projector : (d : ℤ) (inverse : ℕ → ℤ) (n : ℕ) → AreTerms (n + 1 + (n + 1)) (formal_projector d inverse n)
AreTerms-projector d inverse zero = (IsPairingOf-straight 1, tt)
AreTerms-projector d inverse (suc n) =
    let f = AreTerms-beside (n + 1) (formal_projector d inverse n) (AreTerms-projector d inverse n) in
    let F = formal_beside (n + 1) (formal_projector d inverse n) in
    let s : n + 1 + 1 ≡ suc n + 1 = omega arith in
    subst (λ k. AreTerms (k + k) (formal_projector d inverse (suc n))) s
    (AreTerms-append (n + 1 + 1 + (n + 1 + 1)) F (formal_scale (neg_ℤ (quantum_number d n *ℤ inverse (suc n))) (formal_multiply (n + 1 + 1) d (formal_multiply (n + 1 + 1) d F (formal_hook (n + 1 + 1) n)) F)) f
    (AreTerms-scale (n + 1 + 1 + (n + 1 + 1)) (neg_ℤ (quantum_number d n *ℤ inverse (suc n))) (formal_multiply (n + 1 + 1) d (formal_multiply (n + 1 + 1) d F (formal_hook (n + 1 + 1) n)) F)
    (AreTerms-multiply (n + 1 + 1) d (formal_multiply (n + 1 + 1) d F (formal_hook (n + 1 + 1) n)) F (AreTerms-multiply (n + 1 + 1) d F (formal_hook (n + 1 + 1) n) f (IsPairingOf-hooked (n + 1 + 1) n (omega arith), tt)) f)))

add_scale_alike : (m : ℕ) (c : ℤ) (x y z : Sum) → AreAlike m y z → AreAlike m (x ++ formal_scale c y) (x ++ formal_scale c z)
add_scale_alike m c x y z h w =
    congruent_trans (congruent_eq (total-append x (formal_scale c y) w ∙ ap (λ k. total x w +ℤ k) (total-scale c y w)))
    (congruent_trans (congruent_plus (congruent_refl m (total x w)) (congruent_times (congruent_refl m c) (h w)))
    (congruent_eq (sym (total-append x (formal_scale c z) w ∙ ap (λ k. total x w +ℤ k) (total-scale c z w)))))

next_lift : (m : ℕ) (d : ℤ) (inverse : ℕ → ℤ) (j k n : ℕ) → k + 1 + 1 + j ≡ n →
    AreAlike m (lift j (k + 1 + 1) (formal_projector d inverse (suc k)))
    (formal_add (lift (suc j) (k + 1) (formal_projector d inverse k))
    (formal_scale (neg_ℤ (ratio d inverse k)) (formal_multiply n d (formal_multiply n d (lift (suc j) (k + 1) (formal_projector d inverse k)) (formal_hook n k)) (lift (suc j) (k + 1) (formal_projector d inverse k)))))
next_lift m d inverse j k n e =
    let F = formal_beside (k + 1) (formal_projector d inverse k) in
    let two = k + 1 + 1 in
    let h = formal_hook two k in
    let G = lift j two F in
    let c = neg_ℤ (ratio d inverse k) in
    let vF = AreTerms-beside (k + 1) (formal_projector d inverse k) (AreTerms-projector d inverse k) in
    let vh : AreTerms (two + two) h = (IsPairingOf-hooked two k (omega arith), tt) in
    let front : AreAlike m (lift j two (formal_multiply two d F h)) (formal_multiply n d G (formal_hook n k)) = λ w.
    congruent_trans (lift_multiply m j two n d F h e vF vh w) (congruent_eq (ap (λ t. total (formal_multiply n d G t) w) (lift_hook j two n k e (omega arith)))) in
    let whole : AreAlike m (lift j two (formal_multiply two d (formal_multiply two d F h) F)) (formal_multiply n d (formal_multiply n d G (formal_hook n k)) G) = λ w.
    congruent_trans (lift_multiply m j two n d (formal_multiply two d F h) F e (AreTerms-multiply two d F h vF vh) vF w)
    (times_alike m n d (lift j two (formal_multiply two d F h)) (formal_multiply n d G (formal_hook n k)) G G front (λ v. congruent_refl m (total G v)) w) in
    λ w.
    congruent_trans
    (congruent_eq (ap (λ t. total t w) (lift_add j two F (formal_scale c (formal_multiply two d (formal_multiply two d F h) F)) ∙ ap (λ t. G ++ t) (lift_scale j two c (formal_multiply two d (formal_multiply two d F h) F)))))
    (add_scale_alike m c G (lift j two (formal_multiply two d (formal_multiply two d F h) F)) (formal_multiply n d (formal_multiply n d G (formal_hook n k)) G) whole w)

abbrev pub carried : ℤ → (ℕ → ℤ) → ℕ → ℕ → Sum
carried d inverse n k = lift (n - 1 - k) (k + 1) (formal_projector d inverse k)

abbrev pub below : ℕ → ℕ → ℕ
below n k = min k (n - 1)

next_carried : (m : ℕ) (d : ℤ) (inverse : ℕ → ℤ) (k n : ℕ) → k < n - 1 →
    AreAlike m (carried d inverse n (suc k)) (formal_add (carried d inverse n k) (formal_scale (neg_ℤ (ratio d inverse k)) (formal_multiply n d (formal_multiply n d (carried d inverse n k) (formal_hook n k)) (carried d inverse n k))))
next_carried m d inverse k n b =
    let s : n - 1 - k ≡ suc (n - 1 - suc k) = omega arith in
    let t : suc k + 1 ≡ k + 1 + 1 = omega arith in
    rw (s, t) (next_lift m d inverse (n - 1 - suc k) k n (omega arith))

pub sum_is : (n k : ℕ) → 1 < n → below n k + 1 + (n - 1 - below n k) ≡ n
sum_is n k h = omega arith

module _ (m n : ℕ) (d : ℤ) (inverse : ℕ → ℤ) (two : 1 < n) where
  abbrev pub family : ℕ → Element n
  family k = record { sum = carried d inverse n (below n k); valid = AreTerms-lift (n - 1 - below n k) (below n k + 1) n (formal_projector d inverse (below n k)) (sum_is n k two) (AreTerms-projector d inverse (below n k)) }

  pub AreProjectors-family : ((k : ℕ) → k < n - 1 → Congruent m (quantum_number d (suc k) *ℤ inverse (suc k)) (pos 1)) →
      AreProjectors m (pairings m n d) d (n - 1) (hooks n two) (ratio d inverse) (growth d inverse) family
  AreProjectors-family inverses = record {
    first = λ w.
        let e : below n 0 ≡ 0 = omega arith in
        congruent_eq (ap (λ k. total (carried d inverse n k) w) e ∙ ap (λ t. total t w) (lift_identity (n - 1 - 0) 1 n (omega arith)));
    next = λ k b.
        let e : below n (suc k) ≡ suc k = omega arith in let f : below n k ≡ k = omega arith in let g : place n k ≡ k = omega arith in
        rw (e, f, g) (next_carried m d inverse k n b);
    t_first = congruent_refl m d;
    t_next = λ k b. congruent_refl m (d +ℤ neg_ℤ (ratio d inverse k));
    inverse = ratio_growth m d inverse (n - 1) inverses;
  }

-- THE LAWS OF THE PROJECTOR ON n + 1 STRANDS
module _ (m n : ℕ) (d : ℤ) (inverse : ℕ → ℤ) (some : 0 < n) (few : n < 8) (inverses : (k : ℕ) → k < n → Congruent m (quantum_number d (suc k) *ℤ inverse (suc k)) (pos 1)) where
  pub at_last : carried d inverse (n + 1) (below (n + 1) n) ≡ formal_projector d inverse n
  at_last =
      let e : below (n + 1) n ≡ n = omega arith in
      let f : n + 1 - 1 - n ≡ 0 = omega arith in
      ap (carried d inverse (n + 1)) e ∙ ap (λ j. lift j (n + 1) (formal_projector d inverse n)) f

  laws : IsLevel m (pairings m (n + 1) d) (n + 1 - 1) (hooks (n + 1) (omega arith)) (growth d inverse) (family m (n + 1) d inverse (omega arith)) n
  laws =
      level m (pairings m (n + 1) d) d (n + 1 - 1) (hooks (n + 1) (omega arith)) (ratio d inverse) (growth d inverse) (family m (n + 1) d inverse (omega arith))
      (AreHooks-hooks m (n + 1) d (omega arith) (omega arith)) (AreProjectors-family m (n + 1) d inverse (omega arith) (λ k b. inverses k (omega arith))) n (omega arith)

  pub projector_square : AreAlike m (formal_multiply (n + 1) d (formal_projector d inverse n) (formal_projector d inverse n)) (formal_projector d inverse n)
  projector_square = rw at_last at laws.square

  pub hook_projector : (i : ℕ) → i < n → AreAlike m (formal_multiply (n + 1) d (formal_hook (n + 1) i) (formal_projector d inverse n)) []
  hook_projector i b = let s : place (n + 1) i ≡ i = omega arith in rw (at_last, s) at (laws.kills i b)

  pub projector_hook : (i : ℕ) → i < n → AreAlike m (formal_multiply (n + 1) d (formal_projector d inverse n) (formal_hook (n + 1) i)) []
  projector_hook i b = let s : place (n + 1) i ≡ i = omega arith in rw (at_last, s) at (laws.killed i b)
