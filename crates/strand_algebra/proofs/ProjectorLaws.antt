-- The laws of projectors, for elements: each projector is alike to Wenzl's formal sum, for which the laws are proved.
use Rattle.std.proofs.Common.{false, if◌then◌else◌, ◌≡◌, ℕ, zero, suc, ◌+◌, ◌%◌, ◌==◌, ◌-◌, ◌<◌, ◌≤◌, true, cond, List, [], ◌∷◌, length, slice_index, ℤ, pos, ◌*ℤ◌, neg_ℤ, refl, sym, ap, ap₂, ◌∙◌, arith, subst, mod-eq_of_lt, mod-lt}
use Rattle.std.specs.Str.{bytes_eq}
use Rattle.std.proofs.lemmas.Bool.{eqb-true}
use Rattle.std.proofs.lemmas.Bool.Decides.{nat_tests}
use Rattle.std.proofs.lemmas.Slice.Eq.{bytes_eq-Decides}
use Rattle.list_lemmas.proofs.Bools.{same_bool}
use Rattle.ring_identities.specs.Powers.{power}
use Rattle.ring_identities.specs.Residues.{residue, Congruent}
use Rattle.ring_identities.proofs.Congruences.{congruent_refl, congruent_times, congruent_negative, congruent_eq, congruent_sym, congruent_trans, residue_congruent, natural_mod, same_residue, residue_small}
use Rattle.ring_identities.proofs.Modulo.{modulos, by_congruences}
use Rattle.ring_identities.proofs.Unities.{unity_congruent}
use Rattle.root_quantum.specs.QuantumNumbers.{quantum_number}
use Rattle.state_sums.specs.Networks.{Term}
use Rattle.strand_algebra.specs.StrandPairings.{exchanged, upside_down, half_turned}
use Rattle.strand_algebra.specs.Elements.{IsElement, coefficient, identity, hook, add, scaled, multiply, beside, close}
use Rattle.strand_algebra.specs.Laws.{nothing, ProjectorIsElement, OneProjector, ProjectorFound, HookOnProjector, ProjectorOnHook, ProjectorSquared, ProjectorClosed, ProjectorMirrored, ProjectorHalfTurned}
use Rattle.strand_algebra.specs.Projectors.{quantum_residue, wenzl_factor, next_projector, projector, AreInverses, inverse_below, inverse_of, found_projector}
use Rattle.strand_algebra.proofs.ByLabels.{IsPairingOf-from_points}
use Rattle.strand_algebra.proofs.ClosedProjectors.{own_square, projector_closed}
use Rattle.strand_algebra.proofs.Collecting.{signed, only_at, coefficient_total, coefficient_below, collected_alike, IsElement-collected, noncrossing_element, same_elements}
use Rattle.strand_algebra.proofs.ElementLaws.{same_mod, alike_trans, alike_sym, identity_above}
use Rattle.strand_algebra.proofs.Exchanges.{IsExchange, mirror_exchange, half_exchange, IsPairingOf-turned, turned_twice, turned_at}
use Rattle.strand_algebra.proofs.FormalSums.{Sum, AreAlike, formal_hook, formal_add, formal_scale, formal_multiply, formal_beside, formal_close, formal_projector}
use Rattle.strand_algebra.proofs.LabelProducts.{IsPairingOf, label_closed_loops}
use Rattle.strand_algebra.proofs.Operations.{identity_alike, hook_alike, add_alike, scaled_alike, multiply_alike, beside_alike, close_alike, IsElement-identity, IsElement-hook, IsElement-add, IsElement-scaled, IsElement-multiply, IsElement-beside}
use Rattle.strand_algebra.proofs.PairingAlgebra.{times_alike, plus_same, by_same}
use Rattle.strand_algebra.proofs.ProjectorTower as tower
use Rattle.strand_algebra.proofs.StraightStrands.{same_list}
use Rattle.strand_algebra.proofs.Totals.{AreTerms, total_same}
use Rattle.strand_algebra.proofs.TurnedProjectors.{turned_sum, total-turned, projector_mirror, projector_half, half}

-- ---- a projector is an element
IsElement-next : (m delta c n : ℕ) (f : List Term) → 0 < m → IsElement m (n + 2) (next_projector m delta c n f)
IsElement-next m delta c n f h =
    IsElement-add m (n + 2) (beside m (n + 1) f)
    (scaled m (n + 2) c (multiply m delta (n + 2) (multiply m delta (n + 2) (beside m (n + 1) f) (hook m (n + 2) (n + 1))) (beside m (n + 1) f))) h

IsElement-projector : (m delta : ℕ) (inverse : ℕ → ℕ) (n : ℕ) → 0 < m → IsElement m n (projector m delta inverse n)
unfolding projector
IsElement-projector m delta inverse zero h = IsElement-identity m 0 h
IsElement-projector m delta inverse (suc zero) h = IsElement-identity m 1 h
IsElement-projector m delta inverse (suc (suc n)) h =
    let s : n + 2 ≡ suc (suc n) = omega arith in
    subst (λ k. IsElement m k (next_projector m delta (wenzl_factor m delta (inverse (suc n)) n) n (projector m delta inverse (suc n)))) s
    (IsElement-next m delta (wenzl_factor m delta (inverse (suc n)) n) n (projector m delta inverse (suc n)) h)

pub projector_element : ProjectorIsElement
projector_element m delta n f h p = subst (IsElement m n) (sym p.is) (IsElement-projector m delta p.inverse n h)

-- ---- and is alike to Wenzl's formal sum
abbrev formal_next : ℕ → ℤ → ℤ → ℕ → Sum → Sum
formal_next k d c n x = formal_add x (formal_scale c (formal_multiply k d (formal_multiply k d x (formal_hook k n)) x))

next_alike : (m delta k n c : ℕ) (d : ℤ) (wide : List Term) (x : Sum) → 0 < m → n + 1 < k → IsElement m k wide → AreAlike m (signed wide) x → Congruent m (pos c) d →
    AreAlike m (signed (add m k wide (scaled m k c (multiply m delta k (multiply m delta k wide (hook m k (n + 1))) wide)))) (formal_next k (pos delta) d n x)
next_alike m delta k n c d wide x h b e a g =
    let fw = noncrossing_element m k wide e in
    let hooked = hook m k (n + 1) in
    let one = multiply m delta k wide hooked in
    let two = multiply m delta k one wide in
    let e1 = IsElement-multiply m delta k wide hooked h in
    let e2 = IsElement-multiply m delta k one wide h in
    let times = formal_multiply k (pos delta) in
    let z : n + 1 - 1 ≡ n = omega arith in
    let hooks : AreAlike m (signed hooked) (formal_hook k n) = (let t = hook_alike m k (n + 1) h (omega arith) b in rw z at t) in
    let first : AreAlike m (signed one) (times x (formal_hook k n)) =
    alike_trans m (signed one) (times (signed wide) (signed hooked)) (times x (formal_hook k n)) (multiply_alike m delta k wide hooked h fw (noncrossing_element m k hooked (IsElement-hook m k (n + 1) h)))
    (times_alike m k (pos delta) (signed wide) x (signed hooked) (formal_hook k n) a hooks) in
    let second : AreAlike m (signed two) (times (times x (formal_hook k n)) x) =
    alike_trans m (signed two) (times (signed one) (signed wide)) (times (times x (formal_hook k n)) x) (multiply_alike m delta k one wide h (noncrossing_element m k one e1) fw)
    (times_alike m k (pos delta) (signed one) (times x (formal_hook k n)) (signed wide) x first a) in
    let third : AreAlike m (signed (scaled m k c two)) (formal_scale d (times (times x (formal_hook k n)) x)) =
    alike_trans m (signed (scaled m k c two)) (formal_scale (pos c) (signed two)) (formal_scale d (times (times x (formal_hook k n)) x)) (scaled_alike m k c two h (noncrossing_element m k two e2))
    (by_same m k (pos delta) (pos c) d (signed two) (times (times x (formal_hook k n)) x) g second) in
    alike_trans m (signed (add m k wide (scaled m k c two))) (formal_add (signed wide) (signed (scaled m k c two))) (formal_next k (pos delta) d n x)
    (add_alike m k wide (scaled m k c two) h fw (noncrossing_element m k (scaled m k c two) (IsElement-scaled m k c two h)))
    (plus_same m k (pos delta) (signed wide) x (signed (scaled m k c two)) (formal_scale d (times (times x (formal_hook k n)) x)) a third)

factor_congruent : (m delta y n : ℕ) → 0 < m → Congruent m (pos (wenzl_factor m delta y n)) (neg_ℤ (quantum_number (pos delta) n *ℤ pos y))
factor_congruent m delta y n h =
    congruent_trans (congruent_sym (residue_congruent m _ h))
    (congruent_negative (congruent_times (congruent_sym (residue_congruent m (quantum_number (pos delta) n) h)) (congruent_refl m (pos y))))

projector_alike : (m delta : ℕ) (inverse : ℕ → ℕ) (n : ℕ) → 0 < m → AreAlike m (signed (projector m delta inverse (suc n))) (formal_projector (pos delta) (λ k. pos (inverse k)) n)
unfolding projector
projector_alike m delta inverse zero h = identity_alike m 1 h
projector_alike m delta inverse (suc n) h =
    let f = projector m delta inverse (suc n) in
    let x = formal_projector (pos delta) (λ k. pos (inverse k)) n in
    let s : suc n ≡ n + 1 = omega arith in
    let t : n + 1 + 1 ≡ n + 2 = omega arith in
    let ef : IsElement m (n + 1) f = subst (λ k. IsElement m k f) s (IsElement-projector m delta inverse (suc n) h) in
    let ew : IsElement m (n + 2) (beside m (n + 1) f) = subst (λ k. IsElement m k (beside m (n + 1) f)) t (IsElement-beside m (n + 1) f h) in
    let wide : AreAlike m (signed (beside m (n + 1) f)) (formal_beside (n + 1) x) =
    alike_trans m (signed (beside m (n + 1) f)) (formal_beside (n + 1) (signed f)) (formal_beside (n + 1) x) (beside_alike m (n + 1) f h (noncrossing_element m (n + 1) f ef))
    (tower.beside_alike m (n + 1) (signed f) x (projector_alike m delta inverse n h)) in
    let whole = next_alike m delta (n + 2) n (wenzl_factor m delta (inverse (suc n)) n) (neg_ℤ (quantum_number (pos delta) n *ℤ pos (inverse (suc n)))) (beside m (n + 1) f) (formal_beside (n + 1) x) h (omega arith) ew wide
    (factor_congruent m delta (inverse (suc n)) n h) in
    subst (λ k. AreAlike m (signed (next_projector m delta (wenzl_factor m delta (inverse (suc n)) n) n f)) (formal_next k (pos delta) (neg_ℤ (quantum_number (pos delta) n *ℤ pos (inverse (suc n)))) n (formal_beside (n + 1) x))) (sym t) whole

-- the projector on n strands, where n is k + 1
alike_at : (m delta : ℕ) (inverse : ℕ → ℕ) (n k : ℕ) → 0 < m → suc k ≡ n → AreAlike m (signed (projector m delta inverse n)) (formal_projector (pos delta) (λ k. pos (inverse k)) k)
alike_at m delta inverse n k h s = subst (λ t. AreAlike m (signed (projector m delta inverse t)) (formal_projector (pos delta) (λ k. pos (inverse k)) k)) s (projector_alike m delta inverse k h)

inverses_at : (m delta : ℕ) (inverse : ℕ → ℕ) (n k : ℕ) → 0 < m → suc k ≡ n → AreInverses m delta inverse n → (i : ℕ) → i < k → Congruent m (quantum_number (pos delta) (suc i) *ℤ pos (inverse (suc i))) (pos 1)
inverses_at m delta inverse n k h s a i b =
    congruent_trans (congruent_times (residue_congruent m (quantum_number (pos delta) (suc i)) h) (congruent_refl m (pos (inverse (suc i)))))
    (unity_congruent _ h (a (suc i) (omega arith) (omega (arith, s, b))))

-- ---- there is only one
same_inverse : (m x y z : ℕ) → 0 < m → residue m (pos x *ℤ pos y) ≡ 1 → residue m (pos x *ℤ pos z) ≡ 1 → Congruent m (pos y) (pos z)
same_inverse m x y z h p q =
    let a = unity_congruent (pos x *ℤ pos y) h p in
    let b = unity_congruent (pos x *ℤ pos z) h q in
    let one : Congruent m (pos y) (pos y *ℤ pos x *ℤ pos z) = by_congruences 1 (pos x ∷ pos z ∷ pos y ∷ []) (search modulos depth 30) (search modulos depth 30) (b, tt) refl in
    let two : Congruent m (pos y *ℤ pos x *ℤ pos z) (pos z) = by_congruences 1 (pos x ∷ pos y ∷ pos z ∷ []) (search modulos depth 30) (search modulos depth 30) (a, tt) refl in
    congruent_trans one two

same_factor : (m delta y z n : ℕ) → 0 < m → Congruent m (pos y) (pos z) → wenzl_factor m delta y n ≡ wenzl_factor m delta z n
same_factor m delta y z n h c = same_residue h (congruent_negative (congruent_times (congruent_refl m (pos (quantum_residue m delta n))) c))

same_projector : (m delta : ℕ) (y z : ℕ → ℕ) (n : ℕ) → 0 < m → AreInverses m delta y n → AreInverses m delta z n → projector m delta y n ≡ projector m delta z n
unfolding projector
same_projector m delta y z zero h a b = refl
same_projector m delta y z (suc zero) h a b = refl
same_projector m delta y z (suc (suc n)) h a b =
    ap₂ (λ c f. next_projector m delta c n f)
    (same_factor m delta (y (suc n)) (z (suc n)) n h
    (same_inverse m (quantum_residue m delta (suc n)) (y (suc n)) (z (suc n)) h (a (suc n) (omega arith) (omega arith)) (b (suc n) (omega arith) (omega arith))))
    (same_projector m delta y z (suc n) h (λ k p q. a k p (omega (arith, q))) (λ k p q. b k p (omega (arith, q))))

pub one_projector : OneProjector
one_projector m delta n f g h p q = p.is ∙ same_projector m delta p.inverse q.inverse n h p.are_inverses q.are_inverses ∙ sym q.is

-- ---- and trying each residue finds it
found_inverse : (m x y limit : ℕ) → y < limit → residue m (pos x *ℤ pos y) ≡ 1 → residue m (pos x *ℤ pos (inverse_below m x limit)) ≡ 1
found_inverse m x y zero b e = absurd (omega arith)
found_inverse m x y (suc z) b e =
    elim (residue m (pos x *ℤ pos z) == 1)
    as (λ t. (residue m (pos x *ℤ pos z) == 1) ≡ t → residue m (pos x *ℤ pos (if t then z else inverse_below m x z)) ≡ 1)
    [ true ↦ λ t. eqb-true (residue m (pos x *ℤ pos z)) 1 t | false ↦ λ t. found_inverse m x y z (not_last m x y z b e t) e ] refl
  where
    not_last : (m x y z : ℕ) → y < suc z → residue m (pos x *ℤ pos y) ≡ 1 → (residue m (pos x *ℤ pos z) == 1) ≡ false → y < z
    not_last m x y z b e t = let same = λ (s : y ≡ z). ap (λ k. residue m (pos x *ℤ pos k)) s in grind (arith, nat_tests, b, e, t, same)

-- an inverse may be taken below m
small_inverse : (m x y : ℕ) → 0 < m → residue m (pos x *ℤ pos y) ≡ 1 → residue m (pos x *ℤ pos (y % m)) ≡ 1
small_inverse m x y h e = same_residue h (congruent_times (congruent_refl m (pos x)) (natural_mod h (congruent_refl m (pos y)))) ∙ e

inverse_found : (m x y : ℕ) → 0 < m → residue m (pos x *ℤ pos y) ≡ 1 → residue m (pos x *ℤ pos (inverse_of m x)) ≡ 1
unfolding inverse_of
inverse_found m x y h e = found_inverse m x (y % m) m (mod-lt y h) (small_inverse m x y h e)

pub projector_found : ProjectorFound
unfolding found_projector
projector_found m delta n f h p =
    p.is ∙ same_projector m delta p.inverse (λ k. inverse_of m (quantum_residue m delta k)) n h p.are_inverses (λ k a b. inverse_found m (quantum_residue m delta k) (p.inverse k) h (p.are_inverses k a b))

-- ---- hooks, the square and the closure
-- products of elements that are alike to formal sums
product_alike : (m delta n : ℕ) (x y : List Term) (u v : Sum) → 0 < m → IsElement m n x → IsElement m n y → AreAlike m (signed x) u → AreAlike m (signed y) v →
    AreAlike m (signed (multiply m delta n x y)) (formal_multiply n (pos delta) u v)
product_alike m delta n x y u v h ex ey a b =
    alike_trans m (signed (multiply m delta n x y)) (formal_multiply n (pos delta) (signed x) (signed y)) (formal_multiply n (pos delta) u v)
    (multiply_alike m delta n x y h (noncrossing_element m n x ex) (noncrossing_element m n y ey)) (times_alike m n (pos delta) (signed x) u (signed y) v a b)

nothing_alike : (m n : ℕ) → 0 < m → AreAlike m (signed (nothing m n)) []
nothing_alike m n h = collected_alike m n [] h tt

IsElement-nothing : (m n : ℕ) → 0 < m → IsElement m n (nothing m n)
IsElement-nothing m n h = IsElement-collected m n [] h

module _ (m delta n : ℕ) (inverse : ℕ → ℕ) (h : 0 < m) (few : n ≤ 8) (a : AreInverses m delta inverse n) where
  abbrev f : List Term
  f = projector m delta inverse n

  abbrev k : ℕ
  k = n - 1

  abbrev d : ℤ
  d = pos delta

  abbrev y : ℕ → ℤ
  y i = pos (inverse i)

  e : IsElement m n f
  e = IsElement-projector m delta inverse n h

  module _ (some : 0 < n) where
    s : suc k ≡ n
    s = omega arith

    t : k + 1 ≡ n
    t = omega arith

    alike : AreAlike m (signed f) (formal_projector d y k)
    alike = alike_at m delta inverse n k h s

    inverses : (i : ℕ) → i < k → Congruent m (quantum_number d (suc i) *ℤ y (suc i)) (pos 1)
    inverses = inverses_at m delta inverse n k h s a

    pub kills : (i : ℕ) → 0 < i → i < n → multiply m delta n (hook m n i) f ≡ nothing m n
    kills i p q =
        same_elements m n (multiply m delta n (hook m n i) f) (nothing m n) h (IsElement-multiply m delta n (hook m n i) f h) (IsElement-nothing m n h)
        (alike_trans m _ (formal_multiply n d (formal_hook n (i - 1)) (formal_projector d y k)) _
        (product_alike m delta n (hook m n i) f (formal_hook n (i - 1)) (formal_projector d y k) h (IsElement-hook m n i h) e (hook_alike m n i h p q) alike)
        (alike_trans m _ [] _
        (subst (λ j. AreAlike m (formal_multiply j d (formal_hook j (i - 1)) (formal_projector d y k)) []) t (tower.hook_projector m k d y (omega (arith, p, q)) (omega (arith, few)) inverses (i - 1) (omega (arith, p, q))))
        (alike_sym m (signed (nothing m n)) [] (nothing_alike m n h))))

    pub killed : (i : ℕ) → 0 < i → i < n → multiply m delta n f (hook m n i) ≡ nothing m n
    killed i p q =
        same_elements m n (multiply m delta n f (hook m n i)) (nothing m n) h (IsElement-multiply m delta n f (hook m n i) h) (IsElement-nothing m n h)
        (alike_trans m _ (formal_multiply n d (formal_projector d y k) (formal_hook n (i - 1))) _
        (product_alike m delta n f (hook m n i) (formal_projector d y k) (formal_hook n (i - 1)) h e (IsElement-hook m n i h) alike (hook_alike m n i h p q))
        (alike_trans m _ [] _
        (subst (λ j. AreAlike m (formal_multiply j d (formal_projector d y k) (formal_hook j (i - 1))) []) t (tower.projector_hook m k d y (omega (arith, p, q)) (omega (arith, few)) inverses (i - 1) (omega (arith, p, q))))
        (alike_sym m (signed (nothing m n)) [] (nothing_alike m n h))))

    pub squared : multiply m delta n f f ≡ f
    squared =
        same_elements m n (multiply m delta n f f) f h (IsElement-multiply m delta n f f h) e
        (alike_trans m _ (formal_multiply n d (formal_projector d y k) (formal_projector d y k)) _
        (product_alike m delta n f f (formal_projector d y k) (formal_projector d y k) h e e alike alike)
        (alike_trans m _ (formal_projector d y k) _
        (subst (λ j. AreAlike m (formal_multiply j d (formal_projector d y k) (formal_projector d y k)) (formal_projector d y k)) t (own_square m d y k (omega (arith, few)) inverses))
        (alike_sym m _ _ alike)))

    pub closed : Congruent m (pos (close m delta n f)) (quantum_number d n)
    closed =
        congruent_trans (close_alike m delta n f h (noncrossing_element m n f e))
        (congruent_trans (alike (λ p. power d (label_closed_loops n p)))
        (congruent_trans (subst (λ j. Congruent m (formal_close j d (formal_projector d y k)) (quantum_number d (suc k))) t (projector_closed m d y k (omega (arith, few)) inverses))
        (congruent_eq (ap (quantum_number d) s))))

pub hook_on_projector : HookOnProjector
hook_on_projector m delta n i f h few p q x =
    subst (λ g. multiply m delta n (hook m n i) g ≡ nothing m n) (sym x.is) (kills m delta n x.inverse h few x.are_inverses (omega (arith, p, q)) i p q)

pub projector_on_hook : ProjectorOnHook
projector_on_hook m delta n i f h few p q x =
    subst (λ g. multiply m delta n g (hook m n i) ≡ nothing m n) (sym x.is) (killed m delta n x.inverse h few x.are_inverses (omega (arith, p, q)) i p q)

square_at : (m delta n : ℕ) (inverse : ℕ → ℕ) → 0 < m → n ≤ 8 → AreInverses m delta inverse n → multiply m delta n (projector m delta inverse n) (projector m delta inverse n) ≡ projector m delta inverse n
unfolding projector
square_at m delta zero inverse h few a = identity_above m delta 0 (identity m 0) h (IsElement-identity m 0 h)
square_at m delta (suc n) inverse h few a = squared m delta (suc n) inverse h few a (omega arith)

pub square : ProjectorSquared
square m delta n f h few x = subst (λ g. multiply m delta n g g ≡ g) (sym x.is) (square_at m delta n x.inverse h few x.are_inverses)

no_strand : (m delta : ℕ) → 0 < m → Congruent m (pos (close m delta 0 (identity m 0))) (pos 1)
unfolding power
no_strand m delta h =
    congruent_trans (close_alike m delta 0 (identity m 0) h (noncrossing_element m 0 (identity m 0) (IsElement-identity m 0 h)))
    (identity_alike m 0 h (λ p. power (pos delta) (label_closed_loops 0 p)))

closed_at : (m delta n : ℕ) (inverse : ℕ → ℕ) → 0 < m → n ≤ 8 → AreInverses m delta inverse n → Congruent m (pos (close m delta n (projector m delta inverse n))) (quantum_number (pos delta) n)
unfolding projector quantum_number
closed_at m delta zero inverse h few a = no_strand m delta h
closed_at m delta (suc n) inverse h few a = closed m delta (suc n) inverse h few a (omega arith)

-- THE CLOSURE IS DELTA
pub closure_value : ProjectorClosed
unfolding residue
closure_value m delta n f h few x =
    let c = closed_at m delta n x.inverse h few x.are_inverses in
    ap (close m delta n) x.is
    ∙ sym (residue_small m (close m delta n (projector m delta x.inverse n)) (mod-lt _ h))
    ∙ same_residue h c

-- ---- symmetries
module _ (n : ℕ) (t : ℕ → ℕ) (x : IsExchange n t) where
  moved_over : (p q : List ℕ) → IsPairingOf (n + n) p → p ≡ exchanged n t q → IsPairingOf (n + n) q → exchanged n t p ≡ q
  moved_over p q hp e hq = ap (exchanged n t) e ∙ turned_twice n t x q hq

  only_at-exchanged : (p q : List ℕ) → IsPairingOf (n + n) p → IsPairingOf (n + n) q → only_at (exchanged n t p) q ≡ only_at p (exchanged n t q)
  only_at-exchanged p q hp hq =
      ap (λ b. cond b (pos 1) (pos 0))
      (same_bool (bytes_eq (exchanged n t p) q) (bytes_eq p (exchanged n t q))
      (λ b. (bytes_eq-Decides p (exchanged n t q)).1 (sym (turned_twice n t x p hp) ∙ ap (exchanged n t) ((bytes_eq-Decides (exchanged n t p) q).0 b)))
      (λ b. (bytes_eq-Decides (exchanged n t p) q).1 (moved_over p q hp ((bytes_eq-Decides p (exchanged n t q)).0 b) hq)))

  -- where the formal sum is alike to what it turns into, a pairing and what it turns into have one coefficient
  same_coefficient : (m : ℕ) (f : List Term) (y : Sum) (p : List ℕ) → 0 < m → IsElement m n f → AreAlike m (signed f) y → AreTerms (n + n) y → AreAlike m (turned_sum n t y) y → IsPairingOf (n + n) p →
      coefficient f (exchanged n t p) ≡ coefficient f p
  same_coefficient m f y p h e a terms turns hp =
      sym (mod-eq_of_lt (coefficient_below m n f (exchanged n t p) h e))
      ∙ same_mod m (coefficient f (exchanged n t p)) (coefficient f p) h
      (congruent_trans (congruent_eq (coefficient_total f (exchanged n t p)))
      (congruent_trans (a (only_at (exchanged n t p)))
      (congruent_trans (congruent_eq (total_same (n + n) y (only_at (exchanged n t p)) (λ q. only_at p (exchanged n t q)) terms (λ q hq. only_at-exchanged p q hp hq) ∙ sym (total-turned n t y (only_at p))))
      (congruent_trans (turns (only_at p))
      (congruent_trans (congruent_sym (a (only_at p))) (congruent_eq (sym (coefficient_total f p))))))))
      ∙ mod-eq_of_lt (coefficient_below m n f p h e)

-- on one strand, and on none, there is only one pairing
one_strand : (t : ℕ → ℕ) → IsExchange 1 t → (p : List ℕ) → IsPairingOf 2 p → exchanged 1 t p ≡ p
one_strand t x p hp =
    let t0 : t 0 ≡ 1 = (let a = x.up 0 (omega arith) in let b = x.below 0 (omega arith) in omega (arith, a, b)) in
    let t1 : t 1 ≡ 0 = (let a = x.down 1 (omega arith) (omega arith) in omega (arith, a)) in
    let p0 : slice_index p 0 ≡ 1 = (let a = hp.stays 0 (omega arith) in let b = hp.moves 0 (omega arith) in omega (arith, a, b)) in
    let p1 : slice_index p 1 ≡ 0 = (let a = hp.stays 1 (omega arith) in let b = hp.moves 1 (omega arith) in omega (arith, a, b)) in
    same_list 2 (exchanged 1 t p) p (IsPairingOf-turned 1 t x p hp).length_is hp.length_is
    (λ i b. turned_at 1 t x p i b ∙ at_two t p i b t0 t1 p0 p1)
  where
    at_two : (t : ℕ → ℕ) (p : List ℕ) (i : ℕ) → i < 2 → t 0 ≡ 1 → t 1 ≡ 0 → slice_index p 0 ≡ 1 → slice_index p 1 ≡ 0 → t (slice_index p (t i)) ≡ slice_index p i
    at_two t p zero b t0 t1 p0 p1 = ap (λ k. t (slice_index p k)) t0 ∙ ap t p1 ∙ t0 ∙ sym p0
    at_two t p (suc zero) b t0 t1 p0 p1 = ap (λ k. t (slice_index p k)) t1 ∙ ap t p0 ∙ t1 ∙ sym p1
    at_two t p (suc (suc i)) b t0 t1 p0 p1 = absurd (omega (arith, b))

no_points : (t : ℕ → ℕ) (p : List ℕ) → length p ≡ 0 → exchanged 0 t p ≡ p
no_points t [] e = refl
no_points t (x ∷ p) e = absurd (omega (arith, e))

mirror_at : (m delta n : ℕ) (inverse : ℕ → ℕ) (p : List ℕ) → 0 < m → n ≤ 8 → AreInverses m delta inverse n → IsPairingOf (n + n) p →
    coefficient (projector m delta inverse n) (upside_down n p) ≡ coefficient (projector m delta inverse n) p
mirror_at m delta zero inverse p h few a hp = ap (coefficient (projector m delta inverse 0)) (no_points (λ i. 0 + 0 - 1 - i) p hp.length_is)
mirror_at m delta (suc zero) inverse p h few a hp = ap (coefficient (projector m delta inverse 1)) (one_strand (λ i. 1 + 1 - 1 - i) (mirror_exchange 1) p hp)
mirror_at m delta (suc (suc n)) inverse p h few a hp =
    let k = suc n in
    let d = pos delta in
    let y : ℕ → ℤ = λ i. pos (inverse i) in
    let t : k + 1 ≡ suc k = omega arith in
    same_coefficient (suc k) (λ i. suc k + suc k - 1 - i) (mirror_exchange (suc k)) m (projector m delta inverse (suc k)) (formal_projector d (λ i. pos (inverse i)) k) p h (IsElement-projector m delta inverse (suc k) h)
    (projector_alike m delta inverse k h)
    (subst (λ j. AreTerms (j + j) (formal_projector d (λ i. pos (inverse i)) k)) t (tower.AreTerms-projector d y k))
    (subst (λ j. AreAlike m (turned_sum j (λ i. j + j - 1 - i) (formal_projector d (λ i. pos (inverse i)) k)) (formal_projector d (λ i. pos (inverse i)) k)) t
    (projector_mirror m k d y (omega arith) (omega (arith, few)) (inverses_at m delta inverse (suc k) k h refl a))) hp

-- TOP FOR BOTTOM
pub mirror : ProjectorMirrored
mirror m delta n f p h few x hp =
    subst (λ g. coefficient g (upside_down n p) ≡ coefficient g p) (sym x.is) (mirror_at m delta n x.inverse p h few x.are_inverses (IsPairingOf-from_points n p hp))

half_at : (m delta n : ℕ) (inverse : ℕ → ℕ) (p : List ℕ) → 0 < m → n ≤ 8 → AreInverses m delta inverse n → IsPairingOf (n + n) p →
    coefficient (projector m delta inverse n) (half_turned n p) ≡ coefficient (projector m delta inverse n) p
half_at m delta zero inverse p h few a hp = ap (coefficient (projector m delta inverse 0)) (no_points (half 0) p hp.length_is)
half_at m delta (suc zero) inverse p h few a hp = ap (coefficient (projector m delta inverse 1)) (one_strand (half 1) (half_exchange 1) p hp)
half_at m delta (suc (suc n)) inverse p h few a hp =
    let k = suc n in
    let d = pos delta in
    let y : ℕ → ℤ = λ i. pos (inverse i) in
    let t : k + 1 ≡ suc k = omega arith in
    same_coefficient (suc k) (half (suc k)) (half_exchange (suc k)) m (projector m delta inverse (suc k)) (formal_projector d (λ i. pos (inverse i)) k) p h (IsElement-projector m delta inverse (suc k) h)
    (projector_alike m delta inverse k h)
    (subst (λ j. AreTerms (j + j) (formal_projector d (λ i. pos (inverse i)) k)) t (tower.AreTerms-projector d y k))
    (subst (λ j. AreAlike m (turned_sum j (half j) (formal_projector d (λ i. pos (inverse i)) k)) (formal_projector d (λ i. pos (inverse i)) k)) t
    (projector_half m k d y (omega arith) (omega (arith, few)) (inverses_at m delta inverse (suc k) k h refl a))) hp

-- HALF A TURN
pub half_turn : ProjectorHalfTurned
half_turn m delta n f p h few x hp =
    subst (λ g. coefficient g (half_turned n p) ≡ coefficient g p) (sym x.is) (half_at m delta n x.inverse p h few x.are_inverses (IsPairingOf-from_points n p hp))
