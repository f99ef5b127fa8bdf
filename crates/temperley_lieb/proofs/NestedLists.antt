-- The list of noncrossing pairings, one number of points between point 0 and its partner after the other.
use Rattle.std.proofs.Common.{◌≡◌, ℕ, zero, suc, ◌+◌, ◌-◌, ◌<◌, ◌≤◌, List, [], ◌∷◌, ◌++◌, map, length, length-append, refl, sym, ap, ap₂, ◌∙◌, arith, subst, All}
use Rattle.std.specs.List.{flat_map, range_with_len}
use Rattle.std.proofs.lemmas.List.{length-map, flat_map_more}
use Rattle.list_lemmas.proofs.Ranges.{range_push}
use Rattle.state_sums.specs.Networks.{IsPairing}
use Rattle.strand_algebra.specs.Laws.{IsNoncrossingOn}
use Rattle.strand_algebra.specs.Noncrossing.{nested, noncrossing_within, noncrossing}
use Rattle.strand_algebra.proofs.ByLabels.{IsPairingOn-from_points}
use Rattle.strand_algebra.proofs.Nested.{IsPairingOf-nested}
use Rattle.strand_algebra.proofs.PairingLaws.{pairing_of, noncrossing_list}

-- ---- one pairing round another
pub nested_pairing : (k j : ℕ) (a b : List ℕ) → IsNoncrossingOn k a → IsNoncrossingOn j b → IsPairing (nested k a b)
nested_pairing k j a b p q =
    (IsPairingOn-from_points (k + j + 1) (nested k a b) (IsPairingOf-nested k j a b (pairing_of k a p) (pairing_of j b q) (k + j + 1 + (k + j + 1)) (omega arith))).is_pairing

pub nested_length : (k : ℕ) (a b : List ℕ) → length (nested k a b) ≡ length a + length b + 2
nested_length k a b =
    let x = length-map a (λ j. j + 1) in
    let y = length-map b (λ j. j + (k + k + 2)) in
    let z = length-append (map (λ j. j + 1) a) (0 ∷ map (λ j. j + (k + k + 2)) b) in
    omega (arith, x, y, z)

pub all_noncrossing_at : (n : ℕ) (xs : List (List ℕ)) → xs ≡ noncrossing n → All (IsNoncrossingOn n) xs
all_noncrossing_at n xs e = let P : List (List ℕ) → Type 0 = λ ys. All (IsNoncrossingOn n) ys in subst P (sym e) (noncrossing_list n).only

-- ---- the pairings of 2n+2 points in which 2k points stand between point 0 and its partner
abbrev pub around : ℕ → ℕ → List (List ℕ)
around n k = flat_map (λ inside. map (nested k inside) (noncrossing (n - 1 - k))) (noncrossing k)

flat_map_same : {X : Type 0} (f g : ℕ → List X) (a k : ℕ) → ((i : ℕ) → a ≤ i → i < a + k → f i ≡ g i) → flat_map f (range_with_len a k) ≡ flat_map g (range_with_len a k)
flat_map_same f g a zero h = refl
flat_map_same f g a (suc k) h = ap₂ (λ x y. x ++ y) (h a (omega arith) (omega arith)) (flat_map_same f g (a + 1) k (λ i l m. h i (omega arith) (omega arith)))

-- a greater depth lists the same
deep_enough : (d e n : ℕ) → n ≤ d → n ≤ e → noncrossing_within d n ≡ noncrossing_within e n
deep_enough d e zero a b = refl
deep_enough zero e (suc n) a b = absurd (omega (arith, a))
deep_enough (suc d) zero (suc n) a b = absurd (omega (arith, b))
deep_enough (suc d) (suc e) (suc n) a b =
    flat_map_same
    (λ k. flat_map (λ inside. map (λ behind. nested k inside behind) (noncrossing_within d (n - k))) (noncrossing_within d k))
    (λ k. flat_map (λ inside. map (λ behind. nested k inside behind) (noncrossing_within e (n - k))) (noncrossing_within e k))
    0 (n + 1)
    (λ k l m. ap₂ (λ xs ys. flat_map (λ inside. map (λ behind. nested k inside behind) xs) ys)
    (deep_enough d e (n - k) (omega arith) (omega arith)) (deep_enough d e k (omega arith) (omega arith)))

-- THE WHOLE LIST
pub noncrossing_round : (n : ℕ) → 0 < n → flat_map (around n) (range_with_len 0 n) ≡ noncrossing n
noncrossing_round zero h = absurd (omega (arith, h))
noncrossing_round (suc n) h =
    let z : suc n ≡ n + 1 = omega arith in
    ap (λ k. flat_map (around (suc n)) (range_with_len 0 k)) z
    ∙ flat_map_same (around (suc n))
    (λ k. flat_map (λ inside. map (λ behind. nested k inside behind) (noncrossing_within n (n - k))) (noncrossing_within n k))
    0 (n + 1)
    (λ k l m.
    let w : suc n - 1 - k ≡ n - k = omega arith in
    ap (λ i. flat_map (λ inside. map (nested k inside) (noncrossing i)) (noncrossing k)) w
    ∙ ap₂ (λ xs ys. flat_map (λ inside. map (λ behind. nested k inside behind) xs) ys)
    (deep_enough (n - k) n (n - k) (omega arith) (omega arith)) (deep_enough k n k (omega arith) (omega arith)))

pub round_more : (n k : ℕ) → flat_map (around n) (range_with_len 0 (k + 1)) ≡ flat_map (around n) (range_with_len 0 k) ++ around n k
round_more n k =
    ap (flat_map (around n)) (range_push k)
    ∙ sym (flat_map_more (around n) [] (range_with_len 0 k) k)
