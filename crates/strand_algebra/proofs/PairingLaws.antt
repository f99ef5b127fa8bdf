-- The laws of pairings on strands: what is proved by labels, for the definitions by parts.
use Rattle.std.proofs.Common.{◌≡◌, ℕ, ◌+◌, ◌-◌, ◌<◌, List, [], ◌∷◌, slice_index, sym, ap, ap₂, ◌∙◌, arith, All}
use Rattle.std.specs.List.{AllByRecursion}
use Rattle.std.proofs.lemmas.Bool.Decides.{nat_tests}
use Rattle.std.proofs.lemmas.List.Elements.{All-nil, All-cons}
use Rattle.arc_pairing.specs.Pairings.{IsNoncrossing}
use Rattle.strand_algebra.specs.StrandPairings.{straight, moved, widened, product, product_loops}
use Rattle.strand_algebra.specs.Laws.{IsNoncrossingOn, ProductOfPairings, ProductOfNoncrossingPairings, StraightStrands, HookedStrands, OneMoreStrand, AssociativePairings, StraightStrandsChangeNothing, AllNoncrossingPairings}
use Rattle.strand_algebra.proofs.LabelProducts.{IsPairingOf, hooked_behind, hooked_behind_point, label_product}
use Rattle.strand_algebra.proofs.ByLabels.{IsPairingOf-from_points, IsPairingOn-from_points, product-labels, product_loops-labels}
use Rattle.strand_algebra.proofs.Stacks.{IsPairingOf-product}
use Rattle.strand_algebra.proofs.Uncrossed.{IsNoncrossing-product}
use Rattle.strand_algebra.proofs.Associativity.{product_assoc, loops_assoc}
use Rattle.strand_algebra.proofs.StraightStrands.{IsPairingOf-straight, straight_at, straight_product, straight_loops, product_straight, loops_straight}
use Rattle.strand_algebra.proofs.HookRelations.{hooked_at, IsPairingOf-hooked}
use Rattle.strand_algebra.proofs.WiderStacks.{by_points, wide_old, wide_new, wide_next, IsPairingOf-widened}
use Rattle.strand_algebra.proofs.Nested.{in_range}
use Rattle.strand_algebra.proofs.NoncrossingLists as listed

pub pairing_of : (n : ℕ) (p : List ℕ) → IsNoncrossingOn n p → IsPairingOf (n + n) p
pairing_of n p h = IsPairingOf-from_points n p h.pairing

pub IsNoncrossingOn-from_points : (n : ℕ) (p : List ℕ) → IsPairingOf (n + n) p → IsNoncrossing p → IsNoncrossingOn n p
IsNoncrossingOn-from_points n p h f = record { pairing = IsPairingOn-from_points n p h; noncrossing = f }

-- ---- products
pub product_of_pairings : ProductOfPairings
product_of_pairings n p q hp hq =
    let a = IsPairingOf-from_points n p hp in
    let b = IsPairingOf-from_points n q hq in
    let own = IsPairingOn-from_points n (label_product n p q) (IsPairingOf-product n p q a b) in
    rw (← product-labels n p q a b) at own

pub product_of_noncrossing : ProductOfNoncrossingPairings
product_of_noncrossing n p q hp hq =
    let a = pairing_of n p hp in
    let b = pairing_of n q hq in
    let own = IsNoncrossingOn-from_points n (label_product n p q) (IsPairingOf-product n p q a b) (IsNoncrossing-product n p q a b hp.noncrossing hq.noncrossing) in
    rw (← product-labels n p q a b) at own

pub associative : AssociativePairings
associative n p q r hp hq hr =
    let a = IsPairingOf-from_points n p hp in
    let b = IsPairingOf-from_points n q hq in
    let c = IsPairingOf-from_points n r hr in
    let pq = IsPairingOf-product n p q a b in
    let qr = IsPairingOf-product n q r b c in
    record {
      products =
          ap (λ s. product n s r) (product-labels n p q a b)
          ∙ product-labels n (label_product n p q) r pq c
          ∙ product_assoc n p q r a b c
          ∙ sym (ap (product n p) (product-labels n q r b c) ∙ product-labels n p (label_product n q r) a qr);
      loops =
          ap₂ (λ s t. s + t) (product_loops-labels n p q a b) (ap (λ s. product_loops n s r) (product-labels n p q a b) ∙ product_loops-labels n (label_product n p q) r pq c)
          ∙ loops_assoc n p q r a b c
          ∙ sym (ap₂ (λ s t. s + t) (product_loops-labels n q r b c) (ap (product_loops n p) (product-labels n q r b c) ∙ product_loops-labels n p (label_product n q r) a qr));
    }

pub keeps_both_sides : StraightStrandsChangeNothing
keeps_both_sides n p hp =
    let a = IsPairingOf-from_points n p hp in
    let s = IsPairingOf-straight n in
    record {
      above = product-labels n (straight n) p s a ∙ straight_product n p a;
      above_loops = product_loops-labels n (straight n) p s a ∙ straight_loops n p a;
      below = product-labels n p (straight n) a s ∙ product_straight n p a;
      below_loops = product_loops-labels n p (straight n) a s ∙ loops_straight n p a;
    }

-- ---- straight strands, hooks, one more strand
pub straight_noncrossing : StraightStrands
straight_noncrossing n =
    IsNoncrossingOn-from_points n (straight n) (IsPairingOf-straight n)
    (λ i j ij jm mm.
    let own = IsPairingOf-straight n in
    let a = in_range (n + n) (straight n) i own.length_is (omega (arith, jm)) in
    let b = in_range (n + n) (straight n) j own.length_is (omega (arith, mm)) in
    let e = straight_at n i a in
    let f = straight_at n j b in
    omega (arith, ij, mm, e, f, a, b))

hook_plain : (n i x y : ℕ) → i + 1 < n → x < n + n → y < n + n → x < y → y < hooked_behind_point n i x → hooked_behind_point n i x < hooked_behind_point n i y → ⊥
hook_plain n i x y h a b xy ym mm = grind (arith, nat_tests, ym, mm)

hooked_behind_noncrossing : (n i : ℕ) → i + 1 < n → IsNoncrossingOn n (hooked_behind n i)
hooked_behind_noncrossing n i h =
    IsNoncrossingOn-from_points n (hooked_behind n i) (IsPairingOf-hooked n i h)
    (λ x y xy ym mm.
    let own = IsPairingOf-hooked n i h in
    let a = in_range (n + n) (hooked_behind n i) x own.length_is (omega (arith, ym)) in
    let b = in_range (n + n) (hooked_behind n i) y own.length_is (omega (arith, mm)) in
    let e = hooked_at n i x a in
    let f = hooked_at n i y b in
    hook_plain n i x y h a b xy (omega (arith, ym, e)) (omega (arith, mm, e, f)))

pub hooked_noncrossing : HookedStrands
hooked_noncrossing n i some below =
    let z : i - 1 + 1 ≡ i = omega arith in
    let h = hooked_behind_noncrossing n (i - 1) (omega arith) in
    rw z at h

moved_rises : (n i j : ℕ) → moved n i < moved n j → i < j
moved_rises n i j h = grind (arith, nat_tests, h)

pub widened_noncrossing : OneMoreStrand
widened_noncrossing n p hp =
    let a = pairing_of n p hp in
    let l = a.length_is in
    let own = IsPairingOf-widened n p a in
    let P = slice_index (widened n p) in
    IsNoncrossingOn-from_points (n + 1) (widened n p) own
    (λ x y xy ym mm.
    by_points n (λ x. x < y → y < slice_index (widened n p) x → slice_index (widened n p) x < slice_index (widened n p) y → ⊥)
    (λ u v w. let e = wide_new n p l in omega (arith, e, u, v))
    (λ u v w. let e = wide_next n p l in omega (arith, e, u, v))
    (λ i b u v w.
    let e = wide_old n p l i b in
    by_points n (λ y. moved n i < y → y < moved n (slice_index p i) → moved n (slice_index p i) < slice_index (widened n p) y → ⊥)
    (λ s t r. let f = wide_new n p l in omega (arith, f, t, r))
    (λ s t r. let f = wide_next n p l in omega (arith, f, t, r))
    (λ j c s t r. let f = wide_old n p l j c in
    hp.noncrossing i j (moved_rises n i j s) (moved_rises n j (slice_index p i) t) (moved_rises n (slice_index p i) (slice_index p j) (omega (arith, r, f))))
    y (in_range (n + 1 + (n + 1)) (widened n p) y own.length_is (omega (arith, w))) u (omega (arith, v, e)) (omega (arith, w, e)))
    x (in_range (n + 1 + (n + 1)) (widened n p) x own.length_is (omega (arith, ym))) xy ym mm)

-- ---- the list
All-from_each : {X : Type 0} (P Q : X → Type 0) → ((x : X) → P x → Q x) → (xs : List X) → AllByRecursion P xs → All Q xs
All-from_each P Q h [] p = All-nil Q
All-from_each P Q h (x ∷ xs) p = All-cons Q x xs (h x p.0) (All-from_each P Q h xs p.1)

pub noncrossing_list : AllNoncrossingPairings
noncrossing_list n = record {
  only = All-from_each (listed.IsNoncrossingOf (n + n)) (IsNoncrossingOn n) (λ p h. IsNoncrossingOn-from_points n p h.0 h.1) _ (listed.each_noncrossing n);
  each = λ p h. listed.all_noncrossing n p (pairing_of n p h, h.noncrossing);
  increasing = listed.noncrossing_sorted n;
}
