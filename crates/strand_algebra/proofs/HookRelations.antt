-- The hooks of at most eight strands have the relations of Temperley and Lieb, by the tests of HookTests. Hooks are counted from
-- 0 here: hook i has i strands on its left.
use Rattle.std.proofs.Common.{◌≡◌, ℕ, suc, ◌+◌, ◌-◌, ◌<◌, ◌≤◌, ◌≢◌, min, Bool, true, ◌&&◌, ◌==◌, List, [], ◌∷◌, slice_index, ℤ, pos, ◌+ℤ◌, ◌*ℤ◌, refl, sym, ap, ap₂, ◌∙◌, arith}
use Rattle.std.specs.List.{range_with_len, list_all}
use Rattle.std.specs.Str.{bytes_eq}
use Rattle.std.proofs.lemmas.Bool.{eqb-true}
use Rattle.std.proofs.lemmas.Bool.Decides.{nat_tests}
use Rattle.std.proofs.lemmas.List.Sums.{AllPass-from_list_all}
use Rattle.std.proofs.lemmas.List.FromFn.{length-map-range_with_len, get_or-map-range_with_len}
use Rattle.std.proofs.lemmas.Slice.Eq.{bytes_eq-Decides}
use Rattle.list_lemmas.proofs.Bools.{and_first, and_second}
use Rattle.list_lemmas.proofs.Ranges.{is_member-range}
use Rattle.graph_parts.proofs.Agreement.{from_All}
use Rattle.ring_identities.proofs.Congruences.{congruent_eq, congruent_trans}
use Rattle.ring_identities.proofs.Identities.{reads, by_ring}
use Rattle.ring_identities.specs.Powers.{power}
use Rattle.strand_algebra.proofs.Algebras.{AreHooks}
use Rattle.strand_algebra.proofs.FormalSums.{Sum, formal_scale, formal_multiply, formal_hook, AreAlike}
use Rattle.strand_algebra.proofs.HookTests.{gives, squares, gives_first, neighbours, apart, square_tests, neighbour_tests, apart_tests}
use Rattle.strand_algebra.proofs.LabelProducts.{label_product, label_loops, hooked_behind, hooked_behind_point, IsPairingOf}
use Rattle.strand_algebra.proofs.PairingAlgebra.{Element, pairings}

-- ---- a hook is a pairing
point_stays : (n i j : ℕ) → i + 1 < n → j < n + n → hooked_behind_point n i j < n + n
point_stays n i j b h = grind (arith, nat_tests)

point_turns : (n i j : ℕ) → i + 1 < n → j < n + n → hooked_behind_point n i (hooked_behind_point n i j) ≡ j
point_turns n i j b h = grind (arith, nat_tests)

point_moves : (n i j : ℕ) → i + 1 < n → j < n + n → hooked_behind_point n i j ≢ j
point_moves n i j b h e = grind (arith, nat_tests, e)

pub hooked_at : (n i j : ℕ) → j < n + n → slice_index (hooked_behind n i) j ≡ hooked_behind_point n i j
hooked_at n i j b = get_or-map-range_with_len (hooked_behind_point n i) 0 (n + n) j j 0 b (omega arith)

pub IsPairingOf-hooked : (n i : ℕ) → i + 1 < n → IsPairingOf (n + n) (hooked_behind n i)
IsPairingOf-hooked n i b = record {
  length_is = length-map-range_with_len (hooked_behind_point n i) 0 (n + n);
  stays = λ j h. (let s = point_stays n i j b h in let e = hooked_at n i j h in omega (arith, s, e));
  turns = λ j h. ap (slice_index (hooked_behind n i)) (hooked_at n i j h) ∙ hooked_at n i (hooked_behind_point n i j) (point_stays n i j b h) ∙ point_turns n i j b h;
  moves = λ j h e. point_moves n i j b h (sym (hooked_at n i j h) ∙ e);
}

-- ---- products of single pairings
module _ (m n : ℕ) (d : ℤ) where
  abbrev single : List ℕ → Sum
  single p = (pos 1, p) ∷ []

  pub single_product : (p q s : List ℕ) (k : ℕ) → label_product n p q ≡ s → label_loops n p q ≡ k → AreAlike m (formal_multiply n d (single p) (single q)) (formal_scale (power d k) (single s))
  single_product p q s k e f w =
      congruent_eq
      (ap₂ (λ i r. pos 1 *ℤ (pos 1 *ℤ power d i) *ℤ w r +ℤ pos 0) f e
      ∙ by_ring (power d k ∷ w s ∷ []) (search reads depth 30) (search reads depth 30) refl)

  pub single_chain : (p q s t : List ℕ) → label_loops n p q ≡ 0 → label_product n (label_product n p q) s ≡ t → label_loops n (label_product n p q) s ≡ 0 → AreAlike m (formal_multiply n d (formal_multiply n d (single p) (single q)) (single s)) (single t)
  unfolding power
  single_chain p q s t e f g w =
      congruent_eq
      (ap₂ (λ i r. pos 1 *ℤ (pos 1 *ℤ power d (label_loops n p q)) *ℤ (pos 1 *ℤ power d i) *ℤ w r +ℤ pos 0) g f
      ∙ ap (λ i. pos 1 *ℤ (pos 1 *ℤ power d i) *ℤ (pos 1 *ℤ power d 0) *ℤ w t +ℤ pos 0) e
      ∙ by_ring (w t ∷ []) (search reads depth 30) (search reads depth 30) refl)

  pub single_exchange : (p q s t : List ℕ) → label_product n p q ≡ label_product n s t → label_loops n p q ≡ 0 → label_loops n s t ≡ 0 → AreAlike m (formal_multiply n d (single p) (single q)) (formal_multiply n d (single s) (single t))
  single_exchange p q s t e f g w =
      congruent_eq
      (ap₂ (λ i r. pos 1 *ℤ (pos 1 *ℤ power d i) *ℤ w r +ℤ pos 0) f e
      ∙ sym (ap (λ i. pos 1 *ℤ (pos 1 *ℤ power d i) *ℤ w (label_product n s t) +ℤ pos 0) g))

from_gives : (n : ℕ) (p q s : List ℕ) (k : ℕ) → gives n p q s k ≡ true → (label_product n p q ≡ s) × (label_loops n p q ≡ k)
from_gives n p q s k h = ((bytes_eq-Decides (label_product n p q) s).0 (and_first (bytes_eq (label_product n p q) s) (label_loops n p q == k) h), eqb-true (label_loops n p q) k (and_second (bytes_eq (label_product n p q) s) (label_loops n p q == k) h))

pub at_range : (p : ℕ → Bool) (a k i : ℕ) → list_all p (range_with_len a k) ≡ true → a ≤ i → i < a + k → p i ≡ true
at_range p a k i h x y = from_All p (range_with_len a k) (AllPass-from_list_all p (range_with_len a k) h) i (is_member-range a k i x y)

pub square_of : (n i : ℕ) → n < 9 → i + 1 < n → (label_product n (hooked_behind n i) (hooked_behind n i) ≡ hooked_behind n i) × (label_loops n (hooked_behind n i) (hooked_behind n i) ≡ 1)
square_of n i b h =
    from_gives n (hooked_behind n i) (hooked_behind n i) (hooked_behind n i) 1
    (at_range (λ j. gives n (hooked_behind n j) (hooked_behind n j) (hooked_behind n j) 1) 0 (n - 1) i (at_range squares 0 9 n square_tests (omega arith) (omega arith)) (omega arith) (omega arith))

pub neighbour_of : (n i : ℕ) → n < 9 → i + 2 < n → (gives_first n i (i + 1) ≡ true) × (gives_first n (i + 1) i ≡ true)
neighbour_of n i b h =
    let t = at_range (λ j. gives_first n j (j + 1) && gives_first n (j + 1) j) 0 (n - 2) i (at_range neighbours 0 9 n neighbour_tests (omega arith) (omega arith)) (omega arith) (omega arith) in
    (and_first (gives_first n i (i + 1)) (gives_first n (i + 1) i) t, and_second (gives_first n i (i + 1)) (gives_first n (i + 1) i) t)

pub apart_of : (n i j : ℕ) → n < 9 → i + 1 < j → j + 1 < n →
    (gives n (hooked_behind n j) (hooked_behind n i) (label_product n (hooked_behind n i) (hooked_behind n j)) 0 && label_loops n (hooked_behind n i) (hooked_behind n j) == 0) ≡ true
apart_of n i j b h k =
    at_range (λ l. gives n (hooked_behind n l) (hooked_behind n i) (label_product n (hooked_behind n i) (hooked_behind n l)) 0 && label_loops n (hooked_behind n i) (hooked_behind n l) == 0) (i + 2) (n - 3 - i) j
    (at_range (λ t. list_all (λ l. gives n (hooked_behind n l) (hooked_behind n t) (label_product n (hooked_behind n t) (hooked_behind n l)) 0 && label_loops n (hooked_behind n t) (hooked_behind n l) == 0) (range_with_len (t + 2) (n - 3 - t))) 0 (n - 3) i
    (at_range apart 0 9 n apart_tests (omega arith) (omega arith)) (omega arith) (omega arith)) (omega arith) (omega arith)

-- ---- the hooks as elements
abbrev pub place : ℕ → ℕ → ℕ
place n i = min i (n - 2)

pub place_below : (n i : ℕ) → 1 < n → place n i + 1 < n
place_below n i h = omega arith

abbrev pub hooks : (n : ℕ) → 1 < n → ℕ → Element n
hooks n two i = record { sum = formal_hook n (place n i); valid = (IsPairingOf-hooked n (place n i) (place_below n i two), tt) }

chain_of : (m n : ℕ) (d : ℤ) (i j : ℕ) → gives_first n i j ≡ true → AreAlike m (formal_multiply n d (formal_multiply n d (formal_hook n i) (formal_hook n j)) (formal_hook n i)) (formal_hook n i)
chain_of m n d i j h =
    let g = from_gives n (label_product n (hooked_behind n i) (hooked_behind n j)) (hooked_behind n i) (hooked_behind n i) 0 (and_second (label_loops n (hooked_behind n i) (hooked_behind n j) == 0) (gives n (label_product n (hooked_behind n i) (hooked_behind n j)) (hooked_behind n i) (hooked_behind n i) 0) h) in
    single_chain m n d (hooked_behind n i) (hooked_behind n j) (hooked_behind n i) (hooked_behind n i)
    (eqb-true (label_loops n (hooked_behind n i) (hooked_behind n j)) 0 (and_first (label_loops n (hooked_behind n i) (hooked_behind n j) == 0) (gives n (label_product n (hooked_behind n i) (hooked_behind n j)) (hooked_behind n i) (hooked_behind n i) 0) h)) g.0 g.1

-- THE HOOKS OF AT MOST EIGHT STRANDS
pub AreHooks-hooks : (m n : ℕ) (d : ℤ) (two : 1 < n) → n < 9 → AreHooks m (pairings m n d) d (n - 1) (hooks n two)
unfolding power
AreHooks-hooks m n d two b = record {
  square = λ i h w.
      let s = square_of n (place n i) b (place_below n i two) in
      congruent_trans (single_product m n d (hooked_behind n (place n i)) (hooked_behind n (place n i)) (hooked_behind n (place n i)) 1 s.0 s.1 w)
      (congruent_eq (by_ring (d ∷ w (hooked_behind n (place n i)) ∷ []) (search reads depth 30) (search reads depth 30) refl));
  up = λ i h.
      let e : place n i ≡ i = omega arith in let f : place n (suc i) ≡ i + 1 = omega arith in
      rw (e, f) (chain_of m n d i (i + 1) (neighbour_of n i b (omega arith)).0);
  down = λ i h.
      let e : place n i ≡ i = omega arith in let f : place n (suc i) ≡ i + 1 = omega arith in
      rw (e, f) (chain_of m n d (i + 1) i (neighbour_of n i b (omega arith)).1);
  apart = λ i j h k.
      let e : place n i ≡ i = omega arith in let f : place n j ≡ j = omega arith in
      let t = apart_of n i j b (omega arith) (omega arith) in
      let g = from_gives n (hooked_behind n j) (hooked_behind n i) (label_product n (hooked_behind n i) (hooked_behind n j)) 0 (and_first _ (label_loops n (hooked_behind n i) (hooked_behind n j) == 0) t) in
      rw (e, f) (single_exchange m n d (hooked_behind n j) (hooked_behind n i) (hooked_behind n i) (hooked_behind n j) g.0 g.1 (eqb-true (label_loops n (hooked_behind n i) (hooked_behind n j)) 0 (and_second _ (label_loops n (hooked_behind n i) (hooked_behind n j) == 0) t)));
}
