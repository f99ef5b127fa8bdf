-- The seam of two pairings on strands: no name stands more than twice, and the names that stand once are left, increasing.
-- How often a name stands is counted by its place in the rows of numbers that the names are. Where a pairing is closed, each
-- name stands twice and none is left.
use Rattle.std.proofs.Common.{◌≡◌, ℕ, zero, suc, ◌+◌, ◌-◌, ◌<◌, ◌≤◌, nat_lt, nat_le, ◌==◌, ◌&&◌, ◌||◌, if◌then◌else◌, cond, List, [], ◌∷◌, ◌++◌, map, length-append, refl, sym, ap, ◌∙◌, arith, ⊎_elim}
use Rattle.std.specs.List.{range_with_len}
use Rattle.std.specs.List.Sorted.{IsStrictlyIncreasing}
use Rattle.std.proofs.lemmas.Bool.{cases_Bool}
use Rattle.std.proofs.lemmas.Bool.Decides.{nat_tests}
use Rattle.std.proofs.lemmas.List.{get_or_append_left, get_or-append_right}
use Rattle.std.proofs.lemmas.List.FromFn.{fill_by_all, length-map-range_with_len, get_or-map-range_with_len, length-range_with_len, get_or-range_with_len}
use Rattle.list_lemmas.proofs.Increasing.{one_increasing}
use Rattle.list_lemmas.proofs.Ranges.{range_increasing}
use Rattle.list_lemmas.proofs.Times.{times_in-cons, times_in-append}
use Rattle.arc_gluing.specs.Pairings.{AreOpen}
use Rattle.list_lemmas.specs.Times.{times_in}
use Rattle.strand_algebra.specs.GluedProducts.{above_name, below_names, above_names, left_names, StrandSeam}
use Rattle.strand_algebra.proofs.Gluings.{glued_name, left_at, left_length}
use Rattle.strand_algebra.proofs.LabelProducts.{outer}

-- ---- how often a name stands
times_in-row : (a k x : ℕ) → times_in (range_with_len a k) x ≡ cond (nat_le a x && nat_lt x (a + k)) 1 0
times_in-row a zero x = grind (arith, nat_tests)
times_in-row a (suc k) x = let c = times_in-cons a (range_with_len (a + 1) k) x in let ih = times_in-row (a + 1) k x in grind (arith, nat_tests, c, ih)

-- numbers from b - a downwards
times_in-down : (b a k x : ℕ) → a + k ≤ b + 1 → times_in (map (λ i. b - i) (range_with_len a k)) x ≡ cond (nat_lt b (x + (a + k)) && nat_le (x + a) b) 1 0
times_in-down b a zero x h = grind (arith, nat_tests)
times_in-down b a (suc k) x h =
    let c = times_in-cons (b - a) (map (λ i. b - i) (range_with_len (a + 1) k)) x in let ih = times_in-down b (a + 1) k x (omega (arith, h)) in grind (arith, nat_tests, c, ih, h)

above_is : (n : ℕ) → above_names n ≡ map (λ i. n + n - 1 - i) (range_with_len 0 n) ++ range_with_len (n + n) n
above_is n =
    let low = map (λ i. n + n - 1 - i) (range_with_len 0 n) in
    let high = range_with_len (n + n) n in
    let l = length-map-range_with_len (λ i. n + n - 1 - i) 0 n in
    let k = length-range_with_len (n + n) n in
    sym (fill_by_all (above_name n) (low ++ high) (n + n) 0 (length-append low high ∙ omega (arith, l, k))
    (λ i b. ⊎_elim
    (λ t. let c : i < n = grind (arith, nat_tests, t) in
    get_or_append_left low high 0 i (omega (arith, l, c)) ∙ get_or-map-range_with_len (λ i. n + n - 1 - i) 0 n i i 0 c (omega arith) ∙ grind (arith, nat_tests, t))
    (λ f. let c : n ≤ i = grind (arith, nat_tests, f) in
    get_or-append_right low high n i 0 l c ∙ get_or-range_with_len (n + n) n (i - n) 0 (omega (arith, b, c)) ∙ grind (arith, nat_tests, f, c))
    (cases_Bool (nat_lt i n))))

module _ (n x : ℕ) where
  times_below : times_in (below_names n) x ≡ cond (nat_lt x (n + n)) 1 0
  times_below = let r = times_in-row 0 (n + n) x in grind (arith, nat_tests, r)

  times_above : times_in (above_names n) x ≡ cond (nat_le n x && nat_lt x (n + n + n)) 1 0
  times_above =
      let e = ap (λ names. times_in names x) (above_is n) in
      let s = times_in-append (map (λ i. n + n - 1 - i) (range_with_len 0 n)) (range_with_len (n + n) n) x in
      let d = times_in-down (n + n - 1) 0 n x (omega arith) in
      let r = times_in-row (n + n) n x in
      grind (arith, nat_tests, e, s, d, r)

  times_left : times_in (left_names n) x ≡ cond (nat_lt x n || (nat_le (n + n) x && nat_lt x (n + n + n))) 1 0
  times_left =
      let s = times_in-append (range_with_len 0 n) (range_with_len (n + n) n) x in
      let d = times_in-row 0 n x in
      let r = times_in-row (n + n) n x in
      grind (arith, nat_tests, s, d, r)

few_names : (n x : ℕ) → times_in (below_names n ++ above_names n) x ≤ 2
few_names n x = let s = times_in-append (below_names n) (above_names n) x in let a = times_below n x in let b = times_above n x in grind (arith, nat_tests, s, a, b)

pub left_open : (n x : ℕ) → times_in (left_names n) x ≡ (if times_in (below_names n ++ above_names n) x == 1 then 1 else 0)
left_open n x =
    let s = times_in-append (below_names n) (above_names n) x in
    let a = times_below n x in
    let b = times_above n x in
    let c = times_left n x in
    grind (arith, nat_tests, s, a, b, c)

-- ---- what is left increases
left_step : (n i : ℕ) → i + 1 < n + n → glued_name n (outer n i) < glued_name n (outer n (i + 1))
left_step n i b = grind (arith, nat_tests)

left_rises : (n : ℕ) → IsStrictlyIncreasing (left_names n)
left_rises n i l =
    let s = left_length n in
    let b : i + 1 < n + n = omega (arith, s, l) in
    let e = left_at n i (omega (arith, b)) in
    let f = left_at n (i + 1) b in
    let r = left_step n i b in
    omega (arith, e, f, r)

-- ---- a closed pairing: its names stand twice
times_doubled : (n x : ℕ) → times_in (below_names n ++ below_names n) x ≡ cond (nat_lt x (n + n)) 2 0
times_doubled n x = let s = times_in-append (below_names n) (below_names n) x in let a = times_below n x in grind (arith, nat_tests, s, a)

pub few_doubled : (n x : ℕ) → times_in (below_names n ++ below_names n) x ≤ 2
few_doubled n x = let d = times_doubled n x in grind (arith, nat_tests, d)

pub none_left : (n : ℕ) (names : List ℕ) → AreOpen (below_names n ++ below_names n) names → names ≡ []
none_left n [] h = refl
none_left n (y ∷ ys) h = absurd (let c = times_in-cons y ys y in let e = h.once y in let d = times_doubled n y in grind (arith, nat_tests, c, e, d))

-- THE SEAM
pub strand_seam : StrandSeam
strand_seam n = record {
  increasing = range_increasing 0 (n + n);
  few = few_names n;
  left = λ names h up. one_increasing names (left_names n) up (left_rises n) (λ x. h.once x ∙ sym (left_open n x));
}
