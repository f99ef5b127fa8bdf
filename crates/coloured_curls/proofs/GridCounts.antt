-- How often a name stands in a grid of crossings: once for each of its ends, and twice for each edge within.
use Rattle.std.proofs.Common.{◌≡◌, ℕ, zero, suc, ◌+◌, ◌*◌, ◌<◌, ◌≤◌, List, [], ◌∷◌, map, refl, ap, arith}
use Rattle.std.specs.List.{range_with_len}
use Rattle.state_sums.specs.Networks.{names_of}
use Rattle.list_lemmas.specs.Times.{times_in}
use Rattle.list_lemmas.proofs.Times.{times_in-cons}
use Rattle.word_networks.specs.GridNetworks.{row_nodes, grid_nodes}
use Rattle.cables.proofs.NameCounts.{at, times_of-append}
use Rattle.coloured_curls.proofs.PieceCounts.{same_range}

-- how often z is among f j, f (j+1), .., so many
abbrev pub among : (ℕ → ℕ) → ℕ → ℕ → ℕ → ℕ
among f j count z = times_in (map f (range_with_len j count)) z

pub among_same : (f g : ℕ → ℕ) (j count z : ℕ) → ((k : ℕ) → j ≤ k → k < j + count → f k ≡ g k) → among f j count z ≡ among g j count z
among_same f g j count z h = ap (λ xs. times_in xs z) (same_range f g j count h)

pub among_more : (f : ℕ → ℕ) (j count z : ℕ) → among f j (suc count) z ≡ at z (f j) + among f (j + 1) count z
among_more f j count z = times_in-cons (f j) (map f (range_with_len (j + 1) count)) z

four : (z b e t w : ℕ) (ns : List ℕ) → times_in (b ∷ e ∷ t ∷ w ∷ ns) z ≡ at z b + at z e + at z t + at z w + times_in ns z
four z b e t w ns =
    let k = times_in-cons b (e ∷ t ∷ w ∷ ns) z in
    let l = times_in-cons e (t ∷ w ∷ ns) z in
    let m = times_in-cons t (w ∷ ns) z in
    let n = times_in-cons w ns z in
    omega (arith, k, l, m, n)

module _ (x y : ℕ) (v h : ℕ → ℕ → ℕ) (z : ℕ) where
  row_counts : (i j count : ℕ) →
      times_in (names_of (row_nodes x y v h i j (suc count))) z
      ≡ among (v i) j (suc count) z + among (v (i + 1)) j (suc count) z + at z (h i j) + at z (h i (j + suc count)) + 2 * among (h i) (j + 1) count z
  row_counts i j zero =
      let a = four z (v i j) (h i (j + 1)) (v (i + 1) j) (h i j) [] in
      let b = among_more (v i) j 0 z in
      let c = among_more (v (i + 1)) j 0 z in
      omega (arith, a, b, c)
  row_counts i j (suc count) =
      let a = four z (v i j) (h i (j + 1)) (v (i + 1) j) (h i j) (names_of (row_nodes x y v h i (j + 1) (suc count))) in
      let b = among_more (v i) j (suc count) z in
      let c = among_more (v (i + 1)) j (suc count) z in
      let d = among_more (h i) (j + 1) count z in
      let ih = row_counts i (j + 1) count in
      let last : at z (h i (j + 1 + suc count)) ≡ at z (h i (j + suc (suc count))) = ap (λ k. at z (h i k)) (let e : j + 1 + suc count ≡ j + suc (suc count) = omega arith in e) in
      omega (arith, a, b, c, d, ih, last)

  -- edges within rows i to i+rows, and between them
  abbrev pub within : ℕ → ℕ → ℕ → ℕ
  within c i zero = among (h i) 1 c z
  within c i (suc rows) = among (h i) 1 c z + among (v (i + 1)) 0 (suc c) z + within c (i + 1) rows

  -- HOW OFTEN A NAME STANDS IN A GRID
  pub grid_counts : (c i rows : ℕ) →
      times_in (names_of (grid_nodes x y v h i (suc rows) (suc c))) z
      ≡ among (v i) 0 (suc c) z + among (v (i + suc rows)) 0 (suc c) z + among (λ k. h k 0) i (suc rows) z + among (λ k. h k (suc c)) i (suc rows) z + 2 * within c i rows
  grid_counts c i zero =
      let a = times_of-append z (row_nodes x y v h i 0 (suc c)) [] in
      let r = row_counts i 0 c in
      let b = among_more (λ k. h k 0) i 0 z in
      let d = among_more (λ k. h k (suc c)) i 0 z in
      let e : at z (h i (0 + suc c)) ≡ at z (h i (suc c)) = ap (λ k. at z (h i k)) (let e : 0 + suc c ≡ suc c = omega arith in e) in
      let f : among (h i) (0 + 1) c z ≡ among (h i) 1 c z = ap (λ k. among (h i) k c z) (let e : 0 + 1 ≡ 1 = omega arith in e) in
      omega (arith, a, r, b, d, e, f)
  grid_counts c i (suc rows) =
      let a = times_of-append z (row_nodes x y v h i 0 (suc c)) (grid_nodes x y v h (i + 1) (suc rows) (suc c)) in
      let r = row_counts i 0 c in
      let ih = grid_counts c (i + 1) rows in
      let b = among_more (λ k. h k 0) i (suc rows) z in
      let d = among_more (λ k. h k (suc c)) i (suc rows) z in
      let e : at z (h i (0 + suc c)) ≡ at z (h i (suc c)) = ap (λ k. at z (h i k)) (let e : 0 + suc c ≡ suc c = omega arith in e) in
      let f : among (h i) (0 + 1) c z ≡ among (h i) 1 c z = ap (λ k. among (h i) k c z) (let e : 0 + 1 ≡ 1 = omega arith in e) in
      let g : among (v (i + 1 + suc rows)) 0 (suc c) z ≡ among (v (i + suc (suc rows))) 0 (suc c) z = ap (λ k. among (v k) 0 (suc c) z) (let e : i + 1 + suc rows ≡ i + suc (suc rows) = omega arith in e) in
      omega (arith, a, r, ih, b, d, e, f, g)

pub within_same : (x y : ℕ) (v w h : ℕ → ℕ → ℕ) (z c i rows : ℕ) → ((k j : ℕ) → k ≤ i + rows → v k j ≡ w k j) → within x y v h z c i rows ≡ within x y w h z c i rows
within_same x y v w h z c i zero same = refl
within_same x y v w h z c i (suc rows) same =
    let a = among_same (v (i + 1)) (w (i + 1)) 0 (suc c) z (λ k l b. same (i + 1) k (omega arith)) in
    let ih = within_same x y v w h z c (i + 1) rows (λ k j l. same k j (omega (arith, l))) in
    omega (arith, a, ih)
