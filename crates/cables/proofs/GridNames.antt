-- The names of a grid: those at its four sides, and twice those within.
use Rattle.std.proofs.Common.{◌≡◌, ℕ, zero, suc, ◌+◌, ◌*◌, ◌-◌, ◌^◌, ◌≤◌, List, [], ◌∷◌, ◌++◌, length, reverse, refl, sym, ◌∙◌, arith}
use Rattle.std.proofs.lemmas.List.{length-reverse}
use Rattle.std.proofs.lemmas.List.FromFn.{length-map-range_with_len}
use Rattle.state_sums.specs.Networks.{names_of}
use Rattle.list_lemmas.specs.Times.{times_in}
use Rattle.root_quantum.specs.Parameters.{Parameters}
use Rattle.cables.specs.CableNodes.{upright_names, line_names, row, grid, through_node, crossing_cable}
use Rattle.cables.proofs.NameCounts.{at, times-reverse, times_of-append}
use Rattle.list_lemmas.proofs.Times.{times_in-cons, times_in-append}

four-times : (x b e t w : ℕ) (ns : List ℕ) → times_in (b ∷ e ∷ t ∷ w ∷ ns) x ≡ at x b + at x e + at x t + at x w + times_in ns x
four-times x b e t w ns =
    let k = times_in-cons b (e ∷ t ∷ w ∷ ns) x in
    let l = times_in-cons e (t ∷ w ∷ ns) x in
    let m = times_in-cons t (w ∷ ns) x in
    let n = times_in-cons w ns x in
    omega (arith, k, l, m, n)

module _ (p : Parameters) (group x : ℕ) where
  row-times : (inner bottoms tops : List ℕ) (west east : ℕ) → length bottoms ≡ length inner + 1 → length tops ≡ length inner + 1 →
      times_in (names_of (row p group bottoms west (inner ++ east ∷ []) tops)) x ≡ times_in bottoms x + at x west + 2 * times_in inner x + at x east + times_in tops x
  row-times [] (b ∷ []) (t ∷ []) west east h k =
      let n = four-times x b east t west [] in let i = times_in-cons b [] x in let j = times_in-cons t [] x in omega (arith, n, i, j)
  row-times [] [] tops west east h k = absurd (omega (arith, h))
  row-times [] (b ∷ c ∷ bottoms) tops west east h k = absurd (omega (arith, h))
  row-times [] (b ∷ []) [] west east h k = absurd (omega (arith, k))
  row-times [] (b ∷ []) (t ∷ s ∷ tops) west east h k = absurd (omega (arith, k))
  row-times (e ∷ inner) [] tops west east h k = absurd (omega (arith, h))
  row-times (e ∷ inner) (b ∷ bottoms) [] west east h k = absurd (omega (arith, k))
  row-times (e ∷ inner) (b ∷ bottoms) (t ∷ tops) west east h k =
      let n = four-times x b e t west (names_of (row p group bottoms e (inner ++ east ∷ []) tops)) in
      let ih = row-times inner bottoms tops e east (omega (arith, h)) (omega (arith, k)) in
      let i = times_in-cons b bottoms x in let j = times_in-cons t tops x in let l = times_in-cons e inner x in
      omega (arith, n, ih, i, j, l)

-- how often a name stands within the rows from row i on, counted once; n rows are left
abbrev pub inner_times : ℕ → ℕ → ℕ → ℕ → ℕ → ℕ
inner_times k u i zero x = 0
inner_times k u i (suc zero) x = times_in (line_names k u i) x
inner_times k u i (suc (suc n)) x = times_in (line_names k u i) x + times_in (upright_names k u i) x + inner_times k u (i + 1) (suc n) x

line_length : (k u i : ℕ) → 1 ≤ u → u ≡ length (line_names k u i) + 1
line_length k u i h = let e = length-map-range_with_len (λ j. 2 ^ 25 + 128 * k + 64 + 8 * i + j) 0 (u - 1) in omega (arith, e, h)

upright_length : (k u i : ℕ) → length (upright_names k u i) ≡ u
upright_length k u i = length-map-range_with_len (λ j. 2 ^ 25 + 128 * k + 8 * i + j) 0 u

module _ (p : Parameters) (group k u x : ℕ) (some : 1 ≤ u) where
  grid-times : (i : ℕ) (bottoms wests easts north : List ℕ) → length bottoms ≡ u → length north ≡ u → length wests ≡ length easts → 1 ≤ length easts →
      times_in (names_of (grid p group k u i bottoms wests easts north)) x
      ≡ times_in bottoms x + times_in wests x + times_in easts x + times_in north x + 2 * inner_times k u i (length easts) x
  grid-times i bottoms wests [] north hb hn hw he = absurd (omega (arith, he))
  grid-times i bottoms [] (e ∷ easts) north hb hn hw he = absurd (omega (arith, hw))
  grid-times i bottoms (w ∷ []) (e ∷ []) north hb hn hw he =
      let long = line_length k u i some in
      let r = row-times p group x (line_names k u i) bottoms north w e (omega (arith, hb, long)) (omega (arith, hn, long)) in
      let a = times_in-cons w [] x in let b = times_in-cons e [] x in
      omega (arith, r, a, b)
  grid-times i bottoms (w ∷ []) (e ∷ f ∷ easts) north hb hn hw he = absurd (omega (arith, hw))
  grid-times i bottoms (w ∷ v ∷ wests) (e ∷ []) north hb hn hw he = absurd (omega (arith, hw))
  grid-times i bottoms (w ∷ v ∷ wests) (e ∷ f ∷ easts) north hb hn hw he =
      let long = line_length k u i some in
      let high = upright_length k u i in
      let tops = upright_names k u i in
      let r = row-times p group x (line_names k u i) bottoms tops w e (omega (arith, hb, long)) (omega (arith, high, long)) in
      let ih = grid-times (i + 1) tops (v ∷ wests) (f ∷ easts) north high hn (omega (arith, hw)) (omega arith) in
      let both = times_of-append x (row p group bottoms w (line_names k u i ++ e ∷ []) tops) (grid p group k u (i + 1) tops (v ∷ wests) (f ∷ easts) north) in
      let a = times_in-cons w (v ∷ wests) x in let b = times_in-cons e (f ∷ easts) x in
      omega (arith, r, ih, both, a, b)

-- within the grid of a crossing, counted once
abbrev pub crossing_inner : ℕ → ℕ → ℕ → ℕ → ℕ
crossing_inner k zero o x = 0
crossing_inner k (suc u) zero x = 0
crossing_inner k (suc u) (suc o) x = inner_times k (suc u) 0 (suc o) x

none : (xs : List ℕ) (x : ℕ) → length xs ≡ 0 → times_in xs x ≡ 0
none [] x h = refl
none (y ∷ ys) x h = absurd (omega (arith, h))

through-times : (group x : ℕ) (xs ys : List ℕ) → times_in (names_of (through_node group xs ys ∷ [])) x ≡ times_in xs x + times_in ys x
through-times group x xs ys = let a = times_in-append (xs ++ ys) [] x in let b = times_in-append xs ys x in omega (arith, a, b)

-- THE NAMES OF A CROSSING
pub crossing-times : (p : Parameters) (group k x : ℕ) (a b c d : List ℕ) → length a ≡ length c → length b ≡ length d →
    times_in (names_of (crossing_cable p group k a b c d)) x ≡ times_in a x + times_in b x + times_in c x + times_in d x + 2 * crossing_inner k (length a) (length b) x
crossing-times p group k x [] [] c d h l = let e = none c x (sym h) in let f = none d x (sym l) in omega (arith, e, f)
crossing-times p group k x [] (b ∷ others) c d h l = let e = none c x (sym h) in let f = through-times group x (b ∷ others) d in omega (arith, e, f)
crossing-times p group k x (a ∷ more) [] c d h l = let e = none d x (sym l) in let f = through-times group x (a ∷ more) c in omega (arith, e, f)
crossing-times p group k x (a ∷ more) (b ∷ others) c d h l =
    let g = grid-times p group k (length (a ∷ more)) x (omega arith) 0 (a ∷ more) (reverse d) (b ∷ others) (reverse c) refl (length-reverse c ∙ sym h) (length-reverse d ∙ sym l) (omega arith) in
    let e = times-reverse x c in let f = times-reverse x d in
    omega (arith, g, e, f)
