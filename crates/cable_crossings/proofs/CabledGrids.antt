-- A cabled crossing as a grid by functions of row and column.
use Rattle.std.proofs.Common.{◌≡◌, ℕ, zero, suc, ◌+◌, ◌-◌, ◌*◌, ◌^◌, ◌<◌, ◌≤◌, ◌⊎◌, inl, inr, ⊎_elim, nat_lt, true, false, append-nil, List, [], ◌∷◌, ◌++◌, map, length, slice_index, refl, sym, ap, ap₂, ◌∙◌, arith, length-append}
use Rattle.std.proofs.lemmas.Bool.Decides.{nat_tests}
use Rattle.std.proofs.lemmas.List.{map-append}
use Rattle.std.proofs.lemmas.List.FromFn.{length-map-range_with_len, get_or-map-range_with_len}
use Rattle.state_sums.specs.LocalSums.{crossing}
use Rattle.state_sums.specs.Networks.{Node}
use Rattle.root_quantum.specs.Parameters.{Parameters}
use Rattle.root_quantum.specs.QuantumNumbers.{inverse_root}
use Rattle.cables.specs.CableNodes.{upright_names, line_names, row, grid}
use Rattle.piece_laws.specs.TurnedNodes.{without_group}
use Rattle.word_networks.specs.GridNetworks.{row_nodes, grid_nodes}

pub ungrouped-append : (xs ys : List Node) → map without_group (xs ++ ys) ≡ map without_group xs ++ map without_group ys
ungrouped-append xs ys = map-append without_group xs ys

pub at_append_low : (xs ys : List ℕ) (i : ℕ) → i < length xs → slice_index (xs ++ ys) i ≡ slice_index xs i
at_append_low [] ys i l = absurd (omega (arith, l))
at_append_low (x ∷ xs) ys zero l = refl
at_append_low (x ∷ xs) ys (suc i) l = at_append_low xs ys i (omega (arith, l))

pub at_append_high : (xs ys : List ℕ) (i j : ℕ) → i ≡ length xs + j → slice_index (xs ++ ys) i ≡ slice_index ys j
at_append_high [] ys i j e = ap (slice_index ys) (omega (arith, e))
at_append_high (x ∷ xs) ys zero j e = absurd (omega (arith, e))
at_append_high (x ∷ xs) ys (suc i) j e = at_append_high xs ys i j (omega (arith, e))

module _ (p : Parameters) (group : ℕ) (v h : ℕ → ℕ → ℕ) where
  row_is : (i j : ℕ) (bottoms line tops : List ℕ) (west : ℕ) → length line ≡ length bottoms → length tops ≡ length bottoms →
      ((t : ℕ) → t < length bottoms → slice_index bottoms t ≡ v i (j + t)) → ((t : ℕ) → t < length bottoms → slice_index tops t ≡ v (i + 1) (j + t)) →
      west ≡ h i j → ((t : ℕ) → t < length bottoms → slice_index line t ≡ h i (j + 1 + t)) →
      map without_group (row p group bottoms west line tops) ≡ row_nodes p.root (inverse_root p) v h i j (length bottoms)
  row_is i j [] line tops west ll lt hb ht hw hl = refl
  row_is i j (b ∷ bottoms) [] tops west ll lt hb ht hw hl = absurd (omega (arith, ll))
  row_is i j (b ∷ bottoms) (e ∷ line) [] west ll lt hb ht hw hl = absurd (omega (arith, lt))
  row_is i j (b ∷ bottoms) (e ∷ line) (t ∷ tops) west ll lt hb ht hw hl =
      let zero_more : j + 0 ≡ j = omega arith in
      let one_more : j + 1 + 0 ≡ j + 1 = omega arith in
      let sb : b ≡ v i j = hb 0 (omega arith) ∙ ap (v i) zero_more in
      let st : t ≡ v (i + 1) j = ht 0 (omega arith) ∙ ap (v (i + 1)) zero_more in
      let se : e ≡ h i (j + 1) = hl 0 (omega arith) ∙ ap (h i) one_more in
      let ih = row_is i (j + 1) bottoms line tops e (omega (arith, ll)) (omega (arith, lt))
      (λ s l. hb (suc s) (omega (arith, l)) ∙ ap (v i) (let q : j + suc s ≡ j + 1 + s = omega arith in q))
      (λ s l. ht (suc s) (omega (arith, l)) ∙ ap (v (i + 1)) (let q : j + suc s ≡ j + 1 + s = omega arith in q))
      se
      (λ s l. hl (suc s) (omega (arith, l)) ∙ ap (h i) (let q : j + 1 + suc s ≡ j + 1 + 1 + s = omega arith in q)) in
      let rest = map without_group (row p group bottoms e line tops) in
      ap₂ (λ x y. crossing p.root (inverse_root p) x y t west ∷ rest) sb se
      ∙ ap₂ (λ x y. crossing p.root (inverse_root p) (v i j) (h i (j + 1)) x y ∷ rest) st hw
      ∙ ap (λ ns. crossing p.root (inverse_root p) (v i j) (h i (j + 1)) (v (i + 1) j) (h i j) ∷ ns) ih

  module _ (k u o : ℕ) (some : 1 ≤ u) (up : (i j : ℕ) → i + 1 < o → j < u → v (i + 1) j ≡ 2 ^ 25 + 128 * k + 8 * i + j)
      (across : (i j : ℕ) → i < o → j + 1 < u → h i (j + 1) ≡ 2 ^ 25 + 128 * k + 64 + 8 * i + j) where
    split : (t : ℕ) → t < u → (t < u - 1) ⊎ (t ≡ u - 1)
    split t l = plain t u l
      where
        plain : (t u : ℕ) → t < u → (t < u - 1) ⊎ (t ≡ u - 1)
        plain t u l = elim (nat_lt t (u - 1)) as (λ b. nat_lt t (u - 1) ≡ b → (t < u - 1) ⊎ (t ≡ u - 1)) [ true ↦ (λ e. inl (grind (arith, nat_tests, e))) | false ↦ (λ e. inr (grind (arith, nat_tests, e, l))) ] refl

    line_long : (i east : ℕ) → length (line_names k u i ++ east ∷ []) ≡ u
    line_long i east =
        let a = length-append (line_names k u i) (east ∷ []) in
        let long = length-map-range_with_len (λ j. 2 ^ 25 + 128 * k + 64 + 8 * i + j) 0 (u - 1) in
        omega (arith, a, long, some)

    line_at : (i east : ℕ) → i < o → east ≡ h i u → (t : ℕ) → t < u → slice_index (line_names k u i ++ east ∷ []) t ≡ h i (0 + 1 + t)
    line_at i east l e t lt =
        let f : ℕ → ℕ = λ j. 2 ^ 25 + 128 * k + 64 + 8 * i + j in
        let long = length-map-range_with_len f 0 (u - 1) in
        ⊎_elim
        (λ low.
        let z : 0 + t ≡ t = omega arith in
        let s : t + 1 ≡ 0 + 1 + t = omega arith in
        at_append_low (line_names k u i) (east ∷ []) t (omega (arith, low, long))
        ∙ get_or-map-range_with_len f 0 (u - 1) t t 0 low z
        ∙ sym (across i t l (omega (arith, low))) ∙ ap (h i) s)
        (λ same.
        let s : u ≡ 0 + 1 + t = omega (arith, same, some) in
        at_append_high (line_names k u i) (east ∷ []) t 0 (omega (arith, same, long)) ∙ e ∙ ap (h i) s)
        (split t lt)

    whole_row : (i : ℕ) (bottoms tops : List ℕ) (west east : ℕ) → i < o → length bottoms ≡ u → length tops ≡ u → ((t : ℕ) → t < u → slice_index bottoms t ≡ v i t) → ((t : ℕ) → t < u → slice_index tops t ≡ v (i + 1) t) →
        west ≡ h i 0 → east ≡ h i u → map without_group (row p group bottoms west (line_names k u i ++ east ∷ []) tops) ≡ row_nodes p.root (inverse_root p) v h i 0 u
    whole_row i bottoms tops west east l hb ht south north hw he =
        let z : (t : ℕ) → t ≡ 0 + t = λ t. omega arith in
        row_is i 0 bottoms (line_names k u i ++ east ∷ []) tops west (line_long i east ∙ sym hb) (ht ∙ sym hb)
        (λ t b. south t (omega (arith, b, hb)) ∙ ap (v i) (z t)) (λ t b. north t (omega (arith, b, hb)) ∙ ap (v (i + 1)) (z t)) hw
        (λ t b. line_at i east l he t (omega (arith, b, hb)))
        ∙ ap (row_nodes p.root (inverse_root p) v h i 0) hb

    pub cabled_grid : (i : ℕ) (bottoms wests easts north : List ℕ) → i + length easts ≡ o → length bottoms ≡ u → length north ≡ u → length wests ≡ length easts → 1 ≤ length easts →
        ((t : ℕ) → t < u → slice_index bottoms t ≡ v i t) → ((t : ℕ) → t < u → slice_index north t ≡ v o t) →
        ((t : ℕ) → t < length easts → slice_index wests t ≡ h (i + t) 0) → ((t : ℕ) → t < length easts → slice_index easts t ≡ h (i + t) u) →
        map without_group (grid p group k u i bottoms wests easts north) ≡ grid_nodes p.root (inverse_root p) v h i (length easts) u
    cabled_grid i bottoms wests [] north last hb hn hw he south top west east = absurd (omega (arith, he))
    cabled_grid i bottoms [] (e ∷ easts) north last hb hn hw he south top west east = absurd (omega (arith, hw))
    cabled_grid i bottoms (w ∷ []) (e ∷ f ∷ easts) north last hb hn hw he south top west east = absurd (omega (arith, hw))
    cabled_grid i bottoms (w ∷ x ∷ wests) (e ∷ []) north last hb hn hw he south top west east = absurd (omega (arith, hw))
    cabled_grid i bottoms (w ∷ []) (e ∷ []) north last hb hn hw he south top west east =
        let z : i + 0 ≡ i = omega arith in
        let next : o ≡ i + 1 = omega (arith, last) in
        whole_row i bottoms north w e (omega (arith, last)) hb hn south (λ t l. top t l ∙ ap (λ r. v r t) next) (west 0 (omega arith) ∙ ap (λ r. h r 0) z) (east 0 (omega arith) ∙ ap (λ r. h r u) z)
        ∙ sym (append-nil (row_nodes p.root (inverse_root p) v h i 0 u))
    cabled_grid i bottoms (w ∷ x ∷ wests) (e ∷ f ∷ easts) north last hb hn hw he south top west east =
        let z : i + 0 ≡ i = omega arith in
        let step : (t : ℕ) → i + suc t ≡ i + 1 + t = λ t. omega arith in
        let tops = upright_names k u i in
        let high = length-map-range_with_len (λ j. 2 ^ 25 + 128 * k + 8 * i + j) 0 u in
        let above : (t : ℕ) → t < u → slice_index tops t ≡ v (i + 1) t =
        λ t l. (let q : 0 + t ≡ t = omega arith in get_or-map-range_with_len (λ j. 2 ^ 25 + 128 * k + 8 * i + j) 0 u t t 0 l q) ∙ sym (up i t (omega (arith, last)) l) in
        ungrouped-append (row p group bottoms w (line_names k u i ++ e ∷ []) tops) (grid p group k u (i + 1) tops (x ∷ wests) (f ∷ easts) north)
        ∙ ap₂ (λ xs ys. xs ++ ys)
        (whole_row i bottoms tops w e (omega (arith, last)) hb high south above (west 0 (omega arith) ∙ ap (λ r. h r 0) z) (east 0 (omega arith) ∙ ap (λ r. h r u) z))
        (cabled_grid (i + 1) tops (x ∷ wests) (f ∷ easts) north (omega (arith, last)) high hn (omega (arith, hw)) (omega arith) above top
        (λ t l. west (suc t) (omega (arith, l)) ∙ ap (λ r. h r 0) (step t)) (λ t l. east (suc t) (omega (arith, l)) ∙ ap (λ r. h r u) (step t)))
