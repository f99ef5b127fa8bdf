-- One more row of a grid: the rows so far, with those that are left from the names above them on, are the grid. A row's line and its
-- uprights are as many names as there are columns.
use Rattle.std.proofs.Common.{◌≡◌, ℕ, ◌+◌, ◌-◌, ◌*◌, ◌^◌, ◌<◌, ◌≤◌, List, [], ◌∷◌, ◌++◌, length, get_or, drop, refl, sym, ap, ap₂, ◌∙◌, arith, length-append, append-nil, append_assoc, drop-cons, add-one, ◌⊎◌, ⊎_elim}
use Rattle.state_sums.specs.Networks.{Node}
use Rattle.std.proofs.lemmas.List.{length-drop}
use Rattle.std.proofs.lemmas.List.FromFn.{length-map-range_with_len}
use Rattle.root_quantum.specs.Parameters.{Parameters}
use Rattle.cables.specs.CableNodes.{upright_names, line_names, row, grid}

pub line_length : (k u i east : ℕ) → 1 ≤ u → length (line_names k u i ++ east ∷ []) ≡ u
line_length k u i east h =
    let a = length-append (line_names k u i) (east ∷ []) in
    let b = length-map-range_with_len (λ j. 2 ^ 25 + 128 * k + 64 + 8 * i + j) 0 (u - 1) in omega (arith, a, b, h)

pub upright_length : (k u i : ℕ) → length (upright_names k u i) ≡ u
upright_length k u i = length-map-range_with_len (λ j. 2 ^ 25 + 128 * k + 8 * i + j) 0 u

dropped : (xs : List ℕ) (i : ℕ) → i < length xs → drop i xs ≡ get_or xs i 0 ∷ drop (i + 1) xs
dropped xs i h = rw add-one (drop-cons xs i 0 h)

empty : (xs : List ℕ) (i : ℕ) → length xs ≤ i → drop i xs ≡ []
empty xs i h = none (drop i xs) (let e = length-drop i xs in omega (arith, e, h))
  where
    none : (ys : List ℕ) → length ys ≡ 0 → ys ≡ []
    none [] e = refl
    none (y ∷ ys) e = absurd (omega (arith, e))

module _ (p : Parameters) (group k u : ℕ) (bottoms wests easts north : List ℕ) (i : ℕ) (same : length wests ≡ length easts) where
  -- a row that is not the last
  pub inner_row : i + 1 < length easts →
      grid p group k u i bottoms (drop i wests) (drop i easts) north
      ≡ row p group bottoms (get_or wests i 0) (line_names k u i ++ get_or easts i 0 ∷ []) (upright_names k u i)
      ++ grid p group k u (i + 1) (upright_names k u i) (drop (i + 1) wests) (drop (i + 1) easts) north
  inner_row h =
      let w = dropped wests i (omega (arith, same, h)) in
      let v = dropped wests (i + 1) (omega (arith, same, h)) in
      let e = dropped easts i (omega (arith, h)) in
      ap₂ (λ x y. grid p group k u i bottoms x y north) (w ∙ ap (λ r. get_or wests i 0 ∷ r) v) e
      ∙ ap (λ r. row p group bottoms (get_or wests i 0) (line_names k u i ++ get_or easts i 0 ∷ []) (upright_names k u i) ++ grid p group k u (i + 1) (upright_names k u i) r (drop (i + 1) easts) north) (sym v)

  -- the last row
  pub last_row : i + 1 ≡ length easts → (tops : List ℕ) → tops ≡ north →
      grid p group k u i bottoms (drop i wests) (drop i easts) north
      ≡ row p group bottoms (get_or wests i 0) (line_names k u i ++ get_or easts i 0 ∷ []) tops
      ++ grid p group k u (i + 1) tops (drop (i + 1) wests) (drop (i + 1) easts) north
  last_row h tops t =
      let w = dropped wests i (omega (arith, same, h)) in
      let e = dropped easts i (omega (arith, h)) in
      let none = empty wests (i + 1) (omega (arith, same, h)) in
      ap₂ (λ x y. grid p group k u i bottoms x y north) (w ∙ ap (λ r. get_or wests i 0 ∷ r) none) e
      ∙ sym (append-nil (row p group bottoms (get_or wests i 0) (line_names k u i ++ get_or easts i 0 ∷ []) north))
      ∙ ap₂ (λ x r. row p group bottoms (get_or wests i 0) (line_names k u i ++ get_or easts i 0 ∷ []) x ++ grid p group k u (i + 1) x r (drop (i + 1) easts) north) (sym t) (sym none)

-- A ROW PUSHED BEHIND THE NODES
pub pushed_row : (p : Parameters) (group k u : ℕ) (bottoms wests easts north tops : List ℕ) (new old start : List Node) (i : ℕ) → length wests ≡ length easts → i < length easts →
    ((i + 1 < length easts) × (tops ≡ upright_names k u i)) ⊎ ((length easts ≤ i + 1) × (tops ≡ north)) →
    new ≡ old ++ row p group bottoms (get_or wests i 0) (line_names k u i ++ get_or easts i 0 ∷ []) tops →
    old ++ grid p group k u i bottoms (drop i wests) (drop i easts) north ≡ start →
    new ++ grid p group k u (i + 1) tops (drop (i + 1) wests) (drop (i + 1) easts) north ≡ start
pushed_row p group k u bottoms wests easts north tops new old start i same within which pushed before =
    let one = row p group bottoms (get_or wests i 0) (line_names k u i ++ get_or easts i 0 ∷ []) tops in
    let more = grid p group k u (i + 1) tops (drop (i + 1) wests) (drop (i + 1) easts) north in
    ap (λ ns. ns ++ more) pushed
    ∙ append_assoc old one more
    ∙ ap (λ ns. old ++ ns)
    (sym (⊎_elim
    (λ h.
    inner_row p group k u bottoms wests easts north i same h.0
    ∙ ap (λ t. row p group bottoms (get_or wests i 0) (line_names k u i ++ get_or easts i 0 ∷ []) t ++ grid p group k u (i + 1) t (drop (i + 1) wests) (drop (i + 1) easts) north) (sym h.1))
    (λ h. last_row p group k u bottoms wests easts north i same (let e = h.0 in omega (arith, e, within)) tops h.1)
    which))
    ∙ before

-- the same row, from slices that hold the same names
pub same_row : (p : Parameters) (group : ℕ) (new old : List Node) (bottoms line tops bottoms' line' tops' : List ℕ) (west west' : ℕ) →
    new ≡ old ++ row p group bottoms west line tops → bottoms ≡ bottoms' → west ≡ west' → line ≡ line' → tops ≡ tops' → new ≡ old ++ row p group bottoms' west' line' tops'
same_row p group new old bottoms line tops bottoms' line' tops' west west' pushed b w l t =
    pushed ∙ ap₂ (λ x y. old ++ row p group x y line tops) b w ∙ ap₂ (λ x y. old ++ row p group bottoms' west' x y) l t
