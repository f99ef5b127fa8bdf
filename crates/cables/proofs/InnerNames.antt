-- Within grids each name stands in one list: its number tells the item, whether it is upright, and the row.
use Rattle.std.proofs.Common.{◌≡◌, ℕ, zero, suc, ◌+◌, ◌*◌, ◌-◌, ◌^◌, ◌<◌, ◌≤◌, List, [], ◌∷◌, length, refl, arith, ⊎_elim, ◌⊎◌, inl, inr}
use Rattle.list_lemmas.specs.Times.{times_in}
use Rattle.pd_reader.specs.declared.item.NetItem.{NetItem}
use Rattle.pd_reader.specs.declared.item.NetItem.TheVariants.{X, Y, Loop}
use Rattle.cables.specs.Strands.{Strands}
use Rattle.cables.specs.CableNodes.{upright_names, line_names}
use Rattle.cables.proofs.NameCounts.{found_in_map, times-map}
use Rattle.cables.proofs.GridNames.{inner_times, crossing_inner}
use Rattle.cables.proofs.CableNames.{inner_total}

some_or_none : (n : ℕ) → (n ≡ 0) ⊎ (1 ≤ n)
some_or_none zero = inl refl
some_or_none (suc n) = inr (omega arith)

-- at most one of two, where they can't both be
one_of : (a b : ℕ) → a ≤ 1 → b ≤ 1 → (1 ≤ a → 1 ≤ b → ⊥) → a + b ≤ 1
one_of a b ha hb apart =
    ⊎_elim (λ e. omega (arith, e, hb)) (λ s. ⊎_elim (λ e. omega (arith, e, ha)) (λ t. absurd (apart s t)) (some_or_none b)) (some_or_none a)

module _ (k u x : ℕ) (few : u ≤ 8) where
  upright : ℕ → ℕ → ℕ
  upright i j = 2 ^ 25 + 128 * k + 8 * i + j

  upright_range : (i : ℕ) → 1 ≤ times_in (upright_names k u i) x → (2 ^ 25 + 128 * k + 8 * i ≤ x) × (x < 2 ^ 25 + 128 * k + 8 * i + 8)
  upright_range i h =
      let r = found_in_map (λ j. 2 ^ 25 + 128 * k + 8 * i + j) (λ a b e. omega (arith, e)) x 0 u h in
      let low = r.1.1 in let same = r.1.2 in
      (omega (arith, same), omega (arith, same, low, few))

  line_range : (i : ℕ) → 1 ≤ times_in (line_names k u i) x → (2 ^ 25 + 128 * k + 64 + 8 * i ≤ x) × (x < 2 ^ 25 + 128 * k + 64 + 8 * i + 8)
  line_range i h =
      let r = found_in_map (λ j. 2 ^ 25 + 128 * k + 64 + 8 * i + j) (λ a b e. omega (arith, e)) x 0 (u - 1) h in
      let low = r.1.1 in let same = r.1.2 in
      (omega (arith, same), omega (arith, same, low, few))

  upright_once : (i : ℕ) → times_in (upright_names k u i) x ≤ 1
  upright_once i = times-map (λ j. 2 ^ 25 + 128 * k + 8 * i + j) (λ a b e. omega (arith, e)) x 0 u

  line_once : (i : ℕ) → times_in (line_names k u i) x ≤ 1
  line_once i = times-map (λ j. 2 ^ 25 + 128 * k + 64 + 8 * i + j) (λ a b e. omega (arith, e)) x 0 (u - 1)

  abbrev uprights : ℕ → ℕ → ℕ
  uprights i zero = 0
  uprights i (suc zero) = 0
  uprights i (suc (suc n)) = times_in (upright_names k u i) x + uprights (i + 1) (suc n)

  abbrev lines : ℕ → ℕ → ℕ
  lines i zero = 0
  lines i (suc n) = times_in (line_names k u i) x + lines (i + 1) n

  split : (n i : ℕ) → inner_times k u i n x ≡ uprights i n + lines i n
  split zero i = refl
  split (suc zero) i = omega arith
  split (suc (suc n)) i = let ih = split (suc n) (i + 1) in omega (arith, ih)

  uprights_range : (n i : ℕ) → i + n ≤ 8 → 1 ≤ uprights i n → (2 ^ 25 + 128 * k + 8 * i ≤ x) × (x < 2 ^ 25 + 128 * k + 64)
  uprights_range zero i b h = absurd (omega (arith, h))
  uprights_range (suc zero) i b h = absurd (omega (arith, h))
  uprights_range (suc (suc n)) i b h =
      ⊎_elim
      (λ e. let r = uprights_range (suc n) (i + 1) (omega (arith, b)) (omega (arith, h, e)) in let r0 = r.0 in (omega (arith, r0), r.1))
      (λ s. let r = upright_range i s in let r1 = r.1 in (r.0, omega (arith, r1, b)))
      (some_or_none (times_in (upright_names k u i) x))

  uprights_once : (n i : ℕ) → i + n ≤ 8 → uprights i n ≤ 1
  uprights_once zero i b = omega arith
  uprights_once (suc zero) i b = omega arith
  uprights_once (suc (suc n)) i b =
      one_of (times_in (upright_names k u i) x) (uprights (i + 1) (suc n)) (upright_once i) (uprights_once (suc n) (i + 1) (omega (arith, b)))
      (λ s t. let r = (upright_range i s).1 in let q = (uprights_range (suc n) (i + 1) (omega (arith, b)) t).0 in omega (arith, r, q))

  lines_range : (n i : ℕ) → i + n ≤ 8 → 1 ≤ lines i n → (2 ^ 25 + 128 * k + 64 + 8 * i ≤ x) × (x < 2 ^ 25 + 128 * k + 128)
  lines_range zero i b h = absurd (omega (arith, h))
  lines_range (suc n) i b h =
      ⊎_elim
      (λ e. let r = lines_range n (i + 1) (omega (arith, b)) (omega (arith, h, e)) in let r0 = r.0 in (omega (arith, r0), r.1))
      (λ s. let r = line_range i s in let r1 = r.1 in (r.0, omega (arith, r1, b)))
      (some_or_none (times_in (line_names k u i) x))

  lines_once : (n i : ℕ) → i + n ≤ 8 → lines i n ≤ 1
  lines_once zero i b = omega arith
  lines_once (suc n) i b =
      one_of (times_in (line_names k u i) x) (lines (i + 1) n) (line_once i) (lines_once n (i + 1) (omega (arith, b)))
      (λ s t. let r = (line_range i s).1 in let q = (lines_range n (i + 1) (omega (arith, b)) t).0 in omega (arith, r, q))

  rows_once : (n : ℕ) → n ≤ 8 → inner_times k u 0 n x ≤ 1
  rows_once n b =
      let e = split n 0 in
      let f = one_of (uprights 0 n) (lines 0 n) (uprights_once n 0 (omega (arith, b))) (lines_once n 0 (omega (arith, b)))
      (λ s t. let r = (uprights_range n 0 (omega (arith, b)) s).1 in let q = (lines_range n 0 (omega (arith, b)) t).0 in omega (arith, r, q)) in
      omega (arith, e, f)

  rows_range : (n : ℕ) → n ≤ 8 → 1 ≤ inner_times k u 0 n x → (2 ^ 25 + 128 * k ≤ x) × (x < 2 ^ 25 + 128 * k + 128)
  rows_range n b h =
      let e = split n 0 in
      ⊎_elim
      (λ z. let r = lines_range n 0 (omega (arith, b)) (omega (arith, e, z, h)) in let r0 = r.0 in (omega (arith, r0), r.1))
      (λ s. let r = uprights_range n 0 (omega (arith, b)) s in let r0 = r.0 in let r1 = r.1 in (omega (arith, r0), omega (arith, r1)))
      (some_or_none (uprights 0 n))

inner_once : (k u o x : ℕ) → u ≤ 8 → o ≤ 8 → crossing_inner k u o x ≤ 1
inner_once k zero o x a b = omega arith
inner_once k (suc u) zero x a b = omega arith
inner_once k (suc u) (suc o) x a b = rows_once k (suc u) x a (suc o) b

pub inner_range : (k u o x : ℕ) → u ≤ 8 → o ≤ 8 → 1 ≤ crossing_inner k u o x → (2 ^ 25 + 128 * k ≤ x) × (x < 2 ^ 25 + 128 * k + 128)
inner_range k zero o x a b h = absurd (omega (arith, h))
inner_range k (suc u) zero x a b h = absurd (omega (arith, h))
inner_range k (suc u) (suc o) x a b h = rows_range k (suc u) x a (suc o) b h

-- THE NAMES WITHIN ALL GRIDS
module _ (strands : Strands) (x : ℕ) (few : (label : ℕ) → length (strands.first label) ≤ 8) where
  pub inner_total_range : (items : List NetItem) (index : ℕ) → 1 ≤ inner_total strands x index items → (2 ^ 25 + 128 * index ≤ x) × (x < 2 ^ 25 + 128 * (index + length items))
  inner_total_range [] index h = absurd (omega (arith, h))
  inner_total_range (X (a ∷ b ∷ c ∷ d ∷ []) ∷ items) index h =
      ⊎_elim
      (λ e. let r = inner_total_range items (index + 1) (omega (arith, h, e)) in let r0 = r.0 in let r1 = r.1 in (omega (arith, r0), omega (arith, r1)))
      (λ s. let r = inner_range index (length (strands.first a)) (length (strands.first b)) x (few a) (few b) s in let r1 = r.1 in (r.0, omega (arith, r1)))
      (some_or_none (crossing_inner index (length (strands.first a)) (length (strands.first b)) x))
  inner_total_range (X slots ∷ items) index h = let r = inner_total_range items (index + 1) h in let r0 = r.0 in let r1 = r.1 in (omega (arith, r0), omega (arith, r1))
  inner_total_range (Y edges ∷ items) index h = let r = inner_total_range items (index + 1) h in let r0 = r.0 in let r1 = r.1 in (omega (arith, r0), omega (arith, r1))
  inner_total_range (Loop label ∷ items) index h = let r = inner_total_range items (index + 1) h in let r0 = r.0 in let r1 = r.1 in (omega (arith, r0), omega (arith, r1))

  pub inner_total_once : (items : List NetItem) (index : ℕ) → inner_total strands x index items ≤ 1
  inner_total_once [] index = omega arith
  inner_total_once (X (a ∷ b ∷ c ∷ d ∷ []) ∷ items) index =
      one_of (crossing_inner index (length (strands.first a)) (length (strands.first b)) x) (inner_total strands x (index + 1) items)
      (inner_once index (length (strands.first a)) (length (strands.first b)) x (few a) (few b)) (inner_total_once items (index + 1))
      (λ s t.
      let r = (inner_range index (length (strands.first a)) (length (strands.first b)) x (few a) (few b) s).1 in
      let q = (inner_total_range items (index + 1) t).0 in
      omega (arith, r, q))
  inner_total_once (X slots ∷ items) index = inner_total_once items (index + 1)
  inner_total_once (Y edges ∷ items) index = inner_total_once items (index + 1)
  inner_total_once (Loop label ∷ items) index = inner_total_once items (index + 1)
