-- The ways in which a term pairs four ends: the partner of one of them tells the partners of all, since what is left is one pair.
use Rattle.std.proofs.Common.{◌≡◌, ◌≢◌, ℕ, ◌<◌, ◌⊎◌, ⊎_elim, List, length, slice_index, arith}
use Rattle.state_sums.specs.Networks.{IsPairing}
use Rattle.kept_seams.specs.Kept.{AreFour}

one_of_three : {P : Type 0} → (i x y z : ℕ) → (i ≡ x) ⊎ (i ≡ y) ⊎ (i ≡ z) → (i ≡ x → P) → (i ≡ y → P) → (i ≡ z → P) → P
one_of_three i x y z one f g h = ⊎_elim f (λ rest. ⊎_elim g h rest) one

-- three numbers are not all numbers below 4
not_three : (x y z : ℕ) → ((i : ℕ) → i < 4 → (i ≡ x) ⊎ (i ≡ y) ⊎ (i ≡ z)) → ⊥
not_three x y z all =
    let e0 = all 0 (omega arith) in let e1 = all 1 (omega arith) in let e2 = all 2 (omega arith) in let e3 = all 3 (omega arith) in
    one_of_three 0 x y z e0
    (λ p. one_of_three 1 x y z e1 (λ q. omega (arith, p, q)) (λ q. grind (arith, p, q, e2, e3)) (λ q. grind (arith, p, q, e2, e3)))
    (λ p. one_of_three 1 x y z e1 (λ q. grind (arith, p, q, e2, e3)) (λ q. omega (arith, p, q)) (λ q. grind (arith, p, q, e2, e3)))
    (λ p. one_of_three 1 x y z e1 (λ q. grind (arith, p, q, e2, e3)) (λ q. grind (arith, p, q, e2, e3)) (λ q. omega (arith, p, q)))

-- four numbers that are all below 4 are different
pub apart_four : (a b c d : ℕ) → AreFour a b c d → (a ≢ b) × (a ≢ c) × (a ≢ d) × (b ≢ c) × (b ≢ d) × (c ≢ d)
apart_four a b c d h = (
  λ e. not_three b c d (λ i l. let o = h.each i l in grind (arith, e, o)),
  λ e. not_three b c d (λ i l. let o = h.each i l in grind (arith, e, o)),
  λ e. not_three b c d (λ i l. let o = h.each i l in grind (arith, e, o)),
  λ e. not_three a c d (λ i l. let o = h.each i l in grind (arith, e, o)),
  λ e. not_three a c d (λ i l. let o = h.each i l in grind (arith, e, o)),
  λ e. not_three a b d (λ i l. let o = h.each i l in grind (arith, e, o)),
)

module _ (term : List ℕ) (pt : IsPairing term) (four : length term ≡ 4) (a b c d : ℕ) (h : AreFour a b c d) where
  a_in : a < length term
  a_in = let l = h.a_in in omega (arith, four, l)

  b_in : b < length term
  b_in = let l = h.b_in in omega (arith, four, l)

  c_in : c < length term
  c_in = let l = h.c_in in omega (arith, four, l)

  one_of : (i : ℕ) → i < length term → (slice_index term i ≡ a) ⊎ (slice_index term i ≡ b) ⊎ (slice_index term i ≡ c) ⊎ (slice_index term i ≡ d)
  one_of i l = let w = pt.within i l in h.each (slice_index term i) (omega (arith, four, w))

  pub keeping_way : slice_index term a ≡ c → slice_index term b ≡ d
  keeping_way e =
      let k = apart_four a b c d h in let k0 = k.0 in let k3 = k.3 in
      let o = one_of b b_in in let p = pt.apart b b_in in let q = pt.back a a_in in let r = pt.back b b_in in
      grind (arith, e, k0, k3, o, p, q, r)

  pub joining_way : slice_index term a ≡ b → slice_index term c ≡ d
  joining_way e =
      let k = apart_four a b c d h in let k1 = k.1 in let k3 = k.3 in
      let o = one_of c c_in in let p = pt.apart c c_in in let q = pt.back a a_in in let r = pt.back c c_in in
      grind (arith, e, k1, k3, o, p, q, r)

  -- WHAT NEITHER KEEPS NOR JOINS CROSSES
  pub crossing_way : slice_index term a ≢ c → slice_index term a ≢ b → (slice_index term a ≡ d) × (slice_index term b ≡ c)
  crossing_way m n =
      let k = apart_four a b c d h in let k0 = k.0 in
      let o = one_of a a_in in let p = pt.apart a a_in in let q = pt.back a a_in in
      let e : slice_index term a ≡ d = grind (arith, m, n, o, p) in
      let u = one_of b b_in in let v = pt.apart b b_in in let w = pt.back b b_in in
      (e, grind (arith, e, n, k0, q, u, v, w))
