-- Barrett's reduction: for K the greatest power of 2 up to m, the quotient of p by m is estimated as
-- (p / K) (4 K^2 / m) / (4 K), which is too small by at most 2. (Menezes, van Oorschot and Vanstone, Handbook
-- of Applied Cryptography, 14.3.3.) The three divisions leave e, f and g, and 4 K p is 4 K q m and a rest
-- made of these.
--
--     quotient_below, quotient_above       q m ≤ p < q m + 3 m
--     reduced                              the rest, less a multiple of m, is the residue
use Rattle.std.proofs.Common.{◌≡◌, ◌+◌, ◌-◌, ◌*◌, ◌/◌, ◌%◌, ◌<◌, ◌≤◌, ◌^◌, ℕ, refl, sym, ap, subst, inl, inr, ◌∙◌, arith, mod-lt, mod-eq_of_lt}
use Rattle.std.proofs.Math.Nat.{mul-le-mul, mul-le-mul_left, mul-le-mul_right, le_of_mul-le-mul_left, lt_of_mul-lt-mul_left, lt_of_mul-lt-mul_right, div-add-mod, add-mul-mod_self_right, pow-suc, pow-le-pow_right, mul-lt-mul_of_pos_right}
use Rattle.std.specs.Int.{leading_zeros, w64}
use Rattle.std.proofs.lemmas.Nat.{leading_top, pow-add, one_shl}
use Rattle.std.proofs.lemmas.Bool.{cases_lt}
use Rattle.residue_ring.specs.Reciprocal.{shift_of, reciprocal_of, EstimateBounds}

module _ (m K p top reciprocal q e f g : ℕ) (K_low : K ≤ m) (K_high : m < 2 * K) (p_below : p < m * m) (top_is : p ≡ K * top + e) (e_below : e < K) (reciprocal_is : 4 * (K * K) ≡ m * reciprocal + f) (f_below : f < m) (q_is : top * reciprocal ≡ 4 * K * q + g) (g_below : g < 4 * K) where
  rest_is : 4 * K * p ≡ 4 * K * (q * m) + (m * g + f * top + 4 * K * e)
  rest_is = omega (arith, ap (λ k. 4 * K * k) top_is, ap (λ k. k * top) reciprocal_is, ap (λ k. m * k) q_is)

  top_below : top < 4 * K
  top_below =
      let square : m * m ≤ 2 * K * m = mul-le-mul_right m (omega arith) in
      let double : 2 * K * m ≤ 2 * K * (2 * K) = mul-le-mul_left (2 * K) (omega arith) in
      lt_of_mul-lt-mul_left K (omega (arith, square, double))

  rest_below : m * g + f * top + 4 * K * e < 4 * K * (3 * m)
  rest_below =
      let last : m * (g + 1) ≤ m * (4 * K) = mul-le-mul_left m (omega arith) in
      let middle : f * top ≤ m * (4 * K) = mul-le-mul (omega arith) (omega (arith, top_below)) in
      let first : 4 * K * (e + 1) ≤ 4 * K * m = mul-le-mul_left (4 * K) (omega arith) in
      omega (arith, last, middle, first)

  pub quotient_below : q * m ≤ p
  quotient_below = le_of_mul-le-mul_left {k = 4 * K} (omega (arith, rest_is)) (omega arith)

  pub quotient_above : p < q * m + 3 * m
  quotient_above = lt_of_mul-lt-mul_left (4 * K) (omega (arith, rest_is, rest_below))

pub reduced : (m q j p out : ℕ) → p ≡ q * m + (j * m + out) → out < m → out ≡ p % m
reduced m q j p out whole below =
    let parts : p ≡ out + (q + j) * m = omega arith in
    sym (ap (λ k. k % m) parts ∙ add-mul-mod_self_right out (q + j) m ∙ mod-eq_of_lt below)

-- ---- a rest below 3 m, less m at most twice
pub reduced_once : (m q p rest less : ℕ) → p ≡ q * m + rest → less ≡ rest → less < m → less ≡ p % m
reduced_once m q p rest less whole is below = reduced m q 0 p less (omega arith) below

pub reduced_again : (m q p rest less : ℕ) → p ≡ q * m + rest → m ≤ rest → less ≡ rest - m → less < m → less ≡ p % m
reduced_again m q p rest less whole past is below = reduced m q 1 p less (omega arith) below

pub reduced_twice : (m q p rest less : ℕ) → p ≡ q * m + rest → m ≤ rest → less ≡ rest - m → m ≤ less → rest < 3 * m → less - m ≡ p % m
reduced_twice m q p rest less whole past is again small = reduced m q 2 p (less - m) (omega arith) (omega arith)

-- ---- what a ring keeps
pub record ShiftBounds (m shift : ℕ) : Type 0 where
  pub low : 2 ^ shift ≤ m
  pub high : m < 2 * 2 ^ shift
  pub small : shift ≤ 61

pub shift_bounds : (m : ℕ) → 2 ≤ m → m < 2 ^ 62 → ShiftBounds m (shift_of m)
unfolding shift_of
shift_bounds m positive below =
    let top = leading_top 64 m (omega arith) (omega arith) in
    let same : 63 - leading_zeros w64 m ≡ top.0 = omega (arith, top.1) in
    let double : m < 2 * 2 ^ top.0 = omega (arith, top.3, pow-suc 2 top.0) in
    let small : top.0 ≤ 61 =
    elim (cases_lt 61 top.0) [
      | inl above ↦ (let large : 2 ^ 62 ≤ 2 ^ top.0 = pow-le-pow_right (omega arith) above in omega (arith, large, top.2))
      | inr within ↦ within
    ] in
    record {
      low = rw same top.2;
      high = rw same double;
      small = rw same small;
    }

pub four_powers : (shift : ℕ) → 2 ^ (shift + 2) ≡ 4 * 2 ^ shift
four_powers shift = omega (arith, pow-add 2 shift 2)

pub four_squares : (shift : ℕ) → 2 ^ (2 * shift + 2) ≡ 4 * (2 ^ shift * 2 ^ shift)
four_squares shift =
    let double : 2 * shift ≡ shift + shift = omega arith in
    omega (arith, pow-add 2 (2 * shift) 2, ap (λ k. 2 ^ k) double, pow-add 2 shift shift)

module _ (m : ℕ) (low : 2 ≤ m) (high : m < 2 ^ 62) where
  bounds_of : (shift reciprocal p : ℕ) → ShiftBounds m shift → reciprocal ≡ 2 ^ (2 * shift + 2) / m → p < m * m → EstimateBounds m shift reciprocal p
  bounds_of shift reciprocal p shifts reciprocal_is p_below =
      let K = 2 ^ shift in
      let top_is : p ≡ K * (p / K) + p % K = sym (div-add-mod p K) in
      let K_positive : 0 < K = omega (arith, shifts.low, shifts.high) in
      let e_below : p % K < K = mod-lt p K_positive in
      let division : m * (2 ^ (2 * shift + 2) / m) + 2 ^ (2 * shift + 2) % m ≡ 2 ^ (2 * shift + 2) = div-add-mod (2 ^ (2 * shift + 2)) m in
      let f = 2 ^ (2 * shift + 2) % m in
      let whole : 4 * (K * K) ≡ m * reciprocal + f = sym (four_squares shift) ∙ sym division ∙ ap (λ k. m * k + f) (sym reciprocal_is) in
      let f_below : f < m = mod-lt (2 ^ (2 * shift + 2)) (omega arith) in
      let n = p / K * reciprocal in
      let quarter : n ≡ 4 * K * (n / 2 ^ (shift + 2)) + n % 2 ^ (shift + 2) = sym (div-add-mod n (2 ^ (shift + 2))) ∙ ap (λ k. k * (n / 2 ^ (shift + 2)) + n % 2 ^ (shift + 2)) (four_powers shift) in
      let g_below : n % 2 ^ (shift + 2) < 4 * K = omega (arith, mod-lt n {m = 2 ^ (shift + 2)} (omega (arith, four_powers shift, K_positive)), four_powers shift) in
      let below = quotient_below m K p (p / K) reciprocal (n / 2 ^ (shift + 2)) (p % K) f (n % 2 ^ (shift + 2)) shifts.low shifts.high p_below top_is e_below whole f_below quarter g_below in
      let above = quotient_above m K p (p / K) reciprocal (n / 2 ^ (shift + 2)) (p % K) f (n % 2 ^ (shift + 2)) shifts.low shifts.high p_below top_is e_below whole f_below quarter g_below in
      let top = top_below m K p (p / K) reciprocal (n / 2 ^ (shift + 2)) (p % K) f (n % 2 ^ (shift + 2)) shifts.low shifts.high p_below top_is e_below whole f_below quarter g_below in
      let power : K ≤ 2 ^ 61 = pow-le-pow_right (omega arith) shifts.small in
      let square : 4 * K * K ≤ 4 * K * m = mul-le-mul_left (4 * K) shifts.low in
      let reciprocal_low : m * reciprocal ≤ m * (4 * K) = omega (arith, square, whole) in
      let reciprocal_below : reciprocal ≤ 4 * K = le_of_mul-le-mul_left reciprocal_low (omega arith) in
      let top_low : p / K ≤ 2 ^ 63 = omega (arith, top, power) in
      let reciprocal_fits : reciprocal ≤ 2 ^ 63 = omega (arith, reciprocal_below, power) in
      let product : p / K * reciprocal ≤ 2 ^ 63 * 2 ^ 63 = mul-le-mul top_low reciprocal_fits in
      let estimate_below : n / 2 ^ (shift + 2) < m = lt_of_mul-lt-mul_right m (omega (arith, below, p_below)) in
      record {
        modulus_small = high;
        shift_small = shifts.small;
        top_small = omega (arith, top, power);
        reciprocal_small = omega (arith, reciprocal_below, power);
        product_small = omega (arith, product);
        estimate_small = omega (arith, estimate_below);
        low = below;
        high = above;
      }

  pub estimate_bounds : (shift reciprocal p : ℕ) → shift ≡ shift_of m → reciprocal ≡ reciprocal_of m → p < m * m → EstimateBounds m shift reciprocal p
  unfolding reciprocal_of
  estimate_bounds shift reciprocal p shift_is reciprocal_is p_below =
      let P : ℕ → Type 0 = ShiftBounds m in
      bounds_of shift reciprocal p (subst P (sym shift_is) (shift_bounds m low high)) (reciprocal_is ∙ ap (λ k. 2 ^ (2 * k + 2) / m) (sym shift_is)) p_below

-- ---- a ring as it is made
pub shift_fits : (m : ℕ) → 2 ≤ m → m < 2 ^ 62 → 2 * (63 - leading_zeros w64 m) + 2 < 128
unfolding shift_of
shift_fits m low high = omega (arith, (shift_bounds m low high).small)

pub reciprocal_made : (m n : ℕ) → 2 ≤ m → m < 2 ^ 62 → n ≡ m → 1 * 2 ^ (2 * (63 - leading_zeros w64 m) + 2) % 2 ^ 128 / n ≡ reciprocal_of m
unfolding shift_of reciprocal_of
reciprocal_made m n low high same =
    let k = 2 * (63 - leading_zeros w64 m) + 2 in
    ap (λ d. 1 * 2 ^ k % 2 ^ 128 / d) same ∙ ap (λ d. d / m) (one_shl k 128 (shift_fits m low high))

pub reciprocal_fits : (m : ℕ) → 2 ≤ m → m < 2 ^ 62 → reciprocal_of m < 2 ^ 64
reciprocal_fits m low high =
    let square : 0 < m * m = omega (arith, mul-le-mul_left m low) in
    omega (arith, (estimate_bounds m low high (shift_of m) (reciprocal_of m) 0 refl refl square).reciprocal_small)

pub product_below : (m x y : ℕ) → x < m → y < m → x * y < m * m
product_below m x y x_below y_below =
    let wide : x * y ≤ x * m = mul-le-mul_left x (omega arith) in
    let strict : x * m < m * m = mul-lt-mul_of_pos_right x_below (omega arith) in
    omega (arith, wide, strict)
