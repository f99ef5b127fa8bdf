-- A digit of a code is changed by adding the new one with its weight and taking away what was there: the code then spells the
-- list with the new entry. The lists need be no pairings. For digits with their weights are summands of the code.
--
-- Others cite: times_small, shifted, room, changed.
use Rattle.std.proofs.Common.{pow-add, ◌≡◌, ℕ, zero, suc, ◌+◌, ◌-◌, ◌*◌, ◌%◌, ◌^◌, ◌≤◌, ◌<◌, List, [], ◌∷◌, length, slice_index, slice_set, refl, sym, ap, ◌∙◌, arith}
use Rattle.std.proofs.Math.ListN.{length-set}
use Rattle.arc_pairing.specs.Codes.{digits_of, weight, Spells}
use Rattle.arc_pairing.proofs.CodeDigits.{digits_small, weight_up}

digits_set : (p : List ℕ) (i v : ℕ) → i < length p → digits_of (slice_set p i v) + slice_index p i * weight i ≡ digits_of p + v * weight i
digits_set [] i v l = absurd (omega arith)
digits_set (x ∷ p) zero v l = omega arith
digits_set (x ∷ p) (suc i) v l =
    let ih = digits_set p i v (omega arith) in
    let a : slice_index p i * (32 * weight i) ≡ 32 * (slice_index p i * weight i) = omega arith in
    let b : v * (32 * weight i) ≡ 32 * (v * weight i) = omega arith in
    omega (arith, ih, a, b)

-- weights
weight_is : (n : ℕ) → weight n ≡ 2 ^ (5 * n)
weight_is zero = refl
weight_is (suc n) =
    let ih = weight_is n in
    let e : 5 * suc n ≡ 5 + 5 * n = omega arith in
    let f : 2 ^ (5 + 5 * n) ≡ 32 * 2 ^ (5 * n) = pow-add 2 5 (5 * n) in
    ap (λ w. 32 * w) ih ∙ sym f ∙ sym (ap (λ k. 2 ^ k) e)

weight_small : (n : ℕ) → n < 24 → weight n ≤ 41538374868278621028243970633760768
weight_small n l = let u = weight_up n (23 - n) in let e : n + (23 - n) ≡ 23 = omega (arith, l) in let c = ap weight e in omega (arith, u, c)

pub times_small : (d n : ℕ) → d < 32 → n < 24 → d * weight n < 1329227995784915872903807060280344576
times_small d n l m = let w = weight_small n m in let k : d * weight n ≤ 31 * weight n = times_le d (weight n) (omega (arith, l)) in omega (arith, w, k)
  where
    times_le : (d w : ℕ) → d ≤ 31 → d * w ≤ 31 * w
    times_le d w l = let e : 31 * w ≡ d * w + (31 - d) * w = (let s : 31 ≡ d + (31 - d) = omega (arith, l) in ap (λ n. n * w) s ∙ dist) in omega (arith, e)
      where
        dist : (d + (31 - d)) * w ≡ d * w + (31 - d) * w
        dist = omega arith

-- ---- codes
code_small : (p : List ℕ) (code : ℕ) → Spells code p → code < 2 ^ 125
code_small p code h = let d = digits_small p h.small h.short in let s = h.short in let e = h.is in omega (arith, d, s, e)

small_after : (p : List ℕ) (i v : ℕ) → v < 32 → ((k : ℕ) → k < length p → slice_index p k < 32) → (k : ℕ) → k < length p → slice_index (slice_set p i v) k < 32
small_after [] i v l h k m = absurd (omega arith)
small_after (x ∷ p) zero v l h zero m = l
small_after (x ∷ p) zero v l h (suc k) m = h (suc k) m
small_after (x ∷ p) (suc i) v l h zero m = h zero m
small_after (x ∷ p) (suc i) v l h (suc k) m = small_after p i v l (λ j n. h (suc j) (omega arith)) k (omega arith)

-- the sum by a shift
pub shifted : (digit at v k : ℕ) → v ≡ digit → k ≡ at → digit < 32 → at < 24 → v * 2 ^ (5 * k) % 340282366920938463463374607431768211456 ≡ digit * weight at
shifted digit at v k ve ke l m =
    let w = weight_is at in
    let s = times_small digit at l m in
    let e : v * 2 ^ (5 * k) ≡ digit * weight at = (let a = ve in let b = ke in cc (a, b, w)) in
    let f : digit * weight at % 340282366920938463463374607431768211456 ≡ digit * weight at = omega (arith, s) in
    ap (λ n. n % 340282366920938463463374607431768211456) e ∙ f

pub room : (p : List ℕ) (code more : ℕ) → Spells code p → more < 1329227995784915872903807060280344576 → code + more < 340282366920938463463374607431768211456
room p code more h l = let c = code_small p code h in omega (arith, c, l)

-- ONE DIGIT IS TAKEN OUT AND ANOTHER PUT IN
pub changed : (p : List ℕ) (code at was is : ℕ) → Spells code p → at < length p → slice_index p at ≡ was → is < 32 → Spells (code + is * weight at - was * weight at) (slice_set p at is)
changed p code at was is h l e k =
    let d = digits_set p at is l in
    let w : slice_index p at * weight at ≡ was * weight at = ap (λ n. n * weight at) e in
    let len = length-set p at is in
    let s = h.short in let c = h.is in
    let n : length (slice_set p at is) * 1329227995784915872903807060280344576 ≡ length p * 1329227995784915872903807060280344576 = ap (λ n. n * 1329227995784915872903807060280344576) len in
    record {
      short = omega (arith, len, s);
      small = λ i m. small_after p at is k h.small i (omega (arith, len, m));
      is = omega (arith, d, w, n, c);
    }
