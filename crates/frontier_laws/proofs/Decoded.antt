-- Codes are read back: the digits of a pairing's code are its partners.
use Rattle.std.proofs.Common.{◌≡◌, ℕ, zero, suc, ◌+◌, ◌*◌, ◌/◌, ◌%◌, ◌^◌, ◌-◌, ◌<◌, ◌≤◌, List, [], ◌∷◌, map, length, slice_index, refl, sym, ap, ◌∙◌, arith, mul_assoc, mul_left_comm}
use Rattle.std.proofs.Math.Nat.{pow-succ', div-div-eq-div-mul, pow-zero}
use Rattle.std.specs.List.{range_with_len}
use Rattle.std.proofs.Math.Pow.{pow-add}
use Rattle.arc_pairing.specs.Codes.{code_of, digits_of}
use Rattle.arc_pairing.specs.Pairings.{IsShortPairing}
use Rattle.arc_pairing.proofs.CodeDigits.{code_parts, digits_then}
use Rattle.frontier_laws.specs.Tables.{decoded}

-- Digits with a rest above them: the number of the digits, and 32 to their count times the rest.
digits_then-sum : (xs : List ℕ) (rest : ℕ) → digits_then xs rest ≡ digits_of xs + 32 ^ length xs * rest
digits_then-sum [] rest = let e = pow-zero 32 in omega (arith, e)
digits_then-sum (x ∷ xs) rest =
    let ih = digits_then-sum xs rest in
    let p = ap (λ n. n * rest) (pow-succ' 32 (length xs)) ∙ mul_assoc 32 (32 ^ length xs) rest in
    omega (arith, ih, p)

-- Each digit is found by dividing.
digit_at : (xs : List ℕ) (rest i : ℕ) → ((k : ℕ) → k < length xs → slice_index xs k < 32) → i < length xs → digits_then xs rest / 32 ^ i % 32 ≡ slice_index xs i
digit_at [] rest i small l = absurd (omega arith)
digit_at (x ∷ xs) rest zero small l =
    let s : x < 32 = small 0 (omega arith) in
    ap (λ n. digits_then (x ∷ xs) rest / n % 32) (pow-zero 32) ∙ (omega (arith, s))
digit_at (x ∷ xs) rest (suc i) small l =
    let s : x < 32 = small 0 (omega arith) in
    let n = digits_then (x ∷ xs) rest in
    let q : digits_then (x ∷ xs) rest / 32 ≡ digits_then xs rest = omega (arith, s) in
    ap (λ k. n / k % 32) (pow-succ' 32 i)
    ∙ ap (λ k. k % 32) (sym (div-div-eq-div-mul n 32 (32 ^ i)))
    ∙ ap (λ k. k / 32 ^ i % 32) q
    ∙ digit_at xs rest i (λ k m. small (suc k) (omega arith)) (omega arith)

-- A list is the list of its items by places.
map_places : (f : ℕ → ℕ) (xs : List ℕ) (a : ℕ) → ((i : ℕ) → i < length xs → f (a + i) ≡ slice_index xs i) → map f (range_with_len a (length xs)) ≡ xs
map_places f [] a h = refl
map_places f (x ∷ xs) a h =
    let first : f a ≡ x = ap f (let e : a ≡ a + 0 = omega arith in e) ∙ h 0 (omega arith) in
    let ih = map_places f xs (a + 1) (λ i l. ap f (let e : (a + 1) + i ≡ a + suc i = omega arith in e) ∙ h (suc i) (omega arith)) in
    cc

-- The code as digits with a rest above them.
code_then : (p : List ℕ) → length p ≤ 24 → code_of p ≡ digits_then p (length p * 32 ^ (24 - length p))
code_then p l =
    let n = length p in
    let whole : n + (24 - n) ≡ 24 = omega arith in
    let top : 32 ^ length p * 32 ^ (24 - length p) ≡ 1329227995784915872903807060280344576 = sym (pow-add 32 n (24 - n)) ∙ ap (λ k. 32 ^ k) whole in
    let s = digits_then-sum p (n * 32 ^ (24 - n)) in
    let t : 32 ^ length p * (length p * 32 ^ (24 - length p)) ≡ length p * (32 ^ length p * 32 ^ (24 - length p)) = mul_left_comm (32 ^ n) n (32 ^ (24 - n)) in
    let u = ap (λ k. length p * k) top in
    omega (arith, s, t, u)

-- THE CODE OF A PAIRING SPELLS ITS PARTNERS
pub decoded-code_of : (p : List ℕ) → IsShortPairing p → decoded (code_of p) ≡ p
decoded-code_of p h =
    let parts = code_parts p (code_of p) h refl in
    let at = λ (place : ℕ). code_of p / 32 ^ place % 32 in
    ap (λ n. map at (range_with_len 0 n)) parts.0
    ∙ map_places at p 0 (λ i l.
    ap (λ n. n / 32 ^ (0 + i) % 32) (code_then p h.short)
    ∙ ap (λ k. digits_then p (length p * 32 ^ (24 - length p)) / 32 ^ k % 32) (let e : 0 + i ≡ i = omega arith in e)
    ∙ digit_at p (length p * 32 ^ (24 - length p)) i (λ k m. let w = h.paired.within k m in let s = h.short in omega (arith, w, s)) l)
