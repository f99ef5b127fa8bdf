-- Codes: digits to base 32, and what a code tells of its pairing. Each digit is below 32, so the digits are the remainders that
-- are taken off one by one, and pairings of one code have one list of digits.
use Rattle.std.proofs.Common.{◌≡◌, ℕ, zero, suc, ◌+◌, ◌-◌, ◌*◌, ◌/◌, ◌%◌, ◌^◌, ◌≤◌, ◌<◌, List, [], ◌∷◌, take, drop, slice_set, ◌++◌, length, slice_index, refl, sym, ap, ◌∙◌, arith, add-one, length-drop}
use Rattle.arc_pairing.specs.Codes.{code_of, digits_of, weight, OneCodeLaw}
use Rattle.std.proofs.lemmas.List.{take_more_set, length-take-le}
use Rattle.arc_pairing.specs.Pairings.{IsShortPairing}

pub weight_up : (n k : ℕ) → weight n ≤ weight (n + k)
weight_up n zero = let e : n + 0 ≡ n = omega arith in let c = ap weight e in omega (arith, c)
weight_up n (suc k) = let ih = weight_up n k in let e : n + suc k ≡ suc (n + k) = omega arith in let c = ap weight e in omega (arith, ih, c)

digits_below : (xs : List ℕ) → ((i : ℕ) → i < length xs → slice_index xs i < 32) → digits_of xs + 1 ≤ weight (length xs)
digits_below [] h = omega arith
digits_below (x ∷ xs) h = let ih = digits_below xs (λ i l. h (suc i) (omega arith)) in let k : x < 32 = h 0 (omega arith) in omega (arith, ih, k)

pub digits_small : (xs : List ℕ) → ((i : ℕ) → i < length xs → slice_index xs i < 32) → length xs ≤ 24 → digits_of xs < 2 ^ 120
digits_small xs h l =
    let d = digits_below xs h in
    let c = weight_up (length xs) (24 - length xs) in
    let e : length xs + (24 - length xs) ≡ 24 = omega arith in
    let f = ap weight e in
    omega (arith, d, c, f)

get_drop : (xs : List ℕ) (k i : ℕ) → slice_index (drop k xs) i ≡ slice_index xs (k + i)
get_drop xs zero i = ap (slice_index xs) (omega arith)
get_drop [] (suc k) i = refl
get_drop (x ∷ xs) (suc k) i = get_drop xs k i ∙ ap (slice_index (x ∷ xs)) (let e : suc (k + i) ≡ suc k + i = omega arith in e)

pub digits_rest : (xs : List ℕ) (k : ℕ) → ((i : ℕ) → i < length xs → slice_index xs i < 32) → length xs ≤ 24 → digits_of (drop k xs) < 2 ^ 120
digits_rest xs k h l =
    let n = length-drop k xs in
    digits_small (drop k xs) (λ i m. let g = get_drop xs k i in let b = h (k + i) (omega (arith, n, m)) in omega (arith, g, b)) (omega (arith, n))

pub digits_step : (xs : List ℕ) (i : ℕ) → i < length xs → digits_of (drop i xs) ≡ slice_index xs i + 32 * digits_of (drop (i + 1) xs)
digits_step [] i l = absurd (omega arith)
digits_step (x ∷ xs) zero l = refl
digits_step (x ∷ xs) (suc i) l = digits_step xs i (omega arith) ∙ ap (λ k. slice_index xs i + 32 * digits_of (drop k (x ∷ xs))) (let e : suc (i + 1) ≡ suc i + 1 = omega arith in e)

arcs_small : (p : List ℕ) → IsShortPairing p → (i : ℕ) → i < length p → slice_index p i < 32
arcs_small p a i l = let k = a.paired.within i l in let f = a.short in omega (arith, k, f)

pub code_parts : (p : List ℕ) (code : ℕ) → IsShortPairing p → code ≡ code_of p → (code / 1329227995784915872903807060280344576 ≡ length p) × (code % 1329227995784915872903807060280344576 ≡ digits_of p)
code_parts p code a e =
    let d = digits_small p (arcs_small p a) a.short in
    (omega (arith, d, e), omega (arith, d, e))

take_written : (xs ys : List ℕ) (i v : ℕ) → i < length xs → i < length ys → take i xs ≡ take i ys → v ≡ slice_index ys i → take (suc i) (slice_set xs i v) ≡ take (suc i) ys
take_written [] ys i v l m e f = absurd (omega arith)
take_written (x ∷ xs) [] i v l m e f = absurd (omega arith)
take_written (x ∷ xs) (y ∷ ys) zero v l m e f = ap (λ z. z ∷ []) f
take_written (x ∷ xs) (y ∷ ys) (suc i) v l m e f =
    let t : take i xs ≡ take i ys = cc in
    let h : x ≡ y = cc in
    let ih = take_written xs ys i v (omega arith) (omega arith) t f in cc

pub decoded : (p xs : List ℕ) (code rest at : ℕ) → IsShortPairing p → code ≡ code_of p → length xs ≡ 24 → at < code / 1329227995784915872903807060280344576 → rest ≡ digits_of (drop at p) → take at xs ≡ take at p →
    (rest / 32 ≡ digits_of (drop (at + 1) p)) × (take (at + 1) (slice_set xs at (rest % 32)) ≡ take (at + 1) p)
decoded p xs code rest at a e long l r t =
    let parts = code_parts p code a e in
    let within : at < length p = (let k = parts.0 in omega (arith, k, l)) in
    let s = digits_step p at within in
    let small = arcs_small p a at within in
    let few = a.short in
    let v : rest % 32 ≡ slice_index p at = omega (arith, s, small, r) in
    let d : rest / 32 ≡ digits_of (drop (at + 1) p) = omega (arith, s, small, r) in
    (d, rw add-one (take_written xs p at (rest % 32) (omega (arith, long, within, few)) within t v))

-- ---- digits that were taken off a number, and what is left of it
abbrev pub digits_then : List ℕ → ℕ → ℕ
digits_then [] rest = rest
digits_then (digit ∷ digits) rest = digit + 32 * digits_then digits rest

digits_then-append : (xs : List ℕ) (digit rest : ℕ) → digits_then (xs ++ digit ∷ []) rest ≡ digits_then xs (digit + 32 * rest)
digits_then-append [] digit rest = refl
digits_then-append (x ∷ xs) digit rest = ap (λ n. x + 32 * n) (digits_then-append xs digit rest)

digits_then-none : (xs : List ℕ) → digits_then xs 0 ≡ digits_of xs
digits_then-none [] = refl
digits_then-none (x ∷ xs) = ap (λ n. x + 32 * n) (digits_then-none xs)

-- one digit more is taken off
pub digits_then_more : (xs : List ℕ) (at rest : ℕ) → at < length xs → digits_then (take (at + 1) (slice_set xs at (rest % 32))) (rest / 32) ≡ digits_then (take at xs) rest
digits_then_more xs at rest l =
    ap (λ ys. digits_then ys (rest / 32)) (take_more_set xs at (rest % 32) l)
    ∙ digits_then-append (take at xs) (rest % 32) (rest / 32)
    ∙ ap (digits_then (take at xs)) (let e : rest % 32 + 32 * (rest / 32) ≡ rest = omega arith in e)

-- all digits are taken off: the list has the code
pub whole_code : (built xs : List ℕ) (code points rest : ℕ) → built ≡ take points xs → points ≤ length xs → points ≡ code / 1329227995784915872903807060280344576 → rest ≡ 0 →
    digits_then (take points xs) rest ≡ code % 1329227995784915872903807060280344576 → code_of built ≡ code
whole_code built xs code points rest is l p z e =
    let none = digits_then-none (take points xs) in
    let zero_rest = ap (digits_then (take points xs)) z in
    let d = ap digits_of is in
    let long = ap length is ∙ length-take-le points xs l in
    omega (arith, none, zero_rest, d, long, e, p)

-- ---- one pairing for each code
same_digits : (xs ys : List ℕ) → length xs ≡ length ys → ((i : ℕ) → i < length xs → slice_index xs i < 32) → ((i : ℕ) → i < length ys → slice_index ys i < 32) → digits_of xs ≡ digits_of ys → xs ≡ ys
same_digits [] [] e h k d = refl
same_digits [] (y ∷ ys) e h k d = absurd (omega arith)
same_digits (x ∷ xs) [] e h k d = absurd (omega arith)
same_digits (x ∷ xs) (y ∷ ys) e h k d =
    let a : x < 32 = h 0 (omega arith) in
    let b : y < 32 = k 0 (omega arith) in
    let rest : digits_of xs ≡ digits_of ys = omega (arith, a, b, d) in
    let first : x ≡ y = omega (arith, a, b, d) in
    let ih = same_digits xs ys (omega arith) (λ i l. h (suc i) (omega arith)) (λ i l. k (suc i) (omega arith)) rest in
    cc

-- PAIRINGS OF ONE CODE ARE ONE
pub same_code : OneCodeLaw
same_code p q hp hq e =
    let a = code_parts p (code_of p) hp refl in
    let b = code_parts q (code_of p) hq e in
    same_digits p q (sym a.0 ∙ b.0) (arcs_small p hp) (arcs_small q hq) (sym a.1 ∙ b.1)
