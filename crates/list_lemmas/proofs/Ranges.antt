-- Ranges of numbers: one number more, what holds of each number, members, and that they increase.
use Rattle.std.proofs.Common.{◌≡◌, ℕ, zero, suc, ◌+◌, ◌<◌, ◌≤◌, ◌==◌, true, [], ◌∷◌, ◌++◌, All, sym, subst, ap, ◌∙◌, arith}
use Rattle.std.specs.List.{range_with_len}
use Rattle.std.specs.List.Sorted.{IsStrictlyIncreasing}
use Rattle.std.specs.Set.{is_member}
use Rattle.std.proofs.lemmas.Bool.Decides.{nat_tests}
use Rattle.std.proofs.lemmas.List.Elements.{All-from_get_or}
use Rattle.std.proofs.lemmas.List.FromFn.{length-range_with_len, get_or-range_with_len}

-- One number more stands at the end.
pub range_more : (a n : ℕ) → range_with_len a (suc n) ≡ range_with_len a n ++ (a + n) ∷ []
range_more a zero = ap (λ k. k ∷ []) (let e : a ≡ a + 0 = omega arith in e)
range_more a (suc n) =
    ap (λ ks. a ∷ ks) (range_more (a + 1) n) ∙ ap (λ k. a ∷ (range_with_len (a + 1) n ++ k ∷ [])) (let e : (a + 1) + n ≡ a + suc n = omega arith in e)

pub range_push : (n : ℕ) → range_with_len 0 (n + 1) ≡ range_with_len 0 n ++ n ∷ []
range_push n =
    (let e : n + 1 ≡ suc n = omega arith in ap (range_with_len 0) e)
    ∙ range_more 0 n
    ∙ ap (λ k. range_with_len 0 n ++ k ∷ []) (let e : 0 + n ≡ n = omega arith in e)

-- What holds of each number from a on holds of the range.
pub All-range : (P : ℕ → Type 0) (a n : ℕ) → ((x : ℕ) → a ≤ x → x < a + n → P x) → All P (range_with_len a n)
All-range P a n h = All-from_get_or P (range_with_len a n) 0 (λ i l.
    let below : i < n = omega (arith, l, length-range_with_len a n) in
    subst P (sym (get_or-range_with_len a n i 0 below)) (h (a + i) (omega arith) (omega (arith, below))))

pub All-below : (P : ℕ → Type 0) (n : ℕ) → ((k : ℕ) → k < n → P k) → All P (range_with_len 0 n)
All-below P n h = All-range P 0 n (λ x low high. h x (omega (arith, high)))

-- A range increases.
pub range_increasing : (a k : ℕ) → IsStrictlyIncreasing (range_with_len a k)
range_increasing a k i l =
    let s = length-range_with_len a k in
    let x = get_or-range_with_len a k i 0 (omega (arith, s, l)) in
    let y = get_or-range_with_len a k (i + 1) 0 (omega (arith, s, l)) in
    omega (arith, x, y)

-- The numbers from a on below a + k are the members.
pub is_member-range : (a k i : ℕ) → a ≤ i → i < a + k → is_member ◌==◌ (range_with_len a k) i ≡ true
is_member-range a zero i p q = absurd (omega arith)
is_member-range a (suc k) i p q = let ih = is_member-range (a + 1) k i in grind (arith, nat_tests, ih)
