-- The names of strands as lists by a function: split, counted from another place, and from the other end.
use Rattle.std.proofs.Common.{◌≡◌, ℕ, zero, suc, ◌+◌, ◌-◌, ◌<◌, List, ◌∷◌, ◌++◌, map, length, reverse, slice_index, refl, ap, ap₂, ◌∙◌, arith}
use Rattle.std.specs.List.{range_with_len, zip}
use Rattle.std.proofs.lemmas.List.{get_or-reverse}
use Rattle.coloured_curls.specs.Boxes.{arcs_between}

-- ---- lists by a function
pub range_split : (f : ℕ → ℕ) (a p q : ℕ) → map f (range_with_len a (p + q)) ≡ map f (range_with_len a p) ++ map f (range_with_len (a + p) q)
range_split f a zero q = ap₂ (λ i k. map f (range_with_len i k)) (let e : a ≡ a + 0 = omega arith in e) (let e : 0 + q ≡ q = omega arith in e)
range_split f a (suc p) q =
    ap (λ k. map f (range_with_len a k)) (let e : suc p + q ≡ suc (p + q) = omega arith in e)
    ∙ ap (λ xs. f a ∷ xs) (range_split f (a + 1) p q ∙ ap (λ k. map f (range_with_len (a + 1) p) ++ map f (range_with_len k q)) (let e : a + 1 + p ≡ a + suc p = omega arith in e))

pub range_further : (f : ℕ → ℕ) (o a q : ℕ) → map f (range_with_len (a + o) q) ≡ map (λ j. f (j + o)) (range_with_len a q)
range_further f o a zero = refl
range_further f o a (suc q) = ap (λ xs. f (a + o) ∷ xs) (ap (λ k. map f (range_with_len k q)) (let e : a + o + 1 ≡ a + 1 + o = omega arith in e) ∙ range_further f o (a + 1) q)

pub reversed_list : (xs : List ℕ) (c i : ℕ) → length xs ≡ suc c → i < suc c → slice_index (reverse xs) i ≡ slice_index xs (c - i)
reversed_list xs c i l h = get_or-reverse xs i 0 (omega (arith, h, l)) ∙ ap (slice_index xs) (let e : length xs - 1 - i ≡ c - i = omega (arith, l) in e)

pub between_lists : (f g : ℕ → ℕ) (i n : ℕ) → arcs_between f g i n ≡ zip (map f (range_with_len i n)) (map g (range_with_len i n))
between_lists f g i zero = refl
between_lists f g i (suc n) = ap (λ es. (let e : ℕ × ℕ = (f i, g i) in e) ∷ es) (between_lists f g (i + 1) n)
