-- Sums of numbers over a list: of equal numbers, over the images, over lists of lists, and with a factor.
use Rattle.std.proofs.Common.{◌≡◌, ℕ, zero, suc, ◌+◌, ◌*◌, ◌<◌, List, [], ◌∷◌, map, sum_by, flat_map, refl, sym, ap, ◌∙◌, arith}
use Rattle.std.specs.List.{range_with_len}
use Rattle.std.proofs.lemmas.List.Sums.{sum_by-cons, sum_by-append}

pub sum_by_same : {X : Type 0} (f g : X → ℕ) (xs : List X) → ((x : X) → f x ≡ g x) → sum_by f xs ≡ sum_by g xs
sum_by_same f g [] h = refl
sum_by_same f g (x ∷ xs) h = sum_by-cons f x xs ∙ (let e = h x in let ih = sum_by_same f g xs h in omega arith) ∙ sym (sum_by-cons g x xs)

pub sum_by-map : {X Y : Type 0} (f : Y → ℕ) (h : X → Y) (xs : List X) → sum_by f (map h xs) ≡ sum_by (λ x. f (h x)) xs
sum_by-map f h [] = refl
sum_by-map f h (x ∷ xs) = sum_by-cons f (h x) (map h xs) ∙ ap (λ n. f (h x) + n) (sum_by-map f h xs) ∙ sym (sum_by-cons (λ x. f (h x)) x xs)

pub sum_by-flat_map : {X Y : Type 0} (f : Y → ℕ) (h : X → List Y) (xs : List X) → sum_by f (flat_map h xs) ≡ sum_by (λ x. sum_by f (h x)) xs
sum_by-flat_map f h [] = refl
sum_by-flat_map f h (x ∷ xs) = sum_by-append f (h x) (flat_map h xs) ∙ ap (λ n. sum_by f (h x) + n) (sum_by-flat_map f h xs) ∙ sym (sum_by-cons (λ x. sum_by f (h x)) x xs)

pub sum_by-times : {X : Type 0} (k : ℕ) (f : X → ℕ) (xs : List X) → sum_by (λ x. k * f x) xs ≡ k * sum_by f xs
sum_by-times k f [] = omega arith
sum_by-times k f (x ∷ xs) =
    let e = sum_by-cons (λ y. k * f y) x xs in let g = ap (λ n. k * n) (sum_by-cons f x xs) in let ih = sum_by-times k f xs in omega arith

-- Equal numbers at the places of a range have equal sums.
pub sum_range : (f g : ℕ → ℕ) (a n : ℕ) → ((k : ℕ) → k < a + n → f k ≡ g k) → sum_by f (range_with_len a n) ≡ sum_by g (range_with_len a n)
sum_range f g a zero h = refl
sum_range f g a (suc n) h =
    let here = h a (omega arith) in
    let rest = sum_range f g (a + 1) n (λ k l. h k (omega (arith, l))) in
    let c = sum_by-cons f a (range_with_len (a + 1) n) in
    let d = sum_by-cons g a (range_with_len (a + 1) n) in
    omega (arith, here, rest, c, d)
