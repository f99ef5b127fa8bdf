-- The check of a certificate: every entry of P Q and of P-transposed times L P is computed with reduced fractions, and
-- compared with the identity and with the diagonal. (This project's own.)
--
--     summed n f                f 0 + .. + f n, which begins with its first term and reduces each sum
--     sum_fits n f              the numbers that these sums form fit
--     product_entry n a b i j   an entry of the product of two matrices of n rows
--     product_fits n a b i j    the numbers that its products and sums form fit
--     image_entry, congruence_entry    entries of L P, and of P-transposed times L P
--     diagonal_matrix d         the diagonal as a matrix
--     check_fits n l p q        each number that the check forms fits
use Rattle.std.specs.Prelude.{ℕ, zero, suc, pred, Bool, true, ◌&&◌, ◌==◌, if◌then◌else◌, ℤ, pos}
use Rattle.inertia_laws.specs.Fractions.{Fraction, whole, plus, times}
use Rattle.inertia_laws.specs.Range.{every, every_place, add_fits, multiply_fits}

-- f 0 + .. + f n
abbrev pub summed : ℕ → (ℕ → Fraction) → Fraction
summed zero f = f 0
summed (suc n) f = plus (summed n f) (f (suc n))

abbrev pub sum_fits : ℕ → (ℕ → Fraction) → Bool
sum_fits zero f = true
sum_fits (suc n) f = sum_fits n f && add_fits (summed n f) (f (suc n))

-- an entry of the product of two matrices of n rows
abbrev pub product_entry : ℕ → (ℕ → ℕ → Fraction) → (ℕ → ℕ → Fraction) → ℕ → ℕ → Fraction
product_entry n a b i j = summed (pred n) (λ k. times (a i k) (b k j))

abbrev pub product_fits : ℕ → (ℕ → ℕ → Fraction) → (ℕ → ℕ → Fraction) → ℕ → ℕ → Bool
product_fits n a b i j = every n (λ k. multiply_fits (a i k) (b k j)) && sum_fits (pred n) (λ k. times (a i k) (b k j))

-- an entry of L P
abbrev pub image_entry : ℕ → (ℕ → ℕ → ℤ) → (ℕ → ℕ → Fraction) → ℕ → ℕ → Fraction
image_entry n l p = product_entry n (λ i j. whole (l i j)) p

abbrev pub image_fits : ℕ → (ℕ → ℕ → ℤ) → (ℕ → ℕ → Fraction) → ℕ → ℕ → Bool
image_fits n l p = product_fits n (λ i j. whole (l i j)) p

-- an entry of P-transposed times L P
abbrev pub congruence_entry : ℕ → (ℕ → ℕ → ℤ) → (ℕ → ℕ → Fraction) → ℕ → ℕ → Fraction
congruence_entry n l p = product_entry n (λ i k. p k i) (image_entry n l p)

abbrev pub congruence_fits : ℕ → (ℕ → ℕ → ℤ) → (ℕ → ℕ → Fraction) → ℕ → ℕ → Bool
congruence_fits n l p = product_fits n (λ i k. p k i) (image_entry n l p)

-- every number that the entries of P Q, of L P and of P-transposed times L P form fits
abbrev pub check_fits : ℕ → (ℕ → ℕ → ℤ) → (ℕ → ℕ → Fraction) → (ℕ → ℕ → Fraction) → Bool
check_fits n l p q = every_place n (product_fits n p q) && (every_place n (image_fits n l p) && every_place n (congruence_fits n l p))

-- the diagonal as a matrix
abbrev pub diagonal_matrix : (ℕ → Fraction) → ℕ → ℕ → Fraction
diagonal_matrix d i j = if i == j then d i else whole (pos 0)
