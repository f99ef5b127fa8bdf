-- The elimination, its first step that leaves 128 bits, and the indices, computed at worked matrices.
use Rattle.std.proofs.Common.{◌≡◌, ℕ, zero, suc, ℤ, pos, negsuc, List, [], ◌∷◌, refl, get_or, ◌+◌, ◌^◌, Some, None}
use Rattle.inertia_laws.specs.Range.{first_leaving}
use Rattle.inertia_laws.specs.Fractions.{reduce, gcd}
use Rattle.inertia_laws.specs.Matrices.{transpose, product}
use Rattle.inertia_laws.specs.Elimination.{eliminated}
use Rattle.inertia_laws.specs.Indices.{positive_index, negative_index, nullity}

abbrev hyperbolic : ℕ → ℕ → ℤ
hyperbolic zero (suc zero) = pos 1
hyperbolic (suc zero) zero = pos 1
hyperbolic i j = pos 0

two_by_two : (eliminated 2 hyperbolic).m 0 0 ≡ record { num = pos 2; den = pos 1 }
unfolding reduce gcd
two_by_two = refl

two_by_two_second : (eliminated 2 hyperbolic).m 1 1 ≡ record { num = negsuc 0; den = pos 2 }
unfolding reduce gcd
two_by_two_second = refl

abbrev row_three : List (List ℤ)
row_three = (pos 2 ∷ pos 3 ∷ pos 4 ∷ []) ∷ (pos 3 ∷ negsuc 0 ∷ pos 2 ∷ []) ∷ (pos 4 ∷ pos 2 ∷ pos 6 ∷ []) ∷ []

three_by_three : (eliminated 3 (λ i j. get_or (get_or row_three i []) j (pos 0))).m 2 2 ≡ record { num = pos 10; den = pos 11 }
unfolding reduce gcd
three_by_three = refl

-- the matrix of rows t,1,1; 1,t,0; 1,0,t with t = 2^60 leaves 128 bits at step 2
abbrev large : List (List ℤ)
large = (pos (2 ^ 60) ∷ pos 1 ∷ pos 1 ∷ []) ∷ (pos 1 ∷ pos (2 ^ 60) ∷ pos 0 ∷ []) ∷ (pos 1 ∷ pos 0 ∷ pos (2 ^ 60) ∷ []) ∷ []

large_leaves : first_leaving 3 (λ i j. get_or (get_or large i []) j (pos 0)) ≡ Some 2
unfolding reduce gcd
large_leaves = refl

hyperbolic_stays : first_leaving 2 hyperbolic ≡ None
unfolding reduce gcd
hyperbolic_stays = refl

-- ---- indices
-- how many are positive, negative and zero
abbrev three : ℕ → (ℕ → ℕ → ℤ) → List ℕ
three n l = positive_index n l ∷ negative_index n l ∷ nullity n l ∷ []

abbrev table : List (List ℤ) → ℕ → ℕ → ℤ
table rows i j = get_or (get_or rows i []) j (pos 0)

hyperbolic_indices : three 2 hyperbolic ≡ 1 ∷ 1 ∷ 0 ∷ []
unfolding reduce gcd positive_index negative_index nullity
hyperbolic_indices = refl

-- the hyperbolic matrix, place 1 taken from place 0
slid : three 2 (table ((negsuc 1 ∷ pos 1 ∷ []) ∷ (pos 1 ∷ pos 0 ∷ []) ∷ [])) ≡ 1 ∷ 1 ∷ 0 ∷ []
unfolding reduce gcd positive_index negative_index nullity
slid = refl

-- a chain of three, whose middle comes first, with the framings 0
chain_indices : three 3 (table ((pos 0 ∷ pos 1 ∷ pos 1 ∷ []) ∷ (pos 1 ∷ pos 0 ∷ pos 0 ∷ []) ∷ (pos 1 ∷ pos 0 ∷ pos 0 ∷ []) ∷ [])) ≡ 1 ∷ 1 ∷ 1 ∷ []
unfolding reduce gcd positive_index negative_index nullity
chain_indices = refl

-- the same with the framings 2^60: over fractions of any size there is nothing to leave
large_indices : three 3 (table large) ≡ 3 ∷ 0 ∷ 0 ∷ []
unfolding reduce gcd positive_index negative_index nullity
large_indices = refl

-- place 1 added to place 0
abbrev added : ℕ → ℕ → ℤ
added = table ((pos 1 ∷ pos 0 ∷ pos 0 ∷ []) ∷ (pos 1 ∷ pos 1 ∷ pos 0 ∷ []) ∷ (pos 0 ∷ pos 0 ∷ pos 1 ∷ []) ∷ [])

-- a matrix congruent to it: rows 2t + 2, t + 1, 1; t + 1, t, 0; 1, 0, t
abbrev large_added : List (List ℤ)
large_added = (pos (2 ^ 61 + 2) ∷ pos (2 ^ 60 + 1) ∷ pos 1 ∷ []) ∷ (pos (2 ^ 60 + 1) ∷ pos (2 ^ 60) ∷ pos 0 ∷ []) ∷ (pos 1 ∷ pos 0 ∷ pos (2 ^ 60) ∷ []) ∷ []

congruent_first : product 3 (transpose added) (product 3 (table large) added) 0 0 ≡ table large_added 0 0
congruent_first = refl

congruent_second : product 3 (transpose added) (product 3 (table large) added) 0 1 ≡ table large_added 0 1
congruent_second = refl

congruent_last : product 3 (transpose added) (product 3 (table large) added) 0 2 ≡ table large_added 0 2
congruent_last = refl

large_added_indices : three 3 (table large_added) ≡ 3 ∷ 0 ∷ 0 ∷ []
unfolding reduce gcd positive_index negative_index nullity
large_added_indices = refl
