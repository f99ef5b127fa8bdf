-- A fact on each element of a list, by recursion, through maps and lists of pieces.
use Rattle.std.proofs.Common.{ℕ, zero, suc, ◌+◌, ◌<◌, ◌≤◌, List, [], ◌∷◌, ◌++◌, map, arith}
use Rattle.std.specs.List.{flat_map, range_with_len, AllByRecursion}

pub Each-weaker : {X : Type 0} (P Q : X → Type 0) → ((x : X) → P x → Q x) → (xs : List X) → AllByRecursion P xs → AllByRecursion Q xs
Each-weaker P Q h [] p = tt
Each-weaker P Q h (x ∷ xs) p = (h x p.0, Each-weaker P Q h xs p.1)

pub Each-append : {X : Type 0} (P : X → Type 0) (xs ys : List X) → AllByRecursion P xs → AllByRecursion P ys → AllByRecursion P (xs ++ ys)
Each-append P [] ys p q = q
Each-append P (x ∷ xs) ys p q = (p.0, Each-append P xs ys p.1 q)

pub Each-map : {X Y : Type 0} (P : Y → Type 0) (f : X → Y) (xs : List X) → AllByRecursion (λ x. P (f x)) xs → AllByRecursion P (map f xs)
Each-map P f [] p = tt
Each-map P f (x ∷ xs) p = (p.0, Each-map P f xs p.1)

pub Each-flat_map : {X Y : Type 0} (P : Y → Type 0) (f : X → List Y) (xs : List X) → AllByRecursion (λ x. AllByRecursion P (f x)) xs → AllByRecursion P (flat_map f xs)
Each-flat_map P f [] p = tt
Each-flat_map P f (x ∷ xs) p = Each-append P (f x) (flat_map f xs) p.0 (Each-flat_map P f xs p.1)

pub Each-both : {X : Type 0} (P Q : X → Type 0) (xs : List X) → AllByRecursion P xs → AllByRecursion Q xs → AllByRecursion (λ x. P x × Q x) xs
Each-both P Q [] p q = tt
Each-both P Q (x ∷ xs) p q = ((p.0, q.0), Each-both P Q xs p.1 q.1)

pub Each-range : (P : ℕ → Type 0) (a k : ℕ) → ((i : ℕ) → a ≤ i → i < a + k → P i) → AllByRecursion P (range_with_len a k)
Each-range P a zero h = tt
Each-range P a (suc k) h = (h a (omega arith) (omega arith), Each-range P (a + 1) k (λ i p q. h i (omega arith) (omega arith)))

pub Each-from_map : {X Y : Type 0} (P : Y → Type 0) (f : X → Y) (xs : List X) → AllByRecursion P (map f xs) → AllByRecursion (λ x. P (f x)) xs
Each-from_map P f [] p = tt
Each-from_map P f (x ∷ xs) p = (p.0, Each-from_map P f xs p.1)

pub every : {X : Type 0} (P : X → Type 0) → ((x : X) → P x) → (xs : List X) → AllByRecursion P xs
every P h [] = tt
every P h (x ∷ xs) = (h x, every P h xs)
