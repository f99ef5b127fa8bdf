-- What holds of each element of two lists holds of each of both together.
use Rattle.std.proofs.Common.{List, [], ◌∷◌, ◌++◌}
use Rattle.std.specs.List.{AllByRecursion}

pub All-append : {A : Type 0} (P : A → Type 0) (xs ys : List A) → AllByRecursion P xs → AllByRecursion P ys → AllByRecursion P (xs ++ ys)
All-append P [] ys h k = k
All-append P (x ∷ xs) ys h k = (h.0, All-append P xs ys h.1 k)

pub All-push : {A : Type 0} (P : A → Type 0) (xs : List A) (x : A) → AllByRecursion P xs → P x → AllByRecursion P (xs ++ x ∷ [])
All-push P xs x h p = All-append P xs (x ∷ []) h (p, tt)
