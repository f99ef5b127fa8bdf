-- Members of lists of numbers, by the test and by `Contains`.
use Rattle.std.proofs.Common.{◌≡◌, ℕ, true, ◌==◌, List}
use Rattle.std.specs.List.{Contains}
use Rattle.std.specs.Set.{is_member}
use Rattle.std.proofs.lemmas.Bool.Decides.{Decides-eqb}
use Rattle.std.proofs.lemmas.Map.Made.{is_member-Decides}

-- What a list contains is a member by the test.
pub member_of : (xs : List ℕ) (x : ℕ) → Contains xs x → is_member ◌==◌ xs x ≡ true
member_of xs x c = (is_member-Decides Decides-eqb xs x).1 c

-- A member by the test is contained.
pub contains_member : (xs : List ℕ) (x : ℕ) → is_member ◌==◌ xs x ≡ true → Contains xs x
contains_member xs x m = (is_member-Decides Decides-eqb xs x).0 m
