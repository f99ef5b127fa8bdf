-- Other names for the same graph.
--
--     replaced a b x                 b in the place of a: b where x is a, else x
--     renamed rename edge            the edge between the new names
--     IsOneToOne rename names        the new names of different names are different
use Rattle.std.specs.Prelude.{◌≡◌, ℕ, ◌==◌, if◌then◌else◌, true, List}
use Rattle.std.specs.Set.{is_member}

-- b in the place of a
abbrev pub replaced : ℕ → ℕ → ℕ → ℕ
replaced a b x = if x == a then b else x

-- The edge between the new names.
abbrev pub renamed : (ℕ → ℕ) → ℕ × ℕ → ℕ × ℕ
renamed rename edge = (rename edge.0, rename edge.1)

-- The new names of different names are different.
abbrev pub IsOneToOne : (ℕ → ℕ) → List ℕ → Type 0
IsOneToOne rename names = (u v : ℕ) → is_member ◌==◌ names u ≡ true → is_member ◌==◌ names v ≡ true → rename u ≡ rename v → u ≡ v
