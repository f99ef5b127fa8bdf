-- Bytes taken from a source. What is left in a source is a list of bytes, or None where the source
-- doesn't tell; before and after are what is left at two times. A source that doesn't tell stays one
-- that doesn't tell, and of its bytes nothing is said. This project's own.
--
--     Takes before bytes after      these bytes were taken from the front
--     TakesExactly n before after   n bytes were taken
--     TakesAtMost n before after    no more than n bytes were taken
--     IsSuffix after before         what is left now is the end of what was left before
--
-- From 5, 6, 7 the bytes 5, 6 are taken, and 7 is left.
use Rattle.std.specs.Prelude.{◌≡◌, ℕ, ◌≤◌, List, ◌++◌, length, Option, Some, None}

-- the bytes are taken from the front of what is left
abbrev pub Takes : Option (List ℕ) → List ℕ → Option (List ℕ) → Type 0
Takes None bytes after = after ≡ None
Takes (Some before) bytes after = (rest : List ℕ) × (before ≡ bytes ++ rest) × (after ≡ Some rest)

-- n bytes were taken
abbrev pub TakesExactly : ℕ → Option (List ℕ) → Option (List ℕ) → Type 0
TakesExactly n before after = (bytes : List ℕ) × (length bytes ≡ n) × Takes before bytes after

-- no more than n bytes were taken
abbrev pub TakesAtMost : ℕ → Option (List ℕ) → Option (List ℕ) → Type 0
TakesAtMost n before after = (bytes : List ℕ) × (length bytes ≤ n) × Takes before bytes after

-- what is left is the end of what was left before
abbrev pub IsSuffix : Option (List ℕ) → Option (List ℕ) → Type 0
IsSuffix after before = (bytes : List ℕ) × Takes before bytes after
