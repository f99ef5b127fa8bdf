-- Bytes appended to a sink. What a sink has taken is a list of bytes, or None where the sink doesn't
-- tell; before and after are what it has taken at two times. A sink that doesn't tell stays one that
-- doesn't tell, and of its bytes nothing is said. This project's own.
--
--     Appends before bytes after    these bytes were put behind what was there
--
-- Behind 5, 6 the bytes 7, 8 are appended: 5, 6, 7, 8.
use Rattle.std.specs.Prelude.{◌≡◌, ℕ, List, ◌++◌, Option, Some, None}

-- the bytes stand behind what was there
abbrev pub Appends : Option (List ℕ) → List ℕ → Option (List ℕ) → Type 0
Appends None bytes after = after ≡ None
Appends (Some before) bytes after = after ≡ Some (before ++ bytes)
