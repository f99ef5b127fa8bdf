-- A forest over the names 0 to n-1: each name has a parent, which is a smaller name, or itself at a root. It stands for
-- labels: a name and its parent have one label, and a root is its own.
--
--     IsDescending parents        no name's parent is above the name
--     StandsFor label parents     the labels are those that the forest stands for
use Rattle.std.specs.Prelude.{◌≡◌, ℕ, ◌<◌, ◌≤◌, List, length, slice_index}

-- No name's parent is above the name.
abbrev pub IsDescending : List ℕ → Type 0
IsDescending parents = (x : ℕ) → x < length parents → slice_index parents x ≤ x

-- A name and its parent have one label, and a root is its own label.
pub record StandsFor (label : ℕ → ℕ) (parents : List ℕ) : Type 0 where
  pub same : (x : ℕ) → x < length parents → label (slice_index parents x) ≡ label x
  pub root : (x : ℕ) → x < length parents → slice_index parents x ≡ x → label x ≡ x
