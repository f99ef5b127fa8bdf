-- How often names stand in a list.
--
--     IsLeastMiscount names name count    name stands count times, not twice, and each smaller name of the list twice
use Rattle.std.specs.Prelude.{◌≡◌, ◌≢◌, ℕ, ◌<◌, ◌≤◌, ◌==◌, true, List}
use Rattle.std.specs.Set.{is_member}
use Rattle.list_lemmas.specs.Times.{times_in}

-- Each name of the list stands in it exactly twice.
abbrev pub StandsTwice : List ℕ → ℕ → Type 0
StandsTwice names x = is_member ◌==◌ names x ≡ true → times_in names x ≡ 2

-- The least name that doesn't stand twice, and how often it stands.
pub record IsLeastMiscount (names : List ℕ) (name count : ℕ) : Type 0 where
  pub stands : 1 ≤ count
  pub times : times_in names name ≡ count
  pub not_twice : count ≢ 2
  pub least : (x : ℕ) → x < name → StandsTwice names x
