-- Seams: where the points of a pairing, whose names are given, and the ends of a node behind it go. A name is known by its
-- slot, the first place at which it stands in the list of all names; what is left are the names that stand once.
--
--     place_in names x                      the first place of x in the list
--     AreOpenBehind names ends left         no name stands more than twice in both lists, and those that are open are left
--     AreSlots names ends end_slots         the slots of the ends: each tells its name, and no two tell one name
--     IsSeam names ends left end_slots left_slots places      (names and what is left in any order)
--                                           the slots of the ends and of the names that are left, and the place of each of the latter
use Rattle.std.specs.Prelude.{◌≡◌, ◌≢◌, ℕ, ◌+◌, ◌<◌, ◌≤◌, ◌==◌, if◌then◌else◌, true, List, ◌++◌, map, length, slice_index}
use Rattle.std.specs.List.{position_or_len, range_with_len}
use Rattle.std.specs.Set.{is_member}
use Rattle.list_lemmas.specs.Times.{times_in}
use Rattle.arc_gluing.specs.Pairings.{AreOpen}

-- The first place of x in the list.
abbrev pub place_in : List ℕ → ℕ → ℕ
place_in names x = position_or_len (λ y. x == y) names

-- No name stands more than twice in both lists, and those that stand once are left.
pub record AreOpenBehind (names ends left : List ℕ) : Type 0 where
  pub few : (x : ℕ) → times_in names x + times_in ends x ≤ 2
  pub once : (x : ℕ) → times_in left x ≡ (if times_in names x + times_in ends x == 1 then 1 else 0)

-- The slots of the ends, among the places of the names and of the ends.
pub record AreSlots (names ends end_slots : List ℕ) : Type 0 where
  pub whole : length end_slots ≡ length ends
  pub within : (j : ℕ) → j < length ends → slice_index end_slots j < length names + length ends
  pub named : map (slice_index (names ++ ends)) end_slots ≡ ends
  pub apart : (u v : ℕ) → is_member ◌==◌ (range_with_len 0 (length names) ++ end_slots) u ≡ true → is_member ◌==◌ (range_with_len 0 (length names) ++ end_slots) v ≡ true →
      slice_index (names ++ ends) u ≡ slice_index (names ++ ends) v → u ≡ v

-- Where the names and the ends go, and what is left.
pub record IsSeam (names ends left end_slots left_slots places : List ℕ) : Type 0 where
  pub few_names : length names ≤ 24
  pub few_ends : length ends ≤ 24
  pub few_left : length left ≤ 24
  pub apart : (i k : ℕ) → i < k → k < length names → slice_index names i ≢ slice_index names k
  pub few : (x : ℕ) → times_in (names ++ ends) x ≤ 2
  pub left_open : AreOpen (names ++ ends) left
  pub ends_at : end_slots ≡ map (place_in (names ++ ends)) ends
  pub left_at : left_slots ≡ map (place_in (names ++ ends)) left
  pub placed : (k : ℕ) → k < length left → slice_index places (slice_index left_slots k) ≡ k
