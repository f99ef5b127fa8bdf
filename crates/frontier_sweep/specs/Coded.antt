-- Codes beside the pairings that they spell.
--
--     AreCoded codes pairings     each code is that of the pairing at its place
use Rattle.std.specs.Prelude.{◌≡◌, ℕ, ◌<◌, ◌≤◌, List, [], length, get_or, slice_index}
use Rattle.arc_pairing.specs.Codes.{code_of}

-- Each code is that of the pairing at its place; pairings behind the last code count for nothing.
pub record AreCoded (codes : List ℕ) (pairings : List (List ℕ)) : Type 0 where
  pub whole : length codes ≤ length pairings
  pub each : (i : ℕ) → i < length codes → code_of (get_or pairings i []) ≡ slice_index codes i
