-- Pairings of at most 24 points on a circle, as lists of partners: point i is paired with `slice_index partner i`.
-- The noncrossing ones are the diagrams of Temperley-Lieb (Lickorish, ch. 13). On n strands, points 0 to n-1 are the
-- bottom from left to right, n to 2n-1 the top from right to left:
--
--     3   2                      3   2
--     '---'                      |   |
--     .---.                      |   |
--     0   1                      0   1
--     1,0,3,2: the hook          3,2,1,0: two strands
--
--     IsPairedAt partner i          the partner of point i is another point, which names it back
--     IsFirstUnpaired partner i     i is the least point that is not paired; for 1,0,3 it is 2
--     IsShortPairing partner        a pairing of at most 24 points
--     mirrored partner              the mirror image: point i becomes point n-1-i of n
--     IsNoncrossing partner         no two pairs cross: none have their points in turn, one of the first, one of the second
use Rattle.std.specs.Prelude.{◌≡◌, ◌≢◌, ℕ, ◌-◌, ◌<◌, ◌≤◌, List, length, map, reverse, slice_index}
use Rattle.state_sums.specs.Networks.{IsPairing}
use Rattle.arc_pairing.specs.declared.limits.TheConstants.{MOST_POINTS}

-- The partner of point i is another point, which names it back.
abbrev pub IsPairedAt : List ℕ → ℕ → Type 0
IsPairedAt partner i =
    (slice_index partner i < length partner) × (slice_index partner i ≢ i) × (slice_index partner (slice_index partner i) ≡ i)

-- i is the least point that is not paired.
pub record IsFirstUnpaired (partner : List ℕ) (i : ℕ) : Type 0 where
  pub in_range : i < length partner
  pub unpaired : ¬ IsPairedAt partner i
  pub before : (j : ℕ) → j < i → IsPairedAt partner j

-- A pairing of at most 24 points.
pub record IsShortPairing (partner : List ℕ) : Type 0 where
  pub short : length partner ≤ MOST_POINTS
  pub paired : IsPairing partner

-- Point i becomes point n-1-i of n.
abbrev pub mirrored : List ℕ → List ℕ
mirrored partner = map (λ other. length partner - 1 - other) (reverse partner)

-- No pair has one of its points between those of another pair and one past them.
abbrev pub IsNoncrossing : List ℕ → Type 0
IsNoncrossing partner = (i j : ℕ) → i < j → j < slice_index partner i → slice_index partner i < slice_index partner j → ⊥
