-- Mates: the working tool by which pairs are joined one by one with no walk, and no definition that a contract rests on.
-- Each name has a mate, at first itself. A pair of names closes a loop where the one is the other's mate; else the mates of
-- both become mates. That mates find the partners by parts, and count the closed parts, is proved in proofs/Glued.antt.
--
--     put f a b                    f with b at a
--     joined_mates mate edge       the mates after one more edge
--     mates_after mate edges       the mates after these edges
--     loops_after mate edges       how many loops these edges close
--     pairs_below names partner i  the pairs whose lower point is below i, each once
--     IsMated times mate label     each name that is still to come, as often as `times` says, knows the other end of its path
--     IsPairedLabels edges names partner    the partner of each name is the other one with its label
--     label_partners edges names   the partners, by labels
use Rattle.std.specs.Prelude.{◌≡◌, ◌≢◌, ℕ, zero, suc, ◌+◌, ◌<◌, ◌≤◌, ◌==◌, ◌&&◌, not, nat_lt, if◌then◌else◌, List, [], ◌∷◌, ◌++◌, map, length, slice_index}
use Rattle.std.specs.List.{fold, position_or_len}
use Rattle.graph_parts.specs.Labels.{label_of}
use Rattle.state_sums.specs.Networks.{IsPairing}

-- f with b at a.
abbrev pub put : (ℕ → ℕ) → ℕ → ℕ → ℕ → ℕ
put f a b x = if x == a then b else f x

-- An edge closes a loop, or the mates of its ends become mates.
abbrev pub joined_mates : (ℕ → ℕ) → ℕ × ℕ → ℕ → ℕ
joined_mates mate edge = if mate edge.0 == edge.1 then mate else put (put mate (mate edge.0) (mate edge.1)) (mate edge.1) (mate edge.0)

-- 1 where the edge closes a loop.
abbrev pub closes : (ℕ → ℕ) → ℕ × ℕ → ℕ
closes mate edge = if mate edge.0 == edge.1 then 1 else 0

abbrev pub mates_after : (ℕ → ℕ) → List (ℕ × ℕ) → ℕ → ℕ
mates_after mate edges = fold joined_mates mate edges

abbrev pub loops_after : (ℕ → ℕ) → List (ℕ × ℕ) → ℕ
loops_after mate [] = 0
loops_after mate (edge ∷ edges) = closes mate edge + loops_after (joined_mates mate edge) edges

-- The pairs whose lower point is below i, each once.
abbrev pub pairs_below : List ℕ → List ℕ → ℕ → List (ℕ × ℕ)
pairs_below names partner zero = []
pairs_below names partner (suc i) =
    pairs_below names partner i
    ++ (if nat_lt i (slice_index partner i) then (slice_index names i, slice_index names (slice_index partner i)) ∷ [] else [])

-- Each name that is still to come knows the other end of its path: itself where it stands twice and was not met yet, another
-- one where it stands once.
pub record IsMated (times mate label : ℕ → ℕ) : Type 0 where
  pub few : (x : ℕ) → times x ≤ 2
  pub stays : (x : ℕ) → 1 ≤ times x → 1 ≤ times (mate x)
  pub back : (x : ℕ) → 1 ≤ times x → mate (mate x) ≡ x
  pub along : (x : ℕ) → 1 ≤ times x → label (mate x) ≡ label x
  pub alone : (x : ℕ) → 2 ≤ times x → mate x ≡ x
  pub met : (x : ℕ) → times x ≡ 1 → mate x ≢ x
  pub only : (x y : ℕ) → 1 ≤ times x → 1 ≤ times y → label x ≡ label y → y ≢ x → y ≡ mate x

-- The partner of each name is the other one with its label.
pub record IsPairedLabels (edges : List (ℕ × ℕ)) (names partner : List ℕ) : Type 0 where
  pub whole : length partner ≡ length names
  pub is_pairing : IsPairing partner
  pub joined : (i : ℕ) → i < length names → label_of edges (slice_index names (slice_index partner i)) ≡ label_of edges (slice_index names i)
  pub only : (i j : ℕ) → i < length names → j < length names → label_of edges (slice_index names i) ≡ label_of edges (slice_index names j) → j ≢ i → j ≡ slice_index partner i

-- For each name the place of the first other one with its label.
abbrev pub label_partners : List (ℕ × ℕ) → List ℕ → List ℕ
label_partners edges names = map (λ x. position_or_len (λ y. (label_of edges y == label_of edges x) && not (y == x)) names) names
