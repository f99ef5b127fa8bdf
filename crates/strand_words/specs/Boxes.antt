-- Boxes and curls. A box is a formal sum of matings, as a node with many terms is: a projector among others, which gives zero
-- with a hook beside it (Lickorish, ch. 13; Kauffman and Lins). A curl is a crossing of bundles whose left bundle's tops are
-- led round to its bottoms.
--
--     bottom i                            the point where the strand at place i begins
--     close_worth delta i count worth mate    what a mating is worth where the strands from place i on, so many, are closed:
--                                         the top of each is joined with its bottom
--     Weighted                            a mating with a weight
--     box_sum box worth                   over the terms of the box, the weights times what the matings are worth
--     AreStanding i count mate            the top of each of these strands is the mate of its bottom
--     IsBox m delta i count n box         each term is a mating in which so many strands from place i on stand, and a hook
--                                         on two of the n strands behind them gives zero modulo m
--     twist a b is_over i count turns     a row of so many letters, so many times: a full twist of n strands is n times n-1
use Rattle.std.specs.Prelude.{◌≡◌, ℕ, zero, suc, ◌+◌, ◌*◌, ◌%◌, ◌<◌, ◌≤◌, Bool, List, [], ◌∷◌, ◌++◌}
use Rattle.std.specs.List.{All}
use Rattle.strand_words.specs.Grids.{row}
use Rattle.strand_words.specs.Matings.{IsMating, hooked, loop_worth}
use Rattle.strand_words.specs.Words.{Letter, top}

-- Where the strand at place i begins.
abbrev pub bottom : ℕ → ℕ
bottom i = i + i + 1

-- The top of each strand is joined with its bottom.
abbrev pub close_worth : ℕ → ℕ → ℕ → ((ℕ → ℕ) → ℕ) → (ℕ → ℕ) → ℕ
close_worth delta i zero worth mate = worth mate
close_worth delta i (suc count) worth mate =
    loop_worth delta (top i) (bottom i) mate * close_worth delta (i + 1) count worth (hooked (top i) (bottom i) mate)

-- A mating with a weight.
pub record Weighted : Type 0 where
  pub weight : ℕ
  pub mate : ℕ → ℕ

-- Over the terms of the box.
abbrev pub box_sum : List Weighted → ((ℕ → ℕ) → ℕ) → ℕ
box_sum [] worth = 0
box_sum (term ∷ box) worth = term.weight * worth term.mate + box_sum box worth

-- The strands go straight from bottom to top.
abbrev pub AreStanding : ℕ → ℕ → (ℕ → ℕ) → Type 0
AreStanding i count mate = (p : ℕ) → i ≤ p → p < i + count → mate (top p) ≡ bottom p

-- A hook beside the box gives zero.
pub record IsBox (m delta i count n : ℕ) (box : List Weighted) : Type 0 where
  pub are_matings : All (λ term. IsMating term.mate × AreStanding i count term.mate) box
  pub kills : (k : ℕ) → i + count ≤ k → k + 1 < i + count + n → (worth : (ℕ → ℕ) → ℕ) →
      box_sum box (λ mate. loop_worth delta (top k) (top (k + 1)) mate * worth (hooked (top k) (top (k + 1)) mate)) % m ≡ 0 % m

-- A row of letters, again and again.
abbrev pub twist : ℕ → ℕ → Bool → ℕ → ℕ → ℕ → List Letter
twist a b is_over i count zero = []
twist a b is_over i count (suc turns) = row a b is_over i count ++ twist a b is_over i count turns
