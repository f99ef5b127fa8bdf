-- A box of strands: the pairings of the ends of n strands (see strand_algebra) as matings of points, where the strands stand at the
-- places from c on. Point j of a pairing, below n, is the bottom of the strand at c+j; point j from n on is the top of the
-- strand at c+2n-1-j. All other strands stand.
--
--     is_boxed c n u            the point u is one of these strands'
--     place_of c n u            which point of the pairing it is
--     point_at c n j            where point j of the pairing is
--     mate_of c n partner       the pairing as a mating
--     strand_box c n x          a formal sum of pairings as a box
use Rattle.std.specs.Prelude.{◌≡◌, ℕ, ◌+◌, ◌-◌, ◌<◌, ◌≤◌, ◌==◌, ◌&&◌, not, nat_lt, Bool, if◌then◌else◌, List, map, slice_index}
use Rattle.std.specs.List.{range_with_len}
use Rattle.word_networks.specs.Strands.{strand_of, standing}
use Rattle.strand_words.specs.Boxes.{Weighted, bottom}
use Rattle.strand_words.specs.Words.{top}
use Rattle.state_sums.specs.Networks.{Node, Term}

abbrev pub is_boxed : ℕ → ℕ → ℕ → Bool
is_boxed c n u = not (nat_lt (strand_of u) c) && nat_lt (strand_of u) (c + n)

abbrev pub place_of : ℕ → ℕ → ℕ → ℕ
place_of c n u = if u == bottom (strand_of u) then strand_of u - c else n + n - 1 - (strand_of u - c)

abbrev pub point_at : ℕ → ℕ → ℕ → ℕ
point_at c n j = if nat_lt j n then bottom (c + j) else top (c + (n + n - 1 - j))

-- The pairing as a mating.
abbrev pub mate_of : ℕ → ℕ → List ℕ → ℕ → ℕ
mate_of c n partner u = if is_boxed c n u then point_at c n (slice_index partner (place_of c n u)) else standing u

-- The formal sum as a box.
abbrev pub strand_box : ℕ → ℕ → List Term → List Weighted
strand_box c n x = map (λ term. record { weight = term.weight; mate = mate_of c n term.partner }) x

-- A node whose ends are the points of n strands from place c on, by these names, and whose terms are those of a formal sum.
pub record IsBoxNode (c n : ℕ) (name : ℕ → ℕ) (x : List Term) (node : Node) : Type 0 where
  pub ends : node.ends ≡ map (λ j. name (point_at c n j)) (range_with_len 0 (n + n))
  pub terms : node.terms ≡ x

-- Of c strands that stand and n strands of a box behind them: the names of the box's points are theirs alone, and the two points of a
-- standing strand have one name, which is theirs alone.
pub record AreNamedBeside (c n : ℕ) (name : ℕ → ℕ) : Type 0 where
  pub alone : (u v : ℕ) → strand_of u < c + n → c ≤ strand_of v → strand_of v < c + n → name u ≡ name v → u ≡ v
  pub stand : (u v : ℕ) → strand_of u < c → strand_of v < c → (name u == name v) ≡ (strand_of u == strand_of v)
