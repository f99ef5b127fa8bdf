-- The laws of words: braids, bundles, boxes and curls.
use Rattle.std.specs.Prelude.{◌≡◌, ◌⊎◌, ℕ, ◌+◌, ◌*◌, ◌%◌, ◌^◌, ◌<◌, Bool, not, List, [], ◌∷◌, ◌++◌}
use Rattle.std.specs.List.{All}
use Rattle.state_sums.specs.LocalSums.{AreSkeinNumbers}
use Rattle.strand_words.specs.Boxes.{close_worth, box_sum, Weighted, AreStanding, IsBox, twist}
use Rattle.strand_words.specs.Grids.{crossed, grid, raised}
use Rattle.strand_words.specs.Matings.{IsMating}
use Rattle.strand_words.specs.Words.{Letter, word_sum, SameWord, inverse}

-- To be the same word is an equivalence, kept on both sides.
pub record SameWordIsCongruence (m delta : ℕ) : Type 0 where
  pub itself : (u : List Letter) → SameWord m delta u u
  pub back : (u v : List Letter) → SameWord m delta u v → SameWord m delta v u
  pub on : (u v w : List Letter) → SameWord m delta u v → SameWord m delta v w → SameWord m delta u w
  pub within : (x u v y : List Letter) → SameWord m delta u v → SameWord m delta (x ++ (u ++ y)) (x ++ (v ++ y))

abbrev pub SameWordLaw : Type 0
SameWordLaw = (m delta : ℕ) → SameWordIsCongruence m delta

-- The same words further right are the same.
abbrev pub RaisedWordsLaw : Type 0
RaisedWordsLaw = (m delta k : ℕ) (u v : List Letter) → SameWord m delta u v → SameWord m delta (raised k u) (raised k v)

-- The second move: a crossing and its inverse.
abbrev pub LetterSecondMoveLaw : Type 0
LetterSecondMoveLaw = (m a b delta i : ℕ) (is_over : Bool) → AreSkeinNumbers m a b delta → SameWord m delta (crossed a b is_over i ∷ crossed a b (not is_over) i ∷ []) []

-- The third move, of three strands of which one lies above both others, or below both: s, t and v say whether the left strand lies above the
-- middle one, the left one above the right one, and the middle one above the right one.
abbrev pub LetterThirdMoveLaw : Type 0
LetterThirdMoveLaw =
    (m a b delta i : ℕ) (s t v : Bool) → AreSkeinNumbers m a b delta → (s ≡ t) ⊎ (t ≡ v) →
    SameWord m delta (crossed a b s i ∷ crossed a b t (i + 1) ∷ crossed a b v i ∷ []) (crossed a b v (i + 1) ∷ crossed a b t i ∷ crossed a b s (i + 1) ∷ [])

-- Letters far apart change places.
abbrev pub FarLettersLaw : Type 0
FarLettersLaw = (m delta : ℕ) (j k : Letter) → j.at + 1 < k.at → SameWord m delta (j ∷ k ∷ []) (k ∷ j ∷ [])

-- A word of crossings and its inverse.
abbrev pub InverseWordLaw : Type 0
InverseWordLaw = (m delta : ℕ) (u : List Letter) → All (λ letter. AreSkeinNumbers m letter.straight letter.hook delta) u → SameWord m delta (u ++ inverse u) []

-- The second move of bundles: o strands cross u strands, and back.
abbrev pub BundleSecondMoveLaw : Type 0
BundleSecondMoveLaw =
    (m a b delta i o u : ℕ) (is_over : Bool) → AreSkeinNumbers m a b delta → SameWord m delta (grid a b is_over i o u ++ grid a b (not is_over) i u o) []

-- The third move of bundles of x, y and z strands, one of which lies above both others, or below both.
abbrev pub BundleThirdMoveLaw : Type 0
BundleThirdMoveLaw =
    (m a b delta i x y z : ℕ) (s t v : Bool) → AreSkeinNumbers m a b delta → (s ≡ t) ⊎ (t ≡ v) →
    SameWord m delta (grid a b s i x y ++ (grid a b t (i + y) x z ++ grid a b v i y z)) (grid a b v (i + x) y z ++ (grid a b t i x z ++ grid a b s (i + z) x y))

-- A grid by columns in place of rows: the bundle on the right in two parts.
abbrev pub GridColumnsLaw : Type 0
GridColumnsLaw = (m a b delta i x z y : ℕ) (is_over : Bool) → AreSkeinNumbers m a b delta → SameWord m delta (grid a b is_over i x (z + y)) (grid a b is_over i x z ++ grid a b is_over (i + z) x y)

-- A crossing of bundles, closed on the left, is a twist of the right bundle times a factor for each closed strand: -x^3 where x is the
-- weight of going straight on.
abbrev pub ClosedGridLaw : Type 0
ClosedGridLaw =
    (m a b delta w i o u : ℕ) (is_over : Bool) (worth : (ℕ → ℕ) → ℕ) (mate : ℕ → ℕ) → AreSkeinNumbers m a b delta →
    (w + (crossed a b is_over i).straight * (crossed a b is_over i).straight * (crossed a b is_over i).straight) % m ≡ 0 % m → IsMating mate → AreStanding i o mate →
    word_sum delta (grid a b is_over i o (u + 1)) (close_worth delta i o worth) mate % m ≡ (w ^ o * word_sum delta (twist a b is_over (i + o) u o) worth mate) % m

-- A full twist beside a box of n+1 strands is x^(n (n+1)) times the box; one turn is x^n.
abbrev pub BoxTwistLaw : Type 0
BoxTwistLaw =
    (m a b delta i count n turns : ℕ) (is_over : Bool) (box : List Weighted) (worth : (ℕ → ℕ) → ℕ) → IsBox m delta i count (n + 1) box →
    box_sum box (word_sum delta (twist a b is_over (i + count) n turns) worth) % m ≡ ((crossed a b is_over i).straight ^ (turns * n) * box_sum box worth) % m

-- The curl of n+1 strands beside a box is w^(n+1) x^(n (n+1)) times the box, where w is -x^3: with x = A it is (-1)^k A^(k^2 + 2k) for k strands.
abbrev pub BoxCurlLaw : Type 0
BoxCurlLaw =
    (m a b delta w i n : ℕ) (is_over : Bool) (box : List Weighted) (worth : (ℕ → ℕ) → ℕ) → AreSkeinNumbers m a b delta →
    (w + (crossed a b is_over i).straight * (crossed a b is_over i).straight * (crossed a b is_over i).straight) % m ≡ 0 % m → IsBox m delta i (n + 1) (n + 1) box →
    box_sum box (word_sum delta (grid a b is_over i (n + 1) (n + 1)) (close_worth delta i (n + 1) worth)) % m
    ≡ (w ^ (n + 1) * (crossed a b is_over i).straight ^ ((n + 1) * n) * box_sum box worth) % m
