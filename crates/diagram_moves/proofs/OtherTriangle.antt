-- The third move at corners of which the first is even: it is the move of piece_laws, begun at the third crossing.
use Rattle.std.proofs.Common.{◌≡◌, ℕ, List, [], ◌∷◌, ◌++◌, sym, ◌∙◌, arith, All}
use Rattle.state_sums.specs.LocalSums.{crossing, AreSkeinNumbers}
use Rattle.state_sums.specs.Networks.{Node, IsNode, names_of}
use Rattle.state_sums.specs.StateSums.{value}
use Rattle.piece_laws.specs.Pieces.{ArePaired}
use Rattle.piece_laws.proofs.SkeinEquations.{exchanged_numbers}
use Rattle.piece_laws.proofs.ThirdMove.{begun_later, triangle_anywhere}
use Rattle.piece_laws.proofs.WrittenPieces.{paired_same}

-- THE OTHER TRIANGLE
pub other_triangle_anywhere : (m delta free : ℕ) (rest : List Node) → All IsNode rest → (a b x y z p q r s t u : ℕ) → AreSkeinNumbers m a b delta →
    ArePaired (y ∷ z ∷ t ∷ u ∷ x ∷ y ∷ r ∷ s ∷ z ∷ x ∷ p ∷ q ∷ []) ((y ∷ z ∷ t ∷ u ∷ x ∷ y ∷ r ∷ s ∷ z ∷ x ∷ p ∷ q ∷ []) ++ names_of rest) →
    value m delta record { nodes = crossing a b y z t u ∷ crossing b a x y r s ∷ crossing a b z x p q ∷ rest; free_loops = free }
    ≡ value m delta record { nodes = crossing a b s p y z ∷ crossing b a q t x y ∷ crossing a b u r z x ∷ rest; free_loops = free }
other_triangle_anywhere m delta free rest are a b x y z p q r s t u numbers pairs =
    let listed = y ∷ z ∷ t ∷ u ∷ x ∷ y ∷ r ∷ s ∷ z ∷ x ∷ p ∷ q ∷ [] in
    begun_later m delta free rest are a b b a a b y z t u x y r s z x p q ∙ begun_later m delta free rest are b a a b a b x y r s z x p q y z t u
    ∙ triangle_anywhere m delta free rest are b a y z x r s t u p q (exchanged_numbers numbers)
    (paired_same listed (z ∷ x ∷ p ∷ q ∷ y ∷ z ∷ t ∷ u ∷ x ∷ y ∷ r ∷ s ∷ []) (names_of rest) (λ v. omega arith) pairs)
    ∙ sym (begun_later m delta free rest are a b b a a b s p y z q t x y u r z x ∙ begun_later m delta free rest are b a a b a b q t x y u r z x s p y z)
