-- Directed link diagrams, as lists of pieces. A piece is a crossing, made of an under strand and an over strand,
-- or a closed curve without crossings. A strand is the passage of a component through a crossing: its two ends
-- have the labels of their edges. The under strand goes from slot a to slot c, the over strand from slot d to slot
-- b; it is walked that way where it is walked ahead, else from its end to its beginning.
--
--      c                             sign +1: both ahead, or both back
--      |                             sign -1: one of them back
--  d -----> b    both ahead
--      |
--      a
--
--     slots under over           the labels a, b, c, d
--     end_of into s              the label at which the walk comes into the crossing, or leaves it
--     sign_of x y                the sign of a crossing whose strands are walked so
--     ordered_sum a b pieces     the sum of the signs of the crossings of component a under component b
--     between_sum a b pieces     the same whichever of both is above; at a and a twice the writhe
--     strands pieces             all strands
--     ends pieces                for each place its label, and whether the walk comes in there
--     entered_at pieces p        the walk comes in at the place p
--     piece_edges pieces         the pairs of labels that strands join
--     end_sum into weight ss     a weight of labels, summed over the ends that are entered, or left
--     crossings_with test pieces    how many crossings have strands of components that pass: has_one j where exactly one
--                                is of component j, has_two j where both are
--     IsDirected strands         along each edge a walk leaves one end and comes to the other: each label is
--                                left as often as it is entered
--     IsClassed class strands    the ends of each strand are of its component
use Rattle.slide_strands.specs.declared.strand.Strand.{Strand}
use Rattle.slide_strands.specs.declared.strand.Piece.{Piece}
use Rattle.slide_strands.specs.declared.strand.Piece.TheVariants.{Crossed, Free}
use Rattle.std.specs.Prelude.{◌≡◌, ℕ, ◌+◌, ◌==◌, ◌&&◌, ◌||◌, Bool, true, false, not, cond, if◌then◌else◌, List, [], ◌∷◌, slice_index_or, ℤ, pos, negsuc, ◌+ℤ◌, ◌*ℤ◌}

-- the labels at the slots
abbrev pub slots : Strand → Strand → List ℕ
slots under over = under.from ∷ over.to ∷ under.to ∷ over.from ∷ []

-- two truth values are the same
abbrev pub alike : Bool → Bool → Bool
alike x y = cond x y (not y)

-- the label at the end at which the walk comes in, or, where `into` is false, at which it leaves
abbrev pub end_of : Bool → Strand → ℕ
end_of into s = if alike into s.ahead then s.from else s.to

-- +1 where both truth values are the same, else -1
abbrev pub sign_of : Bool → Bool → ℤ
sign_of x y = cond x (cond y (pos 1) (negsuc 0)) (cond y (negsuc 0) (pos 1))

-- 1 where both numbers are the same, else 0
abbrev pub delta : ℕ → ℕ → ℤ
delta a b = if a == b then pos 1 else pos 0

-- the sum of the signs of the crossings of component a under component b
abbrev pub ordered_sum : ℕ → ℕ → List Piece → ℤ
ordered_sum a b [] = pos 0
ordered_sum a b (Crossed u o ∷ pieces) = (sign_of u.ahead o.ahead *ℤ (delta u.component a *ℤ delta o.component b)) +ℤ ordered_sum a b pieces
ordered_sum a b (Free label ∷ pieces) = ordered_sum a b pieces

-- the same whichever of both is above
abbrev pub between_sum : ℕ → ℕ → List Piece → ℤ
between_sum a b pieces = ordered_sum a b pieces +ℤ ordered_sum b a pieces

-- all strands
abbrev pub strands : List Piece → List Strand
strands [] = []
strands (Crossed u o ∷ pieces) = u ∷ o ∷ strands pieces
strands (Free label ∷ pieces) = strands pieces

-- the ends at the places, slot by slot: the label, and whether the walk comes in there
abbrev pub ends : List Piece → List (ℕ × Bool)
ends [] = []
ends (Crossed u o ∷ pieces) = (u.from, u.ahead) ∷ (o.to, not o.ahead) ∷ (u.to, not u.ahead) ∷ (o.from, o.ahead) ∷ ends pieces
ends (Free label ∷ pieces) = ends pieces

-- the walk comes in at the place
abbrev pub entered_at : List Piece → ℕ → Bool
entered_at pieces p = (slice_index_or (ends pieces) p (0, false)).1

-- the labels that strands join, as a crossing's slots give them
abbrev pub piece_edges : List Piece → List (ℕ × ℕ)
piece_edges [] = []
piece_edges (Crossed u o ∷ pieces) = (u.from, u.to) ∷ (o.to, o.from) ∷ piece_edges pieces
piece_edges (Free label ∷ pieces) = piece_edges pieces

-- the sum of a weight of strands
abbrev pub strand_sum : (Strand → ℕ) → List Strand → ℕ
strand_sum weight [] = 0
strand_sum weight (s ∷ ss) = weight s + strand_sum weight ss

-- the sum of a weight of labels over the ends that are entered, or left
abbrev pub end_sum : Bool → (ℕ → ℕ) → List Strand → ℕ
end_sum into weight ss = strand_sum (λ s. weight (end_of into s)) ss

-- exactly one of the crossing's strands is of component j, or both are
abbrev pub has_one : ℕ → ℕ → ℕ → Bool
has_one j under over = not ((under == j) && (over == j)) && ((under == j) || (over == j))

abbrev pub has_two : ℕ → ℕ → ℕ → Bool
has_two j under over = (under == j) && (over == j)

-- how many crossings have strands of components that pass
abbrev pub crossings_with : (ℕ → ℕ → Bool) → List Piece → ℕ
crossings_with test [] = 0
crossings_with test (Crossed u o ∷ pieces) = (if test u.component o.component then 1 else 0) + crossings_with test pieces
crossings_with test (Free label ∷ pieces) = crossings_with test pieces

-- 1 for the label, else 0
abbrev pub is_label : ℕ → ℕ → ℕ
is_label label x = if x == label then 1 else 0

-- the labels that are entered are those that are left: whatever labels weigh, both weigh the same
abbrev pub IsDirected : List Strand → Type 0
IsDirected ss = (weight : ℕ → ℕ) → end_sum true weight ss ≡ end_sum false weight ss

-- each label belongs to one component, and both ends of a strand to the strand's
abbrev pub IsClassed : (ℕ → ℕ) → List Strand → Type 0
IsClassed class [] = Unit {0}
IsClassed class (s ∷ ss) = (class s.from ≡ s.component) × (class s.to ≡ s.component) × IsClassed class ss
