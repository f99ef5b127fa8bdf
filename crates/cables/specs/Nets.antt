-- The cable of a net (Kauffman and Lins): a colour for each label, and a box wherever it is at least 2.
--
--     projector_of p n             the terms of the projector on n strands, by inverses that are found by trying each residue
--     HasProjector p n             it is the projector: so where each of Delta_1 to Delta_(n-1) has an inverse
--     net_strands p colour         the strands of a net
--     cabled_net p items colour    its cable
--     coloured_net p items colour  the value of that
--     first_unequal colour items   the first edge at which a crossing changes the colour
--     first_inadmissible colour number items     the first vertex that is not admissible, counted from the number on
use Rattle.std.specs.Prelude.{ℕ, ◌+◌, ◌%◌, ◌==◌, ◌&&◌, Bool, nat_le, if◌then◌else◌, List, [], ◌∷◌, Option, Some, None}
use Rattle.state_sums.specs.Networks.{Term, Network}
use Rattle.state_sums.specs.StateSums.{value}
use Rattle.root_quantum.specs.Parameters.{Parameters}
use Rattle.root_quantum.specs.QuantumNumbers.{loop_value}
use Rattle.pd_reader.specs.declared.item.NetItem.{NetItem}
use Rattle.pd_reader.specs.declared.item.NetItem.TheVariants.{X, Y, Loop}
use Rattle.strand_algebra.specs.Projectors.{IsProjector, found_projector}
use Rattle.cables.specs.Strands.{Strands, strands_of}
use Rattle.cables.specs.Cables.{cable}

-- f^n
abbrev pub projector_of : Parameters → ℕ → List Term
projector_of p n = found_projector p.modulus (loop_value p) n

abbrev pub HasProjector : Parameters → ℕ → Type 0
HasProjector p n = IsProjector p.modulus (loop_value p) n (projector_of p n)

abbrev pub net_strands : Parameters → (ℕ → ℕ) → Strands
net_strands p colour = strands_of colour (λ label. nat_le 2 (colour label)) (projector_of p)

abbrev pub cabled_net : Parameters → List NetItem → (ℕ → ℕ) → Network
cabled_net p items colour = cable p (net_strands p colour) items

unfoldable pub coloured_net : Parameters → List NetItem → (ℕ → ℕ) → ℕ
coloured_net p items colour = value p.modulus (loop_value p) (cabled_net p items colour)

-- Three edges of these colours meet admissibly, as a test.
abbrev pub is_admissible : ℕ → ℕ → ℕ → Bool
is_admissible a b c = (a + b + c) % 2 == 0 && (nat_le a (b + c) && (nat_le b (c + a) && nat_le c (a + b)))

-- The first edge at which a crossing changes the colour: c, or d, of the first such crossing.
abbrev pub first_unequal : (ℕ → ℕ) → List NetItem → Option ℕ
first_unequal colour [] = None
first_unequal colour (X (a ∷ b ∷ c ∷ d ∷ []) ∷ items) =
    if colour a == colour c then (if colour b == colour d then first_unequal colour items else Some d) else Some c
first_unequal colour (X slots ∷ items) = first_unequal colour items
first_unequal colour (Y edges ∷ items) = first_unequal colour items
first_unequal colour (Loop label ∷ items) = first_unequal colour items

-- The first vertex that is not admissible, by its number among the vertices; the first vertex has the given number.
abbrev pub first_inadmissible : (ℕ → ℕ) → ℕ → List NetItem → Option ℕ
first_inadmissible colour number [] = None
first_inadmissible colour number (X slots ∷ items) = first_inadmissible colour number items
first_inadmissible colour number (Y (x ∷ y ∷ z ∷ []) ∷ items) =
    if is_admissible (colour x) (colour y) (colour z) then first_inadmissible colour (number + 1) items else Some number
first_inadmissible colour number (Y edges ∷ items) = first_inadmissible colour (number + 1) items
first_inadmissible colour number (Loop label ∷ items) = first_inadmissible colour number items
