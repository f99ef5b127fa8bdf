-- Where an item stands, as the code that makes its nodes has it, and the names at its slots.
--
--     standing_at seen index group           where an item with places stands
--     AreAtCrossing strands seen slots ends  the names at the slots of a crossing
--     AreAtVertex strands seen slots ends    the names at the edges of a vertex
use Rattle.std.specs.Prelude.{◌≡◌, ℕ, List, [], ◌∷◌}
use Rattle.cables.specs.Strands.{Strands, names_at}
use Rattle.cables.specs.Cables.{Standing}
use Rattle.cable_grids.specs.declared.crossing.CrossingEnds.{CrossingEnds}
use Rattle.cable_grids.specs.declared.vertex.VertexEnds.{VertexEnds}

-- Where an item with places stands, whatever group a loop would have.
abbrev pub standing_at : List ℕ → ℕ → ℕ → Standing
standing_at seen index group = record { seen = seen; index = index; group = group; loop_group = 0 }

pub record AreAtFour (strands : Strands) (seen : List ℕ) (a b c d : ℕ) (ends : CrossingEnds) : Type 0 where
  pub first : ends.a.items ≡ names_at strands seen a
  pub second : ends.b.items ≡ names_at strands (a ∷ seen) b
  pub third : ends.c.items ≡ names_at strands (b ∷ a ∷ seen) c
  pub fourth : ends.d.items ≡ names_at strands (c ∷ b ∷ a ∷ seen) d

abbrev pub AreAtCrossing : Strands → List ℕ → List ℕ → CrossingEnds → Type 0
AreAtCrossing strands seen (a ∷ b ∷ c ∷ d ∷ []) ends = AreAtFour strands seen a b c d ends
AreAtCrossing strands seen slots ends = ⊥

pub record AreAtThree (strands : Strands) (seen : List ℕ) (x y z : ℕ) (ends : VertexEnds) : Type 0 where
  pub first : ends.x.items ≡ names_at strands seen x
  pub second : ends.y.items ≡ names_at strands (x ∷ seen) y
  pub third : ends.z.items ≡ names_at strands (y ∷ x ∷ seen) z

abbrev pub AreAtVertex : Strands → List ℕ → List ℕ → VertexEnds → Type 0
AreAtVertex strands seen (x ∷ y ∷ z ∷ []) ends = AreAtThree strands seen x y z ends
AreAtVertex strands seen slots ends = ⊥
