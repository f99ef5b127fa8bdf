-- The seams along which the code glues pairings on strands: the names of strand_algebra's gluings. No definition that a contract
-- of a public call rests on.
--
--     strand_seam n      q's names, the names of p on it, and what is left: q's bottom, then p's top
--     closing_seam n     the names of a pairing's points, the same names again, and none left
use Rattle.std.specs.Prelude.{ℕ, []}
use Rattle.arc_pairing.specs.Gluing.{Seam}
use Rattle.strand_algebra.specs.GluedProducts.{below_names, above_names, left_names}

-- p on q.
abbrev pub strand_seam : ℕ → Seam
strand_seam n = record { inner = below_names n; ends = above_names n; outer = left_names n }

-- The points of a pairing, each glued to a point of another one.
abbrev pub closing_seam : ℕ → Seam
closing_seam n = record { inner = below_names n; ends = below_names n; outer = [] }
