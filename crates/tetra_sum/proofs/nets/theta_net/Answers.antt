use Rattle.std.proofs.Common.{refl}
use Rattle.graph_parts.specs.Parts.{part_count, part}
use Rattle.planar_check.specs.Places.{other_place}
use Rattle.planar_check.specs.Planar.{face_count, piece_count, edge_count, wanted_faces}
use Rattle.tetra_sum.proofs.nets.theta_net.Goals as goal

pub planar_net-requires-clause-planar : goal.planar_net-requires-clause-planar
unfolding face_count wanted_faces piece_count edge_count other_place part_count part
planar_net-requires-clause-planar c = refl
