-- There are no more tetrahedra than items.
use Rattle.std.proofs.Common.{◌≤◌, List, [], ◌∷◌, length, arith}
use Rattle.tetra_reader.specs.declared.item.TetraItem.{TetraItem}
use Rattle.tetra_reader.specs.declared.item.TetraItem.TheVariants as items
use Rattle.tetra_reader.specs.Tetras.{tetrahedra_of}

pub few_tetrahedra : (vs : List TetraItem) → length (tetrahedra_of vs) ≤ length vs
few_tetrahedra [] = omega arith
few_tetrahedra (items.F labels ∷ vs) = let rest = few_tetrahedra vs in omega (arith, rest)
few_tetrahedra (items.T labels ∷ vs) = let rest = few_tetrahedra vs in omega (arith, rest)
