use Rattle.tetra_reader.specs.Tetras.{tetrahedra_of}
use Rattle.tetra_sum.specs.Nets.{tetrahedron_net}
use Rattle.tetra_sum.specs.Refusals.{tetrahedron_refusal_at}
use Rattle.tetra_sum.specs.Sums.{text_labels, tet_at}
use Rattle.tetra_sum.proofs.FactorSteps.{IsAlong}
use Rattle.tetra_sum.proofs.products.tets.Given as goal

-- the product of the first factors, and no refusal so far
abbrev pub invariant-loop-tetrahedron : goal.invariant-loop-tetrahedron
invariant-loop-tetrahedron l =
    IsAlong l.table tetrahedron_net (tet_at l.table.params (text_labels l.tetra) l.colouring.colours.now) (tetrahedron_refusal_at l.table.params (text_labels l.tetra) l.colouring.number l.colouring.colours.now)
    (tetrahedra_of l.tetra) l.fn.notes l.notes l.store l.tetrahedron-index l.product
