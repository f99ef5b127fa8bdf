use Rattle.tetra_reader.specs.Tetras.{faces_of}
use Rattle.tetra_sum.specs.Nets.{theta_net}
use Rattle.tetra_sum.specs.Refusals.{face_refusal_at}
use Rattle.tetra_sum.specs.Sums.{text_labels, theta_inverse_at}
use Rattle.tetra_sum.proofs.FactorSteps.{IsAlong}
use Rattle.tetra_sum.proofs.products.theta_inverses.Given as goal

-- the product of the first factors, and no refusal so far
abbrev pub invariant-loop-i : goal.invariant-loop-i
invariant-loop-i l =
    IsAlong l.table theta_net (theta_inverse_at l.table.params (text_labels l.tetra) l.colouring.colours.now) (face_refusal_at l.table.params (text_labels l.tetra) l.colouring.number l.colouring.colours.now)
    (faces_of l.tetra) l.fn.notes l.notes l.store l.i l.product
