use Rattle.std.proofs.Common.{◌∙◌, Some, None, Err, ap}
use Rattle.inertia_cert.specs.Eliminations.{diagonal_of}
use Rattle.inertia_laws.specs.Certificates.{positives, negatives}
use Rattle.wrt_values.proofs.Surgeries.{range_is, counts_are}
use Rattle.wrt_values.proofs.surgery.linking_counts.Goals as goal

pub returns-in-Ok-clause-plus : goal.returns-in-Ok-clause-plus
returns-in-Ok-clause-plus c =
    let d = diagonal_of c.in-Ok.certificate in
    let matrix = c.in_ok-matrix.matrix in
    c.counts.ensures.positive ∙ ap (λ n. positives n d) c.in-Ok.ensures.sized
    ∙ (counts_are c.args.framed.now matrix c.in_ok-matrix.ensures.size c.in_ok-matrix.ensures.entries c.size-size.ensures.matrix _ _ d c.in-Ok.ensures.certifies).0

pub returns-in-Ok-clause-minus : goal.returns-in-Ok-clause-minus
returns-in-Ok-clause-minus c =
    let d = diagonal_of c.in-Ok.certificate in
    let matrix = c.in_ok-matrix.matrix in
    c.counts.ensures.negative ∙ ap (λ n. negatives n d) c.in-Ok.ensures.sized
    ∙ (counts_are c.args.framed.now matrix c.in_ok-matrix.ensures.size c.in_ok-matrix.ensures.entries c.size-size.ensures.matrix _ _ d c.in-Ok.ensures.certifies).1

pub returns-in-Ok-clause-range : goal.returns-in-Ok-clause-range
returns-in-Ok-clause-range c = range_is c.args.framed.now c.in_ok-matrix.matrix c.in_ok-matrix.ensures.size c.in_ok-matrix.ensures.entries None c.in-Ok.ensures.in_range

pub returns-in-Err-Range-clause-refused : goal.returns-in-Err-Range-clause-refused
returns-in-Err-Range-clause-refused c =
    range_is c.args.framed.now c.in_ok-matrix.matrix c.in_ok-matrix.ensures.size c.in_ok-matrix.ensures.entries (Some c.in-Err-Range.step)
    (c.in-Err-Range.ensures.range c.in-Err-Range.step (ap Err c.in-Err-Range.field-0-is))
