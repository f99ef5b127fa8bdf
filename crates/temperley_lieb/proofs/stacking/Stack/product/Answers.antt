use Rattle.std.proofs.Common.{◌+◌, ◌++◌, length, sym, ap, subst, ◌∙◌}
use Rattle.std.proofs.lemmas.List.FromFn.{length-range_with_len, length-map-range_with_len}
use Rattle.graph_parts.specs.Patterns.{closed_parts}
use Rattle.arc_gluing.specs.Pairings.{IsPairedBy}
use Rattle.arc_pairing.specs.Gluing.{Seam, glued_edges}
use Rattle.strand_algebra.specs.GluedProducts.{above_name}
use Rattle.strand_algebra.proofs.GluedPairings.{product_of_gluing}
use Rattle.strand_algebra.proofs.Gluings.{glued_product}
use Rattle.temperley_lieb.proofs.stacking.Stack.product.Goals as goal

pub glue-requires-clause-old_fits : goal.glue-requires-clause-old_fits
glue-requires-clause-old_fits c =
    let n = c.args.self.now.strands in
    c.requires.below.points ∙ sym (ap (λ (s : Seam). length s.inner) c.args.self.now.joins ∙ length-range_with_len 0 (n + n))

pub glue-requires-clause-term_fits : goal.glue-requires-clause-term_fits
glue-requires-clause-term_fits c =
    let n = c.args.self.now.strands in
    c.requires.above.points ∙ sym (ap (λ (s : Seam). length s.ends) c.args.self.now.joins ∙ length-map-range_with_len (above_name n) 0 (n + n))

pub returns-clause-pairing : goal.returns-clause-pairing
returns-clause-pairing c =
    let n = c.args.self.now.strands in
    let p = c.args.above.now in
    let q = c.args.below.now in
    let P : Seam → Type 0 = λ s. IsPairedBy (glued_edges s q p) s.outer c.glue.result.pairing in
    product_of_gluing n p q c.glue.result.pairing c.requires.above c.requires.below (subst P c.args.self.now.joins c.glue.ensures.paired)

pub returns-clause-loops : goal.returns-clause-loops
returns-clause-loops c =
    let n = c.args.self.now.strands in
    let p = c.args.above.now in
    let q = c.args.below.now in
    c.glue.ensures.closed ∙ ap (λ (s : Seam). closed_parts (s.inner ++ s.ends) (glued_edges s q p) s.outer) c.args.self.now.joins
    ∙ (glued_product n p q c.requires.above c.requires.below).loops
