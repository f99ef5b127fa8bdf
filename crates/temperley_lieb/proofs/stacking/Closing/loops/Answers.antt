use Rattle.std.proofs.Common.{ℕ, ◌+◌, ◌-◌, ◌++◌, List, length, sym, ap, ap₂, ◌∙◌}
use Rattle.std.proofs.lemmas.List.FromFn.{length-range_with_len, length-map-range_with_len}
use Rattle.graph_parts.specs.Patterns.{closed_parts}
use Rattle.arc_pairing.specs.Gluing.{Seam, glued_edges}
use Rattle.strand_algebra.proofs.Gluings.{glued_closure}
use Rattle.temperley_lieb.proofs.stacking.Closing.loops.Goals as goal

pub glue-requires-clause-old_fits : goal.glue-requires-clause-old_fits
glue-requires-clause-old_fits c =
    let n = c.args.self.now.strands in
    c.requires.points ∙ sym (ap (λ (s : Seam). length s.inner) c.args.self.now.joins ∙ length-range_with_len 0 (n + n))

pub glue-requires-clause-term_fits : goal.glue-requires-clause-term_fits
glue-requires-clause-term_fits c =
    let n = c.args.self.now.strands in
    ap (λ (q : List ℕ). length q) c.args.self.now.closes ∙ length-map-range_with_len (λ i. n + n - 1 - i) 0 (n + n)
    ∙ sym (ap (λ (s : Seam). length s.ends) c.args.self.now.joins ∙ length-range_with_len 0 (n + n))

pub returns : goal.returns
returns c =
    let n = c.args.self.now.strands in
    let p = c.args.pairing.now in
    c.glue.ensures.closed
    ∙ ap₂ (λ (s : Seam) (q : List ℕ). closed_parts (s.inner ++ s.ends) (glued_edges s p q) s.outer) c.args.self.now.joins c.args.self.now.closes
    ∙ glued_closure n p c.requires
