use Rattle.std.proofs.Common.{length, get_or, sym, ap, ◌∙◌, arith}
use Rattle.arc_pairing.proofs.Steps.{none_misfits}
use Rattle.arc_pairing.proofs.node.Node.new.Goals as goal

pub invariant_of-result : goal.invariant_of-result
invariant_of-result c =
    let ends = ap length c.in_ok-ends.ensures.items in
    let value = c.in_ok-terms.ensures.value in
    let terms = ap length value in
    record {
      few_ends = omega (arith, ends);
      few_terms = omega (arith, terms);
      paired = λ i d l.
          let here = c.in_ok-terms.ensures.pairings i d (omega (arith, terms, l)) in
          let fits = none_misfits (length c.args.ends.now) c.args.terms.now (sym c.first_misfit.ensures ∙ c.in-None.is) i d (omega (arith, terms, l)) in
          (rw value here.paired, ap (λ ts. length (get_or ts i d).partner) value ∙ fits ∙ sym ends);
    }
