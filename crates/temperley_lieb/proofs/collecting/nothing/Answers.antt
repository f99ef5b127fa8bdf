use Rattle.std.proofs.Common.{◌<◌, List, [], All, map, sym, ap, subst, ◌∙◌, arith}
use Rattle.state_sums.specs.Networks.{Term}
use Rattle.strand_algebra.proofs.Collecting.{IsElement-collected}
use Rattle.temperley_lieb.specs.Elements.{element_of}
use Rattle.temperley_lieb.proofs.AddedTerms.{zeros_are, zeros_partners, zeros_filled}
use Rattle.temperley_lieb.proofs.collecting.nothing.Goals as goal

pub invariant_of-result : goal.invariant_of-result
invariant_of-result c = record {
  few = c.requires.few;
  partners = ap (map (λ term. term.partner))
      (zeros_filled c.args.strands c.loop-pairing.pairing-index c.loop-pairing.terms.items c.deref-pairing-items.result.now c.loop-pairing.invariant (omega arith)
      (c.deref-pairing-items.ensures.value ∙ c.in_ok-pairings.ensures {u = tt}))
      ∙ zeros_partners c.args.strands;
}

pub returns-clause-value : goal.returns-clause-value
returns-clause-value c =
    ap (element_of c.args.strands)
    (zeros_filled c.args.strands c.loop-pairing.pairing-index c.loop-pairing.terms.items c.deref-pairing-items.result.now c.loop-pairing.invariant (omega arith)
    (c.deref-pairing-items.ensures.value ∙ c.in_ok-pairings.ensures {u = tt})
    ∙ zeros_are c.args.ring.now c.args.strands c.requires.ring)

pub returns-clause-below : goal.returns-clause-below
returns-clause-below c =
    let e =
    zeros_filled c.args.strands c.loop-pairing.pairing-index c.loop-pairing.terms.items c.deref-pairing-items.result.now c.loop-pairing.invariant (omega arith)
    (c.deref-pairing-items.ensures.value ∙ c.in_ok-pairings.ensures {u = tt})
    ∙ zeros_are c.args.ring.now c.args.strands c.requires.ring in
    let P : List Term → Type 0 = λ x. All (λ term. term.weight < c.args.ring.now) x in
    subst P (sym e) (IsElement-collected c.args.ring.now c.args.strands [] c.requires.ring).below
