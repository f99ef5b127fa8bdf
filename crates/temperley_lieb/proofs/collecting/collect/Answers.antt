-- The write at the pairing's place adds the term, which both the invariant and the clause ask for.
use Rattle.std.proofs.Common.{◌≡◌, ◌+◌, ◌<◌, ◌%◌, List, [], ◌∷◌, length, All, get_or, slice_set, sym, ap, subst, ◌∙◌, arith}
use Rattle.ring_identities.specs.Residues.{residue}
use Rattle.state_sums.specs.Networks.{Term}
use Rattle.strand_algebra.specs.Elements.{IsElement, add}
use Rattle.strand_algebra.proofs.Operations.{IsElement-add}
use Rattle.temperley_lieb.specs.Elements.{Element, IsWhole, element_of}
use Rattle.temperley_lieb.proofs.AddedTerms.{collect_step}
use Rattle.temperley_lieb.proofs.collecting.collect.Goals as goal

whole : (c : goal.After-sum-1) → IsElement c.args.ring.now c.sum.inside.strands c.sum.inside.terms.items
whole c = record {
  partners = c.sum.invariant.partners;
  below = let P : Element → Type 0 = λ e. All (λ term. term.weight < c.args.ring.now) e.terms in subst P (sym c.sum.view_is) c.requires.below;
}

step : (c : goal.After-sum-1) →
    slice_set c.sum.inside.terms.items c.place_of-place.result (record { weight = c.add.result; partner = c.behind-sum-2.inside.pairing })
    ≡ add c.args.ring.now c.sum.inside.strands c.sum.inside.terms.items (record { weight = c.args.weight; partner = c.args.pairing.now } ∷ [])
unfolding residue
step c =
    let m = c.args.ring.now in
    let x = c.sum.inside.terms.items in
    let i = c.place_of-place.result in
    let P : Element → Type 0 = λ e. (d : Term) → c.args.pairing.now ≡ (get_or e.terms i d).partner in
    let within = c.place_of-place.ensures.within in
    let l = ap (λ e. length e.terms) c.sum.view_is in
    ap (λ q. slice_set x i (record { weight = c.add.result; partner = q })) (ap (λ t. t.partner) c.behind-sum-2.view_is)
    ∙ collect_step m c.sum.inside.strands x i c.args.weight c.add.result c.args.pairing.now c.index.result.now c.index_mut.result.now (omega arith) (whole c)
    (omega (arith, l, within)) c.index.ensures c.index_mut.ensures.value
    (subst P (sym c.sum.view_is) c.place_of-place.ensures.there)
    (c.add.ensures.sum ∙ ap (λ k. (k + c.args.weight) % m) (ap (λ t. t.weight) c.behind-sum.view_is))

pub invariant_of-sum : goal.invariant_of-sum
invariant_of-sum c =
    let n = c.sum.inside.strands in
    let P : List Term → Type 0 = λ y. IsWhole (element_of n y) in
    subst P (sym (step c)) record {
      few = c.sum.invariant.few;
      partners = (IsElement-add c.args.ring.now n c.sum.inside.terms.items (record { weight = c.args.weight; partner = c.args.pairing.now } ∷ []) (omega arith)).partners;
    }

pub returns-clause-value : goal.returns-clause-value
returns-clause-value c =
    ap (element_of c.sum.inside.strands) (step c)
    ∙ ap (λ (e : Element). element_of e.strands (add c.args.ring.now e.strands e.terms (record { weight = c.args.weight; partner = c.args.pairing.now } ∷ []))) c.sum.view_is
