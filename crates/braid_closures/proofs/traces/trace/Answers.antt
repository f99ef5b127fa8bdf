use Rattle.std.proofs.Common.{◌≡◌, ◌<◌, ◌≤◌, ◌+◌, ℕ, ℤ, pos, List, map, drop, get_or, length, sym, ap, ap₂, ◌∙◌, arith, rules}
use Rattle.std.proofs.lemmas.Int.{to_z-of_z}
use Rattle.std.proofs.lemmas.List.{drop_more, drop_all}
use mir.Syntax.{w32}
use mir.Val.{SFits}
use Rattle.root_quantum.specs.QuantumNumbers.{loop_value}
use Rattle.state_sums.specs.Networks.{Term}
use Rattle.strand_algebra.specs.Elements.{identity, multiply, close}
use Rattle.strand_words.specs.Words.{Letter}
use Rattle.temperley_lieb.specs.Elements.{Element, element_of}
use Rattle.box_laws.specs.Traces.{letter_element, word_on, word_trace}
use Rattle.braid_closures.specs.Letters.{letter_of}
use Rattle.braid_closures.proofs.BraidTraces.{braid_bracket}
use Rattle.braid_closures.proofs.traces.trace.Goals as goal

-- one letter more, and none more
one_letter : (m d n : ℕ) (of : ℤ → Letter) (word : List ℤ) (i : ℕ) (whole : List Term) (element product next : Element) → i < length word → element ≡ element_of n (letter_element m n (of (get_or word i (pos 0)))) →
    next ≡ element_of element.strands (multiply m d element.strands element.terms product.terms) → word_on m d n product.terms (map of (drop i word)) ≡ whole → word_on m d n next.terms (map of (drop (i + 1) word)) ≡ whole
one_letter m d n of word i whole element product next l e f so =
    let rest = map of (drop (i + 1) word) in
    ap (λ (y : Element). word_on m d n y.terms rest) f
    ∙ ap (λ (y : Element). word_on m d n (multiply m d y.strands y.terms product.terms) rest) e
    ∙ sym (ap (λ w. word_on m d n product.terms (map of w)) (drop_more word i (pos 0) l))
    ∙ so

no_letter : (m d n : ℕ) (of : ℤ → Letter) (word : List ℤ) (i : ℕ) (whole x : List Term) → length word ≤ i → word_on m d n x (map of (drop i word)) ≡ whole → x ≡ whole
no_letter m d n of word i whole x l so = sym (ap (λ w. word_on m d n x (map of w)) (drop_all i word l)) ∙ so

pub identity-requires : goal.identity-requires
identity-requires c =
    let few : c.args.braid.now.strands ≤ 6 = c.word-word.ensures.braid.few_strands in
    let same = c.strands-n.ensures in
    omega (arith, few, same)

pub loop-entry-init : goal.loop-entry-init
loop-entry-init c =
    let of = letter_of c.args.params.now in
    let is = c.in_ok-product.ensures.value in
    record {
      product = ap (λ (y : Element). word_on c.args.params.now.modulus (loop_value c.args.params.now) c.strands-n.result y.terms (map of c.word-word.result.now)) is;
      strands = ap (λ (y : Element). y.strands) is;
      below = c.in_ok-product.ensures.below;
    }

pub loop-entry-preserved : goal.loop-entry-preserved
loop-entry-preserved c =
    let p = c.args.params.now in
    let n = c.strands-n.result in
    let word = c.word-word.result.now in
    let i = c.loop-entry.entry-index in
    let e = get_or word i (pos 0) in
    let fits : SFits w32 e = search rules in
    let element = c.in_ok-element.element in
    let made : element ≡ element_of n (letter_element p.modulus n (letter_of p e)) = c.in_ok-element.ensures.value ∙ ap (λ z. element_of n (letter_element p.modulus n (letter_of p z))) (to_z-of_z w32 e fits) in
    let next = c.in_ok-product-2.ensures.value in
    record {
      product = one_letter p.modulus (loop_value p) n (letter_of p) word i (word_on p.modulus (loop_value p) n (identity p.modulus n) (map (letter_of p) word)) element c.loop-entry.product c.in_ok-product-2.product c.loop-entry-test.true made next
          c.loop-entry.invariant.product;
      strands = ap (λ (y : Element). y.strands) next ∙ ap (λ (y : Element). y.strands) made;
      below = c.in_ok-product-2.ensures.below;
    }

pub returns : goal.returns
returns c =
    let p = c.args.params.now in
    let n = c.strands-n.result in
    let word = c.word-word.result.now in
    let x = c.loop-entry.product.terms in
    let all = word_on p.modulus (loop_value p) n (identity p.modulus n) (map (letter_of p) word) in
    let terms : x ≡ all = no_letter p.modulus (loop_value p) n (letter_of p) word c.loop-entry.entry-index all x (omega arith) c.loop-entry.invariant.product in
    c.close.ensures.value
    ∙ ap₂ (λ k y. close p.modulus (loop_value p) k y) c.loop-entry.invariant.strands terms
    ∙ ap₂ (λ k w. word_trace p.modulus (loop_value p) k (map (letter_of p) w)) c.strands-n.ensures c.word-word.ensures.word
    ∙ sym (braid_bracket p c.args.braid.now c.word-word.ensures.braid)
