use Rattle.std.proofs.Common.{rules, ◌≡◌, ◌+◌, ◌∙◌, sym, ap, refl, ℕ}
use Rattle.std.specs.Int.RustNames.{unsigned_abs}
use Rattle.std.proofs.lemmas.Int.{to_z-of_z}
use mir.Syntax.{w32}
use mir.Val.{SFits}
use Rattle.strand_algebra.specs.Elements.{identity, hook, add, scaled}
use Rattle.strand_words.specs.Words.{Letter}
use Rattle.temperley_lieb.specs.Elements.{Element, element_of}
use Rattle.box_laws.specs.Traces.{letter_element}
use Rattle.braid_closures.specs.Letters.{letter_of}
use Rattle.braid_closures.proofs.BraidSteps.{place_is}
use Rattle.braid_closures.proofs.traces.letter.Goals as goal

-- a letter's element, part by part
letter_from : (m n s h i : ℕ) (one up first second sum : Element) (of : Letter) → one ≡ element_of n (identity m n) → up ≡ element_of n (hook m n i) →
    first ≡ element_of one.strands (scaled m one.strands s one.terms) → second ≡ element_of up.strands (scaled m up.strands h up.terms) →
    sum ≡ element_of first.strands (add m first.strands first.terms second.terms) → s ≡ of.straight → h ≡ of.hook → i ≡ of.at + 1 → sum ≡ element_of n (letter_element m n of)
letter_from m n s h i one up first second sum of e f g k l a b c = rw (l, g, k, e, f, a, b, c) refl

pub returns-clause-value : goal.returns-clause-value
returns-clause-value c =
    let fits : SFits w32 c.args.entry = search rules in
    let same = to_z-of_z w32 c.args.entry fits in
    letter_from c.args.params.now.modulus c.args.n c.weights-straight.result.0 c.weights-straight.result.1 c.unsigned_abs.result c.in_ok-identity.field-0 c.in_ok-hook.field-0 c.in_ok-strands.strands c.in_ok-hooks.hooks c.in_ok-sum.sum
    (letter_of c.args.params.now c.args.entry) c.in_ok-identity.ensures.value c.in_ok-hook.ensures.value c.in_ok-strands.ensures.value c.in_ok-hooks.ensures.value c.in_ok-sum.ensures.value (c.weights-straight.ensures.straight ∙ ap (λ e. (letter_of c.args.params.now e).straight) same) (c.weights-straight.ensures.hook ∙ ap (λ e. (letter_of c.args.params.now e).hook) same)
    (c.unsigned_abs.ensures.value ∙ ap unsigned_abs same ∙ sym (place_is c.args.params.now c.args.entry c.requires.above))
