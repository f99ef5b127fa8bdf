-- Each turn puts the next component's colour behind the others.
use Rattle.std.proofs.Common.{◌≡◌, ℕ, ◌+◌, ◌-◌, ◌^◌, ◌<◌, ◌≤◌, List, [], ◌∷◌, ◌++◌, length, take, slice_index, take-suc, take_all, add-one, sym, ap, subst, ◌∙◌, arith}
use Rattle.root_quantum.specs.Colours.{form_colours, greatest_colour}
use Rattle.root_quantum.proofs.GreatestColours.{greatest_of_colours_law}
use Rattle.std.specs.List.{All}
use Rattle.kirby_terms.specs.Colourings.{colouring_at}
use Rattle.kirby_terms.proofs.ColourLists.{list_length, all_colours}
use Rattle.kirby_terms.proofs.FormColours.{some_colours}
use Rattle.kirby_terms.proofs.colours.colours_in.Goals as goal

one_more : (xs list : List ℕ) (k x : ℕ) → k < length list → xs ≡ take k list → x ≡ slice_index list (k + 1 - 1) → xs ++ x ∷ [] ≡ take (k + 1) list
one_more xs list k x h xs_is x_is =
    let z : k + 1 - 1 ≡ k = omega arith in
    let y : x ≡ slice_index list k = x_is ∙ ap (slice_index list) z in
    ap (λ ys. ys ++ x ∷ []) xs_is ∙ ap (λ n. take k list ++ n ∷ []) y ∙ sym (take-suc list k 0 h) ∙ ap (λ j. take j list) (sym (add-one k))

pub loop-component-preserved : goal.loop-component-preserved
loop-component-preserved c =
    let p = c.args.params.now in
    let list = colouring_at (form_colours p) c.args.components c.args.index in
    let below : c.args.index - 1 < length (form_colours p) ^ c.args.components = omega (arith, c.requires.lowest, c.requires.highest) in
    let long = list_length (form_colours p) c.args.components (c.args.index - 1) (some_colours p) below in
    c.in_ok-push.ensures.items ∙ one_more c.loop-component.colours.items list c.loop-component.component c.colouring_of.result (omega (arith, long, c.loop-component-test.true)) c.loop-component.invariant c.colouring_of.ensures.colour

pub returns-clause-colours : goal.returns-clause-colours
returns-clause-colours c =
    let p = c.args.params.now in
    let below : c.args.index - 1 < length (form_colours p) ^ c.args.components = omega (arith, c.requires.lowest, c.requires.highest) in
    let long = list_length (form_colours p) c.args.components (c.args.index - 1) (some_colours p) below in
    c.loop-component.invariant ∙ take_all c.loop-component.component (colouring_at (form_colours p) c.args.components c.args.index) (omega (arith, long, c.loop-component-test.false))

pub returns-clause-count : goal.returns-clause-count
returns-clause-count c =
    let p = c.args.params.now in
    let below : c.args.index - 1 < length (form_colours p) ^ c.args.components = omega (arith, c.requires.lowest, c.requires.highest) in
    let long = list_length (form_colours p) c.args.components (c.args.index - 1) (some_colours p) below in
    ap length (c.loop-component.invariant ∙ take_all c.loop-component.component (colouring_at (form_colours p) c.args.components c.args.index) (omega (arith, long, c.loop-component-test.false))) ∙ long

pub returns-clause-few : goal.returns-clause-few
returns-clause-few c =
    let p = c.args.params.now in
    let below : c.args.index - 1 < length (form_colours p) ^ c.args.components = omega (arith, c.requires.lowest, c.requires.highest) in
    let long = list_length (form_colours p) c.args.components (c.args.index - 1) (some_colours p) below in
    let P : ℕ → Type 0 = λ n. n ≤ greatest_colour p in
    let each = all_colours P (form_colours p) c.args.components (c.args.index - 1) (some_colours p) below (greatest_of_colours_law p).1 in
    subst (All P) (sym (c.loop-component.invariant ∙ take_all c.loop-component.component (colouring_at (form_colours p) c.args.components c.args.index) (omega (arith, long, c.loop-component-test.false)))) each
