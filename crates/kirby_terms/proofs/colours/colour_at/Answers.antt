-- The colour at a place is the place, and in the even form twice the place.
use Rattle.std.proofs.Common.{sym, ◌∙◌, arith}
use Rattle.kirby_terms.proofs.FormColours.{colour_of_full, colour_of_even, full_few, even_few}
use Rattle.kirby_terms.proofs.colours.colour_at.Goals as goal

pub overflow_mul-result : goal.overflow_mul-result
overflow_mul-result c =
    let few = even_few c.args.params.now c.args.place (sym c.form.ensures ∙ c.in-Even.is) c.requires in
    omega (arith, few)

pub returns-in-All-clause-colour : goal.returns-in-All-clause-colour
returns-in-All-clause-colour c = sym (colour_of_full c.args.params.now c.args.place (sym c.form.ensures ∙ c.in-All.is) c.requires)

pub returns-in-All-clause-few : goal.returns-in-All-clause-few
returns-in-All-clause-few c = full_few c.args.params.now c.args.place (sym c.form.ensures ∙ c.in-All.is) c.requires

pub returns-in-Even-clause-colour : goal.returns-in-Even-clause-colour
returns-in-Even-clause-colour c = sym (colour_of_even c.args.params.now c.args.place (sym c.form.ensures ∙ c.in-Even.is) c.requires)

pub returns-in-Even-clause-few : goal.returns-in-Even-clause-few
returns-in-Even-clause-few c = even_few c.args.params.now c.args.place (sym c.form.ensures ∙ c.in-Even.is) c.requires
