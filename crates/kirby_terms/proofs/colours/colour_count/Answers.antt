-- The number of the form's colours.
use Rattle.std.proofs.Common.{sym, ◌∙◌, ap, ◌-◌, ◌/◌}
use Rattle.kirby_terms.proofs.FormColours.{count_of_full, count_of_even}
use Rattle.kirby_terms.proofs.colours.colour_count.Goals as goal

pub returns-in-All-clause-count : goal.returns-in-All-clause-count
returns-in-All-clause-count c =
    ap (λ n. n - 1) c.level.ensures ∙ sym (count_of_full c.args.params.now (sym c.form.ensures ∙ c.in-All.is))

pub returns-in-Even-clause-count : goal.returns-in-Even-clause-count
returns-in-Even-clause-count c =
    ap (λ n. (n - 1) / 2) c.level-in-Even.ensures ∙ sym (count_of_even c.args.params.now (sym c.form.ensures ∙ c.in-Even.is))
