use Rattle.std.proofs.lemmas.Result.{err_from_is_err_and}
use Rattle.std.proofs.Common.{◌≡◌, ◌+◌, ◌*◌, pos, arith, ap, ◌∙◌, get_or}
use Rattle.inertia_laws.specs.Range.{every}
use Rattle.inertia_cert.specs.Grids.{values, tabulated}
use Rattle.inertia_laws.specs.Fractions.{whole}
use Rattle.inertia_cert.proofs.Tables.{caused_later, length-entries, get-tabulated}
use Rattle.inertia_cert.proofs.tabulate.tabulate.Goals as goal

pub returns-in_err-push_row-clause-refused : goal.returns-in_err-push_row-clause-refused
returns-in_err-push_row-clause-refused g c =
    let p = err_from_is_err_and c.from_residual-in_err-push_row.result c.from_residual-in_err-push_row.ensures.1 in
    rw (p.1, p.2)
    (caused_later _ c.args.size c.loop-row.row (λ a. every c.args.size (g.R.Rule.fits c.args.rule.now a)) (omega arith) c.in_err-push_row.ensures.refused)

pub invariant_of-result : goal.invariant_of-result
invariant_of-result g c =
    let all : c.loop-row.row ≡ c.args.size = omega arith in
    let made : values c.loop-row.entries.items ≡ tabulated c.args.size c.args.size (g.R.Rule.gives c.args.rule.now) =
    c.loop-row.invariant.made ∙ ap (λ r. tabulated c.args.size r (g.R.Rule.gives c.args.rule.now)) all in
    record {
      small = c.requires.small;
      full = length-entries c.loop-row.entries.items c.args.size (g.R.Rule.gives c.args.rule.now) made;
    }

pub returns-clause-made : goal.returns-clause-made
returns-clause-made g c = λ i j hi hj.
    let all : c.loop-row.row ≡ c.args.size = omega arith in
    let made : values c.loop-row.entries.items ≡ tabulated c.args.size c.args.size (g.R.Rule.gives c.args.rule.now) =
    c.loop-row.invariant.made ∙ ap (λ r. tabulated c.args.size r (g.R.Rule.gives c.args.rule.now)) all in
    ap (λ entries. get_or entries (i * c.args.size + j) (whole (pos 0))) made
    ∙ get-tabulated c.args.size c.args.size i j (g.R.Rule.gives c.args.rule.now) (whole (pos 0)) hi hj
