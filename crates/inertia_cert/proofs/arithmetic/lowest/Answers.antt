use Rattle.inertia_cert.proofs.Bounds.{cast_fits, num_fits, den_fits, is_nonzero, is_reduced, made_positive, made_lowest, made_fits}
use Rattle.inertia_cert.proofs.arithmetic.lowest.Goals as goal

pub overflow_cast-by : goal.overflow_cast-by
overflow_cast-by c = cast_fits c.args.num c.args.den c.unsigned_abs.result c.unsigned_abs-2.result c.divisor-common.result c.ranges.num c.ranges.den c.unsigned_abs.ensures.value c.unsigned_abs-2.ensures.value c.divisor-common.ensures c.requires.above_zero c.requires.fit

pub nonzero_div-result : goal.nonzero_div-result
nonzero_div-result c = (is_nonzero c.args.num c.args.den c.unsigned_abs.result c.unsigned_abs-2.result c.divisor-common.result c.ranges.num c.ranges.den c.unsigned_abs.ensures.value c.unsigned_abs-2.ensures.value c.divisor-common.ensures c.requires.above_zero c.requires.fit, num_fits c.args.num c.args.den c.unsigned_abs.result c.unsigned_abs-2.result c.divisor-common.result c.ranges.num c.ranges.den c.unsigned_abs.ensures.value c.unsigned_abs-2.ensures.value c.divisor-common.ensures c.requires.above_zero c.requires.fit)

pub nonzero_div-result-2 : goal.nonzero_div-result-2
nonzero_div-result-2 c = (is_nonzero c.args.num c.args.den c.unsigned_abs.result c.unsigned_abs-2.result c.divisor-common.result c.ranges.num c.ranges.den c.unsigned_abs.ensures.value c.unsigned_abs-2.ensures.value c.divisor-common.ensures c.requires.above_zero c.requires.fit, den_fits c.args.num c.args.den c.unsigned_abs.result c.unsigned_abs-2.result c.divisor-common.result c.ranges.num c.ranges.den c.unsigned_abs.ensures.value c.unsigned_abs-2.ensures.value c.divisor-common.ensures c.requires.above_zero c.requires.fit)

pub returns : goal.returns
returns c = is_reduced c.args.num c.args.den c.unsigned_abs.result c.unsigned_abs-2.result c.divisor-common.result c.ranges.num c.ranges.den c.unsigned_abs.ensures.value c.unsigned_abs-2.ensures.value c.divisor-common.ensures c.requires.above_zero c.requires.fit

pub invariant_of-result : goal.invariant_of-result
invariant_of-result c =
    record {
      above_zero = made_positive c.args.num c.args.den c.unsigned_abs.result c.unsigned_abs-2.result c.divisor-common.result c.ranges.num c.ranges.den c.unsigned_abs.ensures.value c.unsigned_abs-2.ensures.value c.divisor-common.ensures c.requires.above_zero c.requires.fit;
      lowest = made_lowest c.args.num c.args.den c.unsigned_abs.result c.unsigned_abs-2.result c.divisor-common.result c.ranges.num c.ranges.den c.unsigned_abs.ensures.value c.unsigned_abs-2.ensures.value c.divisor-common.ensures c.requires.above_zero c.requires.fit;
      within = made_fits c.args.num c.args.den c.unsigned_abs.result c.unsigned_abs-2.result c.divisor-common.result c.ranges.num c.ranges.den c.unsigned_abs.ensures.value c.unsigned_abs-2.ensures.value c.divisor-common.ensures c.requires.above_zero c.requires.fit;
    }
