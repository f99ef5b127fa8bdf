use Rattle.std.proofs.Common.{◌*ℤ◌, rules, FitsSigned}
use Rattle.std.proofs.lemmas.Int.{to_z-of_z}
use Rattle.std.specs.Int.{w128}
use Rattle.inertia_cert.proofs.Bounds.{sum_result, is_true_is}
use Rattle.inertia_laws.specs.Range.{fits}
use Rattle.inertia_cert.proofs.arithmetic.crossed.Goals as goal

pub returns : goal.returns
returns c =
    let xn : FitsSigned w128 c.args.x.num = search rules in
    let xd : FitsSigned w128 c.args.x.den = search rules in
    let yn : FitsSigned w128 c.args.y.num = search rules in
    let yd : FitsSigned w128 c.args.y.den = search rules in
    let lf : FitsSigned w128 c.in_ok-left.left = search rules in
    let rf : FitsSigned w128 c.in_ok-right.right = search rules in
    let l = simp to_z-of_z at (c.in_ok-left.ensures {u = tt}) in
    let r = simp to_z-of_z at (c.in_ok-right.ensures {u = tt}) in
    sum_result c.sum.result c.in_ok-left.left c.in_ok-right.right (c.args.x.num *ℤ c.args.y.den) (c.args.y.num *ℤ c.args.x.den) lf rf l.1 r.1 (is_true_is (fits (c.args.x.num *ℤ c.args.y.den)) l.0) (is_true_is (fits (c.args.y.num *ℤ c.args.x.den)) r.0) c.sum.ensures
