use Rattle.std.proofs.Common.{◌==◌, ℕ, List, sym, ap, ◌∙◌}
use Rattle.std.specs.Set.{is_member}
use Rattle.planar_check.proofs.DistinctLabels.{distinct_is, contains-member}
use Rattle.planar_check.proofs.distinct.distinct.Goals as goal

pub returns : goal.returns
returns c =
    let set = c.in_ok-set.set in
    distinct_is c.args.labels.now c.in_ok-found.found.items c.in_ok-found.ensures.sorted (λ label.
    ap (λ (keys : List ℕ). is_member ◌==◌ keys label) c.in_ok-found.ensures.keys ∙ (sym (contains-member set label) ∙ c.in_ok-set.ensures label))
