use Rattle.std.proofs.Common.{◌≤◌, ◌++◌, ℕ, List, sym, subst, ◌∙◌, arith}
use Rattle.arc_gluing.proofs.Places.{AreOnce-from_times}
use Rattle.list_lemmas.specs.Times.{times_in}
use Rattle.frontier_sweep.proofs.KeptPlaces.{open_length}
use Rattle.frontier_sweep.proofs.places.kept_seam.Goals as goal

pub returns-then-len-gt-MOST_POINTS-clause-wide : goal.returns-then-len-gt-MOST_POINTS-clause-wide
returns-then-len-gt-MOST_POINTS-clause-wide c =
    let first = c.len.ensures.value in
    let again = c.len-then-len-gt-MOST_POINTS.ensures.value in
    let many = c.if-len-gt-MOST_POINTS.true in
    let long = open_length (c.args.names.now ++ c.args.node.now.ends) c.open_with-outer.result.items c.open_with-outer.ensures in
    (omega (arith, first, many, long), again ∙ long)

pub keeping-requires-clause-apart : goal.keeping-requires-clause-apart
keeping-requires-clause-apart c = λ i k before within same.
    let once = AreOnce-from_times c.args.names.now c.requires.single i k (omega (arith, before, within)) within same in
    omega (arith, before, once)

pub keeping-requires-clause-few : goal.keeping-requires-clause-few
keeping-requires-clause-few c = subst (λ (ends : List ℕ). (x : ℕ) → times_in (c.args.names.now ++ ends) x ≤ 2) (sym c.ends.ensures.value) c.requires.few
