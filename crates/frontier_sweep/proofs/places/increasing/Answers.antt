use Rattle.std.proofs.Common.{ℕ, List, length, take_all, IsPermutation, sym, ap, subst, ◌∙◌}
use Rattle.std.specs.List.Sorted.{IsStrictlyIncreasing}
use Rattle.std.proofs.lemmas.List.Sorted.{IsNonDecreasingBy-from_sort}
use Rattle.arc_gluing.specs.Pairings.{AreOpen}
use Rattle.arc_pairing.proofs.SeamLists.{increasing_permuted, refill_whole}
use Rattle.frontier_sweep.proofs.KeptPlaces.{open_sorted}
use Rattle.frontier_sweep.proofs.places.increasing.Goals as goal

pub returns-clause-open : goal.returns-clause-open
returns-clause-open c all open_ =
    let sorted = c.sort_unstable.new.self in
    let copied = c.loop-name.invariant ∙ take_all c.loop-name.name-index c.args.names.now c.loop-name-test.false in
    let P : List ℕ → Type 0 = λ xs. IsPermutation xs sorted in
    let permuted = subst P (c.deref_mut.ensures.value ∙ copied) c.sort_unstable.ensures.permutation in
    subst (AreOpen all) (sym (refill_whole c.loop-name.sorted.items sorted (c.sort_unstable.ensures.len ∙ ap length c.deref_mut.ensures.value)))
    (open_sorted all c.args.names.now sorted open_ permuted)

pub returns-clause-ascending : goal.returns-clause-ascending
returns-clause-ascending c all open_ =
    let sorted = c.sort_unstable.new.self in
    let copied = c.loop-name.invariant ∙ take_all c.loop-name.name-index c.args.names.now c.loop-name-test.false in
    let P : List ℕ → Type 0 = λ xs. IsPermutation xs sorted in
    let permuted = subst P (c.deref_mut.ensures.value ∙ copied) c.sort_unstable.ensures.permutation in
    let Q : List ℕ → Type 0 = λ xs. IsStrictlyIncreasing xs in
    subst Q (sym (refill_whole c.loop-name.sorted.items sorted (c.sort_unstable.ensures.len ∙ ap length c.deref_mut.ensures.value)))
    (increasing_permuted all sorted (open_sorted all c.args.names.now sorted open_ permuted) (IsNonDecreasingBy-from_sort (λ x. x) sorted c.sort_unstable.ensures.sorted))
