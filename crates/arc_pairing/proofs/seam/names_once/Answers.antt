use Rattle.std.proofs.Common.{ℕ, ◌==◌, ◌∙◌, List, length, IsPermutation, subst, sym, ap}
use Rattle.std.specs.List.{filter}
use Rattle.std.specs.List.Sorted.{IsStrictlyIncreasing}
use Rattle.std.proofs.lemmas.List.Sorted.{IsNonDecreasingBy-from_sort}
use Rattle.std.proofs.lemmas.List.Sums.{length-filter}
use Rattle.list_lemmas.specs.Times.{times_in}
use Rattle.arc_gluing.specs.Pairings.{AreOpen}
use Rattle.arc_pairing.proofs.SeamLists.{open_permuted, increasing_permuted, refill_whole}
use Rattle.arc_pairing.proofs.seam.names_once.Goals as goal

pub returns-clause-left : goal.returns-clause-left
returns-clause-left c =
    let sorted = c.sort_unstable.new.self in
    let once = filter (λ x. times_in c.args.all.now x == 1) c.args.all.now in
    let P : List ℕ → Type 0 = λ xs. IsPermutation xs sorted in
    let permuted = subst P (c.deref_mut.ensures.value ∙ c.single_names-single.ensures) c.sort_unstable.ensures.permutation in
    subst (AreOpen c.args.all.now) (sym (refill_whole c.single_names-single.result.items sorted (c.sort_unstable.ensures.len ∙ ap length c.deref_mut.ensures.value)))
    (open_permuted c.args.all.now sorted permuted)

pub returns-clause-ascending : goal.returns-clause-ascending
returns-clause-ascending c =
    let sorted = c.sort_unstable.new.self in
    let P : List ℕ → Type 0 = λ xs. IsPermutation xs sorted in
    let permuted = subst P (c.deref_mut.ensures.value ∙ c.single_names-single.ensures) c.sort_unstable.ensures.permutation in
    let Q : List ℕ → Type 0 = λ xs. IsStrictlyIncreasing xs in
    subst Q (sym (refill_whole c.single_names-single.result.items sorted (c.sort_unstable.ensures.len ∙ ap length c.deref_mut.ensures.value)))
    (increasing_permuted c.args.all.now sorted (open_permuted c.args.all.now sorted permuted) (IsNonDecreasingBy-from_sort (λ x. x) sorted c.sort_unstable.ensures.sorted))

pub returns-clause-count : goal.returns-clause-count
returns-clause-count c =
    let sorted = c.sort_unstable.new.self in
    ap length (refill_whole c.single_names-single.result.items sorted (c.sort_unstable.ensures.len ∙ ap length c.deref_mut.ensures.value))
    ∙ c.sort_unstable.ensures.len ∙ ap length (c.deref_mut.ensures.value ∙ c.single_names-single.ensures)
    ∙ length-filter (λ x. times_in c.args.all.now x == 1) c.args.all.now
