use Rattle.std.proofs.Common.{◌≡◌, subst}
use Rattle.std.proofs.lemmas.List.Sorted.{IsNonDecreasingBy-from_sort}
use Rattle.state_sums.specs.Networks.{names_of}
use Rattle.arc_pairing.specs.Counts.{StandsTwice, IsLeastMiscount}
use Rattle.arc_pairing.proofs.Steps.{twice_permuted, miscount_permuted}
use Rattle.arc_pairing.proofs.network.check_names.Goals as goal

pub least_miscount-requires : goal.least_miscount-requires
least_miscount-requires c = rw c.deref.ensures.value (IsNonDecreasingBy-from_sort (λ x. x) c.sort_unstable.new.self.items c.sort_unstable.ensures.sorted)

pub returns-in-Some-clause-name : goal.returns-in-Some-clause-name
returns-in-Some-clause-name c name count e =
    let found : IsLeastMiscount c.deref.result.now c.in-Some.name c.in-Some.count = c.in-Some.ensures.some in
    let sorted : IsLeastMiscount c.sort_unstable.new.self.items c.in-Some.name c.in-Some.count = rw c.deref.ensures.value at found in
    let read = miscount_permuted c.in_ok-names.names.items c.sort_unstable.new.self.items c.in-Some.name c.in-Some.count c.sort_unstable.ensures.permutation sorted in
    let whole : IsLeastMiscount (names_of c.args.nodes.now) c.in-Some.name c.in-Some.count = rw c.in_ok-names.ensures.value at read in
    let a : c.in-Some.name ≡ name = cc in
    let b : c.in-Some.count ≡ count = cc in
    rw (← a, ← b) whole

pub returns-clause-twice : goal.returns-clause-twice
returns-clause-twice c x =
    let found = c.least_miscount.ensures.none c.in-None.is x in
    let sorted : StandsTwice c.sort_unstable.new.self.items x = rw c.deref.ensures.value at found in
    let read = twice_permuted c.in_ok-names.names.items c.sort_unstable.new.self.items x c.sort_unstable.ensures.permutation sorted in
    subst (λ names. StandsTwice names x) c.in_ok-names.ensures.value read
