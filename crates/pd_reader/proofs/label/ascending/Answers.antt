use Rattle.std.proofs.Common.{◌∙◌, ap}
use Rattle.std.proofs.lemmas.List.Sorted.{IsNonDecreasingBy-from_sort}
use Rattle.list_lemmas.specs.Times.{times_in}
use Rattle.pd_reader.proofs.Counts.{times-permuted}
use Rattle.pd_reader.proofs.label.ascending.Goals as goal

pub returns-clause-ascends : goal.returns-clause-ascends
returns-clause-ascends c = IsNonDecreasingBy-from_sort (λ n. n) c.sort_unstable.new.self.items c.sort_unstable.ensures.sorted

pub returns-clause-same : goal.returns-clause-same
returns-clause-same c label = times-permuted label c.in_ok-found.found.items c.sort_unstable.new.self.items c.sort_unstable.ensures.permutation ∙ ap (λ xs. times_in xs label) c.in_ok-found.ensures.items
