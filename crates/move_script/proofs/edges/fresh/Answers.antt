use Rattle.std.proofs.Common.{◌≡◌, ◌≤◌, ℕ, List, length, drop, ap, arith, ◌∙◌, max}
use Rattle.std.proofs.lemmas.List.{drop_all}
use Rattle.pd_reader.specs.Diagrams.{labels}
use Rattle.pd_reader.specs.Items.{item_labels}
use Rattle.planar_check.specs.Components.{greatest}
use Rattle.move_script.proofs.EdgeLemmas.{greatest_in_range}
use Rattle.move_script.proofs.edges.fresh.Goals as goal

-- at the end the greatest so far is that of all labels
all_done : (found : ℕ) (k : ℕ) (ls all : List ℕ) → max found (greatest (drop k ls)) ≡ greatest ls → length ls ≤ k → ls ≡ all → found ≡ greatest all
all_done found k ls all h past same =
    let none = ap greatest (drop_all k ls past) in
    let is = ap greatest same in
    omega (arith, h, none, is)

pub overflow_add-result : goal.overflow_add-result
overflow_add-result c =
    let is = all_done c.loop-label.greatest c.loop-label.label-index c.deref-label-items.result.now (labels item_labels c.args.items.now) c.loop-label.invariant c.loop-label-test.false (c.deref-label-items.ensures.value ∙ c.in_ok-all.ensures.items) in
    let few = greatest_in_range (labels item_labels c.args.items.now) c.requires.in_range in
    omega (arith, is, few)

pub returns-clause-new : goal.returns-clause-new
returns-clause-new c =
    let is = all_done c.loop-label.greatest c.loop-label.label-index c.deref-label-items.result.now (labels item_labels c.args.items.now) c.loop-label.invariant c.loop-label-test.false (c.deref-label-items.ensures.value ∙ c.in_ok-all.ensures.items) in
    omega (arith, is)

pub returns-clause-few : goal.returns-clause-few
returns-clause-few c =
    let is = all_done c.loop-label.greatest c.loop-label.label-index c.deref-label-items.result.now (labels item_labels c.args.items.now) c.loop-label.invariant c.loop-label-test.false (c.deref-label-items.ensures.value ∙ c.in_ok-all.ensures.items) in
    let few = greatest_in_range (labels item_labels c.args.items.now) c.requires.in_range in
    omega (arith, is, few)
