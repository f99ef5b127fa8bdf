use Rattle.std.proofs.Common.{◌≤◌, ℕ, List, length, sym, subst, ap, ◌∙◌, IfSome}
use Rattle.std.specs.List.Sorted.{IsStrictlySortedBy}
use Rattle.std.specs.Ordering.{nat_cmp}
use Rattle.pd_reader.specs.declared.item.Item.{Item}
use Rattle.planar_check.specs.Components.{least_labels, component_of}
use Rattle.planar_check.proofs.ComponentLists.{components_read, component_told, names_sorted, all_sorted}
use Rattle.planar_check.proofs.FewComponents.{component_in_range}
use Rattle.planar_check.proofs.planar.Planar.component_of.Goals as goal

pub component_of-requires-clause-sorted : goal.component_of-requires-clause-sorted
component_of-requires-clause-sorted c =
    let inside = c.self.inside in
    let P : List ℕ → Type 0 = IsStrictlySortedBy nat_cmp in
    subst P (sym c.deref.ensures.value) (names_sorted inside.diagram inside.components.names.items inside.components.leasts.items inside.components.least_labels.items c.self.invariant.3)

pub component_of-requires-clause-sorted_all : goal.component_of-requires-clause-sorted_all
component_of-requires-clause-sorted_all c =
    let inside = c.self.inside in
    let P : List ℕ → Type 0 = IsStrictlySortedBy nat_cmp in
    subst P (sym c.deref-3.ensures.value) (all_sorted inside.diagram inside.components.names.items inside.components.leasts.items inside.components.least_labels.items c.self.invariant.3)

pub returns-clause-number : goal.returns-clause-number
returns-clause-number c =
    let inside = c.self.inside in
    let are = components_read inside.diagram inside.components.names.items inside.components.leasts.items inside.components.least_labels.items c.deref.result.now c.deref-2.result.now c.deref-3.result.now
    c.deref.ensures.value c.deref-2.ensures.value c.deref-3.ensures.value c.self.invariant.3 in
    component_told inside.diagram c.deref.result.now c.deref-2.result.now c.deref-3.result.now are c.args.label c.component_of.result c.component_of.ensures
    ∙ ap (λ (items : List Item). component_of items c.args.label) c.self.view_is

pub returns-clause-in_range : goal.returns-clause-in_range
returns-clause-in_range c =
    let inside = c.self.inside in
    let are = components_read inside.diagram inside.components.names.items inside.components.leasts.items inside.components.least_labels.items c.deref.result.now c.deref-2.result.now c.deref-3.result.now
    c.deref.ensures.value c.deref-2.ensures.value c.deref-3.ensures.value c.self.invariant.3 in
    let is = component_told inside.diagram c.deref.result.now c.deref-2.result.now c.deref-3.result.now are c.args.label c.component_of.result c.component_of.ensures in
    let P : List Item → Type 0 = λ items. IfSome c.component_of.result (λ number. (1 ≤ number) × (number ≤ length (least_labels items))) in
    subst P c.self.view_is (component_in_range inside.diagram c.self.invariant.0 c.args.label c.component_of.result is)
