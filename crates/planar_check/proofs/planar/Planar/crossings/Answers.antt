use Rattle.std.proofs.Common.{◌∙◌, List, length, subst, All}
use Rattle.pd_reader.specs.declared.item.Item.{Item}
use Rattle.planar_check.specs.Components.{least_labels}
use Rattle.planar_check.proofs.CrossingComponents.{crossings_within}
use Rattle.planar_check.proofs.planar.Planar.crossings.Goals as goal
use Rattle.planar_check.specs.Tables.{IsWithin}

pub returns-clause-within : goal.returns-clause-within
returns-clause-within c =
    let kept = c.self.invariant in
    let P : List Item → Type 0 = λ items. All (IsWithin (length (least_labels items))) c.deref.result.now in
    subst P c.self.view_is (crossings_within c.self.inside.diagram kept.0.sizes c.deref.result.now (c.deref.ensures.value ∙ kept.5.crossings_are))
