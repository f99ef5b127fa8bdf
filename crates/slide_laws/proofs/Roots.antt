-- The numbers of components at places: the number of a label's component leads back to the least label of the component, in the list of
-- least labels.
use Rattle.std.proofs.Common.{◌≡◌, ℕ, ◌-◌, ◌<◌, ◌≤◌, List, length, slice_index, count_by, ap}
use Rattle.std.specs.Prelude.{nat_le}
use Rattle.pd_reader.specs.declared.item.Item.{Item}
use Rattle.pd_reader.specs.Diagrams.{IsDiagram}
use Rattle.planar_check.specs.Places.{labels_by_place, crossings_of}
use Rattle.planar_check.specs.Components.{component_least, least_labels, number_of}
use Rattle.planar_check.proofs.ComponentNumbers.{least_at_number}
use Rattle.planar_check.proofs.Directions.{label_there}
use Rattle.planar_check.proofs.FewComponents as few

module _ (xs : List Item) (diagram : IsDiagram xs) where
  abbrev ls : List ℕ
  ls = labels_by_place (crossings_of xs)

  -- the least label of the component with the number c
  abbrev pub root : ℕ → ℕ
  root c = slice_index (least_labels xs) (c - 1)

  pub least_again : (p : ℕ) → p < length ls → component_least xs (component_least xs (slice_index ls p)) ≡ component_least xs (slice_index ls p)
  least_again p l = few.least_again xs diagram.sizes (slice_index ls p) (label_there xs diagram p l)

  -- THE ROOT OF A LABEL'S COMPONENT IS ITS LEAST LABEL
  pub root_of : (p : ℕ) → p < length ls → root (number_of xs (slice_index ls p)) ≡ component_least xs (slice_index ls p)
  root_of p l = least_at_number xs diagram.sizes (slice_index ls p) (label_there xs diagram p l)

  pub number_some : (p : ℕ) → p < length ls → 1 ≤ number_of xs (slice_index ls p)
  number_some p l = few.number_first xs diagram.sizes (slice_index ls p) (label_there xs diagram p l)

  -- and there are as many least labels up to the root as its number says
  pub number_back : (p : ℕ) → p < length ls → count_by (λ least. nat_le least (root (number_of xs (slice_index ls p)))) (least_labels xs) ≡ number_of xs (slice_index ls p)
  number_back p l = ap (λ (y : ℕ). count_by (λ least. nat_le least y) (least_labels xs)) (root_of p l)
