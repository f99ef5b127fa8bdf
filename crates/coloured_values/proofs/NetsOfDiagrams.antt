-- The net of a link diagram, with the colours of the components, has the diagram's cable where both have the same boxes.
--
-- A cable depends on the strands of the labels at its items alone.
use Rattle.std.proofs.Common.{◌≡◌, ℕ, List, [], ◌∷◌, nat_le, refl, sym, ap, subst}
use Rattle.std.specs.List.{AllByRecursion}
use Rattle.root_quantum.specs.Parameters.{Parameters}
use Rattle.pd_reader.specs.declared.item.Item.{Item}
use Rattle.pd_reader.specs.Items.{item_labels}
use Rattle.pd_reader.specs.Diagrams.{labels}
use Rattle.cables.specs.Strands.{second_names}
use Rattle.cables.specs.Cables.{as_net}
use Rattle.cables.specs.Nets.{net_strands}
use Rattle.cables.proofs.SameCables.{AreAlike, same_cable}
use Rattle.coloured_values.specs.Coloured.{colour_of, is_boxed, diagram_strands}
use Rattle.coloured_values.specs.Laws.{NetOfDiagramLaw}
use Rattle.coloured_values.proofs.CabledDiagrams.{labels-as_net}

module _ (p : Parameters) (items : List Item) (colours : List ℕ) where
  alike : (ls : List ℕ) → AllByRecursion (λ label. is_boxed items colours label ≡ nat_le 2 (colour_of items colours label)) ls →
      AllByRecursion (AreAlike (net_strands p (colour_of items colours)) (diagram_strands p items colours)) ls
  alike [] h = tt
  alike (l ∷ ls) h = (record { first = refl; second = ap (λ b. second_names (colour_of items colours l) b l) (sym h.0); boxed = sym h.0 }, alike ls h.1)

-- THE NET OF A DIAGRAM
pub net_of_diagram : NetOfDiagramLaw
net_of_diagram p items colours boxes =
    let same = AreAlike (net_strands p (colour_of items colours)) (diagram_strands p items colours) in
    same_cable (net_strands p (colour_of items colours)) (diagram_strands p items colours) refl p (as_net items)
    (subst (AllByRecursion same) (sym (labels-as_net items)) (alike p items colours (labels item_labels items) boxes))
