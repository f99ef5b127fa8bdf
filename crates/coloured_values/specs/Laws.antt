-- The laws of coloured diagrams: their cables are networks, and what a loop with a new label behind the items does to components, values,
-- Kirby sums and surgery values.
--
--     HasColours items colours        one colour for each component, each at most 8
--     IsAddedLabel items label        a label of a diagram past all labels of the items
--     blown_up diagram label e        the diagram with a loop of that label, framed e
use Rattle.std.specs.Prelude.{◌≡◌, ℕ, ◌*◌, ◌%◌, ◌<◌, ◌≤◌, ◌⊎◌, ℤ, pos, negsuc, nat_le, List, [], ◌∷◌, ◌++◌, length}
use Rattle.std.specs.List.{AllByRecursion}
use Rattle.root_quantum.specs.Parameters.{Parameters}
use Rattle.root_quantum.specs.Colours.{form_colours}
use Rattle.root_quantum.specs.QuantumNumbers.{delta}
use Rattle.pd_reader.specs.declared.item.Item.{Item}
use Rattle.pd_reader.specs.declared.item.Item.TheVariants.{Loop}
use Rattle.pd_reader.specs.Items.{item_labels}
use Rattle.pd_reader.specs.Diagrams.{labels, IsDiagram}
use Rattle.planar_check.specs.Components.{greatest, least_labels}
use Rattle.diagram_brackets.specs.Brackets.{bracket}
use Rattle.cables.specs.Laws.{IsSmallNetwork}
use Rattle.cables.specs.Cables.{as_net}
use Rattle.cables.specs.Nets.{HasProjector, cabled_net}
use Rattle.coloured_values.specs.Coloured.{colour_of, is_boxed, cabled, coloured}
use Rattle.planar_check.specs.Framings.{FramedDiagram}
use Rattle.inertia_laws.specs.Certificates.{bordered}
use Rattle.coloured_values.specs.Surgery.{kirby, omega_sum, matrix_of, component_count, surgery, HasSurgeryValue}

-- One colour for each component, none above 8.
pub record HasColours (items : List Item) (colours : List ℕ) : Type 0 where
  pub count : length colours ≡ length (least_labels items)
  pub few : AllByRecursion (λ colour. colour ≤ 8) colours

-- A label past all labels of the items.
pub record IsAddedLabel (items : List Item) (label : ℕ) : Type 0 where
  pub past : greatest (labels item_labels items) < label
  pub high : label ≤ 2000000

-- The cable of a diagram is a network within the limits of the types.
abbrev pub CabledDiagramIsNetworkLaw : Type 0
CabledDiagramIsNetworkLaw = (p : Parameters) (items : List Item) (colours : List ℕ) → IsDiagram items → HasColours items colours → IsSmallNetwork p.modulus (cabled p items colours)

-- The net of a link diagram, each label with the colour of its component, has the diagram's cable where both have the same
-- boxes: so where no colour is above 1, and where there is no crossing.
abbrev pub NetOfDiagramLaw : Type 0
NetOfDiagramLaw =
    (p : Parameters) (items : List Item) (colours : List ℕ) → AllByRecursion (λ label. is_boxed items colours label ≡ nat_le 2 (colour_of items colours label)) (labels item_labels items) →
    cabled_net p (as_net items) (colour_of items colours) ≡ cabled p items colours

-- With all colours 1 the value is the bracket.
abbrev pub AllColoursOneLaw : Type 0
AllColoursOneLaw =
    (p : Parameters) (items : List Item) (colours : List ℕ) → IsDiagram items → length colours ≡ length (least_labels items) → AllByRecursion (λ colour. colour ≡ 1) colours →
    coloured p items colours ≡ bracket p items

-- A loop with a new label is one component more, the last, and multiplies the value by Delta_n.
abbrev pub AddedComponentLaw : Type 0
AddedComponentLaw =
    (p : Parameters) (items : List Item) (colours : List ℕ) (label n : ℕ) → IsDiagram items → HasColours items colours → n ≤ 8 → HasProjector p n → IsAddedLabel items label →
    coloured p (items ++ Loop label ∷ []) (colours ++ n ∷ []) ≡ coloured p items colours * delta p n % p.modulus

-- A loop with a new label, framed e, multiplies the Kirby sum by the sum over all colours n of Delta_n^2 mu_n^e: the heart of
-- blow-ups, whichever colours are summed over.
abbrev pub AddedFramedLoopLaw : Type 0
AddedFramedLoopLaw =
    (p : Parameters) (items : List Item) (framings : List ℤ) (label : ℕ) (e : ℤ) →
    IsDiagram items → length framings ≡ length (least_labels items) → IsAddedLabel items label → AllByRecursion (λ n. HasProjector p n) (form_colours p) →
    kirby p (items ++ Loop label ∷ []) (framings ++ e ∷ []) ≡ kirby p items framings * omega_sum p e % p.modulus

-- A diagram with a loop of a new label behind its items, framed e.
abbrev pub blown_up : FramedDiagram → ℕ → ℤ → FramedDiagram
blown_up diagram label e = record { items = diagram.items ++ Loop label ∷ []; framings = diagram.framings ++ e ∷ [] }

-- Its linking matrix has one place more, with e on the diagonal and 0 elsewhere.
abbrev pub BlownUpMatrixLaw : Type 0
BlownUpMatrixLaw =
    (diagram : FramedDiagram) (label : ℕ) (e : ℤ) → IsDiagram diagram.items → length diagram.framings ≡ component_count diagram → IsAddedLabel diagram.items label →
    matrix_of (blown_up diagram label e) ≡ bordered (component_count diagram) e (matrix_of diagram)

-- A blow-up keeps the surgery value (Kirby's first move).
abbrev pub BlowUpKeepsSurgeryLaw : Type 0
BlowUpKeepsSurgeryLaw =
    (p : Parameters) (diagram : FramedDiagram) (label : ℕ) (e : ℤ) → (e ≡ pos 1) ⊎ (e ≡ negsuc 0) →
    IsDiagram diagram.items → length diagram.framings ≡ component_count diagram → IsAddedLabel diagram.items label → HasSurgeryValue p (blown_up diagram label e) →
    surgery p (blown_up diagram label e) ≡ surgery p diagram
