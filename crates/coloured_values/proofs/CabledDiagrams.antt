-- A diagram is a net without vertices, whose colours fit: opposite slots of a crossing are of one component. So its cable is a
-- network.
use Rattle.std.proofs.Common.{◌≡◌, ℕ, zero, suc, ◌-◌, ◌≤◌, ◌==◌, true, List, [], ◌∷◌, ◌++◌, length, slice_index, count_by, nat_le, refl, sym, ap, ◌∙◌, arith, Contains, subst}
use Rattle.std.specs.List.{AllByRecursion}
use Rattle.std.specs.Set.{is_member}
use Rattle.std.proofs.lemmas.Bool.{or_left, or_right, eq-eqb}
use Rattle.graph_parts.specs.Walks.{along}
use Rattle.graph_parts.proofs.Distinct.{is_member-append}
use Rattle.graph_parts.proofs.PartLaws as parts
use Rattle.root_quantum.specs.Parameters.{Parameters}
use Rattle.pd_reader.specs.declared.item.Item.{Item}
use Rattle.pd_reader.specs.declared.item.Item.TheVariants.{X, Loop}
use Rattle.pd_reader.specs.Items.{item_labels, net_item_labels, HasItsSlots, HasItsEdges}
use Rattle.list_lemmas.specs.Times.{times_in}
use Rattle.pd_reader.specs.Diagrams.{labels, IsLabel, IsDiagram, IsNet}
use Rattle.planar_check.specs.Components.{strand_edges, component_least, least_labels, number_of}
use Rattle.planar_check.proofs.Strands.{strands_inside}
use Rattle.cables.specs.Strands.{Strands}
use Rattle.cables.specs.Cables.{Fits, as_net}
use Rattle.cables.specs.Nets.{projector_of}
use Rattle.cables.proofs.CableLaws.{cable_network}
use Rattle.cables.proofs.NumberedStrands.{first_length}
use Rattle.cables.proofs.ProjectorBoxes.{projector_boxes}
use Rattle.coloured_values.specs.Coloured.{colour_of, is_boxed, diagram_strands}
use Rattle.coloured_values.specs.Laws.{CabledDiagramIsNetworkLaw}

pub labels-as_net : (items : List Item) → labels net_item_labels (as_net items) ≡ labels item_labels items
labels-as_net [] = refl
labels-as_net (X slots ∷ items) = ap (λ ls. slots ++ ls) (labels-as_net items)
labels-as_net (Loop label ∷ items) = ap (λ ls. label ∷ label ∷ ls) (labels-as_net items)

length-as_net : (items : List Item) → length (as_net items) ≡ length items
length-as_net [] = refl
length-as_net (item ∷ items) = ap suc (length-as_net items)

sizes-as_net : (items : List Item) → AllByRecursion HasItsSlots items → AllByRecursion HasItsEdges (as_net items)
sizes-as_net [] h = tt
sizes-as_net (X slots ∷ items) h = (h.0, sizes-as_net items h.1)
sizes-as_net (Loop label ∷ items) h = (tt, sizes-as_net items h.1)

pub IsNet-as_net : (items : List Item) → IsDiagram items → IsNet (as_net items)
IsNet-as_net items h =
    let e = labels-as_net items in
    record {
      few = (let l = length-as_net items in let f = h.few in omega (arith, l, f));
      sizes = sizes-as_net items h.sizes;
      in_range = subst (AllByRecursion IsLabel) (sym e) h.in_range;
      twice = subst (λ ls. AllByRecursion (λ label. times_in ls label ≡ 2) ls) (sym e) h.twice;
    }

-- no colour above 8
entry_few : (colours : List ℕ) → AllByRecursion (λ colour. colour ≤ 8) colours → (i : ℕ) → slice_index colours i ≤ 8
entry_few [] h i = omega arith
entry_few (c ∷ colours) h zero = h.0
entry_few (c ∷ colours) h (suc i) = entry_few colours h.1 i

pub few_colours : (items : List Item) (colours : List ℕ) → AllByRecursion (λ colour. colour ≤ 8) colours → (label : ℕ) → colour_of items colours label ≤ 8
few_colours items colours h label = entry_few colours h (number_of items label - 1)

-- labels that a strand joins are of one component
pub same_least : (items : List Item) → AllByRecursion HasItsSlots items → (x y : ℕ) → Contains (strand_edges items) (x, y) →
    is_member ◌==◌ (labels item_labels items) x ≡ true → is_member ◌==◌ (labels item_labels items) y ≡ true → component_least items x ≡ component_least items y
unfolding component_least
same_least items sizes x y there mx my =
    let ls = labels item_labels items in
    (parts.least_names_tell ls (strand_edges items) x y (strands_inside (is_member ◌==◌ ls) items sizes (λ z m. m)) mx my).1 (along there)

module _ (strands : Strands) where
  -- the strands that each crossing joins are as many
  Meets : ℕ × ℕ → Type 0
  Meets e = length (strands.first e.0) ≡ length (strands.first e.1)

  pub fits_from : (items : List Item) → AllByRecursion HasItsSlots items → ((x y : ℕ) → Contains (strand_edges items) (x, y) → is_member ◌==◌ (labels item_labels items) x ≡ true →
      is_member ◌==◌ (labels item_labels items) y ≡ true → length (strands.first x) ≡ length (strands.first y)) → AllByRecursion (Fits strands) (as_net items)
  fits_from [] sizes h = tt
  fits_from (X (a ∷ b ∷ c ∷ d ∷ []) ∷ items) sizes h =
      let ls = labels item_labels items in
      let at : (n : ℕ) (x : ℕ) → is_member ◌==◌ (a ∷ b ∷ c ∷ d ∷ []) x ≡ true → is_member ◌==◌ ((a ∷ b ∷ c ∷ d ∷ []) ++ ls) x ≡ true =
      λ n x m. is_member-append (a ∷ b ∷ c ∷ d ∷ []) ls x ∙ or_left (is_member ◌==◌ (a ∷ b ∷ c ∷ d ∷ []) x) (is_member ◌==◌ ls x) m in
      let self : (x : ℕ) → (x == x) ≡ true = λ x. eq-eqb x x refl in
      let ma = or_left (a == a) (is_member ◌==◌ (b ∷ c ∷ d ∷ []) a) (self a) in
      let mb = or_right (b == a) (is_member ◌==◌ (b ∷ c ∷ d ∷ []) b) (or_left (b == b) (is_member ◌==◌ (c ∷ d ∷ []) b) (self b)) in
      let mc = or_right (c == a) (is_member ◌==◌ (b ∷ c ∷ d ∷ []) c) (or_right (c == b) (is_member ◌==◌ (c ∷ d ∷ []) c) (or_left (c == c) (is_member ◌==◌ (d ∷ []) c) (self c))) in
      let md = or_right (d == a) (is_member ◌==◌ (b ∷ c ∷ d ∷ []) d) (or_right (d == b) (is_member ◌==◌ (c ∷ d ∷ []) d) (or_right (d == c) (is_member ◌==◌ (d ∷ []) d) (or_left (d == d) (is_member ◌==◌ [] d) (self d)))) in (
        (h a c (0, omega arith, refl) (at 0 a ma) (at 0 c mc), h b d (1, omega arith, refl) (at 0 b mb) (at 0 d md)),
        fits_from items sizes.1 (λ x y e mx my.
            h x y (suc (suc e.0), (let l = e.1 in omega (arith, l)), e.2)
            (is_member-append (a ∷ b ∷ c ∷ d ∷ []) ls x ∙ or_right (is_member ◌==◌ (a ∷ b ∷ c ∷ d ∷ []) x) (is_member ◌==◌ ls x) mx)
            (is_member-append (a ∷ b ∷ c ∷ d ∷ []) ls y ∙ or_right (is_member ◌==◌ (a ∷ b ∷ c ∷ d ∷ []) y) (is_member ◌==◌ ls y) my)),
      )
  fits_from (X [] ∷ items) sizes h = absurd (let k = sizes.0 in omega (arith, k))
  fits_from (X (a ∷ []) ∷ items) sizes h = absurd (let k = sizes.0 in omega (arith, k))
  fits_from (X (a ∷ b ∷ []) ∷ items) sizes h = absurd (let k = sizes.0 in omega (arith, k))
  fits_from (X (a ∷ b ∷ c ∷ []) ∷ items) sizes h = absurd (let k = sizes.0 in omega (arith, k))
  fits_from (X (a ∷ b ∷ c ∷ d ∷ e ∷ slots) ∷ items) sizes h = absurd (let k = sizes.0 in omega (arith, k))
  fits_from (Loop label ∷ items) sizes h = (
    tt,
    fits_from items sizes.1 (λ x y e mx my.
        let ls = labels item_labels items in
        h x y e (or_right (x == label) (is_member ◌==◌ (label ∷ ls) x) (or_right (x == label) (is_member ◌==◌ ls x) mx)) (or_right (y == label) (is_member ◌==◌ (label ∷ ls) y) (or_right (y == label) (is_member ◌==◌ ls y) my))),
  )

diagram_fits : (p : Parameters) (items : List Item) (colours : List ℕ) → AllByRecursion HasItsSlots items → AllByRecursion (Fits (diagram_strands p items colours)) (as_net items)
diagram_fits p items colours sizes =
    let n = colour_of items colours in
    let b = is_boxed items colours in
    fits_from (diagram_strands p items colours) items sizes (λ x y e mx my.
    first_length n b (projector_of p) x
    ∙ same_colour items colours x y (same_least items sizes x y e mx my)
    ∙ sym (first_length n b (projector_of p) y))
  where
    same_colour : (items : List Item) (colours : List ℕ) (x y : ℕ) → component_least items x ≡ component_least items y → colour_of items colours x ≡ colour_of items colours y
    same_colour items colours x y e = ap (λ k. slice_index colours (number_by items k - 1)) e
      where
        number_by : List Item → ℕ → ℕ
        number_by items least = count_by (λ first. nat_le first least) (least_labels items)

-- THE CABLE OF A DIAGRAM IS A NETWORK
pub cabled_network : CabledDiagramIsNetworkLaw
cabled_network p items colours diagram has =
    cable_network p (colour_of items colours) (is_boxed items colours) (projector_of p) (as_net items) (IsNet-as_net items diagram) (few_colours items colours has.few) (projector_boxes p)
    (diagram_fits p items colours diagram.sizes)
