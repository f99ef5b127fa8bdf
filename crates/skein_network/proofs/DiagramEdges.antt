-- The edges of a diagram have the colours of the components, at the labels that stand in it. So their cable is the diagram's.
-- Opposite slots have one colour, each colour of at least 2 is of the list, and the weights of the cable are residues.
use Rattle.std.proofs.Common.{◌≡◌, ℕ, zero, suc, ◌-◌, ◌≤◌, ◌==◌, Bool, true, false, cond, List, [], ◌∷◌, length, map, slice_index, count_by, nat_le, le-leb, ◌&&◌, if◌then◌else◌, Some, None, unwrap_or, refl, sym, ap, ap₂, subst, ◌∙◌, arith, ⊎_elim}
use Rattle.std.specs.List.{AllByRecursion}
use Rattle.std.specs.Set.{is_member}
use Rattle.std.proofs.lemmas.Bool.{cases_Bool, and_parts, eq-eqb, or_left, or_right}
use Rattle.std.proofs.lemmas.Bool.Decides.{nat_tests}
use Rattle.state_sums.specs.Networks.{WeightsBelow}
use Rattle.root_quantum.specs.Parameters.{Parameters}
use Rattle.pd_reader.specs.declared.item.Item.{Item}
use Rattle.pd_reader.specs.Items.{item_labels, HasItsSlots}
use Rattle.pd_reader.specs.Diagrams.{labels, IsDiagram}
use Rattle.planar_check.specs.Components.{distinct, component_least, component_of, greatest, least_labels, number_of}
use Rattle.planar_check.proofs.ComponentLists.{distinct-member}
use Rattle.planar_check.proofs.ComponentNumbers.{least_at_number}
use Rattle.cables.specs.Strands.{first_names, second_names}
use Rattle.cables.specs.Cables.{cable, as_net, Fits}
use Rattle.cables.specs.Nets.{projector_of}
use Rattle.cables.proofs.NumberedStrands.{first_length}
use Rattle.cables.proofs.SameCables.{AreAlike, same_cable}
use Rattle.coloured_values.specs.Coloured.{colour_of, is_boxed, diagram_strands, cabled}
use Rattle.coloured_values.proofs.CabledDiagrams.{labels-as_net, same_least, fits_from, cabled_network}
use Rattle.skein_network.specs.declared.edge.Edge.{Edge}
use Rattle.skein_network.specs.Edges.{colour_at, boxed_at, diagram_edge, strands_at}
use Rattle.skein_network.specs.Colourings.{AreColoured}

-- ---- the edge of a label, from the number of its component
number_is : (items : List Item) (label k : ℕ) → is_member ◌==◌ (labels item_labels items) label ≡ true → component_of items label ≡ Some k → k ≡ number_of items label
number_is items label k m e =
    sym (ap (λ o. unwrap_or o 0) (sym (ap (λ b. if b then Some (number_of items label) else None) m) ∙ e))

pub edge_is : (items : List Item) (colours : List ℕ) → AllByRecursion HasItsSlots items → (label : ℕ) → is_member ◌==◌ (labels item_labels items) label ≡ true → (k least : ℕ) →
    component_of items label ≡ Some k → least ≡ slice_index (least_labels items) (k - 1) → 2 ≤ slice_index colours (k - 1) →
    record { label = label; colour = slice_index colours (k - 1); boxed = least == label } ≡ diagram_edge items colours label
edge_is items colours sizes label m k least component at some =
    let number = number_is items label k m component in
    let colour : slice_index colours (k - 1) ≡ colour_of items colours label = ap (λ j. slice_index colours (j - 1)) number in
    let low : nat_le 2 (colour_of items colours label) ≡ true = le-leb 2 (colour_of items colours label) (omega (arith, some, colour)) in
    let own : least ≡ component_least items label = at ∙ ap (λ j. slice_index (least_labels items) (j - 1)) number ∙ least_at_number items sizes label m in
    ap₂ (edge_with label) colour (ap (λ l. l == label) own ∙ sym (ap (λ b. b && (component_least items label == label)) low))
  where
    edge_with : ℕ → ℕ → Bool → Edge
    edge_with label colour boxed = record { label = label; colour = colour; boxed = boxed }

-- what holds of each member holds of the list
every : (P : ℕ → Type 0) (ls : List ℕ) → ((x : ℕ) → is_member ◌==◌ ls x ≡ true → P x) → AllByRecursion P ls
every P [] h = tt
every P (x ∷ ls) h = (h x (grind (arith, nat_tests)), every P ls (λ y m. h y (grind (arith, nat_tests, m))))

module _ (items : List Item) (colours : List ℕ) where
  -- ---- at a label of the list, and at any other
  colour_listed : (names : List ℕ) (label : ℕ) → is_member ◌==◌ names label ≡ true → colour_at (map (diagram_edge items colours) names) label ≡ colour_of items colours label
  colour_listed [] label m = absurd (grind (arith, m))
  colour_listed (n ∷ names) label m =
      elim (n == label) as (λ b. (n == label) ≡ b → cond b (colour_of items colours n) (colour_at (map (diagram_edge items colours) names) label) ≡ colour_of items colours label) [
        | true ↦ λ t. ap (colour_of items colours) (let e : n ≡ label = grind (arith, nat_tests, t) in e)
        | false ↦ λ t. colour_listed names label (grind (arith, nat_tests, t, m))
      ] refl

  boxed_listed : (names : List ℕ) (label : ℕ) → is_member ◌==◌ names label ≡ true → boxed_at (map (diagram_edge items colours) names) label ≡ is_boxed items colours label
  boxed_listed [] label m = absurd (grind (arith, m))
  boxed_listed (n ∷ names) label m =
      elim (n == label) as (λ b. (n == label) ≡ b → cond b (is_boxed items colours n) (boxed_at (map (diagram_edge items colours) names) label) ≡ is_boxed items colours label) [
        | true ↦ λ t. ap (is_boxed items colours) (let e : n ≡ label = grind (arith, nat_tests, t) in e)
        | false ↦ λ t. boxed_listed names label (grind (arith, nat_tests, t, m))
      ] refl

  colour_absent : (names : List ℕ) (label : ℕ) → is_member ◌==◌ names label ≡ false → colour_at (map (diagram_edge items colours) names) label ≡ 0
  colour_absent [] label m = refl
  colour_absent (n ∷ names) label m =
      elim (n == label) as (λ b. (n == label) ≡ b → cond b (colour_of items colours n) (colour_at (map (diagram_edge items colours) names) label) ≡ 0) [
        | true ↦ λ t. absurd (grind (arith, nat_tests, t, m))
        | false ↦ λ t. colour_absent names label (grind (arith, nat_tests, t, m))
      ] refl

  boxed_absent : (names : List ℕ) (label : ℕ) → is_member ◌==◌ names label ≡ false → boxed_at (map (diagram_edge items colours) names) label ≡ false
  boxed_absent [] label m = refl
  boxed_absent (n ∷ names) label m =
      elim (n == label) as (λ b. (n == label) ≡ b → cond b (is_boxed items colours n) (boxed_at (map (diagram_edge items colours) names) label) ≡ false) [
        | true ↦ λ t. absurd (grind (arith, nat_tests, t, m))
        | false ↦ λ t. boxed_absent names label (grind (arith, nat_tests, t, m))
      ] refl

  abbrev all : List ℕ
  all = labels item_labels items

  abbrev pub edges : List Edge
  edges = map (diagram_edge items colours) (distinct all)

  colour_here : (label : ℕ) → is_member ◌==◌ all label ≡ true → colour_at edges label ≡ colour_of items colours label
  colour_here label m = colour_listed (distinct all) label (distinct-member all label ∙ m)

  boxed_here : (label : ℕ) → is_member ◌==◌ all label ≡ true → boxed_at edges label ≡ is_boxed items colours label
  boxed_here label m = boxed_listed (distinct all) label (distinct-member all label ∙ m)

  -- ---- the colours
  member_at : (cs : List ℕ) (i : ℕ) → 2 ≤ slice_index cs i → is_member ◌==◌ cs (slice_index cs i) ≡ true
  member_at [] i h = absurd (omega (arith, h))
  member_at (c ∷ cs) zero h = or_left (c == c) (is_member ◌==◌ cs c) (eq-eqb c c refl)
  member_at (c ∷ cs) (suc i) h = or_right (slice_index cs i == c) (is_member ◌==◌ cs (slice_index cs i)) (member_at cs i h)

  -- THE EDGES HAVE COLOURS OF THE LIST
  pub diagram_coloured : AreColoured colours edges
  diagram_coloured = record {
    listed = λ label h.
        ⊎_elim
        (λ m. let e = colour_here label m in subst (λ k. is_member ◌==◌ colours k ≡ true) (sym e) (member_at colours (number_of items label - 1) (subst (λ k. 2 ≤ k) e h)))
        (λ m. let e = colour_absent (distinct all) label (distinct-member all label ∙ m) in absurd (omega (arith, e, h)))
        (cases_Bool (is_member ◌==◌ all label));
    some = λ label t.
        ⊎_elim
        (λ m.
        let e = colour_here label m in
        let both = and_parts (nat_le 2 (colour_of items colours label)) (component_least items label == label) (sym (boxed_here label m) ∙ t) in
        subst (λ k. 2 ≤ k) (sym e) (let u = both.0 in grind (arith, nat_tests, u)))
        (λ m. let e : false ≡ true = sym (boxed_absent (distinct all) label (distinct-member all label ∙ m)) ∙ t in absurd (cc e))
        (cases_Bool (is_member ◌==◌ all label));
  }

  module _ (p : Parameters) where
    -- ---- the strands at the labels of the items
    alike : (label : ℕ) → is_member ◌==◌ all label ≡ true → AreAlike (strands_at p edges) (diagram_strands p items colours) label
    alike label m =
        let c = colour_here label m in
        let b = boxed_here label m in
        record { first = ap (λ n. first_names n label) c; second = ap₂ (λ n t. second_names n t label) c b; boxed = b }

    -- THE CABLE OF THE EDGES
    pub diagram_cable : cable p (strands_at p edges) (as_net items) ≡ cabled p items colours
    diagram_cable =
        same_cable (strands_at p edges) (diagram_strands p items colours) refl p (as_net items)
        (subst (AllByRecursion (AreAlike (strands_at p edges) (diagram_strands p items colours))) (sym (labels-as_net items)) (every (AreAlike (strands_at p edges) (diagram_strands p items colours)) all alike))

    -- THE WEIGHTS OF THE CABLE ARE BELOW THE MODULUS
    pub diagram_weights : IsDiagram items → length colours ≡ length (least_labels items) → greatest colours ≤ 8 → WeightsBelow p.modulus (cabled p items colours).nodes
    diagram_weights diagram as_many few = (cabled_network p items colours diagram record { count = as_many; few = all_few colours few }).weights
      where
        all_few : (cs : List ℕ) → greatest cs ≤ 8 → AllByRecursion (λ colour. colour ≤ 8) cs
        all_few [] h = tt
        all_few (c ∷ cs) h = (omega (arith, h), all_few cs (omega (arith, h)))

    -- opposite slots have one colour
    pub diagram_fits : AllByRecursion HasItsSlots items → AllByRecursion (Fits (strands_at p edges)) (as_net items)
    diagram_fits sizes =
        fits_from (strands_at p edges) items sizes (λ x y e mx my.
        let same : colour_of items colours x ≡ colour_of items colours y = ap (λ k. slice_index colours (count_by (λ first. nat_le first k) (least_labels items) - 1)) (same_least items sizes x y e mx my) in
        first_length (colour_at edges) (boxed_at edges) (projector_of p) x ∙ colour_here x mx ∙ same ∙ sym (colour_here y my)
        ∙ sym (first_length (colour_at edges) (boxed_at edges) (projector_of p) y))
