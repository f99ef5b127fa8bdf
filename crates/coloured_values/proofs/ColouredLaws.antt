-- With all colours 1 the value is the bracket; a loop with a new label multiplies the value by Delta_n.
use Rattle.std.proofs.Common.{◌≡◌, ℕ, zero, suc, ◌+◌, ◌-◌, ◌*◌, ◌%◌, ◌<◌, ◌≤◌, ◌==◌, ◌&&◌, nat_le, true, false, List, [], ◌∷◌, ◌++◌, length, slice_index, count_by, refl, sym, ap, ap₂, ◌∙◌, arith, subst, ⊎_elim}
use Rattle.std.specs.List.{AllByRecursion}
use Rattle.std.specs.Set.{is_member}
use Rattle.std.proofs.lemmas.Bool.{or_left, or_right, eq-eqb}
use Rattle.std.proofs.lemmas.List.{get_or_append_left, get_or-append_right}
use Rattle.state_sums.specs.StateSums.{value}
use Rattle.list_lemmas.specs.Times.{times_in}
use Rattle.root_quantum.specs.Parameters.{Parameters}
use Rattle.root_quantum.specs.QuantumNumbers.{loop_value, delta}
use Rattle.pd_reader.specs.declared.item.Item.{Item}
use Rattle.pd_reader.specs.declared.item.Item.TheVariants.{Loop}
use Rattle.pd_reader.specs.declared.item.NetItem.TheVariants as net_items
use Rattle.pd_reader.specs.Items.{item_labels, net_item_labels, HasItsSlots}
use Rattle.pd_reader.specs.Diagrams.{labels, IsDiagram}
use Rattle.planar_check.specs.Components.{greatest, component_least, least_labels, number_of}
use Rattle.planar_check.proofs.FewComponents.{number_first, number_last}
use Rattle.planar_check.proofs.Strands.{member_at_most}
use Rattle.diagram_brackets.specs.Brackets.{bracket, bracket_network}
use Rattle.strand_algebra.specs.Projectors.{IsProjector}
use Rattle.cables.specs.Strands.{Strands, strands_of, first_names, second_names}
use Rattle.cables.specs.Cables.{cable, Fits, as_net, net_item}
use Rattle.cables.specs.Nets.{projector_of}
use Rattle.cables.proofs.AddedLoops.{added_loop}
use Rattle.cables.proofs.LabelNames.{zero_or_some}
use Rattle.list_lemmas.proofs.Times.{member_of_times}
use Rattle.cables.proofs.NumberedStrands.{first_length}
use Rattle.cables.proofs.PlainCables.{plain_cable}
use Rattle.cables.proofs.ProjectorBoxes.{projector_boxes}
use Rattle.cables.proofs.SameCables.{AreAlike, same_cable}
use Rattle.coloured_values.specs.Coloured.{colour_of, is_boxed, diagram_strands, cabled, coloured}
use Rattle.coloured_values.specs.Laws.{AllColoursOneLaw, AddedComponentLaw}
use Rattle.coloured_values.proofs.AddedComponents.{component_least-added, number_of-added, number_of-last}
use Rattle.coloured_values.proofs.CabledDiagrams.{labels-as_net, IsNet-as_net, few_colours, same_least, fits_from}

-- what holds of each label holds of the list
pub each_label : (P : ℕ → Type 0) (ls : List ℕ) → ((x : ℕ) → is_member ◌==◌ ls x ≡ true → P x) → AllByRecursion P ls
each_label P [] h = tt
each_label P (x ∷ ls) h = (h x (or_left (x == x) (is_member ◌==◌ ls x) (eq-eqb x x refl)), each_label P ls (λ y m. h y (or_right (y == x) (is_member ◌==◌ ls y) m)))

pub all_labels : (P : ℕ → Type 0) (items : List Item) → ((x : ℕ) → is_member ◌==◌ (labels item_labels items) x ≡ true → P x) → AllByRecursion P (labels net_item_labels (as_net items))
all_labels P items h = subst (AllByRecursion P) (sym (labels-as_net items)) (each_label P (labels item_labels items) h)

one_entry : (colours : List ℕ) → AllByRecursion (λ colour. colour ≡ 1) colours → (i : ℕ) → i < length colours → slice_index colours i ≡ 1
one_entry [] h i l = absurd (omega (arith, l))
one_entry (c ∷ colours) h zero l = h.0
one_entry (c ∷ colours) h (suc i) l = one_entry colours h.1 i (omega (arith, l))

-- the cable with all colours 1 is the network of the bracket
pub cabled_ones : (p : Parameters) (items : List Item) (colours : List ℕ) → IsDiagram items → length colours ≡ length (least_labels items)
    → AllByRecursion (λ colour. colour ≡ 1) colours → cabled p items colours ≡ bracket_network p items
cabled_ones p items colours diagram count ones =
    let strands : Strands = diagram_strands p items colours in
    let plain : Strands = strands_of (λ label. 1) (λ label. false) (projector_of p) in
    same_cable strands plain refl p (as_net items)
    (all_labels (AreAlike strands plain) items (λ x m.
    let some = number_first items diagram.sizes x m in
    let most = number_last items x in
    let one : colour_of items colours x ≡ 1 = one_entry colours ones (number_of items x - 1) (omega (arith, some, most, count)) in
    let off : is_boxed items colours x ≡ false = ap (λ k. nat_le 2 k && component_least items x == x) one in
    record {
      first = ap (λ k. first_names k x) one;
      second = ap₂ (λ k b. second_names k b x) one off;
      boxed = off;
    }))
    ∙ plain_cable p (projector_of p) items diagram.sizes

-- ALL COLOURS ONE
pub all_ones : AllColoursOneLaw
unfolding coloured bracket
all_ones p items colours diagram count ones = ap (value p.modulus (loop_value p)) (cabled_ones p items colours diagram count ones)

module _ (items : List Item) (colours : List ℕ) (label n : ℕ) (sizes : AllByRecursion HasItsSlots items) (past : greatest (labels item_labels items) < label)
    (count : length colours ≡ length (least_labels items)) where
  abbrev added : List Item
  added = items ++ Loop label ∷ []

  abbrev more : List ℕ
  more = colours ++ n ∷ []

  -- the colours of the labels stay, and the new one has the last
  colour-added : (x : ℕ) → is_member ◌==◌ (labels item_labels items) x ≡ true → colour_of added more x ≡ colour_of items colours x
  colour-added x m =
      let some = number_first items sizes x m in
      let most = number_last items x in
      ap (λ k. slice_index more (k - 1)) (number_of-added items label sizes past x m)
      ∙ get_or_append_left colours (n ∷ []) 0 (number_of items x - 1) (omega (arith, some, most, count))

  colour-last : colour_of added more label ≡ n
  colour-last =
      ap (λ k. slice_index more (k - 1)) (number_of-last items label sizes past)
      ∙ get_or-append_right colours (n ∷ []) (length (least_labels items)) (length (least_labels items) + 1 - 1) 0 count (omega arith)
      ∙ (let z : length (least_labels items) + 1 - 1 - length (least_labels items) ≡ 0 = omega arith in ap (λ k. slice_index (n ∷ []) k) z)

  boxed-added : (x : ℕ) → is_member ◌==◌ (labels item_labels items) x ≡ true → is_boxed added more x ≡ is_boxed items colours x
  boxed-added x m = ap₂ (λ k l. nat_le 2 k && l == x) (colour-added x m) (component_least-added items label sizes past x m)

  alike-added : (p : Parameters) → AllByRecursion (AreAlike (diagram_strands p added more) (diagram_strands p items colours)) (labels net_item_labels (as_net items))
  alike-added p =
      all_labels (AreAlike (diagram_strands p added more) (diagram_strands p items colours)) items (λ x m.
      record {
        first = ap (λ k. first_names k x) (colour-added x m);
        second = ap₂ (λ k b. second_names k b x) (colour-added x m) (boxed-added x m);
        boxed = boxed-added x m;
      })

  fits-added : (p : Parameters) → AllByRecursion (Fits (diagram_strands p added more)) (as_net items)
  fits-added p =
      fits_from (diagram_strands p added more) items sizes (λ x y e mx my.
      first_length (colour_of added more) (is_boxed added more) (projector_of p) x
      ∙ colour-added x mx
      ∙ ap (λ k. slice_index colours (k - 1)) (same_number x y (same_least items sizes x y e mx my))
      ∙ sym (colour-added y my)
      ∙ sym (first_length (colour_of added more) (is_boxed added more) (projector_of p) y))
    where
      same_number : (x y : ℕ) → component_least items x ≡ component_least items y → number_of items x ≡ number_of items y
      same_number x y e = ap (λ (least : ℕ). count_by (λ first. nat_le first least) (least_labels items)) e

  no_label : times_in (labels net_item_labels (as_net items)) label ≡ 0
  no_label =
      let ls = labels item_labels items in
      ap (λ xs. times_in xs label) (labels-as_net items)
      ∙ ⊎_elim (λ e. e) (λ s. absurd (let k = s.1 in let b = member_at_most ls label (member_of_times label ls (omega (arith, k))) in omega (arith, b, past))) (zero_or_some (times_in ls label))

as_net-added : (items : List Item) (label : ℕ) → as_net (items ++ Loop label ∷ []) ≡ as_net items ++ net_items.Loop label ∷ []
as_net-added [] label = refl
as_net-added (item ∷ items) label = ap (λ xs. net_item item ∷ xs) (as_net-added items label)

few-added : (colours : List ℕ) (n : ℕ) → AllByRecursion (λ colour. colour ≤ 8) colours → n ≤ 8 → AllByRecursion (λ colour. colour ≤ 8) (colours ++ n ∷ [])
few-added [] n h b = (b, tt)
few-added (c ∷ colours) n h b = (h.0, few-added colours n h.1 b)

-- A LOOP MORE
pub added_component : AddedComponentLaw
unfolding coloured
added_component p items colours label n diagram has few projector new =
    let m = p.modulus in
    let d = loop_value p in
    let added : List Item = items ++ Loop label ∷ [] in
    let more : List ℕ = colours ++ n ∷ [] in
    let strands : Strands = diagram_strands p added more in
    let last = colour-last items colours label n diagram.sizes new.past has.count in
    ap (λ xs. value m d (cable p strands xs)) (as_net-added items label)
    ∙ added_loop p (colour_of added more) (is_boxed added more) (projector_of p) (as_net items) label (IsNet-as_net items diagram)
    (few_colours added more (few-added colours n has.few few)) (projector_boxes p) (fits-added items colours label n diagram.sizes new.past has.count p) new.high
    (no_label items colours label n diagram.sizes new.past has.count)
    (subst (λ k. IsProjector m d k (projector_of p k)) (sym last) projector)
    ∙ ap₂ (λ s k. value m d s * delta p k % m)
    (same_cable strands (diagram_strands p items colours) refl p (as_net items) (alike-added items colours label n diagram.sizes new.past has.count p))
    last
