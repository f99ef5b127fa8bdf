-- The component of an edge without a box: where the edge is cut, both its ends reach the label with the component's box, and no other box.
use Rattle.std.proofs.Common.{◌≡◌, ℕ, ◌+◌, ◌<◌, ◌≤◌, ◌==◌, ◌&&◌, nat_le, Bool, true, false, cond, List, [], ◌∷◌, sym, ap, ◌∙◌, arith, ⊎_elim, subst}
use Rattle.std.specs.List.{AllByRecursion}
use Rattle.std.specs.Set.{is_member}
use Rattle.std.proofs.lemmas.Bool.{cases_Bool}
use Rattle.std.proofs.lemmas.Bool.Decides.{nat_tests}
use Rattle.graph_parts.proofs.LeastLabels.{AreLeast-labels, least_label-Joined}
use Rattle.graph_parts.specs.LeastNames.{least_label}
use Rattle.graph_parts.specs.Walks.{Joined, on}
use Rattle.list_lemmas.specs.Times.{times_in}
use Rattle.list_lemmas.proofs.Times.{member_of_times, times_none, times_of_member}
use Rattle.state_sums.specs.Networks.{Node}
use Rattle.state_sums.specs.StateSums.{value}
use Rattle.root_quantum.specs.Parameters.{Parameters}
use Rattle.root_quantum.specs.QuantumNumbers.{loop_value}
use Rattle.pd_reader.specs.declared.item.Item.{Item}
use Rattle.pd_reader.specs.declared.item.Item.TheVariants as item
use Rattle.pd_reader.specs.Items.{item_labels, HasItsSlots}
use Rattle.pd_reader.specs.Diagrams.{labels, IsDiagram}
use Rattle.planar_check.specs.Components.{component_least, least_labels, strand_edges}
use Rattle.planar_check.specs.declared.sign.Sign.{Sign}
use Rattle.cables.specs.Nets.{HasProjector}
use Rattle.cables.specs.Strands.{Strands}
use Rattle.coloured_values.specs.Coloured.{colour_of, is_boxed}
use Rattle.coloured_values.specs.Laws.{HasColours}
use Rattle.diagram_moves.specs.Laws.{IsPairedDiagram}
use Rattle.diagram_moves.specs.Moves.{second_place, curl_slots}
use Rattle.diagram_moves.specs.Rewriting.{crossing_labels, fresh}
use Rattle.diagram_moves.proofs.Curling.{label, label_n1, low, sizes-curled}
use Rattle.diagram_moves.proofs.Paired.{paired}
use Rattle.diagram_moves.proofs.PlaceLemmas.{one_place, sizes-at_places, second_place_of, fresh_above, times_one_place, crossing_labels-at_places}
use Rattle.diagram_moves.proofs.Pushing.{crossing_label}
use Rattle.move_results.proofs.CurledComponents.{curled_contracts, curled_components}
use Rattle.move_results.proofs.LeastLabelLists.{Contracts, least_is}
use Rattle.coloured_moves.proofs.CurledCables as cables
use Rattle.coloured_moves.proofs.SameComponents.{contracted_boxed, contracted_colour, contracted_least, lowered_unboxed}
use Rattle.coloured_curls.proofs.CutStubs as stubs
use Rattle.coloured_curls.proofs.CutStubs.{joined_in}
use Rattle.coloured_curls.proofs.CutWalks.{ends_joined, still_joined}

-- ---- diagrams
module _ (p : Parameters) (items : List Item) (pd : IsPairedDiagram items) (e : ℕ) (has_e : is_member ◌==◌ (crossing_labels items) e ≡ true) (sign : Sign) (colours : List ℕ) (room : fresh items + 3 ≤ 2000000)
    (after_is : IsDiagram (cables.after p items pd e has_e sign colours room)) (has : HasColours (cables.after p items pd e has_e sign colours room) colours) (projectors : AllByRecursion (HasProjector p) colours)
    (tall : 2 ≤ colour_of items colours e) (unboxed : is_boxed items colours e ≡ false) where
  abbrev pub after : List Item
  after = cables.after p items pd e has_e sign colours room

  abbrev pub R : List Item
  R = cables.R p items pd e has_e sign colours room

  abbrev pub new : List Item
  new = item.X (curl_slots e (fresh items + 1) (fresh items) sign) ∷ []

  abbrev pub S : Strands
  S = cables.S p items pd e has_e sign colours room after_is has

  abbrev pub c : ℕ
  c = colour_of items colours e

  abbrev pub CR : List Node
  CR = cables.CR p items pd e has_e sign colours room after_is has

  abbrev pub X1 : List Node
  X1 = cables.X1 p items pd e has_e sign colours room after_is has

  abbrev pub free : ℕ
  free = cables.free p items pd e has_e sign colours room after_is has

  abbrev pub v : ℕ
  v = cables.v p items pd e has_e sign colours room

  abbrev pub M : List ℕ
  M = cables.M p items pd e has_e sign colours room after_is has

  abbrev pub V : List Node → ℕ
  V ns = value p.modulus (loop_value p) record { nodes = ns; free_loops = free }

  abbrev pub colour : ℕ → ℕ
  colour l = colour_of after colours l

  abbrev pub boxed : ℕ → Bool
  boxed l = is_boxed after colours l

  abbrev pub es : List (ℕ × ℕ)
  es = strand_edges R

  contracts : Contracts after items (label items pd e has_e sign)
  contracts = curled_contracts items pd e has_e sign

  comps : least_labels after ≡ least_labels items
  comps = curled_components items pd e has_e sign

  sizes : AllByRecursion HasItsSlots after
  sizes = sizes-curled items pd e has_e sign

  pub sizes_R : AllByRecursion HasItsSlots R
  sizes_R = sizes-at_places (one_place (second_place items e) v) 0 items pd.sizes

  low_e : e < fresh items
  low_e = low items pd e has_e sign

  -- ---- the cut edge's labels stand once
  times_R : (z : ℕ) → times_in (crossing_labels R) z + cond (z == e) 1 0 ≡ times_in (crossing_labels items) z + cond (z == v) 1 0
  times_R z =
      let se = second_place_of items e has_e in
      let t = times_one_place (crossing_labels items) (second_place items e) v e z se.0 se.1 in
      let same = ap (λ ns. times_in ns z) (crossing_labels-at_places (one_place (second_place items e) v) 0 items) in
      omega (arith, t, same)

  pub once_e : times_in (crossing_labels R) e ≡ 1
  once_e =
      let t = times_R e in
      let two = paired items pd e (times_of_member e (crossing_labels items) has_e) in
      let l = low_e in
      plain (times_in (crossing_labels R) e) (times_in (crossing_labels items) e) e (fresh items) t two l
    where
      plain : (t k e n : ℕ) → t + cond (e == e) 1 0 ≡ k + cond (e == n + 1) 1 0 → k ≡ 2 → e < n → t ≡ 1
      plain t k e n h w l = grind (arith, nat_tests, h, w, l)

  pub once_v : times_in (crossing_labels R) v ≡ 1
  once_v =
      let t = times_R v in
      let none : times_in (crossing_labels items) v ≡ 0 =
      times_none (crossing_labels items) v (⊎_elim (λ m. absurd (let l = fresh_above items v (crossing_label items v m) in omega (arith, l))) (λ m. m) (cases_Bool (is_member ◌==◌ (crossing_labels items) v))) in
      let l = low_e in
      plain (times_in (crossing_labels R) v) (times_in (crossing_labels items) v) e (fresh items) t none l
    where
      plain : (t k e n : ℕ) → t + cond (n + 1 == e) 1 0 ≡ k + cond (n + 1 == n + 1) 1 0 → k ≡ 0 → e < n → t ≡ 1
      plain t k e n h w l = grind (arith, nat_tests, h, w, l)

  pub e_R : is_member ◌==◌ (crossing_labels R) e ≡ true
  e_R = member_of_times e (crossing_labels R) (let o = once_e in omega (arith, o))

  pub v_R : is_member ◌==◌ (crossing_labels R) v ≡ true
  v_R = member_of_times v (crossing_labels R) (let o = once_v in omega (arith, o))

  -- ---- the label with the box
  abbrev pub l0 : ℕ
  l0 = component_least items e

  to_least : Joined (strand_edges items) e l0
  to_least =
      let es0 = strand_edges items in
      let m = crossing_label items e has_e in
      let J : ℕ → Type 0 = λ y. Joined es0 e y in
      subst J (sym (least_is items pd.sizes e m)) ((least_label-Joined es0 e (least_label es0 e)).0 (sym ((AreLeast-labels es0).itself e)))

  pub from_e : Joined es e l0
  from_e = still_joined items pd e has_e to_least

  pub from_v : Joined es v l0
  from_v = on (ends_joined items pd e has_e) from_e

  pub l0_R : is_member ◌==◌ (crossing_labels R) l0 ≡ true
  l0_R = (joined_in R sizes_R from_e).0 e_R

  l0_old : is_member ◌==◌ (labels item_labels items) l0 ≡ true
  l0_old = crossing_label items l0 ((joined_in items pd.sizes to_least).0 has_e)

  e_new : is_member ◌==◌ (labels item_labels after) e ≡ true
  e_new = stubs.label_of p R new after_is sizes_R colours has e e_R

  pub colour_e : colour e ≡ c
  colour_e =
      let m = crossing_label items e has_e in
      contracted_colour after items (label items pd e has_e sign) contracts sizes pd.sizes comps colours e e_new ∙ ap (colour_of items colours) (contracts.fixes e m)

  pub colour_l0 : colour l0 ≡ c
  colour_l0 = sym (stubs.same_colour p R new after_is sizes_R colours has e l0 from_e e_R) ∙ colour_e

  pub colour_v : colour v ≡ c
  colour_v = stubs.same_colour p R new after_is sizes_R colours has v l0 from_v v_R ∙ colour_l0

  least_l0 : component_least after l0 ≡ l0
  least_l0 =
      let m = crossing_label items e has_e in
      let back_e : component_least items (label items pd e has_e sign e) ≡ l0 = ap (component_least items) (contracts.fixes e m) in
      sym (stubs.same_least p R new after_is sizes_R colours has e l0 from_e e_R)
      ∙ contracted_least after items (label items pd e has_e sign) contracts sizes pd.sizes e e_new (ap (is_member ◌==◌ (labels item_labels items)) back_e ∙ l0_old)
      ∙ back_e

  pub boxed_l0 : boxed l0 ≡ true
  boxed_l0 = plain (colour l0) (component_least after l0) l0 (let k = colour_l0 in omega (arith, k, tall)) least_l0
    where
      plain : (c k e : ℕ) → 2 ≤ c → k ≡ e → (nat_le 2 c && k == e) ≡ true
      plain c k e l h = grind (arith, nat_tests, l, h)

  pub free_e : boxed e ≡ false
  free_e = contracted_boxed after items (label items pd e has_e sign) contracts sizes pd.sizes comps colours e (crossing_label items e has_e) ∙ unboxed

  pub free_v : boxed v ≡ false
  free_v =
      lowered_unboxed after items (label items pd e has_e sign) contracts sizes pd.sizes comps colours v (stubs.label_of p R new after_is sizes_R colours has v v_R)
      (let t = label_n1 items pd e has_e sign in let l = low_e in omega (arith, t, l))

  -- no other label of the component has a box
  pub only_box : (l : ℕ) → Joined es l0 l → boxed l ≡ true → l ≡ l0
  only_box l j b =
      let own : component_least after l ≡ l = second (nat_le 2 (colour l)) (component_least after l) l b in
      sym own ∙ sym (stubs.same_least p R new after_is sizes_R colours has l0 l j l0_R) ∙ least_l0
    where
      second : (t : Bool) (k l : ℕ) → (t && k == l) ≡ true → k ≡ l
      second t k l h = grind (arith, nat_tests, h)
