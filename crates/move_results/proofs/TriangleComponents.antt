-- R3 keeps the components: before and after, the strands of the three crossings join the same labels.
use Rattle.std.proofs.Common.{◌≡◌, ℕ, ◌+◌, ◌<◌, false, ◌==◌, List, [], ◌∷◌, slice_index, Some, refl, sym, ap, arith, ⊎_elim, subst, Contains}
use Rattle.std.specs.List.{AllByRecursion}
use Rattle.pd_reader.specs.declared.item.Item.{Item}
use Rattle.pd_reader.specs.Items.{HasItsSlots}
use Rattle.state_sums.specs.LocalSums.{AreSkeinNumbers}
use Rattle.diagram_moves.specs.Rewriting.{slot, around, crossing_at, crossing_labels}
use Rattle.diagram_moves.specs.Moves.{moved_slots, triangle_slots, triangle_rewritten}
use Rattle.diagram_moves.specs.Laws.{IsPairedDiagram}
use Rattle.graph_parts.specs.Walks.{Joined, along, back, stay}
use Rattle.pd_reader.specs.Items.{item_labels}
use Rattle.pd_reader.specs.Diagrams.{labels}
use Rattle.planar_check.specs.Components.{strand_edges, least_labels}
use Rattle.move_results.proofs.ClosedComponents.{strand_picked, stays_within, kept_all, of_strands, joined_opposite, crossing_walks}
use Rattle.diagram_moves.proofs.KeptStrands.{kept_strands}
use Rattle.move_results.proofs.LeastLabelLists.{Contracts, least_labels_by, least_in_big, least_in_small}
use Rattle.diagram_moves.proofs.Paired.{times_labels}
use Rattle.list_lemmas.proofs.Times.{member_of_times, times_of_member}
use Rattle.diagram_moves.proofs.Rewritten.{kept_strands-rewritten, loop_labels-rewritten}
use Rattle.list_lemmas.specs.Times.{times_in}
use Rattle.diagram_moves.proofs.Triangles as triangle

module _ (m delta a b : ℕ) (numbers : AreSkeinNumbers m a b delta) (items : List Item) (pd : IsPairedDiagram items)
    (c : ℕ) (here : List ℕ) (found : crossing_at items c ≡ Some here)
    (d : ℕ) (there : List ℕ) (also : crossing_at items d ≡ Some there)
    (f : ℕ) (beyond : List ℕ) (too : crossing_at items f ≡ Some beyond)
    (apart_dc : (d == c) ≡ false) (apart_fc : (f == c) ≡ false) (apart_fd : (f == d) ≡ false)
    (k l j : ℕ) (low_k : k < 8) (low_l : l < 8) (low_j : j < 8)
    (edge_0 : slot there l ≡ slot here (k + 1)) (edge_1 : slot beyond j ≡ slot there (l + 1)) (edge_2 : slot here k ≡ slot beyond (j + 1)) where
  abbrev e0 : ℕ
  e0 = slot here (k + 1)

  abbrev e1 : ℕ
  e1 = slot there (l + 1)

  abbrev e2 : ℕ
  e2 = slot beyond (j + 1)

  abbrev after : List Item
  after = triangle_rewritten items c d f here there beyond k l j

  abbrev slots_of : ℕ → List ℕ → List ℕ
  slots_of = triangle_slots c d f here there beyond k l j

  abbrev new_here : List ℕ
  new_here = moved_slots k here (slot beyond (j + 3)) (slot there (l + 2))

  abbrev new_there : List ℕ
  new_there = moved_slots l there (slot here (k + 3)) (slot beyond (j + 2))

  abbrev new_beyond : List ℕ
  new_beyond = moved_slots j beyond (slot there (l + 3)) (slot here (k + 2))

  found_after : crossing_at after c ≡ Some new_here
  found_after = triangle.found_after m delta a b numbers items pd c here found d there also f beyond too apart_dc apart_fc apart_fd k l j low_k low_l low_j edge_0 edge_1 edge_2

  also_after : crossing_at after d ≡ Some new_there
  also_after = triangle.also_after m delta a b numbers items pd c here found d there also f beyond too apart_dc apart_fc apart_fd k l j low_k low_l low_j edge_0 edge_1 edge_2

  too_after : crossing_at after f ≡ Some new_beyond
  too_after = triangle.too_after m delta a b numbers items pd c here found d there also f beyond too apart_dc apart_fc apart_fd k l j low_k low_l low_j edge_0 edge_1 edge_2

  sizes_after : AllByRecursion HasItsSlots after
  sizes_after = triangle.sizes_after m delta a b numbers items pd c here found d there also f beyond too apart_dc apart_fc apart_fd k l j low_k low_l low_j edge_0 edge_1 edge_2

  around_here : around k here ≡ e2 ∷ e0 ∷ slot here (k + 2) ∷ slot here (k + 3) ∷ []
  around_here = triangle.around_here m delta a b numbers items pd c here found d there also f beyond too apart_dc apart_fc apart_fd k l j low_k low_l low_j edge_0 edge_1 edge_2

  around_there : around l there ≡ e0 ∷ e1 ∷ slot there (l + 2) ∷ slot there (l + 3) ∷ []
  around_there = triangle.around_there m delta a b numbers items pd c here found d there also f beyond too apart_dc apart_fc apart_fd k l j low_k low_l low_j edge_0 edge_1 edge_2

  around_beyond : around j beyond ≡ e1 ∷ e2 ∷ slot beyond (j + 2) ∷ slot beyond (j + 3) ∷ []
  around_beyond = triangle.around_beyond m delta a b numbers items pd c here found d there also f beyond too apart_dc apart_fc apart_fd k l j low_k low_l low_j edge_0 edge_1 edge_2

  around_new_here : around k new_here ≡ slot beyond (j + 3) ∷ slot there (l + 2) ∷ e2 ∷ e0 ∷ []
  around_new_here = triangle.around_new_here m delta a b numbers items pd c here found d there also f beyond too apart_dc apart_fc apart_fd k l j low_k low_l low_j edge_0 edge_1 edge_2

  around_new_there : around l new_there ≡ slot here (k + 3) ∷ slot beyond (j + 2) ∷ e0 ∷ e1 ∷ []
  around_new_there = triangle.around_new_there m delta a b numbers items pd c here found d there also f beyond too apart_dc apart_fc apart_fd k l j low_k low_l low_j edge_0 edge_1 edge_2

  around_new_beyond : around j new_beyond ≡ slot there (l + 3) ∷ slot here (k + 2) ∷ e1 ∷ e2 ∷ []
  around_new_beyond = triangle.around_new_beyond m delta a b numbers items pd c here found d there also f beyond too apart_dc apart_fc apart_fd k l j low_k low_l low_j edge_0 edge_1 edge_2

  after_times : (z : ℕ) → times_in (crossing_labels after) z ≡ times_in (crossing_labels items) z
  after_times = triangle.after_times m delta a b numbers items pd c here found d there also f beyond too apart_dc apart_fc apart_fd k l j low_k low_l low_j edge_0 edge_1 edge_2

  -- ---- the strands before and after join the same labels
  -- a strand of three crossings, or one that stays
  three_strands : (list : List Item) (x y z : List ℕ) → crossing_at list c ≡ Some x → crossing_at list d ≡ Some y → crossing_at list f ≡ Some z →
      (fs : List (ℕ × ℕ)) → Joined fs (slot x k) (slot x (k + 2)) → Joined fs (slot x (k + 1)) (slot x (k + 3)) → Joined fs (slot y l) (slot y (l + 2)) → Joined fs (slot y (l + 1)) (slot y (l + 3)) →
      Joined fs (slot z j) (slot z (j + 2)) → Joined fs (slot z (j + 1)) (slot z (j + 3)) →
      ((e : ℕ × ℕ) → Contains (kept_strands (f ∷ d ∷ c ∷ []) 1 list) e → Contains fs e) → (u v : ℕ) → Contains (strand_edges list) (u, v) → Joined fs u v
  three_strands list x y z at_c at_d at_f fs x0 x1 y0 y1 z0 z1 kept_in u v h =
      let P : List (ℕ × ℕ) → Type 0 = λ es. Contains es (u, v) in
      let jx = joined_opposite fs x k low_k x0 x1 in
      let jy = joined_opposite fs y l low_l y0 y1 in
      let jz = joined_opposite fs z j low_j z0 z1 in
      ⊎_elim
      (λ m. of_strands fs x jx.0 jx.1 u v m)
      (λ m. ⊎_elim
      (λ n. of_strands fs y jy.0 jy.1 u v n)
      (λ n. ⊎_elim
      (λ o. of_strands fs z jz.0 jz.1 u v o)
      (λ o. along (kept_in (u, v) o))
      (strand_picked (d ∷ c ∷ []) 1 list f z at_f (u, v) n))
      (strand_picked (c ∷ []) 1 list d y at_d (u, v) m))
      (strand_picked [] 1 list c x at_c (u, v) (subst P (sym (kept_all 1 list)) h))

  -- what is joined at one corner, told by its labels
  by_labels : (fs : List (ℕ × ℕ)) (i : ℕ) (slots : List ℕ) (w x y z : ℕ) → around i slots ≡ w ∷ x ∷ y ∷ z ∷ [] →
      Joined fs (slot slots i) (slot slots (i + 2)) × Joined fs (slot slots (i + 1)) (slot slots (i + 3)) → Joined fs w y × Joined fs x z
  by_labels fs i slots w x y z e h =
      let P : List ℕ → Type 0 = λ s. Joined fs (slice_index s 0) (slice_index s 2) × Joined fs (slice_index s 1) (slice_index s 3) in
      subst P e h

  from_labels : (fs : List (ℕ × ℕ)) (i : ℕ) (slots : List ℕ) (w x y z : ℕ) → around i slots ≡ w ∷ x ∷ y ∷ z ∷ [] → Joined fs w y → Joined fs x z →
      Joined fs (slot slots i) (slot slots (i + 2)) × Joined fs (slot slots (i + 1)) (slot slots (i + 3))
  from_labels fs i slots w x y z e p q =
      let P : List ℕ → Type 0 = λ s. Joined fs (slice_index s 0) (slice_index s 2) × Joined fs (slice_index s 1) (slice_index s 3) in
      subst P (sym e) (p, q)

  same_kept : kept_strands (f ∷ d ∷ c ∷ []) 1 after ≡ kept_strands (f ∷ d ∷ c ∷ []) 1 items
  same_kept = kept_strands-rewritten slots_of (f ∷ d ∷ c ∷ []) (λ n slots out. grind (arith, out)) 1 items

  strands_forth : (u v : ℕ) → Contains (strand_edges items) (u, v) → Joined (strand_edges after) u v
  strands_forth =
      let fs = strand_edges after in
      let nx = by_labels fs k new_here (slot beyond (j + 3)) (slot there (l + 2)) e2 e0 around_new_here (crossing_walks after c new_here found_after k low_k) in
      let ny = by_labels fs l new_there (slot here (k + 3)) (slot beyond (j + 2)) e0 e1 around_new_there (crossing_walks after d new_there also_after l low_l) in
      let nz = by_labels fs j new_beyond (slot there (l + 3)) (slot here (k + 2)) e1 e2 around_new_beyond (crossing_walks after f new_beyond too_after j low_j) in
      let ox = from_labels fs k here e2 e0 (slot here (k + 2)) (slot here (k + 3)) around_here (back nz.1) (back ny.0) in
      let oy = from_labels fs l there e0 e1 (slot there (l + 2)) (slot there (l + 3)) around_there (back nx.1) (back nz.0) in
      let oz = from_labels fs j beyond e1 e2 (slot beyond (j + 2)) (slot beyond (j + 3)) around_beyond (back ny.1) (back nx.0) in
      three_strands items here there beyond found also too fs ox.0 ox.1 oy.0 oy.1 oz.0 oz.1
      (λ e h. let P : List (ℕ × ℕ) → Type 0 = λ es. Contains es e in stays_within (f ∷ d ∷ c ∷ []) 1 after e (subst P (sym same_kept) h))

  strands_back : (u v : ℕ) → Contains (strand_edges after) (u, v) → Joined (strand_edges items) u v
  strands_back =
      let fs = strand_edges items in
      let ox = by_labels fs k here e2 e0 (slot here (k + 2)) (slot here (k + 3)) around_here (crossing_walks items c here found k low_k) in
      let oy = by_labels fs l there e0 e1 (slot there (l + 2)) (slot there (l + 3)) around_there (crossing_walks items d there also l low_l) in
      let oz = by_labels fs j beyond e1 e2 (slot beyond (j + 2)) (slot beyond (j + 3)) around_beyond (crossing_walks items f beyond too j low_j) in
      let nx = from_labels fs k new_here (slot beyond (j + 3)) (slot there (l + 2)) e2 e0 around_new_here (back oz.1) (back oy.0) in
      let ny = from_labels fs l new_there (slot here (k + 3)) (slot beyond (j + 2)) e0 e1 around_new_there (back ox.1) (back oz.0) in
      let nz = from_labels fs j new_beyond (slot there (l + 3)) (slot here (k + 2)) e1 e2 around_new_beyond (back oy.1) (back ox.0) in
      three_strands after new_here new_there new_beyond found_after also_after too_after fs nx.0 nx.1 ny.0 ny.1 nz.0 nz.1
      (λ e h. let P : List (ℕ × ℕ) → Type 0 = λ es. Contains es e in stays_within (f ∷ d ∷ c ∷ []) 1 items e (subst P same_kept h))

  pub after_members : (z : ℕ) → times_in (labels item_labels after) z ≡ times_in (labels item_labels items) z
  after_members z =
      let x = times_labels after z in
      let y = times_labels items z in
      let t = after_times z in
      let s = ap (λ ns. times_in ns z) (loop_labels-rewritten slots_of 1 items) in
      omega (arith, x, y, t, s)

  pub triangle_contracts : Contracts items after (λ z. z)
  triangle_contracts = record {
    fixes = λ z m. refl;
    lowers = λ z. omega arith;
    walks = λ z m. stay;
    onto = λ z m. let one = times_of_member z (labels item_labels items) m in let t = after_members z in member_of_times z (labels item_labels after) (omega (arith, one, t));
    within = λ z m. let one = times_of_member z (labels item_labels after) m in let t = after_members z in member_of_times z (labels item_labels items) (omega (arith, one, t));
    edge = strands_forth;
    edge_back = strands_back;
  }

  -- R3 KEEPS THE COMPONENTS
  pub triangle_components : least_labels after ≡ least_labels items
  triangle_components = least_labels_by items after pd.sizes sizes_after (least_in_small items after (λ z. z) triangle_contracts) (least_in_big items after (λ z. z) triangle_contracts)
