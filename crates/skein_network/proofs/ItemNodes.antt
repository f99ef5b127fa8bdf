-- The nodes of an item, as they are put behind the others: its boxes, and the cable between the names at its slots.
--
-- The names at the slots fit a grid, or a vertex, since the colours fit the item; what is pushed between them is the item's cable.
use Rattle.std.proofs.Common.{◌≡◌, ℕ, zero, suc, ◌+◌, ◌*◌, ◌%◌, ◌<◌, ◌≤◌, false, List, [], ◌∷◌, ◌++◌, map, length, get_or, reverse, refl, sym, ap, ap₂, ◌∙◌, arith, append_assoc}
use Rattle.std.specs.List.{range_with_len}
use Rattle.std.proofs.lemmas.List.{reverse-append}
use Rattle.std.proofs.lemmas.List.FromFn.{length-map-range_with_len}
use Rattle.state_sums.specs.Networks.{Node}
use Rattle.root_quantum.specs.Parameters.{Parameters}
use Rattle.pd_reader.specs.declared.item.NetItem.TheVariants.{X, Y}
use Rattle.cables.specs.Strands.{Strands, names_at, first_names, second_names}
use Rattle.cables.specs.CableNodes.{crossing_cable, vertex_cable, box_node}
use Rattle.cables.specs.Cables.{item_nodes, loop_nodes, Fits, IsAdmissible}
use Rattle.cables.specs.Nets.{projector_of}
use Rattle.cables.proofs.CableNames.{names_length}
use Rattle.cables.proofs.NumberedStrands.{as_many_strands, first_length}
use Rattle.cable_grids.specs.declared.crossing.CrossingEnds.{CrossingEnds}
use Rattle.cable_grids.specs.declared.vertex.VertexEnds.{VertexEnds}
use Rattle.skein_network.specs.declared.edge.Edge.{Edge}
use Rattle.skein_network.specs.Edges.{colour_at, boxed_at, strands_at}
use Rattle.skein_network.specs.Boxes.{strands_box, boxes_at}
use Rattle.skein_network.specs.Standings.{standing_at, AreAtFour, AreAtCrossing, AreAtThree, AreAtVertex}
use Rattle.skein_network.proofs.BoxLists.{box_nodes_are}

-- one label more
pub seen_next : (seen more : List ℕ) (label : ℕ) → more ≡ seen ++ label ∷ [] → reverse more ≡ label ∷ reverse seen
seen_next seen more label e = ap reverse e ∙ reverse-append seen (label ∷ [])

-- ---- what stands at the slots, one by one
pub at_crossing : (strands : Strands) (seen slots : List ℕ) (ends : CrossingEnds) → length slots ≡ 4 →
    AreAtFour strands seen (get_or slots 0 0) (get_or slots 1 0) (get_or slots 2 0) (get_or slots 3 0) ends → AreAtCrossing strands seen slots ends
at_crossing strands seen (a ∷ b ∷ c ∷ d ∷ []) ends h at = at
at_crossing strands seen [] ends h at = absurd (omega (arith, h))
at_crossing strands seen (a ∷ []) ends h at = absurd (omega (arith, h))
at_crossing strands seen (a ∷ b ∷ []) ends h at = absurd (omega (arith, h))
at_crossing strands seen (a ∷ b ∷ c ∷ []) ends h at = absurd (omega (arith, h))
at_crossing strands seen (a ∷ b ∷ c ∷ d ∷ e ∷ slots) ends h at = absurd (omega (arith, h))

pub at_vertex : (strands : Strands) (seen slots : List ℕ) (ends : VertexEnds) → length slots ≡ 3 →
    AreAtThree strands seen (get_or slots 0 0) (get_or slots 1 0) (get_or slots 2 0) ends → AreAtVertex strands seen slots ends
at_vertex strands seen (x ∷ y ∷ z ∷ []) ends h at = at
at_vertex strands seen [] ends h at = absurd (omega (arith, h))
at_vertex strands seen (x ∷ []) ends h at = absurd (omega (arith, h))
at_vertex strands seen (x ∷ y ∷ []) ends h at = absurd (omega (arith, h))
at_vertex strands seen (x ∷ y ∷ z ∷ w ∷ slots) ends h at = absurd (omega (arith, h))

-- the slots are their four entries
four : (slots : List ℕ) → length slots ≡ 4 → get_or slots 0 0 ∷ get_or slots 1 0 ∷ get_or slots 2 0 ∷ get_or slots 3 0 ∷ [] ≡ slots
four (a ∷ b ∷ c ∷ d ∷ []) h = refl
four [] h = absurd (omega (arith, h))
four (a ∷ []) h = absurd (omega (arith, h))
four (a ∷ b ∷ []) h = absurd (omega (arith, h))
four (a ∷ b ∷ c ∷ []) h = absurd (omega (arith, h))
four (a ∷ b ∷ c ∷ d ∷ e ∷ slots) h = absurd (omega (arith, h))

pub four_more : (seen one two three all slots : List ℕ) → length slots ≡ 4 → one ≡ seen ++ get_or slots 0 0 ∷ [] → two ≡ one ++ get_or slots 1 0 ∷ [] → three ≡ two ++ get_or slots 2 0 ∷ [] →
    all ≡ three ++ get_or slots 3 0 ∷ [] → all ≡ seen ++ slots
four_more seen one two three all slots h a b c d =
    let w = get_or slots 0 0 in let x = get_or slots 1 0 in let y = get_or slots 2 0 in let z = get_or slots 3 0 in
    d
    ∙ ap (λ ls. ls ++ z ∷ []) (c ∙ ap (λ ls. ls ++ y ∷ []) (b ∙ ap (λ ls. ls ++ x ∷ []) a ∙ append_assoc seen (w ∷ []) (x ∷ [])) ∙ append_assoc seen (w ∷ x ∷ []) (y ∷ []))
    ∙ append_assoc seen (w ∷ x ∷ y ∷ []) (z ∷ [])
    ∙ ap (λ ls. seen ++ ls) (four slots h)

-- names that are opposite each other are as many, and few
pub record FitsGrid (ends : CrossingEnds) : Type 0 where
  pub columns : length ends.a.items ≤ 8
  pub rows : length ends.b.items ≤ 8
  pub under : length ends.c.items ≡ length ends.a.items
  pub over : length ends.d.items ≡ length ends.b.items

pub record FitsVertex (ends : VertexEnds) : Type 0 where
  pub first : length ends.x.items ≤ 8
  pub second : length ends.y.items ≤ 8
  pub third : length ends.z.items ≤ 8
  pub admissible : IsAdmissible (length ends.x.items) (length ends.y.items) (length ends.z.items)

module _ (p : Parameters) (edges : List Edge) where
  abbrev strands : Strands
  strands = strands_at p edges

  long : (names seen : List ℕ) (label : ℕ) → names ≡ names_at strands seen label → length names ≡ length (strands.first label)
  long names seen label e = ap length e ∙ names_length strands (as_many_strands (colour_at edges) (boxed_at edges) (projector_of p)) seen label

  few_names : ((label : ℕ) → colour_at edges label ≤ 8) → (label : ℕ) → length (strands.first label) ≤ 8
  few_names few label = let e = first_length (colour_at edges) (boxed_at edges) (projector_of p) label in let f = few label in omega (arith, e, f)

  pub fits_grid : ((label : ℕ) → colour_at edges label ≤ 8) → (seen slots : List ℕ) (ends : CrossingEnds) → Fits strands (X slots) → AreAtCrossing strands seen slots ends → FitsGrid ends
  fits_grid few seen (a ∷ b ∷ c ∷ d ∷ []) ends fit at =
      let la = long ends.a.items seen a at.first in
      let lb = long ends.b.items (a ∷ seen) b at.second in
      let lc = long ends.c.items (b ∷ a ∷ seen) c at.third in
      let ld = long ends.d.items (c ∷ b ∷ a ∷ seen) d at.fourth in
      record {
        columns = (let f = few_names few a in omega (arith, f, la));
        rows = (let f = few_names few b in omega (arith, f, lb));
        under = lc ∙ sym fit.0 ∙ sym la;
        over = ld ∙ sym fit.1 ∙ sym lb;
      }
  fits_grid few seen [] ends fit at = absurd fit
  fits_grid few seen (a ∷ []) ends fit at = absurd fit
  fits_grid few seen (a ∷ b ∷ []) ends fit at = absurd fit
  fits_grid few seen (a ∷ b ∷ c ∷ []) ends fit at = absurd fit
  fits_grid few seen (a ∷ b ∷ c ∷ d ∷ e ∷ slots) ends fit at = absurd fit

  pub fits_vertex : ((label : ℕ) → colour_at edges label ≤ 8) → (seen slots : List ℕ) (ends : VertexEnds) → Fits strands (Y slots) → AreAtVertex strands seen slots ends → FitsVertex ends
  fits_vertex few seen (x ∷ y ∷ z ∷ []) ends fit at =
      let lx = long ends.x.items seen x at.first in
      let ly = long ends.y.items (x ∷ seen) y at.second in
      let lz = long ends.z.items (y ∷ x ∷ seen) z at.third in
      let e = fit.even in let i = fit.first in let j = fit.second in let k = fit.third in
      record {
        first = (let f = few_names few x in omega (arith, f, lx));
        second = (let f = few_names few y in omega (arith, f, ly));
        third = (let f = few_names few z in omega (arith, f, lz));
        admissible = record {
          even = ap (λ n. n % 2) (ap₂ (λ a b. a + b) (ap₂ (λ a b. a + b) lx ly) lz) ∙ e;
          first = omega (arith, lx, ly, lz, i);
          second = omega (arith, lx, ly, lz, j);
          third = omega (arith, lx, ly, lz, k);
        };
      }
  fits_vertex few seen [] ends fit at = absurd fit
  fits_vertex few seen (x ∷ []) ends fit at = absurd fit
  fits_vertex few seen (x ∷ y ∷ []) ends fit at = absurd fit
  fits_vertex few seen (x ∷ y ∷ z ∷ w ∷ slots) ends fit at = absurd fit

-- ---- boxes, and what stands between the names
module _ (strands : Strands) (p : Parameters) (group index : ℕ) (seen : List ℕ) (old between new : List Node) where
  -- THE NODES OF A CROSSING
  pub pushed_crossing : (slots : List ℕ) (ends : CrossingEnds) → AreAtCrossing strands seen slots ends → between ≡ old ++ boxes_at strands group seen slots →
      new ≡ between ++ crossing_cable p group index ends.a.items ends.b.items ends.c.items ends.d.items → new ≡ old ++ item_nodes p strands (standing_at seen index group) (X slots)
  pushed_crossing (a ∷ b ∷ c ∷ d ∷ []) ends at boxes pushed =
      let last = crossing_cable p group index (names_at strands seen a) (names_at strands (a ∷ seen) b) (names_at strands (b ∷ a ∷ seen) c) (names_at strands (c ∷ b ∷ a ∷ seen) d) in
      pushed
      ∙ ap₂ (λ x y. between ++ crossing_cable p group index x y ends.c.items ends.d.items) at.first at.second
      ∙ ap₂ (λ z w. between ++ crossing_cable p group index (names_at strands seen a) (names_at strands (a ∷ seen) b) z w) at.third at.fourth
      ∙ ap (λ ns. ns ++ last) (boxes ∙ ap (λ ns. old ++ ns) (sym (box_nodes_are strands (standing_at seen index group) (a ∷ b ∷ c ∷ d ∷ []))))
      ∙ append_assoc old _ last
  pushed_crossing [] ends at boxes pushed = absurd at
  pushed_crossing (a ∷ []) ends at boxes pushed = absurd at
  pushed_crossing (a ∷ b ∷ []) ends at boxes pushed = absurd at
  pushed_crossing (a ∷ b ∷ c ∷ []) ends at boxes pushed = absurd at
  pushed_crossing (a ∷ b ∷ c ∷ d ∷ e ∷ slots) ends at boxes pushed = absurd at

  -- THE NODES OF A VERTEX
  pub pushed_vertex : (slots : List ℕ) (ends : VertexEnds) → AreAtVertex strands seen slots ends → between ≡ old ++ boxes_at strands group seen slots →
      new ≡ between ++ vertex_cable group ends.x.items ends.y.items ends.z.items → new ≡ old ++ item_nodes p strands (standing_at seen index group) (Y slots)
  pushed_vertex (x ∷ y ∷ z ∷ []) ends at boxes pushed =
      let last = vertex_cable group (names_at strands seen x) (names_at strands (x ∷ seen) y) (names_at strands (y ∷ x ∷ seen) z) in
      pushed
      ∙ ap₂ (λ a b. between ++ vertex_cable group a b ends.z.items) at.first at.second
      ∙ ap (λ c. between ++ vertex_cable group (names_at strands seen x) (names_at strands (x ∷ seen) y) c) at.third
      ∙ ap (λ ns. ns ++ last) (boxes ∙ ap (λ ns. old ++ ns) (sym (box_nodes_are strands (standing_at seen index group) (x ∷ y ∷ z ∷ []))))
      ∙ append_assoc old _ last
  pushed_vertex [] ends at boxes pushed = absurd at
  pushed_vertex (x ∷ []) ends at boxes pushed = absurd at
  pushed_vertex (x ∷ y ∷ []) ends at boxes pushed = absurd at
  pushed_vertex (x ∷ y ∷ z ∷ w ∷ slots) ends at boxes pushed = absurd at

-- ---- loops
module _ (group label : ℕ) where
  pub no_loop : (strands : Strands) (n : ℕ) → n < 2 → loop_nodes strands group (first_names n label) ≡ []
  no_loop strands zero h = refl
  no_loop strands (suc zero) h = refl
  no_loop strands (suc (suc n)) h = absurd (omega (arith, h))

  -- the second names without a box of their own are the first ones back
  back_names : (n : ℕ) → second_names n false label ≡ reverse (first_names n label)
  back_names n = let same : (λ (i : ℕ). 16 * label + 2 * i + 0) ≡ (λ (i : ℕ). 16 * label + 2 * i) = λ j i. plain i j in ap (λ (g : ℕ → ℕ). reverse (map g (range_with_len 0 n))) same
    where
      plain : (i : ℕ) → 16 * label + 2 * i + 0 ≡ 16 * label + 2 * i
      plain i = omega arith

  pub loop_box : (p : Parameters) (edges : List Edge) (n : ℕ) → 2 ≤ n → strands_box p n group false label ∷ [] ≡ loop_nodes (strands_at p edges) group (first_names n label)
  loop_box p edges zero h = absurd (omega (arith, h))
  loop_box p edges (suc zero) h = absurd (omega (arith, h))
  loop_box p edges (suc (suc n)) h =
      let long = length-map-range_with_len (λ i. 16 * label + 2 * i) 0 (suc (suc n)) in
      ap₂ (λ terms back. box_node group terms (first_names (suc (suc n)) label) back ∷ []) (ap (projector_of p) (sym long)) (back_names (suc (suc n)))
