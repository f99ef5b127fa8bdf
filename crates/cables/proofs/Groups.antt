-- Where an item stands among the others changes the groups of its nodes alone: each kind of nodes is the same but for the group.
use Rattle.std.proofs.Common.{◌≡◌, ℕ, ◌+◌, ◌==◌, ◌&&◌, not, List, [], ◌∷◌, ◌++◌, map, length, reverse, refl, sym, ap, ap₂, ◌∙◌}
use Rattle.std.proofs.lemmas.List.{map-append}
use Rattle.std.specs.List.{filter, range_with_len}
use Rattle.std.specs.Set.{is_member}
use Rattle.state_sums.specs.Networks.{Node}
use Rattle.root_quantum.specs.Parameters.{Parameters}
use Rattle.pd_reader.specs.declared.item.NetItem.{NetItem}
use Rattle.pd_reader.specs.declared.item.NetItem.TheVariants.{X, Y, Loop}
use Rattle.diagram_brackets.specs.Crossings.{crossing_node}
use Rattle.piece_laws.specs.TurnedNodes.{without_group}
use Rattle.cables.specs.Strands.{Strands, names_at}
use Rattle.cables.specs.CableNodes.{line_names, upright_names, row, grid, crossing_cable, vertex_cable, box_node}
use Rattle.cables.specs.Cables.{Standing, passed, past_all, box_nodes, loop_nodes, item_nodes, cable_nodes}
use Rattle.cables.specs.Laws.{OtherGroupsLaw}

row_same : (p : Parameters) (g h : ℕ) (bottoms line tops : List ℕ) (west : ℕ) → map without_group (row p g bottoms west line tops) ≡ map without_group (row p h bottoms west line tops)
row_same p g h [] line tops west = refl
row_same p g h (b ∷ bottoms) [] tops west = refl
row_same p g h (b ∷ bottoms) (e ∷ line) [] west = refl
row_same p g h (b ∷ bottoms) (e ∷ line) (t ∷ tops) west = ap (λ xs. crossing_node p 0 (b ∷ e ∷ t ∷ west ∷ []) ∷ xs) (row_same p g h bottoms line tops e)

grid_same : (p : Parameters) (g h k u i : ℕ) (bottoms wests easts north : List ℕ) → map without_group (grid p g k u i bottoms wests easts north) ≡ map without_group (grid p h k u i bottoms wests easts north)
grid_same p g h k u i bottoms [] easts north = refl
grid_same p g h k u i bottoms (w ∷ []) [] north = refl
grid_same p g h k u i bottoms (w ∷ []) (e ∷ easts) north = row_same p g h bottoms (line_names k u i ++ e ∷ []) north w
grid_same p g h k u i bottoms (w ∷ v ∷ wests) [] north = refl
grid_same p g h k u i bottoms (w ∷ v ∷ wests) (e ∷ easts) north =
    let tops = upright_names k u i in
    let line = line_names k u i ++ e ∷ [] in
    map-append without_group (row p g bottoms w line tops) (grid p g k u (i + 1) tops (v ∷ wests) easts north)
    ∙ ap₂ (λ x y. x ++ y) (row_same p g h bottoms line tops w) (grid_same p g h k u (i + 1) tops (v ∷ wests) easts north)
    ∙ sym (map-append without_group (row p h bottoms w line tops) (grid p h k u (i + 1) tops (v ∷ wests) easts north))

pub crossing_same : (p : Parameters) (g h k : ℕ) (a b c d : List ℕ) → map without_group (crossing_cable p g k a b c d) ≡ map without_group (crossing_cable p h k a b c d)
crossing_same p g h k [] [] c d = refl
crossing_same p g h k [] (b ∷ others) c d = refl
crossing_same p g h k (a ∷ more) [] c d = refl
crossing_same p g h k (a ∷ more) (b ∷ others) c d = grid_same p g h k _ 0 (a ∷ more) (reverse d) (b ∷ others) (reverse c)

vertex_same : (g h : ℕ) (x y z : List ℕ) → map without_group (vertex_cable g x y z) ≡ map without_group (vertex_cable h x y z)
vertex_same g h [] [] [] = refl
vertex_same g h [] [] (c ∷ z) = refl
vertex_same g h [] (b ∷ y) [] = refl
vertex_same g h [] (b ∷ y) (c ∷ z) = refl
vertex_same g h (a ∷ x) [] [] = refl
vertex_same g h (a ∷ x) [] (c ∷ z) = refl
vertex_same g h (a ∷ x) (b ∷ y) [] = refl
vertex_same g h (a ∷ x) (b ∷ y) (c ∷ z) = refl

module _ (p : Parameters) (strands : Strands) where
  pub loop_same : (g h : ℕ) (names : List ℕ) → map without_group (loop_nodes strands g names) ≡ map without_group (loop_nodes strands h names)
  loop_same g h [] = refl
  loop_same g h (x ∷ []) = refl
  loop_same g h (x ∷ y ∷ names) = refl

  boxes_same : (g h : ℕ) (ls : List ℕ) →
      map without_group (map (λ label. box_node g (strands.box (length (strands.first label))) (strands.first label) (strands.second label)) ls)
      ≡ map without_group (map (λ label. box_node h (strands.box (length (strands.first label))) (strands.first label) (strands.second label)) ls)
  boxes_same g h [] = refl
  boxes_same g h (l ∷ ls) = ap (λ xs. box_node 0 (strands.box (length (strands.first l))) (strands.first l) (strands.second l) ∷ xs) (boxes_same g h ls)

  both_same : (a b c d : List Node) → map without_group a ≡ map without_group c → map without_group b ≡ map without_group d → map without_group (a ++ b) ≡ map without_group (c ++ d)
  both_same a b c d e f = map-append without_group a b ∙ ap₂ (λ x y. x ++ y) e f ∙ sym (map-append without_group c d)

  item_same : (standing : Standing) (g l : ℕ) (item : NetItem) → map without_group (item_nodes p strands (record standing { group = g; loop_group = l }) item) ≡ map without_group (item_nodes p strands standing item)
  item_same standing g l (X (a ∷ b ∷ c ∷ d ∷ [])) =
      let seen = standing.seen in
      let slots = a ∷ b ∷ c ∷ d ∷ [] in
      let boxed : List ℕ = filter (λ label. is_member ◌==◌ slots label && (strands.boxed label && not (is_member ◌==◌ seen label))) (range_with_len 0 (past_all slots)) in
      let nodes_at : ℕ → List Node = λ h. crossing_cable p h standing.index (names_at strands seen a) (names_at strands (a ∷ seen) b) (names_at strands (b ∷ a ∷ seen) c) (names_at strands (c ∷ b ∷ a ∷ seen) d) in
      both_same (box_nodes strands (record standing { group = g; loop_group = l }) slots) (nodes_at g) (box_nodes strands standing slots) (nodes_at standing.group) (boxes_same g standing.group boxed)
      (crossing_same p g standing.group standing.index (names_at strands seen a) (names_at strands (a ∷ seen) b) (names_at strands (b ∷ a ∷ seen) c) (names_at strands (c ∷ b ∷ a ∷ seen) d))
  item_same standing g l (X []) = refl
  item_same standing g l (X (a ∷ [])) = refl
  item_same standing g l (X (a ∷ b ∷ [])) = refl
  item_same standing g l (X (a ∷ b ∷ c ∷ [])) = refl
  item_same standing g l (X (a ∷ b ∷ c ∷ d ∷ e ∷ slots)) = refl
  item_same standing g l (Y (a ∷ b ∷ c ∷ [])) =
      let seen = standing.seen in
      let slots = a ∷ b ∷ c ∷ [] in
      let boxed : List ℕ = filter (λ label. is_member ◌==◌ slots label && (strands.boxed label && not (is_member ◌==◌ seen label))) (range_with_len 0 (past_all slots)) in
      let nodes_at : ℕ → List Node = λ h. vertex_cable h (names_at strands seen a) (names_at strands (a ∷ seen) b) (names_at strands (b ∷ a ∷ seen) c) in
      both_same (box_nodes strands (record standing { group = g; loop_group = l }) slots) (nodes_at g) (box_nodes strands standing slots) (nodes_at standing.group) (boxes_same g standing.group boxed)
      (vertex_same g standing.group (names_at strands seen a) (names_at strands (a ∷ seen) b) (names_at strands (b ∷ a ∷ seen) c))
  item_same standing g l (Y []) = refl
  item_same standing g l (Y (a ∷ [])) = refl
  item_same standing g l (Y (a ∷ b ∷ [])) = refl
  item_same standing g l (Y (a ∷ b ∷ c ∷ d ∷ edges)) = refl
  item_same standing g l (Loop label) = loop_same l standing.loop_group (strands.first label)

  nodes_same : (standing : Standing) (g l : ℕ) (items : List NetItem) → map without_group (cable_nodes p strands (record standing { group = g; loop_group = l }) items) ≡ map without_group (cable_nodes p strands standing items)
  nodes_same standing g l [] = refl
  nodes_same standing g l (X slots ∷ items) =
      both_same (item_nodes p strands (record standing { group = g; loop_group = l }) (X slots)) (cable_nodes p strands (passed (record standing { group = g; loop_group = l }) (X slots)) items) (item_nodes p strands standing (X slots)) (cable_nodes p strands (passed standing (X slots)) items)
      (item_same standing g l (X slots)) (nodes_same (passed standing (X slots)) (g + 1) l items)
  nodes_same standing g l (Y edges ∷ items) =
      both_same (item_nodes p strands (record standing { group = g; loop_group = l }) (Y edges)) (cable_nodes p strands (passed (record standing { group = g; loop_group = l }) (Y edges)) items) (item_nodes p strands standing (Y edges)) (cable_nodes p strands (passed standing (Y edges)) items)
      (item_same standing g l (Y edges)) (nodes_same (passed standing (Y edges)) (g + 1) l items)
  nodes_same standing g l (Loop label ∷ items) =
      both_same (item_nodes p strands (record standing { group = g; loop_group = l }) (Loop label)) (cable_nodes p strands (passed (record standing { group = g; loop_group = l }) (Loop label)) items) (item_nodes p strands standing (Loop label)) (cable_nodes p strands (passed standing (Loop label)) items)
      (item_same standing g l (Loop label)) (nodes_same (passed standing (Loop label)) g (l + 1) items)

-- ITEMS AT OTHER GROUPS
pub other_groups : OtherGroupsLaw
other_groups p strands standing g l items = nodes_same p strands standing g l items
