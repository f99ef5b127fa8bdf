-- The boxes of a cable, apart from its crossings: their groups and their order do not matter, and where a label's places are exchanged its
-- box is turned by half a turn, which a projector does not tell.
use Rattle.std.proofs.Common.{◌≡◌, ℕ, ◌+◌, ◌<◌, ◌≤◌, ◌==◌, Bool, true, false, cond, List, [], ◌∷◌, ◌++◌, map, length, refl, sym, ap, ◌∙◌, arith, ⊎_elim, All, subst, length-append}
use Rattle.std.specs.List.{AllByRecursion}
use Rattle.std.specs.List.Sorted.{IsPermutation}
use Rattle.std.specs.Set.{is_member}
use Rattle.std.proofs.lemmas.Bool.{cases_Bool}
use Rattle.std.proofs.lemmas.List.{map-append}
use Rattle.std.proofs.lemmas.List.Elements.{All-append, All-cons, All-nil}
use Rattle.std.proofs.lemmas.List.Sorted.{sum_by-IsPermutation}
use Rattle.std.proofs.lemmas.List.Sums.{AllPass-from_list_all}
use Rattle.list_lemmas.specs.Times.{times_in}
use Rattle.list_lemmas.proofs.Sums.{sum_by-flat_map}
use Rattle.state_sums.specs.Networks.{Node, Term, IsNode, IsPairing, names_of}
use Rattle.state_sums.specs.StateSums.{value}
use Rattle.piece_laws.specs.TurnedNodes.{without_group}
use Rattle.piece_laws.proofs.Ungrouped.{groups}
use Rattle.strand_algebra.specs.Projectors.{IsProjector}
use Rattle.box_laws.proofs.HalfTurns.{half_turned_box}
use Rattle.pd_reader.specs.declared.item.Item.{Item}
use Rattle.pd_reader.specs.Items.{HasItsSlots}
use Rattle.cables.specs.CableNodes.{box_node}
use Rattle.cables.specs.Cables.{Standing, AreBoxes}
use Rattle.cables.specs.Strands.{Strands, exchanged}
use Rattle.cables.proofs.NameCounts.{at}
use Rattle.cable_crossings.proofs.BundleTurns.{value_of_same, runs_exchanged}
use Rattle.coloured_moves.proofs.StubItems.{first_boxes, boxes_of, first_labels, ungrouped_boxes, some_ungrouped}

-- ---- names in another order of the nodes
pub names_permuted : (z : ℕ) (xs ys : List Node) → IsPermutation xs ys → times_in (names_of ys) z ≡ times_in (names_of xs) z
names_permuted z xs ys h =
    let f : Node → ℕ = λ node. times_in node.ends z in
    sum_by-flat_map (at z) (λ node. node.ends) ys ∙ sum_by-IsPermutation f xs ys h ∙ sym (sum_by-flat_map (at z) (λ node. node.ends) xs)

-- ---- boxes are nodes
pub box_ok : (m : ℕ) (box : ℕ → List Term) → AreBoxes m box → (group n : ℕ) (xs ys : List ℕ) → length xs ≡ n → length ys ≡ n → IsNode (box_node group (box n) xs ys)
box_ok m box boxes group n xs ys lx ly =
    let l = length-append xs ys in
    let e : n + n ≡ length (xs ++ ys) = omega (arith, l, lx, ly) in
    subst (λ k. All (λ term. IsPairing term.partner × (length term.partner ≡ k)) (box n)) e (boxes.pairings n)

module _ (m delta : ℕ) (strands : Strands) (boxes : AreBoxes m strands.box) (even : (l : ℕ) → length (strands.second l) ≡ length (strands.first l)) where
  pub boxes_ok : (ls : List ℕ) → All IsNode (boxes_of strands ls)
  boxes_ok [] = All-nil IsNode
  boxes_ok (l ∷ ls) =
      All-cons IsNode (box_node 0 (strands.box (length (strands.first l))) (strands.first l) (strands.second l)) (boxes_of strands ls) (box_ok m strands.box boxes 0 (length (strands.first l)) (strands.first l) (strands.second l) refl (even l)) (boxes_ok ls)

  -- A PROJECTOR DOES NOT TELL ITS SIDES
  module _ (some : 0 < m) (few : (l : ℕ) → length (strands.first l) ≤ 8) (chosen : ℕ → Bool) where
    abbrev others : Strands
    others = exchanged strands chosen

    long_first : (l : ℕ) → length (others.first l) ≡ length (strands.first l)
    long_first l = elim (chosen l) as (λ b. length (cond b (strands.second l) (strands.first l)) ≡ length (strands.first l)) [ true ↦ even l | false ↦ refl ]

    long_second : (l : ℕ) → length (others.second l) ≡ length (others.first l)
    long_second l = elim (chosen l) as (λ b. length (cond b (strands.first l) (strands.second l)) ≡ length (cond b (strands.second l) (strands.first l))) [ true ↦ sym (even l) | false ↦ even l ]

    one_turned : (free l : ℕ) (rest : List Node) → All IsNode rest → IsProjector m delta (length (strands.first l)) (strands.box (length (strands.first l))) →
        value m delta record { nodes = box_node 0 (strands.box (length (others.first l))) (others.first l) (others.second l) ∷ rest; free_loops = free }
        ≡ value m delta record { nodes = box_node 0 (strands.box (length (strands.first l))) (strands.first l) (strands.second l) ∷ rest; free_loops = free }
    one_turned free l rest ok is =
        let xs = strands.first l in
        let ys = strands.second l in
        let n = length xs in
        let f = strands.box n in
        let V : List Node → ℕ = λ ns. value m delta record { nodes = ns; free_loops = free } in
        let A : Bool → Node = λ b. box_node 0 (strands.box (length (cond b ys xs))) (cond b ys xs) (cond b xs ys) in
        let turned : Node = box_node 0 f ys xs in
        let plain : Node = box_node 0 f xs ys in
        let turned_ok = box_ok m strands.box boxes 0 n ys xs (even l) refl in
        let plain_ok = box_ok m strands.box boxes 0 n xs ys refl (even l) in
        ⊎_elim
        (λ t. ap (λ b. V (A b ∷ rest)) t ∙ ap (λ k. V (box_node 0 (strands.box k) ys xs ∷ rest)) (even l)
        ∙ value_of_same m delta free (turned ∷ rest) (plain ∷ rest) (All-cons IsNode turned rest turned_ok ok) (All-cons IsNode plain rest plain_ok ok)
        (half_turned_box m delta 0 n 0 0 f xs ys [] rest [] some (few l) is refl (even l) (All-nil IsNode) ok (AllPass-from_list_all (is_member ◌==◌ (names_of (turned ∷ rest))) [] refl)))
        (λ t. ap (λ b. V (A b ∷ rest)) t)
        (cases_Bool (chosen l))

    others_ok : (ls : List ℕ) → All IsNode (boxes_of others ls)
    others_ok [] = All-nil IsNode
    others_ok (l ∷ ls) =
        All-cons IsNode (box_node 0 (strands.box (length (others.first l))) (others.first l) (others.second l)) (boxes_of others ls) (box_ok m strands.box boxes 0 (length (others.first l)) (others.first l) (others.second l) refl (long_second l)) (others_ok ls)

    pub turned_boxes : (free : ℕ) (ls : List ℕ) (rest : List Node) → All IsNode rest → AllByRecursion (λ l. IsProjector m delta (length (strands.first l)) (strands.box (length (strands.first l)))) ls →
        value m delta record { nodes = boxes_of others ls ++ rest; free_loops = free } ≡ value m delta record { nodes = boxes_of strands ls ++ rest; free_loops = free }
    turned_boxes free [] rest ok is = refl
    turned_boxes free (l ∷ ls) rest ok is =
        let plain : Node = box_node 0 (strands.box (length (strands.first l))) (strands.first l) (strands.second l) in
        let plain_ok = box_ok m strands.box boxes 0 (length (strands.first l)) (strands.first l) (strands.second l) refl (even l) in
        let one = All-cons IsNode plain [] plain_ok (All-nil IsNode) in
        one_turned free l (boxes_of others ls ++ rest) (All-append IsNode (boxes_of others ls) rest (others_ok ls) ok) is.0
        ∙ runs_exchanged m delta free (plain ∷ []) (boxes_of others ls) rest one (others_ok ls) ok
        ∙ turned_boxes free ls (plain ∷ rest) (All-cons IsNode plain rest plain_ok ok) is.1
        ∙ sym (runs_exchanged m delta free (plain ∷ []) (boxes_of strands ls) rest one (boxes_ok ls) ok)

-- ---- the groups of boxes
pub ungrouped_value : (m delta free : ℕ) (strands : Strands) (standing : Standing) (items : List Item) (rest : List Node) → AllByRecursion HasItsSlots items →
    value m delta record { nodes = first_boxes strands standing items ++ rest; free_loops = free } ≡ value m delta record { nodes = boxes_of strands (first_labels strands.boxed standing.seen items) ++ rest; free_loops = free }
ungrouped_value m delta free strands standing items rest sizes =
    let ls = first_labels strands.boxed standing.seen items in
    let old = first_boxes strands standing items in
    let same : map without_group (old ++ rest) ≡ map without_group (boxes_of strands ls ++ rest) =
    map-append without_group old rest ∙ ap (λ ns. ns ++ map without_group rest) (ungrouped_boxes strands standing items sizes ∙ sym (some_ungrouped strands 0 ls)) ∙ sym (map-append without_group (boxes_of strands ls) rest) in
    (groups delta free (old ++ rest) (boxes_of strands ls ++ rest) same).values m
