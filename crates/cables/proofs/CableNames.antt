-- How often a name stands in a cable: at places, in boxes, at loops, and twice within grids.
use Rattle.std.proofs.Common.{◌≡◌, ℕ, ◌+◌, ◌*◌, ◌==◌, ◌&&◌, not, true, false, cond, List, [], ◌∷◌, ◌++◌, length, reverse, refl, sym, ap₂, ◌∙◌, arith}
use Rattle.std.specs.List.{AllByRecursion}
use Rattle.std.specs.Set.{is_member}
use Rattle.state_sums.specs.Networks.{names_of}
use Rattle.list_lemmas.specs.Times.{times_in}
use Rattle.root_quantum.specs.Parameters.{Parameters}
use Rattle.pd_reader.specs.declared.item.NetItem.{NetItem}
use Rattle.pd_reader.specs.declared.item.NetItem.TheVariants.{X, Y, Loop}
use Rattle.cables.specs.Strands.{Strands, names_at}
use Rattle.cables.specs.CableNodes.{vertex_cable, crossing_cable}
use Rattle.cables.specs.Cables.{Standing, passed, box_nodes, loop_nodes, cable_nodes, Fits, places}
use Rattle.cables.proofs.NameCounts.{times_of-append}
use Rattle.list_lemmas.proofs.Times.{times_in-append}
use Rattle.cables.proofs.GridNames.{crossing_inner, crossing-times}
use Rattle.cables.proofs.PlaceNames.{AreAsMany, first_times, second_times, place_sum, OnlyLabel, box-times}

three-times : (x : ℕ) (a b c : List ℕ) → times_in (((a ++ b) ++ c) ++ []) x ≡ times_in a x + times_in b x + times_in c x
three-times x a b c =
    let e = times_in-append ((a ++ b) ++ c) [] x in let f = times_in-append (a ++ b) c x in let g = times_in-append a b x in omega (arith, e, f, g)

vertex-times : (group x : ℕ) (a b c : List ℕ) → times_in (names_of (vertex_cable group a b c)) x ≡ times_in a x + times_in b x + times_in c x
vertex-times group x [] [] [] = refl
vertex-times group x [] [] (z ∷ c) = let e = times_in-append (z ∷ c) [] x in omega (arith, e)
vertex-times group x [] (y ∷ b) [] = three-times x [] (y ∷ b) []
vertex-times group x [] (y ∷ b) (z ∷ c) = three-times x [] (y ∷ b) (z ∷ c)
vertex-times group x (w ∷ a) [] [] = three-times x (w ∷ a) [] []
vertex-times group x (w ∷ a) [] (z ∷ c) = three-times x (w ∷ a) [] (z ∷ c)
vertex-times group x (w ∷ a) (y ∷ b) [] = three-times x (w ∷ a) (y ∷ b) []
vertex-times group x (w ∷ a) (y ∷ b) (z ∷ c) = three-times x (w ∷ a) (y ∷ b) (z ∷ c)

pub names_length : (strands : Strands) → AreAsMany strands → (seen : List ℕ) (label : ℕ) → length (names_at strands seen label) ≡ length (strands.first label)
names_length strands even seen label =
    elim (is_member ◌==◌ seen label) as (λ b. length (cond b (strands.second label) (strands.first label)) ≡ length (strands.first label)) [ true ↦ even label | false ↦ refl ]

module _ (strands : Strands) (x : ℕ) where
  -- at loops that have a box
  abbrev pub loop_total : List NetItem → ℕ
  loop_total [] = 0
  loop_total (X slots ∷ items) = loop_total items
  loop_total (Y edges ∷ items) = loop_total items
  loop_total (Loop label ∷ items) = times_in (names_of (loop_nodes strands 0 (strands.first label))) x + loop_total items

  -- within grids, counted once; the first item has the given number
  abbrev pub inner_total : ℕ → List NetItem → ℕ
  inner_total index [] = 0
  inner_total index (X (a ∷ b ∷ c ∷ d ∷ []) ∷ items) = crossing_inner index (length (strands.first a)) (length (strands.first b)) x + inner_total (index + 1) items
  inner_total index (X slots ∷ items) = inner_total (index + 1) items
  inner_total index (Y edges ∷ items) = inner_total (index + 1) items
  inner_total index (Loop label ∷ items) = inner_total (index + 1) items

  -- in the boxes of the label l
  abbrev pub box_total : ℕ → List ℕ → List NetItem → ℕ
  box_total l seen [] = 0
  box_total l seen (X slots ∷ items) = cond (is_member ◌==◌ slots l && (strands.boxed l && not (is_member ◌==◌ seen l))) (first_times strands x l + second_times strands x l) 0 + box_total l (reverse slots ++ seen) items
  box_total l seen (Y edges ∷ items) = cond (is_member ◌==◌ edges l && (strands.boxed l && not (is_member ◌==◌ seen l))) (first_times strands x l + second_times strands x l) 0 + box_total l (reverse edges ++ seen) items
  box_total l seen (Loop label ∷ items) = box_total l seen items

  loop_any : (group : ℕ) (names : List ℕ) → times_in (names_of (loop_nodes strands group names)) x ≡ times_in (names_of (loop_nodes strands 0 names)) x
  loop_any group [] = refl
  loop_any group (y ∷ []) = refl
  loop_any group (y ∷ z ∷ names) = refl

module _ (p : Parameters) (strands : Strands) (x l : ℕ) (only : OnlyLabel strands x l) (even : AreAsMany strands) where
  at_crossing : (seen : List ℕ) (group k a b c d : ℕ) → length (strands.first a) ≡ length (strands.first c) → length (strands.first b) ≡ length (strands.first d) →
      times_in (names_of (crossing_cable p group k (names_at strands seen a) (names_at strands (a ∷ seen) b) (names_at strands (b ∷ a ∷ seen) c) (names_at strands (c ∷ b ∷ a ∷ seen) d))) x
      ≡ times_in (names_at strands seen a) x + times_in (names_at strands (a ∷ seen) b) x + times_in (names_at strands (b ∷ a ∷ seen) c) x + times_in (names_at strands (c ∷ b ∷ a ∷ seen) d) x
      + 2 * crossing_inner k (length (strands.first a)) (length (strands.first b)) x
  at_crossing seen group k a b c d h j =
      let la = names_length strands even seen a in
      let lb = names_length strands even (a ∷ seen) b in
      let lc = names_length strands even (b ∷ a ∷ seen) c in
      let ld = names_length strands even (c ∷ b ∷ a ∷ seen) d in
      let e = crossing-times p group k x (names_at strands seen a) (names_at strands (a ∷ seen) b) (names_at strands (b ∷ a ∷ seen) c) (names_at strands (c ∷ b ∷ a ∷ seen) d) (la ∙ h ∙ sym lc) (lb ∙ j ∙ sym ld) in
      let f : crossing_inner k (length (names_at strands seen a)) (length (names_at strands (a ∷ seen) b)) x ≡ crossing_inner k (length (strands.first a)) (length (strands.first b)) x =
      ap₂ (λ u o. crossing_inner k u o x) la lb in
      omega (arith, e, f)

  -- THE NAMES OF A CABLE
  -- THE NAMES OF A CABLE
  pub cable-times : (items : List NetItem) (standing : Standing) → AllByRecursion (Fits strands) items →
      times_in (names_of (cable_nodes p strands standing items)) x
      ≡ place_sum strands x standing.seen (places items) + box_total strands x l standing.seen items + loop_total strands x items + 2 * inner_total strands x standing.index items
  cable-times [] standing fit = refl
  cable-times (X (a ∷ b ∷ c ∷ d ∷ []) ∷ items) standing fit =
      let slots = a ∷ b ∷ c ∷ d ∷ [] in
      let ih = cable-times items (passed standing (X slots)) fit.1 in
      let cr = at_crossing standing.seen standing.group standing.index a b c d fit.0.0 fit.0.1 in
      let bx = box-times strands x l only standing slots in
      let crossing = crossing_cable p standing.group standing.index (names_at strands standing.seen a) (names_at strands (a ∷ standing.seen) b) (names_at strands (b ∷ a ∷ standing.seen) c) (names_at strands (c ∷ b ∷ a ∷ standing.seen) d) in
      let one = times_of-append x (box_nodes strands standing slots ++ crossing) (cable_nodes p strands (passed standing (X slots)) items) in
      let two = times_of-append x (box_nodes strands standing slots) crossing in
      omega (arith, ih, cr, bx, one, two)
  cable-times (X slots ∷ items) standing fit = absurd fit.0
  cable-times (Y (a ∷ b ∷ c ∷ []) ∷ items) standing fit =
      let slots = a ∷ b ∷ c ∷ [] in
      let ih = cable-times items (passed standing (Y slots)) fit.1 in
      let vertex = vertex_cable standing.group (names_at strands standing.seen a) (names_at strands (a ∷ standing.seen) b) (names_at strands (b ∷ a ∷ standing.seen) c) in
      let vx = vertex-times standing.group x (names_at strands standing.seen a) (names_at strands (a ∷ standing.seen) b) (names_at strands (b ∷ a ∷ standing.seen) c) in
      let bx = box-times strands x l only standing slots in
      let one = times_of-append x (box_nodes strands standing slots ++ vertex) (cable_nodes p strands (passed standing (Y slots)) items) in
      let two = times_of-append x (box_nodes strands standing slots) vertex in
      omega (arith, ih, vx, bx, one, two)
  cable-times (Y edges ∷ items) standing fit = absurd fit.0
  cable-times (Loop label ∷ items) standing fit =
      let ih = cable-times items (passed standing (Loop label)) fit.1 in
      let lp = loop_any strands x standing.loop_group (strands.first label) in
      let one = times_of-append x (loop_nodes strands standing.loop_group (strands.first label)) (cable_nodes p strands (passed standing (Loop label)) items) in
      omega (arith, ih, lp, one)
