-- A cable depends on the strands of the labels at its items alone.
--
--     AreAlike strands others label      both have the same strands of the label
use Rattle.std.proofs.Common.{◌≡◌, ℕ, ◌+◌, ◌==◌, ◌&&◌, not, true, false, cond, List, [], ◌∷◌, ◌++◌, map, length, reverse, refl, sym, ap, ap₂, ◌∙◌, arith, ⊎_elim}
use Rattle.std.specs.List.{AllByRecursion, filter, range_with_len}
use Rattle.std.specs.Set.{is_member}
use Rattle.std.proofs.lemmas.Bool.{cases_Bool, eqb-true, or_cases}
use Rattle.state_sums.specs.Networks.{Node}
use Rattle.root_quantum.specs.Parameters.{Parameters}
use Rattle.pd_reader.specs.declared.item.NetItem.{NetItem}
use Rattle.pd_reader.specs.declared.item.NetItem.TheVariants.{X, Y, Loop}
use Rattle.pd_reader.specs.Items.{net_item_labels}
use Rattle.pd_reader.specs.Diagrams.{labels}
use Rattle.cables.specs.Strands.{Strands, names_at}
use Rattle.cables.specs.CableNodes.{crossing_cable, vertex_cable, box_node}
use Rattle.cables.specs.Cables.{Standing, passed, past_all, box_nodes, loop_nodes, item_nodes, cable_nodes, loop_count, loops_at, start, cable}

-- the same strands of the label
pub record AreAlike (strands others : Strands) (label : ℕ) : Type 0 where
  pub first : strands.first label ≡ others.first label
  pub second : strands.second label ≡ others.second label
  pub boxed : strands.boxed label ≡ others.boxed label

pub all_front : (P : ℕ → Type 0) (xs ys : List ℕ) → AllByRecursion P (xs ++ ys) → AllByRecursion P xs
all_front P [] ys a = tt
all_front P (x ∷ xs) ys a = (a.0, all_front P xs ys a.1)

pub all_back : (P : ℕ → Type 0) (xs ys : List ℕ) → AllByRecursion P (xs ++ ys) → AllByRecursion P ys
all_back P [] ys a = a
all_back P (x ∷ xs) ys a = all_back P xs ys a.1

module _ (strands others : Strands) (same_box : strands.box ≡ others.box) where
  same_at : (seen : List ℕ) (label : ℕ) → AreAlike strands others label → names_at strands seen label ≡ names_at others seen label
  same_at seen label h = ap₂ (λ x y. cond (is_member ◌==◌ seen label) x y) h.second h.first

  same_node : (group label : ℕ) → AreAlike strands others label →
      box_node group (strands.box (length (strands.first label))) (strands.first label) (strands.second label) ≡ box_node group (others.box (length (others.first label))) (others.first label) (others.second label)
  same_node group label h =
      ap (λ b. box_node group (b (length (strands.first label))) (strands.first label) (strands.second label)) same_box
      ∙ ap₂ (λ x y. box_node group (others.box (length x)) x y) h.first h.second

  module _ (slots seen : List ℕ) (a : AllByRecursion (AreAlike strands others) slots) (group : ℕ) where
    in_slots : (label : ℕ) (ls : List ℕ) → AllByRecursion (AreAlike strands others) ls → is_member ◌==◌ ls label ≡ true → AreAlike strands others label
    in_slots label [] h m = absurd (grind (arith, m))
    in_slots label (y ∷ ls) h m = ⊎_elim (λ t. let e = sym (eqb-true label y t) in rw e at h.0) (λ t. in_slots label ls h.1 t) (or_cases (label == y) (is_member ◌==◌ ls label) m)

    same_list : (ns : List ℕ) →
        map (λ label. box_node group (strands.box (length (strands.first label))) (strands.first label) (strands.second label))
        (filter (λ label. is_member ◌==◌ slots label && (strands.boxed label && not (is_member ◌==◌ seen label))) ns)
        ≡ map (λ label. box_node group (others.box (length (others.first label))) (others.first label) (others.second label))
        (filter (λ label. is_member ◌==◌ slots label && (others.boxed label && not (is_member ◌==◌ seen label))) ns)
    same_list [] = refl
    same_list (n ∷ ns) =
        let ih = same_list ns in
        let f : ℕ → Node = λ label. box_node group (strands.box (length (strands.first label))) (strands.first label) (strands.second label) in
        let g : ℕ → Node = λ label. box_node group (others.box (length (others.first label))) (others.first label) (others.second label) in
        let fs = filter (λ label. is_member ◌==◌ slots label && (strands.boxed label && not (is_member ◌==◌ seen label))) ns in
        let gs = filter (λ label. is_member ◌==◌ slots label && (others.boxed label && not (is_member ◌==◌ seen label))) ns in
        ⊎_elim
        (λ t.
        let h = in_slots n slots a t in
        ap (λ b. map f (cond (is_member ◌==◌ slots n && (b && not (is_member ◌==◌ seen n))) (n ∷ fs) fs)) h.boxed
        ∙ elim (is_member ◌==◌ slots n && (others.boxed n && not (is_member ◌==◌ seen n))) as (λ b. map f (cond b (n ∷ fs) fs) ≡ map g (cond b (n ∷ gs) gs)) [
          | true ↦ ap₂ (λ x xs. x ∷ xs) (same_node group n h) ih
          | false ↦ ih
        ])
        (λ t.
        ap (λ b. map f (cond (b && (strands.boxed n && not (is_member ◌==◌ seen n))) (n ∷ fs) fs)) t
        ∙ ih
        ∙ sym (ap (λ b. map g (cond (b && (others.boxed n && not (is_member ◌==◌ seen n))) (n ∷ gs) gs)) t))
        (cases_Bool (is_member ◌==◌ slots n))

  same_boxes : (standing : Standing) (slots : List ℕ) → AllByRecursion (AreAlike strands others) slots → box_nodes strands standing slots ≡ box_nodes others standing slots
  same_boxes standing slots a = same_list slots standing.seen a standing.group (range_with_len 0 (past_all slots))

  same_loop : (group : ℕ) (names : List ℕ) → loop_nodes strands group names ≡ loop_nodes others group names
  same_loop group [] = refl
  same_loop group (x ∷ []) = refl
  same_loop group (x ∷ y ∷ names) = ap (λ b. box_node group (b (length (x ∷ y ∷ names))) (x ∷ y ∷ names) (reverse (x ∷ y ∷ names)) ∷ []) same_box

  same_item : (p : Parameters) (standing : Standing) (item : NetItem) → AllByRecursion (AreAlike strands others) (net_item_labels item) → item_nodes p strands standing item ≡ item_nodes p others standing item
  same_item p standing (X (a ∷ b ∷ c ∷ d ∷ [])) h =
      let seen = standing.seen in
      let na = same_at seen a h.0 in
      let nb = same_at (a ∷ seen) b h.1.0 in
      let nc = same_at (b ∷ a ∷ seen) c h.1.1.0 in
      let nd = same_at (c ∷ b ∷ a ∷ seen) d h.1.1.1.0 in
      ap₂ (λ x y. x ++ y) (same_boxes standing (a ∷ b ∷ c ∷ d ∷ []) h)
      (ap₂ (λ x y. crossing_cable p standing.group standing.index x y (names_at strands (b ∷ a ∷ seen) c) (names_at strands (c ∷ b ∷ a ∷ seen) d)) na nb
      ∙ ap₂ (λ x y. crossing_cable p standing.group standing.index (names_at others seen a) (names_at others (a ∷ seen) b) x y) nc nd)
  same_item p standing (X []) h = refl
  same_item p standing (X (a ∷ [])) h = refl
  same_item p standing (X (a ∷ b ∷ [])) h = refl
  same_item p standing (X (a ∷ b ∷ c ∷ [])) h = refl
  same_item p standing (X (a ∷ b ∷ c ∷ d ∷ e ∷ slots)) h = refl
  same_item p standing (Y (a ∷ b ∷ c ∷ [])) h =
      let seen = standing.seen in
      let na = same_at seen a h.0 in
      let nb = same_at (a ∷ seen) b h.1.0 in
      let nc = same_at (b ∷ a ∷ seen) c h.1.1.0 in
      ap₂ (λ x y. x ++ y) (same_boxes standing (a ∷ b ∷ c ∷ []) h)
      (ap₂ (λ x y. vertex_cable standing.group x y (names_at strands (b ∷ a ∷ seen) c)) na nb
      ∙ ap (λ x. vertex_cable standing.group (names_at others seen a) (names_at others (a ∷ seen) b) x) nc)
  same_item p standing (Y []) h = refl
  same_item p standing (Y (a ∷ [])) h = refl
  same_item p standing (Y (a ∷ b ∷ [])) h = refl
  same_item p standing (Y (a ∷ b ∷ c ∷ d ∷ edges)) h = refl
  same_item p standing (Loop label) h = same_loop standing.loop_group (strands.first label) ∙ ap (loop_nodes others standing.loop_group) h.0.first

  same_nodes : (p : Parameters) (items : List NetItem) (standing : Standing) → AllByRecursion (AreAlike strands others) (labels net_item_labels items) →
      cable_nodes p strands standing items ≡ cable_nodes p others standing items
  same_nodes p [] standing h = refl
  same_nodes p (item ∷ items) standing h =
      ap₂ (λ x y. x ++ y) (same_item p standing item (all_front (AreAlike strands others) (net_item_labels item) (labels net_item_labels items) h))
      (same_nodes p items (passed standing item) (all_back (AreAlike strands others) (net_item_labels item) (labels net_item_labels items) h))

  same_loops : (items : List NetItem) → AllByRecursion (AreAlike strands others) (labels net_item_labels items) → loop_count strands items ≡ loop_count others items
  same_loops [] h = refl
  same_loops (X slots ∷ items) h = same_loops items (all_back (AreAlike strands others) slots (labels net_item_labels items) h)
  same_loops (Y slots ∷ items) h = same_loops items (all_back (AreAlike strands others) slots (labels net_item_labels items) h)
  same_loops (Loop label ∷ items) h = ap₂ (λ x y. loops_at x + y) h.0.first (same_loops items h.1.1)

  -- ONE CABLE
  pub same_cable : (p : Parameters) (items : List NetItem) → AllByRecursion (AreAlike strands others) (labels net_item_labels items) → cable p strands items ≡ cable p others items
  same_cable p items h = ap₂ (λ ns k. record { nodes = ns; free_loops = k }) (same_nodes p items (start items) h) (same_loops items h)
