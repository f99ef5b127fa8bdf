-- The boxes at an item are those of its different labels, in increasing order, whose edges have one and aren't seen before.
--
-- The numbers up to the greatest label that are labels of the item are its different labels.
-- So the boxes of the definition are those that the code puts down label by label.
use Rattle.std.proofs.Common.{◌≡◌, ℕ, ◌+◌, ◌<◌, ◌≤◌, ◌==◌, ◌&&◌, not, Bool, true, false, cond, List, [], ◌∷◌, ◌++◌, map, length, get_or, drop, refl, sym, ap, subst, ◌∙◌, arith, append_assoc, drop-cons, add-one, All, ⊎_elim}
use Rattle.std.specs.List.{filter, range_with_len}
use Rattle.std.specs.Set.{is_member}
use Rattle.std.proofs.lemmas.Bool.{cases_Bool}
use Rattle.std.proofs.lemmas.Bool.Decides.{Decides-eqb}
use Rattle.std.proofs.lemmas.Map.Made.{is_member-Decides}
use Rattle.state_sums.specs.Networks.{Node}
use Rattle.graph_parts.proofs.Ends.{is_member-get_or}
use Rattle.planar_check.specs.Components.{greatest, distinct}
use Rattle.planar_check.proofs.ComponentLists.{filter-filter, distinct-member}
use Rattle.cables.specs.Strands.{Strands}
use Rattle.cables.specs.Cables.{Standing, past_all, box_nodes}
use Rattle.skein_network.specs.declared.colouring.Colouring.{Colouring}
use Rattle.skein_network.specs.Edges.{boxed_at}
use Rattle.skein_network.specs.Colourings.{IsReady}
use Rattle.skein_network.specs.Boxes.{label_box, boxes_among, boxes_at}

-- ---- one label after the other
module _ (strands : Strands) (group : ℕ) (seen labels : List ℕ) (i x : ℕ) (within : i < length labels) (here : get_or labels i 0 ≡ x) (new old start : List Node) where
  abbrev test : ℕ → Bool
  test label = strands.boxed label && not (is_member ◌==◌ seen label)

  unrolled : boxes_among strands group seen (drop i labels) ≡ map (label_box strands group) (cond (test x) (x ∷ filter test (drop (i + 1) labels)) (filter test (drop (i + 1) labels)))
  unrolled = ap (boxes_among strands group seen) (rw add-one (drop-cons labels i 0 within) ∙ ap (λ y. y ∷ drop (i + 1) labels) here)

  pub with_box : test x ≡ true → new ≡ old ++ label_box strands group x ∷ [] → old ++ boxes_among strands group seen (drop i labels) ≡ start → new ++ boxes_among strands group seen (drop (i + 1) labels) ≡ start
  with_box t pushed before =
      let rest = boxes_among strands group seen (drop (i + 1) labels) in
      ap (λ ns. ns ++ rest) pushed
      ∙ append_assoc old (label_box strands group x ∷ []) rest
      ∙ ap (λ ns. old ++ ns) (sym (unrolled ∙ ap (λ b. map (label_box strands group) (cond b (x ∷ filter test (drop (i + 1) labels)) (filter test (drop (i + 1) labels)))) t))
      ∙ before

  pub without_box : test x ≡ false → new ≡ old → old ++ boxes_among strands group seen (drop i labels) ≡ start → new ++ boxes_among strands group seen (drop (i + 1) labels) ≡ start
  without_box t same before =
      ap (λ ns. ns ++ boxes_among strands group seen (drop (i + 1) labels)) same
      ∙ ap (λ ns. old ++ ns) (sym (unrolled ∙ ap (λ b. map (label_box strands group) (cond b (x ∷ filter test (drop (i + 1) labels)) (filter test (drop (i + 1) labels)))) t))
      ∙ before

-- no label has a box, where no projector is held
pub none_boxed : (strands : Strands) (group : ℕ) (seen labels : List ℕ) → ((label : ℕ) → strands.boxed label ≡ false) → boxes_among strands group seen labels ≡ []
none_boxed strands group seen [] none = refl
none_boxed strands group seen (x ∷ labels) none =
    let test : ℕ → Bool = λ label. strands.boxed label && not (is_member ◌==◌ seen label) in
    ap (λ b. map (label_box strands group) (cond (b && not (is_member ◌==◌ seen x)) (x ∷ filter test labels) (filter test labels))) (none x)
    ∙ none_boxed strands group seen labels none

pub unboxed_without : (colouring : Colouring) → IsReady colouring → length colouring.projectors.items ≡ 0 → (label : ℕ) → boxed_at colouring.edges.items label ≡ false
unboxed_without colouring ready none label =
    ⊎_elim
    (λ t. let within = (ready.held label (ready.some label t)).1.1 in absurd (omega (arith, within, none)))
    (λ f. f)
    (cases_Bool (boxed_at colouring.edges.items label))

-- the different labels are those of the list
pub label_low : (slots : List ℕ) → All (λ label. label ≤ 2000000) slots → (i : ℕ) → i < length (distinct slots) → get_or (distinct slots) i 0 ≤ 2000000
label_low slots low i h =
    let x = get_or (distinct slots) i 0 in
    let there = (is_member-Decides Decides-eqb slots x).0 (sym (distinct-member slots x) ∙ is_member-get_or (distinct slots) i h) in
    subst (λ y. y ≤ 2000000) there.2 (low there.0 x there.1)

-- past all labels is one more than the greatest
past : (x : ℕ) (xs : List ℕ) → past_all (x ∷ xs) ≡ greatest (x ∷ xs) + 1
past x [] = omega arith
past x (y ∷ xs) = let ih = past y xs in omega (arith, ih)

-- THE BOXES AT AN ITEM
pub box_nodes_are : (strands : Strands) (standing : Standing) (slots : List ℕ) → box_nodes strands standing slots ≡ boxes_at strands standing.group standing.seen slots
unfolding distinct
box_nodes_are strands standing [] = refl
box_nodes_are strands standing (x ∷ xs) =
    let listed : ℕ → Bool = is_member ◌==◌ (x ∷ xs) in
    let test : ℕ → Bool = λ label. strands.boxed label && not (is_member ◌==◌ standing.seen label) in
    ap (map (label_box strands standing.group))
    (ap (λ n. filter (λ label. listed label && test label) (range_with_len 0 n)) (past x xs) ∙ sym (filter-filter test listed (range_with_len 0 (greatest (x ∷ xs) + 1))))
