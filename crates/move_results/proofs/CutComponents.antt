-- R2 and Curl on an edge: components keep their least labels, as new labels stand on old strands.
use Rattle.std.proofs.Common.{◌≡◌, ℕ, zero, suc, ◌+◌, ◌*◌, ◌<◌, ◌≤◌, true, ◌==◌, List, [], ◌∷◌, ◌++◌, map, length, slice_index, Contains, refl, sym, ap, ◌∙◌, arith, ◌⊎◌, inl, inr, ⊎_elim, subst, append_assoc}
use Rattle.std.specs.List.{AllByRecursion}
use Rattle.std.specs.Set.{is_member}
use Rattle.std.proofs.lemmas.Bool.{cases_Bool}
use Rattle.std.proofs.lemmas.List.{get_or-map}
use Rattle.std.proofs.lemmas.List.Elements.{Contains-append_left, Contains-append_right, Contains-append_cases}
use Rattle.graph_parts.specs.Renaming.{renamed}
use Rattle.graph_parts.specs.Walks.{Joined, along, stay, back, on}
use Rattle.pd_reader.specs.declared.item.Item.{Item}
use Rattle.pd_reader.specs.declared.item.Item.TheVariants as item
use Rattle.pd_reader.specs.Items.{item_labels, HasItsSlots}
use Rattle.pd_reader.specs.Diagrams.{labels}
use Rattle.planar_check.specs.Components.{strand_edges, item_strands, least_labels}
use Rattle.diagram_moves.specs.Laws.{IsPairedDiagram}
use Rattle.diagram_moves.specs.Rewriting.{crossing_labels, map_from, at_places, fresh}
use Rattle.move_results.proofs.LeastLabelLists.{Contracts, least_labels_by, least_in_big, least_in_small, joined_through}
use Rattle.list_lemmas.proofs.Times.{member_of_times, times_none, times_of_member}
use Rattle.diagram_moves.proofs.PlaceLemmas.{EachFrom, mapped_labels, fresh_above, length-map_from, each_first, each_second}
use Rattle.list_lemmas.specs.Times.{times_in}

pub strand_edges-append : (xs ys : List Item) → strand_edges (xs ++ ys) ≡ strand_edges xs ++ strand_edges ys
strand_edges-append [] ys = refl
strand_edges-append (x ∷ xs) ys = ap (λ es. item_strands x ++ es) (strand_edges-append xs ys) ∙ sym (append_assoc (item_strands x) (strand_edges xs) (strand_edges ys))

pub contains_map : (h : ℕ × ℕ → ℕ × ℕ) (es : List (ℕ × ℕ)) (e : ℕ × ℕ) → Contains es e → Contains (map h es) (h e)
contains_map h [] e c = absurd (omega (arith, c.1))
contains_map h (f ∷ es) e (zero, l, q) = (0, omega arith, ap h q)
contains_map h (f ∷ es) e (suc i, l, q) = let c = contains_map h es e (i, omega (arith, l), q) in (suc c.0, omega (arith, c.1), c.2)

pub contains_unmap : (h : ℕ × ℕ → ℕ × ℕ) (es : List (ℕ × ℕ)) (e : ℕ × ℕ) → Contains (map h es) e → (f : ℕ × ℕ) × Contains es f × (h f ≡ e)
contains_unmap h [] e c = absurd (omega (arith, c.1))
contains_unmap h (f ∷ es) e (zero, l, q) = (f, (0, omega arith, refl), q)
contains_unmap h (f ∷ es) e (suc i, l, q) =
    let r = contains_unmap h es e (i, omega (arith, l), q) in
    let c = r.1 in
    (r.0, (suc c.0, omega (arith, c.1), c.2), r.2)

-- strands with the old labels again
strands_back : (label : ℕ → ℕ) (g : ℕ → ℕ → ℕ) (p : ℕ) (items : List Item) → AllByRecursion HasItsSlots items → EachFrom (λ q l. label (g q l) ≡ l) p (crossing_labels items) →
    map (renamed label) (strand_edges (at_places g p items)) ≡ strand_edges items
strands_back label g p [] sizes h = refl
strands_back label g p (item.X slots ∷ rest) sizes h =
    let here = mapped_labels label g p slots (each_first (λ q l. label (g q l) ≡ l) p slots (crossing_labels rest) h) in
    let ih = strands_back label g (p + length slots) rest sizes.1 (each_second (λ q l. label (g q l) ≡ l) p slots (crossing_labels rest) h) in
    let new = map_from g p slots in
    let four : length new ≡ 4 = length-map_from g p slots ∙ sizes.0 in
    let at : (i : ℕ) → i < 4 → label (slice_index new i) ≡ slice_index slots i =
    λ i l. sym (get_or-map label new i 0 0 (omega (arith, l, four))) ∙ ap (λ s. slice_index s i) here in
    let a = at 0 (omega arith) in let b = at 1 (omega arith) in let c = at 2 (omega arith) in let d = at 3 (omega arith) in
    let first : (label (slice_index new 0), label (slice_index new 2)) ≡ (slice_index slots 0, slice_index slots 2) = ap (λ z. let e : ℕ × ℕ = (z, label (slice_index new 2)) in e) a ∙ ap (λ z. let e : ℕ × ℕ = (slice_index slots 0, z) in e) c in
    let second : (label (slice_index new 1), label (slice_index new 3)) ≡ (slice_index slots 1, slice_index slots 3) = ap (λ z. let e : ℕ × ℕ = (z, label (slice_index new 3)) in e) b ∙ ap (λ z. let e : ℕ × ℕ = (slice_index slots 1, z) in e) d in
    ap (λ e. e ∷ renamed label (slice_index new 1, slice_index new 3) ∷ map (renamed label) (strand_edges (at_places g (p + length slots) rest))) first
    ∙ ap (λ e. (slice_index slots 0, slice_index slots 2) ∷ e ∷ map (renamed label) (strand_edges (at_places g (p + length slots) rest))) second
    ∙ ap (λ es. (slice_index slots 0, slice_index slots 2) ∷ (slice_index slots 1, slice_index slots 3) ∷ es) ih
strands_back label g p (item.Loop l ∷ rest) sizes h = strands_back label g p rest sizes.1 h

-- ---- a diagram that is cut at places, with new crossings on the pieces
module _ (items : List Item) (pd : IsPairedDiagram items) (g : ℕ → ℕ → ℕ) (new : List Item) (pairs : List (ℕ × ℕ)) (label k : ℕ → ℕ)
    (each : EachFrom (λ q l. label (g q l) ≡ l) 0 (crossing_labels items)) (joined_label : (z : ℕ) → Joined pairs z (label z))
    (in_new : (x y : ℕ) → Contains pairs (x, y) → Joined (strand_edges new) x y) (collapse : (x y : ℕ) → Contains (strand_edges new) (x, y) → label x ≡ label y)
    (label_old : (z : ℕ) → z < fresh items → label z ≡ z) (lowers : (z : ℕ) → label z ≤ z)
    (total : (z : ℕ) → times_in (labels item_labels (at_places g 0 items ++ new)) z ≡ times_in (labels item_labels items) z + 2 * k z)
    (new_onto : (z : ℕ) → 1 ≤ k z → is_member ◌==◌ (labels item_labels items) (label z) ≡ true) where
  abbrev R : List Item
  R = at_places g 0 items

  abbrev after : List Item
  after = R ++ new

  strands_of_new : (x y : ℕ) → Contains (strand_edges new) (x, y) → Joined (strand_edges after) x y
  strands_of_new x y c =
      let P : List (ℕ × ℕ) → Type 0 = λ es. Contains es (x, y) in
      let whole : Contains (strand_edges after) (x, y) = subst P (sym (strand_edges-append R new)) (Contains-append_right (strand_edges R) (strand_edges new) (x, y) c) in
      along whole

  to_label : (z : ℕ) → Joined (strand_edges after) z (label z)
  to_label z = joined_through pairs (strand_edges after) (λ x y c. joined_through (strand_edges new) (strand_edges after) strands_of_new (in_new x y c)) (joined_label z)

  same_strands : map (renamed label) (strand_edges R) ≡ strand_edges items
  same_strands = strands_back label g 0 items pd.sizes each

  old_or_new : (z : ℕ) → is_member ◌==◌ (labels item_labels after) z ≡ true → (is_member ◌==◌ (labels item_labels items) z ≡ true) ⊎ (1 ≤ k z)
  old_or_new z m =
      let one = times_of_member z (labels item_labels after) m in
      let t = total z in
      ⊎_elim (λ h. inl h) (λ h. inr (let none = times_none (labels item_labels items) z h in omega (arith, one, t, none))) (cases_Bool (is_member ◌==◌ (labels item_labels items) z))

  pub cut_contracts : Contracts after items label
  cut_contracts = record {
    fixes = λ l m. label_old l (fresh_above items l m);
    lowers = lowers;
    walks = λ l m. to_label l;
    onto = λ l m. ⊎_elim (λ h. ap (is_member ◌==◌ (labels item_labels items)) (label_old l (fresh_above items l h)) ∙ h) (λ h. new_onto l h) (old_or_new l m);
    within = λ l m.
        let one = times_of_member l (labels item_labels items) m in let t = total l in member_of_times l (labels item_labels after) (omega (arith, one, t));
    edge = λ x y c.
        let P : List (ℕ × ℕ) → Type 0 = λ es. Contains es (x, y) in
        let Q : List (ℕ × ℕ) → Type 0 = λ es. Contains es (label x, label y) in
        ⊎_elim
        (λ d. along (subst Q same_strands (contains_map (renamed label) (strand_edges R) (x, y) d)))
        (λ d. let S : ℕ → Type 0 = λ z. Joined (strand_edges items) (label x) z in subst S (collapse x y d) stay)
        (Contains-append_cases (strand_edges R) (strand_edges new) (x, y) (subst P (strand_edges-append R new) c));
    edge_back = λ x y c.
        let P : List (ℕ × ℕ) → Type 0 = λ es. Contains es (x, y) in
        let r = contains_unmap (renamed label) (strand_edges R) (x, y) (subst P (sym same_strands) c) in
        let u = r.0.0 in let v = r.0.1 in
        let a : label u ≡ x = ap (λ f. f.0) r.2 in
        let b : label v ≡ y = ap (λ f. f.1) r.2 in
        let W : List (ℕ × ℕ) → Type 0 = λ es. Contains es r.0 in
        let whole : Contains (strand_edges after) r.0 = subst W (sym (strand_edges-append R new)) (Contains-append_left (strand_edges R) (strand_edges new) r.0 r.1) in
        let here : Joined (strand_edges after) u v = along whole in
        let J : ℕ → Type 0 = λ z. Joined (strand_edges after) z y in
        let K : ℕ → Type 0 = λ z. Joined (strand_edges after) (label u) z in
        subst J a (subst K b (on (back (to_label u)) (on here (to_label v))));
  }

  pub cut_components : AllByRecursion HasItsSlots after → least_labels after ≡ least_labels items
  cut_components sizes = least_labels_by items after pd.sizes sizes (least_in_big after items label cut_contracts) (least_in_small after items label cut_contracts)

pub each_walk : (es fs : List (ℕ × ℕ)) → AllByRecursion (λ e. Joined fs e.0 e.1) es → (x y : ℕ) → Contains es (x, y) → Joined fs x y
each_walk [] fs h x y c = absurd (omega (arith, c.1))
each_walk (e ∷ es) fs h x y (zero, l, q) =
    let a : e.0 ≡ x = ap (λ f. f.0) q in
    let b : e.1 ≡ y = ap (λ f. f.1) q in
    let J : ℕ → Type 0 = λ z. Joined fs z y in
    let K : ℕ → Type 0 = λ z. Joined fs e.0 z in
    subst J a (subst K b h.0)
each_walk (e ∷ es) fs h x y (suc i, l, q) = each_walk es fs h.1 x y (i, omega (arith, l), q)
