-- Labels that are contracted keep their component.
use Rattle.std.proofs.Common.{◌≡◌, ℕ, zero, suc, [], ◌∷◌, Contains, ◌<◌, ◌==◌, ◌&&◌, nat_le, ◌-◌, Bool, true, false, List, length, count_by, slice_index, refl, sym, ap, ap₂, ◌∙◌, arith}
use Rattle.std.specs.List.{AllByRecursion}
use Rattle.std.specs.Set.{is_member}
use Rattle.std.proofs.lemmas.Bool.{eqb-true, and_parts}
use Rattle.std.proofs.lemmas.Bool.Decides.{nat_tests}
use Rattle.graph_parts.specs.Walks.{Joined, along, stay, back, on}
use Rattle.graph_parts.specs.Ends.{EndsAre}
use Rattle.graph_parts.specs.LeastNames.{least_label}
use Rattle.graph_parts.proofs.LeastLabels.{AreLeast-labels, least_label-Joined}
use Rattle.pd_reader.specs.declared.item.Item.{Item}
use Rattle.pd_reader.specs.Items.{item_labels, HasItsSlots}
use Rattle.pd_reader.specs.Diagrams.{labels}
use Rattle.planar_check.specs.Components.{strand_edges, component_least, least_labels}
use Rattle.root_quantum.specs.Parameters.{Parameters}
use Rattle.cables.specs.Cables.{cable, Fits, as_net}
use Rattle.cables.specs.Nets.{projector_of}
use Rattle.cables.specs.Strands.{first_names, second_names}
use Rattle.cables.proofs.NumberedStrands.{first_length}
use Rattle.cables.proofs.SameCables.{AreAlike, same_cable}
use Rattle.coloured_values.specs.Coloured.{colour_of, is_boxed, diagram_strands}
use Rattle.coloured_values.proofs.CabledDiagrams.{same_least, fits_from}
use Rattle.coloured_values.proofs.ColouredLaws.{all_labels}
use Rattle.coloured_moves.proofs.LabelColours.{same_component}
use Rattle.move_results.proofs.LeastLabelLists.{Contracts, least_is, strands_among, IsLeast, from_least, least_in_big, joined_through}

ends_at : (p : ℕ → Bool) (es : List (ℕ × ℕ)) (x y : ℕ) → EndsAre p es → Contains es (x, y) → (p x ≡ true) × (p y ≡ true)
ends_at p [] x y h w = absurd (omega (arith, w.1))
ends_at p (e ∷ es) x y h (zero, l, q) = (ap p (sym (ap (λ (z : ℕ × ℕ). z.0) q)) ∙ h.0, ap p (sym (ap (λ (z : ℕ × ℕ). z.1) q)) ∙ h.1)
ends_at p (e ∷ es) x y h (suc i, l, q) = ends_at p es x y h.2 (i, omega (arith, l), q)

joined_both : (p : ℕ → Bool) (es : List (ℕ × ℕ)) → EndsAre p es → {x y : ℕ} → Joined es x y → (p x ≡ true → p y ≡ true) × (p y ≡ true → p x ≡ true)
joined_both p es h (along {x = x} {y = y} w) = let t = ends_at p es x y h w in ((λ a. t.1), (λ a. t.0))
joined_both p es h stay = ((λ a. a), (λ a. a))
joined_both p es h (back j) = let t = joined_both p es h j in (t.1, t.0)
joined_both p es h (on i j) = let s = joined_both p es h i in let t = joined_both p es h j in ((λ a. t.0 (s.0 a)), (λ a. s.1 (t.1 a)))

-- the least label of a component is a label
least_member : (items : List Item) → AllByRecursion HasItsSlots items → (l : ℕ) → is_member ◌==◌ (labels item_labels items) l ≡ true → is_member ◌==◌ (labels item_labels items) (component_least items l) ≡ true
least_member items sizes l m =
    let es = strand_edges items in
    let rules = AreLeast-labels es in
    let walk : Joined es l (least_label es l) = (least_label-Joined es l (least_label es l)).0 (sym (rules.itself l)) in
    ap (is_member ◌==◌ (labels item_labels items)) (least_is items sizes l m) ∙ (joined_both (is_member ◌==◌ (labels item_labels items)) es (strands_among items sizes) walk).0 m

module _ (big small : List Item) (f : ℕ → ℕ) (c : Contracts big small f) (sizes_big : AllByRecursion HasItsSlots big) (sizes_small : AllByRecursion HasItsSlots small) where
  -- the least label of a label's component is one that no smaller one is joined with
  small_least : (l : ℕ) → is_member ◌==◌ (labels item_labels small) l ≡ true → is_member ◌==◌ (labels item_labels small) (component_least small l) ≡ true → IsLeast small (component_least small l)
  small_least l m there =
      let e = least_is small sizes_small l m in (
        there,
        λ y j.
            let rules = AreLeast-labels (strand_edges small) in
            let a = (least_label-Joined (strand_edges small) (component_least small l) y).1 j in
            let below = rules.below y in
            let own : least_label (strand_edges small) (component_least small l) ≡ component_least small l = ap (least_label (strand_edges small)) e ∙ rules.itself l ∙ sym e in
            omega (arith, a, below, own),
      )

  pub contracted_least : (l : ℕ) → is_member ◌==◌ (labels item_labels big) l ≡ true → is_member ◌==◌ (labels item_labels small) (component_least small (f l)) ≡ true → component_least big l ≡ component_least small (f l)
  contracted_least l m there =
      let x = f l in
      let mx = c.onto l m in
      let least = component_least small x in
      let rules = AreLeast-labels (strand_edges small) in
      let e = least_is small sizes_small x mx in
      let big_least = least_in_big big small f c least (small_least x mx there) in
      let whole = from_least big sizes_big least big_least in
      let own : component_least big least ≡ least = eqb-true (component_least big least) least (and_parts (is_member ◌==◌ (labels item_labels big) least) (component_least big least == least) whole).1 in
      let walk : Joined (strand_edges small) x (least_label (strand_edges small) x) = (least_label-Joined (strand_edges small) x (least_label (strand_edges small) x)).0 (sym (rules.itself x)) in
      let walk_big = joined_through (strand_edges small) (strand_edges big) c.edge_back walk in
      let to_x = c.walks l m in
      let same : least_label (strand_edges big) l ≡ least_label (strand_edges big) (least_label (strand_edges small) x) = (least_label-Joined (strand_edges big) l (least_label (strand_edges small) x)).1 (on to_x walk_big) in
      least_is big sizes_big l m ∙ same ∙ ap (least_label (strand_edges big)) (sym e) ∙ sym (least_is big sizes_big least big_least.0) ∙ own

  -- THE SAME COLOUR, AND THE SAME BOXES
  module _ (same : least_labels big ≡ least_labels small) (colours : List ℕ) where
    pub contracted_colour : (l : ℕ) → is_member ◌==◌ (labels item_labels big) l ≡ true → colour_of big colours l ≡ colour_of small colours (f l)
    contracted_colour l m =
        let e = contracted_least l m (least_member small sizes_small (f l) (c.onto l m)) in
        ap₂ (λ x xs. slice_index colours (count_by (λ least. nat_le least x) xs - 1)) e same

    pub contracted_boxed : (l : ℕ) → is_member ◌==◌ (labels item_labels small) l ≡ true → is_boxed big colours l ≡ is_boxed small colours l
    contracted_boxed l m =
        let k = c.fixes l m in
        let n = c.within l m in
        let e = contracted_least l n (least_member small sizes_small (f l) (c.onto l n)) in
        ap₂ (λ x y. nat_le 2 x && y == l) (contracted_colour l n ∙ ap (colour_of small colours) k) (e ∙ ap (component_least small) k)

    -- a label that is lowered has no box
    pub lowered_unboxed : (l : ℕ) → is_member ◌==◌ (labels item_labels big) l ≡ true → f l < l → is_boxed big colours l ≡ false
    lowered_unboxed l m low =
        let n = c.onto l m in
        let e = contracted_least l m (least_member small sizes_small (f l) n) in
        let rules = AreLeast-labels (strand_edges small) in
        let b = rules.below (f l) in
        let s = least_is small sizes_small (f l) n in
        unequal (nat_le 2 (colour_of big colours l)) (component_least big l) l (omega (arith, e, b, s, low))
      where
        unequal : (t : Bool) (x l : ℕ) → x < l → (t && x == l) ≡ false
        unequal t x l h = grind (arith, nat_tests, h)

    -- ---- the strands of the small diagram
    kept_colour : (l : ℕ) → is_member ◌==◌ (labels item_labels small) l ≡ true → colour_of big colours l ≡ colour_of small colours l
    kept_colour l m = contracted_colour l (c.within l m) ∙ ap (colour_of small colours) (c.fixes l m)

    -- ITS CABLE HAS THE BIG DIAGRAM'S STRANDS
    pub contracted_cable : (p : Parameters) → cable p (diagram_strands p small colours) (as_net small) ≡ cable p (diagram_strands p big colours) (as_net small)
    contracted_cable p =
        let own = diagram_strands p small colours in
        let others = diagram_strands p big colours in
        same_cable own others refl p (as_net small) (all_labels (AreAlike own others) small (λ l m.
        let e = sym (kept_colour l m) in
        let b = sym (contracted_boxed l m) in
        record { first = ap (λ n. first_names n l) e; second = ap₂ (λ n h. second_names n h l) e b; boxed = b }))

    pub contracted_fits : (p : Parameters) → AllByRecursion (Fits (diagram_strands p big colours)) (as_net small)
    contracted_fits p =
        let long : (l : ℕ) → length ((diagram_strands p big colours).first l) ≡ colour_of big colours l = λ l. first_length (colour_of big colours) (is_boxed big colours) (projector_of p) l in
        fits_from (diagram_strands p big colours) small sizes_small (λ x y e mx my.
        long x ∙ kept_colour x mx ∙ same_component small colours x y (same_least small sizes_small x y e mx my) ∙ sym (kept_colour y my) ∙ sym (long y))
