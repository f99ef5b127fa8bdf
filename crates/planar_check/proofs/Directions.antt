-- The walks that give the signs are a direction: at each crossing a walk that enters at a slot leaves at the opposite one, and one
-- that leaves along an edge enters at its other end. By proofs/Reversal of slide_strands.
use Rattle.std.proofs.Common.{◌≡◌, ◌⊎◌, ◌↔◌, ℕ, zero, suc, ◌+◌, ◌<◌, ◌==◌, not, Bool, true, false, cond, ltb, Some, None, refl, List, [], ◌∷◌, length, get_or, slice_index, Contains, inl, inr, sym, ap, subst, ◌∙◌, arith, ⊎_elim, eq-eqb, ne_eqb}
use Rattle.std.specs.List.{range_with_len}
use Rattle.std.specs.Set.{is_member}
use Rattle.std.proofs.lemmas.Bool.{cases_Bool, eqb-true, ltb-true, ltb-false, lt-ltb}
use Rattle.std.proofs.lemmas.List.Elements.{All-from_get_or}
use Rattle.std.proofs.lemmas.List.FromFn.{length-map-range_with_len, get_or-map-range_with_len}
use Rattle.graph_parts.specs.Ends.{EndsAre, AreAmong}
use Rattle.graph_parts.specs.LeastNames.{least_label}
use Rattle.graph_parts.specs.Walks.{Joined, back}
use Rattle.graph_parts.proofs.Ends.{is_member-get_or}
use Rattle.graph_parts.proofs.LeastLabels.{AreLeast-labels, least_label-Joined, least_name-label, least_name-Joined}
use Rattle.graph_parts.proofs.Numbered.{is_member-numbered, AreAmong-numbered}
use Rattle.graph_parts.proofs.Through.{inside-from_Joined}
use Rattle.graph_parts.proofs.Walks.{Contains-head, Contains-later}
use Rattle.pd_reader.specs.declared.item.Item.{Item}
use Rattle.pd_reader.specs.Items.{item_labels}
use Rattle.pd_reader.specs.Diagrams.{labels, IsDiagram}
use Rattle.planar_check.specs.Places.{crossings_of, first_place, labels_by_place, slots_after, other_place, other_places}
use Rattle.planar_check.specs.Components.{strand_edges, component_least}
use Rattle.planar_check.specs.Signs.{walk_edges, walk_of, is_walked_with, enters, same_truth}
use Rattle.planar_check.proofs.Reversal.{ArePlaced, next, walked, Meet, joined_meets, meets_joined, one_way, across_meets, meets_across, covered}
use Rattle.planar_check.specs.Directions.{opposite, IsDirection}
use Rattle.planar_check.specs.Laws.{WalkDirections}
use Rattle.planar_check.proofs.Crossings.{places_labels}
use Rattle.planar_check.proofs.OppositePlaces.{places_twice, placed, same_label, strand_places, joined_opposite, opposite_after, other_label}
use Rattle.std.specs.List.{position_or_len}
use Rattle.std.proofs.lemmas.List.Sums.{fails_before_first, passes_at_first}
use Rattle.list_lemmas.proofs.Items.{member_at}

not-not : (b : Bool) → not (not b) ≡ b
not-not true = refl
not-not false = refl

ends_from : (p : ℕ → Bool) (es : List (ℕ × ℕ)) → ((x y : ℕ) → Contains es (x, y) → (p x ≡ true) × (p y ≡ true)) → EndsAre p es
ends_from p [] h = tt
ends_from p (e ∷ es) h = let here = h e.0 e.1 (Contains-head e es) in (here.0, here.1, ends_from p es (λ x y c. h x y (Contains-later e (x, y) es c)))

module _ (xs : List Item) (diagram : IsDiagram xs) where
  abbrev cs : List (List ℕ)
  cs = crossings_of xs

  abbrev ls : List ℕ
  ls = labels_by_place cs

  abbrev n : ℕ
  n = length ls

  abbrev other : ℕ → ℕ
  other = other_place ls

  abbrev step : ℕ → ℕ
  step = next n opposite other (placed xs diagram)

  -- ---- the lists
  abbrev after : List ℕ
  after = slots_after 0 cs

  abbrev others : List ℕ
  others = other_places ls

  abbrev edges : List (ℕ × ℕ)
  edges = walk_edges after others

  abbrev edge_at : ℕ → ℕ × ℕ
  edge_at p = (p, slice_index others (slice_index after (slice_index after p)))

  others_long : length others ≡ n
  others_long = length-map-range_with_len (other_place ls) 0 n

  other_at : (p : ℕ) → p < n → slice_index others p ≡ other p
  other_at p l = get_or-map-range_with_len (other_place ls) 0 n p p 0 l (let e : 0 + p ≡ p = omega arith in e)

  step_at : (p : ℕ) → p < n → slice_index others (slice_index after (slice_index after p)) ≡ step p
  step_at p l = ap (slice_index others) (opposite_after xs diagram p l) ∙ other_at (opposite p) (ArePlaced.opposite_within (placed xs diagram) p l)

  edges_long : length edges ≡ n
  edges_long = length-map-range_with_len edge_at 0 (length others) ∙ others_long

  entry_at : (p : ℕ) (d : ℕ × ℕ) → p < n → get_or edges p d ≡ edge_at p
  entry_at p d l = get_or-map-range_with_len edge_at 0 (length others) p p d (omega (arith, l, others_long)) (let e : 0 + p ≡ p = omega arith in e)

  are : (p q : ℕ) → Contains edges (p, q) → q ≡ step p
  are p q (k, l, e) =
      let within : k < n = omega (arith, l, edges_long) in
      let is : edge_at k ≡ (p, q) = sym (entry_at k (p, q) within) ∙ e in
      let same : k ≡ p = ap (λ (f : ℕ × ℕ). f.0) is in
      sym (ap (λ (f : ℕ × ℕ). f.1) is) ∙ (step_at k within ∙ ap step same)

  have : (p : ℕ) → p < n → Contains edges (p, step p)
  have p l = (p, omega (arith, l, edges_long), entry_at p (p, step p) l ∙ ap (λ (m : ℕ). (p, m)) (step_at p l))

  step_within : (p : ℕ) → p < n → step p < n
  step_within p l = ArePlaced.other_within (placed xs diagram) (opposite p) (ArePlaced.opposite_within (placed xs diagram) p l)

  among : AreAmong (range_with_len 0 (length others)) edges
  among = AreAmong-numbered (length others) edges
      (All-from_get_or (λ edge. (edge.0 < length others) × (edge.1 < length others)) edges (0, 0) (λ i l.
      let within : i < n = omega (arith, l, edges_long) in
      subst (λ (edge : ℕ × ℕ). (edge.0 < length others) × (edge.1 < length others)) (sym (entry_at i (0, 0) within))
      ((omega (arith, within, others_long)), (omega (arith, step_at i within, step_within i within, others_long)))))

  abbrev Meets : ℕ → ℕ → Type 0
  Meets = Meet n opposite other (placed xs diagram)

  -- places on one walk
  pub walk_same : (p q : ℕ) → p < n → q < n → (walk_of cs p ≡ walk_of cs q) ↔ Meets p q
  unfolding walk_of
  walk_same p q l m =
      let told = least_name-Joined (range_with_len 0 (length others)) edges among p q (is_member-numbered (length others) p (omega (arith, l, others_long))) (is_member-numbered (length others) q (omega (arith, m, others_long))) in (
        (λ e. joined_meets n opposite other (placed xs diagram) edges are have p q (told.0 e)),
        (λ t. told.1 (meets_joined n opposite other (placed xs diagram) edges are have p q l m t)),
      )

  -- ---- components
  abbrev strands : List (ℕ × ℕ)
  strands = strand_edges xs

  pub strand_ends : EndsAre (is_member ◌==◌ ls) strands
  strand_ends = ends_from (is_member ◌==◌ ls) strands (λ x y c.
      let b = strand_places xs diagram.sizes x y c in
      let at : (p z : ℕ) → p < n → slice_index ls p ≡ z → is_member ◌==◌ ls z ≡ true = λ p z l e. subst (λ (m : ℕ). is_member ◌==◌ ls m ≡ true) e (is_member-get_or ls p l) in
      (at b.place x b.within b.from_is, at (opposite b.place) y (ArePlaced.opposite_within (placed xs diagram) b.place b.within) b.to_is))

  strands_among : AreAmong (labels item_labels xs) strands
  strands_among = ends_from (is_member ◌==◌ (labels item_labels xs)) strands (λ x y c.
      let b = strand_places xs diagram.sizes x y c in
      let at : (p z : ℕ) → p < n → slice_index ls p ≡ z → is_member ◌==◌ (labels item_labels xs) z ≡ true =
      λ p z l e. places_labels xs diagram.sizes z (subst (λ (m : ℕ). is_member ◌==◌ ls m ≡ true) e (is_member-get_or ls p l)) in
      (at b.place x b.within b.from_is, at (opposite b.place) y (ArePlaced.opposite_within (placed xs diagram) b.place b.within) b.to_is))

  -- the least label of a label's component
  pub least_is : (x : ℕ) → is_member ◌==◌ (labels item_labels xs) x ≡ true → component_least xs x ≡ least_label strands x
  unfolding component_least
  least_is x m = least_name-label (labels item_labels xs) strands strands_among x m

  pub label_there : (p : ℕ) → p < n → is_member ◌==◌ (labels item_labels xs) (slice_index ls p) ≡ true
  label_there p l = places_labels xs diagram.sizes (slice_index ls p) (is_member-get_or ls p l)

  pub joined_least : (p : ℕ) → p < n → Joined strands (slice_index ls p) (component_least xs (slice_index ls p))
  joined_least p l =
      let x = slice_index ls p in
      let e = AreLeast-labels strands in
      subst (λ (m : ℕ). Joined strands x m) (sym (least_is x (label_there p l))) ((least_label-Joined strands x (least_label strands x)).0 (sym (e.itself x)))

  -- the first place of the least label of the place's component
  abbrev pub first_of : ℕ → ℕ
  first_of p = position_or_len (λ y. y == component_least xs (slice_index ls p)) ls

  pub least_member : (p : ℕ) → p < n → is_member ◌==◌ ls (component_least xs (slice_index ls p)) ≡ true
  least_member p l =
      ⊎_elim (λ (e : slice_index ls p ≡ component_least xs (slice_index ls p)). subst (λ (m : ℕ). is_member ◌==◌ ls m ≡ true) e (is_member-get_or ls p l)) (λ b. b.1)
      (inside-from_Joined (is_member ◌==◌ ls) strands strand_ends (joined_least p l))

  pub first_found : (p : ℕ) → p < n → (slice_index ls (first_of p) ≡ component_least xs (slice_index ls p)) × (first_of p < n)
  first_found p l =
      let x = component_least xs (slice_index ls p) in
      let test : ℕ → Bool = λ y. y == x in
      let m = member_at ls x (least_member p l) in
      let below : first_of p < n =
      elim (cases_Bool (ltb (first_of p) n)) [
        | inl t ↦ ltb-true (first_of p) n t
        | inr t ↦ absurd (
            let far = ltb-false (first_of p) n t in
            let no = fails_before_first test ls m.0 0 (let w = m.1 in omega (arith, far, w)) in
            let both : true ≡ false = sym (eq-eqb (slice_index ls m.0) x m.2) ∙ no in
            grind (arith, both))
      ] in
      (eqb-true (slice_index ls (first_of p)) x (passes_at_first test ls 0 below), below)

  pub first_place_is : (p : ℕ) → p < n → first_place ls (component_least xs (slice_index ls p)) ≡ Some (first_of p)
  first_place_is p l = ap (λ (b : Bool). cond b (Some (first_of p)) None) (lt-ltb (first_of p) n (first_found p l).1)

  reached : (p : ℕ) → p < n → Meets p (first_of p) ⊎ Meets (opposite p) (first_of p)
  reached p l =
      let f = first_found p l in
      covered n opposite other (placed xs diagram) (slice_index ls) (λ a b la lb e. same_label xs diagram a b la lb e) strands
      (λ x y c. let b = strand_places xs diagram.sizes x y c in (b.place, (b.within, b.from_is, b.to_is)))
      (first_of p) f.1 p l (subst (λ (m : ℕ). Joined strands m (slice_index ls p)) (sym f.0) (back (joined_least p l)))

  -- THE COMPONENTS OF OPPOSITE PLACES, AND OF BOTH PLACES OF AN EDGE, AGREE
  pub least_opposite : (p : ℕ) → p < n → component_least xs (slice_index ls (opposite p)) ≡ component_least xs (slice_index ls p)
  least_opposite p l =
      let there = ArePlaced.opposite_within (placed xs diagram) p l in
      least_is (slice_index ls (opposite p)) (label_there (opposite p) there)
      ∙ ((least_label-Joined strands (slice_index ls (opposite p)) (slice_index ls p)).1 (back (joined_opposite xs diagram.sizes p l))
      ∙ sym (least_is (slice_index ls p) (label_there p l)))

  pub least_other : (p : ℕ) → p < n → component_least xs (slice_index ls (other p)) ≡ component_least xs (slice_index ls p)
  least_other p l = ap (component_least xs) (other_label ls p l (places_twice xs diagram p l))

  -- ---- directions
  yes : (p f : ℕ) → p < n → f < n → Meets p f → (walk_of cs p == walk_of cs f) ≡ true
  yes p f l m t = eq-eqb (walk_of cs p) (walk_of cs f) ((walk_same p f l m).1 t)

  no : (p f : ℕ) → p < n → f < n → (Meets p f → ⊥) → (walk_of cs p == walk_of cs f) ≡ false
  no p f l m t = ne_eqb (walk_of cs p) (walk_of cs f) (λ e. t ((walk_same p f l m).0 e))

  enters_by : (p q : ℕ) → q < n → first_of q ≡ first_of p → enters xs q ≡ (walk_of cs q == walk_of cs (first_of p))
  enters_by p q m e = ap (is_walked_with cs q) (first_place_is q m) ∙ ap (λ (f : ℕ). walk_of cs q == walk_of cs f) e

  turned_round : (p q : ℕ) → p < n → q < n → first_of q ≡ first_of p → (Meets p (first_of p) → Meets q (first_of p) → ⊥) → (Meets (opposite p) (first_of p) → Meets q (first_of p)) →
      enters xs q ≡ not (enters xs p)
  turned_round p q l m e never always =
      let f = first_of p in
      let w = (first_found p l).1 in
      let out = one_way n opposite other (placed xs diagram) p f l in
      ⊎_elim
      (λ t. enters_by p q m e ∙ (no q f m w (never t) ∙ sym (ap not (enters_by p p l refl ∙ yes p f l w t))))
      (λ t. enters_by p q m e ∙ (yes q f m w (always t) ∙ sym (ap not (enters_by p p l refl ∙ no p f l w (λ s. out s t)))))
      (reached p l)

  -- A DIRECTION
  directed : IsDirection cs (enters xs)
  directed = record {
    straight = λ p l.
        turned_round p (opposite p) l (ArePlaced.opposite_within (placed xs diagram) p l) (ap (λ (x : ℕ). position_or_len (λ y. y == x) ls) (least_opposite p l))
        (λ s t. one_way n opposite other (placed xs diagram) p (first_of p) l s t) (λ t. t);
    across = λ p l.
        turned_round p (other p) l (ArePlaced.other_within (placed xs diagram) p l) (ap (λ (x : ℕ). position_or_len (λ y. y == x) ls) (least_other p l))
        (λ s t. one_way n opposite other (placed xs diagram) p (first_of p) l s (meets_across n opposite other (placed xs diagram) p (first_of p) l t))
        (λ t. across_meets n opposite other (placed xs diagram) p (first_of p) l t);
  }

  -- ---- any direction
  module _ (into : ℕ → Bool) (direction : IsDirection cs into) where
    along_step : (p : ℕ) → p < n → into (step p) ≡ into p
    along_step p l =
        let there = ArePlaced.opposite_within (placed xs diagram) p l in
        direction.across (opposite p) there ∙ (ap not (direction.straight p l) ∙ not-not (into p))

    along_walk : (k p : ℕ) → p < n → into (walked n opposite other (placed xs diagram) k p) ≡ into p
    along_walk zero p l = refl
    along_walk (suc k) p l = along_walk k (step p) (step_within p l) ∙ along_step p l

    where_met : (p q : ℕ) → p < n → q < n → Meets p q → into p ≡ into q
    where_met p q l h m = sym (along_walk m.steps p l) ∙ (ap into m.same ∙ along_walk m.others q h)

    -- it is that of the walks, or its reverse, as the first place of the component's least label tells
    pub by_walks : (p : ℕ) → p < n → into p ≡ same_truth (enters xs p) (into (first_of p))
    by_walks p l =
        let f = first_of p in
        let w = (first_found p l).1 in
        ⊎_elim
        (λ t. where_met p f l w t ∙ sym (ap (λ (b : Bool). same_truth b (into f)) (enters_by p p l refl ∙ yes p f l w t)))
        (λ t.
        let there = ArePlaced.opposite_within (placed xs diagram) p l in
        let not_here : enters xs p ≡ false = enters_by p p l refl ∙ no p f l w (λ s. one_way n opposite other (placed xs diagram) p f l s t) in
        sym (not-not (into p)) ∙ (ap not (sym (direction.straight p l) ∙ where_met (opposite p) f there w t) ∙ sym (ap (λ (b : Bool). same_truth b (into f)) not_here)))
        (reached p l)

-- THE WALKS ARE A DIRECTION
pub walk_directions : WalkDirections
walk_directions xs diagram = directed xs diagram
