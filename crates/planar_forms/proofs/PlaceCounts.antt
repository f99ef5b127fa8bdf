-- What planar_check counts, by the rotation system of the places.
use Rattle.std.proofs.Common.{◌≡◌, ◌≤◌, ◌↔◌, ℕ, zero, suc, ◌+◌, ◌*◌, ◌/◌, ◌%◌, ◌<◌, ◌==◌, Bool, true, false, ltb, List, [], ◌∷◌, ◌++◌, map, length, slice_index, count_by, refl, sym, ap, ◌∙◌, subst, arith, ⊎_elim, Contains}
use Rattle.std.specs.List.{range_with_len}
use Rattle.std.specs.Set.{is_member, distinct_count}
use Rattle.std.proofs.lemmas.Bool.{eq-eqb, eqb-true, cases_Bool, or_cases, or_left, or_right}
use Rattle.std.proofs.lemmas.Bool.Decides.{nat_tests}
use Rattle.std.proofs.lemmas.List.Elements.{Contains-append_cases}
use Rattle.std.proofs.lemmas.List.FromFn.{get_or-map-range_with_len, length-map-range_with_len}
use Rattle.graph_parts.specs.Ends.{AreAmong, EndsAre}
use Rattle.graph_parts.specs.Parts.{part_count}
use Rattle.graph_parts.specs.Walks.{Joined, back, on}
use Rattle.graph_parts.proofs.Counting.{distinct_count-cons}
use Rattle.graph_parts.proofs.LeastNames.{part_count-labels}
use Rattle.graph_parts.proofs.Walks.{Contains-cases}
use Rattle.graph_parts.proofs.PartLaws.{count_by_all}
use Rattle.pd_reader.specs.declared.item.Item.{Item}
use Rattle.planar_check.specs.Places.{crossings_of, item_slots, slots_after, owners, other_place, other_places, place_labels}
use Rattle.planar_check.specs.Planar.{next_in_face, face_count, piece_count, edge_count, wanted_faces, IsPlanar}
use Rattle.diagram_moves.specs.Laws.{IsPairedDiagram}
use Rattle.graph_parts.proofs.Numbered.{numbered-member as in_range, is_member-numbered as range_has}
use Rattle.rotation_parts.specs.Rotations.{across, steps, cycle_count, follower, faces_of, pieces_of, IsPermutation, IsPairing}
use Rattle.rotation_parts.proofs.FlatEdges.{genus, across_joined, graph_among, in_edges, in_turns}
use Rattle.rotation_parts.proofs.Pairings.{across_paired, paired_count, paired_ends, paired_contains}
use Rattle.rotation_parts.proofs.PairForms.{range_from}
use Rattle.rotation_parts.proofs.Retracts.{retract}
use Rattle.rotation_parts.proofs.Steps.{same_steps, step_of, equal_joined, step_along, steps_among, first_edge, longer}
use Rattle.planar_forms.specs.PlaceSystems.{next_slot, slot_before, all_places, place_edges, IsFlatDiagram}
use Rattle.planar_forms.specs.Laws.{IsCounted, CountedLaw, FewFacesLaw, FlatDiagramLaw}
use Rattle.planar_forms.proofs.PlacePairs.{paired_places, turn_at, owner_at, long_is, turned_names}

-- ---- a range has no name twice
pub range_count : (a n : ℕ) → distinct_count ◌==◌ (range_with_len a n) ≡ n
range_count a zero = refl
range_count a (suc n) =
    let c = distinct_count-cons a (range_with_len (a + 1) n) in
    let ih = range_count (a + 1) n in
    let out : is_member ◌==◌ (range_with_len (a + 1) n) a ≡ false =
    ⊎_elim (λ t. absurd (let l = range_from (a + 1) n a t in omega (arith, l))) (λ f. f) (cases_Bool (is_member ◌==◌ (range_with_len (a + 1) n) a)) in
    grind (arith, c, ih, out)

map_itself : (xs : List ℕ) → map (λ x. x) xs ≡ xs
map_itself [] = refl
map_itself (x ∷ xs) = ap (λ ys. x ∷ ys) (map_itself xs)

alone : (n : ℕ) → part_count (range_with_len 0 n) [] ≡ n
alone n = part_count-labels (range_with_len 0 n) [] tt ∙ ap (distinct_count ◌==◌) (map_itself (range_with_len 0 n)) ∙ range_count 0 n

mapped_ends : (test : ℕ → Bool) (f g : ℕ → ℕ) (names : List ℕ) → ((x : ℕ) → is_member ◌==◌ names x ≡ true → (test (f x) ≡ true) × (test (g x) ≡ true)) → EndsAre test (map (λ p. (f p, g p)) names)
mapped_ends test f g [] h = tt
mapped_ends test f g (p ∷ names) h =
    let here = h p (or_left (p == p) (is_member ◌==◌ names p) (eq-eqb p p refl)) in
    (here.0, here.1, mapped_ends test f g names (λ x m. h x (or_right (x == p) (is_member ◌==◌ names x) m)))

mapped_edge : (f g : ℕ → ℕ) (names : List ℕ) (x y : ℕ) → Contains {X = ℕ × ℕ} (map (λ p. (f p, g p)) names) (x, y) → (p : ℕ) × (is_member ◌==◌ names p ≡ true) × (f p ≡ x) × (g p ≡ y)
mapped_edge f g [] x y c = absurd (omega (arith, c.1))
mapped_edge f g (p ∷ names) x y c =
    ⊎_elim
    (λ e. (p, or_left (p == p) (is_member ◌==◌ names p) (eq-eqb p p refl), ap (λ h. h.0) e, ap (λ h. h.1) e))
    (λ d. let r = mapped_edge f g names x y d in (r.0, or_right (r.0 == p) (is_member ◌==◌ names r.0) r.1, r.2, r.3))
    (Contains-cases (f p, g p) (x, y) (map (λ q. (f q, g q)) names) c)

edge_in : (f g : ℕ → ℕ) (names : List ℕ) (p : ℕ) → is_member ◌==◌ names p ≡ true → Joined (map (λ q. (f q, g q)) names) (f p) (g p)
edge_in f g [] p m = absurd (grind (arith, m))
edge_in f g (q ∷ names) p m =
    let fs = map (λ q. (f q, g q)) (q ∷ names) in
    ⊎_elim
    (λ t. let e = eqb-true p q t in on (equal_joined fs (f p) (f q) (ap f e)) (on (first_edge (f q) (g q) (map (λ z. (f z, g z)) names)) (equal_joined fs (g q) (g p) (sym (ap g e)))))
    (λ r. longer (f q, g q) (map (λ z. (f z, g z)) names) (edge_in f g names p r))
    (or_cases (p == q) (is_member ◌==◌ names p) m)

module _ (items : List Item) (pd : IsPairedDiagram items) where
  abbrev cs : List (List ℕ)
  cs = crossings_of items

  abbrev ls : List ℕ
  ls = place_labels items

  abbrev n : ℕ
  n = length ls

  abbrev names : List ℕ
  names = all_places items

  abbrev others : List ℕ
  others = other_places ls

  abbrev edges : List (ℕ × ℕ)
  edges = place_edges items

  pub below : (x : ℕ) → is_member ◌==◌ names x ≡ true → x < n
  below x m = in_range n x m

  others_long : length others ≡ n
  others_long = length-map-range_with_len (other_place ls) 0 n

  other_at : (p : ℕ) → p < n → slice_index others p ≡ other_place ls p
  other_at p l = get_or-map-range_with_len (other_place ls) 0 n p p 0 l (omega arith)

  pub is : IsPairing n (other_place ls)
  is = paired_places items pd

  pub turns : IsPermutation names next_slot slot_before
  turns = let P : ℕ → Type 0 = λ z. IsPermutation (range_with_len 0 z) next_slot slot_before in subst P (sym (long_is items pd)) (turned_names (length cs))

  pub edges_among : AreAmong names edges
  edges_among = paired_ends (is_member ◌==◌ names) (other_place ls) names (λ p m. (m, range_has n (other_place ls p) (is.low p (below p m))))

  pub across_is : (x : ℕ) → x < n → across edges x ≡ other_place ls x
  across_is x l = across_paired n (other_place ls) is x l

  faces_are : face_count cs ≡ faces_of names next_slot edges
  unfolding face_count
  faces_are =
      ap (λ k. part_count (range_with_len 0 k) (map (λ p. (p, next_in_face (slots_after 0 cs) others p)) (range_with_len 0 k))) others_long
      ∙ ap (part_count names) (same_steps (next_in_face (slots_after 0 cs) others) (follower next_slot edges) names
      (λ x m.
      let l = below x m in
      ap (slice_index (slots_after 0 cs)) (other_at x l) ∙ turn_at items pd (other_place ls x) (is.low x l) ∙ ap next_slot (sym (across_is x l))))

  edges_are : edge_count cs ≡ length edges
  unfolding edge_count
  edges_are =
      ap (λ k. count_by (λ p. ltb p (slice_index others p)) (range_with_len 0 k)) others_long
      ∙ count_by_all (λ p. ltb p (slice_index others p)) (λ p. ltb p (other_place ls p)) names (λ x m. ap (ltb x) (other_at x (below x m)))
      ∙ sym (paired_count (other_place ls) names)

  -- from each place to the first of its crossing
  to_first : (es : List (ℕ × ℕ)) → ((x : ℕ) → x < n → Joined es x (next_slot x)) → (x : ℕ) → x < n → Joined es x (4 * (x / 4))
  to_first es h x l =
      let q = 4 * (x / 4) in
      let four = long_is items pd in
      let first : q < n = omega (arith, l) in
      let s1 : Joined es q (q + 1) = on (h q first) (equal_joined es (next_slot q) (q + 1) (omega arith)) in
      let s2 : Joined es (q + 1) (q + 2) = on (h (q + 1) (omega (arith, l, four))) (equal_joined es (next_slot (q + 1)) (q + 2) (omega arith)) in
      let s3 : Joined es (q + 2) (q + 3) = on (h (q + 2) (omega (arith, l, four))) (equal_joined es (next_slot (q + 2)) (q + 3) (omega arith)) in
      ⊎_elim (λ t. equal_joined es x q (let e = eqb-true (x % 4) 0 t in omega (arith, e)))
      (λ n0. ⊎_elim (λ t. on (equal_joined es x (q + 1) (let e = eqb-true (x % 4) 1 t in omega (arith, e))) (back s1))
      (λ n1. ⊎_elim (λ t. on (equal_joined es x (q + 2) (let e = eqb-true (x % 4) 2 t in omega (arith, e))) (back (on s1 s2)))
      (λ n2. on (equal_joined es x (q + 3) (let e : x % 4 ≡ 3 = grind (arith, nat_tests, n0, n1, n2) in omega (arith, e))) (back (on s1 (on s2 s3))))
      (cases_Bool (x % 4 == 2)))
      (cases_Bool (x % 4 == 1)))
      (cases_Bool (x % 4 == 0))

  vertices_are : length cs ≡ cycle_count names next_slot
  vertices_are =
      let es = steps next_slot names in
      let many = range_with_len 0 (length cs) in
      let four = long_is items pd in
      sym (retract names many es [] (λ x. x / 4) (λ u. 4 * u) (steps_among next_slot names turns.inside) tt record {
        onto_others = λ x m. (let l = below x m in range_has (length cs) (x / 4) (omega (arith, l, four)));
        into_names = λ u m. (let l = in_range (length cs) u m in range_has n (4 * u) (omega (arith, l, four)));
        one_of = λ u m. omega arith;
        near = λ x m. to_first es (λ y l. step_along next_slot names y (range_has n y l)) x (below x m);
        down = λ x y c. (let r = step_of next_slot names x y c in equal_joined [] (x / 4) (y / 4) (let e = r.1 in omega (arith, e)));
        up = λ u v c. absurd (omega (arith, c.1));
      } ∙ alone (length cs))

  abbrev graph : List (ℕ × ℕ)
  graph = edges ++ steps next_slot names

  abbrev owned : ℕ → ℕ
  owned p = slice_index (owners 0 cs) p

  abbrev links : List (ℕ × ℕ)
  links = map (λ p. (owned p, owned (slice_index others p))) names

  turning : (x : ℕ) → x < n → Joined graph x (next_slot x)
  turning x l = in_turns names next_slot slot_before turns edges (step_along next_slot names x (range_has n x l))

  pub crossing_over : (x : ℕ) → x < n → Joined graph x (other_place ls x)
  crossing_over x l = on (in_edges names next_slot slot_before turns edges (across_joined edges x)) (equal_joined graph (across edges x) (other_place ls x) (across_is x l))

  owned_is : (p : ℕ) → p < n → owned p ≡ p / 4
  owned_is p l = owner_at items p pd l

  linked_is : (p : ℕ) → p < n → owned (slice_index others p) ≡ other_place ls p / 4
  linked_is p l = ap owned (other_at p l) ∙ owned_is (other_place ls p) (is.low p l)

  links_among : AreAmong (range_with_len 0 (length cs)) links
  links_among =
      let four = long_is items pd in
      mapped_ends (is_member ◌==◌ (range_with_len 0 (length cs))) owned (λ p. owned (slice_index others p)) names
      (λ p m.
      let l = below p m in let a = owned_is p l in let b = linked_is p l in let c = is.low p l in
      (range_has (length cs) (owned p) (omega (arith, l, a, four)), range_has (length cs) (owned (slice_index others p)) (omega (arith, b, c, four))))

  pieces_are : piece_count cs ≡ pieces_of names next_slot edges
  unfolding piece_count
  pieces_are =
      let many = range_with_len 0 (length cs) in
      let four = long_is items pd in
      ap (λ k. part_count many (map (λ p. (owned p, owned (slice_index others p))) (range_with_len 0 k))) others_long
      ∙ sym (retract names many graph links (λ x. x / 4) (λ u. 4 * u) (graph_among names next_slot slot_before turns edges edges_among) links_among record {
        onto_others = λ x m. (let l = below x m in range_has (length cs) (x / 4) (omega (arith, l, four)));
        into_names = λ u m. (let l = in_range (length cs) u m in range_has n (4 * u) (omega (arith, l, four)));
        one_of = λ u m. omega arith;
        near = λ x m. to_first graph turning x (below x m);
        down = λ x y c. ⊎_elim
            (λ e.
            let r = paired_contains (other_place ls) names x y e in
            let l = below x r.0 in
            on (equal_joined links (x / 4) (owned x) (sym (owned_is x l)))
            (on (edge_in owned (λ p. owned (slice_index others p)) names x r.0)
            (equal_joined links (owned (slice_index others x)) (y / 4) (linked_is x l ∙ ap (λ z. z / 4) r.1))))
            (λ t. let r = step_of next_slot names x y t in equal_joined links (x / 4) (y / 4) (let e = r.1 in omega (arith, e)))
            (Contains-append_cases edges (steps next_slot names) (x, y) c);
        up = λ u v c.
            let r = mapped_edge owned (λ p. owned (slice_index others p)) names u v c in
            let p = r.0 in
            let l = below p r.1 in
            let a = sym (owned_is p l) ∙ r.2 in
            let b = sym (linked_is p l) ∙ r.3 in
            on (equal_joined graph (4 * u) (4 * (p / 4)) (ap (λ z. 4 * z) (sym a)))
            (on (back (to_first graph turning p l)) (on (crossing_over p l)
            (on (to_first graph turning (other_place ls p) (is.low p l))
            (equal_joined graph (4 * (other_place ls p / 4)) (4 * v) (ap (λ z. 4 * z) b)))));
      })

  pub are_counted : IsCounted items
  are_counted = record { faces = faces_are; pieces = pieces_are; edges = edges_are; vertices = vertices_are }

  few : face_count cs ≤ wanted_faces cs
  unfolding wanted_faces
  few =
      let most = genus names next_slot slot_before edges turns edges_among in
      omega (arith, most, faces_are, pieces_are, edges_are, vertices_are)

  flat : IsPlanar item_slots items ↔ IsFlatDiagram items
  unfolding wanted_faces
  flat =
      let most = genus names next_slot slot_before edges turns edges_among in
      ((λ h. omega (arith, h, most, faces_are, pieces_are, edges_are, vertices_are)), (λ h. omega (arith, h, most, faces_are, pieces_are, edges_are, vertices_are)))

pub counted : CountedLaw
counted items pd = are_counted items pd

pub few_faces : FewFacesLaw
few_faces items pd = few items pd

pub flat_diagram : FlatDiagramLaw
flat_diagram items pd = flat items pd
