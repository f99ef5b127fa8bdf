-- R3 keeps the value: three crossings round a triangle, one of whose strands lies above the others.
use Rattle.std.proofs.Common.{◌≡◌, ℕ, zero, suc, ◌+◌, ◌-◌, ◌%◌, ◌<◌, true, false, cond, ◌==◌, List, [], ◌∷◌, length, slice_index, Some, refl, sym, ap, ◌∙◌, arith, inl, inr}
use Rattle.std.specs.List.{AllByRecursion}
use Rattle.std.proofs.lemmas.Bool.{cases_Bool, eq-eqb}
use Rattle.pd_reader.specs.declared.item.Item.{Item}
use Rattle.pd_reader.specs.Items.{HasItsSlots}
use Rattle.diagram_brackets.specs.Brackets.{loop_count}
use Rattle.state_sums.specs.LocalSums.{crossing, AreSkeinNumbers}
use Rattle.state_sums.specs.Networks.{Node, names_of}
use Rattle.state_sums.specs.StateSums.{value}
use Rattle.diagram_moves.specs.Rewriting.{slot, around, crossing_at, crossing_labels}
use Rattle.diagram_moves.specs.Moves.{moved_slots, triangle_slots, triangle_rewritten}
use Rattle.diagram_moves.specs.Laws.{IsPairedDiagram}
use Rattle.diagram_moves.proofs.Corners.{three_corners, three_times, same_crossing}
use Rattle.diagram_moves.proofs.Nodes.{nodes_of, kept, IsNode-kept, V, corner, first_weight, second_weight}
use Rattle.diagram_moves.proofs.Rewritten.{crossing_from-rewritten, kept-rewritten, sizes-rewritten, loop_count-rewritten}
use Rattle.diagram_moves.proofs.Undone.{paired_piece}
use Rattle.list_lemmas.specs.Times.{times_in}
use Rattle.piece_laws.proofs.ThirdMove.{triangle_anywhere}
use Rattle.diagram_moves.proofs.OtherTriangle.{other_triangle_anywhere}

-- ---- the slots of a moved crossing
moved_is : (k : ℕ) → k < 8 → (w x y z : ℕ) → around k (around (4 - k % 4) (w ∷ x ∷ y ∷ z ∷ [])) ≡ w ∷ x ∷ y ∷ z ∷ []
moved_is zero l w x y z = refl
moved_is (suc zero) l w x y z = refl
moved_is (suc (suc zero)) l w x y z = refl
moved_is (suc (suc (suc zero))) l w x y z = refl
moved_is (suc (suc (suc (suc zero)))) l w x y z = refl
moved_is (suc (suc (suc (suc (suc zero))))) l w x y z = refl
moved_is (suc (suc (suc (suc (suc (suc zero)))))) l w x y z = refl
moved_is (suc (suc (suc (suc (suc (suc (suc zero))))))) l w x y z = refl
moved_is (suc (suc (suc (suc (suc (suc (suc (suc k)))))))) l w x y z = absurd (omega (arith, l))

-- a corner is told by what stands around it
corner_of : (a b k : ℕ) (slots : List ℕ) (w x y z : ℕ) → around k slots ≡ w ∷ x ∷ y ∷ z ∷ [] → corner a b k slots ≡ crossing (first_weight a b k) (second_weight a b k) w x y z
corner_of a b k slots w x y z e =
    same_crossing refl refl (ap (λ s. slice_index s 0) e) (ap (λ s. slice_index s 1) e) (ap (λ s. slice_index s 2) e) (ap (λ s. slice_index s 3) e)

sizes_moved : (k : ℕ) (slots : List ℕ) (x y : ℕ) → length (moved_slots k slots x y) ≡ 4
sizes_moved k slots x y = refl

pub sizes-triangle : (items : List Item) (c d f : ℕ) (first second third : List ℕ) (s t u : ℕ) → AllByRecursion HasItsSlots items →
    AllByRecursion HasItsSlots (triangle_rewritten items c d f first second third s t u)
sizes-triangle items c d f first second third s t u h =
    sizes-rewritten (triangle_slots c d f first second third s t u)
    (λ n slots four.
    let p = sizes_moved s first (slot third (u + 3)) (slot second (t + 2)) in
    let q = sizes_moved t second (slot first (s + 3)) (slot third (u + 2)) in
    let r = sizes_moved u third (slot second (t + 3)) (slot first (s + 2)) in
    elim (n == c) as (λ z. length (cond z (moved_slots s first (slot third (u + 3)) (slot second (t + 2)))
    (cond (n == d) (moved_slots t second (slot first (s + 3)) (slot third (u + 2))) (cond (n == f) (moved_slots u third (slot second (t + 3)) (slot first (s + 2))) slots))) ≡ 4) [
      | true ↦ refl
      | false ↦ elim (n == d) as (λ z. length (cond z (moved_slots t second (slot first (s + 3)) (slot third (u + 2))) (cond (n == f) (moved_slots u third (slot second (t + 3)) (slot first (s + 2))) slots)) ≡ 4) [
        | true ↦ refl
        | false ↦ elim (n == f) as (λ z. length (cond z (moved_slots u third (slot second (t + 3)) (slot first (s + 2))) slots) ≡ 4) [ true ↦ refl | false ↦ four ]
      ]
    ])
    1 items h

module _ (m delta a b : ℕ) (numbers : AreSkeinNumbers m a b delta) (items : List Item) (pd : IsPairedDiagram items)
    (c : ℕ) (here : List ℕ) (found : crossing_at items c ≡ Some here)
    (d : ℕ) (there : List ℕ) (also : crossing_at items d ≡ Some there)
    (f : ℕ) (beyond : List ℕ) (too : crossing_at items f ≡ Some beyond)
    (apart_dc : (d == c) ≡ false) (apart_fc : (f == c) ≡ false) (apart_fd : (f == d) ≡ false)
    (k l j : ℕ) (low_k : k < 8) (low_l : l < 8) (low_j : j < 8)
    (edge_0 : slot there l ≡ slot here (k + 1)) (edge_1 : slot beyond j ≡ slot there (l + 1)) (edge_2 : slot here k ≡ slot beyond (j + 1)) where
  abbrev e0 : ℕ
  e0 = slot here (k + 1)

  abbrev e1 : ℕ
  e1 = slot there (l + 1)

  abbrev e2 : ℕ
  e2 = slot beyond (j + 1)

  abbrev after : List Item
  after = triangle_rewritten items c d f here there beyond k l j

  abbrev slots_of : ℕ → List ℕ → List ℕ
  slots_of = triangle_slots c d f here there beyond k l j

  abbrev rest : List Node
  rest = kept a b (f ∷ d ∷ c ∷ []) 1 items

  abbrev new_here : List ℕ
  new_here = moved_slots k here (slot beyond (j + 3)) (slot there (l + 2))

  abbrev new_there : List ℕ
  new_there = moved_slots l there (slot here (k + 3)) (slot beyond (j + 2))

  abbrev new_beyond : List ℕ
  new_beyond = moved_slots j beyond (slot there (l + 3)) (slot here (k + 2))

  pub found_after : crossing_at after c ≡ Some new_here
  found_after =
      crossing_from-rewritten slots_of 1 items c here found
      ∙ ap (λ z. Some (cond z new_here (cond (c == d) new_there (cond (c == f) new_beyond here)))) (eq-eqb c c refl)

  pub also_after : crossing_at after d ≡ Some new_there
  also_after =
      crossing_from-rewritten slots_of 1 items d there also
      ∙ ap (λ z. Some (cond z new_here (cond (d == d) new_there (cond (d == f) new_beyond there)))) apart_dc
      ∙ ap (λ z. Some (cond z new_there (cond (d == f) new_beyond there))) (eq-eqb d d refl)

  pub too_after : crossing_at after f ≡ Some new_beyond
  too_after =
      crossing_from-rewritten slots_of 1 items f beyond too
      ∙ ap (λ z. Some (cond z new_here (cond (f == d) new_there (cond (f == f) new_beyond beyond)))) apart_fc
      ∙ ap (λ z. Some (cond z new_there (cond (f == f) new_beyond beyond))) apart_fd
      ∙ ap (λ z. Some (cond z new_beyond beyond)) (eq-eqb f f refl)

  rest_after : kept a b (f ∷ d ∷ c ∷ []) 1 after ≡ rest
  rest_after = kept-rewritten slots_of a b (f ∷ d ∷ c ∷ []) (λ n slots out. grind (arith, out)) 1 items

  pub sizes_after : AllByRecursion HasItsSlots after
  sizes_after = sizes-triangle items c d f here there beyond k l j pd.sizes

  -- ---- what stands around the corners
  pub around_here : around k here ≡ e2 ∷ e0 ∷ slot here (k + 2) ∷ slot here (k + 3) ∷ []
  around_here = ap (λ n. n ∷ e0 ∷ slot here (k + 2) ∷ slot here (k + 3) ∷ []) edge_2

  pub around_there : around l there ≡ e0 ∷ e1 ∷ slot there (l + 2) ∷ slot there (l + 3) ∷ []
  around_there = ap (λ n. n ∷ e1 ∷ slot there (l + 2) ∷ slot there (l + 3) ∷ []) edge_0

  pub around_beyond : around j beyond ≡ e1 ∷ e2 ∷ slot beyond (j + 2) ∷ slot beyond (j + 3) ∷ []
  around_beyond = ap (λ n. n ∷ e2 ∷ slot beyond (j + 2) ∷ slot beyond (j + 3) ∷ []) edge_1

  pub around_new_here : around k new_here ≡ slot beyond (j + 3) ∷ slot there (l + 2) ∷ e2 ∷ e0 ∷ []
  around_new_here = moved_is k low_k (slot beyond (j + 3)) (slot there (l + 2)) (slot here k) e0 ∙ ap (λ n. slot beyond (j + 3) ∷ slot there (l + 2) ∷ n ∷ e0 ∷ []) edge_2

  pub around_new_there : around l new_there ≡ slot here (k + 3) ∷ slot beyond (j + 2) ∷ e0 ∷ e1 ∷ []
  around_new_there = moved_is l low_l (slot here (k + 3)) (slot beyond (j + 2)) (slot there l) e1 ∙ ap (λ n. slot here (k + 3) ∷ slot beyond (j + 2) ∷ n ∷ e1 ∷ []) edge_0

  pub around_new_beyond : around j new_beyond ≡ slot there (l + 3) ∷ slot here (k + 2) ∷ e1 ∷ e2 ∷ []
  around_new_beyond = moved_is j low_j (slot there (l + 3)) (slot here (k + 2)) (slot beyond j) e2 ∙ ap (λ n. slot there (l + 3) ∷ slot here (k + 2) ∷ n ∷ e2 ∷ []) edge_1

  abbrev olds : List ℕ
  olds =
      e1 ∷ e2 ∷ slot beyond (j + 2) ∷ slot beyond (j + 3) ∷ e0 ∷ e1 ∷ slot there (l + 2) ∷ slot there (l + 3) ∷ e2 ∷ e0 ∷ slot here (k + 2) ∷ slot here (k + 3) ∷ []

  abbrev news : List ℕ
  news =
      slot there (l + 3) ∷ slot here (k + 2) ∷ e1 ∷ e2 ∷ slot here (k + 3) ∷ slot beyond (j + 2) ∷ e0 ∷ e1 ∷ slot beyond (j + 3) ∷ slot there (l + 2) ∷ e2 ∷ e0 ∷ []

  counted : (z : ℕ) → times_in (crossing_labels items) z ≡ times_in olds z + times_in (names_of rest) z
  counted z =
      let total = three_times a b items pd.sizes c here found k low_k d there also apart_dc l low_l f beyond too apart_fc apart_fd j low_j z in
      let p = ap (λ ns. times_in ns z) around_here in
      let q = ap (λ ns. times_in ns z) around_there in
      let r = ap (λ ns. times_in ns z) around_beyond in
      let u : times_in olds z
      ≡ times_in (e1 ∷ e2 ∷ slot beyond (j + 2) ∷ slot beyond (j + 3) ∷ []) z
      + (times_in (e0 ∷ e1 ∷ slot there (l + 2) ∷ slot there (l + 3) ∷ []) z + times_in (e2 ∷ e0 ∷ slot here (k + 2) ∷ slot here (k + 3) ∷ []) z) = omega arith in
      omega (arith, total, p, q, r, u)

  recounted : (z : ℕ) → times_in (crossing_labels items) z ≡ times_in news z + times_in (names_of rest) z
  recounted z = let e = counted z in let same : times_in news z ≡ times_in olds z = omega arith in omega (arith, e, same)

  -- EACH LABEL STANDS AS OFTEN AS BEFORE
  pub after_times : (z : ℕ) → times_in (crossing_labels after) z ≡ times_in (crossing_labels items) z
  after_times z =
      let total = three_times a b after sizes_after c new_here found_after k low_k d new_there also_after apart_dc l low_l f new_beyond too_after apart_fc apart_fd j low_j z in
      let p = ap (λ ns. times_in ns z) around_new_here in
      let q = ap (λ ns. times_in ns z) around_new_there in
      let r = ap (λ ns. times_in ns z) around_new_beyond in
      let s = ap (λ ns. times_in (names_of ns) z) rest_after in
      let e = recounted z in
      let u : times_in news z
      ≡ times_in (slot there (l + 3) ∷ slot here (k + 2) ∷ e1 ∷ e2 ∷ []) z
      + (times_in (slot here (k + 3) ∷ slot beyond (j + 2) ∷ e0 ∷ e1 ∷ []) z + times_in (slot beyond (j + 3) ∷ slot there (l + 2) ∷ e2 ∷ e0 ∷ []) z) = omega arith in
      omega (arith, total, p, q, r, s, e, u)

  -- the corners before and after
  module _ (even : (k % 2 == 0) ≡ true) (odd : (l % 2 == 0) ≡ false) (v w : ℕ) (third_first : first_weight a b j ≡ v) (third_second : second_weight a b j ≡ w)
      (step : V a b m delta (loop_count items)
      (crossing v w e1 e2 (slot beyond (j + 2)) (slot beyond (j + 3)) ∷ crossing b a e0 e1 (slot there (l + 2)) (slot there (l + 3)) ∷ crossing a b e2 e0 (slot here (k + 2)) (slot here (k + 3)) ∷ rest)
      ≡ V a b m delta (loop_count items)
      (crossing v w (slot there (l + 3)) (slot here (k + 2)) e1 e2 ∷ crossing b a (slot here (k + 3)) (slot beyond (j + 2)) e0 e1 ∷ crossing a b (slot beyond (j + 3)) (slot there (l + 2)) e2 e0 ∷ rest)) where
    weights_here : (first_weight a b k ≡ a) × (second_weight a b k ≡ b)
    weights_here = (ap (λ z. cond z a b) even, ap (λ z. cond z b a) even)

    weights_there : (first_weight a b l ≡ b) × (second_weight a b l ≡ a)
    weights_there = (ap (λ z. cond z a b) odd, ap (λ z. cond z b a) odd)

    corners : (x y z : List ℕ) (x0 x1 x2 x3 y0 y1 y2 y3 z0 z1 z2 z3 : ℕ) → around k x ≡ x0 ∷ x1 ∷ x2 ∷ x3 ∷ [] → around l y ≡ y0 ∷ y1 ∷ y2 ∷ y3 ∷ [] → around j z ≡ z0 ∷ z1 ∷ z2 ∷ z3 ∷ [] →
        corner a b j z ∷ corner a b l y ∷ corner a b k x ∷ rest ≡ crossing v w z0 z1 z2 z3 ∷ crossing b a y0 y1 y2 y3 ∷ crossing a b x0 x1 x2 x3 ∷ rest
    corners x y z x0 x1 x2 x3 y0 y1 y2 y3 z0 z1 z2 z3 p q r =
        ap (λ n. n ∷ corner a b l y ∷ corner a b k x ∷ rest) (corner_of a b j z z0 z1 z2 z3 r ∙ same_crossing third_first third_second refl refl refl refl)
        ∙ ap (λ n. crossing v w z0 z1 z2 z3 ∷ n ∷ corner a b k x ∷ rest) (corner_of a b l y y0 y1 y2 y3 q ∙ same_crossing weights_there.0 weights_there.1 refl refl refl refl)
        ∙ ap (λ n. crossing v w z0 z1 z2 z3 ∷ crossing b a y0 y1 y2 y3 ∷ n ∷ rest) (corner_of a b k x x0 x1 x2 x3 p ∙ same_crossing weights_here.0 weights_here.1 refl refl refl refl)

    with_law : value m delta record { nodes = nodes_of a b items; free_loops = loop_count items } ≡ value m delta record { nodes = nodes_of a b after; free_loops = loop_count after }
    with_law =
        let free = loop_count items in
        let same_loops = loop_count-rewritten slots_of 1 items in
        three_corners a b items pd.sizes c here found k low_k d there also apart_dc l low_l f beyond too apart_fc apart_fd j low_j m delta free
        ∙ ap (V a b m delta free)
        (corners here there beyond e2 e0 (slot here (k + 2)) (slot here (k + 3)) e0 e1 (slot there (l + 2)) (slot there (l + 3)) e1 e2 (slot beyond (j + 2)) (slot beyond (j + 3)) around_here around_there around_beyond)
        ∙ step
        ∙ sym (ap (V a b m delta free)
        (corners new_here new_there new_beyond (slot beyond (j + 3)) (slot there (l + 2)) e2 e0 (slot here (k + 3)) (slot beyond (j + 2)) e0 e1 (slot there (l + 3)) (slot here (k + 2)) e1 e2 around_new_here around_new_there around_new_beyond))
        ∙ sym (ap (λ ns. V a b m delta free (corner a b j new_beyond ∷ corner a b l new_there ∷ corner a b k new_here ∷ ns)) rest_after)
        ∙ sym (three_corners a b after sizes_after c new_here found_after k low_k d new_there also_after apart_dc l low_l f new_beyond too_after apart_fc apart_fd j low_j m delta free)
        ∙ sym (ap (λ n. V a b m delta n (nodes_of a b after)) same_loops)

  -- R3 KEEPS THE VALUE
  pub triangle_value : (k % 2 == 0) ≡ true → (l % 2 == 0) ≡ false → value m delta record { nodes = nodes_of a b items; free_loops = loop_count items } ≡ value m delta record { nodes = nodes_of a b after; free_loops = loop_count after }
  triangle_value even odd =
      let are = IsNode-kept a b (f ∷ d ∷ c ∷ []) 1 items pd.sizes in
      let pairs = paired_piece items pd olds (names_of rest) counted in
      let free = loop_count items in
      elim (cases_Bool (j % 2 == 0)) [
        | inl t ↦ with_law even odd a b (ap (λ z. cond z a b) t) (ap (λ z. cond z b a) t)
            (other_triangle_anywhere m delta free rest are a b e0 e1 e2 (slot here (k + 2)) (slot here (k + 3)) (slot there (l + 2)) (slot there (l + 3)) (slot beyond (j + 2)) (slot beyond (j + 3)) numbers pairs)
        | inr t ↦ with_law even odd b a (ap (λ z. cond z a b) t) (ap (λ z. cond z b a) t)
            (triangle_anywhere m delta free rest are a b e0 e1 e2 (slot here (k + 2)) (slot here (k + 3)) (slot there (l + 2)) (slot there (l + 3)) (slot beyond (j + 2)) (slot beyond (j + 3)) numbers pairs)
      ]
