-- The nodes of items, at weights a and b: crossings are taken to the front and turned.
use Rattle.std.proofs.Common.{◌≡◌, ℕ, zero, suc, ◌+◌, ◌%◌, ◌<◌, true, false, cond, ◌==◌, List, [], ◌∷◌, ◌++◌, length, slice_index, Some, None, refl, sym, ap, ◌∙◌, arith, ⊎_elim, All, subst, append_assoc}
use Rattle.std.specs.List.{AllByRecursion}
use Rattle.std.specs.Set.{is_member}
use Rattle.std.proofs.lemmas.Bool.{eqb-true, cases_Bool}
use Rattle.std.proofs.lemmas.Bool.Decides.{nat_tests}
use Rattle.std.proofs.lemmas.List.Elements.{All-append, All-cons, All-nil}
use Rattle.pd_reader.specs.declared.item.Item.{Item}
use Rattle.pd_reader.specs.declared.item.Item.TheVariants as item
use Rattle.pd_reader.specs.Items.{HasItsSlots}
use Rattle.diagram_brackets.specs.Crossings.{joins_ab_cd, joins_ad_bc}
use Rattle.state_sums.specs.LocalSums.{crossing}
use Rattle.state_sums.specs.Networks.{Node, IsNode, names_of}
use Rattle.state_sums.specs.StateSums.{value}
use Rattle.piece_laws.proofs.CrossingTurns.{quarter_turn}
use Rattle.piece_laws.proofs.PlainMoves.{value_same}
use Rattle.state_sums.proofs.StateEdges.{HavePlaces-from_nodes}
use Rattle.state_sums.proofs.WrittenNodes.{IsNode-crossing}
use Rattle.diagram_moves.specs.Rewriting.{slot, around, crossing_from, crossing_labels}
use Rattle.list_lemmas.specs.Times.{times_in}
use Rattle.piece_laws.proofs.MovedRuns.{value_moved}
use Rattle.list_lemmas.proofs.Times.{times_in-append}

pub none_some : (slots : List ℕ) → None ≡ Some slots → ⊥
none_some slots e = cc

-- four slots, written out
pub four_slots : (slots : List ℕ) → length slots ≡ 4 → slots ≡ slice_index slots 0 ∷ slice_index slots 1 ∷ slice_index slots 2 ∷ slice_index slots 3 ∷ []
four_slots [] h = absurd (omega (arith, h))
four_slots (a ∷ []) h = absurd (omega (arith, h))
four_slots (a ∷ b ∷ []) h = absurd (omega (arith, h))
four_slots (a ∷ b ∷ c ∷ []) h = absurd (omega (arith, h))
four_slots (a ∷ b ∷ c ∷ d ∷ []) h = refl
four_slots (a ∷ b ∷ c ∷ d ∷ e ∷ rest) h = absurd (omega (arith, h))

module _ (a b : ℕ) where
  abbrev pub node : List ℕ → Node
  node slots = record { group = 0; ends = slots; terms = record { weight = a; partner = joins_ab_cd } ∷ record { weight = b; partner = joins_ad_bc } ∷ [] }

  abbrev pub nodes_of : List Item → List Node
  nodes_of [] = []
  nodes_of (item.X slots ∷ rest) = node slots ∷ nodes_of rest
  nodes_of (item.Loop label ∷ rest) = nodes_of rest

  -- the nodes of the crossings whose numbers are not among these
  abbrev pub kept : List ℕ → ℕ → List Item → List Node
  kept gone k [] = []
  kept gone k (item.X slots ∷ rest) = cond (is_member ◌==◌ gone k) (kept gone (k + 1) rest) (node slots ∷ kept gone (k + 1) rest)
  kept gone k (item.Loop label ∷ rest) = kept gone k rest

  pub kept_none : (k : ℕ) (items : List Item) → kept [] k items ≡ nodes_of items
  kept_none k [] = refl
  kept_none k (item.X slots ∷ rest) = ap (λ ns. node slots ∷ ns) (kept_none (k + 1) rest)
  kept_none k (item.Loop label ∷ rest) = kept_none k rest

  pub names_of-nodes : (items : List Item) → names_of (nodes_of items) ≡ crossing_labels items
  names_of-nodes [] = refl
  names_of-nodes (item.X slots ∷ rest) = ap (λ ns. slots ++ ns) (names_of-nodes rest)
  names_of-nodes (item.Loop label ∷ rest) = names_of-nodes rest

  pub nodes_of-append : (xs ys : List Item) → nodes_of (xs ++ ys) ≡ nodes_of xs ++ nodes_of ys
  nodes_of-append [] ys = refl
  nodes_of-append (item.X slots ∷ xs) ys = ap (λ ns. node slots ∷ ns) (nodes_of-append xs ys)
  nodes_of-append (item.Loop label ∷ xs) ys = nodes_of-append xs ys

  pub IsNode-node : (slots : List ℕ) → length slots ≡ 4 → IsNode (node slots)
  IsNode-node slots h =
      let e = four_slots slots h in
      let P : List ℕ → Type 0 = λ s. IsNode (node s) in
      subst P (sym e) (IsNode-crossing a b (slice_index slots 0) (slice_index slots 1) (slice_index slots 2) (slice_index slots 3))

  pub IsNode-kept : (gone : List ℕ) (k : ℕ) (items : List Item) → AllByRecursion HasItsSlots items → All IsNode (kept gone k items)
  IsNode-kept gone k [] h = All-nil IsNode
  IsNode-kept gone k (item.X slots ∷ rest) h =
      let ih = IsNode-kept gone (k + 1) rest h.1 in
      let P : List Node → Type 0 = λ ns. All IsNode ns in
      ⊎_elim
      (λ t. subst P (sym (ap (λ z. cond z (kept gone (k + 1) rest) (node slots ∷ kept gone (k + 1) rest)) t)) ih)
      (λ t. subst P (sym (ap (λ z. cond z (kept gone (k + 1) rest) (node slots ∷ kept gone (k + 1) rest)) t)) (All-cons IsNode (node slots) (kept gone (k + 1) rest) (IsNode-node slots h.0) ih))
      (cases_Bool (is_member ◌==◌ gone k))
  IsNode-kept gone k (item.Loop label ∷ rest) h = IsNode-kept gone k rest h.1

  pub IsNode-nodes : (items : List Item) → AllByRecursion HasItsSlots items → All IsNode (nodes_of items)
  IsNode-nodes items h = let P : List Node → Type 0 = λ ns. All IsNode ns in subst P (kept_none 1 items) (IsNode-kept [] 1 items h)

  -- past its number a crossing is not met
  kept_later : (c : ℕ) (gone : List ℕ) (k : ℕ) (items : List Item) → c < k → kept (c ∷ gone) k items ≡ kept gone k items
  kept_later c gone k [] l = refl
  kept_later c gone k (item.X slots ∷ rest) l =
      let ih = kept_later c gone (k + 1) rest (omega (arith, l)) in
      let other : is_member ◌==◌ (c ∷ gone) k ≡ is_member ◌==◌ gone k = grind (arith, nat_tests, l) in
      ap (λ z. cond z (kept (c ∷ gone) (k + 1) rest) (node slots ∷ kept (c ∷ gone) (k + 1) rest)) other
      ∙ ap (λ ns. cond (is_member ◌==◌ gone k) ns (node slots ∷ ns)) ih
  kept_later c gone k (item.Loop label ∷ rest) l = kept_later c gone k rest l

  module _ (m delta free : ℕ) where
    abbrev pub V : List Node → ℕ
    V nodes = value m delta record { nodes = nodes; free_loops = free }

    -- A CROSSING COMES TO THE FRONT
    pub picked : (front : List Node) (gone : List ℕ) (k : ℕ) (items : List Item) (c : ℕ) (slots : List ℕ) → AllByRecursion HasItsSlots items → All IsNode front →
        is_member ◌==◌ gone c ≡ false → crossing_from k items c ≡ Some slots →
        V (front ++ kept gone k items) ≡ V (node slots ∷ (front ++ kept (c ∷ gone) k items))
    picked front gone k [] c slots h f out found = absurd (none_some slots found)
    picked front gone k (item.X here ∷ rest) c slots h f out found =
        let K1 = kept gone (k + 1) rest in
        let K2 = kept (c ∷ gone) (k + 1) rest in
        ⊎_elim
        (λ t.
        let same : k ≡ c = eqb-true k c t in
        let e : Some here ≡ Some slots = sym (ap (λ z. cond z (Some here) (crossing_from (k + 1) rest c)) t) ∙ found in
        let is : here ≡ slots = cc in
        let left : is_member ◌==◌ gone k ≡ false = ap (is_member ◌==◌ gone) same ∙ out in
        let gone_now : is_member ◌==◌ (c ∷ gone) k ≡ true = grind (arith, nat_tests, t) in
        let later = kept_later c gone (k + 1) rest (omega (arith, same)) in
        ap (λ z. V (front ++ cond z K1 (node here ∷ K1))) left
        ∙ value_moved m delta free front (node here ∷ []) K1 (HavePlaces-from_nodes front f) (HavePlaces-from_nodes (node here ∷ []) (All-cons IsNode (node here) [] (IsNode-node here h.0) (All-nil IsNode)))
        (HavePlaces-from_nodes K1 (IsNode-kept gone (k + 1) rest h.1))
        ∙ ap (λ s. V (node s ∷ (front ++ K1))) is
        ∙ ap (λ ns. V (node slots ∷ (front ++ ns))) (sym later)
        ∙ sym (ap (λ z. V (node slots ∷ (front ++ cond z K2 (node here ∷ K2)))) gone_now))
        (λ t.
        let next : crossing_from (k + 1) rest c ≡ Some slots = sym (ap (λ z. cond z (Some here) (crossing_from (k + 1) rest c)) t) ∙ found in
        let other : is_member ◌==◌ (c ∷ gone) k ≡ is_member ◌==◌ gone k = grind (arith, nat_tests, t) in
        ⊎_elim
        (λ g.
        ap (λ z. V (front ++ cond z K1 (node here ∷ K1))) g
        ∙ picked front gone (k + 1) rest c slots h.1 f out next
        ∙ sym (ap (λ z. V (node slots ∷ (front ++ cond z K2 (node here ∷ K2)))) (other ∙ g)))
        (λ g.
        let longer = front ++ node here ∷ [] in
        ap (λ z. V (front ++ cond z K1 (node here ∷ K1))) g
        ∙ ap V (sym (append_assoc front (node here ∷ []) K1))
        ∙ picked longer gone (k + 1) rest c slots h.1 (All-append IsNode front (node here ∷ []) f (All-cons IsNode (node here) [] (IsNode-node here h.0) (All-nil IsNode))) out next
        ∙ ap (λ ns. V (node slots ∷ ns)) (append_assoc front (node here ∷ []) K2)
        ∙ sym (ap (λ z. V (node slots ∷ (front ++ cond z K2 (node here ∷ K2)))) (other ∙ g)))
        (cases_Bool (is_member ◌==◌ gone k)))
        (cases_Bool (k == c))
    picked front gone k (item.Loop label ∷ rest) c slots h f out found = picked front gone k rest c slots h.1 f out found

    -- ---- turns
    turned_once : (u v w x y z : ℕ) (rest : List Node) → All IsNode rest → V (crossing u v w x y z ∷ rest) ≡ V (crossing v u x y z w ∷ rest)
    turned_once u v w x y z rest h =
        value_same m delta free (crossing u v w x y z ∷ rest) (crossing v u x y z w ∷ rest)
        (All-cons IsNode (crossing u v w x y z) rest (IsNode-crossing u v w x y z) h) (All-cons IsNode (crossing v u x y z w) rest (IsNode-crossing v u x y z w) h)
        (quarter_turn m delta u v w x y z free [] rest [] (All-nil IsNode) h (All-nil (λ n. is_member ◌==◌ (names_of (crossing u v w x y z ∷ rest)) n ≡ true)))

  -- the weights at a corner from slot k on
  abbrev pub first_weight : ℕ → ℕ
  first_weight k = cond (k % 2 == 0) a b

  abbrev pub second_weight : ℕ → ℕ
  second_weight k = cond (k % 2 == 0) b a

  abbrev pub corner : ℕ → List ℕ → Node
  corner k slots = crossing (first_weight k) (second_weight k) (slot slots k) (slot slots (k + 1)) (slot slots (k + 2)) (slot slots (k + 3))

  corner_values : (m delta free : ℕ) (rest : List Node) → All IsNode rest → (k : ℕ) → k < 8 → (w x y z : ℕ) →
      V m delta free (crossing a b w x y z ∷ rest) ≡ V m delta free (corner k (w ∷ x ∷ y ∷ z ∷ []) ∷ rest)
  corner_values m delta free rest h zero l w x y z = refl
  corner_values m delta free rest h (suc zero) l w x y z = turned_once m delta free a b w x y z rest h
  corner_values m delta free rest h (suc (suc zero)) l w x y z = turned_once m delta free a b w x y z rest h ∙ turned_once m delta free b a x y z w rest h
  corner_values m delta free rest h (suc (suc (suc zero))) l w x y z =
      turned_once m delta free a b w x y z rest h ∙ turned_once m delta free b a x y z w rest h ∙ turned_once m delta free a b y z w x rest h
  corner_values m delta free rest h (suc (suc (suc (suc zero)))) l w x y z = refl
  corner_values m delta free rest h (suc (suc (suc (suc (suc zero))))) l w x y z = turned_once m delta free a b w x y z rest h
  corner_values m delta free rest h (suc (suc (suc (suc (suc (suc zero)))))) l w x y z = turned_once m delta free a b w x y z rest h ∙ turned_once m delta free b a x y z w rest h
  corner_values m delta free rest h (suc (suc (suc (suc (suc (suc (suc zero))))))) l w x y z =
      turned_once m delta free a b w x y z rest h ∙ turned_once m delta free b a x y z w rest h ∙ turned_once m delta free a b y z w x rest h
  corner_values m delta free rest h (suc (suc (suc (suc (suc (suc (suc (suc k)))))))) l w x y z = absurd (omega (arith, l))

  -- A CROSSING IS TURNED
  pub corner_value : (m delta free : ℕ) (rest : List Node) → All IsNode rest → (k : ℕ) → k < 8 → (slots : List ℕ) → length slots ≡ 4 →
      V m delta free (node slots ∷ rest) ≡ V m delta free (corner k slots ∷ rest)
  corner_value m delta free rest h k l slots four =
      let e = four_slots slots four in
      let P : List ℕ → Type 0 = λ s. V m delta free (node s ∷ rest) ≡ V m delta free (corner k s ∷ rest) in
      subst P (sym e) (corner_values m delta free rest h k l (slice_index slots 0) (slice_index slots 1) (slice_index slots 2) (slice_index slots 3))

  -- ---- how often names stand
  cons_times : (xs ys : List ℕ) (c : ℕ) → times_in (xs ++ ys) c ≡ times_in xs c + times_in ys c
  cons_times xs ys c = times_in-append xs ys c

  pub picked_times : (gone : List ℕ) (k : ℕ) (items : List Item) (c : ℕ) (slots : List ℕ) (x : ℕ) →
      is_member ◌==◌ gone c ≡ false → crossing_from k items c ≡ Some slots →
      times_in (names_of (kept gone k items)) x ≡ times_in slots x + times_in (names_of (kept (c ∷ gone) k items)) x
  picked_times gone k [] c slots x out found = absurd (none_some slots found)
  picked_times gone k (item.X here ∷ rest) c slots x out found =
      let K1 = kept gone (k + 1) rest in
      let K2 = kept (c ∷ gone) (k + 1) rest in
      let T : List Node → ℕ = λ ns. times_in (names_of ns) x in
      ⊎_elim
      (λ t.
      let same : k ≡ c = eqb-true k c t in
      let e : Some here ≡ Some slots = sym (ap (λ z. cond z (Some here) (crossing_from (k + 1) rest c)) t) ∙ found in
      let is : here ≡ slots = cc in
      let left : is_member ◌==◌ gone k ≡ false = ap (is_member ◌==◌ gone) same ∙ out in
      let gone_now : is_member ◌==◌ (c ∷ gone) k ≡ true = grind (arith, nat_tests, t) in
      let later = ap T (kept_later c gone (k + 1) rest (omega (arith, same))) in
      ap (λ z. T (cond z K1 (node here ∷ K1))) left
      ∙ cons_times here (names_of K1) x
      ∙ ap (λ s. times_in s x + T K1) is
      ∙ ap (λ n. times_in slots x + n) (sym later ∙ sym (ap (λ z. T (cond z K2 (node here ∷ K2))) gone_now)))
      (λ t.
      let next : crossing_from (k + 1) rest c ≡ Some slots = sym (ap (λ z. cond z (Some here) (crossing_from (k + 1) rest c)) t) ∙ found in
      let other : is_member ◌==◌ (c ∷ gone) k ≡ is_member ◌==◌ gone k = grind (arith, nat_tests, t) in
      let ih = picked_times gone (k + 1) rest c slots x out next in
      ⊎_elim
      (λ g. ap (λ z. T (cond z K1 (node here ∷ K1))) g ∙ ih ∙ ap (λ n. times_in slots x + n) (sym (ap (λ z. T (cond z K2 (node here ∷ K2))) (other ∙ g))))
      (λ g.
      let p = cons_times here (names_of K1) x in
      let q = cons_times here (names_of K2) x in
      let sum : T (node here ∷ K1) ≡ times_in slots x + T (node here ∷ K2) = omega (arith, p, q, ih) in
      ap (λ z. T (cond z K1 (node here ∷ K1))) g ∙ sum ∙ ap (λ n. times_in slots x + n) (sym (ap (λ z. T (cond z K2 (node here ∷ K2))) (other ∙ g))))
      (cases_Bool (is_member ◌==◌ gone k)))
      (cases_Bool (k == c))
  picked_times gone k (item.Loop label ∷ rest) c slots x out found = picked_times gone k rest c slots x out found

pub picked_size : (k : ℕ) (items : List Item) (c : ℕ) (slots : List ℕ) → AllByRecursion HasItsSlots items → crossing_from k items c ≡ Some slots → length slots ≡ 4
picked_size k [] c slots h found = absurd (none_some slots found)
picked_size k (item.X here ∷ rest) c slots h found =
    ⊎_elim
    (λ t. let e : Some here ≡ Some slots = sym (ap (λ z. cond z (Some here) (crossing_from (k + 1) rest c)) t) ∙ found in let is : here ≡ slots = cc in ap length (sym is) ∙ h.0)
    (λ t. picked_size (k + 1) rest c slots h.1 (sym (ap (λ z. cond z (Some here) (crossing_from (k + 1) rest c)) t) ∙ found))
    (cases_Bool (k == c))
picked_size k (item.Loop label ∷ rest) c slots h found = picked_size k rest c slots h.1 found

times_corners : (k : ℕ) → k < 8 → (w x y z n : ℕ) → times_in (w ∷ x ∷ y ∷ z ∷ []) n ≡ times_in (around k (w ∷ x ∷ y ∷ z ∷ [])) n
times_corners zero l w x y z n = refl
times_corners (suc zero) l w x y z n = omega arith
times_corners (suc (suc zero)) l w x y z n = omega arith
times_corners (suc (suc (suc zero))) l w x y z n = omega arith
times_corners (suc (suc (suc (suc zero)))) l w x y z n = refl
times_corners (suc (suc (suc (suc (suc zero))))) l w x y z n = omega arith
times_corners (suc (suc (suc (suc (suc (suc zero)))))) l w x y z n = omega arith
times_corners (suc (suc (suc (suc (suc (suc (suc zero))))))) l w x y z n = omega arith
times_corners (suc (suc (suc (suc (suc (suc (suc (suc k)))))))) l w x y z n = absurd (omega (arith, l))

pub times_corner : (k : ℕ) → k < 8 → (slots : List ℕ) → length slots ≡ 4 → (n : ℕ) → times_in slots n ≡ times_in (around k slots) n
times_corner k l slots four n =
    let e = four_slots slots four in
    let P : List ℕ → Type 0 = λ s. times_in s n ≡ times_in (around k s) n in
    subst P (sym e) (times_corners k l (slice_index slots 0) (slice_index slots 1) (slice_index slots 2) (slice_index slots 3) n)
