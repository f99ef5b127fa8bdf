-- One, two or three crossings of a diagram at the front, each turned to a corner, and how often their labels stand.
use Rattle.std.proofs.Common.{◌≡◌, ℕ, ◌+◌, ◌*◌, ◌%◌, ◌<◌, Bool, true, false, cond, ◌==◌, List, [], ◌∷◌, length, Some, refl, sym, ap, ◌∙◌, arith, All}
use Rattle.std.specs.List.{AllByRecursion}
use Rattle.std.specs.Set.{is_member}
use Rattle.std.proofs.lemmas.List.Elements.{All-cons, All-nil}
use Rattle.pd_reader.specs.declared.item.Item.{Item}
use Rattle.pd_reader.specs.Items.{HasItsSlots}
use Rattle.state_sums.specs.LocalSums.{crossing, AreSkeinNumbers}
use Rattle.state_sums.specs.Networks.{Node, IsNode, names_of}
use Rattle.state_sums.proofs.WrittenNodes.{IsNode-crossing}
use Rattle.diagram_moves.specs.Rewriting.{slot, around, crossing_at, crossing_labels}
use Rattle.diagram_moves.proofs.Nodes.{nodes_of, kept, kept_none, names_of-nodes, IsNode-kept, V, picked, picked_times, picked_size, corner, corner_value, first_weight, second_weight, times_corner}
use Rattle.list_lemmas.specs.Times.{times_in}

pub same_crossing : {a a' b b' w w' x x' y y' z z' : ℕ} → a ≡ a' → b ≡ b' → w ≡ w' → x ≡ x' → y ≡ y' → z ≡ z' → crossing a b w x y z ≡ crossing a' b' w' x' y' z'
same_crossing {a} {a'} {b} {b'} {w} {w'} {x} {x'} {y} {y'} {z} {z'} p q r s t u =
    ap (λ n. crossing n b w x y z) p ∙ ap (λ n. crossing a' n w x y z) q ∙ ap (λ n. crossing a' b' n x y z) r
    ∙ ap (λ n. crossing a' b' w' n y z) s ∙ ap (λ n. crossing a' b' w' x' n z) t ∙ ap (λ n. crossing a' b' w' x' y' n) u

exchanged : (m a b delta : ℕ) → AreSkeinNumbers m a b delta → AreSkeinNumbers m b a delta
exchanged m a b delta numbers = record {
  inverse = ap (λ n. n % m) (let e : b * a ≡ a * b = omega arith in e) ∙ numbers.inverse;
  loop = ap (λ n. n % m) (let e : delta + b * b + a * a ≡ delta + a * a + b * b = omega arith in e) ∙ numbers.loop;
}

pub turned_numbers : (m a b delta : ℕ) → AreSkeinNumbers m a b delta → (turned : Bool) → AreSkeinNumbers m (cond turned a b) (cond turned b a) delta
turned_numbers m a b delta numbers true = numbers
turned_numbers m a b delta numbers false = exchanged m a b delta numbers

module _ (a b : ℕ) (items : List Item) (sizes : AllByRecursion HasItsSlots items) (c : ℕ) (here : List ℕ) (found : crossing_at items c ≡ Some here) (k : ℕ) (low : k < 8) where
  size : length here ≡ 4
  size = picked_size 1 items c here sizes found

  first : Node
  first = corner a b k here

  pub one_corner : (m delta free : ℕ) → V a b m delta free (nodes_of a b items) ≡ V a b m delta free (corner a b k here ∷ kept a b (c ∷ []) 1 items)
  one_corner m delta free =
      ap (V a b m delta free) (sym (kept_none a b 1 items))
      ∙ picked a b m delta free [] [] 1 items c here sizes (All-nil IsNode) refl found
      ∙ corner_value a b m delta free (kept a b (c ∷ []) 1 items) (IsNode-kept a b (c ∷ []) 1 items sizes) k low here size

  pub one_times : (x : ℕ) → times_in (crossing_labels items) x ≡ times_in (around k here) x + times_in (names_of (kept a b (c ∷ []) 1 items)) x
  one_times x =
      sym (ap (λ ns. times_in ns x) (names_of-nodes a b items))
      ∙ ap (λ ns. times_in (names_of ns) x) (sym (kept_none a b 1 items))
      ∙ picked_times a b [] 1 items c here x refl found
      ∙ ap (λ n. n + times_in (names_of (kept a b (c ∷ []) 1 items)) x) (times_corner k low here size x)

  module _ (d : ℕ) (there : List ℕ) (also : crossing_at items d ≡ Some there) (apart : (d == c) ≡ false) (l : ℕ) (short : l < 8) where
    there_size : length there ≡ 4
    there_size = picked_size 1 items d there sizes also

    not_c : is_member ◌==◌ (c ∷ []) d ≡ false
    not_c = grind (arith, apart)

    corners_are : All IsNode (corner a b k here ∷ [])
    corners_are = All-cons IsNode (corner a b k here) [] (IsNode-crossing (first_weight a b k) (second_weight a b k) (slot here k) (slot here (k + 1)) (slot here (k + 2)) (slot here (k + 3))) (All-nil IsNode)

    pub two_corners : (m delta free : ℕ) →
        V a b m delta free (nodes_of a b items) ≡ V a b m delta free (corner a b l there ∷ corner a b k here ∷ kept a b (d ∷ c ∷ []) 1 items)
    two_corners m delta free =
        one_corner m delta free
        ∙ picked a b m delta free (corner a b k here ∷ []) (c ∷ []) 1 items d there sizes corners_are not_c also
        ∙ corner_value a b m delta free (corner a b k here ∷ kept a b (d ∷ c ∷ []) 1 items)
        (All-cons IsNode (corner a b k here) (kept a b (d ∷ c ∷ []) 1 items) (IsNode-crossing (first_weight a b k) (second_weight a b k) (slot here k) (slot here (k + 1)) (slot here (k + 2)) (slot here (k + 3))) (IsNode-kept a b (d ∷ c ∷ []) 1 items sizes))
        l short there there_size

    pub two_times : (x : ℕ) → times_in (crossing_labels items) x ≡ times_in (around k here) x + (times_in (around l there) x + times_in (names_of (kept a b (d ∷ c ∷ []) 1 items)) x)
    two_times x =
        one_times x
        ∙ ap (λ n. times_in (around k here) x + n)
        (picked_times a b (c ∷ []) 1 items d there x not_c also
        ∙ ap (λ n. n + times_in (names_of (kept a b (d ∷ c ∷ []) 1 items)) x) (times_corner l short there there_size x))

    module _ (f : ℕ) (beyond : List ℕ) (too : crossing_at items f ≡ Some beyond) (apart_c : (f == c) ≡ false) (apart_d : (f == d) ≡ false) (j : ℕ) (small : j < 8) where
      beyond_size : length beyond ≡ 4
      beyond_size = picked_size 1 items f beyond sizes too

      not_both : is_member ◌==◌ (d ∷ c ∷ []) f ≡ false
      not_both = grind (arith, apart_c, apart_d)

      second_is : IsNode (corner a b l there)
      second_is = IsNode-crossing (first_weight a b l) (second_weight a b l) (slot there l) (slot there (l + 1)) (slot there (l + 2)) (slot there (l + 3))

      pub three_corners : (m delta free : ℕ) →
          V a b m delta free (nodes_of a b items) ≡ V a b m delta free (corner a b j beyond ∷ corner a b l there ∷ corner a b k here ∷ kept a b (f ∷ d ∷ c ∷ []) 1 items)
      three_corners m delta free =
          let first_is = IsNode-crossing (first_weight a b k) (second_weight a b k) (slot here k) (slot here (k + 1)) (slot here (k + 2)) (slot here (k + 3)) in
          two_corners m delta free
          ∙ picked a b m delta free (corner a b l there ∷ corner a b k here ∷ []) (d ∷ c ∷ []) 1 items f beyond sizes
          (All-cons IsNode (corner a b l there) (corner a b k here ∷ []) second_is corners_are) not_both too
          ∙ corner_value a b m delta free (corner a b l there ∷ corner a b k here ∷ kept a b (f ∷ d ∷ c ∷ []) 1 items)
          (All-cons IsNode (corner a b l there) (corner a b k here ∷ kept a b (f ∷ d ∷ c ∷ []) 1 items) second_is
          (All-cons IsNode (corner a b k here) (kept a b (f ∷ d ∷ c ∷ []) 1 items) first_is (IsNode-kept a b (f ∷ d ∷ c ∷ []) 1 items sizes)))
          j small beyond beyond_size

      pub three_times : (x : ℕ) →
          times_in (crossing_labels items) x
          ≡ times_in (around k here) x + (times_in (around l there) x + (times_in (around j beyond) x + times_in (names_of (kept a b (f ∷ d ∷ c ∷ []) 1 items)) x))
      three_times x =
          two_times x
          ∙ ap (λ n. times_in (around k here) x + (times_in (around l there) x + n))
          (picked_times a b (d ∷ c ∷ []) 1 items f beyond x not_both too
          ∙ ap (λ n. n + times_in (names_of (kept a b (f ∷ d ∷ c ∷ []) 1 items)) x) (times_corner j small beyond beyond_size x))
