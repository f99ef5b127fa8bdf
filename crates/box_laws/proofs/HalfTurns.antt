-- A box whose sides change places is the same box: its ends stand in another order, its pairings are turned by half a turn, and by that the
-- projector is unchanged, coefficient for coefficient.
use Rattle.std.proofs.Common.{◌==◌, ◌≡◌, ℕ, ◌+◌, ◌-◌, ◌*◌, ◌%◌, ◌<◌, ◌≤◌, Bool, true, false, cond, ◌||◌, nat_lt, List, [], ◌∷◌, ◌++◌, map, length, length-append, slice_index, sum_by, refl, sym, ap, ap₂, ◌∙◌, arith, subst, All, ⊎_elim}
use Rattle.std.specs.List.{range_with_len, list_any}
use Rattle.std.specs.Set.{is_member}
use Rattle.std.specs.Str.{bytes_eq}
use Rattle.std.proofs.lemmas.Bool.{cases_Bool, or_cases}
use Rattle.std.proofs.lemmas.Bool.Decides.{nat_tests}
use Rattle.std.proofs.lemmas.List.{ext_get_or, get_or_append_left, get_or-append_right}
use Rattle.std.proofs.lemmas.List.Elements.{All-weaker}
use Rattle.std.proofs.lemmas.List.FromFn.{length-map-range_with_len, get_or-map-range_with_len}
use Rattle.std.proofs.lemmas.List.Sums.{sum_by-cons}
use Rattle.std.proofs.lemmas.Slice.Eq.{bytes_eq-Decides}
use Rattle.list_lemmas.proofs.Bools.{same_bool}
use Rattle.list_lemmas.proofs.Sums.{sum_by_same, sum_by-map}
use Rattle.state_sums.specs.LocalSums.{SameEverywhere}
use Rattle.state_sums.specs.Networks.{Node, Term, IsNode, IsPairing, names_of}
use Rattle.state_sums.proofs.Coefficients.{grouped, only}
use Rattle.state_sums.proofs.NetworkLaws.{same_everywhere}
use Rattle.piece_laws.specs.TurnedNodes.{AreInverse, turned_partner, turned_term, turned_node, weight_of}
use Rattle.piece_laws.proofs.OneNode.{same_between}
use Rattle.piece_laws.proofs.OtherTerms.{other_terms, equal_from, picked}
use Rattle.piece_laws.proofs.TurnedEnds.{turned_node_same, IsNode-turned, same_ends}
use Rattle.graph_parts.proofs.Distinct.{is_member-append}
use Rattle.strand_algebra.specs.Elements.{coefficient}
use Rattle.strand_algebra.specs.Projectors.{IsProjector}
use Rattle.strand_algebra.specs.StrandPairings.{half_turned}
use Rattle.strand_algebra.proofs.ByLabels.{IsPairingOn-from_points}
use Rattle.strand_algebra.proofs.Collecting.{signed, noncrossing_element}
use Rattle.strand_algebra.proofs.Exchanges.{half_exchange, turned_twice, IsPairingOf-turned}
use Rattle.strand_algebra.proofs.LabelProducts.{IsPairingOf}
use Rattle.strand_algebra.proofs.Operations.{pairings_of}
use Rattle.strand_algebra.proofs.ProjectorLaws.{projector_element, half_turn}
use Rattle.strand_algebra.proofs.Totals.{AreTerms}
use Rattle.box_laws.specs.Laws.{HalfTurnedBoxLaw}
use Rattle.box_laws.proofs.ClosedBoxes.{element_pairings}

abbrev half : ℕ → ℕ → ℕ
half n i = cond (nat_lt i n) (i + n) (i - n)

equal_to : (p q : List ℕ) → p ≡ q → bytes_eq p q ≡ true
equal_to p q e = (bytes_eq-Decides p q).1 e

-- ---- the coefficients
module _ (n : ℕ) where
  abbrev T : List ℕ → List ℕ
  T p = half_turned n p

  turns : (p q : List ℕ) → IsPairingOf (n + n) p → IsPairingOf (n + n) q → bytes_eq p (T q) ≡ bytes_eq (T p) q
  turns p q hp hq =
      same_bool (bytes_eq p (T q)) (bytes_eq (T p) q)
      (λ t. equal_to (T p) q (ap T (equal_from p (T q) t) ∙ turned_twice n (half n) (half_exchange n) q hq))
      (λ t. equal_to p (T q) (sym (turned_twice n (half n) (half_exchange n) p hp) ∙ ap T (equal_from (T p) q t)))

  as_they_are : (p : List ℕ) (f : List Term) → sum_by (λ t. t.weight * only bytes_eq equal_from (λ q. equal_to q q refl) p t.partner) f ≡ coefficient f p
  as_they_are p f = sum_by_same _ _ f (λ t. picked t.weight (bytes_eq p t.partner))

  as_turned : (p : List ℕ) → IsPairingOf (n + n) p → (f : List Term) → AreTerms (n + n) (signed f) → sum_by (λ t. t.weight * only bytes_eq equal_from (λ q. equal_to q q refl) p (T t.partner)) f ≡ coefficient f (T p)
  as_turned p hp [] a = refl
  as_turned p hp (t ∷ f) a =
      sum_by-cons (λ u. u.weight * only bytes_eq equal_from (λ q. equal_to q q refl) p (T u.partner)) t f
      ∙ ap₂ (λ x y. x + y) (picked t.weight (bytes_eq p (T t.partner)) ∙ ap (λ b. cond b t.weight 0) (turns p t.partner hp a.0)) (as_turned p hp f a.1)
      ∙ sym (sum_by-cons (λ u. cond (bytes_eq (T p) u.partner) u.weight 0) t f)

  -- whether p is one of the pairings, or turned one
  abbrev meets : List ℕ → Term → Bool
  meets p t = bytes_eq p t.partner || bytes_eq p (T t.partner)

  is_pairing : (p : List ℕ) (f : List Term) → AreTerms (n + n) (signed f) → list_any (meets p) f ≡ true → IsPairingOf (n + n) p
  is_pairing p [] a m = absurd (grind (arith, m))
  is_pairing p (t ∷ f) a m =
      ⊎_elim
      (λ k. ⊎_elim (λ e. subst (IsPairingOf (n + n)) (sym (equal_from p t.partner e)) a.0)
      (λ e. subst (IsPairingOf (n + n)) (sym (equal_from p (T t.partner) e)) (IsPairingOf-turned n (half n) (half_exchange n) t.partner a.0))
      (or_cases (bytes_eq p t.partner) (bytes_eq p (T t.partner)) k))
      (λ k. is_pairing p f a.1 k)
      (or_cases (meets p t) (list_any (meets p) f) m)

  none_there : (p : List ℕ) (f : List Term) → list_any (meets p) f ≡ false → (sum_by (λ t. t.weight * only bytes_eq equal_from (λ q. equal_to q q refl) p (T t.partner)) f ≡ 0) × (sum_by (λ t. t.weight * only bytes_eq equal_from (λ q. equal_to q q refl) p t.partner) f ≡ 0)
  none_there p [] m = (refl, refl)
  none_there p (t ∷ f) m =
      let a : meets p t ≡ false = grind (arith, m) in
      let b : list_any (meets p) f ≡ false = grind (arith, m) in
      let ih = none_there p f b in
      let c : bytes_eq p t.partner ≡ false = grind (arith, a) in
      let d : bytes_eq p (T t.partner) ≡ false = grind (arith, a) in (
        sum_by-cons (λ u. u.weight * only bytes_eq equal_from (λ q. equal_to q q refl) p (T u.partner)) t f ∙ ap₂ (λ x y. x + y) (picked t.weight (bytes_eq p (T t.partner)) ∙ ap (λ b. cond b t.weight 0) d) ih.0,
        sum_by-cons (λ u. u.weight * only bytes_eq equal_from (λ q. equal_to q q refl) p u.partner) t f ∙ ap₂ (λ x y. x + y) (picked t.weight (bytes_eq p t.partner) ∙ ap (λ b. cond b t.weight 0) c) ih.1,
      )

  -- WHATEVER THE PAIRINGS ARE WORTH
  pub sums_turned : (m delta : ℕ) (f : List Term) → 0 < m → n ≤ 8 → IsProjector m delta n f → AreTerms (n + n) (signed f) → (g : List ℕ → ℕ) →
      sum_by (λ t. t.weight * g (T t.partner)) f % m ≡ sum_by (λ t. t.weight * g t.partner) f % m
  sums_turned m delta f some few is terms g =
      grouped bytes_eq equal_from (λ q. equal_to q q refl) m (λ t. t.weight) (λ t. T t.partner) (λ t. t.weight) (λ t. t.partner) f f
      (λ p.
      ap (λ k. k % m)
      (⊎_elim
      (λ k. (let hp = is_pairing p f terms k in as_turned p hp f terms ∙ half_turn m delta n f p some few is (IsPairingOn-from_points n p hp) ∙ sym (as_they_are p f)))
      (λ k. (let z = none_there p f k in z.0 ∙ sym z.1))
      (cases_Bool (list_any (meets p) f))))
      g

-- ---- the node
halves : (n size : ℕ) → size ≡ n + n → AreInverse size (half n) (half n)
halves n size e = record {
  order_within = λ i l. (let w = (half_exchange n).below i (omega (arith, l, e)) in omega (arith, w, e));
  back_within = λ i l. (let w = (half_exchange n).below i (omega (arith, l, e)) in omega (arith, w, e));
  there = λ i l. (half_exchange n).twice i (omega (arith, l, e));
  again = λ i l. (half_exchange n).twice i (omega (arith, l, e));
}

-- the ends of a node that is turned by half a turn
module _ (n : ℕ) (xs ys : List ℕ) (left : length xs ≡ n) (right : length ys ≡ n) where
  whole : length (ys ++ xs) ≡ n + n
  whole = length-append ys xs ∙ omega (arith, left, right)

  sides_exchanged : map (λ i. slice_index (ys ++ xs) (half n i)) (range_with_len 0 (length (ys ++ xs))) ≡ xs ++ ys
  sides_exchanged =
      let size = length (ys ++ xs) in
      let turned = map (λ i. slice_index (ys ++ xs) (half n i)) (range_with_len 0 size) in
      let long = length-map-range_with_len (λ i. slice_index (ys ++ xs) (half n i)) 0 size in
      let other = length-append xs ys in
      ext_get_or 0 turned (xs ++ ys) (omega (arith, long, whole, other, left, right)) (λ i b.
      let l : i < size = omega (arith, b, long) in
      get_or-map-range_with_len (λ j. slice_index (ys ++ xs) (half n j)) 0 size i i 0 l (omega arith)
      ∙ ⊎_elim
      (λ t.
      let low : i < n = grind (arith, nat_tests, t) in
      let at : half n i ≡ i + n = grind (arith, t) in
      ap (slice_index (ys ++ xs)) at
      ∙ get_or-append_right ys xs n (i + n) 0 right (omega arith)
      ∙ (let same : i + n - n ≡ i = omega arith in ap (slice_index xs) same)
      ∙ sym (get_or_append_left xs ys 0 i (omega (arith, low, left))))
      (λ t.
      let high : n ≤ i = grind (arith, nat_tests, t) in
      let at : half n i ≡ i - n = grind (arith, t) in
      ap (slice_index (ys ++ xs)) at
      ∙ get_or_append_left ys xs 0 (i - n) (omega (arith, high, l, whole, right))
      ∙ sym (get_or-append_right xs ys n i 0 left high))
      (cases_Bool (nat_lt i n)))

node_ok : (n g : ℕ) (ends : List ℕ) → length ends ≡ n + n → (f : List Term) → All (λ (term : Term). IsPairingOf (n + n) term.partner) f → IsNode record { group = g; ends = ends; terms = f }
node_ok n g ends size f pairings =
    All-weaker (λ (term : Term). IsPairingOf (n + n) term.partner) (λ (term : Term). IsPairing term.partner × (length term.partner ≡ length ends))
    (λ term h. ((IsPairingOn-from_points n term.partner h).is_pairing, h.length_is ∙ sym size)) f pairings

-- A BOX TURNED BY HALF A TURN
pub half_turned_box : HalfTurnedBoxLaw
half_turned_box m delta free n g k f xs ys front back open_names some few is left right p q has =
    let terms = pairings_of n f (noncrossing_element m n f (projector_element m delta n f some is)) in
    let pairings = element_pairings m n f (projector_element m delta n f some is) in
    let size = whole n xs ys left right in
    let other_size : length (xs ++ ys) ≡ n + n = length-append xs ys ∙ omega (arith, left, right) in
    let old : Node = record { group = g; ends = ys ++ xs; terms = f } in
    let old_ok = node_ok n g (ys ++ xs) size f pairings in
    let new : Node = record { group = k; ends = xs ++ ys; terms = f } in
    let turned = turned_node (half n) (half n) old in
    let inverse = halves n (length (ys ++ xs)) size in
    let turned_ok = IsNode-turned (half n) (half n) old inverse old_ok in
    let ends_are = sides_exchanged n xs ys left right in
    let told : Node = record { group = k; ends = turned.ends; terms = f } in
    let told_ok = node_ok n k turned.ends (ap length ends_are ∙ other_size) f pairings in
    let same : (u : ℕ) → is_member ◌==◌ (old.ends ++ []) u ≡ is_member ◌==◌ (turned.ends ++ []) u =
    λ u. is_member-append old.ends [] u ∙ ap (λ t. t || false) (same_ends old.ends (half n) (half n) inverse u) ∙ sym (is_member-append turned.ends [] u) in
    let turned_has = All-weaker (λ u. is_member ◌==◌ (names_of (front ++ old ∷ back)) u ≡ true) (λ u. is_member ◌==◌ (names_of (front ++ turned ∷ back)) u ≡ true)
    (λ u t. sym (same_between front (old ∷ []) (turned ∷ []) back same u) ∙ t) open_names has in
    let weights : (partner : List ℕ) → weight_of turned.terms partner % m ≡ weight_of f partner % m =
    λ partner.
    let half_of : List ℕ → List ℕ = turned_partner (length (ys ++ xs)) (half n) (half n) in
    let is_half : (r : List ℕ) → half_of r ≡ half_turned n r = λ r. ap (λ z. turned_partner z (half n) (half n) r) size in
    ap (λ z. z % m)
    (sum_by-map (λ t. cond (bytes_eq partner t.partner) t.weight 0) (turned_term (length (ys ++ xs)) (half n) (half n)) f
    ∙ sum_by_same _ _ f (λ t. sym (picked t.weight (bytes_eq partner (half_of t.partner))) ∙ ap (λ r. t.weight * cond (bytes_eq partner r) 1 0) (is_half t.partner)))
    ∙ sums_turned n m delta f some few is terms (λ r. cond (bytes_eq partner r) 1 0)
    ∙ ap (λ z. z % m) (sum_by_same _ _ f (λ t. picked t.weight (bytes_eq partner t.partner))) in
    subst (λ ends. SameEverywhere m delta open_names record { nodes = front ++ old ∷ back; free_loops = free } record { nodes = front ++ record { group = k; ends = ends; terms = f } ∷ back; free_loops = free }) ends_are
    ((same_everywhere m delta open_names).on _ record { nodes = front ++ turned ∷ back; free_loops = free } _
    (turned_node_same m delta free (half n) (half n) old front back open_names old_ok p q inverse has)
    (other_terms m delta free k turned f front back open_names turned_ok told_ok p q weights turned_has))
