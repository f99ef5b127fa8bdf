-- Any direction against that of the walks: it is the same on a whole component or the reverse there, by what it is at the start of
-- the component. So a crossing's sign is that of the walks times one factor for each of its strands, and the sums follow term by
-- term.
use Rattle.std.proofs.Common.{◌≡◌, ◌⊎◌, ℕ, zero, suc, ◌+◌, ◌*◌, ◌<◌, ◌≤◌, ◌==◌, ◌&&◌, ◌||◌, Bool, true, false, not, cond, List, [], ◌∷◌, length, map, slice_index, count_by, leb, Some, ℤ, pos, negsuc, ◌+ℤ◌, ◌*ℤ◌, ◌-ℤ◌, inl, inr, refl, sym, ap, ap₂, ◌∙◌, arith}
use Rattle.std.specs.List.{range_with_len}
use Rattle.std.proofs.lemmas.Bool.{cases_Bool, eqb-true}
use Rattle.std.proofs.lemmas.Int.{ints}
use Rattle.std.proofs.lemmas.List.Sums.{sum_by-cons}
use Rattle.ring_identities.proofs.Identities.{reads, by_ring}
use Rattle.pd_reader.specs.declared.item.Item.{Item}
use Rattle.pd_reader.specs.Diagrams.{IsDiagram}
use Rattle.planar_check.specs.declared.sign.Sign.{Sign}
use Rattle.planar_check.specs.declared.sign.Sign.TheVariants as signs
use Rattle.planar_check.specs.declared.sign.Signed.{Signed}
use Rattle.planar_check.specs.Places.{crossings_of, place_labels, first_place, other_place}
use Rattle.planar_check.specs.Components.{component_least, least_labels, number_of}
use Rattle.planar_check.specs.Signs.{enters, same_truth, sign_for, is_plus, component_at, signed_at, signed_crossings, is_between, signs_between, sign_sum, writhe}
use Rattle.planar_check.specs.Directions.{opposite, IsDirection, start_of, comes_in, agrees, orientation, reversed_on, signed_by, sign_sum_by}
use Rattle.planar_check.specs.Laws.{OneDirection, ReversedDirection, SignsByDirection}
use Rattle.planar_check.specs.Tables.{sign_value}
use Rattle.planar_check.proofs.Crossings.{places_four}
use Rattle.planar_check.proofs.ComponentNumbers.{least_at_number}
use Rattle.planar_check.proofs.Directions.{first_of, first_place_is, label_there, least_opposite, least_other, by_walks}
use Rattle.planar_check.proofs.FewComponents.{number_first, number_last}

-- ---- numbers of components
number_by : (xs : List Item) (x y : ℕ) → component_least xs x ≡ component_least xs y → number_of xs x ≡ number_of xs y
number_by xs x y e = ap (λ (k : ℕ). count_by (λ least. leb least k) (least_labels xs)) e

module _ (xs : List Item) (diagram : IsDiagram xs) where
  abbrev ls : List ℕ
  ls = place_labels xs

  component_opposite : (p : ℕ) → p < length ls → component_at xs (opposite p) ≡ component_at xs p
  component_opposite p l = number_by xs (slice_index ls (opposite p)) (slice_index ls p) (least_opposite xs diagram p l)

  component_other : (p : ℕ) → p < length ls → component_at xs (other_place ls p) ≡ component_at xs p
  component_other p l = number_by xs (slice_index ls (other_place ls p)) (slice_index ls p) (least_other xs diagram p l)

  -- the start of a place's component
  start_is : (p : ℕ) → p < length ls → start_of xs (component_at xs p) ≡ Some (first_of xs diagram p)
  start_is p l = ap (first_place ls) (least_at_number xs diagram.sizes (slice_index ls p) (label_there xs diagram p l)) ∙ first_place_is xs diagram p l

  module _ (into : ℕ → Bool) (direction : IsDirection (crossings_of xs) into) where
    agrees_is : (p : ℕ) → p < length ls → agrees xs into (component_at xs p) ≡ into (first_of xs diagram p)
    agrees_is p l = ap (comes_in into) (start_is p l)

    -- THE DIRECTION, BY THE WALKS AND BY THE COMPONENTS
    by_components : (p : ℕ) → p < length ls → into p ≡ same_truth (enters xs p) (agrees xs into (component_at xs p))
    by_components p l = by_walks xs diagram into direction p l ∙ ap (same_truth (enters xs p)) (sym (agrees_is p l))

    one_at : ((c : ℕ) → 1 ≤ c → c ≤ length (least_labels xs) → agrees xs into c ≡ true) → (p : ℕ) → p < length ls → into p ≡ enters xs p
    one_at h p l =
        let c = component_at xs p in
        let yes = h c (number_first xs diagram.sizes (slice_index ls p) (label_there xs diagram p l)) (number_last xs (slice_index ls p)) in
        by_components p l ∙ (ap (same_truth (enters xs p)) yes ∙ both (enters xs p)) where
          both : (b : Bool) → same_truth b true ≡ b
          both true = refl
          both false = refl

  reversed_at : (into : ℕ → Bool) (c p q : ℕ) → component_at xs q ≡ component_at xs p → into q ≡ not (into p) → reversed_on xs into c q ≡ not (reversed_on xs into c p)
  reversed_at into c p q same e =
      ap (λ (d : ℕ). cond (d == c) (not (into q)) (into q)) same
      ∙ (ap (λ (b : Bool). cond (component_at xs p == c) (not b) b) e ∙ turned (component_at xs p == c) (into p)) where
        turned : (b i : Bool) → cond b (not (not i)) (not i) ≡ not (cond b (not i) i)
        turned true i = refl
        turned false i = refl

-- A DIRECTION THAT AGREES AT EACH START
pub one_direction : OneDirection
one_direction xs into diagram direction h = one_at xs diagram into direction h

-- A COMPONENT REVERSED
pub reversed_direction : ReversedDirection
reversed_direction xs into c diagram direction = record {
  straight = λ p l. reversed_at xs diagram into c p (opposite p) (component_opposite xs diagram p l) (direction.straight p l);
  across = λ p l. reversed_at xs diagram into c p (other_place (place_labels xs) p) (component_other xs diagram p l) (direction.across p l);
}

-- ---- signs
abbrev one : Bool → ℤ
one b = cond b (pos 1) (negsuc 0)

one_same : (a b : Bool) → one (same_truth a b) ≡ one a *ℤ one b
one_same true true = refl
one_same true false = refl
one_same false true = refl
one_same false false = refl

value_of : (x y : Bool) → sign_value (sign_for (same_truth x y)) ≡ one x *ℤ one y
value_of true true = refl
value_of true false = refl
value_of false true = refl
value_of false false = refl

rearranged : (x s y t : ℤ) → (x *ℤ s) *ℤ (y *ℤ t) ≡ (s *ℤ t) *ℤ (x *ℤ y)
rearranged x s y t = by_ring (x ∷ s ∷ y ∷ t ∷ []) (search reads depth 30) (search reads depth 30) refl

module _ (xs : List Item) (diagram : IsDiagram xs) (into : ℕ → Bool) (direction : IsDirection (crossings_of xs) into) where
  abbrev factor : ℕ → ℤ
  factor c = orientation xs into c

  one_into : (p c : ℕ) → p < length (place_labels xs) → component_at xs p ≡ c → one (into p) ≡ one (enters xs p) *ℤ factor c
  one_into p c l e = ap one (by_components xs diagram into direction p l) ∙ (one_same (enters xs p) (agrees xs into (component_at xs p)) ∙ ap (λ d. one (enters xs p) *ℤ factor d) e)

  -- a crossing's sign
  sign_is : (k : ℕ) → 4 * k + 3 < length (place_labels xs) →
      sign_value (signed_by xs into k).sign ≡ (factor (signed_at xs k).under *ℤ factor (signed_at xs k).over) *ℤ sign_value (signed_at xs k).sign
  sign_is k l =
      let over : component_at xs (4 * k + 3) ≡ component_at xs (4 * k + 1) =
      ap (component_at xs) (let e : 4 * k + 3 ≡ opposite (4 * k + 1) = omega arith in e) ∙ component_opposite xs diagram (4 * k + 1) (omega (arith, l)) in
      value_of (into (4 * k)) (into (4 * k + 3))
      ∙ (ap₂ (λ x y. x *ℤ y) (one_into (4 * k) (component_at xs (4 * k)) (omega (arith, l)) refl) (one_into (4 * k + 3) (component_at xs (4 * k + 1)) l over)
      ∙ (rearranged (one (enters xs (4 * k))) (factor (component_at xs (4 * k))) (one (enters xs (4 * k + 3))) (factor (component_at xs (4 * k + 1)))
      ∙ ap (λ z. (factor (component_at xs (4 * k)) *ℤ factor (component_at xs (4 * k + 1))) *ℤ z) (sym (value_of (enters xs (4 * k)) (enters xs (4 * k + 3))))))

-- ---- one crossing more in a sum
abbrev once : Bool → ℕ
once b = cond b 1 0

abbrev pub value_if : Bool → Sign → ℤ
value_if b g = cond b (sign_value g) (pos 0)

one_more : (b : Bool) (g : Sign) (p m q n : ℕ) → q ≡ once (b && is_plus g) + p → n ≡ once (b && not (is_plus g)) + m → pos q -ℤ pos n ≡ value_if b g +ℤ (pos p -ℤ pos m)
one_more true signs.Plus p m q n e f = omega (arith, ints, e, f)
one_more true signs.Minus p m q n e f = omega (arith, ints, e, f)
one_more false signs.Plus p m q n e f = omega (arith, ints, e, f)
one_more false signs.Minus p m q n e f = omega (arith, ints, e, f)

-- a crossing more in a list counts its sign if it is between the two components
pub between_cons : (a b : ℕ) (c : Signed) (cs : List Signed) → signs_between a b (c ∷ cs) ≡ value_if (is_between a b c) c.sign +ℤ signs_between a b cs
between_cons a b c cs =
    let plus : Signed → Bool = λ s. is_between a b s && is_plus s.sign in
    let minus : Signed → Bool = λ s. is_between a b s && not (is_plus s.sign) in
    one_more (is_between a b c) c.sign (count_by plus cs) (count_by minus cs) (count_by plus (c ∷ cs)) (count_by minus (c ∷ cs)) (sum_by-cons (λ s. once (plus s)) c cs) (sum_by-cons (λ s. once (minus s)) c cs)

swapped : (x y : ℤ) → x *ℤ y ≡ y *ℤ x
swapped x y = by_ring (x ∷ y ∷ []) (search reads depth 30) (search reads depth 30) refl

spread : (s x y : ℤ) → s *ℤ x +ℤ s *ℤ y ≡ s *ℤ (x +ℤ y)
spread s x y = by_ring (s ∷ x ∷ y ∷ []) (search reads depth 30) (search reads depth 30) refl

regrouped : (s t z : ℤ) → (s *ℤ t) *ℤ z ≡ s *ℤ (t *ℤ z)
regrouped s t z = by_ring (s ∷ t ∷ z ∷ []) (search reads depth 30) (search reads depth 30) refl

nothing_times : (s : ℤ) → pos 0 ≡ s *ℤ pos 0
nothing_times s = omega (arith, ints)

-- a crossing between i and j has the factors of i and j
module _ (F : ℕ → ℤ) (i j : ℕ) where
  both_factors : (u o : ℕ) → ((u == i && o == j) || (u == j && o == i)) ≡ true → F u *ℤ F o ≡ F i *ℤ F j
  both_factors u o h = told (cases_Bool (u == i)) (cases_Bool (o == j)) (cases_Bool (u == j)) (cases_Bool (o == i)) where
    same : (a b : ℕ) → (a == b) ≡ true → F a ≡ F b
    same a b e = ap F (eqb-true a b e)

    told : ((u == i) ≡ true ⊎ (u == i) ≡ false) → ((o == j) ≡ true ⊎ (o == j) ≡ false) → ((u == j) ≡ true ⊎ (u == j) ≡ false) → ((o == i) ≡ true ⊎ (o == i) ≡ false) → F u *ℤ F o ≡ F i *ℤ F j
    told (inl a) (inl b) c d = ap₂ (λ x y. x *ℤ y) (same u i a) (same o j b)
    told (inl a) (inr b) (inl c) (inl d) = ap₂ (λ x y. x *ℤ y) (same u j c) (same o i d) ∙ swapped (F j) (F i)
    told (inl a) (inr b) (inl c) (inr d) = absurd (let no : false ≡ true = rw (a, b, c, d) at h in grind (arith, no))
    told (inl a) (inr b) (inr c) d = absurd (let no : false ≡ true = rw (a, b, c) at h in grind (arith, no))
    told (inr a) b (inl c) (inl d) = ap₂ (λ x y. x *ℤ y) (same u j c) (same o i d) ∙ swapped (F j) (F i)
    told (inr a) b (inl c) (inr d) = absurd (let no : false ≡ true = rw (a, c, d) at h in grind (arith, no))
    told (inr a) b (inr c) d = absurd (let no : false ≡ true = rw (a, c) at h in grind (arith, no))

  one_term : (b : Bool) (u o : ℕ) (z w : ℤ) → (b ≡ true → F u *ℤ F o ≡ F i *ℤ F j) → z ≡ (F u *ℤ F o) *ℤ w → cond b z (pos 0) ≡ (F i *ℤ F j) *ℤ cond b w (pos 0)
  one_term true u o z w h e = e ∙ ap (λ f. f *ℤ w) (h refl)
  one_term false u o z w h e = nothing_times (F i *ℤ F j)

module _ (xs : List Item) (diagram : IsDiagram xs) (into : ℕ → Bool) (direction : IsDirection (crossings_of xs) into) (i j : ℕ) where
  abbrev F : ℕ → ℤ
  F c = orientation xs into c

  sums_from : (k n : ℕ) → k + n ≡ length (crossings_of xs) →
      signs_between i j (map (signed_by xs into) (range_with_len k n)) ≡ (F i *ℤ F j) *ℤ signs_between i j (map (signed_at xs) (range_with_len k n))
  sums_from k zero e = nothing_times (F i *ℤ F j)
  sums_from k (suc n) e =
      let four = places_four xs diagram.sizes in
      let s = signed_at xs k in
      let t = signed_by xs into k in
      let rest = map (signed_at xs) (range_with_len (k + 1) n) in
      let rest_by = map (signed_by xs into) (range_with_len (k + 1) n) in
      between_cons i j t rest_by
      ∙ (ap₂ (λ x y. x +ℤ y)
      (one_term F i j (is_between i j s) s.under s.over (sign_value t.sign) (sign_value s.sign) (both_factors F i j s.under s.over) (sign_is xs diagram into direction k (omega (arith, e, four))))
      (sums_from (k + 1) n (omega (arith, e)))
      ∙ (spread (F i *ℤ F j) (value_if (is_between i j s) s.sign) (signs_between i j rest)
      ∙ ap (λ z. (F i *ℤ F j) *ℤ z) (sym (between_cons i j s rest))))

  sum_is : sign_sum_by xs into i j ≡ F i *ℤ (F j *ℤ sign_sum xs i j)
  unfolding signed_crossings
  sum_is = sums_from 0 (length (crossings_of xs)) (let e : 0 + length (crossings_of xs) ≡ length (crossings_of xs) = omega arith in e) ∙ regrouped (F i) (F j) (sign_sum xs i j)

twice : (b : Bool) (z : ℤ) → cond b (pos 1) (negsuc 0) *ℤ (cond b (pos 1) (negsuc 0) *ℤ z) ≡ z
twice true z = omega (arith, ints)
twice false z = omega (arith, ints)

-- THE SUMS OF SIGNS UNDER ANY DIRECTION
pub signs_by_direction : SignsByDirection
signs_by_direction xs into diagram direction = record {
  between = sum_is xs diagram into direction;
  writhes = λ i. sum_is xs diagram into direction i i ∙ twice (agrees xs into i) (writhe xs i);
}
