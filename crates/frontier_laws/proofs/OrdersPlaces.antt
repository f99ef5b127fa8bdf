-- Places of nodes, taken one by one: which are taken and which are left.
use Rattle.std.proofs.Common.{◌≡◌, ℕ, zero, suc, ◌+◌, ◌<◌, ◌≤◌, ◌==◌, nat_lt, Bool, true, false, cond, not, ◌&&◌, ⊎_elim, List, [], ◌∷◌, ◌++◌, length, slice_index, refl, sym, ap, subst, ◌∙◌, arith, length-append}
use Rattle.std.specs.List.{All, AllPairs, filter, range_with_len, remove}
use Rattle.std.specs.List.Sorted.{IsStrictlyIncreasing, IsPermutation}
use Rattle.std.specs.Set.{is_member}
use Rattle.std.proofs.lemmas.Bool.{cases_Bool}
use Rattle.std.proofs.lemmas.Bool.Decides.{nat_tests}
use Rattle.std.proofs.lemmas.List.Elements.{All-nil, All-push, All-get_or, All-filter, All-from_get_or}
use Rattle.std.proofs.lemmas.List.FromFn.{length-range_with_len, get_or-range_with_len}
use Rattle.std.proofs.lemmas.List.Kept.{AllPairs-from_increasing, IsStrictlyIncreasing-filter}
use Rattle.std.proofs.lemmas.List.Sorted.{length_permutation}
use Rattle.graph_parts.proofs.Distinct.{is_member-append}
use Rattle.graph_parts.proofs.Numbered.{is_member-numbered, numbered-member}
use Rattle.list_lemmas.specs.Times.{times_in}
use Rattle.list_lemmas.proofs.Times.{times_of_member, member_of_times, times_in-append, times_in-cons, times_in-filter}
use Rattle.list_lemmas.proofs.Items.{member_at}
use Rattle.arc_gluing.proofs.Seamed.{range_times}
use Rattle.frontier_laws.specs.Orders.{left_after, IsPartOrder}
use Rattle.list_lemmas.proofs.Permuted.{permuted_times}

-- At first no place is taken.
pub IsPartOrder-none : (count : ℕ) → IsPartOrder count []
IsPartOrder-none count = record { below = All-nil (λ place. place < count); once = λ place. omega arith }

-- ---- how often a place stands in the order, and among those left
times_range : (count place : ℕ) → times_in (range_with_len 0 count) place ≡ cond (nat_lt place count) 1 0
times_range count place =
    let few = (range_times 0 count place).0 in
    let some : place < count → 1 ≤ times_in (range_with_len 0 count) place = λ l. times_of_member place (range_with_len 0 count) (is_member-numbered count place l) in
    let only : 1 ≤ times_in (range_with_len 0 count) place → place < count = λ l. numbered-member count place (member_of_times place (range_with_len 0 count) l) in
    grind (arith, nat_tests, few, some, only)

times_left : (count : ℕ) (order : List ℕ) (place : ℕ) → times_in (left_after count order) place ≡ cond (not (is_member ◌==◌ order place)) (cond (nat_lt place count) 1 0) 0
times_left count order place =
    times_in-filter (λ other. not (is_member ◌==◌ order other)) (range_with_len 0 count) place
    ∙ ap (λ times. cond (not (is_member ◌==◌ order place)) times 0) (times_range count place)

-- A place that is left is below count, and not in the order.
pub left_below : (count : ℕ) (order : List ℕ) (place : ℕ) → is_member ◌==◌ (left_after count order) place ≡ true → (place < count) × (is_member ◌==◌ order place ≡ false)
left_below count order place m =
    let some = times_of_member place (left_after count order) m in
    let e = times_left count order place in
    (grind (arith, nat_tests, some, e), grind (arith, nat_tests, some, e))

-- And such a place is left.
pub below_left : (count : ℕ) (order : List ℕ) (place : ℕ) → place < count → is_member ◌==◌ order place ≡ false → is_member ◌==◌ (left_after count order) place ≡ true
below_left count order place small absent =
    let e = times_left count order place in
    let only = member_of_times place (left_after count order) in
    grind (arith, nat_tests, small, absent, e, only)

-- A place that is left may be taken next.
pub IsPartOrder-more : (count : ℕ) (order : List ℕ) (place : ℕ) → IsPartOrder count order → is_member ◌==◌ (left_after count order) place ≡ true → IsPartOrder count (order ++ place ∷ [])
IsPartOrder-more count order place h m =
    let left = left_below count order place m in
    record {
      below = All-push (λ other. other < count) order place h.below left.0;
      once = λ other.
          let a = times_in-append order (place ∷ []) other in
          let b = times_in-cons place [] other in
          let few = h.once other in
          let none : other ≡ place → times_in order other ≡ 0 = (λ same.
          let only = member_of_times other order in
          let absent : is_member ◌==◌ order other ≡ false = ap (is_member ◌==◌ order) same ∙ left.1 in
          grind (arith, nat_tests, only, absent)) in
          grind (arith, nat_tests, a, b, few, none);
    }

-- ---- the places left
-- At first all places are left.
pub left_none : (count : ℕ) → left_after count [] ≡ range_with_len 0 count
left_none count = keeps_all (range_with_len 0 count)
  where
    keeps_all : (places : List ℕ) → filter (λ place. not (is_member ◌==◌ [] place)) places ≡ places
    keeps_all [] = refl
    keeps_all (place ∷ places) = ap (λ rest. place ∷ rest) (keeps_all places)

-- They are increasing.
pub left_increasing : (count : ℕ) (order : List ℕ) → IsStrictlyIncreasing (left_after count order)
left_increasing count order =
    IsStrictlyIncreasing-filter (λ place. not (is_member ◌==◌ order place)) (range_with_len 0 count) (λ k l.
    let long = length-range_with_len 0 count in
    let a = get_or-range_with_len 0 count k 0 (omega (arith, long, l)) in
    let b = get_or-range_with_len 0 count (k + 1) 0 (omega (arith, long, l)) in
    omega (arith, a, b))

-- Each is below count.
pub left_all_below : (count : ℕ) (order : List ℕ) → All (λ place. place < count) (left_after count order)
left_all_below count order =
    All-filter (λ place. not (is_member ◌==◌ order place)) (λ place. place < count) (range_with_len 0 count)
    (All-from_get_or (λ place. place < count) (range_with_len 0 count) 0 (λ k l.
    let long = length-range_with_len 0 count in
    let a = get_or-range_with_len 0 count k 0 (omega (arith, long, l)) in
    omega (arith, long, a, l)))

-- Two tests, one after the other.
filter_twice : (first second both : ℕ → Bool) (xs : List ℕ) → ((x : ℕ) → both x ≡ (second x && first x)) → filter both xs ≡ filter second (filter first xs)
filter_twice first second both [] same = refl
filter_twice first second both (x ∷ xs) same =
    let ih = filter_twice first second both xs same in
    let here = same x in
    let kept = filter first xs in
    let left : (b : Bool) → both x ≡ b → filter both (x ∷ xs) ≡ cond b (x ∷ filter both xs) (filter both xs) = λ b e. ap (λ c. cond c (x ∷ filter both xs) (filter both xs)) e in
    let middle : (b : Bool) → first x ≡ b → filter second (filter first (x ∷ xs)) ≡ filter second (cond b (x ∷ kept) kept) = λ b e. ap (λ c. filter second (cond c (x ∷ kept) kept)) e in
    let right : (b : Bool) → second x ≡ b → filter second (x ∷ kept) ≡ cond b (x ∷ filter second kept) (filter second kept) = λ b e. ap (λ c. cond c (x ∷ filter second kept) (filter second kept)) e in
    ⊎_elim
    (λ t. ⊎_elim
    (λ s. left true (grind (arith, here, t, s)) ∙ ap (λ rest. x ∷ rest) ih ∙ sym (middle true t ∙ right true s))
    (λ s. left false (grind (arith, here, t, s)) ∙ ih ∙ sym (middle true t ∙ right false s))
    (cases_Bool (second x)))
    (λ t. left false (grind (arith, here, t)) ∙ ih ∙ sym (middle false t))
    (cases_Bool (first x))

keeps_others : (place : ℕ) (xs : List ℕ) → All (λ x. place < x) xs → filter (λ x. not (x == place)) xs ≡ xs
keeps_others place [] above = refl
keeps_others place (x ∷ xs) above =
    let here : place < x = above 0 0 (omega arith) in
    let kept : not (x == place) ≡ true = grind (arith, nat_tests, here) in
    rw kept (ap (λ rest. x ∷ rest) (keeps_others place xs (λ k d l. above (suc k) d (omega (arith, l)))))

-- Of an increasing list, all but the number at one place.
without_one : (xs : List ℕ) (at place : ℕ) → AllPairs (λ x y. x < y) xs → at < length xs → slice_index xs at ≡ place → filter (λ x. not (x == place)) xs ≡ remove xs at
without_one [] at place up l e = absurd (omega (arith, l))
without_one (x ∷ xs) zero place up l e =
    let gone : not (x == place) ≡ false = grind (arith, nat_tests, e) in
    rw gone (keeps_others place xs (λ k d m. let above = up 0 (suc k) d (omega arith) (omega (arith, m)) in omega (arith, above, e)))
without_one (x ∷ xs) (suc at) place up l e =
    let less = up 0 (suc at) 0 (omega arith) l in
    let kept : not (x == place) ≡ true = grind (arith, nat_tests, e, less) in
    rw kept (ap (λ rest. x ∷ rest) (without_one xs at place (λ i j d m k. up (suc i) (suc j) d (omega (arith, m)) (omega (arith, k))) (omega (arith, l)) e))

-- Where one more place is taken, it is removed from those left.
pub left_more : (count : ℕ) (order : List ℕ) (place at : ℕ) → at < length (left_after count order) → slice_index (left_after count order) at ≡ place →
    left_after count (order ++ place ∷ []) ≡ remove (left_after count order) at
left_more count order place at l e =
    filter_twice (λ other. not (is_member ◌==◌ order other)) (λ other. not (other == place)) (λ other. not (is_member ◌==◌ (order ++ place ∷ []) other)) (range_with_len 0 count)
    (λ other. let a = is_member-append order (place ∷ []) other in grind (arith, nat_tests, a))
    ∙ without_one (left_after count order) at place (AllPairs-from_increasing (left_after count order) (left_increasing count order)) l e

-- ---- all places: those of the order and those left
module _ (count : ℕ) (order : List ℕ) (h : IsPartOrder count order) where
  -- a place of the order stands there once, and is below count
  times_order : (place : ℕ) → times_in order place ≡ cond (is_member ◌==◌ order place) 1 0
  times_order place =
      let some = times_of_member place order in let only = member_of_times place order in let few = h.once place in
      grind (arith, nat_tests, some, only, few)

  order_below : (place : ℕ) → is_member ◌==◌ order place ≡ true → place < count
  order_below place m =
      let at = member_at order place m in
      subst (λ other. other < count) at.2 (All-get_or (λ other. other < count) order at.0 0 at.1 h.below)

  -- THE PLACES OF THE ORDER AND THOSE LEFT ARE ALL PLACES
  pub order_and_left : IsPermutation (range_with_len 0 count) (order ++ left_after count order)
  order_and_left =
      permuted_times (order ++ left_after count order) (range_with_len 0 count) (λ place.
      let a = times_in-append order (left_after count order) place in
      let b = times_left count order place in
      let c = times_range count place in
      let d = times_order place in
      let e = order_below place in
      grind (arith, nat_tests, a, b, c, d, e))

  -- As many places are taken as are not left.
  pub order_length : length order + length (left_after count order) ≡ count
  order_length =
      let a = length_permutation (range_with_len 0 count) (order ++ left_after count order) order_and_left in
      let b = length-append order (left_after count order) in
      let c = length-range_with_len 0 count in
      omega (arith, a, b, c)

  -- THE PLACES NOT AMONG THOSE LEFT ARE THOSE OF THE ORDER, increasing
  pub taken_again : IsPermutation order (left_after count (left_after count order))
  taken_again =
      permuted_times (left_after count (left_after count order)) order (λ place.
      let a = times_left count (left_after count order) place in
      let b = times_left count order place in
      let d = times_order place in
      let e = order_below place in
      let some = times_of_member place (left_after count order) in
      let only = member_of_times place (left_after count order) in
      grind (arith, nat_tests, a, b, d, e, some, only))
