-- Orders whose places are chosen one by one: one more place, and the one order that a function of the view gives.
use Rattle.std.proofs.Common.{◌≡◌, ℕ, zero, suc, ◌+◌, ◌<◌, ◌≤◌, ⊎_elim, ◌⊎◌, List, [], ◌∷◌, ◌++◌, length, take, slice_index, refl, sym, ap, subst, ◌∙◌, arith}
use Rattle.std.specs.List.{fold, range_with_len}
use Rattle.std.proofs.lemmas.List.{get_or_append_left, get_or_push, length_push, take-append-le, take_all, take_at, take_more}
use Rattle.state_sums.specs.Networks.{Network}
use Rattle.frontier_laws.specs.Orders.{View, view_after, order_by, IsChosen}

-- The empty order is chosen.
pub IsChosen-none : (answers : View → ℕ → Type 0) (network : Network) → IsChosen answers network []
IsChosen-none answers network k l = absurd (omega (arith, l))

last_or_before : (k n whole : ℕ) → whole ≡ n + 1 → k < whole → (k < n) ⊎ (k ≡ n)
last_or_before k n whole e l = grind (arith, e, l)

-- One more answer.
pub IsChosen-more : (answers : View → ℕ → Type 0) (network : Network) (order : List ℕ) (place : ℕ) → IsChosen answers network order → answers (view_after network order) place →
    IsChosen answers network (order ++ place ∷ [])
IsChosen-more answers network order place h next k l =
    ⊎_elim
    (λ (before : k < length order).
    let front : take k order ≡ take k (order ++ place ∷ []) = sym (take-append-le k order (place ∷ []) (omega (arith, before))) in
    let same : slice_index order k ≡ slice_index (order ++ place ∷ []) k = sym (get_or_append_left order (place ∷ []) 0 k before) in
    let P : List ℕ → Type 0 = λ xs. answers (view_after network xs) (slice_index order k) in
    let Q : ℕ → Type 0 = λ one. answers (view_after network (take k (order ++ place ∷ []))) one in
    subst Q same (subst P front (h k before)))
    (λ (last : k ≡ length order).
    let front : order ≡ take k (order ++ place ∷ []) = sym (take_at order (place ∷ []) k (sym last)) in
    let same : place ≡ slice_index (order ++ place ∷ []) k = sym (get_or_push order place 0 k (sym last)) in
    let P : List ℕ → Type 0 = λ xs. answers (view_after network xs) place in
    let Q : ℕ → Type 0 = λ one. answers (view_after network (take k (order ++ place ∷ []))) one in
    subst Q same (subst P front next))
    (last_or_before k (length order) (length (order ++ place ∷ [])) (length_push order place) l)

-- ---- where a function of the view tells the next place
fold_steps : {A : Type 0} (step : A → ℕ → A) (start : A) (a n : ℕ) → fold step start (range_with_len a (suc n)) ≡ step (fold step start (range_with_len a n)) (a + n)
fold_steps step start a zero = ap (step start) (let e : a ≡ a + 0 = omega arith in e)
fold_steps step start a (suc n) = fold_steps step (step start a) (a + 1) n ∙ ap (step (fold step (step start a) (range_with_len (a + 1) n))) (let e : (a + 1) + n ≡ a + suc n = omega arith in e)

module _ (next : View → ℕ) (network : Network) where
  -- One more step takes the next place of the view.
  pub order_by_more : (steps : ℕ) → order_by next network (suc steps) ≡ order_by next network steps ++ next (view_after network (order_by next network steps)) ∷ []
  order_by_more steps = fold_steps (λ order step. order ++ next (view_after network order) ∷ []) [] 0 steps

  -- Each step takes one place.
  pub length-order_by : (steps : ℕ) → length (order_by next network steps) ≡ steps
  length-order_by zero = refl
  length-order_by (suc steps) =
      let ih = length-order_by steps in
      let a = ap length (order_by_more steps) in
      let b = length_push (order_by next network steps) (next (view_after network (order_by next network steps))) in
      omega (arith, ih, a, b)

  -- The places that a function of the view takes are chosen by it.
  pub IsChosen-order_by : (steps : ℕ) → IsChosen (λ view place. place ≡ next view) network (order_by next network steps)
  IsChosen-order_by zero = IsChosen-none (λ view place. place ≡ next view) network
  IsChosen-order_by (suc steps) =
      let before = order_by next network steps in
      subst (IsChosen (λ view place. place ≡ next view) network) (sym (order_by_more steps))
      (IsChosen-more (λ view place. place ≡ next view) network before (next (view_after network before)) (IsChosen-order_by steps) refl)

  module _ (order : List ℕ) (h : IsChosen (λ view place. place ≡ next view) network order) where
    front_only : (k : ℕ) → k ≤ length order → take k order ≡ order_by next network k
    front_only zero l = refl
    front_only (suc k) l =
        let before = front_only k (omega (arith, l)) in
        let one = h k (omega (arith, l)) in
        let e : suc k ≡ k + 1 = omega arith in
        ap (λ n. take n order) e
        ∙ take_more order k 0 (omega (arith, l))
        ∙ ap (λ place. take k order ++ place ∷ []) one
        ∙ ap (λ front. front ++ next (view_after network front) ∷ []) before
        ∙ sym (order_by_more k)

    -- NO OTHER ORDER IS CHOSEN BY IT
    pub IsChosen-only : order ≡ order_by next network (length order)
    IsChosen-only = sym (take_all (length order) order (omega arith)) ∙ front_only (length order) (omega arith)
