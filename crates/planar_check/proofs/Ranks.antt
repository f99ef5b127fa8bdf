-- Ranks in a strictly increasing list of names: a name's rank is its index, ranks are in the order of the
-- names, and so the least names of parts are told by the least ranks.
use Rattle.std.proofs.Common.{◌≡◌, ◌≢◌, ℕ, ◌+◌, ◌<◌, ◌≤◌, ◌==◌, ◌||◌, Bool, true, false, cond, min, nat_lt, List, [], ◌∷◌, length, map, get_or, slice_index, Result, Ok, Err, MatchResult, leb, count_by, zero, suc, inl, inr, refl, sym, subst, ap, ap₂, ◌∙◌, arith, ⊎_elim, fold, le-leb}
use Rattle.std.specs.List.Sorted.{IsStrictlySortedBy, IsBinarySearchResult}
use Rattle.std.specs.Ordering.{nat_cmp}
use Rattle.std.specs.Set.{is_member}
use Rattle.std.proofs.lemmas.Bool.{cases_Bool, cases_order, eq-eqb, eqb-true, eqb-false, ne_eqb, lt-ltb, lt-leb}
use Rattle.std.proofs.lemmas.Bool.Decides.{Decides-eqb}
use Rattle.std.proofs.lemmas.Grind.{get_or_default_zero}
use Rattle.std.proofs.lemmas.List.Sums.{position_or_len_is, sum_by-cons}
use Rattle.std.proofs.lemmas.Map.Keys.{below_from_sorted, non_decreasing_from_sorted}
use Rattle.std.proofs.lemmas.List.Sorted.{searched}
use Rattle.std.proofs.lemmas.Map.Made.{is_member-Decides}
use Rattle.graph_parts.specs.Ends.{EndsAre}
use Rattle.graph_parts.specs.LeastNames.{least_label, join_least}
use Rattle.graph_parts.specs.Renaming.{renamed}
use Rattle.planar_check.specs.Components.{rank}
use Rattle.planar_check.proofs.FewComponents.{join_inside}

module _ (names : List ℕ) (sorted : IsStrictlySortedBy nat_cmp names) where
  abbrev inside : ℕ → Bool
  inside x = is_member ◌==◌ names x

  pub rank_at : (k : ℕ) → k < length names → rank names (slice_index names k) ≡ k
  rank_at k l =
      position_or_len_is (λ name. name == slice_index names k) names k 0 (omega (arith, l))
      (λ j h. ne_eqb (slice_index names j) (slice_index names k) (let below = below_from_sorted names j k 0 sorted h l in λ e. absurd (omega (arith, e, below))))
      (λ h. eq-eqb (slice_index names k) (slice_index names k) refl)

  pub at_rank : (x : ℕ) → inside x ≡ true → (rank names x < length names) × (slice_index names (rank names x) ≡ x)
  at_rank x m =
      let place = (is_member-Decides Decides-eqb names x).0 m in
      let there : slice_index names place.0 ≡ x = sym (get_or_default_zero names place.0 x place.1) ∙ place.2 in
      let same : rank names x ≡ place.0 = ap (rank names) (sym there) ∙ rank_at place.0 place.1 in
      (subst (λ k. k < length names) (sym same) place.1, ap (slice_index names) same ∙ there)

  -- what a name that is not there has as its rank
  pub rank_absent : (x : ℕ) → ((k : ℕ) → k < length names → slice_index names k ≢ x) → rank names x ≡ length names
  rank_absent x none =
      position_or_len_is (λ name. name == x) names (length names) 0 (omega arith)
      (λ j h. ne_eqb (slice_index names j) x (none j h))
      (λ h. absurd (omega (arith, h)))

  -- what a search finds
  pub rank_found : (x : ℕ) (found : Result ℕ ℕ) → IsBinarySearchResult (λ y. nat_cmp y x) names found → MatchResult found (λ k. k ≡ rank names x) (λ k. length names ≡ rank names x)
  rank_found x found is = told found (searched names x found is (λ i j h l. non_decreasing_from_sorted names sorted i j 0 h l)) where
    told : (r : Result ℕ ℕ) → MatchResult r (λ i. (i < length names) × (get_or names i 0 ≡ x)) (λ i. (i ≤ length names) × ((k : ℕ) → k < i → get_or names k 0 < x) × ((k : ℕ) → i ≤ k → k < length names → x < get_or names k 0))
        → MatchResult r (λ k. k ≡ rank names x) (λ k. length names ≡ rank names x)
    told (Ok i) h = sym (ap (rank names) (sym h.1) ∙ rank_at i h.0)
    told (Err i) h =
        sym (rank_absent x (λ k l e. ⊎_elim
        (λ s. let up = h.2 k (omega (arith, s)) l in omega (arith, up, e))
        (λ o. ⊎_elim (λ s. let down = h.1 k s in omega (arith, down, e)) (λ s. let up = h.2 k (omega (arith, s)) l in omega (arith, up, e)) o)
        (cases_order k i)))

  rank_less : (x y : ℕ) → inside x ≡ true → inside y ≡ true → x < y → rank names x < rank names y
  rank_less x y m k l =
      let a = at_rank x m in
      let b = at_rank y k in
      ⊎_elim
      (λ e. absurd (let same : x ≡ y = sym a.1 ∙ (ap (slice_index names) e ∙ b.1) in omega (arith, same, l)))
      (λ o. ⊎_elim (λ h. h) (λ h. absurd (let below = below_from_sorted names (rank names y) (rank names x) 0 sorted h a.0 in omega (arith, below, a.1, b.1, l))) o)
      (cases_order (rank names x) (rank names y))

  rank_same : (x y : ℕ) → inside x ≡ true → inside y ≡ true → (rank names x == rank names y) ≡ (x == y)
  rank_same x y m k =
      elim (cases_Bool (x == y)) [
        | inl e ↦ eq-eqb (rank names x) (rank names y) (ap (rank names) (eqb-true x y e)) ∙ sym e
        | inr e ↦ ne_eqb (rank names x) (rank names y) (λ s. eqb-false x y e (sym (at_rank x m).1 ∙ (ap (slice_index names) s ∙ (at_rank y k).1))) ∙ sym e
      ]

  rank_min : (x y : ℕ) → inside x ≡ true → inside y ≡ true → min (rank names x) (rank names y) ≡ rank names (min x y)
  rank_min x y m k =
      ⊎_elim
      (λ e. let same : min x y ≡ x = omega (arith, e) in let ranks = ap (rank names) e in let least : min (rank names x) (rank names y) ≡ rank names x = omega (arith, ranks) in least ∙ ap (rank names) (sym same))
      (λ o. ⊎_elim
      (λ l. let below = rank_less x y m k l in let same : min x y ≡ x = omega (arith, l) in let least : min (rank names x) (rank names y) ≡ rank names x = omega (arith, below) in least ∙ ap (rank names) (sym same))
      (λ l. let below = rank_less y x k m l in let same : min x y ≡ y = omega (arith, l) in let least : min (rank names x) (rank names y) ≡ rank names y = omega (arith, below) in least ∙ ap (rank names) (sym same))
      o)
      (cases_order x y)

  rank_either : (b : Bool) (x y : ℕ) → cond b (rank names x) (rank names y) ≡ rank names (cond b x y)
  rank_either true x y = refl
  rank_either false x y = refl

  -- the labels of ranks are the ranks of labels
  record AreRanked (label ranked : ℕ → ℕ) : Type 0 where
    kept : (x : ℕ) → inside x ≡ true → inside (label x) ≡ true
    same : (x : ℕ) → inside x ≡ true → ranked (rank names x) ≡ rank names (label x)

  ranked_join : (l r : ℕ → ℕ) (e : ℕ × ℕ) → inside e.0 ≡ true → inside e.1 ≡ true → AreRanked l r → AreRanked (join_least l e) (join_least r (renamed (rank names) e))
  ranked_join l r e p q h = record {
    kept = join_inside inside l e h.kept p q;
    same = λ x m.
        let a = l e.0 in let b = l e.1 in let z = l x in
        let ia = h.kept e.0 p in let ib = h.kept e.1 q in let iz = h.kept x m in
        let left : join_least r (renamed (rank names) e) (rank names x) ≡ cond (rank names z == rank names a || rank names z == rank names b) (min (rank names a) (rank names b)) (rank names z) =
        ap₂ (λ (u v : ℕ). cond (r (rank names x) == u || r (rank names x) == v) (min u v) (r (rank names x))) (h.same e.0 p) (h.same e.1 q)
        ∙ ap (λ (w : ℕ). cond (w == rank names a || w == rank names b) (min (rank names a) (rank names b)) w) (h.same x m) in
        left
        ∙ (ap₂ (λ (u v : Bool). cond (u || v) (min (rank names a) (rank names b)) (rank names z)) (rank_same z a iz ia) (rank_same z b iz ib)
        ∙ (ap (λ (u : ℕ). cond (z == a || z == b) u (rank names z)) (rank_min a b ia ib) ∙ rank_either (z == a || z == b) (min a b) z));
  }

  ranked_after : (l r : ℕ → ℕ) (es : List (ℕ × ℕ)) → EndsAre inside es → AreRanked l r → AreRanked (fold join_least l es) (fold join_least r (map (renamed (rank names)) es))
  ranked_after l r [] ends h = h
  ranked_after l r (e ∷ es) ends h = ranked_after (join_least l e) (join_least r (renamed (rank names) e)) es ends.2 (ranked_join l r e ends.0 ends.1 h)

  -- THE LEAST RANK OF A PART IS THE RANK OF ITS LEAST NAME
  pub least_by_rank : (es : List (ℕ × ℕ)) → EndsAre inside es → (x : ℕ) → inside x ≡ true → least_label (map (renamed (rank names)) es) (rank names x) ≡ rank names (least_label es x)
  least_by_rank es ends x m = (ranked_after (λ y. y) (λ y. y) es ends record { kept = λ y k. k; same = λ y k. refl }).same x m

  pub least_inside : (es : List (ℕ × ℕ)) → EndsAre inside es → (x : ℕ) → inside x ≡ true → inside (least_label es x) ≡ true
  least_inside es ends x m = (ranked_after (λ y. y) (λ y. y) es ends record { kept = λ y k. k; same = λ y k. refl }).kept x m

  pub ranks_below : (es : List (ℕ × ℕ)) → EndsAre inside es → EndsAre (λ k. nat_lt k (length names)) (map (renamed (rank names)) es)
  ranks_below [] ends = tt
  ranks_below (e ∷ es) ends = (lt-ltb _ _ (at_rank e.0 ends.0).0, lt-ltb _ _ (at_rank e.1 ends.1).0, ranks_below es ends.2)

-- ---- how many numbers of an increasing list are at most a number
abbrev once : Bool → ℕ
once b = cond b 1 0

count_split : (p : ℕ → Bool) (xs : List ℕ) (i : ℕ) → i ≤ length xs → ((k : ℕ) → k < i → p (slice_index xs k) ≡ true) → ((k : ℕ) → i ≤ k → k < length xs → p (slice_index xs k) ≡ false) → i ≡ count_by p xs
count_split p [] i l before behind = omega (arith, l)
count_split p (x ∷ xs) zero l before behind =
    let more = sum_by-cons (λ (y : ℕ). once (p y)) x xs in
    let none : once (p x) ≡ 0 = ap once (behind 0 (omega arith) (omega arith)) in
    omega (arith, more, none, count_split p xs 0 (omega arith) (λ k h. absurd (omega (arith, h))) (λ k g h. behind (suc k) (omega arith) (omega (arith, h))))
count_split p (x ∷ xs) (suc i) l before behind =
    let more = sum_by-cons (λ (y : ℕ). once (p y)) x xs in
    let one : once (p x) ≡ 1 = ap once (before 0 (omega arith)) in
    omega (arith, more, one, count_split p xs i (omega (arith, l)) (λ k h. before (suc k) (omega (arith, h))) (λ k g h. behind (suc k) (omega (arith, g)) (omega (arith, h))))

-- the numbers up to an element are as many as its index tells
pub count_at : (numbers : List ℕ) (most i : ℕ) → IsStrictlySortedBy nat_cmp numbers → i < length numbers → get_or numbers i 0 ≡ most → i + 1 ≡ count_by (λ number. leb number most) numbers
count_at numbers most i sorted within is =
    count_split (λ number. leb number most) numbers (i + 1) (omega (arith, within))
    (λ k l. le-leb (get_or numbers k 0) most (⊎_elim
    (λ s. let same = ap (λ m. get_or numbers m 0) s in omega (arith, same, is))
    (λ o. ⊎_elim (λ s. let below = below_from_sorted numbers k i 0 sorted s within in omega (arith, below, is)) (λ s. absurd (omega (arith, s, l))) o)
    (cases_order k i)))
    (λ k g l. lt-leb (get_or numbers k 0) most (let above = below_from_sorted numbers i k 0 sorted (omega (arith, g)) l in omega (arith, above, is)))

pub count_found : (numbers : List ℕ) (most : ℕ) (found : Result ℕ ℕ) → IsStrictlySortedBy nat_cmp numbers → IsBinarySearchResult (λ y. nat_cmp y most) numbers found →
    MatchResult found (λ last. last + 1 ≡ count_by (λ number. leb number most) numbers) (λ next. next ≡ count_by (λ number. leb number most) numbers)
count_found numbers most found sorted is = told found (searched numbers most found is (λ i j h l. non_decreasing_from_sorted numbers sorted i j 0 h l)) where
  told : (r : Result ℕ ℕ) → MatchResult r (λ i. (i < length numbers) × (get_or numbers i 0 ≡ most)) (λ i. (i ≤ length numbers) × ((k : ℕ) → k < i → get_or numbers k 0 < most) × ((k : ℕ) → i ≤ k → k < length numbers → most < get_or numbers k 0))
      → MatchResult r (λ last. last + 1 ≡ count_by (λ number. leb number most) numbers) (λ next. next ≡ count_by (λ number. leb number most) numbers)
  told (Ok i) h = count_at numbers most i sorted h.0 h.1
  told (Err i) h =
      count_split (λ number. leb number most) numbers i h.0
      (λ k l. le-leb (get_or numbers k 0) most (let below = h.1 k l in omega (arith, below)))
      (λ k g l. lt-leb (get_or numbers k 0) most (h.2 k g l))
