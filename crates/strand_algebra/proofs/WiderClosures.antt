-- One more straight strand closes to one more loop.
use Rattle.std.proofs.Common.{◌≡◌, ℕ, suc, ◌+◌, ◌-◌, ◌<◌, true, false, cond, ◌||◌, ◌==◌, if◌then◌else◌, List, ◌∷◌, map, slice_index, refl, sym, ap, ap₂, ◌∙◌, arith, All, ⊎_elim}
use Rattle.std.proofs.lemmas.List.Elements.{All-append, All-map, Contains-append_left, Contains-append_right}
use Rattle.std.proofs.lemmas.Bool.{cases_Bool, eqb-true, eq-eqb, or_left, or_right, or_cases}
use Rattle.std.proofs.lemmas.Bool.Decides.{nat_tests}
use Rattle.std.specs.List.{range_with_len}
use Rattle.std.specs.Set.{is_member, distinct_count}
use Rattle.graph_parts.proofs.Through.{keeps_Joined, member_label}
use Rattle.list_lemmas.proofs.Ranges.{All-range, is_member-range}
use Rattle.graph_parts.proofs.Agreement.{eqb_from_iff, to_All, label_count-agree}
use Rattle.graph_parts.proofs.Counting.{distinct_count-cons}
use Rattle.graph_parts.proofs.Renaming.{map_map}
use Rattle.graph_parts.proofs.Walks.{Joined-from_labels, labels-from_Joined}
use Rattle.graph_parts.specs.Labels.{label_of}
use Rattle.graph_parts.specs.Walks.{along}
use Rattle.strand_algebra.proofs.Contractions.{below_range, in_map, out_map, member_map}
use Rattle.strand_algebra.proofs.LabelProducts.{closed_edges, pairs, label_closed_loops, IsPairingOf}
use Rattle.strand_algebra.proofs.Stacks.{All-pairs, Contains-range, Contains-pairs}
use Rattle.strand_algebra.proofs.WiderStacks.{by_points, moved_below, wide_old, wide_new, wide_next, IsPairingOf-widened, label_count-like, less_than, moved_close, moved_low, zero_suc, suc_suc, unmoved, unmoved_moved}
use Rattle.strand_algebra.specs.StrandPairings.{moved, widened}

module _ (n : ℕ) (p : List ℕ) (hp : IsPairingOf (n + n) p) where
  pub pair_edge : (i : ℕ) → i < n + n → label_of (closed_edges n p) i ≡ label_of (closed_edges n p) (slice_index p i)
  pair_edge i b =
      labels-from_Joined (closed_edges n p)
      (along (Contains-append_left (pairs 0 p) (map (λ k. (k, n + n - 1 - k)) (range_with_len 0 n)) (i, slice_index p i)
      (Contains-pairs 0 p i (slice_index p i) (omega arith) (let s = hp.length_is in omega (arith, s)) (let z : i - 0 ≡ i = omega arith in rw z (omega arith)))))

  pub closing_edge : (i : ℕ) → i < n → label_of (closed_edges n p) i ≡ label_of (closed_edges n p) (n + n - 1 - i)
  closing_edge i b =
      labels-from_Joined (closed_edges n p)
      (along (Contains-append_right (pairs 0 p) (map (λ k. (k, n + n - 1 - k)) (range_with_len 0 n)) (i, n + n - 1 - i) (Contains-range (λ k. (k, n + n - 1 - k)) 0 n i (omega arith) (omega arith))))

abbrev mark : (ℕ → ℕ) → ℕ → ℕ → ℕ
mark l n y = if y == n || y == n + 1 then 0 else suc (l (unmoved n y))

not_new : (n i : ℕ) → (moved n i == n || moved n i == n + 1) ≡ false
not_new n i = grind (arith, nat_tests)

new_first : (n : ℕ) → (n == n || n == n + 1) ≡ true
new_first n = grind (arith, nat_tests)

new_second : (n : ℕ) → (n + 1 == n || n + 1 == n + 1) ≡ true
new_second n = grind (arith, nat_tests)

mark_old : (l : ℕ → ℕ) (n i : ℕ) → mark l n (moved n i) ≡ suc (l i)
mark_old l n i = ap₂ (λ c x. cond c 0 (suc (l x))) (not_new n i) (unmoved_moved n i)

mark_first : (l : ℕ → ℕ) (n : ℕ) → mark l n n ≡ 0
mark_first l n = ap (λ c. cond c 0 (suc (l (unmoved n n)))) (new_first n)

mark_second : (l : ℕ → ℕ) (n : ℕ) → mark l n (n + 1) ≡ 0
mark_second l n = ap (λ c. cond c 0 (suc (l (unmoved n (n + 1))))) (new_second n)

module _ (n : ℕ) (p : List ℕ) (hp : IsPairingOf (n + n) p) where
  abbrev P : List ℕ
  P = widened n p

  hP : IsPairingOf (n + 1 + (n + 1)) P
  hP = IsPairingOf-widened n p hp

  abbrev l : ℕ → ℕ
  l = label_of (closed_edges n p)

  abbrev k : ℕ → ℕ
  k = label_of (closed_edges (n + 1) P)

  kept : All (λ e. k (moved n e.0) ≡ k (moved n e.1)) (closed_edges n p)
  kept =
      All-append (λ e. k (moved n e.0) ≡ k (moved n e.1)) (pairs 0 p) (map (λ i. (i, n + n - 1 - i)) (range_with_len 0 n))
      (All-pairs (λ e. k (moved n e.0) ≡ k (moved n e.1)) 0 p (λ i h.
      let b : i < n + n = let s = hp.length_is in omega (arith, s) in
      let y : 0 + i ≡ i = omega arith in let z : 0 + slice_index p i ≡ slice_index p i = omega arith in
      ap (λ x. k (moved n x)) y ∙ pair_edge (n + 1) P hP (moved n i) (moved_below n i b) ∙ ap k (wide_old n p hp.length_is i b) ∙ sym (ap (λ x. k (moved n x)) z)))
      (All-map (λ e. k (moved n e.0) ≡ k (moved n e.1)) (λ i. (i, n + n - 1 - i)) (range_with_len 0 n) (All-range (λ i. k (moved n i) ≡ k (moved n (n + n - 1 - i))) 0 n (λ i x y.
      ap k (moved_low n i (omega arith)) ∙ closing_edge (n + 1) P hP i (omega arith) ∙ sym (ap k (moved_close n i (omega arith))))))

  marked : All (λ e. mark l n e.0 ≡ mark l n e.1) (closed_edges (n + 1) P)
  marked =
      All-append (λ e. mark l n e.0 ≡ mark l n e.1) (pairs 0 P) (map (λ i. (i, n + 1 + (n + 1) - 1 - i)) (range_with_len 0 (n + 1)))
      (All-pairs (λ e. mark l n e.0 ≡ mark l n e.1) 0 P (λ j h.
      let y : 0 + j ≡ j = omega arith in let z : 0 + slice_index P j ≡ slice_index P j = omega arith in
      ap (mark l n) y
      ∙ by_points n (λ x. mark l n x ≡ mark l n (slice_index P x))
      (mark_first l n ∙ sym (ap (mark l n) (wide_new n p hp.length_is) ∙ mark_second l n))
      (mark_second l n ∙ sym (ap (mark l n) (wide_next n p hp.length_is) ∙ mark_first l n))
      (λ i b. mark_old l n i ∙ ap suc (pair_edge n p hp i b) ∙ sym (ap (mark l n) (wide_old n p hp.length_is i b) ∙ mark_old l n (slice_index p i)))
      j (let s = hP.length_is in omega (arith, s))
      ∙ sym (ap (mark l n) z)))
      (All-map (λ e. mark l n e.0 ≡ mark l n e.1) (λ i. (i, n + 1 + (n + 1) - 1 - i)) (range_with_len 0 (n + 1)) (All-range (λ i. mark l n i ≡ mark l n (n + 1 + (n + 1) - 1 - i)) 0 (n + 1) (λ i x y.
      ⊎_elim
      (λ e. let s : i ≡ n = eqb-true i n e in let t : n + 1 + (n + 1) - 1 - n ≡ n + 1 = omega arith in
      ap (mark l n) s ∙ mark_first l n ∙ sym (ap (λ x. mark l n (n + 1 + (n + 1) - 1 - x)) s ∙ ap (mark l n) t ∙ mark_second l n))
      (λ d. let b : i < n = less_than n i d (omega arith) in
      ap (mark l n) (sym (moved_low n i b)) ∙ mark_old l n i ∙ ap suc (closing_edge n p hp i b) ∙ sym (ap (mark l n) (sym (moved_close n i b)) ∙ mark_old l n (n + n - 1 - i)))
      (cases_Bool (i == n)))))

  marks : (y z : ℕ) → k y ≡ k z → mark l n y ≡ mark l n z
  marks y z e = keeps_Joined (mark l n) (closed_edges (n + 1) P) marked (Joined-from_labels (closed_edges (n + 1) P) y z e)

  told : (x y : ℕ) → (k (moved n x) == k (moved n y)) ≡ (l x == l y)
  told x y =
      eqb_from_iff (k (moved n x)) (k (moved n y)) (l x) (l y)
      (λ e. suc_suc (l x) (l y) (sym (mark_old l n x) ∙ marks (moved n x) (moved n y) e ∙ mark_old l n y))
      (λ e. keeps_Joined (λ x. k (moved n x)) (closed_edges n p) kept (Joined-from_labels (closed_edges n p) x y e))

  like : (j : ℕ) → j < n + 1 + (n + 1) → (y : ℕ) × ((is_member ◌==◌ (n ∷ map (moved n) (range_with_len 0 (n + n))) y ≡ true) × (k j ≡ k y))
  like =
      by_points n (λ j. (y : ℕ) × ((is_member ◌==◌ (n ∷ map (moved n) (range_with_len 0 (n + n))) y ≡ true) × (k j ≡ k y)))
      (n, (or_left (n == n) _ (eq-eqb n n refl), refl))
      (n, (or_left (n == n) _ (eq-eqb n n refl), sym (pair_edge (n + 1) P hP n (omega arith) ∙ ap k (wide_new n p hp.length_is))))
      (λ i b. (moved n i, (or_right (moved n i == n) _ (in_map (moved n) (n + n) i b), refl)))

  -- A STRAND MORE IS A LOOP MORE
  pub closed_widened : label_closed_loops (n + 1) (widened n p) ≡ 1 + label_closed_loops n p
  closed_widened =
      let all = range_with_len 0 (n + n) in
      let wide = label_count-like k (range_with_len 0 (n + 1 + (n + 1))) (n ∷ map (moved n) all)
      (λ x m. let b = below_range 0 (n + 1 + (n + 1)) x m in like x (omega (arith, b)))
      (λ y m. ⊎_elim
      (λ e. (n, (is_member-range 0 (n + 1 + (n + 1)) n (omega arith) (omega arith), ap k (eqb-true y n e))))
      (λ o. let t = out_map (moved n) (n + n) y o in let w = moved_below n t.0 t.1.0 in (y, (is_member-range 0 (n + 1 + (n + 1)) y (omega arith) (let e = t.1.1 in omega (arith, w, e)), refl)))
      (or_cases (y == n) (is_member ◌==◌ (map (moved n) all) y) m)) in
      let out = member_label k n (map (moved n) all) (λ z m e. let t = member_map (moved n) all z m in
      zero_suc (l t.0) (sym (mark_first l n) ∙ marks n z e ∙ ap (mark l n) t.1.1 ∙ mark_old l n t.0)) in
      let c = distinct_count-cons (k n) (map k (map (moved n) all)) in
      let s = ap (distinct_count ◌==◌) (map_map k (moved n) all) ∙ label_count-agree (λ x. true) (λ x. k (moved n x)) l all (λ u v a b. told u v) (to_All (λ x. true) all (λ x m. refl)) in
      wide ∙ c ∙ ap₂ (λ a b. cond a 0 1 + b) out s
