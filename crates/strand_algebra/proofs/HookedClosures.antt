-- A hook at the last two strands, on a pairing with one more strand, closes that strand: the ring of both is the closure of the
-- pairing.
use Rattle.std.proofs.Common.{◌≡◌, ℕ, ◌+◌, ◌-◌, ◌<◌, ◌≤◌, min, true, false, nat_lt, ◌||◌, ◌==◌, if◌then◌else◌, List, ◌++◌, map, slice_index, refl, sym, ap, ◌∙◌, arith, All, ⊎_elim}
use Rattle.std.proofs.lemmas.List.Elements.{All-append, All-map, Contains-append_left, Contains-append_right}
use Rattle.std.proofs.lemmas.Bool.{cases_Bool, eqb-true}
use Rattle.std.proofs.lemmas.Bool.Decides.{nat_tests}
use Rattle.std.specs.List.{range_with_len}
use Rattle.std.specs.Set.{is_member, distinct_count}
use Rattle.graph_parts.proofs.Through.{keeps_Joined}
use Rattle.list_lemmas.proofs.Ranges.{All-range, is_member-range}
use Rattle.graph_parts.proofs.Agreement.{eqb_from_iff, to_All, label_count-agree}
use Rattle.graph_parts.proofs.Renaming.{map_map}
use Rattle.graph_parts.proofs.Walks.{Joined-from_labels, labels-from_Joined}
use Rattle.graph_parts.specs.Labels.{label_of}
use Rattle.graph_parts.specs.Walks.{along}
use Rattle.strand_algebra.proofs.ClosedStacks.{closing, ring, ring_count}
use Rattle.strand_algebra.proofs.Contractions.{below_range, in_map, out_map}
use Rattle.strand_algebra.proofs.HookRelations.{hooked_at, IsPairingOf-hooked}
use Rattle.strand_algebra.proofs.LabelProducts.{closed_edges, hooked_behind_point, pairs, label_stack, label_product, label_loops, label_closed_loops, hooked_behind, IsPairingOf}
use Rattle.strand_algebra.proofs.Stacks.{not_below, below_is, All-pairs, Contains-range}
use Rattle.strand_algebra.proofs.StraightStrands.{low_edge, high_edge, seam_edge}
use Rattle.strand_algebra.proofs.Walking.{Joined-wider}
use Rattle.strand_algebra.proofs.WiderClosures.{pair_edge, closing_edge}
use Rattle.strand_algebra.proofs.WiderStacks.{by_points, moved_below, wide_old, wide_new, wide_next, IsPairingOf-widened, label_count-like, less_than, moved_close, moved_low}
use Rattle.strand_algebra.specs.StrandPairings.{seams, moved, widened}

-- n + 1 strands are widened to n + 2; the last hook joins the strands n and n + 1
abbrev size : ℕ → ℕ
size n = n + 1 + 1 + (n + 1 + 1)

abbrev lower : ℕ → ℕ → ℕ
lower n j = if nat_lt j (n + 2) then min j n else min (n + n + 3 - j) n

abbrev upper : ℕ → ℕ → ℕ
upper n z = if z == n + 1 || z == n + 2 then n else (if nat_lt z (n + 1) then z else z - 2)

abbrev root : ℕ → ℕ → ℕ
root n y = if nat_lt y (size n) then lower n y else upper n (y - size n)

root_low : (n j : ℕ) → j < size n → root n j ≡ lower n j
root_low n j b = grind (arith, nat_tests)

root_high : (n z : ℕ) → root n (size n + z) ≡ upper n z
root_high n z = let s : size n + z - size n ≡ z = omega arith in let t : nat_lt (size n + z) (size n) ≡ false = grind (arith, nat_tests) in rw (t, s)

lower_hook : (n j : ℕ) → j < size n → lower n (hooked_behind_point (n + 1 + 1) n j) ≡ lower n j
lower_hook n j b = grind (arith, nat_tests)

upper_moved : (n i : ℕ) → upper n (moved (n + 1) i) ≡ i
upper_moved n i = grind (arith, nat_tests)

upper_first : (n : ℕ) → upper n (n + 1) ≡ n
upper_first n = grind (arith, nat_tests)

upper_second : (n : ℕ) → upper n (n + 1 + 1) ≡ n
upper_second n = grind (arith, nat_tests)

upper_low : (n i : ℕ) → i < n + 1 → upper n i ≡ i
upper_low n i b = grind (arith, nat_tests)

upper_close : (n i : ℕ) → i < n + 1 → upper n (size n - 1 - i) ≡ n + 1 + (n + 1) - 1 - i
upper_close n i b = grind (arith, nat_tests)

lower_low : (n i : ℕ) → i < n + 1 → lower n i ≡ i
lower_low n i b = grind (arith, nat_tests)

lower_last : (n : ℕ) → lower n (n + 1) ≡ n
lower_last n = grind (arith, nat_tests)

lower_top : (n i : ℕ) → i < n + 1 → lower n (size n - 1 - i) ≡ i
lower_top n i b = grind (arith, nat_tests)

lower_top_last : (n : ℕ) → lower n (size n - 1 - (n + 1)) ≡ n
lower_top_last n = grind (arith, nat_tests)

hook_straight : (n i : ℕ) → i < n → hooked_behind_point (n + 1 + 1) n i ≡ size n - 1 - i
hook_straight n i b = grind (arith, nat_tests)

hook_last : (n : ℕ) → hooked_behind_point (n + 1 + 1) n (n + 1) ≡ n
hook_last n = grind (arith, nat_tests)

hook_top : (n : ℕ) → hooked_behind_point (n + 1 + 1) n (size n - 1 - n) ≡ size n - 1 - (n + 1)
hook_top n = grind (arith, nat_tests)

module _ (n : ℕ) (r : List ℕ) (hr : IsPairingOf (n + 1 + (n + 1)) r) where
  abbrev P : List ℕ
  P = widened (n + 1) r

  abbrev Q : List ℕ
  Q = hooked_behind (n + 1 + 1) n

  hP : IsPairingOf (size n) P
  hP = IsPairingOf-widened (n + 1) r hr

  hQ : IsPairingOf (size n) Q
  hQ = IsPairingOf-hooked (n + 1 + 1) n (omega arith)

  abbrev G : List (ℕ × ℕ)
  G = ring (n + 1 + 1) P Q

  abbrev k : ℕ → ℕ
  k = label_of G

  abbrev l : ℕ → ℕ
  l = label_of (closed_edges (n + 1) r)

  abbrev name : ℕ → ℕ
  name i = size n + moved (n + 1) i

  from_stack : (x y : ℕ) → label_of (label_stack (n + 1 + 1) P Q) x ≡ label_of (label_stack (n + 1 + 1) P Q) y → k x ≡ k y
  from_stack x y e = labels-from_Joined G (Joined-wider (label_stack (n + 1 + 1) P Q) G (λ f c. Contains-append_left (label_stack (n + 1 + 1) P Q) (closing (n + 1 + 1)) f c) (Joined-from_labels (label_stack (n + 1 + 1) P Q) x y e))

  closing_ring : (i : ℕ) → i < n + 1 + 1 → k i ≡ k (size n + (size n - 1 - i))
  closing_ring i b = labels-from_Joined G (along (Contains-append_right (label_stack (n + 1 + 1) P Q) (closing (n + 1 + 1)) (i, size n + (size n - 1 - i)) (Contains-range (λ j. (j, size n + (size n - 1 - j))) 0 (n + 1 + 1) i (omega arith) (omega arith))))

  seam_ring : (i : ℕ) → i < n + 1 + 1 → k (size n + i) ≡ k (size n - 1 - i)
  seam_ring i b = from_stack _ _ (seam_edge (n + 1 + 1) P Q hP hQ i b)

  hook_ring : (j : ℕ) → j < size n → k j ≡ k (hooked_behind_point (n + 1 + 1) n j)
  hook_ring j b = from_stack _ _ (low_edge (n + 1 + 1) P Q hP hQ j b ∙ ap (label_of (label_stack (n + 1 + 1) P Q)) (hooked_at (n + 1 + 1) n j b))

  pair_ring : (j : ℕ) → j < size n → k (size n + j) ≡ k (size n + slice_index P j)
  pair_ring j b = from_stack _ _ (high_edge (n + 1 + 1) P Q hP hQ j b)

  -- the last strand goes round by the hook
  last_top : k (size n + (n + 1)) ≡ k (size n + n)
  last_top = seam_ring (n + 1) (omega arith) ∙ sym (seam_ring n (omega arith) ∙ hook_ring (size n - 1 - n) (omega arith) ∙ ap k (hook_top n))

  last_round : k (size n + (n + 1)) ≡ k n
  last_round =
      let t : size n - 1 - (n + 1) ≡ n + 1 + 1 = omega arith in
      pair_ring (n + 1) (omega arith) ∙ ap (λ x. k (size n + x)) (wide_new (n + 1) r hr.length_is)
      ∙ sym (closing_ring (n + 1) (omega arith) ∙ ap (λ x. k (size n + x)) t) ∙ hook_ring (n + 1) (omega arith) ∙ ap k (hook_last n)

  round : (i : ℕ) → i < n + 1 → k (size n + i) ≡ k (size n + (size n - 1 - i))
  round i b =
      ⊎_elim
      (λ e. let s : i ≡ n = eqb-true i n e in ap (λ x. k (size n + x)) s ∙ sym last_top ∙ last_round ∙ closing_ring n (omega arith) ∙ sym (ap (λ x. k (size n + (size n - 1 - x))) s))
      (λ d. let c = less_than n i d b in seam_ring i (omega arith) ∙ sym (hook_ring i (omega arith) ∙ ap k (hook_straight n i c)) ∙ closing_ring i (omega arith))
      (cases_Bool (i == n))

  kept : All (λ e. k (name e.0) ≡ k (name e.1)) (closed_edges (n + 1) r)
  kept =
      All-append (λ e. k (name e.0) ≡ k (name e.1)) (pairs 0 r) (map (λ i. (i, n + 1 + (n + 1) - 1 - i)) (range_with_len 0 (n + 1)))
      (All-pairs (λ e. k (name e.0) ≡ k (name e.1)) 0 r (λ i h.
      let b : i < n + 1 + (n + 1) = let s = hr.length_is in omega (arith, s) in
      let y : 0 + i ≡ i = omega arith in let z : 0 + slice_index r i ≡ slice_index r i = omega arith in
      ap (λ x. k (name x)) y ∙ pair_ring (moved (n + 1) i) (moved_below (n + 1) i b) ∙ ap (λ x. k (size n + x)) (wide_old (n + 1) r hr.length_is i b) ∙ sym (ap (λ x. k (name x)) z)))
      (All-map (λ e. k (name e.0) ≡ k (name e.1)) (λ i. (i, n + 1 + (n + 1) - 1 - i)) (range_with_len 0 (n + 1)) (All-range (λ i. k (name i) ≡ k (name (n + 1 + (n + 1) - 1 - i))) 0 (n + 1) (λ i x y.
      ap (λ t. k (size n + t)) (moved_low (n + 1) i (omega arith)) ∙ round i (omega arith) ∙ sym (ap (λ t. k (size n + t)) (moved_close (n + 1) i (omega arith))))))

  abbrev mark : ℕ → ℕ
  mark y = l (root n y)

  marked : All (λ e. mark e.0 ≡ mark e.1) G
  marked =
      All-append (λ e. mark e.0 ≡ mark e.1) (label_stack (n + 1 + 1) P Q) (closing (n + 1 + 1))
      (All-append (λ e. mark e.0 ≡ mark e.1) (pairs 0 Q) (pairs (size n) P ++ seams (n + 1 + 1))
      (All-pairs (λ e. mark e.0 ≡ mark e.1) 0 Q (λ j h.
      let b : j < size n = let s = hQ.length_is in omega (arith, s) in
      let y : 0 + j ≡ j = omega arith in let z : 0 + slice_index Q j ≡ slice_index Q j = omega arith in
      ap mark y ∙ ap l (root_low n j b ∙ sym (lower_hook n j b) ∙ ap (lower n) (sym (hooked_at (n + 1 + 1) n j b)) ∙ sym (root_low n (slice_index Q j) (hQ.stays j b))) ∙ sym (ap mark z)))
      (All-append (λ e. mark e.0 ≡ mark e.1) (pairs (size n) P) (seams (n + 1 + 1))
      (All-pairs (λ e. mark e.0 ≡ mark e.1) (size n) P (λ j h.
      ap l (root_high n j)
      ∙ by_points (n + 1) (λ x. l (upper n x) ≡ l (upper n (slice_index P x)))
      (ap l (upper_first n ∙ sym (ap (upper n) (wide_new (n + 1) r hr.length_is) ∙ upper_second n)))
      (ap l (upper_second n ∙ sym (ap (upper n) (wide_next (n + 1) r hr.length_is) ∙ upper_first n)))
      (λ i b. ap l (upper_moved n i) ∙ pair_edge (n + 1) r hr i b ∙ sym (ap l (ap (upper n) (wide_old (n + 1) r hr.length_is i b) ∙ upper_moved n (slice_index r i))))
      j (let s = hP.length_is in omega (arith, s))
      ∙ sym (ap l (root_high n (slice_index P j)))))
      (All-map (λ e. mark e.0 ≡ mark e.1) (λ i. (size n + i, size n - 1 - i)) (range_with_len 0 (n + 1 + 1)) (All-range (λ i. mark (size n + i) ≡ mark (size n - 1 - i)) 0 (n + 1 + 1) (λ i x y.
      ap l (root_high n i
      ∙ ⊎_elim
      (λ e. let s : i ≡ n + 1 = eqb-true i (n + 1) e in ap (upper n) s ∙ upper_first n ∙ sym (ap (λ t. lower n (size n - 1 - t)) s ∙ lower_top_last n))
      (λ d. let b = less_than (n + 1) i d (omega arith) in upper_low n i b ∙ sym (lower_top n i b))
      (cases_Bool (i == n + 1))
      ∙ sym (root_low n (size n - 1 - i) (omega arith))))))))
      (All-map (λ e. mark e.0 ≡ mark e.1) (λ i. (i, size n + (size n - 1 - i))) (range_with_len 0 (n + 1 + 1)) (All-range (λ i. mark i ≡ mark (size n + (size n - 1 - i))) 0 (n + 1 + 1) (λ i x y.
      ap l (root_low n i (omega arith))
      ∙ ⊎_elim
      (λ e. let s : i ≡ n + 1 = eqb-true i (n + 1) e in let t : size n - 1 - (n + 1) ≡ n + 1 + 1 = omega arith in
      ap l (ap (lower n) s ∙ lower_last n) ∙ sym (ap (λ x. l (upper n (size n - 1 - x))) s ∙ ap (λ x. l (upper n x)) t ∙ ap l (upper_second n)))
      (λ d. let b = less_than (n + 1) i d (omega arith) in ap l (lower_low n i b) ∙ closing_edge (n + 1) r hr i b ∙ sym (ap l (upper_close n i b)))
      (cases_Bool (i == n + 1))
      ∙ sym (ap l (root_high n (size n - 1 - i))))))

  told : (x y : ℕ) → (k (name x) == k (name y)) ≡ (l x == l y)
  told x y =
      eqb_from_iff (k (name x)) (k (name y)) (l x) (l y)
      (λ e. sym (ap l (root_high n (moved (n + 1) x) ∙ upper_moved n x)) ∙ keeps_Joined mark G marked (Joined-from_labels G (name x) (name y) e) ∙ ap l (root_high n (moved (n + 1) y) ∙ upper_moved n y))
      (λ e. keeps_Joined (λ x. k (name x)) (closed_edges (n + 1) r) kept (Joined-from_labels (closed_edges (n + 1) r) x y e))

  abbrev Named : ℕ → Type 0
  Named y = (x : ℕ) × ((is_member ◌==◌ (map name (range_with_len 0 (n + 1 + (n + 1)))) x ≡ true) × (k y ≡ k x))

  like_name : (i : ℕ) → i < n + 1 + (n + 1) → Named (name i)
  like_name i b = (name i, (in_map name (n + 1 + (n + 1)) i b, refl))

  like_same : (y z : ℕ) → k y ≡ k z → Named z → Named y
  like_same y z e h = (h.0, (h.1.0, e ∙ h.1.1))

  like_first : (i : ℕ) → i < n + 1 → Named (size n + i)
  like_first i b = like_same (size n + i) (name i) (ap (λ t. k (size n + t)) (sym (moved_low (n + 1) i b))) (like_name i (omega arith))

  like_high : (j : ℕ) → j < size n → Named (size n + j)
  like_high =
      by_points (n + 1) (λ j. Named (size n + j))
      (like_same (size n + (n + 1)) (size n + n) last_top (like_first n (omega arith)))
      (like_same (size n + (n + 1 + 1)) (size n + n) (ap (λ x. k (size n + x)) (sym (wide_new (n + 1) r hr.length_is)) ∙ sym (pair_ring (n + 1) (omega arith)) ∙ last_top) (like_first n (omega arith)))
      like_name

  like_low : (j : ℕ) → j < size n → Named j
  like_low j b =
      ⊎_elim
      (λ c. let lt : j < n + 1 + 1 = below_is (n + 1 + 1) j c in like_same j (size n + (size n - 1 - j)) (closing_ring j lt) (like_high (size n - 1 - j) (omega arith)))
      (λ c. let ge : n + 1 + 1 ≤ j = grind (arith, nat_tests, c) in let z : size n - 1 - (size n - 1 - j) ≡ j = omega arith in
      like_same j (size n + (size n - 1 - j)) (sym (seam_ring (size n - 1 - j) (omega arith) ∙ ap k z)) (like_high (size n - 1 - j) (omega arith)))
      (cases_Bool (nat_lt j (n + 1 + 1)))

  -- THE LAST HOOK CLOSES A STRAND
  pub hook_closed : label_loops (n + 1 + 1) P Q + label_closed_loops (n + 1 + 1) (label_product (n + 1 + 1) P Q) ≡ label_closed_loops (n + 1) r
  hook_closed =
      let all = range_with_len 0 (size n + size n) in
      let points = range_with_len 0 (n + 1 + (n + 1)) in
      sym (ring_count (n + 1 + 1) P Q hP hQ)
      ∙ label_count-like k all (map name points)
      (λ x m. let b = below_range 0 (size n + size n) x m in
      ⊎_elim
      (λ c. like_low x (below_is (size n) x c))
      (λ c. let ge : size n ≤ x = not_below (size n) x c in let z : size n + (x - size n) ≡ x = omega (arith, ge) in like_same x (size n + (x - size n)) (ap k (sym z)) (like_high (x - size n) (omega (arith, ge, b))))
      (cases_Bool (nat_lt x (size n))))
      (λ y m. let t = out_map name (n + 1 + (n + 1)) y m in let w = moved_below (n + 1) t.0 t.1.0 in (y, (is_member-range 0 (size n + size n) y (omega arith) (let e = t.1.1 in omega (arith, w, e)), refl)))
      ∙ ap (distinct_count ◌==◌) (map_map k name points)
      ∙ label_count-agree (λ x. true) (λ x. k (name x)) l points (λ u v a b. told u v) (to_All (λ x. true) points (λ x m. refl))
