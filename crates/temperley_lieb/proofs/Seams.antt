-- The seams of at most 8 strands have room: the names that are left are at most 24, by computing for each number of strands.
-- A seam that `Seam::of` made of some names leaves the only list that can be left of them.
use Rattle.std.proofs.Common.{◌≡◌, ℕ, ◌<◌, ◌≤◌, Bool, true, nat_le, List, ◌++◌, refl, arith, Result, Ok, Err, subst, ◌↔◌}
use Rattle.std.specs.List.{range_with_len, list_all}
use Rattle.std.specs.List.Sorted.{IsStrictlyIncreasing}
use Rattle.std.specs.Result.{IsOk, IfOk}
use Rattle.std.proofs.lemmas.Bool.Decides.{nat_tests}
use Rattle.arc_gluing.specs.Pairings.{AreOpen}
use Rattle.arc_pairing.specs.Gluing.{Seam, open_name_count}
use Rattle.arc_pairing.specs.declared.seam.TooWide.{TooWide}
use Rattle.strand_algebra.specs.GluedProducts.{below_names, above_names}
use Rattle.strand_algebra.proofs.HookRelations.{at_range}

-- ---- how many names are left
up_to_eight : (test : ℕ → Bool) → list_all test (range_with_len 0 9) ≡ true → (n : ℕ) → n ≤ 8 → test n ≡ true
up_to_eight test h n l = at_range test 0 9 n h (omega arith) (omega arith)

pub few_strands_left : (n : ℕ) → n ≤ 8 → open_name_count (below_names n ++ above_names n) ≤ 24
few_strands_left n l = let t = up_to_eight (λ k. nat_le (open_name_count (below_names k ++ above_names k)) 24) refl n l in grind (arith, nat_tests, t)

pub few_closing_left : (n : ℕ) → n ≤ 8 → open_name_count (below_names n ++ below_names n) ≤ 24
few_closing_left n l = let t = up_to_eight (λ k. nat_le (open_name_count (below_names k ++ below_names k)) 24) refl n l in grind (arith, nat_tests, t)

-- so `Seam::of` does not refuse
pub not_wide : (count : ℕ) (r : Result Seam TooWide) → ((k : ℕ) → (r ≡ Err (record { ends = k })) ↔ (24 < count) × (k ≡ count)) → count ≤ 24 → IsOk r
not_wide count (Ok seam) h l = refl
not_wide count (Err fault) h l = absurd (let wide = ((h fault.ends).0 refl).0 in omega (arith, wide, l))

-- THE SEAM THAT IS MADE
module _ (names ends left : List ℕ) (r : Result Seam TooWide) (seam : Seam) (is : r ≡ Ok seam)
    (made : IfOk r (λ s. (s.inner ≡ names) × (s.ends ≡ ends))) (are_open : IfOk r (λ s. AreOpen (names ++ ends) s.outer)) (up : IfOk r (λ s. IsStrictlyIncreasing s.outer))
    (only : (found : List ℕ) → AreOpen (names ++ ends) found → IsStrictlyIncreasing found → found ≡ left) where
  pub seam_is : seam ≡ record { inner = names; ends = ends; outer = left }
  seam_is =
      let P : Result Seam TooWide → Type 0 = λ a. IfOk a (λ s. (s.inner ≡ names) × (s.ends ≡ ends)) in
      let Q : Result Seam TooWide → Type 0 = λ a. IfOk a (λ s. AreOpen (names ++ ends) s.outer) in
      let R : Result Seam TooWide → Type 0 = λ a. IfOk a (λ s. IsStrictlyIncreasing s.outer) in
      let m = subst P is made in
      let outer = only seam.outer (subst Q is are_open) (subst R is up) in
      λ i. record { inner = m.0 i; ends = m.1 i; outer = outer i }
