-- Worked values: four points named 3, 5, 7, 9, paired 1,0,3,2, and a crossing with the ends 5, 7, 8, 6, which are glued at the
-- points 1 and 2; 8 takes the place of 7, and 6 that of 5.
use Rattle.std.proofs.Common.{◌≡◌, ℕ, ◌<◌, ◌⊎◌, [], ◌∷◌, ◌++◌, refl, arith}
use Rattle.std.proofs.lemmas.Bool.Decides.{nat_tests}
use Rattle.graph_parts.specs.Parts as P
use Rattle.arc_gluing.specs.Pairings.{pair_edges, partners_of}
use Rattle.kept_seams.specs.Changes.{joined_at, crossed_at}
use Rattle.kept_seams.specs.Kept.{IsKept}
use Rattle.kept_seams.specs.AnyOrder.{reordered}

joined : joined_at (1 ∷ 0 ∷ 3 ∷ 2 ∷ []) 1 2 ≡ 3 ∷ 2 ∷ 1 ∷ 0 ∷ []
joined = refl

joined_loop : joined_at (3 ∷ 2 ∷ 1 ∷ 0 ∷ []) 1 2 ≡ 3 ∷ 2 ∷ 1 ∷ 0 ∷ []
joined_loop = refl

crossed : crossed_at (1 ∷ 0 ∷ 3 ∷ 2 ∷ []) 1 2 ≡ 2 ∷ 3 ∷ 0 ∷ 1 ∷ []
crossed = refl

-- the smoothing that joins 5 with 7 and 8 with 6, by parts
by_parts : partners_of (3 ∷ 5 ∷ 7 ∷ 9 ∷ 5 ∷ 7 ∷ 8 ∷ 6 ∷ []) (pair_edges (3 ∷ 5 ∷ 7 ∷ 9 ∷ []) (1 ∷ 0 ∷ 3 ∷ 2 ∷ []) ++ pair_edges (5 ∷ 7 ∷ 8 ∷ 6 ∷ []) (1 ∷ 0 ∷ 3 ∷ 2 ∷ [])) (3 ∷ 6 ∷ 8 ∷ 9 ∷ [])
    ≡ joined_at (1 ∷ 0 ∷ 3 ∷ 2 ∷ []) 1 2
unfolding P.part
by_parts = refl

-- the other smoothing only renames
renamed_only : partners_of (3 ∷ 5 ∷ 7 ∷ 9 ∷ 5 ∷ 7 ∷ 8 ∷ 6 ∷ []) (pair_edges (3 ∷ 5 ∷ 7 ∷ 9 ∷ []) (1 ∷ 0 ∷ 3 ∷ 2 ∷ []) ++ pair_edges (5 ∷ 7 ∷ 8 ∷ 6 ∷ []) (3 ∷ 2 ∷ 1 ∷ 0 ∷ [])) (3 ∷ 6 ∷ 8 ∷ 9 ∷ [])
    ≡ 1 ∷ 0 ∷ 3 ∷ 2 ∷ []
unfolding P.part
renamed_only = refl

-- 1,0,3,2 on the names 3, 5, 7, 9 is 1,0,3,2 on 5, 3, 9, 7, and 2,3,0,1 on 3, 7, 5, 9
other_order : reordered (3 ∷ 5 ∷ 7 ∷ 9 ∷ []) (3 ∷ 7 ∷ 5 ∷ 9 ∷ []) (1 ∷ 0 ∷ 3 ∷ 2 ∷ []) ≡ 2 ∷ 3 ∷ 0 ∷ 1 ∷ []
other_order = refl

-- there is such a seam
kept : IsKept (3 ∷ 5 ∷ 7 ∷ 9 ∷ []) (5 ∷ 7 ∷ 8 ∷ 6 ∷ []) (3 ∷ 6 ∷ 8 ∷ 9 ∷ []) 1 2 0 1 3 2
kept = record {
  few = λ x. grind (arith, nat_tests);
  single = λ x. grind (arith, nat_tests);
  left_open = record { once = λ x. grind (arith, nat_tests) };
  s_in = omega arith;
  t_in = omega arith;
  s_not_t = λ e. omega (arith, e);
  four = refl;
  places = record { a_in = omega arith; b_in = omega arith; c_in = omega arith; d_in = omega arith; each = λ i l. one_of i l };
  a_at = refl;
  b_at = refl;
  left = refl;
}
  where
    one_of : (i : ℕ) → i < 4 → (i ≡ 0) ⊎ (i ≡ 1) ⊎ (i ≡ 3) ⊎ (i ≡ 2)
    one_of i l = grind (arith, nat_tests, l)
