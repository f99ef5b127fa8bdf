-- The laws at names that are written out: their premises hold there. Two strands curl beside the projector of two strands; the identity of two
-- strands is closed on itself at the names 7 and 9.
use Rattle.std.proofs.Common.{◌≡◌, ◌≢◌, ℕ, zero, suc, ◌+◌, ◌*◌, ◌%◌, ◌^◌, ◌<◌, ◌≤◌, true, cond, ◌==◌, List, [], ◌∷◌, ◌++◌, map, refl, arith}
use Rattle.std.specs.Set.{is_member}
use Rattle.std.proofs.lemmas.Bool.Decides.{nat_tests}
use Rattle.std.proofs.lemmas.List.Sums.{AllPass-from_list_all}
use Rattle.state_sums.specs.LocalSums.{pattern_sum, crossing, arc, AreSkeinNumbers}
use Rattle.state_sums.specs.Networks.{Node, Term, names_of}
use Rattle.graph_parts.specs.Parts.{part, part_count}
use Rattle.state_sums.specs.StateSums.{value}
use Rattle.strand_algebra.specs.Elements.{identity, close}
use Rattle.strand_algebra.specs.Projectors.{IsProjector}
use Rattle.strand_algebra.proofs.Operations.{IsElement-identity}
use Rattle.box_laws.proofs.ClosedBoxes.{closed_box}
use Rattle.word_networks.specs.BoxNetworks.{AreStepsBehind}
use Rattle.word_networks.specs.GridNetworks.{grid_steps}
use Rattle.word_networks.specs.PlacedGrids.{close_steps}
use Rattle.word_networks.specs.Steps.{Step, names_after, step_nodes}
use Rattle.word_networks.specs.Strands.{strand_of, strand_points}
use Rattle.box_laws.specs.StrandBoxes.{IsBoxNode, AreNamedBeside}
use Rattle.box_laws.proofs.ProjectorCurls.{projector_curl}

abbrev v : ℕ → ℕ → ℕ
v i j = cond (i == 0) (cond (j == 0) 60 61) (cond (i == 1) (cond (j == 0) 90 91) (cond (j == 0) 92 93))

abbrev h : ℕ → ℕ → ℕ
h i j = cond (i == 0) (cond (j == 0) 50 (cond (j == 1) 80 81)) (cond (j == 0) 51 (cond (j == 1) 82 83))

abbrev name : ℕ → ℕ
name u = cond (u == 0) 51 (cond (u == 1) 51 (cond (u == 2) 50 (cond (u == 3) 50 (cond (u == 4) 60 (cond (u == 5) 70 (cond (u == 6) 61 71))))))

abbrev curl : ℕ → ℕ → List Step
curl a b = grid_steps a b v h 0 0 2 2 ++ close_steps 0 2

nodes_are : (a b : ℕ) → step_nodes name (curl a b) ≡ crossing a b 60 80 90 50 ∷ crossing a b 61 81 91 80 ∷ crossing a b 90 82 92 51 ∷ crossing a b 91 83 93 82 ∷ arc 92 51 ∷ arc 93 50 ∷ []
nodes_are a b = refl

no : (i : ℕ) → i ≢ suc (suc i)
no i e = omega (arith, e)

next : (i : ℕ) → i ≢ suc i
next i e = omega (arith, e)

beside : AreNamedBeside 2 2 name
beside = record { alone = alone; stand = stand }
  where
    alone : (p q : ℕ) → strand_of p < 2 + 2 → 2 ≤ strand_of q → strand_of q < 2 + 2 → name p ≡ name q → p ≡ q
    alone p zero l k g e = absurd (omega (arith, k))
    alone p (suc zero) l k g e = absurd (omega (arith, k))
    alone p (suc (suc zero)) l k g e = absurd (omega (arith, k))
    alone p (suc (suc (suc zero))) l k g e = absurd (omega (arith, k))
    alone p (suc (suc (suc (suc zero)))) l k g e = grind (arith, nat_tests, e)
    alone p (suc (suc (suc (suc (suc zero))))) l k g e = grind (arith, nat_tests, e)
    alone p (suc (suc (suc (suc (suc (suc zero)))))) l k g e = grind (arith, nat_tests, e)
    alone (suc (suc (suc (suc (suc (suc (suc (suc p)))))))) (suc (suc (suc (suc (suc (suc (suc zero))))))) l k g e = absurd (omega (arith, l))
    alone zero (suc (suc (suc (suc (suc (suc (suc zero))))))) l k g e = absurd (omega (arith, e))
    alone (suc zero) (suc (suc (suc (suc (suc (suc (suc zero))))))) l k g e = absurd (omega (arith, e))
    alone (suc (suc zero)) (suc (suc (suc (suc (suc (suc (suc zero))))))) l k g e = absurd (omega (arith, e))
    alone (suc (suc (suc zero))) (suc (suc (suc (suc (suc (suc (suc zero))))))) l k g e = absurd (omega (arith, e))
    alone (suc (suc (suc (suc zero)))) (suc (suc (suc (suc (suc (suc (suc zero))))))) l k g e = absurd (omega (arith, e))
    alone (suc (suc (suc (suc (suc zero))))) (suc (suc (suc (suc (suc (suc (suc zero))))))) l k g e = absurd (omega (arith, e))
    alone (suc (suc (suc (suc (suc (suc zero)))))) (suc (suc (suc (suc (suc (suc (suc zero))))))) l k g e = absurd (omega (arith, e))
    alone (suc (suc (suc (suc (suc (suc (suc zero))))))) (suc (suc (suc (suc (suc (suc (suc zero))))))) l k g e = refl
    alone p (suc (suc (suc (suc (suc (suc (suc (suc q)))))))) l k g e = absurd (omega (arith, g))

    stand : (p q : ℕ) → strand_of p < 2 → strand_of q < 2 → (name p == name q) ≡ (strand_of p == strand_of q)
    stand zero zero l k = refl
    stand zero (suc zero) l k = refl
    stand zero (suc (suc zero)) l k = refl
    stand zero (suc (suc (suc zero))) l k = refl
    stand (suc zero) zero l k = refl
    stand (suc zero) (suc zero) l k = refl
    stand (suc zero) (suc (suc zero)) l k = refl
    stand (suc zero) (suc (suc (suc zero))) l k = refl
    stand (suc (suc zero)) zero l k = refl
    stand (suc (suc zero)) (suc zero) l k = refl
    stand (suc (suc zero)) (suc (suc zero)) l k = refl
    stand (suc (suc zero)) (suc (suc (suc zero))) l k = refl
    stand (suc (suc (suc zero))) zero l k = refl
    stand (suc (suc (suc zero))) (suc zero) l k = refl
    stand (suc (suc (suc zero))) (suc (suc zero)) l k = refl
    stand (suc (suc (suc zero))) (suc (suc (suc zero))) l k = refl
    stand (suc (suc (suc (suc p)))) q l k = absurd (omega (arith, l))
    stand p (suc (suc (suc (suc q)))) l k = absurd (omega (arith, k))

module _ (a b : ℕ) (f : List Term) where
  abbrev node : Node
  node = record { group = 0; ends = 70 ∷ 71 ∷ 61 ∷ 60 ∷ []; terms = f }

  abbrev other : Node
  other = record { group = 0; ends = 70 ∷ 71 ∷ 81 ∷ 83 ∷ []; terms = f }

  node_is : IsBoxNode 2 2 name f node
  node_is = record { ends = refl; terms = refl }

  other_is : IsBoxNode 2 2 (names_after name (curl a b)) f other
  other_is = record { ends = refl; terms = refl }

  behind : AreStepsBehind node (strand_points 2 2) (strand_points 0 4) name (curl a b)
  behind = record {
    are_steps = (
      (no 2, refl, refl, refl, refl),
      (
        (no 4, refl, refl, refl, refl),
        (
          (no 0, refl, refl, refl, refl),
          (
            (no 2, refl, refl, refl, refl),
            ((next 0, refl, refl), ((next 2, refl, refl), tt)),
          ),
        ),
      ),
    );
    ends = λ x m. grind (arith, nat_tests, m);
    meets_all = AllPass-from_list_all (is_member ◌==◌ (node.ends ++ names_of (step_nodes name (curl a b)))) (map name (strand_points 0 4)) refl;
  }

  one : (p q : ℕ) → is_member ◌==◌ (strand_points 2 2) p ≡ true → is_member ◌==◌ (strand_points 2 2) q ≡ true → names_after name (curl a b) p ≡ names_after name (curl a b) q → p ≡ q
  one p q m k e = told p q (within p m) (within q k) e
    where
      within : (p : ℕ) → is_member ◌==◌ (strand_points 2 2) p ≡ true → (4 ≤ p) × (p ≤ 7)
      within p m = (grind (arith, nat_tests, m), grind (arith, nat_tests, m))

      told : (p q : ℕ) → (4 ≤ p) × (p ≤ 7) → (4 ≤ q) × (q ≤ 7) → names_after name (curl a b) p ≡ names_after name (curl a b) q → p ≡ q
      told p q (l, r) (s, t) e = grind (arith, nat_tests, l, r, s, t, e)

-- two strands curl: the factor is w^2 a^2, where w is -a^3
two_curl : (m a b delta w : ℕ) (f : List Term) (worth : List ℕ → ℕ) → 0 < m → AreSkeinNumbers m a b delta → (w + a * a * a) % m ≡ 0 % m → IsProjector m delta 2 f →
    pattern_sum delta record {
      nodes = node a b f ∷ crossing a b 60 80 90 50 ∷ crossing a b 61 81 91 80 ∷ crossing a b 90 82 92 51 ∷ crossing a b 91 83 93 82 ∷ arc 92 51 ∷ arc 93 50 ∷ [];
      free_loops = 0;
    } (83 ∷ 70 ∷ 81 ∷ 71 ∷ []) worth % m
    ≡ (w ^ 2 * a ^ 2 * pattern_sum delta record { nodes = other a b f ∷ []; free_loops = 0 } (83 ∷ 70 ∷ 81 ∷ 71 ∷ []) worth) % m
two_curl m a b delta w f worth some numbers factor is =
    projector_curl m a b delta w 0 1 true v h f (node a b f) (other a b f) name worth some (omega arith) numbers factor is (node_is a b f) beside (behind a b f) (other_is a b f) (one a b f)

-- ---- a box closed on itself
abbrev two_names : ℕ → ℕ
two_names i = cond (i == 0) 7 9

two_apart : (i j : ℕ) → i < 2 → j < 2 → two_names i ≡ two_names j → i ≡ j
two_apart zero zero l k e = refl
two_apart zero (suc zero) l k e = absurd (omega (arith, e))
two_apart (suc zero) zero l k e = absurd (omega (arith, e))
two_apart (suc zero) (suc zero) l k e = refl
two_apart (suc (suc i)) j l k e = absurd (omega (arith, l))
two_apart i (suc (suc j)) l k e = absurd (omega (arith, k))

identity_closed : value 41 6 record { nodes = record { group = 0; ends = 7 ∷ 9 ∷ 9 ∷ 7 ∷ []; terms = identity 41 2 } ∷ []; free_loops = 0 } ≡ close 41 6 2 (identity 41 2)
identity_closed = closed_box 41 6 2 0 (identity 41 2) two_names (IsElement-identity 41 2 (omega arith)) two_apart

-- 36 is 6 times 6, a loop for each strand
two_loops : close 41 6 2 (identity 41 2) ≡ 36
unfolding part_count part
two_loops = refl
