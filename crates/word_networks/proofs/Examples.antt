-- The laws at names that are written out: their premises hold there. A bundle of two strands crosses one strand and crosses back.
use Rattle.std.proofs.Common.{◌≡◌, ◌≢◌, ℕ, zero, suc, ◌+◌, ◌<◌, ◌≤◌, true, false, cond, ◌==◌, List, [], ◌∷◌, refl, ap, arith}
use Rattle.std.specs.Set.{is_member}
use Rattle.std.proofs.lemmas.List.Sums.{AllPass-from_list_all}
use Rattle.state_sums.specs.LocalSums.{SameEverywhere, AreSkeinNumbers, crossing, arc}
use Rattle.state_sums.specs.Networks.{names_of}
use Rattle.strand_words.specs.Words.{top}
use Rattle.word_networks.specs.GridNetworks.{FitsGrid}
use Rattle.word_networks.specs.PlacedGrids.{Placed, steps_at, placed_steps, placed_nodes, passes}
use Rattle.word_networks.specs.Spelling.{AgreeOn}
use Rattle.word_networks.specs.Steps.{names_after, step_nodes, AreStepsFrom, AreNamed}
use Rattle.word_networks.specs.Strands.{strand_of, standing, strand_points}
use Rattle.word_networks.proofs.NetworkLaws.{cabled_second_move}
use Rattle.word_networks.proofs.Strands.{standing_named, member_strands}

-- ---- two strands over one: v(0,0) 10, v(1,0) 11, v(2,0) 12; h(0,0) 20, h(0,1) 21, h(1,0) 22, h(1,1) 23
abbrev v1 : ℕ → ℕ → ℕ
v1 i j = 10 + i

abbrev h1 : ℕ → ℕ → ℕ
h1 i j = cond (i == 0) (cond (j == 0) 20 21) (cond (j == 0) 22 23)

-- and back
abbrev v2 : ℕ → ℕ → ℕ
v2 i j = cond (i == 0) (cond (j == 0) 23 21) (cond (j == 0) 30 31)

abbrev h2 : ℕ → ℕ → ℕ
h2 i j = cond (j == 0) 12 (cond (j == 1) 32 33)

abbrev base : ℕ → ℕ
base k = cond (k == 0) 22 (cond (k == 1) 20 10)

abbrev name : ℕ → ℕ
name u = base (strand_of u)

abbrev new_name : ℕ → ℕ
new_name k = cond (k == 0) 30 (cond (k == 1) 31 33)

abbrev old : List Placed
old = record { is_over = true; v = v1; h = h1; place = 0; rows = 2; columns = 1 } ∷ record { is_over = false; v = v2; h = h2; place = 0; rows = 1; columns = 2 } ∷ []

-- the nodes are those of the cabled crossings, with their ends in the order south, east, north, west
nodes_are : (a b : ℕ) → placed_nodes a b old ≡ crossing a b 10 21 11 20 ∷ crossing a b 11 23 12 22 ∷ crossing b a 23 32 30 12 ∷ crossing b a 21 33 31 32 ∷ []
nodes_are a b = refl

arcs_are : step_nodes name (passes new_name 0 3) ≡ arc 22 30 ∷ arc 20 31 ∷ arc 10 33 ∷ []
arcs_are = refl

first_fits : FitsGrid name v1 h1 0 0 2 1
first_fits = record { west = west; south = south }
  where
    west : (k r : ℕ) → 0 ≤ k → k < 0 + 2 → r + k + 1 ≡ 0 + 0 + 2 → name (top k) ≡ h1 r 0
    west zero r l h e = ap (λ n. h1 n 0) (let t : 1 ≡ r = omega (arith, e) in t)
    west (suc zero) r l h e = ap (λ n. h1 n 0) (let t : 0 ≡ r = omega (arith, e) in t)
    west (suc (suc k)) r l h e = absurd (omega (arith, h))

    south : (k c : ℕ) → 0 + 2 ≤ k → k < 0 + 2 + 1 → c + 0 + 2 ≡ k → name (top k) ≡ v1 0 c
    south zero c l h e = absurd (omega (arith, l))
    south (suc zero) c l h e = absurd (omega (arith, l))
    south (suc (suc zero)) c l h e = refl
    south (suc (suc (suc k))) c l h e = absurd (omega (arith, h))

abbrev after : ℕ → ℕ → ℕ → ℕ
after a b = names_after name (steps_at a b record { is_over = true; v = v1; h = h1; place = 0; rows = 2; columns = 1 })

second_fits : (a b : ℕ) → FitsGrid (names_after name (steps_at a b record { is_over = true; v = v1; h = h1; place = 0; rows = 2; columns = 1 })) v2 h2 0 0 1 2
second_fits a b = record { west = west; south = south }
  where
    west : (k r : ℕ) → 0 ≤ k → k < 0 + 1 → r + k + 1 ≡ 0 + 0 + 1 → after a b (top k) ≡ h2 r 0
    west zero r l h e = refl
    west (suc k) r l h e = absurd (omega (arith, h))

    south : (k c : ℕ) → 0 + 1 ≤ k → k < 0 + 1 + 2 → c + 0 + 1 ≡ k → after a b (top k) ≡ v2 0 c
    south zero c l h e = absurd (omega (arith, l))
    south (suc zero) c l h e = ap (v2 0) (let t : 0 ≡ c = omega (arith, e) in t)
    south (suc (suc zero)) c l h e = ap (v2 0) (let t : 1 ≡ c = omega (arith, e) in t)
    south (suc (suc (suc k))) c l h e = absurd (omega (arith, h))

points_named : AreNamed (strand_points 0 3) name standing
points_named = standing_named 3 base one
  where
    one : (i j : ℕ) → i < 3 → j < 3 → base i ≡ base j → i ≡ j
    one zero zero l h e = refl
    one zero (suc zero) l h e = absurd (omega (arith, e))
    one zero (suc (suc zero)) l h e = absurd (omega (arith, e))
    one zero (suc (suc (suc j))) l h e = absurd (omega (arith, h))
    one (suc zero) zero l h e = absurd (omega (arith, e))
    one (suc zero) (suc zero) l h e = refl
    one (suc zero) (suc (suc zero)) l h e = absurd (omega (arith, e))
    one (suc zero) (suc (suc (suc j))) l h e = absurd (omega (arith, h))
    one (suc (suc zero)) zero l h e = absurd (omega (arith, e))
    one (suc (suc zero)) (suc zero) l h e = absurd (omega (arith, e))
    one (suc (suc zero)) (suc (suc zero)) l h e = refl
    one (suc (suc zero)) (suc (suc (suc j))) l h e = absurd (omega (arith, h))
    one (suc (suc (suc i))) j l h e = absurd (omega (arith, l))

no : (i : ℕ) → i ≢ suc (suc i)
no i e = omega (arith, e)

crossings_from : (a b : ℕ) → AreStepsFrom (strand_points 0 3) name (placed_steps a b old)
crossings_from a b = record {
  are_steps = (
    (no 2, refl, refl, refl, refl),
    (
      (no 0, refl, refl, refl, refl),
      (
        (no 0, refl, refl, refl, refl),
        ((no 2, refl, refl, refl, refl), tt),
      ),
    ),
  );
  meets_all = AllPass-from_list_all (is_member ◌==◌ (names_of (step_nodes name (placed_steps a b old)))) (22 ∷ 22 ∷ 20 ∷ 20 ∷ 10 ∷ 10 ∷ []) refl;
}

arcs_from : AreStepsFrom (strand_points 0 3) name (passes new_name 0 3)
arcs_from = record {
  are_steps = ((refl, refl), ((refl, refl), ((refl, refl), tt)));
  meets_all = AllPass-from_list_all (is_member ◌==◌ (names_of (step_nodes name (passes new_name 0 3)))) (22 ∷ 22 ∷ 20 ∷ 20 ∷ 10 ∷ 10 ∷ []) refl;
}

agree : (a b : ℕ) → AgreeOn (strand_points 0 3) (names_after name (placed_steps a b old)) (names_after name (passes new_name 0 3))
agree a b zero m = refl
agree a b (suc zero) m = refl
agree a b (suc (suc zero)) m = refl
agree a b (suc (suc (suc zero))) m = refl
agree a b (suc (suc (suc (suc zero)))) m = refl
agree a b (suc (suc (suc (suc (suc zero))))) m = refl
agree a b (suc (suc (suc (suc (suc (suc u)))))) m = (let t = (member_strands 0 3 (suc (suc (suc (suc (suc (suc u)))))) m).1 in absurd (omega (arith, t)))

-- two strands are pulled off one: for all weights that are skein numbers
pulled_off : (m a b delta : ℕ) → AreSkeinNumbers m a b delta →
    SameEverywhere m delta (30 ∷ 22 ∷ 31 ∷ 20 ∷ 33 ∷ 10 ∷ [])
    record { nodes = crossing a b 10 21 11 20 ∷ crossing a b 11 23 12 22 ∷ crossing b a 23 32 30 12 ∷ crossing b a 21 33 31 32 ∷ []; free_loops = 0 }
    record { nodes = arc 22 30 ∷ arc 20 31 ∷ arc 10 33 ∷ []; free_loops = 0 }
pulled_off m a b delta numbers =
    cabled_second_move m a b delta 0 2 1 true v1 h1 v2 h2 new_name (strand_points 0 3) name standing numbers (first_fits, (second_fits a b, tt)) points_named (crossings_from a b) arcs_from (agree a b)
