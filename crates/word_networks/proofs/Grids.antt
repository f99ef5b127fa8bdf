-- The crossing of two bundles as steps has the nodes of the cabled crossing, and leaves its names.
use Rattle.std.proofs.Common.{◌≡◌, ◌≢◌, ℕ, zero, suc, ◌+◌, ◌<◌, ◌≤◌, Bool, true, false, cond, ◌==◌, List, [], ◌∷◌, ◌++◌, refl, sym, ap, ap₂, ◌∙◌, arith, ⊎_elim}
use Rattle.std.proofs.lemmas.Bool.Decides.{nat_tests}
use Rattle.state_sums.specs.LocalSums.{crossing}
use Rattle.strand_words.specs.Words.{Letter, top}
use Rattle.strand_words.specs.Grids.{crossed, row, grid}
use Rattle.word_networks.specs.GridNetworks.{row_nodes, grid_nodes, row_steps, grid_steps, FitsGrid, FollowsGrid}
use Rattle.word_networks.specs.Spelling.{Spells}
use Rattle.word_networks.specs.Steps.{Step, letter, pass, join, named, name_after, names_after, step_nodes}
use Rattle.std.proofs.lemmas.Bool.{cases_eq}

pub names_after-append : (name : ℕ → ℕ) (s t : List Step) → names_after name (s ++ t) ≡ names_after (names_after name s) t
names_after-append name [] t = refl
names_after-append name (step ∷ s) t = names_after-append (name_after name step) s t

pub step_nodes-append : (name : ℕ → ℕ) (s t : List Step) → step_nodes name (s ++ t) ≡ step_nodes name s ++ step_nodes (names_after name s) t
step_nodes-append name [] t = refl
step_nodes-append name (step ∷ s) t = ap (λ ns. step_nodes name (step ∷ []) ++ ns) (step_nodes-append (name_after name step) s t)

named_same : (name : ℕ → ℕ) (p new u : ℕ) → u ≡ p → named name p new u ≡ new
named_same name p new u e = plain (u == p) (name u) new (grind (arith, nat_tests, e))
  where
    plain : (b : Bool) (x new : ℕ) → b ≡ true → cond b new x ≡ new
    plain b x new e = grind (arith, e)

named_other : (name : ℕ → ℕ) (p new u : ℕ) → u ≢ p → named name p new u ≡ name u
named_other name p new u e = plain (u == p) (name u) new (grind (arith, nat_tests, e))
  where
    plain : (b : Bool) (x new : ℕ) → b ≡ false → cond b new x ≡ x
    plain b x new e = grind (arith, e)

module _ (x y : ℕ) (v h : ℕ → ℕ → ℕ) where
  -- ---- a row
  record FitsRow (name : ℕ → ℕ) (place i j count : ℕ) : Type 0 where
    west : name (top place) ≡ h i j
    south : (k c : ℕ) → place < k → k ≤ place + count → c + place + 1 ≡ j + k → name (top k) ≡ v i c

  abbrev next : (ℕ → ℕ) → ℕ → ℕ → ℕ → ℕ → ℕ
  next name place i j = named (named name (top (place + 1)) (h i (j + 1))) (top place) (v (i + 1) j)

  next_left : (name : ℕ → ℕ) (place i j : ℕ) → next name place i j (top place) ≡ v (i + 1) j
  next_left name place i j = named_same (named name (top (place + 1)) (h i (j + 1))) (top place) (v (i + 1) j) (top place) refl

  next_right : (name : ℕ → ℕ) (place i j : ℕ) → next name place i j (top (place + 1)) ≡ h i (j + 1)
  next_right name place i j =
      named_other (named name (top (place + 1)) (h i (j + 1))) (top place) (v (i + 1) j) (top (place + 1)) (λ e. omega (arith, e))
      ∙ named_same name (top (place + 1)) (h i (j + 1)) (top (place + 1)) refl

  next_other : (name : ℕ → ℕ) (place i j u : ℕ) → u ≢ top place → u ≢ top (place + 1) → next name place i j u ≡ name u
  next_other name place i j u d e =
      named_other (named name (top (place + 1)) (h i (j + 1))) (top place) (v (i + 1) j) u d ∙ named_other name (top (place + 1)) (h i (j + 1)) u e

  next_fits : (name : ℕ → ℕ) (place i j count : ℕ) → FitsRow name place i j (suc count) → FitsRow (next name place i j) (place + 1) i (j + 1) count
  next_fits name place i j count f = record {
    west = next_right name place i j;
    south = λ k c lo hi e. next_other name place i j (top k) (λ t. omega (arith, t, lo)) (λ t. omega (arith, t, lo)) ∙ f.south k c (omega (arith, lo)) (omega (arith, hi)) (omega (arith, e));
  }

  row_is : (name : ℕ → ℕ) (place i j count : ℕ) → FitsRow name place i j count → step_nodes name (row_steps x y v h place i j count) ≡ row_nodes x y v h i j count
  row_is name place i j zero f = refl
  row_is name place i j (suc count) f =
      let e : name (top (place + 1)) ≡ v i j = f.south (place + 1) j (omega arith) (omega arith) (omega arith) in
      ap₂ (λ s w. crossing x y s (h i (j + 1)) (v (i + 1) j) w ∷ step_nodes (next name place i j) (row_steps x y v h (place + 1) i (j + 1) count)) e f.west
      ∙ ap (λ ns. crossing x y (v i j) (h i (j + 1)) (v (i + 1) j) (h i j) ∷ ns) (row_is (next name place i j) (place + 1) i (j + 1) count (next_fits name place i j count f))

  row_others : (name : ℕ → ℕ) (place i j count : ℕ) (u : ℕ) → ((k : ℕ) → place ≤ k → k ≤ place + count → u ≢ top k) → names_after name (row_steps x y v h place i j count) u ≡ name u
  row_others name place i j zero u d = refl
  row_others name place i j (suc count) u d =
      row_others (next name place i j) (place + 1) i (j + 1) count u (λ k lo hi. d k (omega (arith, lo)) (omega (arith, hi)))
      ∙ next_other name place i j u (d place (omega arith) (omega arith)) (d (place + 1) (omega arith) (omega arith))

  row_east : (name : ℕ → ℕ) (place i j count : ℕ) → FitsRow name place i j count → (k c : ℕ) → k ≡ place + count → c ≡ j + count → names_after name (row_steps x y v h place i j count) (top k) ≡ h i c
  row_east name place i j zero f k c p q =
      ap (λ n. name (top n)) (let e : k ≡ place = omega (arith, p) in e) ∙ f.west ∙ ap (h i) (let e : j ≡ c = omega (arith, q) in e)
  row_east name place i j (suc count) f k c p q = row_east (next name place i j) (place + 1) i (j + 1) count (next_fits name place i j count f) k c (omega (arith, p)) (omega (arith, q))

  row_north : (name : ℕ → ℕ) (place i j count : ℕ) → (k c : ℕ) → place ≤ k → k < place + count → c + place ≡ j + k → names_after name (row_steps x y v h place i j count) (top k) ≡ v (i + 1) c
  row_north name place i j zero k c lo hi e = absurd (omega (arith, lo, hi))
  row_north name place i j (suc count) k c lo hi e =
      let after = names_after (next name place i j) (row_steps x y v h (place + 1) i (j + 1) count) in
      let first : after (top place) ≡ v (i + 1) j =
      row_others (next name place i j) (place + 1) i (j + 1) count (top place) (λ n l m t. omega (arith, l, t)) ∙ next_left name place i j in
      ⊎_elim (λ (t : place ≡ k). ap (λ n. after (top n)) (sym t) ∙ first ∙ ap (v (i + 1)) (let u : j ≡ c = omega (arith, e, t) in u))
      (λ (t : place ≢ k). row_north (next name place i j) (place + 1) i (j + 1) count k c (omega (arith, lo, t)) (omega (arith, hi)) (omega (arith, e)))
      (cases_eq place k)

  -- ---- the grid
  first_row : (name : ℕ → ℕ) (place i rows columns : ℕ) → FitsGrid name v h place i (suc rows) columns → FitsRow name (place + rows) i 0 columns
  first_row name place i rows columns f = record {
    west = f.west (place + rows) i (omega arith) (omega arith) (omega arith);
    south = λ k c lo hi e. f.south k c (omega (arith, lo)) (omega (arith, hi)) (omega (arith, e));
  }

  other_rows : (name : ℕ → ℕ) (place i rows columns : ℕ) → FitsGrid name v h place i (suc rows) columns →
      FitsGrid (names_after name (row_steps x y v h (place + rows) i 0 columns)) v h place (i + 1) rows columns
  other_rows name place i rows columns f = record {
    west = λ k r lo hi e. row_others name (place + rows) i 0 columns (top k) (λ n l m t. omega (arith, l, t, hi)) ∙ f.west k r lo (omega (arith, hi)) (omega (arith, e));
    south = λ k c lo hi e. row_north name (place + rows) i 0 columns k c lo hi (omega (arith, e));
  }

  -- THE NODES
  pub grid_is : (name : ℕ → ℕ) (place i rows columns : ℕ) → FitsGrid name v h place i rows columns → step_nodes name (grid_steps x y v h place i rows columns) ≡ grid_nodes x y v h i rows columns
  grid_is name place i zero columns f = refl
  grid_is name place i (suc rows) columns f =
      step_nodes-append name (row_steps x y v h (place + rows) i 0 columns) (grid_steps x y v h place (i + 1) rows columns)
      ∙ ap₂ (λ ns ms. ns ++ ms) (row_is name (place + rows) i 0 columns (first_row name place i rows columns f))
      (grid_is (names_after name (row_steps x y v h (place + rows) i 0 columns)) place (i + 1) rows columns (other_rows name place i rows columns f))

  -- THE NAMES BEHIND THEM
  pub grid_follows : (name : ℕ → ℕ) (place i rows columns : ℕ) → FitsGrid name v h place i rows columns → FollowsGrid name (names_after name (grid_steps x y v h place i rows columns)) v h place i rows columns
  grid_follows name place i zero columns f = record {
    north = λ k c lo hi e some. absurd (omega (arith, some));
    east = λ k r lo hi e some. absurd (omega (arith, lo, hi));
    others = λ u d. refl;
  }
  grid_follows name place i (suc rows) columns f =
      let one = names_after name (row_steps x y v h (place + rows) i 0 columns) in
      let after = names_after one (grid_steps x y v h place (i + 1) rows columns) in
      let ih = grid_follows one place (i + 1) rows columns (other_rows name place i rows columns f) in
      let whole : (u : ℕ) → names_after name (grid_steps x y v h place i (suc rows) columns) u ≡ after u =
      λ u. ap (λ n. n u) (names_after-append name (row_steps x y v h (place + rows) i 0 columns) (grid_steps x y v h place (i + 1) rows columns)) in
      let others : (u : ℕ) → ((k : ℕ) → place ≤ k → k < place + suc rows + columns → u ≢ top k) → after u ≡ name u =
      λ u d.
      ih.others u (λ k lo hi. d k lo (omega (arith, hi)))
      ∙ row_others name (place + rows) i 0 columns u (λ k lo hi. d k (omega (arith, lo)) (omega (arith, hi))) in
      record {
        north = λ k c lo hi e some. whole (top k) ∙ north_plain one place i rows columns ih (λ n d l m t. row_north name (place + rows) i 0 columns n d l m t) k c lo hi e;
        east = λ k r lo hi e some.
            whole (top k)
            ∙ ⊎_elim
            (λ (t : place + columns + rows ≡ k).
            ih.others (top k) (λ n l m w. omega (arith, t, m, w))
            ∙ row_east name (place + rows) i 0 columns (first_row name place i rows columns f) k columns (omega (arith, t)) (omega arith)
            ∙ ap (λ n. h n columns) (let w : i ≡ r = omega (arith, e, t) in w))
            (λ (t : place + columns + rows ≢ k). ih.east k r lo (omega (arith, hi, t)) (omega (arith, e)) some)
            (cases_eq (place + columns + rows) k);
        others = λ u d. whole u ∙ others u d;
      }
    where
      north_plain : (one : ℕ → ℕ) (place i rows columns : ℕ) → FollowsGrid one (names_after one (grid_steps x y v h place (i + 1) rows columns)) v h place (i + 1) rows columns →
          ((k c : ℕ) → place + rows ≤ k → k < place + rows + columns → c + (place + rows) ≡ 0 + k → one (top k) ≡ v (i + 1) c) →
          (k c : ℕ) → place ≤ k → k < place + columns → c + place ≡ k → names_after one (grid_steps x y v h place (i + 1) rows columns) (top k) ≡ v (i + suc rows) c
      north_plain one place i zero columns ih row k c lo hi e = row k c (omega (arith, lo)) (omega (arith, hi)) (omega (arith, e)) ∙ ap (λ n. v n c) (let t : i + 1 ≡ i + suc 0 = omega arith in t)
      north_plain one place i (suc rows) columns ih row k c lo hi e = ih.north k c lo hi e (omega arith) ∙ ap (λ n. v n c) (let t : i + 1 + suc rows ≡ i + suc (suc rows) = omega arith in t)

-- ---- the word
pub Spells-append : (u w : List Letter) (s t : List Step) → Spells u s → Spells w t → Spells (u ++ w) (s ++ t)
Spells-append [] w [] t a b = b
Spells-append [] w (letter p q straight hook left right ∷ s) t a b = absurd a
Spells-append (first ∷ u) w [] t a b = absurd a
Spells-append (first ∷ u) w (letter p q straight hook left right ∷ s) t a b = (a.0, a.1, a.2, a.3, Spells-append u w s t a.4 b)
Spells-append [] w (pass p new ∷ s) t a b = spells_pass w p new (s ++ t) (Spells-append [] w s t a b)
  where
    spells_pass : (w : List Letter) (p new : ℕ) (s : List Step) → Spells w s → Spells w (pass p new ∷ s)
    spells_pass [] p new s a = a
    spells_pass (first ∷ w) p new s a = a
Spells-append (first ∷ u) w (pass p new ∷ s) t a b = Spells-append (first ∷ u) w s t a b
Spells-append [] w (join p q ∷ s) t a b = absurd a
Spells-append (first ∷ u) w (join p q ∷ s) t a b = absurd a

row_spells : (a b : ℕ) (s : Bool) (v h : ℕ → ℕ → ℕ) (place i j count : ℕ) → Spells (row a b s place count) (row_steps (crossed a b s place).straight (crossed a b s place).hook v h place i j count)
row_spells a b s v h place i j zero = tt
row_spells a b s v h place i j (suc count) = (refl, refl, refl, refl, row_spells a b s v h (place + 1) i (j + 1) count)

-- THE WORD
pub grid_spells : (a b : ℕ) (s : Bool) (v h : ℕ → ℕ → ℕ) (place i rows columns : ℕ) → Spells (grid a b s place rows columns) (grid_steps (crossed a b s place).straight (crossed a b s place).hook v h place i rows columns)
grid_spells a b s v h place i zero columns = tt
grid_spells a b s v h place i (suc rows) columns =
    Spells-append (row a b s (place + rows) columns) (grid a b s place rows columns) (row_steps (crossed a b s place).straight (crossed a b s place).hook v h (place + rows) i 0 columns)
    (grid_steps (crossed a b s place).straight (crossed a b s place).hook v h place (i + 1) rows columns)
    (row_spells a b s v h (place + rows) i 0 columns) (grid_spells a b s v h place (i + 1) rows columns)
