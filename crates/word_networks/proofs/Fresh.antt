-- Steps may be taken where their points are there, and the names that they give are new and stand once.
use Rattle.std.proofs.Common.{◌≡◌, ℕ, zero, suc, ◌+◌, ◌<◌, ◌≤◌, Bool, true, false, ◌==◌, ◌||◌, List, [], ◌∷◌, ◌++◌, refl, sym, ap, ◌∙◌, arith, ⊎_elim, ◌⊎◌, inl, inr, subst}
use Rattle.std.specs.Set.{is_member}
use Rattle.std.proofs.lemmas.Bool.{cases_Bool, eqb-true, or_cases}
use Rattle.std.proofs.lemmas.Bool.Decides.{nat_tests}
use Rattle.graph_parts.proofs.Distinct.{is_member-append}
use Rattle.strand_words.specs.Words.{top}
use Rattle.word_networks.specs.GridNetworks.{row_steps, grid_steps, AreGridNames}
use Rattle.word_networks.specs.Steps.{Step, letter, pass, join, without, points_after, AreSteps, new_names, AreDistinct, HavePoints}

-- the names are not among those
abbrev pub AreApart : List ℕ → List ℕ → Type 0
AreApart seen xs = (z : ℕ) → is_member ◌==◌ xs z ≡ true → is_member ◌==◌ seen z ≡ false

head_apart : (seen xs : List ℕ) (x : ℕ) → AreApart seen (x ∷ xs) → (is_member ◌==◌ seen x ≡ false) × AreApart seen xs
head_apart seen xs x h = (h x (grind (arith, nat_tests)), (λ z m. h z (grind (arith, m))))

next_apart : (seen xs : List ℕ) (x : ℕ) → AreApart seen xs → is_member ◌==◌ xs x ≡ false → AreApart (x ∷ seen) xs
next_apart seen xs x h n z m =
    let a = h z m in
    let b = λ (e : z ≡ x). sym (ap (is_member ◌==◌ xs) e) ∙ m in
    grind (arith, nat_tests, a, b, n)

-- NEW NAMES
pub AreSteps-from : (points seen : List ℕ) (steps : List Step) → HavePoints points steps → AreDistinct (new_names steps) → AreApart seen (new_names steps) → AreSteps points seen steps
AreSteps-from points seen [] p d a = tt
AreSteps-from points seen (letter x y straight hook left right ∷ steps) p d a =
    let one = head_apart seen (left ∷ new_names steps) right a in
    let two = head_apart seen (new_names steps) left one.1 in
    let first = next_apart seen (left ∷ new_names steps) right one.1 d.0 in (
      (p.0, p.1, p.2, one.0, (head_apart (right ∷ seen) (new_names steps) left first).0),
      AreSteps-from points (left ∷ right ∷ seen) steps p.3 d.1.1 (next_apart (right ∷ seen) (new_names steps) left (head_apart (right ∷ seen) (new_names steps) left first).1 d.1.0),
    )
AreSteps-from points seen (pass x new ∷ steps) p d a =
    let one = head_apart seen (new_names steps) new a in
    ((p.0, one.0), AreSteps-from points (new ∷ seen) steps p.1 d.1 (next_apart seen (new_names steps) new one.1 d.0))
AreSteps-from points seen (join x y ∷ steps) p d a = ((p.0, p.1, p.2), AreSteps-from (without x y points) seen steps p.3 d a)

-- ---- joined steps
pub new_names-append : (s t : List Step) → new_names (s ++ t) ≡ new_names s ++ new_names t
new_names-append [] t = refl
new_names-append (letter p q straight hook left right ∷ s) t = ap (λ ns. right ∷ left ∷ ns) (new_names-append s t)
new_names-append (pass p new ∷ s) t = ap (λ ns. new ∷ ns) (new_names-append s t)
new_names-append (join p q ∷ s) t = new_names-append s t

pub AreDistinct-append : (xs ys : List ℕ) → AreDistinct xs → AreDistinct ys → AreApart ys xs → AreDistinct (xs ++ ys)
AreDistinct-append [] ys a b c = b
AreDistinct-append (x ∷ xs) ys a b c =
    let h = head_apart ys xs x c in
    let e = is_member-append xs ys x in
    (e ∙ either_false _ _ a.0 h.0, AreDistinct-append xs ys a.1 b h.1)
  where
    either_false : (u v : Bool) → u ≡ false → v ≡ false → (u || v) ≡ false
    either_false u v e f = grind (arith, e, f)

not_member : (xs : List ℕ) (x : ℕ) → (is_member ◌==◌ xs x ≡ true → ⊥) → is_member ◌==◌ xs x ≡ false
not_member xs x h = ⊎_elim (λ t. absurd (h t)) (λ f. f) (cases_Bool (is_member ◌==◌ xs x))

-- ---- the names of a grid
module _ (x y : ℕ) (v h : ℕ → ℕ → ℕ) where
  -- the names of a row from column j on
  abbrev RowName : ℕ → ℕ → ℕ → ℕ → Type 0
  RowName i j last z = ((k : ℕ) × (j ≤ k) × (k < last) × (z ≡ v (i + 1) k)) ⊎ ((k : ℕ) × (j < k) × (k ≤ last) × (z ≡ h i k))

  wider : (i j last z : ℕ) → RowName i (j + 1) last z → RowName i j last z
  wider i j last z (inl w) = inl (w.0, (let l = w.1 in omega (arith, l)), w.2, w.3)
  wider i j last z (inr w) = inr (w.0, (let l = w.1 in omega (arith, l)), w.2, w.3)

  in_row : (place i j count last z : ℕ) → last ≡ j + count → is_member ◌==◌ (new_names (row_steps x y v h place i j count)) z ≡ true → RowName i j last z
  in_row place i j zero last z e m = absurd (grind (arith, m))
  in_row place i j (suc count) last z e m =
      ⊎_elim (λ t. inr (j + 1, omega arith, omega (arith, e), eqb-true z (h i (j + 1)) t))
      (λ r. ⊎_elim (λ t. inl (j, omega arith, omega (arith, e), eqb-true z (v (i + 1) j) t))
      (λ s. wider i j last z (in_row (place + 1) i (j + 1) count last z (omega (arith, e)) s))
      (or_cases (z == v (i + 1) j) (is_member ◌==◌ (new_names (row_steps x y v h (place + 1) i (j + 1) count)) z) r))
      (or_cases (z == h i (j + 1)) (is_member ◌==◌ (v (i + 1) j ∷ new_names (row_steps x y v h (place + 1) i (j + 1) count)) z) m)

  pub in_grid : (place i rows columns last z : ℕ) → last ≡ i + rows → is_member ◌==◌ (new_names (grid_steps x y v h place i rows columns)) z ≡ true →
      ((k : ℕ) × (j : ℕ) × (i < k) × (k ≤ last) × (j < columns) × (z ≡ v k j)) ⊎ ((k : ℕ) × (j : ℕ) × (i ≤ k) × (k < last) × (0 < j) × (j ≤ columns) × (z ≡ h k j))
  in_grid place i zero columns last z e m = absurd (grind (arith, m))
  in_grid place i (suc rows) columns last z e m =
      let first = new_names (row_steps x y v h (place + rows) i 0 columns) in
      let rest = new_names (grid_steps x y v h place (i + 1) rows columns) in
      let split : (is_member ◌==◌ first z || is_member ◌==◌ rest z) ≡ true =
      sym (is_member-append first rest z) ∙ ap (λ ns. is_member ◌==◌ ns z) (sym (new_names-append (row_steps x y v h (place + rows) i 0 columns) (grid_steps x y v h place (i + 1) rows columns))) ∙ m in
      ⊎_elim
      (λ t. ⊎_elim (λ w. inl (i + 1, w.0, omega arith, omega (arith, e), w.2, w.3)) (λ w. inr (i, w.0, omega arith, omega (arith, e), w.1, w.2, w.3))
      (in_row (place + rows) i 0 columns columns z (omega arith) t))
      (λ t. ⊎_elim (λ w. inl (w.0, w.1, (let l = w.2 in omega (arith, l)), w.3, w.4, w.5)) (λ w. inr (w.0, w.1, (let l = w.2 in omega (arith, l)), w.3, w.4, w.5, w.6))
      (in_grid place (i + 1) rows columns last z (omega (arith, e)) t))
      (or_cases (is_member ◌==◌ first z) (is_member ◌==◌ rest z) split)

  module _ (total_rows total_columns : ℕ) (names : AreGridNames v h total_rows total_columns) where
    row_distinct : (place i j count : ℕ) → i < total_rows → j + count ≤ total_columns → AreDistinct (new_names (row_steps x y v h place i j count))
    row_distinct place i j zero l e = tt
    row_distinct place i j (suc count) l e =
        let rest = new_names (row_steps x y v h (place + 1) i (j + 1) count) in
        let left = v (i + 1) j in
        let right = h i (j + 1) in
        let named : (z : ℕ) → is_member ◌==◌ rest z ≡ true → RowName i (j + 1) (j + 1 + count) z = λ z m. in_row (place + 1) i (j + 1) count (j + 1 + count) z refl m in
        let no_left : is_member ◌==◌ rest left ≡ true → ⊥ =
        λ m.
        ⊎_elim (λ w. (let lo = w.1 in let hi = w.2 in let t = names.vertical (i + 1) j (i + 1) w.0 (omega arith) (omega (arith, l)) (omega (arith, e)) (omega arith) (omega (arith, l)) (omega (arith, hi, e)) w.3 in let q = t.1 in omega (arith, q, lo)))
        (λ w. (let lo = w.1 in let hi = w.2 in names.apart (i + 1) j i w.0 (omega arith) (omega (arith, l)) (omega (arith, e)) l (omega (arith, lo)) (omega (arith, hi, e)) w.3)) (named left m) in
        let no_right : is_member ◌==◌ (left ∷ rest) right ≡ true → ⊥ =
        λ m.
        ⊎_elim (λ t. names.apart (i + 1) j i (j + 1) (omega arith) (omega (arith, l)) (omega (arith, e)) l (omega arith) (omega (arith, e)) (sym (eqb-true right left t)))
        (λ k.
        ⊎_elim (λ w. (let lo = w.1 in let hi = w.2 in names.apart (i + 1) w.0 i (j + 1) (omega arith) (omega (arith, l)) (omega (arith, hi, e)) l (omega arith) (omega (arith, e)) (sym w.3)))
        (λ w. (let lo = w.1 in let hi = w.2 in let t = names.horizontal i (j + 1) i w.0 l (omega arith) (omega (arith, e)) l (omega (arith, lo)) (omega (arith, hi, e)) w.3 in let q = t.1 in omega (arith, q, lo))) (named right k))
        (or_cases (right == left) (is_member ◌==◌ rest right) m) in
        (not_member (left ∷ rest) right no_right, (not_member rest left no_left, row_distinct (place + 1) i (j + 1) count l (omega (arith, e))))

    -- THE NAMES OF A GRID ARE APART
    pub grid_distinct : (place i rows columns : ℕ) → i + rows ≤ total_rows → columns ≤ total_columns → AreDistinct (new_names (grid_steps x y v h place i rows columns))
    grid_distinct place i zero columns l e = tt
    grid_distinct place i (suc rows) columns l e =
        let first = new_names (row_steps x y v h (place + rows) i 0 columns) in
        let rest = new_names (grid_steps x y v h place (i + 1) rows columns) in
        let clash : (z : ℕ) → RowName i 0 columns z → is_member ◌==◌ rest z ≡ true → ⊥ =
        λ z r m.
        ⊎_elim
        (λ (w : (k : ℕ) × (j : ℕ) × (i + 1 < k) × (k ≤ i + 1 + rows) × (j < columns) × (z ≡ v k j)).
        (let lo = w.2 in let hi = w.3 in let wj = w.4 in
        ⊎_elim (λ u. (let ub = u.2 in let t = names.vertical (i + 1) u.0 w.0 w.1 (omega arith) (omega (arith, l)) (omega (arith, ub, e)) (omega (arith, lo)) (omega (arith, hi, l)) (omega (arith, wj, e)) (sym u.3 ∙ w.5) in let q = t.0 in omega (arith, q, lo)))
        (λ u. (let ua = u.1 in let ub = u.2 in names.apart w.0 w.1 i u.0 (omega (arith, lo)) (omega (arith, hi, l)) (omega (arith, wj, e)) (omega (arith, l)) ua (omega (arith, ub, e)) (sym w.5 ∙ u.3))) r))
        (λ (w : (k : ℕ) × (j : ℕ) × (i + 1 ≤ k) × (k < i + 1 + rows) × (0 < j) × (j ≤ columns) × (z ≡ h k j)).
        (let lo = w.2 in let hi = w.3 in let wa = w.4 in let wb = w.5 in
        ⊎_elim (λ u. (let ub = u.2 in names.apart (i + 1) u.0 w.0 w.1 (omega arith) (omega (arith, l)) (omega (arith, ub, e)) (omega (arith, hi, l)) wa (omega (arith, wb, e)) (sym u.3 ∙ w.6)))
        (λ u. (let ua = u.1 in let ub = u.2 in let t = names.horizontal i u.0 w.0 w.1 (omega (arith, l)) ua (omega (arith, ub, e)) (omega (arith, hi, l)) wa (omega (arith, wb, e)) (sym u.3 ∙ w.6) in let q = t.0 in omega (arith, q, lo))) r))
        (in_grid place (i + 1) rows columns (i + 1 + rows) z refl m) in
        subst AreDistinct (sym (new_names-append (row_steps x y v h (place + rows) i 0 columns) (grid_steps x y v h place (i + 1) rows columns)))
        (AreDistinct-append first rest (row_distinct (place + rows) i 0 columns (omega (arith, l)) (omega (arith, e))) (grid_distinct place (i + 1) rows columns (omega (arith, l)) e)
        (λ z m. not_member rest z (clash z (in_row (place + rows) i 0 columns columns z (omega arith) m))))

-- ---- the points of a grid
pub HavePoints-append : (points : List ℕ) (s t : List Step) → HavePoints points s → HavePoints (points_after points s) t → HavePoints points (s ++ t)
HavePoints-append points [] t a b = b
HavePoints-append points (letter p q straight hook left right ∷ s) t a b = (a.0, a.1, a.2, HavePoints-append points s t a.3 b)
HavePoints-append points (pass p new ∷ s) t a b = (a.0, HavePoints-append points s t a.1 b)
HavePoints-append points (join p q ∷ s) t a b = (a.0, a.1, a.2, HavePoints-append (without p q points) s t a.3 b)

row_points : (points : List ℕ) (x y : ℕ) (v h : ℕ → ℕ → ℕ) (place i j count : ℕ) → points_after points (row_steps x y v h place i j count) ≡ points
row_points points x y v h place i j zero = refl
row_points points x y v h place i j (suc count) = row_points points x y v h (place + 1) i (j + 1) count

row_have : (points : List ℕ) (x y : ℕ) (v h : ℕ → ℕ → ℕ) (place i j count : ℕ) → ((k : ℕ) → place ≤ k → k ≤ place + count → is_member ◌==◌ points (top k) ≡ true) → HavePoints points (row_steps x y v h place i j count)
row_have points x y v h place i j zero m = tt
row_have points x y v h place i j (suc count) m = (
  (λ t. omega (arith, t)),
  m place (omega arith) (omega arith),
  m (place + 1) (omega arith) (omega arith),
  row_have points x y v h (place + 1) i (j + 1) count (λ k lo hi. m k (omega (arith, lo)) (omega (arith, hi))),
)

-- THE POINTS OF A GRID ARE THERE
pub grid_have : (points : List ℕ) (x y : ℕ) (v h : ℕ → ℕ → ℕ) (place i rows columns : ℕ) → ((k : ℕ) → place ≤ k → k < place + rows + columns → is_member ◌==◌ points (top k) ≡ true) → HavePoints points (grid_steps x y v h place i rows columns)
grid_have points x y v h place i zero columns m = tt
grid_have points x y v h place i (suc rows) columns m =
    HavePoints-append points (row_steps x y v h (place + rows) i 0 columns) (grid_steps x y v h place (i + 1) rows columns)
    (row_have points x y v h (place + rows) i 0 columns (λ k lo hi. m k (omega (arith, lo)) (omega (arith, hi))))
    (subst (λ ps. HavePoints ps (grid_steps x y v h place (i + 1) rows columns)) (sym (row_points points x y v h (place + rows) i 0 columns))
    (grid_have points x y v h place (i + 1) rows columns (λ k lo hi. m k lo (omega (arith, hi)))))
