-- How many pieces and inner edges there are after a slide: a crossing with one strand of j becomes two, one with two strands four.
use Rattle.std.proofs.Common.{◌≡◌, ℕ, zero, suc, ◌+◌, ◌*◌, ◌==◌, ◌&&◌, ◌||◌, Bool, true, false, not, cond, List, [], ◌∷◌, ◌++◌, length, refl, ap, ap₂, ◌∙◌, arith, length-append, eq-eqb}
use Rattle.graph_parts.specs.Renaming.{replaced}
use Rattle.slide_strands.specs.declared.strand.Strand.{Strand}
use Rattle.slide_strands.specs.declared.strand.Piece.{Piece}
use Rattle.slide_strands.specs.declared.strand.Piece.TheVariants.{Crossed, Free}
use Rattle.slide_strands.specs.Strands.{alike, has_one, has_two, crossings_with}
use Rattle.slide_strands.specs.Doubling.{Slide, copy, columns, rows, grid, inner, doubled, pieces_on_side, curl_under, curl_over, curled, curls}
use Rattle.slide_strands.proofs.SignSums.{is_short, columns_short, rows_short, rows_are}
use Rattle.slide_strands.proofs.Simple.{inner_count}

abbrev once : Bool → ℕ
once b = cond b 1 0

both_long : (b c : Bool) (s t : Strand) → length (cond b (cond c (t ∷ s ∷ []) (s ∷ t ∷ [])) (s ∷ [])) ≡ cond b 2 1
both_long true true s t = refl
both_long true false s t = refl
both_long false c s t = refl

columns_long : (slide : Slide) (s : Strand) → length (columns slide s) ≡ cond (s.component == slide.over) 2 1
columns_long slide s = both_long (s.component == slide.over) (alike s.ahead slide.side) s (copy slide s)

rows_long : (slide : Slide) (s : Strand) → length (rows slide s) ≡ cond (s.component == slide.over) 2 1
rows_long slide s = ap length (rows_are slide s) ∙ both_long (s.component == slide.over) (not (alike s.ahead slide.side)) s (copy slide s)

grid_long : (n : ℕ) (rest : List Piece) (us os : List Strand) → is_short us ≡ true → is_short os ≡ true → length (grid n us os ++ rest) ≡ length us * length os + length rest
grid_long n rest [] os h k = absurd (cc)
grid_long n rest (u ∷ u' ∷ u'' ∷ us) os h k = absurd (cc)
grid_long n rest (u ∷ []) [] h k = absurd (cc)
grid_long n rest (u ∷ u' ∷ []) [] h k = absurd (cc)
grid_long n rest (u ∷ []) (o ∷ o' ∷ o'' ∷ os) h k = absurd (cc)
grid_long n rest (u ∷ u' ∷ []) (o ∷ o' ∷ o'' ∷ os) h k = absurd (cc)
grid_long n rest (u ∷ []) (o ∷ []) h k = omega arith
grid_long n rest (u ∷ []) (o ∷ o' ∷ []) h k = omega arith
grid_long n rest (u ∷ u' ∷ []) (o ∷ []) h k = omega arith
grid_long n rest (u ∷ u' ∷ []) (o ∷ o' ∷ []) h k = omega arith

-- inner edges by the numbers of columns and rows
inner_long : (us os : List Strand) → is_short us ≡ true → is_short os ≡ true → inner us os + length us + length os ≡ 2 * (length us * length os)
inner_long [] os h k = absurd (cc)
inner_long (u ∷ u' ∷ u'' ∷ us) os h k = absurd (cc)
inner_long (u ∷ []) [] h k = absurd (cc)
inner_long (u ∷ u' ∷ []) [] h k = absurd (cc)
inner_long (u ∷ []) (o ∷ o' ∷ o'' ∷ os) h k = absurd (cc)
inner_long (u ∷ u' ∷ []) (o ∷ o' ∷ o'' ∷ os) h k = absurd (cc)
inner_long (u ∷ []) (o ∷ []) h k = refl
inner_long (u ∷ []) (o ∷ o' ∷ []) h k = refl
inner_long (u ∷ u' ∷ []) (o ∷ []) h k = refl
inner_long (u ∷ u' ∷ []) (o ∷ o' ∷ []) h k = refl

four_cases : (a b : Bool) → cond a 2 1 * cond b 2 1 ≡ 1 + once (not (a && b) && (a || b)) + 3 * once (a && b)
four_cases true true = refl
four_cases true false = refl
four_cases false true = refl
four_cases false false = refl

two_cases : (a b : Bool) → cond a 2 1 + cond b 2 1 ≡ 2 + once (not (a && b) && (a || b)) + 2 * once (a && b)
two_cases true true = refl
two_cases true false = refl
two_cases false true = refl
two_cases false false = refl

module _ (slide : Slide) where
  abbrev j : ℕ
  j = slide.over

  grid_size : (u o : Strand) → length (columns slide u) * length (rows slide o) ≡ 1 + once (has_one j u.component o.component) + 3 * once (has_two j u.component o.component)
  grid_size u o = ap₂ (λ x y. x * y) (columns_long slide u) (rows_long slide o) ∙ four_cases (u.component == j) (o.component == j)

  pub doubled_length : (n : ℕ) (ps : List Piece) → length (doubled slide n ps) ≡ length ps + crossings_with (has_one j) ps + 3 * crossings_with (has_two j) ps
  doubled_length n [] = refl
  doubled_length n (Crossed u o ∷ ps) =
      let next = n + inner (columns slide u) (rows slide o) in
      let whole = grid_long n (doubled slide next ps) (columns slide u) (rows slide o) (columns_short slide u) (rows_short slide o) in
      omega (arith, whole, grid_size u o, doubled_length next ps)
  doubled_length n (Free label ∷ ps) = omega (arith, doubled_length n ps)

  pub inner_is : (ps : List Piece) → inner_count slide ps ≡ crossings_with (has_one j) ps + 4 * crossings_with (has_two j) ps
  inner_is [] = refl
  inner_is (Crossed u o ∷ ps) =
      let a = inner_long (columns slide u) (rows slide o) (columns_short slide u) (rows_short slide o) in
      let b = ap₂ (λ x y. x + y) (columns_long slide u) (rows_long slide o) ∙ two_cases (u.component == j) (o.component == j) in
      omega (arith, a, b, grid_size u o, inner_is ps)
  inner_is (Free label ∷ ps) = inner_is ps

pub side_length : (side : Bool) (h : ℕ → ℕ) (ps : List Piece) → length (pieces_on_side side h ps) ≡ length ps
side_length side h [] = refl
side_length side h (Crossed u o ∷ ps) = ap (λ (n : ℕ). suc n) (side_length side h ps)
side_length side h (Free label ∷ ps) = ap (λ (n : ℕ). suc n) (side_length side h ps)

side_count : (test : ℕ → ℕ → Bool) (side : Bool) (h : ℕ → ℕ) (ps : List Piece) → crossings_with test (pieces_on_side side h ps) ≡ crossings_with test ps
side_count test side h [] = refl
side_count test side h (Crossed u o ∷ ps) = ap (λ n. once (test u.component o.component) + n) (side_count test side h ps)
side_count test side h (Free label ∷ ps) = side_count test side h ps

push_count : (test : ℕ → ℕ → Bool) (u o : Strand) (ps : List Piece) → crossings_with test (ps ++ Crossed u o ∷ []) ≡ crossings_with test ps + once (test u.component o.component)
push_count test u o [] = omega arith
push_count test u o (Crossed v w ∷ ps) = omega (arith, push_count test u o ps)
push_count test u o (Free label ∷ ps) = push_count test u o ps

-- ---- curls
module _ (plus : Bool) (f j : ℕ) (entered : Bool) where
  over_of : (b : Bool) (n : ℕ) → (curl_over b j n entered).component ≡ j
  over_of true n = refl
  over_of false n = refl

  curled_count : (test : ℕ → ℕ → Bool) (n : ℕ) (ps : List Piece) → crossings_with test (curled plus f j entered n ps) ≡ crossings_with test ps + once (test j j)
  curled_count test n ps =
      push_count test (curl_under f j n entered) (curl_over plus j n entered) (pieces_on_side entered (replaced f (n + 1)) ps)
      ∙ ap₂ (λ x y. x + y) (side_count test entered (replaced f (n + 1)) ps) (ap (λ c. once (test j c)) (over_of plus n))

  -- so many curls: as many more crossings with two strands of j
  pub curls_one : (k n : ℕ) (ps : List Piece) → crossings_with (has_one j) (curls plus f j entered k n ps) ≡ crossings_with (has_one j) ps
  curls_one zero n ps = refl
  curls_one (suc k) n ps =
      curls_one k (n + 2) (curled plus f j entered n ps)
      ∙ (curled_count (has_one j) n ps
      ∙ (let none : once (has_one j j j) ≡ 0 = ap (λ (b : Bool). once (not (b && b) && (b || b))) (eq-eqb j j refl) in omega (arith, none)))

  pub curls_two : (k n : ℕ) (ps : List Piece) → crossings_with (has_two j) (curls plus f j entered k n ps) ≡ crossings_with (has_two j) ps + k
  curls_two zero n ps = omega arith
  curls_two (suc k) n ps =
      let ih = curls_two k (n + 2) (curled plus f j entered n ps) in
      let here = curled_count (has_two j) n ps in
      let yes : once (has_two j j j) ≡ 1 = ap (λ (b : Bool). once (b && b)) (eq-eqb j j refl) in
      omega (arith, ih, here, yes)

  pub curls_length : (k n : ℕ) (ps : List Piece) → length (curls plus f j entered k n ps) ≡ length ps + k
  curls_length zero n ps = omega arith
  curls_length (suc k) n ps =
      let ih = curls_length k (n + 2) (curled plus f j entered n ps) in
      let push = length-append (pieces_on_side entered (replaced f (n + 1)) ps) (Crossed (curl_under f j n entered) (curl_over plus j n entered) ∷ []) in
      omega (arith, ih, push, side_length entered (replaced f (n + 1)) ps)
