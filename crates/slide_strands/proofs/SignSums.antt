-- The sums of signs after a slide. The sign of a crossing is a product of a sign for each strand, so that the sum over
-- a grid is the product of the sums over its columns and its rows, and each of these is the old one and that of the copy.
use Rattle.std.proofs.Common.{◌≡◌, ℕ, ◌+◌, ◌==◌, Bool, true, false, not, cond, List, [], ◌∷◌, ◌++◌, ℤ, pos, negsuc, ◌+ℤ◌, ◌*ℤ◌, refl, sym, ap, ap₂, ◌∙◌, arith}
use Rattle.std.proofs.lemmas.Int.{ints}
use Rattle.ring_identities.proofs.Integers.{times_plus, one_times}
use Rattle.ring_identities.proofs.Identities.{reads, by_ring}
use Rattle.slide_strands.specs.declared.strand.Strand.{Strand}
use Rattle.slide_strands.specs.declared.strand.Piece.{Piece}
use Rattle.slide_strands.specs.declared.strand.Piece.TheVariants.{Crossed, Free}
use Rattle.slide_strands.specs.Strands.{alike, sign_of, delta, ordered_sum}
use Rattle.slide_strands.specs.Doubling.{Slide, copy, columns, rows, grid, inner, doubled, exchanged, pieces_on_side}
use Rattle.slide_strands.specs.Laws.{sense, DoubledSignsLaw}

-- ---- a sign for each strand
abbrev one : Bool → ℤ
one b = cond b (pos 1) (negsuc 0)

sign_product : (x y : Bool) → sign_of x y ≡ one x *ℤ one y
sign_product true true = refl
sign_product true false = refl
sign_product false true = refl
sign_product false false = refl

alike_one : (x y : Bool) → one (alike x y) ≡ one x *ℤ one y
alike_one true true = refl
alike_one true false = refl
alike_one false true = refl
alike_one false false = refl

one_square : (x : Bool) → one x *ℤ one x ≡ pos 1
one_square true = refl
one_square false = refl

-- what a strand adds at component a
abbrev weight : ℕ → Strand → ℤ
weight a s = one s.ahead *ℤ delta s.component a

abbrev weights : ℕ → List Strand → ℤ
weights a [] = pos 0
weights a (s ∷ ss) = weight a s +ℤ weights a ss

product_of : (x y d e : ℤ) → (x *ℤ y) *ℤ (d *ℤ e) ≡ (x *ℤ d) *ℤ (y *ℤ e)
product_of x y d e = by_ring (x ∷ y ∷ d ∷ e ∷ []) (search reads depth 30) (search reads depth 30) refl

crossing_sum : (a b : ℕ) (u o : Strand) → sign_of u.ahead o.ahead *ℤ (delta u.component a *ℤ delta o.component b) ≡ weight a u *ℤ weight b o
crossing_sum a b u o =
    ap (λ z. z *ℤ (delta u.component a *ℤ delta o.component b)) (sign_product u.ahead o.ahead)
    ∙ product_of (one u.ahead) (one o.ahead) (delta u.component a) (delta o.component b)

-- ---- grids
abbrev pub is_short : List Strand → Bool
is_short [] = false
is_short (u ∷ []) = true
is_short (u ∷ u' ∷ []) = true
is_short (u ∷ u' ∷ u'' ∷ us) = false

one_one : (x y r : ℤ) → x *ℤ y +ℤ r ≡ (x +ℤ pos 0) *ℤ (y +ℤ pos 0) +ℤ r
one_one x y r = by_ring (x ∷ y ∷ r ∷ []) (search reads depth 30) (search reads depth 30) refl

one_two : (x y z r : ℤ) → x *ℤ y +ℤ (x *ℤ z +ℤ r) ≡ (x +ℤ pos 0) *ℤ (y +ℤ (z +ℤ pos 0)) +ℤ r
one_two x y z r = by_ring (x ∷ y ∷ z ∷ r ∷ []) (search reads depth 30) (search reads depth 30) refl

two_one : (w x y r : ℤ) → w *ℤ y +ℤ (x *ℤ y +ℤ r) ≡ (w +ℤ (x +ℤ pos 0)) *ℤ (y +ℤ pos 0) +ℤ r
two_one w x y r = by_ring (w ∷ x ∷ y ∷ r ∷ []) (search reads depth 30) (search reads depth 30) refl

two_two : (w x y z r : ℤ) → w *ℤ y +ℤ (x *ℤ y +ℤ (w *ℤ z +ℤ (x *ℤ z +ℤ r))) ≡ (w +ℤ (x +ℤ pos 0)) *ℤ (y +ℤ (z +ℤ pos 0)) +ℤ r
two_two w x y z r = by_ring (w ∷ x ∷ y ∷ z ∷ r ∷ []) (search reads depth 30) (search reads depth 30) refl

module _ (a b : ℕ) (n : ℕ) (rest : List Piece) where
  abbrev r : ℤ
  r = ordered_sum a b rest

  grid_sum : (us os : List Strand) → is_short us ≡ true → is_short os ≡ true → ordered_sum a b (grid n us os ++ rest) ≡ weights a us *ℤ weights b os +ℤ r
  grid_sum [] os h k = absurd (cc)
  grid_sum (u ∷ u' ∷ u'' ∷ us) os h k = absurd (cc)
  grid_sum (u ∷ []) [] h k = absurd (cc)
  grid_sum (u ∷ u' ∷ []) [] h k = absurd (cc)
  grid_sum (u ∷ []) (o ∷ o' ∷ o'' ∷ os) h k = absurd (cc)
  grid_sum (u ∷ u' ∷ []) (o ∷ o' ∷ o'' ∷ os) h k = absurd (cc)
  grid_sum (u ∷ []) (o ∷ []) h k = ap (λ z. z +ℤ r) (crossing_sum a b u o) ∙ one_one (weight a u) (weight b o) r
  grid_sum (u ∷ []) (o ∷ o' ∷ []) h k =
      ap₂ (λ z y. z +ℤ (y +ℤ r)) (crossing_sum a b u o) (crossing_sum a b u o') ∙ one_two (weight a u) (weight b o) (weight b o') r
  grid_sum (u ∷ u' ∷ []) (o ∷ []) h k =
      ap₂ (λ z y. z +ℤ (y +ℤ r)) (crossing_sum a b u o) (crossing_sum a b u' o) ∙ two_one (weight a u) (weight a u') (weight b o) r
  grid_sum (u ∷ u' ∷ []) (o ∷ o' ∷ []) h k =
      ap₂ (λ z y. z +ℤ (y +ℤ (sign_of u.ahead o'.ahead *ℤ (delta u.component a *ℤ delta o'.component b) +ℤ (sign_of u'.ahead o'.ahead *ℤ (delta u'.component a *ℤ delta o'.component b) +ℤ r)))) (crossing_sum a b u o) (crossing_sum a b u' o)
      ∙ (ap₂ (λ z y. weight a u *ℤ weight b o +ℤ (weight a u' *ℤ weight b o +ℤ (z +ℤ (y +ℤ r)))) (crossing_sum a b u o') (crossing_sum a b u' o')
      ∙ two_two (weight a u) (weight a u') (weight b o) (weight b o') r)

-- ---- other ends
pub side_sum : (a b : ℕ) (back : Bool) (h : ℕ → ℕ) (pieces : List Piece) → ordered_sum a b (pieces_on_side back h pieces) ≡ ordered_sum a b pieces
side_sum a b back h [] = refl
side_sum a b back h (Crossed u o ∷ pieces) = ap (λ z. (sign_of u.ahead o.ahead *ℤ (delta u.component a *ℤ delta o.component b)) +ℤ z) (side_sum a b back h pieces)
side_sum a b back h (Free label ∷ pieces) = side_sum a b back h pieces

-- ---- columns and rows
module _ (slide : Slide) where
  abbrev j : ℕ
  j = slide.over

  -- the copy adds at the component onto which it is slid
  abbrev copied_weight : ℕ → Strand → ℤ
  copied_weight a s = (sense slide *ℤ delta slide.onto a) *ℤ weight j s

  doubled_short : (b c : Bool) (s t : Strand) → is_short (cond b (cond c (t ∷ s ∷ []) (s ∷ t ∷ [])) (s ∷ [])) ≡ true
  doubled_short true true s t = refl
  doubled_short true false s t = refl
  doubled_short false c s t = refl

  swap_two : (x y : ℤ) → x +ℤ (y +ℤ pos 0) ≡ y +ℤ x
  swap_two x y = omega (arith, ints)

  keep_two : (x y : ℤ) → x +ℤ (y +ℤ pos 0) ≡ x +ℤ y
  keep_two x y = omega (arith, ints)

  both_weights : (a : ℕ) (b c : Bool) (s t : Strand) (w : ℤ) → (b ≡ true → weight a t ≡ w) → (b ≡ false → w ≡ pos 0) →
      weights a (cond b (cond c (t ∷ s ∷ []) (s ∷ t ∷ [])) (s ∷ [])) ≡ weight a s +ℤ w
  both_weights a true true s t w h k = swap_two (weight a t) (weight a s) ∙ ap (λ z. weight a s +ℤ z) (h refl)
  both_weights a true false s t w h k = keep_two (weight a s) (weight a t) ∙ ap (λ z. weight a s +ℤ z) (h refl)
  both_weights a false c s t w h k = ap (λ z. weight a s +ℤ z) (sym (k refl))

  sense_one : sense slide ≡ one slide.along
  sense_one = refl

  copy_weight_ring : (x y d : ℤ) → (x *ℤ y) *ℤ d ≡ (x *ℤ d) *ℤ (y *ℤ pos 1)
  copy_weight_ring x y d = by_ring (x ∷ y ∷ d ∷ []) (search reads depth 30) (search reads depth 30) refl

  of_over : (s : Strand) → (s.component == j) ≡ true → delta s.component j ≡ pos 1
  of_over s h = ap (λ (b : Bool). cond b (pos 1) (pos 0)) h

  not_over : (s : Strand) → (s.component == j) ≡ false → delta s.component j ≡ pos 0
  not_over s h = ap (λ (b : Bool). cond b (pos 1) (pos 0)) h

  copy_weight : (a : ℕ) (s : Strand) → (s.component == j) ≡ true → weight a (copy slide s) ≡ copied_weight a s
  copy_weight a s h =
      ap (λ z. z *ℤ delta slide.onto a) (alike_one slide.along s.ahead)
      ∙ (copy_weight_ring (one slide.along) (one s.ahead) (delta slide.onto a)
      ∙ ap (λ z. (sense slide *ℤ delta slide.onto a) *ℤ (one s.ahead *ℤ z)) (sym (of_over s h)))

  no_copy_ring : (x y : ℤ) → x *ℤ (y *ℤ pos 0) ≡ pos 0
  no_copy_ring x y = by_ring (x ∷ y ∷ []) (search reads depth 30) (search reads depth 30) refl

  no_copy : (a : ℕ) (s : Strand) → (s.component == j) ≡ false → copied_weight a s ≡ pos 0
  no_copy a s h =
      ap (λ z. (sense slide *ℤ delta slide.onto a) *ℤ (one s.ahead *ℤ z)) (not_over s h)
      ∙ no_copy_ring (sense slide *ℤ delta slide.onto a) (one s.ahead)

  column_weights : (a : ℕ) (s : Strand) → weights a (columns slide s) ≡ weight a s +ℤ copied_weight a s
  column_weights a s = both_weights a (s.component == j) (alike s.ahead slide.side) s (copy slide s) (copied_weight a s) (copy_weight a s) (no_copy a s)

  pub not_cond : {A : Type 0} (c : Bool) (x y : A) → cond c x y ≡ cond (not c) y x
  not_cond true x y = refl
  not_cond false x y = refl

  pub rows_are : (s : Strand) → rows slide s ≡ cond (s.component == j) (cond (not (alike s.ahead slide.side)) (copy slide s ∷ s ∷ []) (s ∷ copy slide s ∷ [])) (s ∷ [])
  rows_are s = ap (λ (ss : List Strand). cond (s.component == j) ss (s ∷ [])) (not_cond (alike s.ahead slide.side) (s ∷ copy slide s ∷ []) (copy slide s ∷ s ∷ []))

  row_weights : (a : ℕ) (s : Strand) → weights a (rows slide s) ≡ weight a s +ℤ copied_weight a s
  row_weights a s =
      ap (weights a) (rows_are s)
      ∙ both_weights a (s.component == j) (not (alike s.ahead slide.side)) s (copy slide s) (copied_weight a s) (copy_weight a s) (no_copy a s)

  pub columns_short : (s : Strand) → is_short (columns slide s) ≡ true
  columns_short s = doubled_short (s.component == j) (alike s.ahead slide.side) s (copy slide s)

  pub rows_short : (s : Strand) → is_short (rows slide s) ≡ true
  rows_short s = ap is_short (rows_are s) ∙ doubled_short (s.component == j) (not (alike s.ahead slide.side)) s (copy slide s)

  -- ---- all crossings
  expand : (p q x y z w : ℤ) → (x +ℤ p *ℤ y) *ℤ (z +ℤ q *ℤ w) ≡ ((x *ℤ z +ℤ p *ℤ (y *ℤ z)) +ℤ q *ℤ (x *ℤ w)) +ℤ (p *ℤ q) *ℤ (y *ℤ w)
  expand p q x y z w = by_ring (p ∷ q ∷ x ∷ y ∷ z ∷ w ∷ []) (search reads depth 30) (search reads depth 30) refl

  gather : (p q r x y z w x' y' z' w' : ℤ) →
      (((x +ℤ p *ℤ y) +ℤ q *ℤ z) +ℤ r *ℤ w) +ℤ (((x' +ℤ p *ℤ y') +ℤ q *ℤ z') +ℤ r *ℤ w')
      ≡ (((x +ℤ x') +ℤ p *ℤ (y +ℤ y')) +ℤ q *ℤ (z +ℤ z')) +ℤ r *ℤ (w +ℤ w')
  gather p q r x y z w x' y' z' w' = omega (arith, ints, times_plus p y y', times_plus q z z', times_plus r w w')

  both_senses : (x d e : ℤ) → x *ℤ x ≡ pos 1 → (x *ℤ d) *ℤ (x *ℤ e) ≡ d *ℤ e
  both_senses x d e h = sym (product_of x x d e) ∙ (ap (λ z. z *ℤ (d *ℤ e)) h ∙ one_times (d *ℤ e))

  module _ (a b : ℕ) where
    abbrev p : ℤ
    p = sense slide *ℤ delta slide.onto a

    abbrev q : ℤ
    q = sense slide *ℤ delta slide.onto b

    abbrev moved : List Piece → ℤ
    moved pieces = ((ordered_sum a b pieces +ℤ p *ℤ ordered_sum j b pieces) +ℤ q *ℤ ordered_sum a j pieces) +ℤ (delta slide.onto a *ℤ delta slide.onto b) *ℤ ordered_sum j j pieces

    four_sums : (u o : Strand) →
        ((weight a u *ℤ weight b o +ℤ p *ℤ (weight j u *ℤ weight b o)) +ℤ q *ℤ (weight a u *ℤ weight j o)) +ℤ (p *ℤ q) *ℤ (weight j u *ℤ weight j o)
        ≡ moved (Crossed u o ∷ [])
    four_sums u o =
        let none : (z : ℤ) → z ≡ z +ℤ pos 0 = λ z. omega (arith, ints) in
        let at : (c d : ℕ) → weight c u *ℤ weight d o ≡ ordered_sum c d (Crossed u o ∷ []) = λ c d. sym (crossing_sum c d u o) ∙ none _ in
        ap₂ (λ x y. ((x +ℤ p *ℤ y) +ℤ q *ℤ (weight a u *ℤ weight j o)) +ℤ (p *ℤ q) *ℤ (weight j u *ℤ weight j o)) (at a b) (at j b)
        ∙ (ap₂ (λ x y. ((ordered_sum a b (Crossed u o ∷ []) +ℤ p *ℤ ordered_sum j b (Crossed u o ∷ [])) +ℤ q *ℤ x) +ℤ (p *ℤ q) *ℤ y) (at a j) (at j j)
        ∙ ap (λ x. ((ordered_sum a b (Crossed u o ∷ []) +ℤ p *ℤ ordered_sum j b (Crossed u o ∷ [])) +ℤ q *ℤ ordered_sum a j (Crossed u o ∷ [])) +ℤ x *ℤ ordered_sum j j (Crossed u o ∷ []))
        (both_senses (sense slide) (delta slide.onto a) (delta slide.onto b) (one_square slide.along)))

    one_more : (u o : Strand) (pieces : List Piece) → moved (Crossed u o ∷ []) +ℤ moved pieces ≡ moved (Crossed u o ∷ pieces)
    one_more u o pieces =
        let none : (z : ℤ) → z +ℤ pos 0 ≡ z = λ z. omega (arith, ints) in
        gather p q (delta slide.onto a *ℤ delta slide.onto b) _ _ _ _ (ordered_sum a b pieces) (ordered_sum j b pieces) (ordered_sum a j pieces) (ordered_sum j j pieces)
        ∙ (ap₂ (λ x y. (((x +ℤ ordered_sum a b pieces) +ℤ p *ℤ (y +ℤ ordered_sum j b pieces)) +ℤ q *ℤ (ordered_sum a j (Crossed u o ∷ []) +ℤ ordered_sum a j pieces)) +ℤ (delta slide.onto a *ℤ delta slide.onto b) *ℤ (ordered_sum j j (Crossed u o ∷ []) +ℤ ordered_sum j j pieces)) (none _) (none _)
        ∙ ap₂ (λ x y. ((ordered_sum a b (Crossed u o ∷ pieces) +ℤ p *ℤ ordered_sum j b (Crossed u o ∷ pieces)) +ℤ q *ℤ (x +ℤ ordered_sum a j pieces)) +ℤ (delta slide.onto a *ℤ delta slide.onto b) *ℤ (y +ℤ ordered_sum j j pieces)) (none _) (none _))

    doubled_sum : (n : ℕ) (pieces : List Piece) → ordered_sum a b (doubled slide n pieces) ≡ moved pieces
    doubled_sum n [] = by_ring (p ∷ q ∷ delta slide.onto a ∷ delta slide.onto b ∷ []) (search reads depth 30) (search reads depth 30) refl
    doubled_sum n (Crossed u o ∷ pieces) =
        let next = n + inner (columns slide u) (rows slide o) in
        grid_sum a b n (doubled slide next pieces) (columns slide u) (rows slide o) (columns_short u) (rows_short o)
        ∙ (ap₂ (λ x y. x +ℤ y) (ap₂ (λ x y. x *ℤ y) (column_weights a u) (row_weights b o) ∙ (expand p q (weight a u) (weight j u) (weight b o) (weight j o) ∙ four_sums u o)) (doubled_sum next pieces)
        ∙ one_more u o pieces)
    doubled_sum n (Free label ∷ pieces) = doubled_sum n pieces

-- THE SUMS OF SIGNS AFTER A SLIDE
pub doubled_signs : DoubledSignsLaw
doubled_signs slide n back e g a b pieces = side_sum a b back (exchanged e g) (doubled slide n pieces) ∙ doubled_sum slide a b n pieces
