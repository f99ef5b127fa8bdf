-- Directions of the doubled diagram, and of the diagram with the band. Whatever labels weigh: the ends that are entered weigh
-- what they did, and what the copies weigh, and each inner edge once; so do those that are left.
use Rattle.std.proofs.Common.{◌≡◌, ℕ, ◌+◌, ◌*◌, ◌==◌, Bool, true, false, not, cond, List, [], ◌∷◌, ◌++◌, refl, sym, ap, ap₂, ◌∙◌, arith, inl, inr}
use Rattle.std.proofs.lemmas.Bool.{cases_Bool, eqb-true}
use Rattle.slide_strands.specs.declared.strand.Strand.{Strand}
use Rattle.slide_strands.specs.declared.strand.Piece.{Piece}
use Rattle.slide_strands.specs.declared.strand.Piece.TheVariants.{Crossed, Free}
use Rattle.slide_strands.specs.Strands.{alike, strands, end_of, strand_sum, end_sum, is_label, IsDirected, IsClassed}
use Rattle.slide_strands.specs.Doubling.{Slide, copy, columns, rows, up_to, on_from, grid, inner, doubled, exchanged, on_side, pieces_on_side}
use Rattle.slide_strands.specs.Laws.{DoubledDirectionLaw, BandedDirectionLaw}
use Rattle.slide_strands.proofs.SignSums.{is_short, columns_short, rows_short, rows_are}

-- ---- the inner edges of a grid, each once
abbrev pub inner_weight : (ℕ → ℕ) → ℕ → List Strand → List Strand → ℕ
inner_weight g n (u ∷ []) (o ∷ []) = 0
inner_weight g n (u ∷ u' ∷ []) (o ∷ o' ∷ []) = g n + g (n + 1) + (g (n + 2) + g (n + 3))
inner_weight g n us os = g n

module _ (into : Bool) (g : ℕ → ℕ) where
  abbrev weight : Strand → ℕ
  weight s = g (end_of into s)

  split_at : (b : Bool) (x y n : ℕ) → g (cond b x n) + g (cond b n y) ≡ g (cond b x y) + g n
  split_at true x y n = refl
  split_at false x y n = omega arith

  split : (n : ℕ) (s : Strand) → weight (up_to n s) + weight (on_from n s) ≡ weight s + g n
  split n s = split_at (alike into s.ahead) s.from s.to n

  grid_ends : (n : ℕ) (rest : List Piece) (us os : List Strand) → is_short us ≡ true → is_short os ≡ true →
      end_sum into g (strands (grid n us os ++ rest)) ≡ (end_sum into g us + end_sum into g os) + (inner_weight g n us os + end_sum into g (strands rest))
  grid_ends n rest [] os h k = absurd (cc)
  grid_ends n rest (u ∷ u' ∷ u'' ∷ us) os h k = absurd (cc)
  grid_ends n rest (u ∷ []) [] h k = absurd (cc)
  grid_ends n rest (u ∷ u' ∷ []) [] h k = absurd (cc)
  grid_ends n rest (u ∷ []) (o ∷ o' ∷ o'' ∷ os) h k = absurd (cc)
  grid_ends n rest (u ∷ u' ∷ []) (o ∷ o' ∷ o'' ∷ os) h k = absurd (cc)
  grid_ends n rest (u ∷ []) (o ∷ []) h k = omega arith
  grid_ends n rest (u ∷ []) (o ∷ o' ∷ []) h k = omega (arith, split n u)
  grid_ends n rest (u ∷ u' ∷ []) (o ∷ []) h k = omega (arith, split n o)
  grid_ends n rest (u ∷ u' ∷ []) (o ∷ o' ∷ []) h k = omega (arith, split n u, split (n + 1) u', split (n + 2) o, split (n + 3) o')

  module _ (slide : Slide) where
    -- what the copy weighs
    abbrev pub copied_weight : Strand → ℕ
    copied_weight s = cond (s.component == slide.over) (weight (copy slide s)) 0

    both : (b c : Bool) (s t : Strand) → end_sum into g (cond b (cond c (t ∷ s ∷ []) (s ∷ t ∷ [])) (s ∷ [])) ≡ weight s + cond b (weight t) 0
    both true true s t = omega arith
    both true false s t = omega arith
    both false c s t = refl

    column_ends : (s : Strand) → end_sum into g (columns slide s) ≡ weight s + copied_weight s
    column_ends s = both (s.component == slide.over) (alike s.ahead slide.side) s (copy slide s)

    row_ends : (s : Strand) → end_sum into g (rows slide s) ≡ weight s + copied_weight s
    row_ends s = ap (end_sum into g) (rows_are slide s) ∙ both (s.component == slide.over) (not (alike s.ahead slide.side)) s (copy slide s)

-- the inner edges of all grids
abbrev pub inner_total : (ℕ → ℕ) → Slide → ℕ → List Piece → ℕ
inner_total g slide n [] = 0
inner_total g slide n (Crossed u o ∷ pieces) =
    inner_weight g n (columns slide u) (rows slide o) + inner_total g slide (n + inner (columns slide u) (rows slide o)) pieces
inner_total g slide n (Free label ∷ pieces) = inner_total g slide n pieces

-- THE ENDS OF THE DOUBLED DIAGRAM
pub doubled_ends : (into : Bool) (g : ℕ → ℕ) (slide : Slide) (n : ℕ) (pieces : List Piece) →
    end_sum into g (strands (doubled slide n pieces)) ≡ (end_sum into g (strands pieces) + strand_sum (copied_weight into g slide) (strands pieces)) + inner_total g slide n pieces
doubled_ends into g slide n [] = refl
doubled_ends into g slide n (Crossed u o ∷ pieces) =
    let next = n + inner (columns slide u) (rows slide o) in
    let whole = grid_ends into g n (doubled slide next pieces) (columns slide u) (rows slide o) (columns_short slide u) (rows_short slide o) in
    let ih = doubled_ends into g slide next pieces in
    omega (arith, whole, column_ends into g slide u, row_ends into g slide o, ih)
doubled_ends into g slide n (Free label ∷ pieces) = doubled_ends into g slide n pieces

-- ---- the copies
same_end : (i a h : Bool) (x y : ℕ) → cond (alike i (alike a h)) x y ≡ cond (alike (alike a i) h) x y
same_end true true h x y = refl
same_end true false true x y = refl
same_end true false false x y = refl
same_end false true h x y = refl
same_end false false true x y = refl
same_end false false false x y = refl

cond_through : (f : ℕ → ℕ) (b : Bool) (x y : ℕ) → cond b (f x) (f y) ≡ f (cond b x y)
cond_through f true x y = refl
cond_through f false x y = refl

pub copy_end : (into : Bool) (slide : Slide) (s : Strand) → end_of into (copy slide s) ≡ slide.copied (end_of (alike slide.along into) s)
copy_end into slide s =
    same_end into slide.along s.ahead (slide.copied s.from) (slide.copied s.to)
    ∙ cond_through slide.copied (alike (alike slide.along into) s.ahead) s.from s.to

module _ (class : ℕ → ℕ) where
  pub class_end : (into : Bool) (s : Strand) → class s.from ≡ s.component → class s.to ≡ s.component → class (end_of into s) ≡ s.component
  class_end into s f t = elim (cases_Bool (alike into s.ahead)) [
    | inl e ↦ ap (λ (b : Bool). class (cond b s.from s.to)) e ∙ f
    | inr e ↦ ap (λ (b : Bool). class (cond b s.from s.to)) e ∙ t
  ]

  module _ (g : ℕ → ℕ) (slide : Slide) where
    -- what the copy of an edge weighs
    abbrev copied_label : ℕ → ℕ
    copied_label x = cond (class x == slide.over) (g (slide.copied x)) 0

    copies : (into : Bool) (ss : List Strand) → IsClassed class ss → strand_sum (copied_weight into g slide) ss ≡ end_sum (alike slide.along into) copied_label ss
    copies into [] h = refl
    copies into (s ∷ ss) h =
        ap₂ (λ x y. x + y)
        (ap (λ y. cond (s.component == slide.over) (g y) 0) (copy_end into slide s)
        ∙ ap (λ c. cond (c == slide.over) (g (slide.copied (end_of (alike slide.along into) s))) 0) (sym (class_end (alike slide.along into) s h.0 h.1)))
        (copies into ss h.2)

    either_way : (a : Bool) (ss : List Strand) → IsDirected ss → end_sum (alike a true) copied_label ss ≡ end_sum (alike a false) copied_label ss
    either_way true ss d = d copied_label
    either_way false ss d = sym (d copied_label)

-- THE DOUBLED DIAGRAM IS DIRECTED
pub doubled_direction : DoubledDirectionLaw
doubled_direction slide n class pieces h d g =
    doubled_ends true g slide n pieces
    ∙ (ap₂ (λ x y. (x + y) + inner_total g slide n pieces) (d g)
    (copies class g slide true (strands pieces) h ∙ (either_way class g slide slide.along (strands pieces) d ∙ sym (copies class g slide false (strands pieces) h)))
    ∙ sym (doubled_ends false g slide n pieces))

-- ---- the band
module _ (back : Bool) (rename : ℕ → ℕ) where
  strands_on_side : (weight : Strand → ℕ) (pieces : List Piece) → strand_sum weight (strands (pieces_on_side back rename pieces)) ≡ strand_sum (λ s. weight (on_side back rename s)) (strands pieces)
  strands_on_side weight [] = refl
  strands_on_side weight (Crossed u o ∷ pieces) = ap (λ z. weight (on_side back rename u) + (weight (on_side back rename o) + z)) (strands_on_side weight pieces)
  strands_on_side weight (Free label ∷ pieces) = strands_on_side weight pieces

-- the end on the side of the band has its label exchanged, the other keeps it
moved_end : (into back ahead : Bool) (x x' y y' : ℕ) →
    cond (alike into ahead) (cond (alike ahead back) x x') (cond (alike ahead back) y' y) ≡ cond (alike into back) (cond (alike into ahead) x y) (cond (alike into ahead) x' y')
moved_end true true true x x' y y' = refl
moved_end true true false x x' y y' = refl
moved_end true false true x x' y y' = refl
moved_end true false false x x' y y' = refl
moved_end false true true x x' y y' = refl
moved_end false true false x x' y y' = refl
moved_end false false true x x' y y' = refl
moved_end false false false x x' y y' = refl

pub side_end : (into back : Bool) (rename : ℕ → ℕ) (s : Strand) → end_of into (on_side back rename s) ≡ cond (alike into back) (end_of into s) (rename (end_of into s))
side_end into back rename s =
    moved_end into back s.ahead s.from (rename s.from) s.to (rename s.to)
    ∙ ap (λ y. cond (alike into back) (end_of into s) y) (cond_through rename (alike into s.ahead) s.from s.to)

pub same_sum : (f h : Strand → ℕ) (ss : List Strand) → ((s : Strand) → f s ≡ h s) → strand_sum f ss ≡ strand_sum h ss
same_sum f h [] e = refl
same_sum f h (s ∷ ss) e = ap₂ (λ x y. x + y) (e s) (same_sum f h ss e)

pub side_ends : (into back : Bool) (rename : ℕ → ℕ) (weight : ℕ → ℕ) (pieces : List Piece) →
    end_sum into weight (strands (pieces_on_side back rename pieces)) ≡ end_sum into (λ x. cond (alike into back) (weight x) (weight (rename x))) (strands pieces)
side_ends into back rename weight pieces =
    strands_on_side back rename (λ s. weight (end_of into s)) pieces
    ∙ same_sum (λ s. weight (end_of into (on_side back rename s))) (λ s. cond (alike into back) (weight (end_of into s)) (weight (rename (end_of into s)))) (strands pieces)
    (λ s. ap weight (side_end into back rename s) ∙ sym (cond_through weight (alike into back) (end_of into s) (rename (end_of into s))))

-- an exchange of two labels that stand equally often
module _ (into : Bool) (e g : ℕ) (weight : ℕ → ℕ) where
  exchange_one : (x : ℕ) → weight (exchanged e g x) + (is_label e x * weight e + is_label g x * weight g) ≡ weight x + (is_label e x * weight g + is_label g x * weight e)
  exchange_one x = elim (cases_Bool (x == e)) [
    | inl p ↦ (let is = eqb-true x e p in elim (cases_Bool (x == g)) [
      | inl q ↦ (let too = eqb-true x g q in let same : weight e ≡ weight g = ap weight (sym is ∙ too) in let here : weight x ≡ weight e = ap weight is in
          let now : weight (exchanged e g x) ≡ weight g = ap (λ (b : Bool). weight (cond b g (cond (x == g) e x))) p in
          let a : is_label e x ≡ 1 = ap (λ (b : Bool). cond b 1 0) p in let b : is_label g x ≡ 1 = ap (λ (b : Bool). cond b 1 0) q in rw (now, a, b, here, same) omega arith)
      | inr q ↦ (let here : weight x ≡ weight e = ap weight is in
          let now : weight (exchanged e g x) ≡ weight g = ap (λ (b : Bool). weight (cond b g (cond (x == g) e x))) p in
          let a : is_label e x ≡ 1 = ap (λ (b : Bool). cond b 1 0) p in let b : is_label g x ≡ 0 = ap (λ (b : Bool). cond b 1 0) q in rw (now, a, b, here) omega arith)
    ])
    | inr p ↦ elim (cases_Bool (x == g)) [
      | inl q ↦ (let is = eqb-true x g q in let here : weight x ≡ weight g = ap weight is in
          let now : weight (exchanged e g x) ≡ weight e = ap (λ (b : Bool). weight (cond b g (cond (x == g) e x))) p ∙ ap (λ (b : Bool). weight (cond b e x)) q in
          let a : is_label e x ≡ 0 = ap (λ (b : Bool). cond b 1 0) p in let b : is_label g x ≡ 1 = ap (λ (b : Bool). cond b 1 0) q in rw (now, a, b, here) omega arith)
      | inr q ↦ (
          let now : weight (exchanged e g x) ≡ weight x = ap (λ (b : Bool). weight (cond b g (cond (x == g) e x))) p ∙ ap (λ (b : Bool). weight (cond b e x)) q in
          let a : is_label e x ≡ 0 = ap (λ (b : Bool). cond b 1 0) p in let b : is_label g x ≡ 0 = ap (λ (b : Bool). cond b 1 0) q in rw (now, a, b) omega arith)
    ]
  ]

  exchange_all : (ss : List Strand) →
      end_sum into (λ x. weight (exchanged e g x)) ss + (end_sum into (is_label e) ss * weight e + end_sum into (is_label g) ss * weight g)
      ≡ end_sum into weight ss + (end_sum into (is_label e) ss * weight g + end_sum into (is_label g) ss * weight e)
  exchange_all [] = omega arith
  exchange_all (s ∷ ss) = omega (arith, exchange_one (end_of into s), exchange_all ss)

  exchange_same : (ss : List Strand) → end_sum into (is_label e) ss ≡ end_sum into (is_label g) ss → end_sum into (λ x. weight (exchanged e g x)) ss ≡ end_sum into weight ss
  exchange_same ss h =
      let left : end_sum into (is_label e) ss * weight e ≡ end_sum into (is_label g) ss * weight e = ap (λ z. z * weight e) h in
      let right : end_sum into (is_label e) ss * weight g ≡ end_sum into (is_label g) ss * weight g = ap (λ z. z * weight g) h in
      omega (arith, exchange_all ss, left, right)

-- THE BAND KEEPS DIRECTIONS
pub banded_direction : BandedDirectionLaw
banded_direction true e g pieces h d weight =
    side_ends true true (exchanged e g) weight pieces
    ∙ (d weight ∙ (sym (exchange_same false e g weight (strands pieces) (sym (d (is_label e)) ∙ (h ∙ d (is_label g)))) ∙ sym (side_ends false true (exchanged e g) weight pieces)))
banded_direction false e g pieces h d weight =
    side_ends true false (exchanged e g) weight pieces
    ∙ (exchange_same true e g weight (strands pieces) h ∙ (d weight ∙ sym (side_ends false false (exchanged e g) weight pieces)))
