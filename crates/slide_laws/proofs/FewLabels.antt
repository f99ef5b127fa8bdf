-- A component has at most as many labels as strands: at each of its labels a walk comes in, and it comes in once at each strand.
use Rattle.std.proofs.Common.{◌≡◌, ℕ, zero, suc, ◌+◌, ◌*◌, ◌≤◌, ◌==◌, ◌&&◌, ◌||◌, Bool, true, false, not, cond, List, [], ◌∷◌, length, refl, sym, ap, ap₂, ◌∙◌, arith, inl, inr, ⊎_elim, eq-eqb, ne_eqb}
use Rattle.std.specs.List.{filter, range_with_len}
use Rattle.std.specs.Set.{is_member}
use Rattle.std.proofs.lemmas.Bool.{cases_Bool, eqb-true, or_cases, or_left, or_right}
use Rattle.std.proofs.lemmas.Bool.Decides.{nat_tests}
use Rattle.planar_check.specs.Components.{greatest, distinct}
use Rattle.slide_strands.specs.declared.strand.Strand.{Strand}
use Rattle.slide_strands.specs.declared.strand.Piece.{Piece}
use Rattle.slide_strands.specs.declared.strand.Piece.TheVariants.{Crossed, Free}
use Rattle.slide_strands.specs.Strands.{strands, end_of, end_sum, is_label, IsClassed, IsDirected, crossings_with, has_one, has_two}
use Rattle.slide_laws.specs.Slides.{strand_labels}
use Rattle.slide_laws.proofs.Numbers.{none_pass}

-- ---- how many different labels a list has
either_filter : (p q : ℕ → Bool) (ls : List ℕ) → length (filter (λ x. p x || q x) ls) ≤ length (filter p ls) + length (filter q ls)
either_filter p q [] = omega arith
either_filter p q (x ∷ ls) = by_tests (p x) (q x) (either_filter p q ls)
  where
    by_tests : (a b : Bool) → length (filter (λ x. p x || q x) ls) ≤ length (filter p ls) + length (filter q ls) →
        length (cond (a || b) (x ∷ filter (λ x. p x || q x) ls) (filter (λ x. p x || q x) ls)) ≤ length (cond a (x ∷ filter p ls) (filter p ls)) + length (cond b (x ∷ filter q ls) (filter q ls))
    by_tests true true h = omega (arith, h)
    by_tests true false h = omega (arith, h)
    by_tests false true h = omega (arith, h)
    by_tests false false h = h

one_passes : (y s n : ℕ) → length (filter (λ x. x == y) (range_with_len s n)) ≤ 1
one_passes y s zero = omega arith
one_passes y s (suc n) = elim (cases_Bool (s == y)) [
  | inl h ↦ (
      let is = eqb-true s y h in
      let rest : filter (λ x. x == y) (range_with_len (s + 1) n) ≡ [] = none_pass (λ x. x == y) (s + 1) n (λ x l. ne_eqb x y (λ e. absurd (omega (arith, e, is, l)))) in
      let now : filter (λ x. x == y) (range_with_len s (suc n)) ≡ s ∷ [] = ap₂ (λ (b : Bool) (xs : List ℕ). cond b (s ∷ xs) xs) h rest in
      let long = ap length now in omega (arith, long))
  | inr h ↦ (
      let now : filter (λ x. x == y) (range_with_len s (suc n)) ≡ filter (λ x. x == y) (range_with_len (s + 1) n) = ap (λ (b : Bool). cond b (s ∷ filter (λ x. x == y) (range_with_len (s + 1) n)) (filter (λ x. x == y) (range_with_len (s + 1) n))) h in
      let long = ap length now in omega (arith, long, one_passes y (s + 1) n))
]

few_different : (ls : List ℕ) (n : ℕ) → length (filter (is_member ◌==◌ ls) (range_with_len 0 n)) ≤ length ls
few_different [] n = let e = ap length (none_pass (is_member ◌==◌ []) 0 n (λ y l. refl)) in omega (arith, e)
few_different (y ∷ ls) n = omega (arith, either_filter (λ x. x == y) (is_member ◌==◌ ls) (range_with_len 0 n), one_passes y 0 n, few_different ls n)

more_pass : (p q : ℕ → Bool) → ((x : ℕ) → p x ≡ true → q x ≡ true) → (xs : List ℕ) → length (filter p xs) ≤ length (filter q xs)
more_pass p q h [] = omega arith
more_pass p q h (x ∷ xs) = by_tests (p x) (q x) (h x) (more_pass p q h xs)
  where
    by_tests : (a b : Bool) → (a ≡ true → b ≡ true) → length (filter p xs) ≤ length (filter q xs) → length (cond a (x ∷ filter p xs) (filter p xs)) ≤ length (cond b (x ∷ filter q xs) (filter q xs))
    by_tests true true k l = omega (arith, l)
    by_tests true false k l = absurd (let e : false ≡ true = k refl in cc)
    by_tests false true k l = omega (arith, l)
    by_tests false false k l = l

-- a list whose members are among those of another one has no more different labels than that one is long
among_short : (ls others : List ℕ) → ((x : ℕ) → is_member ◌==◌ ls x ≡ true → is_member ◌==◌ others x ≡ true) → length (distinct ls) ≤ length others
unfolding distinct
among_short ls others h =
    let more = more_pass (is_member ◌==◌ ls) (is_member ◌==◌ others) h (range_with_len 0 (greatest ls + 1)) in
    let few = few_different others (greatest ls + 1) in
    omega (arith, more, few)

pub distinct_short : (ls : List ℕ) → length (distinct ls) ≤ length ls
distinct_short ls = among_short ls ls (λ x m. m)

-- ---- the labels at which the walk of component j comes in
entered_labels : ℕ → List Strand → List ℕ
entered_labels j [] = []
entered_labels j (s ∷ ss) = cond (s.component == j) (end_of true s ∷ entered_labels j ss) (entered_labels j ss)

entered_long : (j : ℕ) (ps : List Piece) → length (entered_labels j (strands ps)) ≡ crossings_with (has_one j) ps + 2 * crossings_with (has_two j) ps
unfolding entered_labels
entered_long j [] = refl
entered_long j (Crossed u o ∷ ps) =
    let e = by_tests (u.component == j) (o.component == j) (end_of true u) (end_of true o) (entered_labels j (strands ps)) in
    omega (arith, e, entered_long j ps)
  where
    by_tests : (a b : Bool) (x y : ℕ) (rest : List ℕ) → length (cond a (x ∷ cond b (y ∷ rest) rest) (cond b (y ∷ rest) rest)) ≡ cond (not (a && b) && (a || b)) 1 0 + 2 * cond (a && b) 1 0 + length rest
    by_tests true true x y rest = omega arith
    by_tests true false x y rest = omega arith
    by_tests false true x y rest = omega arith
    by_tests false false x y rest = omega arith
entered_long j (Free label ∷ ps) = entered_long j ps

module _ (class : ℕ → ℕ) (j x : ℕ) where
  -- a label of the component's strands is of the component, and stands at an end
  abbrev IsEnd : List Strand → Type 0
  IsEnd ss = (class x ≡ j) × (1 ≤ end_sum true (is_label x) ss + end_sum false (is_label x) ss)

  both_ends : (s : Strand) → is_label x (end_of true s) + is_label x (end_of false s) ≡ is_label x s.from + is_label x s.to
  both_ends s = by_test s.ahead
    where
      by_test : (b : Bool) → is_label x (cond b s.from s.to) + is_label x (cond (not b) s.from s.to) ≡ is_label x s.from + is_label x s.to
      by_test true = refl
      by_test false = omega arith

  stands : (y : ℕ) → (x == y) ≡ true → is_label x y ≡ 1
  stands y h = let e : (y == x) ≡ true = eq-eqb y x (sym (eqb-true x y h)) in ap (λ (b : Bool). cond {A = ℕ} b 1 0) e

  further : (s : Strand) (ss : List Strand) → IsEnd ss → IsEnd (s ∷ ss)
  further s ss h = (h.0, (let l = h.1 in omega (arith, l)))

  label_known : (ss : List Strand) → IsClassed class ss → is_member ◌==◌ (strand_labels j ss) x ≡ true → IsEnd ss
  label_known [] k m = absurd (grind (arith, m))
  label_known (s ∷ ss) k m = by_test (s.component == j) refl m (label_known ss k.2)
    where
      by_test : (t : Bool) → (s.component == j) ≡ t → is_member ◌==◌ (cond t (s.from ∷ s.to ∷ strand_labels j ss) (strand_labels j ss)) x ≡ true → (is_member ◌==◌ (strand_labels j ss) x ≡ true → IsEnd ss) → IsEnd (s ∷ ss)
      by_test false e m ih = further s ss (ih m)
      by_test true e m ih =
          let own = eqb-true s.component j e in
          let both = both_ends s in
          ⊎_elim
          (λ f. let one = stands s.from f in (ap class (eqb-true x s.from f) ∙ k.0 ∙ own, omega (arith, one, both)))
          (λ rest. ⊎_elim
          (λ t. let one = stands s.to t in (ap class (eqb-true x s.to t) ∙ k.1 ∙ own, omega (arith, one, both)))
          (λ others. further s ss (ih others))
          (or_cases (x == s.to) (is_member ◌==◌ (strand_labels j ss) x) rest))
          (or_cases (x == s.from) (is_member ◌==◌ (s.to ∷ strand_labels j ss) x) m)

  end_class : (s : Strand) → class s.from ≡ s.component → class s.to ≡ s.component → class (end_of true s) ≡ s.component
  end_class s h k = by_test s.ahead
    where
      by_test : (b : Bool) → class (cond b s.from s.to) ≡ s.component
      by_test true = h
      by_test false = k

  -- where the walk comes in at a label of the component, it does so at a strand of the component
  entered_known : (ss : List Strand) → IsClassed class ss → class x ≡ j → 1 ≤ end_sum true (is_label x) ss → is_member ◌==◌ (entered_labels j ss) x ≡ true
  unfolding entered_labels
  entered_known [] k own some = absurd (omega (arith, some))
  entered_known (s ∷ ss) k own some = by_test (end_of true s == x) refl (s.component == j) refl (entered_known ss k.2 own)
    where
      by_test : (here : Bool) → (end_of true s == x) ≡ here → (t : Bool) → (s.component == j) ≡ t → (1 ≤ end_sum true (is_label x) ss → is_member ◌==◌ (entered_labels j ss) x ≡ true) →
          is_member ◌==◌ (cond t (end_of true s ∷ entered_labels j ss) (entered_labels j ss)) x ≡ true
      by_test true e true f ih = or_left (x == end_of true s) (is_member ◌==◌ (entered_labels j ss) x) (eq-eqb x (end_of true s) (sym (eqb-true (end_of true s) x e)))
      by_test true e false f ih =
          absurd
          (let same : s.component ≡ j = sym (end_class s k.0 k.1) ∙ ap class (eqb-true (end_of true s) x e) ∙ own in
          let t = eq-eqb s.component j same in let g : false ≡ true = sym f ∙ t in cc)
      by_test false e true f ih = or_right (x == end_of true s) (is_member ◌==◌ (entered_labels j ss) x) (ih (let none = ap (λ (b : Bool). cond {A = ℕ} b 1 0) e in omega (arith, some, none)))
      by_test false e false f ih = ih (let none = ap (λ (b : Bool). cond {A = ℕ} b 1 0) e in omega (arith, some, none))

-- A COMPONENT HAS AT MOST AS MANY LABELS AS STRANDS
pub labels_few : (class : ℕ → ℕ) (j : ℕ) (ps : List Piece) → IsClassed class (strands ps) → IsDirected (strands ps) →
    length (distinct (strand_labels j (strands ps))) ≤ crossings_with (has_one j) ps + 2 * crossings_with (has_two j) ps
labels_few class j ps classed directed =
    let short = among_short (strand_labels j (strands ps)) (entered_labels j (strands ps))
    (λ x m.
    let known = label_known class j x (strands ps) classed m in
    let both = directed (is_label x) in
    let some = known.1 in
    entered_known class j x (strands ps) classed known.0 (omega (arith, both, some))) in
    let long = entered_long j ps in
    omega (arith, short, long)
