-- What is known before a slide gives what a slide needs: e and the copy of f are entered once in the doubled diagram.
use Rattle.std.proofs.Common.{◌≡◌, ◌≢◌, ℕ, ◌+◌, ◌<◌, ◌≤◌, ◌==◌, Bool, true, false, cond, List, [], ◌∷◌, refl, sym, ap, ap₂, ◌∙◌, arith, inl, inr}
use Rattle.std.specs.List.{AllByRecursion}
use Rattle.std.proofs.lemmas.Bool.{cases_Bool, eqb-true, eqb-false, eq-eqb, ne_eqb}
use Rattle.slide_strands.specs.declared.strand.Strand.{Strand}
use Rattle.slide_strands.specs.declared.strand.Piece.{Piece}
use Rattle.slide_strands.specs.declared.strand.Piece.TheVariants.{Crossed, Free}
use Rattle.slide_strands.specs.Strands.{alike, strands, end_of, end_sum, strand_sum, is_label}
use Rattle.slide_strands.specs.Doubling.{Slide, copy, columns, rows, inner}
use Rattle.slide_strands.specs.Components.{SlideAt, Ready, IsCopying}
use Rattle.slide_strands.proofs.Directions.{doubled_ends, copied_weight, inner_weight, inner_total, copy_end, class_end}
use Rattle.slide_strands.proofs.Joins.{every_weaker, every_both}
use Rattle.slide_strands.proofs.Slides.{classed_every}

same_where : (F G : Strand → ℕ) (ss : List Strand) → AllByRecursion (λ s. F s ≡ G s) ss → strand_sum F ss ≡ strand_sum G ss
same_where F G [] h = refl
same_where F G (s ∷ ss) h = ap₂ (λ x y. x + y) h.0 (same_where F G ss h.1)

pub none_where : (F : Strand → ℕ) (ss : List Strand) → AllByRecursion (λ s. F s ≡ 0) ss → strand_sum F ss ≡ 0
none_where F [] h = refl
none_where F (s ∷ ss) h = let e = h.0 in omega (arith, e, none_where F ss h.1)

-- ---- no inner edge has a label below n
inner_none : (w : ℕ → ℕ) (n : ℕ) (us os : List Strand) → ((x : ℕ) → n ≤ x → w x ≡ 0) → inner_weight w n us os ≡ 0
inner_none w n [] os h = h n (omega arith)
inner_none w n (u ∷ []) [] h = h n (omega arith)
inner_none w n (u ∷ []) (o ∷ []) h = refl
inner_none w n (u ∷ []) (o ∷ o' ∷ os) h = h n (omega arith)
inner_none w n (u ∷ u' ∷ []) [] h = h n (omega arith)
inner_none w n (u ∷ u' ∷ []) (o ∷ []) h = h n (omega arith)
inner_none w n (u ∷ u' ∷ []) (o ∷ o' ∷ []) h = omega (arith, h n (omega arith), h (n + 1) (omega arith), h (n + 2) (omega arith), h (n + 3) (omega arith))
inner_none w n (u ∷ u' ∷ []) (o ∷ o' ∷ o'' ∷ os) h = h n (omega arith)
inner_none w n (u ∷ u' ∷ u'' ∷ us) os h = h n (omega arith)

pub total_none : (w : ℕ → ℕ) (slide : Slide) (n : ℕ) (pieces : List Piece) → ((x : ℕ) → n ≤ x → w x ≡ 0) → inner_total w slide n pieces ≡ 0
total_none w slide n [] h = refl
total_none w slide n (Crossed u o ∷ pieces) h =
    let us = columns slide u in
    let os = rows slide o in
    omega (arith, inner_none w n us os h, total_none w slide (n + inner us os) pieces (λ x l. h x (omega (arith, l))))
total_none w slide n (Free label ∷ pieces) h = total_none w slide n pieces h

pub label_below : (x n : ℕ) → x < n → (y : ℕ) → n ≤ y → is_label x y ≡ 0
label_below x n l y k = ap (λ (b : Bool). cond b 1 0) (ne_eqb y x (λ e. absurd (omega (arith, e, l, k))))

-- which end it is
pub end_is : (P : ℕ → Type 0) (into : Bool) (s : Strand) → P s.from → P s.to → P (end_of into s)
end_is P into s f t = by_test (alike into s.ahead)
  where
    by_test : (b : Bool) → P (cond b s.from s.to)
    by_test true = f
    by_test false = t

module _ (slide : Slide) (class root : ℕ → ℕ) (e f none m n : ℕ) (pieces : List Piece)
    (ready : Ready class root e f slide.onto slide.over none m pieces) (copying : IsCopying slide f m n pieces) where
  abbrev g : ℕ
  g = slide.copied f

  abbrev ss : List Strand
  ss = strands pieces

  -- an end of a strand of j and its copy
  abbrev CopiesTo : ℕ → Type 0
  CopiesTo x = (m ≤ slide.copied x) × (slide.copied x < n) × (slide.copied x ≡ g → x ≡ f)

  abbrev Known : Strand → Type 0
  Known s = ((class s.from ≡ s.component) × (class s.to ≡ s.component)) × (((s.from < m) × (s.to < m) × (s.component ≢ none)) × (s.component ≡ slide.over → CopiesTo s.from × CopiesTo s.to))

  known : AllByRecursion Known ss
  known = every_both _ _ ss (classed_every class ss ready.has.classed) (every_both _ _ ss ready.below copying.copies)

  -- the copies do not have the label e
  no_copy_of_e : strand_sum (copied_weight true (is_label e) slide) ss ≡ 0
  no_copy_of_e = none_where (copied_weight true (is_label e) slide) ss (every_weaker Known (λ s. copied_weight true (is_label e) slide s ≡ 0) one ss known)
    where
      one : (s : Strand) → Known s → copied_weight true (is_label e) slide s ≡ 0
      one s k = elim (cases_Bool (s.component == slide.over)) [
        | inl h ↦ (
            let c = k.1.1 (eqb-true s.component slide.over h) in
            let b = alike slide.along true in
            let high : m ≤ slide.copied (end_of b s) = end_is (λ x. m ≤ slide.copied x) b s c.0.0 c.1.0 in
            ap (λ (t : Bool). cond t (is_label e (end_of true (copy slide s))) 0) h
            ∙ (ap (is_label e) (copy_end true slide s) ∙ label_below e m ready.e_below (slide.copied (end_of b s)) high))
        | inr h ↦ ap (λ (t : Bool). cond t (is_label e (end_of true (copy slide s))) 0) h
      ]

  -- the copy of f is entered as often as f is entered or left
  copies_of_f : strand_sum (copied_weight true (is_label g) slide) ss ≡ end_sum (alike slide.along true) (is_label f) ss
  copies_of_f = same_where (copied_weight true (is_label g) slide) (λ s. is_label f (end_of (alike slide.along true) s)) ss
      (every_weaker Known (λ s. copied_weight true (is_label g) slide s ≡ is_label f (end_of (alike slide.along true) s)) one ss known)
    where
      one : (s : Strand) → Known s → copied_weight true (is_label g) slide s ≡ is_label f (end_of (alike slide.along true) s)
      one s k =
          let b = alike slide.along true in
          let y = end_of b s in
          elim (cases_Bool (s.component == slide.over)) [
            | inl h ↦ (
                let c = k.1.1 (eqb-true s.component slide.over h) in
                let only : slide.copied y ≡ g → y ≡ f = end_is (λ x. slide.copied x ≡ g → x ≡ f) b s c.0.2 c.1.2 in
                ap (λ (t : Bool). cond t (is_label g (end_of true (copy slide s))) 0) h
                ∙ (ap (is_label g) (copy_end true slide s)
                ∙ (elim (cases_Bool (y == f)) [
                  | inl q ↦ ap (λ (t : Bool). cond t 1 0) (eq-eqb (slide.copied y) g (ap slide.copied (eqb-true y f q))) ∙ sym (ap (λ (t : Bool). cond t 1 0) q)
                  | inr q ↦ ap (λ (t : Bool). cond t 1 0) (ne_eqb (slide.copied y) g (λ w. eqb-false y f q (only w))) ∙ sym (ap (λ (t : Bool). cond t 1 0) q)
                ])))
            | inr h ↦ (
                let of_y : class y ≡ s.component = class_end class b s k.0.0 k.0.1 in
                let other : y ≢ f = λ w. eqb-false s.component slide.over h (sym of_y ∙ (ap class w ∙ ready.of_f)) in
                ap (λ (t : Bool). cond t (is_label g (end_of true (copy slide s))) 0) h ∙ sym (ap (λ (t : Bool). cond t 1 0) (ne_eqb y f other)))
          ]

  either_way : (b : Bool) → end_sum b (is_label f) ss ≡ 1
  either_way true = ready.f_once
  either_way false = sym (ready.has.directed (is_label f)) ∙ ready.f_once

  old_not_g : end_sum true (is_label g) ss ≡ 0
  old_not_g = none_where (λ s. is_label g (end_of true s)) ss (every_weaker Known (λ s. is_label g (end_of true s) ≡ 0) one ss known)
    where
      one : (s : Strand) → Known s → is_label g (end_of true s) ≡ 0
      one s k =
          let low : end_of true s < m = end_is (λ x. x < m) true s k.1.0.0 k.1.0.1 in
          let high = copying.f_copy.0 in
          ap (λ (t : Bool). cond t 1 0) (ne_eqb (end_of true s) g (λ w. absurd (omega (arith, w, low, high))))

  low : m < n
  low = let a = copying.f_copy.0 in let b = copying.f_copy.1 in omega (arith, a, b)

  -- WHAT A SLIDE NEEDS
  pub slide_at : SlideAt slide class root e f none m n pieces
  slide_at = record {
    apart = ready.apart;
    of_e = ready.of_e;
    e_old = ready.e_below;
    e_root = ready.e_root;
    f_root = ready.f_root;
    f_copy = copying.f_copy;
    old = ready.below;
    copies = every_weaker Known (λ s. s.component ≡ slide.over → (m ≤ slide.copied s.from) × (slide.copied s.from < n) × (m ≤ slide.copied s.to) × (slide.copied s.to < n))
        (λ s k o. let c = k.1.1 o in (c.0.0, c.0.1, c.1.0, c.1.1)) ss known;
    onto_some = ready.not_none.0;
    e_stands = let o = ready.e_once in omega (arith, o);
    both_once =
        let l = ready.e_below in
        let k = low in
        let first = doubled_ends true (is_label e) slide n pieces in
        let second = doubled_ends true (is_label g) slide n pieces in
        let one = ready.e_once in
        omega (
          arith,
          first,
          second,
          one,
          no_copy_of_e,
          copies_of_f,
          either_way (alike slide.along true),
          old_not_g,
          total_none (is_label e) slide n pieces (label_below e n (omega (arith, l, k))),
          total_none (is_label g) slide n pieces (label_below g n copying.f_copy.1),
        );
  }
