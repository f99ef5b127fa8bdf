-- The components after a slide: the copy of j becomes a part of i, and the others stay. Old labels stay joined, and so do their copies;
-- the band joins i with the copy.
use Rattle.std.proofs.Common.{◌≡◌, ◌≢◌, ◌⊎◌, ℕ, ◌<◌, ◌≤◌, ◌==◌, Bool, true, false, not, cond, List, [], ◌∷◌, refl, sym, ap, subst, ◌∙◌, arith, inl, inr, ⊎_elim}
use Rattle.std.specs.Prelude.{nat_lt}
use Rattle.std.specs.List.{AllByRecursion}
use Rattle.std.proofs.lemmas.Bool.{cases_Bool, eqb-true, eq-eqb, ne_eqb, lt-ltb, le-ltb}
use Rattle.graph_parts.specs.Walks.{Joined, stay, back, on}
use Rattle.slide_strands.specs.declared.strand.Strand.{Strand}
use Rattle.slide_strands.specs.declared.strand.Piece.{Piece}
use Rattle.slide_strands.specs.Strands.{alike, strands, end_sum, is_label, IsDirected, IsClassed, piece_edges}
use Rattle.slide_strands.specs.Doubling.{Slide, doubled, exchanged, on_side, banded}
use Rattle.slide_strands.specs.Components.{HasComponents, SlideAt}
use Rattle.slide_strands.specs.Laws.{SlideComponentsLaw}
use Rattle.slide_strands.proofs.Bands.{joins}
use Rattle.slide_strands.proofs.Directions.{doubled_direction, banded_direction, doubled_ends}
use Rattle.slide_strands.proofs.Joins.{every_weaker, every_both, every_on_side, every_from_side, all_joined, joined_through, joined_class, AndCopy, doubled_joins}
use Rattle.slide_strands.proofs.Marks.{mark, mark_outer, mark_inner, doubled_every, Known, OuterMarked, Marked, doubled_marks}

-- facts by recursion
pub classed_every : (class : ℕ → ℕ) (ss : List Strand) → IsClassed class ss → AllByRecursion (λ s. (class s.from ≡ s.component) × (class s.to ≡ s.component)) ss
classed_every class [] h = tt
classed_every class (s ∷ ss) h = ((h.0, h.1), classed_every class ss h.2)

pub every_classed : (class : ℕ → ℕ) (ss : List Strand) → AllByRecursion (λ s. (class s.from ≡ s.component) × (class s.to ≡ s.component)) ss → IsClassed class ss
every_classed class [] h = tt
every_classed class (s ∷ ss) h = (h.0.0, h.0.1, every_classed class ss h.1)

module _ (slide : Slide) (class root : ℕ → ℕ) (e f none m n : ℕ) (pieces : List Piece) where
  abbrev g : ℕ
  g = slide.copied f

  -- the mark of an old label is its class, that of a copy is `none`
  abbrev outer : ℕ → ℕ
  outer x = cond (nat_lt x m) (class x) none

  -- the component that a mark stands for
  abbrev of_mark : ℕ → ℕ
  of_mark c = cond (c == none) slide.onto c

  abbrev marked : ℕ → ℕ
  marked = mark outer slide n pieces

  -- the classes after the slide
  abbrev pub slid_class : ℕ → ℕ
  slid_class x = of_mark (marked x)

  module _ (has : HasComponents class root pieces) (at : SlideAt slide class root e f none m n pieces) where
    below : m < n
    below = let a = at.f_copy.0 in let b = at.f_copy.1 in omega (arith, a, b)

    old_mark : (x : ℕ) → x < m → outer x ≡ class x
    old_mark x l = ap (λ (b : Bool). cond b (class x) none) (lt-ltb x m l)

    copy_mark : (x : ℕ) → m ≤ x → outer x ≡ none
    copy_mark x l = ap (λ (b : Bool). cond b (class x) none) (le-ltb x m l)

    of_some : (c : ℕ) → c ≢ none → of_mark c ≡ c
    of_some c d = ap (λ (b : Bool). cond b slide.onto c) (ne_eqb c none d)

    of_none : of_mark none ≡ slide.onto
    of_none = ap (λ (b : Bool). cond b slide.onto none) (eq-eqb none none refl)

    pub slid_class_old : (x : ℕ) → x < m → class x ≢ none → slid_class x ≡ class x
    slid_class_old x l d =
        let b = below in
        ap of_mark (mark_outer outer slide n pieces x (omega (arith, l, b)) ∙ old_mark x l) ∙ of_some (class x) d

    -- ---- marks
    classes : AllByRecursion (λ s. (class s.from ≡ s.component) × (class s.to ≡ s.component)) (strands pieces)
    classes = classed_every class (strands pieces) has.classed

    abbrev Facts : Strand → Type 0
    Facts s = ((class s.from ≡ s.component) × (class s.to ≡ s.component)) ×
        (((s.from < m) × (s.to < m) × (s.component ≢ none)) ×
        (s.component ≡ slide.over → (m ≤ slide.copied s.from) × (slide.copied s.from < n) × (m ≤ slide.copied s.to) × (slide.copied s.to < n)))

    facts : AllByRecursion Facts (strands pieces)
    facts = every_both _ _ (strands pieces) classes (every_both _ _ (strands pieces) at.old at.copies)

    outer_marked : (s : Strand) → Facts s → AndCopy slide (OuterMarked outer of_mark slide n pieces) s
    outer_marked s h =
        let b = below in
        let from_mark : outer s.from ≡ s.component = old_mark s.from h.1.0.0 ∙ h.0.0 in
        let to_mark : outer s.to ≡ s.component = old_mark s.to h.1.0.1 ∙ h.0.1 in
        let l = h.1.0.0 in
        let k = h.1.0.1 in (
          (from_mark ∙ sym to_mark, ap of_mark from_mark ∙ of_some s.component h.1.0.2, (omega (arith, l, b)), (omega (arith, k, b))),
          λ c. let r = h.1.1 (eqb-true s.component slide.over c) in
              (copy_mark (slide.copied s.from) r.0 ∙ sym (copy_mark (slide.copied s.to) r.2), ap of_mark (copy_mark (slide.copied s.from) r.0) ∙ of_none, r.1, r.3),
        )

    abbrev new : List Piece
    new = doubled slide n pieces

    outers : AllByRecursion (AndCopy slide (OuterMarked outer of_mark slide n pieces)) (strands pieces)
    outers = every_weaker Facts (AndCopy slide (OuterMarked outer of_mark slide n pieces)) outer_marked (strands pieces) facts

    new_marked : AllByRecursion (Marked outer of_mark slide n pieces) (strands new)
    new_marked = doubled_marks outer of_mark slide n pieces outers

    -- ---- directions
    new_directed : IsDirected (strands new)
    new_directed = doubled_direction slide n class pieces has.classed has.directed

    stands : (into : Bool) → 1 ≤ end_sum into (is_label e) (strands new)
    stands true = let s = at.e_stands in omega (arith, doubled_ends true (is_label e) slide n pieces, s)
    stands false = let s = at.e_stands in let d = new_directed (is_label e) in omega (arith, doubled_ends true (is_label e) slide n pieces, s, d)

    -- ---- the band
    module _ (side : Bool) where
      abbrev result : List Piece
      result = banded side e g new

      abbrev es : List (ℕ × ℕ)
      es = piece_edges result

      abbrev kind : ℕ → Bool
      kind x = marked x == slide.onto

      mark_e : marked e ≡ slide.onto
      mark_e = let l = at.e_old in let b = below in mark_outer outer slide n pieces e (omega (arith, l, b)) ∙ (old_mark e l ∙ at.of_e)

      mark_g : marked g ≡ none
      mark_g = mark_outer outer slide n pieces g at.f_copy.1 ∙ copy_mark g at.f_copy.0

      e_with_g : Joined es e g
      e_with_g =
          joins side e g new kind
          (every_weaker (Marked outer of_mark slide n pieces) (λ s. kind s.from ≡ kind s.to) (λ s h. ap (λ (c : ℕ). c == slide.onto) h.0) (strands new) new_marked)
          (eq-eqb (marked e) slide.onto mark_e)
          (ne_eqb (marked g) slide.onto (λ h. at.onto_some (sym h ∙ mark_g)))
          new_directed (stands (not side))

      exchanged_joined : (x : ℕ) → Joined es (exchanged e g x) x
      exchanged_joined x = elim (cases_Bool (x == e)) [
        | inl h ↦ (let is = eqb-true x e h in let now : exchanged e g x ≡ g = ap (λ (b : Bool). cond b g (cond (x == g) e x)) h in
            subst (λ (y : ℕ). Joined es y x) (sym now) (subst (λ (y : ℕ). Joined es g y) (sym is) (back e_with_g)))
        | inr h ↦ elim (cases_Bool (x == g)) [
          | inl k ↦ (let is = eqb-true x g k in let now : exchanged e g x ≡ e = ap (λ (b : Bool). cond b g (cond (x == g) e x)) h ∙ ap (λ (b : Bool). cond b e x) k in
              subst (λ (y : ℕ). Joined es y x) (sym now) (subst (λ (y : ℕ). Joined es e y) (sym is) e_with_g))
          | inr k ↦ (let now : exchanged e g x ≡ x = ap (λ (b : Bool). cond b g (cond (x == g) e x)) h ∙ ap (λ (b : Bool). cond b e x) k in
              subst (λ (y : ℕ). Joined es y x) (sym now) stay)
        ]
      ]

      either_joined : (b : Bool) (x : ℕ) → Joined es (cond b x (exchanged e g x)) x
      either_joined true x = stay
      either_joined false x = exchanged_joined x

      other_joined : (b : Bool) (x : ℕ) → Joined es (cond b (exchanged e g x) x) x
      other_joined true x = exchanged_joined x
      other_joined false x = stay

      abbrev moved : Strand → Strand
      moved = on_side side (exchanged e g)

      -- the strands of the doubled diagram join what they did
      new_joined : AllByRecursion (λ s. Joined es s.from s.to) (strands new)
      new_joined =
          every_weaker (λ s. Joined es (moved s).from (moved s).to) (λ s. Joined es s.from s.to)
          (λ s j. on (back (either_joined (alike s.ahead side) s.from)) (on j (other_joined (alike s.ahead side) s.to)))
          (strands new) (every_from_side (λ s. Joined es s.from s.to) side (exchanged e g) new (all_joined result))

      old_joined : AllByRecursion (AndCopy slide (λ s. Joined es s.from s.to)) (strands pieces)
      old_joined = doubled_joins slide es n pieces new_joined

      lift : (x y : ℕ) → Joined (piece_edges pieces) x y → Joined es x y
      lift = joined_through es pieces (every_weaker (AndCopy slide (λ s. Joined es s.from s.to)) (λ s. Joined es s.from s.to) (λ s h. h.0) (strands pieces) old_joined)

      lift_copy : (x y : ℕ) → Joined (piece_edges pieces) x y → (class x ≡ class y) × (class x ≡ slide.over → Joined es (slide.copied x) (slide.copied y))
      lift_copy =
          joined_class class slide.over slide.copied es pieces
          (every_weaker (λ s. AndCopy slide (λ t. Joined es t.from t.to) s × ((class s.from ≡ s.component) × (class s.to ≡ s.component)))
          (λ s. (class s.from ≡ class s.to) × (class s.from ≡ slide.over → Joined es (slide.copied s.from) (slide.copied s.to)))
          (λ s h. (h.1.0 ∙ sym h.1.1, (λ c. h.0.1 (eq-eqb s.component slide.over (sym h.1.0 ∙ c)))))
          (strands pieces) (every_both (AndCopy slide (λ t. Joined es t.from t.to)) (λ s. (class s.from ≡ s.component) × (class s.to ≡ s.component)) (strands pieces) old_joined classes))

      -- ---- roots
      abbrev Both : Strand → Type 0
      Both s = Joined es s.from (root s.component) × Joined es s.to (root s.component)

      abbrev Either : Strand → Type 0
      Either s = Joined es s.from (root s.component) ⊎ Joined es s.to (root s.component)

      old_both : (s : Strand) → Joined (piece_edges pieces) s.from (root s.component) → AndCopy slide (λ t. Joined es t.from t.to) s → class s.from ≡ s.component → AndCopy slide Both s
      old_both s r j c =
          let up = lift s.from (root s.component) r in (
            (up, on (back j.0) up),
            λ o. let of : s.component ≡ slide.over = eqb-true s.component slide.over o in
                let with_f : Joined (piece_edges pieces) s.from f = on (subst (λ (d : ℕ). Joined (piece_edges pieces) s.from (root d)) of r) (back at.f_root) in
                let copy_up : Joined es (slide.copied s.from) (root slide.onto) =
                on ((lift_copy s.from f with_f).1 (c ∙ of)) (on (back e_with_g) (lift e (root slide.onto) at.e_root)) in
                (copy_up, on (back (j.1 o)) copy_up),
          )

      boths : AllByRecursion (AndCopy slide (Known outer marked Both Either (λ s b. inl b.0) (λ k s b q. (inl b.0, inr b.1)))) (strands pieces)
      boths =
          every_weaker (λ s. Joined (piece_edges pieces) s.from (root s.component) × ((AndCopy slide (λ t. Joined es t.from t.to) s) × (Facts s × AndCopy slide (OuterMarked outer of_mark slide n pieces) s)))
          (AndCopy slide (Known outer marked Both Either (λ s b. inl b.0) (λ k s b q. (inl b.0, inr b.1))))
          (λ s h. let b = old_both s h.0 h.1.0 h.1.1.0.0.0 in
          ((b.0, mark_outer outer slide n pieces s.from h.1.1.1.0.2), (λ o. (b.1 o, mark_outer outer slide n pieces (slide.copied s.from) (h.1.1.1.1 o).2))))
          (strands pieces)
          (every_both _ _ (strands pieces) has.rooted (every_both _ _ (strands pieces) old_joined (every_both _ _ (strands pieces) facts outers)))

      new_either : AllByRecursion Either (strands new)
      new_either = doubled_every outer marked Both Either (λ s b. inl b.0) (λ k s b q. (inl b.0, inr b.1)) slide n pieces boths (mark_inner outer slide n pieces)

      rooted : AllByRecursion (λ s. Joined es s.from (root s.component)) (strands result)
      rooted =
          every_on_side (λ s. Joined es s.from (root s.component)) side (exchanged e g) new
          (every_weaker (λ s. Either s × Joined es s.from s.to) (λ s. Joined es (moved s).from (root s.component))
          (λ s h. on (either_joined (alike s.ahead side) s.from) (⊎_elim (λ j. j) (λ j. on h.1 j) h.0))
          (strands new) (every_both Either (λ s. Joined es s.from s.to) (strands new) new_either new_joined))

      -- ---- classes
      exchanged_class : (x : ℕ) → slid_class (exchanged e g x) ≡ slid_class x
      exchanged_class x =
          let class_e : slid_class e ≡ slide.onto = ap of_mark mark_e ∙ of_some slide.onto at.onto_some in
          let class_g : slid_class g ≡ slide.onto = ap of_mark mark_g ∙ of_none in
          elim (cases_Bool (x == e)) [
            | inl h ↦ ap slid_class (ap (λ (b : Bool). cond b g (cond (x == g) e x)) h) ∙ (class_g ∙ (sym class_e ∙ ap slid_class (sym (eqb-true x e h))))
            | inr h ↦ elim (cases_Bool (x == g)) [
              | inl k ↦ ap slid_class (ap (λ (b : Bool). cond b g (cond (x == g) e x)) h ∙ ap (λ (b : Bool). cond b e x) k) ∙ (class_e ∙ (sym class_g ∙ ap slid_class (sym (eqb-true x g k))))
              | inr k ↦ ap slid_class (ap (λ (b : Bool). cond b g (cond (x == g) e x)) h ∙ ap (λ (b : Bool). cond b e x) k)
            ]
          ]

      either_class : (b : Bool) (x : ℕ) → slid_class (cond b x (exchanged e g x)) ≡ slid_class x
      either_class true x = refl
      either_class false x = exchanged_class x

      other_class : (b : Bool) (x : ℕ) → slid_class (cond b (exchanged e g x) x) ≡ slid_class x
      other_class true x = exchanged_class x
      other_class false x = refl

      classed : IsClassed slid_class (strands result)
      classed =
          every_classed slid_class (strands result)
          (every_on_side (λ s. (slid_class s.from ≡ s.component) × (slid_class s.to ≡ s.component)) side (exchanged e g) new
          (every_weaker (Marked outer of_mark slide n pieces) (λ s. (slid_class (moved s).from ≡ s.component) × (slid_class (moved s).to ≡ s.component))
          (λ s h. (either_class (alike s.ahead side) s.from ∙ h.1, other_class (alike s.ahead side) s.to ∙ (ap of_mark (sym h.0) ∙ h.1)))
          (strands new) new_marked))

      -- THE COMPONENTS AFTER A SLIDE
      pub slid_has : HasComponents slid_class root result
      slid_has = record {
        directed = banded_direction side e g new at.both_once new_directed;
        classed = classed;
        rooted = rooted;
      }

pub slide_components : SlideComponentsLaw
slide_components slide class root e f none m n side pieces has at = record {
  new_class = slid_class slide class root e f none m n pieces;
  has = slid_has slide class root e f none m n pieces has at side;
  as_before = slid_class_old slide class root e f none m n pieces has at;
}
