-- The band joins: where the labels e and g lie on strands of different kinds, exchanging their ends on one side joins them. For
-- suppose e is not joined with g, and count along the strands of e's kind the ends whose label is joined with e: as many are entered
-- as are left; but the end at which e was exchanged has lost one.
use Rattle.std.proofs.Common.{◌≡◌, ◌≢◌, ℕ, ◌+◌, ◌*◌, ◌≤◌, ◌==◌, Bool, true, false, not, cond, List, [], ◌∷◌, refl, sym, ap, ap₂, ◌∙◌, arith, inl, inr}
use Rattle.std.specs.List.{AllByRecursion}
use Rattle.std.proofs.lemmas.Bool.{cases_Bool, eqb-true, eq-eqb, ne_eqb}
use Rattle.graph_parts.specs.LeastNames.{least_label}
use Rattle.graph_parts.specs.Walks.{Joined, back}
use Rattle.graph_parts.proofs.LeastLabels.{least_label-Joined}
use Rattle.slide_strands.specs.declared.strand.Strand.{Strand}
use Rattle.slide_strands.specs.declared.strand.Piece.{Piece}
use Rattle.slide_strands.specs.Strands.{alike, strands, end_of, end_sum, is_label, IsDirected, piece_edges}
use Rattle.slide_strands.specs.Doubling.{exchanged, on_side, banded}
use Rattle.slide_strands.specs.Laws.{BandJoinsLaw}
use Rattle.slide_strands.proofs.Directions.{side_end}
use Rattle.slide_strands.proofs.Joins.{all_joined, every_from_side, every_both}

-- a fact on both ends is one on the ends that are entered and left
ends_alike : {A : Type 0} (f : ℕ → A) (s : Strand) (into : Bool) → f s.from ≡ f s.to → f (end_of into s) ≡ f (end_of (not into) s)
ends_alike {A} f s into h = by_test (alike into s.ahead) (alike (not into) s.ahead) (opposite into s.ahead)
  where
    opposite : (x y : Bool) → alike (not x) y ≡ not (alike x y)
    opposite true true = refl
    opposite true false = refl
    opposite false true = refl
    opposite false false = refl

    by_test : (x y : Bool) → y ≡ not x → f (cond x s.from s.to) ≡ f (cond y s.from s.to)
    by_test true y e = h ∙ ap (λ (b : Bool). f (cond b s.from s.to)) (sym e)
    by_test false y e = sym h ∙ ap (λ (b : Bool). f (cond b s.from s.to)) (sym e)

kept_end : (into : Bool) (rename : ℕ → ℕ) (s : Strand) → end_of into (on_side into rename s) ≡ end_of into s
kept_end into rename s = side_end into into rename s ∙ ap (λ (b : Bool). cond b (end_of into s) (rename (end_of into s))) (same into)
  where
    same : (x : Bool) → alike x x ≡ true
    same true = refl
    same false = refl

changed_end : (into : Bool) (rename : ℕ → ℕ) (s : Strand) → end_of (not into) (on_side into rename s) ≡ rename (end_of (not into) s)
changed_end into rename s = side_end (not into) into rename s ∙ ap (λ (b : Bool). cond b (end_of (not into) s) (rename (end_of (not into) s))) (other into)
  where
    other : (x : Bool) → alike (not x) x ≡ false
    other true = refl
    other false = refl

abbrev once : Bool → ℕ
once b = cond b 1 0

module _ (side : Bool) (e g : ℕ) (pieces : List Piece) (kind : ℕ → Bool)
    (kinds : AllByRecursion (λ s. kind s.from ≡ kind s.to) (strands pieces)) (of_e : kind e ≡ true) (of_g : kind g ≡ false) where
  abbrev es : List (ℕ × ℕ)
  es = piece_edges (banded side e g pieces)

  abbrev part : ℕ → ℕ
  part = least_label es

  -- the label is joined with e
  abbrev with_e : ℕ → Bool
  with_e x = part x == part e

  abbrev weight : ℕ → ℕ
  weight x = cond (kind x) (once (with_e x)) 0

  e_itself : with_e e ≡ true
  e_itself = eq-eqb (part e) (part e) refl

  -- one strand: what the kept end weighs is what the other one weighs, but that e counts as g does
  one_strand : (s : Strand) → kind s.from ≡ kind s.to → Joined es (on_side side (exchanged e g) s).from (on_side side (exchanged e g) s).to →
      weight (end_of side s) + is_label e (end_of (not side) s) ≡ weight (end_of (not side) s) + is_label e (end_of (not side) s) * once (with_e g)
  one_strand s k j =
      let s' = on_side side (exchanged e g) s in
      let x = end_of (not side) s in
      let y = end_of side s in
      let one_kind : kind y ≡ kind x = ends_alike kind s side k in
      let one_part : part y ≡ part (exchanged e g x) =
      ap part (sym (kept_end side (exchanged e g) s)) ∙ (ends_alike part s' side ((least_label-Joined es s'.from s'.to).1 j) ∙ ap part (changed_end side (exchanged e g) s)) in
      let same_e : with_e y ≡ with_e (exchanged e g x) = ap (λ (n : ℕ). n == part e) one_part in
      elim (cases_Bool (x == e)) [
        | inl h ↦ (
            let is = eqb-true x e h in
            let now : exchanged e g x ≡ g = ap (λ (b : Bool). cond b g (cond (x == g) e x)) h in
            let here : is_label e x ≡ 1 = ap once h in
            let kx : kind x ≡ true = ap kind is ∙ of_e in
            let left : weight y ≡ once (with_e g) = ap₂ (λ (a b : Bool). cond a (once b) 0) (one_kind ∙ kx) (same_e ∙ ap with_e now) in
            let right : weight x ≡ 1 = ap₂ (λ (a b : Bool). cond a (once b) 0) kx (ap with_e is ∙ e_itself) in
            rw (left, right, here) (omega arith))
        | inr h ↦ (
            let here : is_label e x ≡ 0 = ap once h in
            let same : weight y ≡ weight x =
            (elim (cases_Bool (kind x)) [
              | inl t ↦ (
                  let apart : x ≢ g = λ q. let no : true ≡ false = sym t ∙ (ap kind q ∙ of_g) in absurd cc in
                  let now : exchanged e g x ≡ x = ap (λ (b : Bool). cond b g (cond (x == g) e x)) h ∙ ap (λ (b : Bool). cond b e x) (ne_eqb x g apart) in
                  ap₂ (λ (a b : Bool). cond a (once b) 0) one_kind (same_e ∙ ap with_e now))
              | inr t ↦ ap (λ (a : Bool). cond a (once (with_e y)) 0) (one_kind ∙ t) ∙ sym (ap (λ (a : Bool). cond a (once (with_e x)) 0) t)
            ]) in
            rw (same, here) (omega arith))
      ]

  all_strands : (ss : List Strand) → AllByRecursion (λ s. (kind s.from ≡ kind s.to) × Joined es (on_side side (exchanged e g) s).from (on_side side (exchanged e g) s).to) ss →
      end_sum side weight ss + end_sum (not side) (is_label e) ss ≡ end_sum (not side) weight ss + end_sum (not side) (is_label e) ss * once (with_e g)
  all_strands [] h = omega arith
  all_strands (s ∷ ss) h =
      let head = one_strand s h.0.0 h.0.1 in
      let tail = all_strands ss h.1 in
      omega (arith, head, tail)

  balanced : IsDirected (strands pieces) → end_sum side weight (strands pieces) ≡ end_sum (not side) weight (strands pieces)
  balanced d = by_side side
    where
      by_side : (b : Bool) → end_sum b weight (strands pieces) ≡ end_sum (not b) weight (strands pieces)
      by_side true = d weight
      by_side false = sym (d weight)

  -- THE BAND JOINS
  pub joins : IsDirected (strands pieces) → 1 ≤ end_sum (not side) (is_label e) (strands pieces) → Joined es e g
  joins d some =
      let moved = every_from_side (λ s. Joined es s.from s.to) side (exchanged e g) pieces (all_joined (banded side e g pieces)) in
      let sums = all_strands (strands pieces) (every_both (λ s. kind s.from ≡ kind s.to) (λ s. Joined es (on_side side (exchanged e g) s).from (on_side side (exchanged e g) s).to) (strands pieces) kinds moved) in
      let even = balanced d in
      let times = end_sum (not side) (is_label e) (strands pieces) in
      elim (cases_Bool (with_e g)) [
        | inl h ↦ back ((least_label-Joined es g e).0 (eqb-true (part g) (part e) h))
        | inr h ↦ absurd (
            let none : once (with_e g) ≡ 0 = ap once h in
            let nothing : times * once (with_e g) ≡ times * 0 = ap (λ n. times * n) none in
            omega (arith, sums, even, nothing, some))
      ]

pub band_joins : BandJoinsLaw
band_joins side e g pieces kind kinds of_e of_g d some = joins side e g pieces kind kinds of_e of_g d some
