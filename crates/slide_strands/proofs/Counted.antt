-- Labels that are entered as often as they are left: whatever they weigh, both weigh the same. And a label that is entered is the end of
-- a strand.
use Rattle.std.proofs.Common.{◌≡◌, ℕ, ◌+◌, ◌≤◌, ◌==◌, Bool, true, false, cond, List, [], ◌∷◌, refl, sym, ap, ◌∙◌, arith, inl, inr}
use Rattle.std.specs.List.{AllByRecursion}
use Rattle.std.proofs.lemmas.Bool.{cases_Bool, eqb-true, eq-eqb}
use Rattle.slide_strands.specs.declared.strand.Strand.{Strand}
use Rattle.slide_strands.specs.Strands.{end_of, end_sum, is_label, IsDirected}

abbrev total : (ℕ → ℕ) → List ℕ → ℕ
total w [] = 0
total w (x ∷ xs) = w x + total w xs

-- a list without one of its numbers
record Removed (a : ℕ) (xs : List ℕ) : Type 0 where
  rest : List ℕ
  sums : (w : ℕ → ℕ) → total w xs ≡ w a + total w rest

removed : (a : ℕ) (xs : List ℕ) → 1 ≤ total (is_label a) xs → Removed a xs
removed a [] h = absurd (omega (arith, h))
removed a (x ∷ xs) h = elim (cases_Bool (x == a)) [
  | inl e ↦ record { rest = xs; sums = λ w. ap (λ (y : ℕ). w y + total w xs) (eqb-true x a e) }
  | inr e ↦ (
      let none : is_label a x ≡ 0 = ap (λ (b : Bool). cond b 1 0) e in
      let r = removed a xs (omega (arith, h, none)) in
      record { rest = x ∷ r.rest; sums = λ w. let s = r.sums w in omega (arith, s) })
]

same_sums : (xs ys : List ℕ) → ((x : ℕ) → total (is_label x) xs ≡ total (is_label x) ys) → (w : ℕ → ℕ) → total w xs ≡ total w ys
same_sums [] [] h w = refl
same_sums [] (y ∷ ys) h w =
    let one : is_label y y ≡ 1 = ap (λ (b : Bool). cond b 1 0) (eq-eqb y y refl) in
    let e = h y in
    absurd (omega (arith, e, one))
same_sums (x ∷ xs) ys h w =
    let one : is_label x x ≡ 1 = ap (λ (b : Bool). cond b 1 0) (eq-eqb x x refl) in
    let e = h x in
    let r = removed x ys (omega (arith, e, one)) in
    let rest : (z : ℕ) → total (is_label z) xs ≡ total (is_label z) r.rest = λ z. let a = h z in let b = r.sums (is_label z) in omega (arith, a, b) in
    let ih = same_sums xs r.rest rest w in
    let s = r.sums w in
    omega (arith, ih, s)

abbrev end_list : Bool → List Strand → List ℕ
end_list into [] = []
end_list into (s ∷ ss) = end_of into s ∷ end_list into ss

ends_total : (into : Bool) (w : ℕ → ℕ) (ss : List Strand) → total w (end_list into ss) ≡ end_sum into w ss
ends_total into w [] = refl
ends_total into w (s ∷ ss) = ap (λ n. w (end_of into s) + n) (ends_total into w ss)

pub from_counts : (ss : List Strand) → ((x : ℕ) → end_sum true (is_label x) ss ≡ end_sum false (is_label x) ss) → IsDirected ss
from_counts ss h w =
    sym (ends_total true w ss)
    ∙ (same_sums (end_list true ss) (end_list false ss) (λ x. ends_total true (is_label x) ss ∙ (h x ∙ sym (ends_total false (is_label x) ss))) w
    ∙ ends_total false w ss)

-- a label that is entered is the end of a strand
pub some_end : (G : Type 0) (f : ℕ) (ss : List Strand) → AllByRecursion (λ s. end_of true s ≡ f → G) ss → 1 ≤ end_sum true (is_label f) ss → G
some_end G f [] h l = absurd (omega (arith, l))
some_end G f (s ∷ ss) h l = elim (cases_Bool (end_of true s == f)) [
  | inl e ↦ h.0 (eqb-true (end_of true s) f e)
  | inr e ↦ (let none : is_label f (end_of true s) ≡ 0 = ap (λ (b : Bool). cond b 1 0) e in some_end G f ss h.1 (omega (arith, l, none)))
]
