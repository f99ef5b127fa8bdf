-- One change of a forest: what it stands for after one parent is replaced.
use Rattle.std.proofs.Common.{◌≡◌, ◌≢◌, ℕ, ◌<◌, ◌≤◌, List, length, get_or, set, min, max, get_or-set_other, sym, ap, ◌∙◌, arith, ⊎_elim, ◌⊎◌, inl, inr, length-set}
use Rattle.std.proofs.lemmas.Grind.{get_or-set_at}
use Rattle.std.proofs.lemmas.Bool.{cases_order}
use Rattle.std.proofs.lemmas.Bool.Decides.{nat_tests}
use Rattle.graph_parts.specs.LeastNames.{join_least}
use Rattle.part_labels.specs.Forests.{IsDescending, StandsFor}
use Rattle.std.proofs.lemmas.Bool.{cases_eq}

module _ (parents : List ℕ) (at value : ℕ) (within : at < length parents) where
  long : length (set parents at value) ≡ length parents
  long = length-set parents at value

  set_same : (x : ℕ) → x ≡ at → get_or (set parents at value) x 0 ≡ value
  set_same x e = get_or-set_at parents at x value 0 e within

  set_other : (x : ℕ) → x ≢ at → get_or (set parents at value) x 0 ≡ get_or parents x 0
  set_other x ne = get_or-set_other parents at x value 0 ne

  pub IsDescending-set : value ≤ at → IsDescending parents → IsDescending (set parents at value)
  IsDescending-set le h x l =
      let n = long in
      ⊎_elim
      (λ e. let s = set_same x e in omega (arith, s, e, le))
      (λ ne. let s = set_other x ne in let d = h x (omega (arith, l, n)) in omega (arith, s, d))
      (cases_eq x at)

  -- A NAME HUNG ON ANOTHER OF ITS TREE
  pub StandsFor-halve : (label : ℕ → ℕ) → value < at → label value ≡ label at → StandsFor label parents → StandsFor label (set parents at value)
  StandsFor-halve label below like h = record {
    same = λ x l.
        let n = long in
        ⊎_elim
        (λ e. ap label (set_same x e) ∙ like ∙ ap label (sym e))
        (λ ne. ap label (set_other x ne) ∙ h.same x (omega (arith, l, n)))
        (cases_eq x at);
    root = λ x l r.
        let n = long in
        ⊎_elim
        (λ e. let s = set_same x e in absurd (omega (arith, s, e, r, below)))
        (λ ne. h.root x (omega (arith, l, n)) (sym (set_other x ne) ∙ r))
        (cases_eq x at);
  }

-- ONE ROOT HUNG ON ANOTHER
pub StandsFor-join : (label : ℕ → ℕ) (parents : List ℕ) (left right high low : ℕ) →
    high ≡ max (label left) (label right) → low ≡ min (label left) (label right) → high < length parents →
    label (label left) ≡ label left → label (label right) ≡ label right → StandsFor label parents →
    StandsFor (join_least label (left, right)) (set parents high low)
StandsFor-join label parents left right high low is_high is_low within top_left top_right h =
    let new : ℕ → ℕ = join_least label (left, right) in
    let n = long parents high low within in
    let a = label left in let b = label right in
    let either : ((low ≡ a) × (high ≡ b)) ⊎ ((low ≡ b) × (high ≡ a)) =
    ⊎_elim (λ e. inl (omega (arith, e, is_high, is_low))) (λ o. ⊎_elim (λ l. inl (omega (arith, l, is_high, is_low))) (λ g. inr (omega (arith, g, is_high, is_low))) o) (cases_order a b) in
    let low_label : new low ≡ low =
    ⊎_elim (λ p. let u = ap label p.0 in grind (arith, nat_tests, u, top_left, is_low)) (λ p. let u = ap label p.0 in grind (arith, nat_tests, u, top_right, is_low)) either in
    let high_label : new high ≡ low =
    ⊎_elim (λ p. let u = ap label p.1 in grind (arith, nat_tests, u, top_right, is_low)) (λ p. let u = ap label p.1 in grind (arith, nat_tests, u, top_left, is_low)) either in
    record {
      same = λ x l.
          ⊎_elim
          (λ e. ap new (set_same parents high low within x e) ∙ low_label ∙ sym (ap new e ∙ high_label))
          (λ ne. ap new (set_other parents high low within x ne) ∙ (let s = h.same x (omega (arith, l, n)) in rw s))
          (cases_eq x high);
      root = λ x l r.
          ⊎_elim
          (λ e. ap new e ∙ high_label ∙ sym (set_same parents high low within x e) ∙ r)
          (λ ne.
          let s = h.root x (omega (arith, l, n)) (sym (set_other parents high low within x ne) ∙ r) in
          ⊎_elim (λ p. grind (arith, nat_tests, s, ne, p.0, p.1, is_low)) (λ p. grind (arith, nat_tests, s, ne, p.0, p.1, is_low)) either)
          (cases_eq x high);
    }
