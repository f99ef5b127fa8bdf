-- How often a name stands in a reversed list, over nodes, and in a run of names that a function gives to numbers in a row: at most once.
use Rattle.std.proofs.Common.{◌≡◌, ℕ, zero, suc, ◌+◌, ◌<◌, ◌≤◌, ◌==◌, true, false, cond, List, ◌++◌, map, reverse, refl, sym, ap, ◌∙◌, arith, inl, inr}
use Rattle.std.specs.List.{range_with_len}
use Rattle.std.proofs.lemmas.Bool.{cases_Bool, eqb-true}
use Rattle.std.proofs.lemmas.List.Concat.{flat_map-append}
use Rattle.std.proofs.lemmas.List.Sorted.{IsPermutation-reverse, sum_by-IsPermutation}
use Rattle.state_sums.specs.Networks.{Node, names_of}
use Rattle.list_lemmas.specs.Times.{times_in}
use Rattle.list_lemmas.proofs.Times.{times_in-cons, times_in-append}

-- 1 where x is y
abbrev pub at : ℕ → ℕ → ℕ
at x y = cond (x == y) 1 0

pub times-reverse : (x : ℕ) (ys : List ℕ) → times_in (reverse ys) x ≡ times_in ys x
times-reverse x ys = sum_by-IsPermutation (at x) ys (reverse ys) (IsPermutation-reverse ys)

at-le : (x y : ℕ) → at x y ≤ 1
at-le x y = elim (x == y) as (λ b. cond b 1 0 ≤ 1) [ true ↦ omega arith | false ↦ omega arith ]

-- the names of nodes, one list after the other
pub times_of-append : (x : ℕ) (ns ms : List Node) → times_in (names_of (ns ++ ms)) x ≡ times_in (names_of ns) x + times_in (names_of ms) x
times_of-append x ns ms = ap (λ ys. times_in ys x) (flat_map-append (λ node. node.ends) ns ms) ∙ times_in-append (names_of ns) (names_of ms) x

-- the names of numbers in a row
module _ (f : ℕ → ℕ) (apart : (i j : ℕ) → f i ≡ f j → i ≡ j) (x : ℕ) where
  pub found_in_map : (a n : ℕ) → 1 ≤ times_in (map f (range_with_len a n)) x → (i : ℕ) × ((a ≤ i) × (i < a + n) × (x ≡ f i))
  found_in_map a zero h = absurd (omega (arith, h))
  found_in_map a (suc n) h =
      let more = times_in-cons (f a) (map f (range_with_len (a + 1) n)) x in
      elim (cases_Bool (x == f a)) [
        | inl t ↦ (a, (omega arith, omega arith, eqb-true x (f a) t))
        | inr t ↦ (
            let none : at x (f a) ≡ 0 = grind (arith, t) in
            let r = found_in_map (a + 1) n (omega (arith, more, none, h)) in
            (r.0, ((let b = r.1.0 in omega (arith, b)), (let b = r.1.1 in omega (arith, b)), r.1.2)))
      ]

  -- A RUN OF NAMES
  pub times-map : (a n : ℕ) → times_in (map f (range_with_len a n)) x ≤ 1
  times-map a zero = omega arith
  times-map a (suc n) =
      let more = times_in-cons (f a) (map f (range_with_len (a + 1) n)) x in
      let ih = times-map (a + 1) n in
      elim (cases_Bool (x == f a)) [
        | inl t ↦ (
            let one = at-le x (f a) in
            let none : times_in (map f (range_with_len (a + 1) n)) x ≡ 0 =
            elim (times_in (map f (range_with_len (a + 1) n)) x) as (λ k. times_in (map f (range_with_len (a + 1) n)) x ≡ k → k ≡ 0) [
              | zero ↦ λ e. refl
              | suc k ↦ λ e.
                  let r = found_in_map (a + 1) n (omega (arith, e)) in
                  let same = apart a r.0 (sym (eqb-true x (f a) t) ∙ r.1.2) in
                  let low = r.1.0 in
                  absurd (omega (arith, same, low))
            ] refl in
            omega (arith, more, one, none))
        | inr t ↦ (let none : at x (f a) ≡ 0 = grind (arith, t) in omega (arith, more, none, ih))
      ]
