-- The numbers of names: a name of 16 l to 16 l + 15 belongs to the label l.
use Rattle.std.proofs.Common.{◌≡◌, ℕ, ◌+◌, ◌*◌, ◌/◌, ◌^◌, ◌<◌, ◌≤◌, Bool, true, false, if◌then◌else◌, List, length, map, sym, ap, ◌∙◌, arith, ⊎_elim}
use Rattle.std.specs.List.{range_with_len}
use Rattle.std.proofs.lemmas.List.{length-reverse}
use Rattle.std.proofs.lemmas.List.FromFn.{length-map-range_with_len}
use Rattle.state_sums.specs.Networks.{Term}
use Rattle.list_lemmas.specs.Times.{times_in}
use Rattle.cables.specs.Strands.{Strands, strands_of}
use Rattle.cables.proofs.NameCounts.{times-reverse, found_in_map, times-map}
use Rattle.cables.proofs.PlaceNames.{AreAsMany, first_times, second_times, OnlyLabel}
use Rattle.cables.proofs.LabelNames.{zero_or_some}

abbrev shift : Bool → ℕ
shift boxed = if boxed then 1 else 0

shift-le : (boxed : Bool) → shift boxed ≤ 1
shift-le true = omega arith
shift-le false = omega arith

module _ (colour : ℕ → ℕ) (boxed : ℕ → Bool) (box : ℕ → List Term) where
  abbrev strands : Strands
  strands = strands_of colour boxed box

  abbrev first_name : ℕ → ℕ → ℕ
  first_name label i = 16 * label + 2 * i

  abbrev second_name : ℕ → ℕ → ℕ
  second_name label i = 16 * label + 2 * i + shift (boxed label)

  pub first_length : (label : ℕ) → length (strands.first label) ≡ colour label
  first_length label = length-map-range_with_len (first_name label) 0 (colour label)

  pub as_many_strands : AreAsMany strands
  as_many_strands label =
      length-reverse (map (second_name label) (range_with_len 0 (colour label)))
      ∙ length-map-range_with_len (second_name label) 0 (colour label)
      ∙ sym (first_length label)

  module _ (x : ℕ) where
    found_first : (label : ℕ) → 1 ≤ first_times strands x label → (i : ℕ) × ((i < colour label) × (x ≡ 16 * label + 2 * i))
    found_first label h = let r = found_in_map (first_name label) (λ a b e. omega (arith, e)) x 0 (colour label) h in let b = r.1.1 in (r.0, (omega (arith, b), r.1.2))

    second_is : (label : ℕ) → second_times strands x label ≡ times_in (map (second_name label) (range_with_len 0 (colour label))) x
    second_is label = times-reverse x (map (second_name label) (range_with_len 0 (colour label)))

    found_second : (label : ℕ) → 1 ≤ second_times strands x label → (i : ℕ) × ((i < colour label) × (x ≡ 16 * label + 2 * i + shift (boxed label)))
    found_second label h =
        let e = second_is label in
        let r = found_in_map (second_name label) (λ a b e. omega (arith, e)) x 0 (colour label) (omega (arith, e, h)) in let b = r.1.1 in (r.0, (omega (arith, b), r.1.2))

    pub first_once : (label : ℕ) → first_times strands x label ≤ 1
    first_once label = times-map (first_name label) (λ a b e. omega (arith, e)) x 0 (colour label)

    pub second_once : (label : ℕ) → second_times strands x label ≤ 1
    second_once label = let e = second_is label in let b = times-map (second_name label) (λ a b e. omega (arith, e)) x 0 (colour label) in omega (arith, e, b)

    pub plain_second : (label : ℕ) → boxed label ≡ false → second_times strands x label ≡ first_times strands x label
    plain_second label h =
        second_is label
        ∙ (let e : (i : ℕ) → second_name label i ≡ first_name label i = λ i. ap (λ b. 16 * label + 2 * i + shift b) h ∙ (let z : 16 * label + 2 * i + 0 ≡ 16 * label + 2 * i = omega arith in z) in
        let same : second_name label ≡ first_name label = λ k i. e i k in
        ap (λ f. times_in (map f (range_with_len 0 (colour label))) x) same)

    pub box_once : (label : ℕ) → boxed label ≡ true → first_times strands x label + second_times strands x label ≤ 1
    box_once label h =
        let f = first_once label in
        let s = second_once label in
        ⊎_elim (λ e. omega (arith, e, s))
        (λ u. ⊎_elim (λ e. omega (arith, e, f))
        (λ v.
        let uu = u.1 in let vv = v.1 in
        let a = found_first label (omega (arith, uu)) in
        let b = found_second label (omega (arith, vv)) in
        let one : shift (boxed label) ≡ 1 = ap shift h in
        let aa = a.1.1 in let bb = b.1.1 in
        absurd (omega (arith, aa, bb, one)))
        (zero_or_some (second_times strands x label)))
        (zero_or_some (first_times strands x label))

    module _ (few : (label : ℕ) → colour label ≤ 8) where
      pub first_label : (label : ℕ) → 1 ≤ first_times strands x label → x / 16 ≡ label
      first_label label h = let r = found_first label h in let b = r.1.0 in let e = r.1.1 in let c = few label in omega (arith, b, e, c)

      pub second_label : (label : ℕ) → 1 ≤ second_times strands x label → x / 16 ≡ label
      second_label label h = let r = found_second label h in let b = r.1.0 in let e = r.1.1 in let c = few label in let s = shift-le (boxed label) in omega (arith, b, e, c, s)

      pub only_label : OnlyLabel strands x (x / 16)
      only_label label other = (
        ⊎_elim (λ e. e) (λ s. let k = s.1 in let l = first_label label (omega (arith, k)) in absurd (other (sym l))) (zero_or_some (first_times strands x label)),
        ⊎_elim (λ e. e) (λ s. let k = s.1 in let l = second_label label (omega (arith, k)) in absurd (other (sym l))) (zero_or_some (second_times strands x label)),
      )

      pub label_low : (label : ℕ) → label ≤ 2000000 → 1 ≤ first_times strands x label + second_times strands x label → x < 2 ^ 25
      label_low label low h =
          ⊎_elim
          (λ e. let r = found_second label (omega (arith, h, e)) in let b = r.1.0 in let i = r.1.1 in let c = few label in let s = shift-le (boxed label) in omega (arith, b, i, c, s, low))
          (λ s. let k = s.1 in let r = found_first label (omega (arith, k)) in let b = r.1.0 in let i = r.1.1 in let c = few label in omega (arith, b, i, c, low))
          (zero_or_some (first_times strands x label))
