-- The colours of the two forms, by place.
use Rattle.std.proofs.Common.{◌≡◌, ℕ, ◌-◌, ◌*◌, ◌/◌, ◌<◌, ◌≤◌, length, slice_index, refl, ap, ◌∙◌, arith}
use Rattle.std.proofs.lemmas.List.FromFn.{length-range_with_len, get_or-range_with_len, length-map-range_with_len, get_or-map-range_with_len}
use Rattle.root_quantum.specs.Parameters.{Parameters}
use Rattle.root_quantum.specs.Colours.{colours_of, form_colours}
use Rattle.root_quantum.specs.declared.form.Form.TheVariants.{All as Full, Even}

pub full_count : (r : ℕ) → length (colours_of Full r) ≡ r - 1
full_count r = length-range_with_len 0 (r - 1)

pub full_colour : (r k : ℕ) → k < r - 1 → slice_index (colours_of Full r) k ≡ k
full_colour r k h = get_or-range_with_len 0 (r - 1) k 0 h ∙ omega arith

pub count_of_full : (p : Parameters) → p.form ≡ Full → length (form_colours p) ≡ p.level - 1
count_of_full p e = ap (λ f. length (colours_of f p.level)) e ∙ full_count p.level

pub count_of_even : (p : Parameters) → p.form ≡ Even → length (form_colours p) ≡ (p.level - 1) / 2
count_of_even p e = ap (λ f. length (colours_of f p.level)) e ∙ length-map-range_with_len (λ k. 2 * k) 0 ((p.level - 1) / 2)

pub colour_of_full : (p : Parameters) (k : ℕ) → p.form ≡ Full → k < length (form_colours p) → slice_index (form_colours p) k ≡ k
colour_of_full p k e h =
    let count = count_of_full p e in
    ap (λ f. slice_index (colours_of f p.level) k) e ∙ full_colour p.level k (omega (arith, count, h))

pub colour_of_even : (p : Parameters) (k : ℕ) → p.form ≡ Even → k < length (form_colours p) → slice_index (form_colours p) k ≡ 2 * k
colour_of_even p k e h =
    let count = count_of_even p e in
    ap (λ f. slice_index (colours_of f p.level) k) e
    ∙ get_or-map-range_with_len (λ j. 2 * j) 0 ((p.level - 1) / 2) k k 0 (omega (arith, count, h)) (omega arith)

-- places are few
pub full_few : (p : Parameters) (k : ℕ) → p.form ≡ Full → k < length (form_colours p) → k ≤ 8
full_few p k e h = let count = count_of_full p e in let high = p.meets.level.1 in omega (arith, count, h, high)

pub even_few : (p : Parameters) (k : ℕ) → p.form ≡ Even → k < length (form_colours p) → 2 * k ≤ 8
even_few p k e h = let count = count_of_even p e in let high = p.meets.level.1 in omega (arith, count, h, high)

-- there is a colour
pub some_colours : (p : Parameters) → 0 < length (form_colours p)
some_colours p =
    elim p.form as (λ f. p.form ≡ f → 0 < length (form_colours p)) [
      | Full ↦ λ e. (let count = count_of_full p e in let low = p.meets.level.0 in omega (arith, count, low))
      | Even ↦ λ e. (let count = count_of_even p e in let low = p.meets.level.0 in omega (arith, count, low))
    ] refl
