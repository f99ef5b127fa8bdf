-- The greatest colour of a form is the last of its colours. In the even form, where r is odd, that is r - 3, twice
-- the last number below (r - 1) / 2.
use Rattle.std.proofs.Common.{◌≡◌, ℕ, ◌-◌, ◌*◌, ◌/◌, ◌%◌, ◌<◌, ◌≤◌, ◌∙◌, arith, All, Contains}
use Rattle.std.specs.List.{range_with_len}
use Rattle.std.proofs.lemmas.List.Elements.{All-map}
use Rattle.std.proofs.lemmas.List.FromFn.{length-range_with_len, get_or-range_with_len, length-map-range_with_len, get_or-map-range_with_len}
use Rattle.list_lemmas.proofs.Ranges.{All-below}
use Rattle.root_quantum.specs.Forms.{HasParity}
use Rattle.root_quantum.specs.Parameters.{IsLevel}
use Rattle.root_quantum.specs.Colours.{colours_of, greatest_of}
use Rattle.root_quantum.specs.Laws.{GreatestOfColours}
use Rattle.root_quantum.specs.declared.form.Form.{Form}
use Rattle.root_quantum.specs.declared.form.Form.TheVariants.{All as Full, Even}

-- half of an odd number's less one
half_even : (r : ℕ) → r % 2 ≡ 1 → 2 * ((r - 1) / 2) ≡ r - 1
half_even r odd = omega (arith, odd)

-- it is one of the colours
is_colour : (form : Form) (r : ℕ) → IsLevel r → HasParity form r → Contains (colours_of form r) (greatest_of form r)
is_colour Full r level odd =
    let b : r - 2 < r - 1 = omega (arith, level.0) in
    let l = length-range_with_len 0 (r - 1) in
    (r - 2, omega (arith, b, l), get_or-range_with_len 0 (r - 1) (r - 2) (r - 2) b ∙ omega arith)
is_colour Even r level odd =
    let h = half_even r odd in
    let k : ℕ = (r - 1) / 2 - 1 in
    let b : k < (r - 1) / 2 = omega (arith, h, level.0) in
    let l = length-map-range_with_len (λ j. 2 * j) 0 ((r - 1) / 2) in
    let e : 2 * k ≡ r - 3 = omega (arith, h, level.0) in
    (k, omega (arith, b, l), get_or-map-range_with_len (λ j. 2 * j) 0 ((r - 1) / 2) k k (r - 3) b (omega arith) ∙ e)

-- and none is greater
none_greater : (form : Form) (r : ℕ) → IsLevel r → HasParity form r → All (λ n. n ≤ greatest_of form r) (colours_of form r)
none_greater Full r level odd = All-below (λ n. n ≤ r - 2) (r - 1) (λ k l. omega (arith, l))
none_greater Even r level odd =
    let h = half_even r odd in
    All-map (λ n. n ≤ r - 3) (λ j. 2 * j) (range_with_len 0 ((r - 1) / 2)) (All-below (λ j. 2 * j ≤ r - 3) ((r - 1) / 2) (λ k l. omega (arith, l, h)))

below_top : (form : Form) (r : ℕ) → IsLevel r → greatest_of form r ≤ r - 1
below_top Full r level = omega arith
below_top Even r level = omega arith

small : (form : Form) (r : ℕ) → IsLevel r → greatest_of form r ≤ 8
small Full r level = omega (arith, level.1)
small Even r level = omega (arith, level.1)

-- THE LAW
pub greatest_of_colours_law : GreatestOfColours
greatest_of_colours_law p =
    let a = below_top p.form p.level p.meets.level in
    let b = small p.form p.level p.meets.level in
    (is_colour p.form p.level p.meets.level p.meets.parity, none_greater p.form p.level p.meets.level p.meets.parity, omega (arith, a, b))
