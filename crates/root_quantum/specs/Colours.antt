-- The colours over which a surgery value sums: in the full form all from 0 to r-2 (Lickorish, ch. 13), in the even form the
-- even ones from 0 to r-3 (this project's own).
--
--     form_colours p           the colours: at 41, 2, 5 these are 0, 1, 2, 3, and in the even form 0, 2
--     greatest_colour p        the greatest of them: 3, and in the even form 2
--     colours_of form r, greatest_of form r      the same, for a form and a level
use Rattle.std.specs.Prelude.{ℕ, ◌-◌, ◌*◌, ◌/◌, List, map}
use Rattle.std.specs.List.{range_with_len}
use Rattle.root_quantum.specs.Parameters.{Parameters}
use Rattle.root_quantum.specs.declared.form.Form.{Form}
use Rattle.root_quantum.specs.declared.form.Form.TheVariants.{All, Even}

-- 0 to r-2, or 0, 2, .. to r-3
abbrev pub colours_of : Form → ℕ → List ℕ
colours_of All r = range_with_len 0 (r - 1)
colours_of Even r = map (λ k. 2 * k) (range_with_len 0 ((r - 1) / 2))

abbrev pub greatest_of : Form → ℕ → ℕ
greatest_of All r = r - 2
greatest_of Even r = r - 3

-- the colours of parameters
abbrev pub form_colours : Parameters → List ℕ
form_colours p = colours_of p.form p.level

-- the greatest of them
abbrev pub greatest_colour : Parameters → ℕ
greatest_colour p = greatest_of p.form p.level
