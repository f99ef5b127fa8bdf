-- Laws over the definitions alone.
use Rattle.std.specs.Prelude.{◌≡◌, ℕ, List, decimal}
use Rattle.text_shapes.specs.Tokens.{IsNumber, IsNumeral}

-- the tokens of numbers are word for word one to six decimal digits whose first is not 0
abbrev pub NumbersAreNumerals : Type 0
NumbersAreNumerals = ((digits : List ℕ) (n : ℕ) → IsNumeral digits n → IsNumber n × (digits ≡ decimal n)) × ((n : ℕ) → IsNumber n → IsNumeral (decimal n) n)
