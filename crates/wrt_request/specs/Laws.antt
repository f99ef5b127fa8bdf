-- Laws over the definitions alone.
use Rattle.std.specs.Prelude.{◌≡◌, ◌<◌, ◌^◌, ◌↔◌, ℕ, List, map, Some, All, decimal}
use Rattle.std.specs.List.{join_with_byte}
use Rattle.wrt_request.specs.Decimals.{decimal_value}
use Rattle.wrt_request.specs.Lists.{list_value}

-- A text writes n exactly where n is below 2^64 and the text is the decimal spelling of n.
abbrev pub NumbersBySpelling : Type 0
NumbersBySpelling = (text : List ℕ) (n : ℕ) → (decimal_value text ≡ Some n) ↔ ((n < 2 ^ 64) × (text ≡ decimal n))

-- A text writes a list exactly where the members are below 10^9 and the text is their spellings, with commas (44) between.
abbrev pub ListsBySpelling : Type 0
ListsBySpelling =
    (text : List ℕ) (ns : List ℕ) → (list_value text ≡ Some ns) ↔ (All (λ n. n < 10 ^ 9) ns × (text ≡ join_with_byte 44 (map decimal ns)))
