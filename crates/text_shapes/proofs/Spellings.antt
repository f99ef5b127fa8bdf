-- Tokens with nothing between them spell themselves.
use Rattle.std.proofs.Common.{ℕ, List, [], ◌∷◌, refl}
use Rattle.std.specs.List.{concat}
use Rattle.text_shapes.specs.Tokens.{IsSpelled}

pub IsSpelled-concat : (tokens : List (List ℕ)) → IsSpelled tokens (concat tokens)
IsSpelled-concat [] = tt
IsSpelled-concat (t ∷ ts) = ([], concat ts, tt, refl, IsSpelled-concat ts)
