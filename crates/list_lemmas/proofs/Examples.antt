-- How often numbers stand in lists, computed.
use Rattle.std.proofs.Common.{◌≡◌, [], ◌∷◌, map, refl}
use Rattle.list_lemmas.specs.Times.{times_in}

counted : map (times_in (4 ∷ 1 ∷ 4 ∷ [])) (4 ∷ 1 ∷ 7 ∷ []) ≡ 2 ∷ 1 ∷ 0 ∷ []
counted = refl
