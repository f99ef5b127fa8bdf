-- The definitions, computed at worked values.
use Rattle.std.proofs.Common.{◌≡◌, [], ◌∷◌, codes, refl}
use Rattle.text_shapes.specs.Tokens.{is_space, IsSpelled}
use Rattle.text_shapes.specs.Reach.{reach, place, common}

-- "[ 12 ]" is spelled by the tokens "[", "12", "]"
spelled : IsSpelled (codes "[" ∷ codes "12" ∷ codes "]" ∷ []) (codes "[ 12 ]")
unfolding is_space
spelled = ([], codes " 12 ]", tt, refl, (codes " ", codes " ]", (refl, tt), refl, (codes " ", [], (refl, tt), refl, tt)))

-- "PD(" begins a text of the tokens "PD", "[", "]" up to byte 2, and "PD[]" is one
begins : place (codes "PD(") 0 (codes "PD" ∷ codes "[" ∷ codes "]" ∷ []) ≡ 2
unfolding reach is_space
begins = refl

ends : place (codes "PD[]") 0 (codes "PD" ∷ codes "[" ∷ codes "]" ∷ []) ≡ 5
unfolding reach is_space
ends = refl

-- "R2Un[" has four bytes of "R2Undo"
agrees : common (codes "R2Undo") (codes "R2Un[") ≡ 4
unfolding common
agrees = refl
