use Rattle.std.proofs.Common.{◌≡◌, ◌+◌, ◌∷◌, ◌++◌, map, take}
use Rattle.temperley_lieb.proofs.noncrossing.nested.Given as goal

abbrev pub invariant-loop-point : goal.invariant-loop-point
invariant-loop-point l = l.partners.items ≡ (l.between + 1) ∷ map (λ j. j + 1) (take l.point-index l.inside)

abbrev pub invariant-loop-point-2 : goal.invariant-loop-point-2
invariant-loop-point-2 l =
    l.partners.items ≡ (l.between + 1) ∷ (map (λ j. j + 1) l.inside ++ (0 ∷ map (λ j. j + l.past) (take l.point-index l.behind)))
