use Rattle.std.proofs.Common.{◌≡◌, ◌==◌, ℕ, map, take}
use Rattle.std.specs.List.{filter}
use Rattle.planar_check.proofs.component.own_names.Given as goal

-- of the names so far, those that are their own least ones
abbrev pub invariant-loop-rank : goal.invariant-loop-rank
invariant-loop-rank l = (least : ℕ → ℕ) → l.leasts ≡ map least l.names → l.own.items ≡ filter (λ name. least name == name) (take l.rank l.names)
