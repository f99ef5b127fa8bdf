use Rattle.std.proofs.Common.{◌≡◌, ℕ, slice_index, take, true, ◌==◌}
use Rattle.std.specs.Set.{is_member}
use Rattle.std.specs.List.{All}
use Rattle.frontier_laws.proofs.FirstLeast.{running}
use Rattle.frontier_sweep.proofs.order.first_least.Given as goal

abbrev pub invariant-loop-place : goal.invariant-loop-place
invariant-loop-place g l =
    ((key : ℕ → ℕ) → All (λ place. (value : ℕ) → goal.F-post g l.measure place value → value ≡ key place) l.places →
    (l.best ≡ running key (slice_index l.places 0) (take l.place-index l.places)) × (l.least ≡ key l.best))
    × (is_member ◌==◌ l.places l.best ≡ true)
