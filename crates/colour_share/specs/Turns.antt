-- The turns of a Kirby sum, over all colourings in their order, or the limit of the first colouring that meets one. (This project's
-- own.)
--
--     refusal_at index fault              the limit, with the number of the colouring that meets it
--     colouring_turns next p diagram index    the turns of that colouring, whose nodes are taken as `next` says, or its limit
--     kirby_turns next p diagram          those of all colourings together, or the first limit
--
-- Numbers of colourings count from 1.
use Rattle.std.specs.Prelude.{ℕ, Result, Ok, Err}
use Rattle.root_quantum.specs.Parameters.{Parameters}
use Rattle.planar_check.specs.Framings.{FramedDiagram}
use Rattle.frontier_laws.specs.Orders.{View}
use Rattle.frontier_sweep.specs.SweepResults.{sweep}
use Rattle.frontier_sweep.specs.declared.fault.SweepFault.{SweepFault}
use Rattle.frontier_sweep.specs.declared.fault.SweepFault.TheVariants as sweeps
use Rattle.kirby_terms.specs.Terms.{network_at, colouring_total}
use Rattle.colour_share.specs.ResultSums.{result_sum}
use Rattle.colour_share.specs.declared.fault.SumFault.{SumFault}
use Rattle.colour_share.specs.declared.fault.SumFault.TheVariants.{Wide, Table, Memory}

-- The limit, with the number of the colouring.
abbrev pub refusal_at : ℕ → SweepFault → SumFault
refusal_at index (sweeps.Wide step ends) = Wide index step ends
refusal_at index (sweeps.Table step) = Table index step
refusal_at index sweeps.Memory = Memory

abbrev pub numbered : ℕ → Result ℕ SweepFault → Result ℕ SumFault
numbered index (Ok turns) = Ok turns
numbered index (Err fault) = Err (refusal_at index fault)

-- The turns of a colouring, or the limit that it meets.
abbrev pub colouring_turns : (View → ℕ) → Parameters → FramedDiagram → ℕ → Result ℕ SumFault
colouring_turns next p diagram index = numbered index (sweep next (network_at p diagram index))

-- The turns of all colourings, or the limit of the first that meets one.
abbrev pub kirby_turns : (View → ℕ) → Parameters → FramedDiagram → Result ℕ SumFault
kirby_turns next p diagram = result_sum (colouring_turns next p diagram) (colouring_total p diagram)
