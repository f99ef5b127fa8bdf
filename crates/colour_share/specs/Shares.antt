-- Which colourings fall to which worker, and when there are too many. (This project's own.)
--
--     FallsTo workers worker index      of so many workers, the colouring with that number falls to the worker, each counted from 1:
--                                       the number less 1 leaves the worker's number less 1
--     HasTooMany p diagram              there are more than 65,536 colourings
--
-- Of two workers the first takes the colourings 1, 3, 5, .., the second 2, 4, 6, ...
use Rattle.std.specs.Prelude.{◌≡◌, ℕ, ◌-◌, ◌%◌, ◌<◌}
use Rattle.root_quantum.specs.Parameters.{Parameters}
use Rattle.planar_check.specs.Framings.{FramedDiagram}
use Rattle.kirby_terms.specs.Terms.{colouring_total}
use Rattle.colour_share.specs.declared.limits.TheConstants.{MOST_COLOURINGS}

abbrev pub FallsTo : ℕ → ℕ → ℕ → Type 0
FallsTo workers worker index = (index - 1) % workers ≡ worker - 1

abbrev pub HasTooMany : Parameters → FramedDiagram → Type 0
HasTooMany p diagram = MOST_COLOURINGS < colouring_total p diagram
