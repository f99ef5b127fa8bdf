-- What one colouring of a framed diagram gives to its Kirby sum (Lickorish, ch. 13).
--
--     kirby_term p diagram colours     the product of the Delta of the colours times the framed value
--     network_of p diagram colours     the network whose contraction gives the coloured value
--     chosen_colours p diagram index   the colours of the components in the colouring with that number
--     term_at, network_at p diagram index     the term and the network of that colouring
--     colouring_total p diagram        how many colourings there are
--     HasInverses p diagram            where there is a component, the projectors of all colours of the form exist: none of Delta_1
--                                      to Delta_(n-1) shares a factor with m, for the greatest colour n
--
-- The sum of the terms over all colourings is `kirby`, by definition.
use Rattle.std.specs.Prelude.{ℕ, ◌<◌, ℤ, pos, ◌*ℤ◌, List}
use Rattle.state_sums.specs.Networks.{Network}
use Rattle.root_quantum.specs.Parameters.{Parameters}
use Rattle.root_quantum.specs.Colours.{form_colours, greatest_colour}
use Rattle.planar_check.specs.Framings.{FramedDiagram}
use Rattle.wenzl_table.specs.Inverses.{AreCoprime}
use Rattle.coloured_values.specs.Coloured.{cabled, framed}
use Rattle.kirby_terms.specs.Colourings.{colouring_at, colouring_count}
use Rattle.coloured_values.specs.Surgery.{deltas, component_count}

abbrev pub kirby_term : Parameters → FramedDiagram → List ℕ → ℤ
kirby_term p diagram colours = deltas p colours *ℤ pos (framed p diagram.items diagram.framings colours)

abbrev pub network_of : Parameters → FramedDiagram → List ℕ → Network
network_of p diagram colours = cabled p diagram.items colours

-- Numbers count from 1.
abbrev pub chosen_colours : Parameters → FramedDiagram → ℕ → List ℕ
chosen_colours p diagram index = colouring_at (form_colours p) (component_count diagram) index

abbrev pub term_at : Parameters → FramedDiagram → ℕ → ℤ
term_at p diagram index = kirby_term p diagram (chosen_colours p diagram index)

abbrev pub network_at : Parameters → FramedDiagram → ℕ → Network
network_at p diagram index = network_of p diagram (chosen_colours p diagram index)

abbrev pub colouring_total : Parameters → FramedDiagram → ℕ
colouring_total p diagram = colouring_count (form_colours p) (component_count diagram)

abbrev pub HasInverses : Parameters → FramedDiagram → Type 0
HasInverses p diagram = 0 < component_count diagram → AreCoprime p (greatest_colour p)
