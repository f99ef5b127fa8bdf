-- The first colours are there.
use Rattle.std.proofs.Common.{◌≡◌, take}
use Rattle.root_quantum.specs.Colours.{form_colours}
use Rattle.kirby_terms.specs.Colourings.{colouring_at}
use Rattle.kirby_terms.proofs.colours.colours_in.Given as goal

abbrev pub invariant-loop-component : goal.invariant-loop-component
invariant-loop-component l = l.colours.items ≡ take l.component (colouring_at (form_colours l.params) l.components l.index)
