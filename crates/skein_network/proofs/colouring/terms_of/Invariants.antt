use Rattle.std.proofs.Common.{◌≢◌, ℕ, ◌<◌, get_or}
use Rattle.wenzl_table.specs.declared.found.Found.{Found}
use Rattle.skein_network.specs.Colourings.{projector_in}
use Rattle.skein_network.proofs.colouring.terms_of.Given as goal

-- none so far has the colour
abbrev pub invariant-loop-found : goal.invariant-loop-found
invariant-loop-found l = (i : ℕ) → i < l.found-index → (other : Found) → (projector_in (get_or l.projectors i other)).colour ≢ l.n
