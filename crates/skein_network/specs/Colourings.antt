-- The colours of the edges with the projectors that were found, and what the code that makes nodes needs of them.
--
--     projector_in found          the projector that was found, shared or not
--     Holds projectors n          one of them has the colour n
--     strands_in colouring        the strands
--     AreColoured colours edges   each edge of at least two strands has a colour of the list, and each edge with a box two strands
--     IsReady colouring           no colour is above 8, each edge with a box has a colour of at least 2, and there is a
--                                 projector for each such colour
use Rattle.std.specs.Prelude.{◌≡◌, ℕ, ◌≤◌, ◌==◌, true, List}
use Rattle.std.specs.List.{All, Contains}
use Rattle.std.specs.Set.{is_member}
use Rattle.wenzl_table.specs.Projectors.{Projector}
use Rattle.wenzl_table.specs.declared.found.Found.{Found}
use Rattle.wenzl_table.specs.declared.found.Found.TheVariants.{Shared, Own}
use Rattle.cables.specs.Strands.{Strands}
use Rattle.skein_network.specs.Edges.{colour_at, boxed_at, strands_at}
use Rattle.skein_network.specs.declared.edge.Edge.{Edge}
use Rattle.skein_network.specs.declared.colouring.Colouring.{Colouring}

-- The projector that was found, shared or not.
abbrev pub projector_in : Found → Projector
projector_in (Shared f) = f.now
projector_in (Own g) = g

-- One of them has the colour n.
abbrev pub Holds : List Found → ℕ → Type 0
Holds projectors n = (found : Found) × Contains projectors found × ((projector_in found).colour ≡ n)

abbrev pub strands_in : Colouring → Strands
strands_in colouring = strands_at colouring.params.now colouring.edges.items

pub record IsReady (colouring : Colouring) : Type 0 where
  pub few : (label : ℕ) → colour_at colouring.edges.items label ≤ 8
  pub some : (label : ℕ) → boxed_at colouring.edges.items label ≡ true → 2 ≤ colour_at colouring.edges.items label
  pub same : All (λ found. (projector_in found).params ≡ colouring.params.now) colouring.projectors.items
  pub held : (label : ℕ) → 2 ≤ colour_at colouring.edges.items label → Holds colouring.projectors.items (colour_at colouring.edges.items label)

-- Each edge of at least two strands has a colour of the list, and each edge with a box has at least two strands.
pub record AreColoured (colours : List ℕ) (edges : List Edge) : Type 0 where
  pub listed : (label : ℕ) → 2 ≤ colour_at edges label → is_member ◌==◌ colours (colour_at edges label) ≡ true
  pub some : (label : ℕ) → boxed_at edges label ≡ true → 2 ≤ colour_at edges label
