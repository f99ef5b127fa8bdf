use Rattle.std.proofs.Common.{ℕ, List, sym, subst}
use Rattle.pd_reader.specs.declared.item.Item.{Item}
use Rattle.frontier_laws.specs.Orders.{listed_of}
use Rattle.wrt_values.specs.Coloured.{coloured_value}
use Rattle.wrt_values.specs.Values.{Gives}
use Rattle.script_values.specs.declared.drawing.Drawing.{Drawing}
use Rattle.script_values.specs.Drawings.{value_in}
use Rattle.script_values.proofs.drawing.Drawing.value.Goals as goal

pub returns-in-Coloured : goal.returns-in-Coloured
returns-in-Coloured g c =
    let found = c.listed_coloured.result in
    let A : List Item → Type 0 = λ items. Gives (coloured_value listed_of c.args.params.now items c.colours.result.now) found in
    let B : List ℕ → Type 0 = λ colours. Gives (coloured_value listed_of c.args.params.now c.in-Coloured.coloured.items colours) found in
    let D : Drawing → Type 0 = λ drawing. Gives (value_in c.args.params.now drawing) found in
    subst D (sym c.in-Coloured.is) (subst B c.colours.ensures.colours (subst A c.planar.ensures c.listed_coloured.ensures))
