use Rattle.std.proofs.Common.{◌≡◌, sym, subst, All}
use Rattle.skein_network.specs.Edges.{colour_at}
use Rattle.skein_network.specs.Colourings.{projector_in}
use Rattle.skein_network.proofs.ListColours.{few_colours, member_of}
use Rattle.skein_network.proofs.coloured.cable_coloured.Goals as goal

pub cable_items-requires-clause-ready : goal.cable_items-requires-clause-ready
cable_items-requires-clause-ready c = record {
  few = few_colours c.args.colours.now c.args.edges.items c.args.table.now.top c.requires.edges c.requires.high c.requires.few;
  some = c.requires.edges.some;
  same = subst (λ p. All (λ found. (projector_in found).params ≡ p) c.in_ok-projectors.projectors.items) (sym c.params.ensures) c.in_ok-projectors.ensures.same;
  held = λ label some. c.in_ok-projectors.ensures.held (colour_at c.args.edges.items label) some (c.requires.edges.listed label some);
}

pub returns-clause-known : goal.returns-clause-known
returns-clause-known c = λ n low there. c.in_ok-projectors.ensures.known n low (member_of c.args.colours.now n there)
