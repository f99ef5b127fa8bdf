-- The colour at a place is the place.
use Rattle.std.proofs.Common.{sym, ◌∙◌, arith}
use Rattle.root_quantum.specs.declared.form.Form.TheVariants.{All as Full}
use Rattle.root_quantum.specs.Colours.{colours_of}
use Rattle.kirby_terms.proofs.FormColours.{full_count, full_colour}
use Rattle.kirby_terms.proofs.colours.colouring.Goals as goal

pub returns : goal.returns
returns c =
    let count = full_count c.args.r in
    sym (c.place_of.ensures.place (colours_of Full c.args.r) (omega (arith, count, c.from.ensures)) ∙ full_colour c.args.r c.place_of.result (omega (arith, c.from.ensures, c.place_of.ensures.below)))
