use Rattle.std.proofs.Common.{List, sym, subst}
use Rattle.std.specs.List.{AllByRecursion}
use Rattle.script_values.specs.declared.drawing.Drawing.{Drawing}
use Rattle.script_values.specs.Drawings.{ColoursFit}
use Rattle.script_values.proofs.script.script_values.Goals as goal

pub values-requires-clause-fit : goal.values-requires-clause-fit
values-requires-clause-fit g c κs within =
    let F : List Drawing → Type 0 = λ all. AllByRecursion (ColoursFit c.args.params.now) all in
    subst F (sym c.deref.ensures.value) (c.in_ok-all.ensures.fit c.args.params.now c.requires.fit)
