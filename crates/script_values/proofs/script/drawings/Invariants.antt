use Rattle.std.proofs.Common.{◌≡◌, ◌≤◌, ◌+◌, ◌*◌, length, drop}
use Rattle.std.specs.List.{AllByRecursion}
use Rattle.root_quantum.specs.Parameters.{Parameters}
use Rattle.script_values.specs.declared.drawing.TheConstants.{NEW_LABELS}
use Rattle.script_values.specs.Drawings.{ColoursFit, greatest_label}
use Rattle.script_values.specs.Scripts.{drawings}
use Rattle.script_values.proofs.Played.{before}
use Rattle.script_values.proofs.script.drawings.Given as goal

-- what the steps so far gave stands before what the others give, there is room for those, and colours fit
abbrev pub invariant-loop-index : goal.invariant-loop-index
invariant-loop-index l = record {
  count : length l.all.items ≡ l.index;
  given : drawings 1 l.fn.first l.steps ≡ before l.all.items (drawings (l.index + 1) l.last (drop l.index l.steps));
  room : greatest_label l.last ≤ greatest_label l.fn.first + NEW_LABELS * l.index;
  fit : (p : Parameters) → ColoursFit p l.fn.first → AllByRecursion (ColoursFit p) l.all.items × ColoursFit p l.last;
}
