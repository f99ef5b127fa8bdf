use Rattle.std.proofs.Common.{◌≡◌, drop}
use Rattle.script_values.specs.Scripts.{values}
use Rattle.script_values.proofs.Played.{before}
use Rattle.script_values.proofs.script.values.Given as goal

-- the residues so far stand before those of the other drawings
abbrev pub invariant-loop-line : goal.invariant-loop-line
invariant-loop-line g l = values l.params 0 l.all ≡ before l.residues.items (values l.params l.line (drop l.line l.all))
