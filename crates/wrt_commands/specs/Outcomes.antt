-- What a run comes to, by its words and the bytes of its input, in the one order of refusals: the words, the parameters, the
-- length, the text with its items and labels, the faces, the colours or the framings, the list of the order, the refusals of the value or of the sum. The first refusal stands; without one the report does. (This project's own; made of the definitions of the layers below.)
--
--     Outcome                            a report, or a refusal
--     IsTaskOutcome p task bytes outcome      what a task comes to at the parameters p, command by command
--     IsOutcomeAt opening bytes outcome       what bytes come to, where the words come to an opening
--     IsOutcome words bytes outcome           the outcome of the words and the bytes
--
-- At 41, 2, 5 the trefoil comes to the report "10" and a line feed, and with the turns to "turns 10" in a line behind it
-- (proofs/Examples.antt).
use Rattle.std.specs.Prelude.{ℕ, List, Result, Ok, Err}
use Rattle.root_quantum.specs.Parameters.{Parameters}
use Rattle.wrt_request.specs.declared.request.Task.{Task}
use Rattle.wrt_request.specs.declared.request.Task.TheVariants.{Bracket, Colored, Net, Torus, Wrt, Moves, Braid, Tetrahedra}
use Rattle.wrt_commands.specs.declared.opening.Opened.{Opened}
use Rattle.wrt_commands.specs.declared.refusal.Refusal.{Refusal}
use Rattle.wrt_commands.specs.BracketOutcomes.{IsBracketOutcome}
use Rattle.wrt_commands.specs.BraidOutcomes.{IsBraidOutcome}
use Rattle.wrt_commands.specs.ColoredOutcomes.{IsColoredOutcome}
use Rattle.wrt_commands.specs.NetOutcomes.{IsNetOutcome}
use Rattle.wrt_commands.specs.TetraOutcomes.{IsTetraOutcome}
use Rattle.wrt_commands.specs.TorusOutcomes.{torus_outcome}
use Rattle.wrt_commands.specs.MovesOutcomes.{IsMovesOutcome}
use Rattle.wrt_commands.specs.WrtOutcomes.{IsWrtOutcome}
use Rattle.wrt_commands.specs.Openings.{opening}
use Rattle.wrt_commands.specs.Stops.{Is}

-- A report, or a refusal.
abbrev pub Outcome : Type 0
Outcome = Result (List ℕ) Refusal

-- What a task comes to.
abbrev pub IsTaskOutcome : Parameters → Task → List ℕ → Outcome → Type 0
IsTaskOutcome p (Bracket sweep) bytes outcome = IsBracketOutcome p sweep bytes outcome
IsTaskOutcome p (Colored colours sweep) bytes outcome = IsColoredOutcome p colours sweep bytes outcome
IsTaskOutcome p (Net colours sweep) bytes outcome = IsNetOutcome p colours sweep bytes outcome
IsTaskOutcome p (Torus crossings sweep) bytes outcome = Is (torus_outcome p crossings sweep) outcome
IsTaskOutcome p (Wrt framings workers even sweep) bytes outcome = IsWrtOutcome p framings sweep bytes outcome
IsTaskOutcome p (Moves values) bytes outcome = IsMovesOutcome p values bytes outcome
IsTaskOutcome p Braid bytes outcome = IsBraidOutcome p bytes outcome
IsTaskOutcome p Tetrahedra bytes outcome = IsTetraOutcome p bytes outcome

-- What bytes come to, where the words come to an opening.
abbrev pub IsOutcomeAt : Result Opened Refusal → List ℕ → Outcome → Type 0
IsOutcomeAt (Ok asked) bytes outcome = IsTaskOutcome asked.params asked.task bytes outcome
IsOutcomeAt (Err refusal) bytes outcome = Is (Err refusal) outcome

-- The outcome of the words and the bytes.
abbrev pub IsOutcome : List (List ℕ) → List ℕ → Outcome → Type 0
IsOutcome words bytes outcome = IsOutcomeAt (opening words) bytes outcome
