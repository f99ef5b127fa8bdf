-- Laws over the definitions alone.
--
--     OutcomesAreUnique      words and bytes come to at most one outcome
--     OutcomesExist          and to one at least
--     SameResidues           two reports of one task, at the same parameters and bytes, have the same lines of residues, whatever the
--                            orders and the workers, with turns or without
--     ReportsAreOfBrackets   the residue that the report of a diagram tells is its bracket
--     ReportsAreOfNetValues  the same for a net
--     ReportsAreOfSurgeryValues    the residue that the report of a diagram with framings tells is its surgery value
--     ReportsAreOfBraidTraces      the residue that the report of a braid tells is the bracket of its closure
--     ReportsAreOfScripts          the lines of a report of a script are those of its diagrams, and follow from one another as its steps say
--     ReportsAreOfTetrahedra       the residue that the report of tetrahedra tells is the sum of the weights over all colourings
--     ReportsAreOfColouredValues   the residue that the report of a diagram with colours tells is its value with these colours
use Rattle.std.specs.Prelude.{◌≡◌, ℕ, ℤ, false, List, ◌++◌, Option, Some, None, Result, Ok, Err}
use Rattle.root_quantum.specs.Parameters.{Parameters}
use Rattle.pd_reader.specs.declared.item.Item.{Item}
use Rattle.pd_reader.specs.declared.item.NetItem.{NetItem}
use Rattle.diagram_brackets.specs.Brackets.{bracket}
use Rattle.braid_trace.specs.Braids.{BraidWord}
use Rattle.braid_closures.specs.Closures.{closed}
use Rattle.cables.specs.Nets.{coloured_net}
use Rattle.coloured_values.specs.Coloured.{coloured}
use Rattle.coloured_values.specs.Surgery.{surgery}
use Rattle.skein_network.specs.Refusals.{net_colour}
use Rattle.script_reader.specs.ScriptTexts.{ScriptParts}
use Rattle.script_lines.specs.Laws.{AreBracketLines, AreColouredLines, AreSurgeryLines}
use Rattle.tetra_reader.specs.declared.item.TetraItem.{TetraItem}
use Rattle.tetra_sum.specs.Sums.{weight_sum}
use Rattle.wrt_request.specs.declared.order.OrderWord.TheVariants.{Listed}
use Rattle.wrt_request.specs.declared.request.DiagramValues.{DiagramValues}
use Rattle.wrt_request.specs.declared.request.DiagramValues.TheVariants.{Brackets, Coloured, Surgery}
use Rattle.wrt_request.specs.declared.request.Sweep.{Sweep}
use Rattle.wrt_request.specs.declared.request.Task.{Task}
use Rattle.wrt_request.specs.declared.request.Task.TheVariants.{Bracket, Colored, Net, Torus, Wrt, Moves, Braid, Tetrahedra}
use Rattle.wrt_commands.specs.declared.opening.Opened.{Opened}
use Rattle.wrt_commands.specs.declared.refusal.Refusal.{Refusal}
use Rattle.wrt_commands.specs.BraidOutcomes.{braid_report}
use Rattle.wrt_commands.specs.ColouredReports.{coloured_report}
use Rattle.wrt_commands.specs.DiagramReports.{diagram_report}
use Rattle.wrt_commands.specs.Inputs.{IsScriptTextOutcome}
use Rattle.wrt_commands.specs.MovesOutcomes.{IsMovesOutcome}
use Rattle.wrt_commands.specs.MovesReports.{lines}
use Rattle.wrt_commands.specs.NetReports.{net_report}
use Rattle.wrt_commands.specs.Openings.{opening}
use Rattle.wrt_commands.specs.Outcomes.{Outcome, IsOutcome}
use Rattle.wrt_commands.specs.Reports.{report_of, turns_line}
use Rattle.wrt_commands.specs.SurgeryReports.{surgery_report}
use Rattle.wrt_commands.specs.TetraOutcomes.{tetra_report}

-- words and bytes come to at most one outcome
abbrev pub OutcomesAreUnique : Type 0
OutcomesAreUnique = (words : List (List ℕ)) (bytes : List ℕ) (x y : Outcome) → IsOutcome words bytes x → IsOutcome words bytes y → x ≡ y

-- words and bytes come to an outcome
abbrev pub OutcomesExist : Type 0
OutcomesExist = (words : List (List ℕ)) (bytes : List ℕ) → (outcome : Outcome) × IsOutcome words bytes outcome

-- the report of a residue
abbrev pub IsReportOf : ℕ → List ℕ → Type 0
IsReportOf residue report = (turns : Option ℕ) × (report ≡ report_of residue turns)

-- a report that a diagram comes to, in any order, is one of its bracket
abbrev pub ReportsAreOfBrackets : Type 0
ReportsAreOfBrackets = (p : Parameters) (sweep : Sweep) (items : List Item) (report : List ℕ) → diagram_report p sweep items ≡ Ok report → IsReportOf (bracket p items) report

-- a report that a diagram with colours comes to, in any order, is one of its value with these colours
abbrev pub ReportsAreOfColouredValues : Type 0
ReportsAreOfColouredValues =
    (p : Parameters) (sweep : Sweep) (colours : List ℕ) (items : List Item) (report : List ℕ) → coloured_report p sweep colours items ≡ Ok report → IsReportOf (coloured p items colours) report

-- a report that a diagram with framings comes to, in any order, is one of its surgery value
abbrev pub ReportsAreOfSurgeryValues : Type 0
ReportsAreOfSurgeryValues =
    (p : Parameters) (sweep : Sweep) (framings : List ℤ) (items : List Item) (report : List ℕ) → surgery_report p sweep framings items ≡ Ok report
    → IsReportOf (surgery p (record { items = items; framings = framings })) report

-- a report that a net comes to, in any order, is one of its value with these colours
abbrev pub ReportsAreOfNetValues : Type 0
ReportsAreOfNetValues =
    (p : Parameters) (sweep : Sweep) (colours : List ℕ) (items : List NetItem) (report : List ℕ) → net_report p sweep colours items ≡ Ok report → IsReportOf (coloured_net p items (net_colour items colours)) report

-- a report that a braid comes to is one of the bracket of its closure
abbrev pub ReportsAreOfBraidTraces : Type 0
ReportsAreOfBraidTraces = (p : Parameters) (braid : BraidWord) (report : List ℕ) → braid_report p braid ≡ Ok report → IsReportOf (bracket p (closed braid)) report

-- the lines of a script follow from one another as its steps say: without colours and framings each is its step's factor times the one
-- before, modulo m; with colours Reidemeister's second and third moves repeat the one before, a blow-up multiplies it by delta, and a
-- curl on a component of colour n, made or undone, by mu_n to the power of the curl of the step's factor; with framings a blow-up
-- repeats it
abbrev pub AreScriptLines : Parameters → DiagramValues → ScriptParts → List ℕ → Type 0
AreScriptLines p Brackets script residues = AreBracketLines p script.diagram script.steps residues
AreScriptLines p (Coloured colours) script residues = AreColouredLines p (record { items = script.diagram; colours = colours }) script.steps residues
AreScriptLines p (Surgery framings) script residues = AreSurgeryLines p (record { items = script.diagram; framings = framings }) script.steps residues

pub record IsScriptReport (p : Parameters) (values : DiagramValues) (script : ScriptParts) (report : List ℕ) : Type 0 where
  pub residues : List ℕ
  pub told : report ≡ lines residues
  pub follow : AreScriptLines p values script residues

-- a report that bytes come to as a script is one of such lines, of the script that they spell
abbrev pub ReportsAreOfScripts : Type 0
ReportsAreOfScripts =
    (p : Parameters) (values : DiagramValues) (bytes report : List ℕ) → IsMovesOutcome p values bytes (Ok report)
    → (script : ScriptParts) × IsScriptTextOutcome bytes (Ok script) × IsScriptReport p values script report

-- a report that tetrahedra come to is one of the sum of the weights over all colourings
abbrev pub ReportsAreOfTetrahedra : Type 0
ReportsAreOfTetrahedra = (p : Parameters) (items : List TetraItem) (report : List ℕ) → tetra_report p items ≡ Ok report → IsReportOf (weight_sum p items) report

-- the task in the listed order and without turns, by one worker
abbrev pub plain_sweep : Sweep
plain_sweep = record { order = Listed; turns = false }

abbrev pub plain_task : Task → Task
plain_task (Bracket sweep) = Bracket plain_sweep
plain_task (Colored colours sweep) = Colored colours plain_sweep
plain_task (Net colours sweep) = Net colours plain_sweep
plain_task (Torus crossings sweep) = Torus crossings plain_sweep
plain_task (Wrt framings workers even sweep) = Wrt framings 1 even plain_sweep
plain_task (Moves values) = Moves values
plain_task Braid = Braid
plain_task Tetrahedra = Tetrahedra

-- the openings ask for one task at the same parameters, but for the options of the sweep and the workers
abbrev pub AskAlike : Result Opened Refusal → Result Opened Refusal → Type 0
AskAlike (Ok x) (Ok y) = (x.params ≡ y.params) × (plain_task x.task ≡ plain_task y.task)
AskAlike (Ok x) (Err refusal) = ⊥
AskAlike (Err refusal) y = ⊥

-- a report of these lines, with a line of turns behind them or without
abbrev pub IsReportWith : List ℕ → List ℕ → Type 0
IsReportWith lines report = (turns : Option ℕ) × (report ≡ lines ++ turns_line turns)

-- then two reports for the same bytes have the same lines of residues
abbrev pub SameResidues : Type 0
SameResidues =
    (words others : List (List ℕ)) (bytes report other : List ℕ) → AskAlike (opening words) (opening others) → IsOutcome words bytes (Ok report) → IsOutcome others bytes (Ok other)
    → (lines : List ℕ) × IsReportWith lines report × IsReportWith lines other
