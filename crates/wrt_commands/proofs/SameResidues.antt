-- Two reports of one task have the same lines of residues: those of a value of what the bytes spell, which names no order and no workers.
use Rattle.std.proofs.Common.{◌≡◌, ◌∙◌, inl, inr, ℕ, List, [], ◌∷◌, ◌++◌, decimal, None, Result, Ok, Err, refl, sym, ap, subst, append_assoc, append-nil}
use Rattle.root_quantum.specs.Parameters.{Parameters}
use Rattle.pd_reader.specs.Torus.{torus_items}
use Rattle.diagram_brackets.specs.Brackets.{bracket}
use Rattle.braid_closures.specs.Closures.{closed}
use Rattle.cables.specs.Nets.{coloured_net}
use Rattle.coloured_values.specs.Coloured.{coloured}
use Rattle.coloured_values.specs.Surgery.{surgery}
use Rattle.skein_network.specs.Refusals.{net_colour}
use Rattle.tetra_sum.specs.Sums.{weight_sum}
use Rattle.wrt_request.specs.Stages.{after}
use Rattle.wrt_request.specs.declared.request.Task.{Task}
use Rattle.wrt_request.specs.declared.request.Task.TheVariants.{Bracket, Colored, Net, Torus, Wrt, Moves, Braid, Tetrahedra}
use Rattle.wrt_commands.specs.declared.opening.Opened.{Opened}
use Rattle.wrt_commands.specs.declared.refusal.Refusal.{Refusal}
use Rattle.wrt_commands.specs.BraidOutcomes.{braid_report}
use Rattle.wrt_commands.specs.ColouredReports.{coloured_report}
use Rattle.wrt_commands.specs.DiagramReports.{diagram_report}
use Rattle.wrt_commands.specs.Inputs.{IsInputOutcome, IsPdOutcome, IsNetTextOutcome, IsScriptTextOutcome, IsBraidTextOutcome, IsTetraTextOutcome, HasOneOutcome}
use Rattle.wrt_commands.specs.Laws.{IsReportOf, IsReportWith, SameResidues, plain_task, AskAlike}
use Rattle.wrt_commands.specs.MovesOutcomes.{IsMovesOutcome}
use Rattle.wrt_commands.specs.MovesReports.{moves_report}
use Rattle.wrt_commands.specs.NetReports.{net_report}
use Rattle.wrt_commands.specs.Openings.{opening}
use Rattle.wrt_commands.specs.Outcomes.{IsTaskOutcome, IsOutcomeAt}
use Rattle.wrt_commands.specs.Reports.{turns_line}
use Rattle.wrt_commands.specs.SurgeryReports.{surgery_report}
use Rattle.wrt_commands.specs.TetraOutcomes.{tetra_report}
use Rattle.wrt_commands.specs.WrtOutcomes.{framing_list}
use Rattle.wrt_commands.proofs.InputLemmas.{one_input, pd_one_outcome, net_one_outcome, script_one_outcome, braid_one_outcome, tetra_one_outcome}
use Rattle.wrt_commands.proofs.ReportedValues.{reports_are_of_braid_traces_law, reports_are_of_brackets_law, reports_are_of_coloured_values_law, reports_are_of_net_values_law, reports_are_of_surgery_values_law, reports_are_of_tetrahedra_law}

-- the line of a residue
abbrev line_of : ℕ → List ℕ
line_of residue = decimal residue ++ 10 ∷ []

with_line : (residue : ℕ) (report : List ℕ) → IsReportOf residue report → IsReportWith (line_of residue) report
with_line residue report h = (h.0, h.1 ∙ sym (append_assoc (decimal residue) (10 ∷ []) (turns_line h.0)))

without_turns : (report : List ℕ) → IsReportWith report report
without_turns report = (None, sym (append-nil report))

-- ---- what the bytes spell
module _ {A : Type 0} (is_text : List ℕ → Result A Refusal → Type 0) (residue : A → ℕ) where
  -- the line is that of a value that the bytes are read as
  abbrev IsLineOf : List ℕ → List ℕ → Type 0
  IsLineOf bytes line = (value : A) × is_text bytes (Ok value) × (line ≡ line_of (residue value))

  -- a report comes of such a value
  line_of_text : (reports : A → Result (List ℕ) Refusal) → ((value : A) (report : List ℕ) → reports value ≡ Ok report → IsReportOf (residue value) report) → (bytes report : List ℕ)
      → IsInputOutcome is_text reports bytes (Ok report) → (line : List ℕ) × IsLineOf bytes line × IsReportWith line report
  line_of_text reports are bytes report (inl long) = let e = long.1 in absurd (cc)
  line_of_text reports are bytes report (inr read) = go read.1.0 read.1.1 read.1.2
    where
      go : (text : Result A Refusal) → is_text bytes text → Ok report ≡ after text reports → (line : List ℕ) × IsLineOf bytes line × IsReportWith line report
      go (Ok value) is e = (line_of (residue value), (value, is, refl), with_line (residue value) report (are value report (sym e)))
      go (Err refusal) is e = absurd (cc)

  -- and there is one such line
  one_line : HasOneOutcome is_text → (bytes a b : List ℕ) → IsLineOf bytes a → IsLineOf bytes b → a ≡ b
  one_line one bytes a b h k =
      let e = one bytes (Ok h.0) (Ok k.0) h.1 k.1 in
      let same : h.0 ≡ k.0 = cc in
      h.2 ∙ ap (λ value. line_of (residue value)) same ∙ sym k.2

-- ---- the lines of a task, by the task without its order, its workers and its turns
abbrev AreLinesOf : Parameters → Task → List ℕ → List ℕ → Type 0
AreLinesOf p (Bracket sweep) bytes lines = IsLineOf IsPdOutcome (bracket p) bytes lines
AreLinesOf p (Colored colours sweep) bytes lines = IsLineOf IsPdOutcome (λ items. coloured p items colours) bytes lines
AreLinesOf p (Net colours sweep) bytes lines = IsLineOf IsNetTextOutcome (λ items. coloured_net p items (net_colour items colours)) bytes lines
AreLinesOf p (Torus crossings sweep) bytes lines = lines ≡ line_of (bracket p (torus_items crossings))
AreLinesOf p (Wrt framings workers even sweep) bytes lines = IsLineOf IsPdOutcome (λ items. surgery p (record { items = items; framings = framing_list framings })) bytes lines
AreLinesOf p (Moves values) bytes lines = IsMovesOutcome p values bytes (Ok lines)
AreLinesOf p Braid bytes lines = IsLineOf IsBraidTextOutcome (λ braid. bracket p (closed braid)) bytes lines
AreLinesOf p Tetrahedra bytes lines = IsLineOf IsTetraTextOutcome (weight_sum p) bytes lines

lines_of : (p : Parameters) (task : Task) (bytes report : List ℕ) → IsTaskOutcome p task bytes (Ok report) → (lines : List ℕ) × AreLinesOf p task bytes lines × IsReportWith lines report
lines_of p (Bracket sweep) bytes report h = line_of_text IsPdOutcome (bracket p) (diagram_report p sweep) (reports_are_of_brackets_law p sweep) bytes report h
lines_of p (Colored colours sweep) bytes report h =
    line_of_text IsPdOutcome (λ items. coloured p items colours) (coloured_report p sweep colours) (reports_are_of_coloured_values_law p sweep colours) bytes report h
lines_of p (Net colours sweep) bytes report h =
    line_of_text IsNetTextOutcome (λ items. coloured_net p items (net_colour items colours)) (net_report p sweep colours) (reports_are_of_net_values_law p sweep colours) bytes report h
lines_of p (Torus crossings sweep) bytes report h =
    let residue = bracket p (torus_items crossings) in (line_of residue, refl, with_line residue report (reports_are_of_brackets_law p sweep (torus_items crossings) report h))
lines_of p (Wrt framings workers even sweep) bytes report h =
    let list = framing_list framings in
    line_of_text IsPdOutcome (λ items. surgery p (record { items = items; framings = list })) (surgery_report p sweep list) (reports_are_of_surgery_values_law p sweep list) bytes report h
lines_of p (Moves values) bytes report h = (report, h, without_turns report)
lines_of p Braid bytes report h = line_of_text IsBraidTextOutcome (λ braid. bracket p (closed braid)) (braid_report p) (reports_are_of_braid_traces_law p) bytes report h
lines_of p Tetrahedra bytes report h = line_of_text IsTetraTextOutcome (weight_sum p) (tetra_report p) (reports_are_of_tetrahedra_law p) bytes report h

of_plain : (p : Parameters) (task : Task) (bytes lines : List ℕ) → AreLinesOf p task bytes lines → AreLinesOf p (plain_task task) bytes lines
of_plain p (Bracket sweep) bytes lines h = h
of_plain p (Colored colours sweep) bytes lines h = h
of_plain p (Net colours sweep) bytes lines h = h
of_plain p (Torus crossings sweep) bytes lines h = h
of_plain p (Wrt framings workers even sweep) bytes lines h = h
of_plain p (Moves values) bytes lines h = h
of_plain p Braid bytes lines h = h
of_plain p Tetrahedra bytes lines h = h

same_lines : (p : Parameters) (task : Task) (bytes a b : List ℕ) → AreLinesOf p task bytes a → AreLinesOf p task bytes b → a ≡ b
same_lines p (Bracket sweep) bytes a b h k = one_line IsPdOutcome (bracket p) pd_one_outcome bytes a b h k
same_lines p (Colored colours sweep) bytes a b h k = one_line IsPdOutcome (λ items. coloured p items colours) pd_one_outcome bytes a b h k
same_lines p (Net colours sweep) bytes a b h k = one_line IsNetTextOutcome (λ items. coloured_net p items (net_colour items colours)) net_one_outcome bytes a b h k
same_lines p (Torus crossings sweep) bytes a b h k = h ∙ sym k
same_lines p (Wrt framings workers even sweep) bytes a b h k =
    one_line IsPdOutcome (λ items. surgery p (record { items = items; framings = framing_list framings })) pd_one_outcome bytes a b h k
same_lines p (Moves values) bytes a b h k =
    let e = one_input IsScriptTextOutcome (moves_report p values) bytes script_one_outcome (Ok a) (Ok b) h k in cc
same_lines p Braid bytes a b h k = one_line IsBraidTextOutcome (λ braid. bracket p (closed braid)) braid_one_outcome bytes a b h k
same_lines p Tetrahedra bytes a b h k = one_line IsTetraTextOutcome (weight_sum p) tetra_one_outcome bytes a b h k

-- ---- two tasks that ask alike
of_tasks : (p : Parameters) (x y : Task) (bytes report other : List ℕ) → plain_task x ≡ plain_task y → IsTaskOutcome p x bytes (Ok report) → IsTaskOutcome p y bytes (Ok other)
    → (lines : List ℕ) × IsReportWith lines report × IsReportWith lines other
of_tasks p x y bytes report other alike h k =
    let r = lines_of p x bytes report h in
    let s = lines_of p y bytes other k in
    let P : Task → Type 0 = λ task. AreLinesOf p task bytes s.0 in
    let same = same_lines p (plain_task x) bytes r.0 s.0 (of_plain p x bytes r.0 r.1) (subst P (sym alike) (of_plain p y bytes s.0 s.1)) in
    let L : List ℕ → Type 0 = λ lines. IsReportWith lines other in
    (r.0, r.2, subst L (sym same) s.2)

of_openings : (at on : Result Opened Refusal) (bytes report other : List ℕ) → AskAlike at on → IsOutcomeAt at bytes (Ok report) → IsOutcomeAt on bytes (Ok other)
    → (lines : List ℕ) × IsReportWith lines report × IsReportWith lines other
of_openings (Ok x) (Ok y) bytes report other alike h k =
    let P : Parameters → Type 0 = λ p. IsTaskOutcome p y.task bytes (Ok other) in
    of_tasks x.params x.task y.task bytes report other alike.1 h (subst P (sym alike.0) k)
of_openings (Ok x) (Err refusal) bytes report other alike h k = absurd alike
of_openings (Err refusal) on bytes report other alike h k = absurd alike

-- THE SAME RESIDUES
pub same_residues : SameResidues
same_residues words others bytes report other alike h k = of_openings (opening words) (opening others) bytes report other alike h k
