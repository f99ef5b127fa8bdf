-- A task is never refused as words are: each of its steps is refused by a later family.
use Rattle.std.proofs.Common.{String, Global, ◌≡◌, ◌∙◌, inl, inr, ℕ, ℤ, Bool, cond, true, false, List, Option, Some, None, Result, Ok, Err, refl, sym, ap, subst, option_map, option_and_then}
use Rattle.std.specs.Prelude.{MatchResult}
use Rattle.root_quantum.specs.Parameters.{Parameters}
use Rattle.pd_reader.specs.declared.item.Item.{Item}
use Rattle.pd_reader.specs.declared.item.NetItem.{NetItem}
use Rattle.pd_reader.specs.Refusals.{IsPdReading, IsNetReading}
use Rattle.pd_reader.specs.Torus.{torus_items}
use Rattle.planar_check.specs.Framings.{FramedDiagram}
use Rattle.script_reader.specs.ScriptTexts.{ScriptParts, IsScriptReading}
use Rattle.script_values.specs.Scripts.{script_values}
use Rattle.script_values.specs.declared.drawing.Drawing.TheVariants as drawings
use Rattle.script_values.specs.declared.drawing.Drawing.TheVariants.{Framed}
use Rattle.script_values.specs.declared.fault.ScriptRefusal.{ScriptRefusal}
use Rattle.skein_network.specs.declared.fault.CableFault.{CableFault}
use Rattle.skein_network.specs.declared.fault.CableFault.TheVariants as faults
use Rattle.wrt_values.specs.Coloured.{coloured_value, net_value}
use Rattle.wrt_values.specs.Surgery.{surgery_value}
use Rattle.wrt_values.specs.Values.{bracket_value}
use Rattle.wrt_values.specs.declared.fault.ValueRefusal.{ValueRefusal}
use Rattle.wrt_values.specs.declared.value.Value.{Value}
use Rattle.wrt_request.specs.Stages.{after}
use Rattle.wrt_request.specs.declared.request.DiagramValues.{DiagramValues}
use Rattle.wrt_request.specs.declared.request.DiagramValues.TheVariants.{Brackets, Coloured, Surgery}
use Rattle.wrt_request.specs.declared.request.Sweep.{Sweep}
use Rattle.wrt_request.specs.declared.request.Task.{Task}
use Rattle.wrt_request.specs.declared.request.Task.TheVariants.{Bracket, Colored, Net, Torus, Wrt, Moves, Braid, Tetrahedra}
use Rattle.wrt_commands.specs.declared.opening.Opened.{Opened}
use Rattle.wrt_commands.specs.declared.refusal.Refusal.{Refusal}
use Rattle.wrt_commands.specs.declared.refusal.Refusal.TheVariants.{Words, Script, Value as ValueRefused, Text as TextRefused}
use Rattle.wrt_commands.specs.declared.stop.Stop.{Stop}
use Rattle.wrt_commands.specs.declared.stop.Stop.TheVariants.{Refused}
use Rattle.wrt_commands.specs.declared.text_refusal.Counted.TheVariants.{Items}
use Rattle.wrt_commands.specs.declared.text_refusal.TextRefusal.{TextRefusal}
use Rattle.wrt_commands.specs.declared.words_refusal.WordsRefusal.{WordsRefusal}
use Rattle.wrt_commands.specs.ColourFits.{fits, fit_components}
use Rattle.wrt_commands.specs.ColouredReports.{fitted_report, coloured_report}
use Rattle.wrt_commands.specs.DiagramReports.{planar, item_order, diagram_report}
use Rattle.wrt_commands.specs.FramingFits.{against_size, fit_framings}
use Rattle.wrt_commands.specs.Inputs.{IsInputOutcome, IsTextOutcome, IsPdOutcome, IsNetTextOutcome, IsScriptTextOutcome, IsBraidTextOutcome, IsTetraTextOutcome}
use Rattle.wrt_commands.specs.MovesReports.{first_drawing, lines, moves_report}
use Rattle.wrt_commands.specs.NetReports.{planar_net, net_order, fit_labels, fitted_net_report, net_report}
use Rattle.wrt_commands.specs.Outcomes.{Outcome, IsTaskOutcome}
use Rattle.wrt_commands.specs.Runs.{IsStoppedAt}
use Rattle.wrt_commands.specs.Stops.{refused_as}
use Rattle.wrt_commands.specs.SurgeryReports.{framed_report, surgery_report}
use Rattle.wrt_commands.specs.TextRefusals.{counted_in, refusal_of_text, script_text_refusal, text_refusal}
use Rattle.wrt_commands.specs.BraidOutcomes.{braid_report}
use Rattle.wrt_commands.specs.BraidRefusals.{refusal_of_braid}
use Rattle.wrt_commands.specs.TetraOutcomes.{by_refusal, tetra_report}
use Rattle.wrt_commands.specs.TetraRefusals.{refusal_of_sum, refusal_of_tetra}
use Rattle.tetra_reader.specs.declared.fault.TetraText.{TetraText}
use Rattle.tetra_reader.specs.declared.fault.TetraText.TheVariants as tetras
use Rattle.tetra_reader.specs.declared.item.TetraItem.{TetraItem}
use Rattle.tetra_reader.specs.Faults.{IsTetraReading}
use Rattle.tetra_sum.specs.declared.fault.TetraFault.{TetraFault}
use Rattle.tetra_sum.specs.declared.fault.TetraFault.TheVariants as sums
use Rattle.tetra_sum.specs.Refusals as tetra_refusals
use Rattle.tetra_sum.specs.Sums.{weight_sum}
use Rattle.wrt_commands.specs.Reports.{report_of}
use Rattle.braid_trace.specs.declared.fault.BraidFault.{BraidFault}
use Rattle.braid_trace.specs.declared.fault.BraidFault.TheVariants as braids
use Rattle.braid_trace.specs.Braids.{BraidWord}
use Rattle.braid_trace.specs.Faults.{IsBraidReading}
use Rattle.wrt_commands.specs.WrtOutcomes.{framing_list}
use Rattle.wrt_commands.proofs.DiagramLemmas.{with_value, with_order, with_plane}

-- the outcome isn't refused as words are
abbrev IsNoWords : {A : Type 0} → Result A Refusal → Type 0
IsNoWords outcome = (words : WordsRefusal) → outcome ≡ Err (Words words) → ⊥

-- ---- steps
behind : {A B : Type 0} (first : Result A Refusal) (next : A → Result B Refusal) → IsNoWords first → ((value : A) → IsNoWords (next value)) → IsNoWords (after first next)
behind (Ok value) next h k = k value
behind (Err refusal) next h k = λ words e. let same : refusal ≡ Words words = cc in h words (ap Err same)

tested : {A : Type 0} (passes : Bool) (value : A) (refusal : Refusal) → ((words : WordsRefusal) → refusal ≡ Words words → ⊥) → IsNoWords (cond passes (Ok value) (Err refusal))
tested true value refusal h = λ words e. absurd (cc)
tested false value refusal h = λ words e. let same : refusal ≡ Words words = cc in h words same

valued : (found : Result Value ValueRefusal) → IsNoWords (refused_as ValueRefused found)
valued (Ok value) = λ words e. absurd (cc)
valued (Err refusal) = λ words e. absurd (cc)

fitted : (fault : Option CableFault) → IsNoWords (fits fault)
fitted None = λ words e. absurd (cc)
fitted (Some (faults.ColourCount given wanted)) = λ words e. absurd (cc)
fitted (Some (faults.ColourTooLarge colour limit)) = λ words e. absurd (cc)
fitted (Some (faults.Unequal edge)) = λ words e. absurd (cc)
fitted (Some (faults.NotAdmissible vertex)) = λ words e. absurd (cc)
fitted (Some (faults.NoInverse index common)) = λ words e. absurd (cc)
fitted (Some faults.Memory) = λ words e. absurd (cc)

reported : {A : Type 0} (report : A) → IsNoWords (Ok report)
reported report = λ words e. absurd (cc)

-- ---- reports
plane_no_words : (items : List Item) → IsNoWords (planar items)
plane_no_words items = tested _ items _ (λ words e. absurd (cc))

sizes_no_words : (found : Option ℕ) (framed : FramedDiagram) → IsNoWords (against_size found framed)
sizes_no_words None framed = reported framed
sizes_no_words (Some component) framed = λ words e. absurd (cc)

counted_no_words : {A : Type 0} (counted : Bool) (first : Result A Refusal) (refusal : Refusal) → IsNoWords first → ((words : WordsRefusal) → refusal ≡ Words words → ⊥) → IsNoWords (cond counted first (Err refusal))
counted_no_words true first refusal h k = h
counted_no_words false first refusal h k = λ words e. let same : refusal ≡ Words words = cc in k words same

framings_no_words : (items : List Item) (framings : List ℤ) → IsNoWords (fit_framings items framings)
framings_no_words items framings = counted_no_words _ _ _ (sizes_no_words _ _) (λ words e. absurd (cc))

module _ (p : Parameters) (sweep : Sweep) where
  order_no_words : (items : List Item) → IsNoWords (item_order sweep.order items)
  order_no_words items = tested _ _ _ (λ words e. absurd (cc))

  diagram_no_words : (items : List Item) → IsNoWords (diagram_report p sweep items)
  diagram_no_words items =
      behind (planar items) (with_plane p sweep) (plane_no_words items) (λ flat. behind (item_order sweep.order flat) (with_order p sweep flat) (order_no_words flat)
      (λ next. behind (refused_as ValueRefused (bracket_value next p flat)) (with_value sweep) (valued (bracket_value next p flat)) (λ value. reported _)))

  fitted_no_words : (colours : List ℕ) (items : List Item) → IsNoWords (fitted_report p sweep colours items)
  fitted_no_words colours items =
      behind (item_order sweep.order items) (λ next. after (refused_as ValueRefused (coloured_value next p items colours)) (with_value sweep)) (order_no_words items)
      (λ next. behind (refused_as ValueRefused (coloured_value next p items colours)) (with_value sweep) (valued (coloured_value next p items colours)) (λ value. reported _))

  coloured_no_words : (colours : List ℕ) (items : List Item) → IsNoWords (coloured_report p sweep colours items)
  coloured_no_words colours items =
      behind (planar items) (λ flat. after (fit_components p flat colours) (λ _. fitted_report p sweep colours flat)) (plane_no_words items)
      (λ flat. behind (fit_components p flat colours) (λ _. fitted_report p sweep colours flat) (fitted _) (λ _. fitted_no_words colours flat))

  framed_no_words : (framed : FramedDiagram) → IsNoWords (framed_report p sweep framed)
  framed_no_words framed =
      behind (item_order sweep.order framed.items) (λ next. after (refused_as ValueRefused (surgery_value next p framed)) (with_value sweep)) (order_no_words framed.items)
      (λ next. behind (refused_as ValueRefused (surgery_value next p framed)) (with_value sweep) (valued (surgery_value next p framed)) (λ value. reported _))

  surgery_no_words : (framings : List ℤ) (items : List Item) → IsNoWords (surgery_report p sweep framings items)
  surgery_no_words framings items =
      behind (planar items) (λ flat. after (fit_framings flat framings) (framed_report p sweep)) (plane_no_words items)
      (λ flat. behind (fit_framings flat framings) (framed_report p sweep) (framings_no_words flat framings) framed_no_words)

  fitted_net_no_words : (colours : List ℕ) (items : List NetItem) → IsNoWords (fitted_net_report p sweep colours items)
  fitted_net_no_words colours items =
      behind (net_order sweep.order items) (λ next. after (refused_as ValueRefused (net_value next p items colours)) (with_value sweep)) (tested _ _ _ (λ words e. absurd (cc)))
      (λ next. behind (refused_as ValueRefused (net_value next p items colours)) (with_value sweep) (valued (net_value next p items colours)) (λ value. reported _))

  net_no_words : (colours : List ℕ) (items : List NetItem) → IsNoWords (net_report p sweep colours items)
  net_no_words colours items =
      behind (planar_net items) (λ flat. after (fit_labels p flat colours) (λ _. fitted_net_report p sweep colours flat)) (tested _ items _ (λ words e. absurd (cc)))
      (λ flat. behind (fit_labels p flat colours) (λ _. fitted_net_report p sweep colours flat) (fitted _) (λ _. fitted_net_no_words colours flat))

-- ---- scripts
played_no_words : (found : Result (List ℕ) ScriptRefusal) → IsNoWords (refused_as Script found)
played_no_words (Ok residues) = λ words e. absurd (cc)
played_no_words (Err refusal) = λ words e. absurd (cc)

first_no_words : (p : Parameters) (values : DiagramValues) (items : List Item) → IsNoWords (first_drawing p values items)
first_no_words p Brackets items = reported _
first_no_words p (Coloured colours) items = behind (fit_components p items colours) (λ _. Ok (drawings.Coloured record { items = items; colours = colours })) (fitted _) (λ _. reported _)
first_no_words p (Surgery framings) items = behind (fit_framings items framings) (λ framed. Ok (Framed framed)) (framings_no_words items framings) (λ framed. reported _)

moves_no_words : (p : Parameters) (values : DiagramValues) (script : ScriptParts) → IsNoWords (moves_report p values script)
moves_no_words p values script =
    behind (planar script.diagram) (λ flat. after (first_drawing p values flat) (λ first. after (refused_as Script (script_values p first script.steps)) (λ residues. Ok (lines residues))))
    (plane_no_words script.diagram) (λ flat. behind (first_drawing p values flat) (λ first. after (refused_as Script (script_values p first script.steps)) (λ residues. Ok (lines residues)))
    (first_no_words p values flat) (λ first. behind (refused_as Script (script_values p first script.steps)) (λ residues. Ok (lines residues)) (played_no_words _) (λ residues. reported _)))

-- ---- inputs
text_no_words : {A F : Type 0} (reading : List ℕ → Result A F → Type 0) (refusal_of : F → Option Refusal) → ((fault : F) (words : WordsRefusal) → refusal_of fault ≡ Some (Words words) → ⊥)
    → (bytes : List ℕ) (read : Result A Refusal) → IsTextOutcome reading refusal_of bytes read → IsNoWords read
text_no_words reading refusal_of none bytes (Ok value) h = λ words e. absurd (cc)
text_no_words reading refusal_of none bytes (Err refusal) h = λ words e. let told = h.2 in let same : refusal_of h.0 ≡ Some (Words words) = cc in none h.0 words same

-- texts of items are refused as texts, and those of braids as texts or as braids
of_items : (refusal : Option TextRefusal) (words : WordsRefusal) → option_map TextRefused refusal ≡ Some (Words words) → ⊥
of_items None words e = absurd (cc)
of_items (Some refusal) words e = absurd (cc)

of_braids : (fault : BraidFault) (words : WordsRefusal) → refusal_of_braid fault ≡ Some (Words words) → ⊥
of_braids (braids.Head at) words e = absurd (cc)
of_braids (braids.Number at) words e = absurd (cc)
of_braids (braids.Text at) words e = absurd (cc)
of_braids (braids.Strands given) words e = absurd (cc)
of_braids (braids.TooMany limit) words e = absurd (cc)
of_braids (braids.Entry at strands) words e = absurd (cc)
of_braids braids.Memory words e = absurd (cc)

-- texts of tetrahedra are refused as texts or as tetrahedra, and the sums as values or as tetrahedra
of_tetras : (fault : TetraText) (words : WordsRefusal) → refusal_of_tetra fault ≡ Some (Words words) → ⊥
of_tetras (tetras.Head at) words e = absurd (cc)
of_tetras (tetras.Number at) words e = absurd (cc)
of_tetras (tetras.Text at) words e = absurd (cc)
of_tetras (tetras.TooMany limit) words e = absurd (cc)
of_tetras (tetras.Face tetrahedron) words e = absurd (cc)
of_tetras tetras.Memory words e = absurd (cc)

summed_no_words : (report : List ℕ) (fault : Option TetraFault) → IsNoWords (by_refusal report (option_and_then refusal_of_sum fault))
summed_no_words report None = λ words e. absurd (cc)
summed_no_words report (Some (sums.TooMany labels limit)) = λ words e. absurd (cc)
summed_no_words report (Some (sums.NoInverse index common)) = λ words e. absurd (cc)
summed_no_words report (Some (sums.Wide colouring step ends)) = λ words e. absurd (cc)
summed_no_words report (Some (sums.Table colouring step)) = λ words e. absurd (cc)
summed_no_words report (Some (sums.Theta colouring face common)) = λ words e. absurd (cc)
summed_no_words report (Some sums.Memory) = λ words e. absurd (cc)

input_no_words : {A B : Type 0} (is_text : List ℕ → Result A Refusal → Type 0) (next : A → Result B Refusal) (bytes : List ℕ) (outcome : Result B Refusal)
    → ((read : Result A Refusal) → is_text bytes read → IsNoWords read) → ((value : A) → IsNoWords (next value)) → IsInputOutcome is_text next bytes outcome → IsNoWords outcome
input_no_words is_text next bytes outcome texts values (inl long) = λ words e. let told = long.1 in absurd (cc)
input_no_words is_text next bytes outcome texts values (inr read) = λ words e. behind read.1.0 next (texts read.1.0 read.1.1) values words (sym read.1.2 ∙ e)

pd_no_words : (bytes : List ℕ) (read : Result (List Item) Refusal) → IsPdOutcome bytes read → IsNoWords read
pd_no_words bytes read h = text_no_words IsPdReading (text_refusal Items) (λ fault. of_items (refusal_of_text Items fault)) bytes read h

net_text_no_words : (bytes : List ℕ) (read : Result (List NetItem) Refusal) → IsNetTextOutcome bytes read → IsNoWords read
net_text_no_words bytes read h = text_no_words IsNetReading (text_refusal Items) (λ fault. of_items (refusal_of_text Items fault)) bytes read h

braid_no_words : (bytes : List ℕ) (read : Result BraidWord Refusal) → IsBraidTextOutcome bytes read → IsNoWords read
braid_no_words bytes read h = text_no_words IsBraidReading refusal_of_braid of_braids bytes read h

tetra_no_words : (bytes : List ℕ) (read : Result (List TetraItem) Refusal) → IsTetraTextOutcome bytes read → IsNoWords read
tetra_no_words bytes read h = text_no_words IsTetraReading refusal_of_tetra of_tetras bytes read h

script_text_no_words : (bytes : List ℕ) (read : Result ScriptParts Refusal) → IsScriptTextOutcome bytes read → IsNoWords read
script_text_no_words bytes read h = text_no_words IsScriptReading script_text_refusal (λ fault. of_items (refusal_of_text (counted_in fault) fault)) bytes read h

task_no_words : (p : Parameters) (task : Task) (bytes : List ℕ) (outcome : Outcome) → IsTaskOutcome p task bytes outcome → IsNoWords outcome
task_no_words p (Bracket sweep) bytes outcome h = input_no_words IsPdOutcome (diagram_report p sweep) bytes outcome (pd_no_words bytes) (diagram_no_words p sweep) h
task_no_words p (Colored colours sweep) bytes outcome h = input_no_words IsPdOutcome (coloured_report p sweep colours) bytes outcome (pd_no_words bytes) (coloured_no_words p sweep colours) h
task_no_words p (Net colours sweep) bytes outcome h = input_no_words IsNetTextOutcome (net_report p sweep colours) bytes outcome (net_text_no_words bytes) (net_no_words p sweep colours) h
task_no_words p (Torus crossings sweep) bytes outcome h = λ words e. diagram_no_words p sweep (torus_items crossings) words (h ∙ e)
task_no_words p (Moves values) bytes outcome h = input_no_words IsScriptTextOutcome (moves_report p values) bytes outcome (script_text_no_words bytes) (moves_no_words p values) h
task_no_words p (Wrt framings workers even sweep) bytes outcome h =
    input_no_words IsPdOutcome (surgery_report p sweep (framing_list framings)) bytes outcome (pd_no_words bytes) (surgery_no_words p sweep (framing_list framings)) h
task_no_words p Braid bytes outcome h = input_no_words IsBraidTextOutcome (braid_report p) bytes outcome (braid_no_words bytes) (λ braid. reported _) h
task_no_words p Tetrahedra bytes outcome h =
    input_no_words IsTetraTextOutcome (tetra_report p) bytes outcome (tetra_no_words bytes) (λ items. summed_no_words (report_of (weight_sum p items) None) (tetra_refusals.refusal p items)) h

-- NO TASK STOPS FOR ITS WORDS
pub no_words_stop : (asked : Opened) (bytes : List ℕ) (result : Result (String Global) Stop) (R : String Global → Type 0) → MatchResult result R (IsStoppedAt (Ok asked) bytes) → (words : WordsRefusal)
    → result ≡ Err (Refused (Words words)) → ⊥
no_words_stop asked bytes result R h words e =
    let T : Result (String Global) Stop → Type 0 = λ r. MatchResult r R (IsStoppedAt (Ok asked) bytes) in
    task_no_words asked.params asked.task bytes (Err (Words words)) (subst T e h) words refl
