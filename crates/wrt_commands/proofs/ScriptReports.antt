-- A report of a script has the lines of the script that the bytes spell, which follow from one another as its steps say.
use Rattle.std.proofs.Common.{◌≡◌, ◌∙◌, inl, inr, ℕ, suc, ◌+◌, ◌*◌, ◌<◌, ◌≤◌, ◌==◌, ◌&&◌, nat_le, nat_lt, Bool, true, false, not, cond, List, [], ◌∷◌, ◌++◌, length, Option, Some, None, Result, Ok, Err, ℤ, refl, sym, ap, subst, arith}
use Rattle.std.specs.Prelude.{option_map}
use Rattle.std.specs.List.{All, AllByRecursion, position, position_or_len, prefix_len}
use Rattle.std.proofs.lemmas.Bool.Decides.{nat_tests}
use Rattle.std.proofs.lemmas.List.Elements.{All-cons, All-nil}
use Rattle.root_quantum.specs.Parameters.{Parameters, top_colour}
use Rattle.pd_reader.specs.declared.fault.DiagramFault.{DiagramFault}
use Rattle.pd_reader.specs.declared.fault.DiagramFault.TheVariants as faults
use Rattle.pd_reader.specs.declared.item.Item.{Item}
use Rattle.pd_reader.specs.declared.item.Item.TheVariants as items
use Rattle.pd_reader.specs.Diagrams.{IsDiagram, refusal}
use Rattle.pd_reader.specs.Items.{HasItsSlots, item_labels}
use Rattle.pd_reader.specs.Texts.{IsTextItem}
use Rattle.pd_reader.proofs.ItemLabels.{unrefused_is_paired}
use Rattle.pd_reader.proofs.TextTokens.{pd_labels}
use Rattle.planar_check.specs.Components.{least_labels}
use Rattle.planar_check.specs.Framings.{FramedDiagram, IsFramed, is_large, first_large}
use Rattle.planar_check.specs.Places.{item_slots, slot_lists}
use Rattle.planar_check.specs.Planar.{face_count, wanted_faces}
use Rattle.script_reader.specs.ScriptTexts.{ScriptParts, script_refusal}
use Rattle.script_values.specs.declared.drawing.Drawing.{Drawing}
use Rattle.script_values.specs.Colours.{ColouredDiagram}
use Rattle.script_values.specs.declared.drawing.Drawing.TheVariants as drawings
use Rattle.script_values.specs.declared.drawing.Drawing.TheVariants.{Plain, Framed}
use Rattle.script_values.specs.declared.fault.ScriptRefusal.{ScriptRefusal}
use Rattle.script_values.specs.Scripts.{script_values}
use Rattle.script_lines.proofs.BracketLines.{bracket_lines_law}
use Rattle.script_lines.proofs.ColouredLines.{coloured_lines_law}
use Rattle.script_lines.proofs.SurgeryLines.{surgery_lines_law}
use Rattle.skein_network.specs.Refusals.{first_above, colour_refusal}
use Rattle.skein_network.specs.declared.fault.CableFault.TheVariants.{ColourCount, ColourTooLarge}
use Rattle.wrt_request.specs.Stages.{after}
use Rattle.wrt_request.specs.declared.request.DiagramValues.{DiagramValues}
use Rattle.wrt_request.specs.declared.request.DiagramValues.TheVariants.{Brackets, Coloured, Surgery}
use Rattle.wrt_commands.specs.declared.refusal.Refusal.{Refusal}
use Rattle.wrt_commands.specs.declared.refusal.Refusal.TheVariants.{Script}
use Rattle.wrt_commands.specs.ColourFits.{fit_components, fits}
use Rattle.wrt_commands.specs.DiagramReports.{planar}
use Rattle.wrt_commands.specs.FramingFits.{against_size, fit_framings}
use Rattle.wrt_commands.specs.Inputs.{IsScriptTextOutcome}
use Rattle.wrt_commands.specs.Laws.{AreScriptLines, IsScriptReport, ReportsAreOfScripts}
use Rattle.wrt_commands.specs.MovesReports.{first_drawing, lines, moves_report}
use Rattle.wrt_commands.specs.Stops.{refused_as}
use Rattle.wrt_commands.proofs.ScriptLemmas.{text_labels}

-- ---- the stages that were passed
after_Ok : {A B : Type 0} (first : Result A Refusal) (next : A → Result B Refusal) (last : B) → after first next ≡ Ok last → (value : A) × (first ≡ Ok value) × (next value ≡ Ok last)
after_Ok (Ok value) next last h = (value, refl, h)
after_Ok (Err refused) next last h = absurd (cc)

script_Ok : (found : Result (List ℕ) ScriptRefusal) (residues : List ℕ) → refused_as Script found ≡ Ok residues → found ≡ Ok residues
script_Ok (Ok others) residues h = let e : ◌≡◌ {A = Result (List ℕ) Refusal} (Ok others) (Ok residues) = h in let same : others ≡ residues = cc in ap Ok same
script_Ok (Err refused) residues h = absurd (cc)

flat_Ok : (all flat : List Item) → planar all ≡ Ok flat → flat ≡ all
flat_Ok all flat h = cases (face_count (slot_lists item_slots all) == wanted_faces (slot_lists item_slots all)) _ h
  where
    cases : (same : Bool) (refused : Refusal) → ◌≡◌ {A = Result (List Item) Refusal} (cond same (Ok all) (Err refused)) (Ok flat) → flat ≡ all
    cases true refused e = cc
    cases false refused e = absurd (cc)

-- ---- colours that fit
fitting : (top wanted : ℕ) (colours : List ℕ) → fits (colour_refusal top wanted colours) ≡ Ok tt → colour_refusal top wanted colours ≡ None
fitting top wanted colours h = cases (length colours == wanted) (first_above top colours) h
  where
    cases : (same : Bool) (above : Option ℕ) → fits (cond same (option_map (λ colour. ColourTooLarge colour top) above) (Some (ColourCount (length colours) wanted))) ≡ Ok tt
        → cond same (option_map (λ colour. ColourTooLarge colour top) above) (Some (ColourCount (length colours) wanted)) ≡ None
    cases true None e = refl
    cases true (Some colour) e = absurd (cc)
    cases false above e = absurd (cc)

-- ---- framings that fit
abbrev IsSmall : ℤ → Type 0
IsSmall framing = is_large framing ≡ false

-- one more, where the others are small if they are passed
one_more_small : (framing : ℤ) (framings : List ℤ) (passed : ℕ) → (length framings ≤ passed → All IsSmall framings) → (large : Bool) → is_large framing ≡ large → suc (length framings) ≤ cond (not large) (1 + passed) 0
    → All IsSmall (framing ∷ framings)
one_more_small framing framings passed others true e h = absurd (omega (arith, h))
one_more_small framing framings passed others false e h = All-cons IsSmall framing framings e (others (omega (arith, h)))

small_all : (framings : List ℤ) → length framings ≤ prefix_len (λ framing. not (is_large framing)) framings → All IsSmall framings
small_all [] low = All-nil IsSmall
small_all (framing ∷ framings) low = one_more_small framing framings (prefix_len (λ f. not (is_large f)) framings) (small_all framings) (is_large framing) refl low

none_large : (framings : List ℤ) → first_large framings ≡ None → All IsSmall framings
none_large framings none = cases (nat_lt (position_or_len is_large framings) (length framings)) refl none
  where
    cases : (some : Bool) → nat_lt (position_or_len is_large framings) (length framings) ≡ some → option_map suc (cond some (Some (position_or_len is_large framings)) None) ≡ None → All IsSmall framings
    cases true e h = let f : ◌≡◌ {A = Option ℕ} (Some (suc (position_or_len is_large framings))) None = h in absurd (cc)
    cases false e h = small_all framings (let low : length framings ≤ position_or_len is_large framings = grind (arith, nat_tests, e) in low)

framed_Ok : (all : List Item) (framings : List ℤ) (framed : FramedDiagram) → fit_framings all framings ≡ Ok framed → (framed ≡ record { items = all; framings = framings }) × IsFramed record { items = all; framings = framings }
framed_Ok all framings framed h = cases (length framings == length (least_labels all)) refl (first_large framings) refl _ h
  where
    one : FramedDiagram
    one = record { items = all; framings = framings }

    cases : (same : Bool) → (length framings == length (least_labels all)) ≡ same → (found : Option ℕ) → first_large framings ≡ found → (refused : Refusal)
        → ◌≡◌ {A = Result FramedDiagram Refusal} (cond same (against_size found (record { items = all; framings = framings })) (Err refused)) (Ok framed)
        → (framed ≡ record { items = all; framings = framings }) × IsFramed record { items = all; framings = framings }
    cases true a None b refused e = (cc, record { count = grind (arith, nat_tests, a); small = none_large framings b })
    cases true a (Some component) b refused e = absurd (cc)
    cases false a found b refused e = absurd (cc)

-- ---- what the bytes spell
sized : (all : List Item) → AllByRecursion IsTextItem all → AllByRecursion HasItsSlots all
sized [] h = tt
sized (items.X slots ∷ rest) h = (h.0.count_is, sized rest h.1)
sized (items.Loop label ∷ rest) h = (tt, sized rest h.1)

pub record IsScriptOfText (script : ScriptParts) : Type 0 where
  pub diagram : IsDiagram script.diagram
  pub steps : length script.steps ≤ 1000

of_limits : (script : ScriptParts) → AllByRecursion IsTextItem script.diagram → script_refusal script ≡ None → IsScriptOfText script
of_limits script are none = cases (nat_le (length script.diagram) 256 && nat_lt 1000 (length script.steps)) refl none
  where
    cases : (past : Bool) → (nat_le (length script.diagram) 256 && nat_lt 1000 (length script.steps)) ≡ past
        → ◌≡◌ {A = Option DiagramFault} (cond past (Some (faults.TooMany 1000)) (refusal item_labels script.diagram)) None → IsScriptOfText script
    cases true e h = absurd (cc)
    cases false e h =
        let is : IsDiagram script.diagram = unrefused_is_paired item_labels HasItsSlots script.diagram h (sized script.diagram are) (pd_labels script.diagram are) in
        let few = is.few in
        record { diagram = is; steps = grind (arith, nat_tests, e, few) }

-- ---- the report
lines_of : (p : Parameters) (values : DiagramValues) (script : ScriptParts) (first : Drawing) (residues : List ℕ) → AllByRecursion IsTextItem script.diagram → IsScriptOfText script
    → first_drawing p values script.diagram ≡ Ok first → script_values p first script.steps ≡ Ok residues → AreScriptLines p values script residues
lines_of p Brackets script first residues are is e h =
    let f : ◌≡◌ {A = Result Drawing Refusal} (Ok (Plain script.diagram)) (Ok first) = e in
    let same : first ≡ Plain script.diagram = cc in
    let paired = is.diagram in
    bracket_lines_law p script.diagram script.steps residues (record { sizes = paired.sizes; twice = paired.twice }) (subst (λ (d : Drawing). script_values p d script.steps ≡ Ok residues) same h)
lines_of p (Coloured colours) script first residues are is e h =
    let drawn : ColouredDiagram = record { items = script.diagram; colours = colours } in
    let fit = after_Ok (fit_components p script.diagram colours) (λ _. Ok (drawings.Coloured drawn)) first e in
    let f : ◌≡◌ {A = Result Drawing Refusal} (Ok (drawings.Coloured drawn)) (Ok first) = fit.2 in
    let same : first ≡ drawings.Coloured drawn = cc in
    let low = text_labels script.diagram are in
    let few = is.steps in
    coloured_lines_law p drawn script.steps residues
    (record { diagram = is.diagram; fit = fitting (top_colour p) (length (least_labels script.diagram)) colours fit.1; room = omega (arith, low, few) })
    (subst (λ (d : Drawing). script_values p d script.steps ≡ Ok residues) same h)
lines_of p (Surgery framings) script first residues are is e h =
    let one : FramedDiagram = record { items = script.diagram; framings = framings } in
    let fit = after_Ok (fit_framings script.diagram framings) (λ framed. Ok (Framed framed)) first e in
    let framed = framed_Ok script.diagram framings fit.0 fit.1 in
    let f : ◌≡◌ {A = Result Drawing Refusal} (Ok (Framed fit.0)) (Ok first) = fit.2 in
    let same : first ≡ Framed fit.0 = cc in
    let low = text_labels script.diagram are in
    let few = is.steps in
    surgery_lines_law p one script.steps residues (record { diagram = is.diagram; framings = framed.1; room = omega (arith, low, few) })
    (subst (λ (d : Drawing). script_values p d script.steps ≡ Ok residues) (same ∙ ap Framed framed.0) h)

report_of_script : (p : Parameters) (values : DiagramValues) (script : ScriptParts) (report : List ℕ) → AllByRecursion IsTextItem script.diagram → IsScriptOfText script
    → moves_report p values script ≡ Ok report → IsScriptReport p values script report
report_of_script p values script report are is h =
    let plane = after_Ok (planar script.diagram) _ report h in
    let first = after_Ok (first_drawing p values plane.0) _ report plane.2 in
    let valued = after_Ok (refused_as Script (script_values p first.0 script.steps)) (λ residues. Ok (lines residues)) report first.2 in
    let told : ◌≡◌ {A = Result (List ℕ) Refusal} (Ok (lines valued.0)) (Ok report) = valued.2 in
    let drawn = subst (λ (all : List Item). first_drawing p values all ≡ Ok first.0) (flat_Ok script.diagram plane.0 plane.1) first.1 in
    record {
      residues = valued.0;
      told = cc;
      follow = lines_of p values script first.0 valued.0 are is drawn (script_Ok (script_values p first.0 script.steps) valued.0 valued.1);
    }

-- A REPORT OF A SCRIPT HAS ITS LINES
pub reports_are_of_scripts_law : ReportsAreOfScripts
reports_are_of_scripts_law p values bytes report (inl long) = let e = long.1 in absurd (cc)
reports_are_of_scripts_law p values bytes report (inr read) = go read.1.0 read.1.1 read.1.2
  where
    go : (text : Result ScriptParts Refusal) → IsScriptTextOutcome bytes text → Ok report ≡ after text (moves_report p values) → (script : ScriptParts) × IsScriptTextOutcome bytes (Ok script) × IsScriptReport p values script report
    go (Ok script) spelled e =
        let are = spelled.0.0.are_items in (script, spelled, report_of_script p values script report are (of_limits script are spelled.1) (sym e))
    go (Err refused) spelled e = absurd (cc)
