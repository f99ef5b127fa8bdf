-- Scripts of texts: their labels are at most 999,999, so that there is room for the new labels of all steps; and their reports, line by line.
use Rattle.std.proofs.Common.{◌≡◌, ◌∙◌, ℕ, ◌+◌, ◌<◌, ◌≤◌, List, [], ◌∷◌, ◌++◌, drop, drop-cons, length, slice_index_or, decimal, Option, Result, Ok, ℤ, refl, sym, ap, subst, arith, add-one, append_assoc, append-nil}
use Rattle.std.proofs.Math.ListN.{drop_of_length-le}
use Rattle.std.specs.List.{AllByRecursion}
use Rattle.text_shapes.specs.Tokens.{IsNumber}
use Rattle.pd_reader.specs.declared.item.Item.{Item}
use Rattle.pd_reader.specs.declared.item.Item.TheVariants as items
use Rattle.pd_reader.specs.Diagrams.{labels}
use Rattle.pd_reader.specs.Items.{item_labels}
use Rattle.pd_reader.specs.Texts.{IsTextItem}
use Rattle.planar_check.specs.Components.{greatest}
use Rattle.script_reader.specs.ScriptTexts.{ScriptParts}
use Rattle.script_reader.specs.declared.step.Step.{Step}
use Rattle.script_values.specs.Scripts.{Fails, script_values}
use Rattle.script_values.specs.declared.drawing.Drawing.{Drawing}
use Rattle.script_values.specs.declared.fault.ScriptFault.{ScriptFault}
use Rattle.script_values.specs.declared.fault.ScriptFault.TheVariants as scripts
use Rattle.script_values.specs.declared.fault.ScriptRefusal.{ScriptRefusal}
use Rattle.root_quantum.specs.Parameters.{Parameters}
use Rattle.wrt_request.specs.Stages.{after}
use Rattle.wrt_request.specs.declared.request.DiagramValues.{DiagramValues}
use Rattle.wrt_commands.specs.declared.refusal.Refusal.{Refusal}
use Rattle.wrt_commands.specs.declared.refusal.Refusal.TheVariants.{Script}
use Rattle.wrt_commands.specs.declared.stop.Stop.{Stop}
use Rattle.wrt_commands.specs.DiagramReports.{planar}
use Rattle.wrt_commands.specs.MovesReports.{first_drawing, lines, moves_report}
use Rattle.wrt_commands.specs.ScriptRefusals.{stop_of_script}
use Rattle.wrt_commands.specs.Stops.{Is, Stops, refused_as}

-- ---- labels
numbers_and_more : (ns rest : List ℕ) → AllByRecursion IsNumber ns → greatest rest ≤ 999999 → greatest (ns ++ rest) ≤ 999999
numbers_and_more [] rest h k = k
numbers_and_more (n ∷ ns) rest h k = let ih = numbers_and_more ns rest h.1 k in let high = h.0.high in omega (arith, ih, high)

pub text_labels : (all : List Item) → AllByRecursion IsTextItem all → greatest (labels item_labels all) ≤ 999999
text_labels [] h = omega arith
text_labels (items.X slots ∷ rest) h = numbers_and_more slots (labels item_labels rest) h.0.are_numbers (text_labels rest h.1)
text_labels (items.Loop label ∷ rest) h = let ih = text_labels rest h.1 in let high = h.0.are_numbers.0.high in omega (arith, ih, high)

-- ---- lines
rest_of : (all : List ℕ) (i : ℕ) → i < length all → drop i all ≡ slice_index_or all i 0 ∷ drop (i + 1) all
rest_of all i h = drop-cons all i 0 h ∙ ap (λ j. slice_index_or all i 0 ∷ drop j all) (sym (add-one i))

pub next_line : (all : List ℕ) (i : ℕ) (old new line : List ℕ) → i < length all → lines all ≡ old ++ lines (drop i all) → new ≡ old ++ line → line ≡ decimal (slice_index_or all i 0) ++ 10 ∷ []
    → lines all ≡ new ++ lines (drop (i + 1) all)
next_line all i old new line h e is said =
    let residue = slice_index_or all i 0 in
    let rest = lines (drop (i + 1) all) in
    let one : decimal residue ++ 10 ∷ rest ≡ line ++ rest = sym (append_assoc (decimal residue) (10 ∷ []) rest) ∙ ap (λ b. b ++ rest) (sym said) in
    e ∙ ap (λ left. old ++ lines left) (rest_of all i h) ∙ ap (λ b. old ++ b) one ∙ sym (append_assoc old line rest) ∙ ap (λ b. b ++ rest) (sym is)

pub no_lines_left : (all : List ℕ) (i : ℕ) (done : List ℕ) → lines all ≡ done ++ lines (drop i all) → length all ≤ i → done ≡ lines all
no_lines_left all i done e h = sym (e ∙ ap (λ left. done ++ lines left) (drop_of_length-le all h) ∙ append-nil done)

-- ---- what a script comes to, behind its plane and its framings
script_stopped : (found : Result (List ℕ) ScriptRefusal) (next : List ℕ → Result (List ℕ) Refusal) (fault : ScriptFault) → Fails found fault → Stops (Is (after (refused_as Script found) next)) (stop_of_script fault)
script_stopped found next (scripts.Refused refusal) h = rw h refl
script_stopped found next scripts.Memory h = tt

module _ (p : Parameters) (values : DiagramValues) (script : ScriptParts) (flat : List Item) (first : Drawing) (is_flat : planar script.diagram ≡ Ok flat)
    (is_first : first_drawing p values flat ≡ Ok first) where
  abbrev with_lines : List ℕ → Result (List ℕ) Refusal
  with_lines residues = Ok (lines residues)

  abbrev with_first : List Step → Drawing → Result (List ℕ) Refusal
  with_first steps drawing = after (refused_as Script (script_values p drawing steps)) with_lines

  behind : (steps : List Step) → steps ≡ script.steps → moves_report p values script ≡ with_first steps first
  behind steps same =
      ap (λ plane. after plane (λ seen. after (first_drawing p values seen) (with_first script.steps))) is_flat ∙ ap (λ found. after found (with_first script.steps)) is_first
      ∙ ap (λ made. with_first made first) (sym same)

  pub script_fails : (steps : List Step) → steps ≡ script.steps → (fault : ScriptFault) (stop : Stop) → stop ≡ stop_of_script fault → Fails (script_values p first steps) fault
      → Stops (Is (moves_report p values script)) stop
  script_fails steps same fault stop told h =
      let Q : Result (List ℕ) Refusal → Type 0 = λ report. Stops (Is report) stop in
      let T : Stop → Type 0 = λ s. Stops (Is (with_first steps first)) s in
      subst Q (sym (behind steps same)) (subst T (sym told) (script_stopped (script_values p first steps) with_lines fault h))

  pub script_reports : (steps : List Step) → steps ≡ script.steps → (residues bytes : List ℕ) → script_values p first steps ≡ Ok residues → bytes ≡ lines residues → moves_report p values script ≡ Ok bytes
  script_reports steps same residues bytes h e = behind steps same ∙ ap (λ found. after (refused_as Script found) with_lines) h ∙ ap Ok (sym e)
