-- What a script comes to: the plane of its first diagram, the colours or framings, the steps, the values of its diagrams, and their
-- report. (This project's own; made of the definitions of the layers below.)
--
--     first_drawing p values items       the first diagram: alone, or with the colours or framings that its values are about
--     lines residues                     a line for each residue
--     moves_report p values script       the report of a script, or the first refusal
--
-- All steps are made before any value is taken. At 41, 2, 5 the unknot with a blow-up comes to the lines "6" and "36".
use Rattle.std.specs.Prelude.{ℕ, List, [], ◌∷◌, ◌++◌, decimal, Result, Ok}
use Rattle.root_quantum.specs.Parameters.{Parameters}
use Rattle.pd_reader.specs.declared.item.Item.{Item}
use Rattle.script_reader.specs.ScriptTexts.{ScriptParts}
use Rattle.script_values.specs.declared.drawing.Drawing.{Drawing}
use Rattle.script_values.specs.declared.drawing.Drawing.TheVariants as drawings
use Rattle.script_values.specs.declared.drawing.Drawing.TheVariants.{Plain, Framed}
use Rattle.script_values.specs.Scripts.{script_values}
use Rattle.wrt_request.specs.Stages.{after}
use Rattle.wrt_request.specs.declared.request.DiagramValues.{DiagramValues}
use Rattle.wrt_request.specs.declared.request.DiagramValues.TheVariants.{Brackets, Coloured, Surgery}
use Rattle.wrt_commands.specs.declared.refusal.Refusal.{Refusal}
use Rattle.wrt_commands.specs.declared.refusal.Refusal.TheVariants.{Script}
use Rattle.wrt_commands.specs.ColourFits.{fit_components}
use Rattle.wrt_commands.specs.DiagramReports.{planar}
use Rattle.wrt_commands.specs.FramingFits.{fit_framings}
use Rattle.wrt_commands.specs.Stops.{refused_as}

-- The first diagram: alone, or with colours or framings that fit it.
abbrev pub first_drawing : Parameters → DiagramValues → List Item → Result Drawing Refusal
first_drawing p Brackets items = Ok (Plain items)
first_drawing p (Coloured colours) items = after (fit_components p items colours) (λ _. Ok (drawings.Coloured record { items = items; colours = colours }))
first_drawing p (Surgery framings) items = after (fit_framings items framings) (λ framed. Ok (Framed framed))

-- A line for each residue.
abbrev pub lines : List ℕ → List ℕ
lines [] = []
lines (residue ∷ rest) = decimal residue ++ 10 ∷ lines rest

-- What a script comes to.
abbrev pub moves_report : Parameters → DiagramValues → ScriptParts → Result (List ℕ) Refusal
moves_report p values script =
    after (planar script.diagram) (λ flat. after (first_drawing p values flat) (λ first.
    after (refused_as Script (script_values p first script.steps)) (λ residues. Ok (lines residues))))
