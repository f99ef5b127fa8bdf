-- Whether framings fit a diagram. (This project's own.)
--
--     against_size found framed        the framed diagram, where no component was found whose framing is too large; or the refusal
--     fit_framings items framings      the diagram with a framing for each of its components, none past 2^60 in size; or the refusal
use Rattle.std.specs.Prelude.{◌==◌, ℕ, ℤ, List, length, Option, Some, None, Result, Ok, Err, if◌then◌else◌}
use Rattle.pd_reader.specs.declared.item.Item.{Item}
use Rattle.planar_check.specs.Components.{least_labels}
use Rattle.planar_check.specs.Framings.{FramedDiagram, first_large}
use Rattle.wrt_commands.specs.declared.arguments_refusal.ArgumentsRefusal.TheVariants.{FramingCount, FramingSize}
use Rattle.wrt_commands.specs.declared.refusal.Refusal.{Refusal}
use Rattle.wrt_commands.specs.declared.refusal.Refusal.TheVariants.{Arguments}

-- No framing is too large, or the component of the first that is.
abbrev pub against_size : Option ℕ → FramedDiagram → Result FramedDiagram Refusal
against_size None framed = Ok framed
against_size (Some component) framed = Err (Arguments (FramingSize component))

-- A framing for each component of a diagram, none past 2^60 in size.
abbrev pub fit_framings : List Item → List ℤ → Result FramedDiagram Refusal
fit_framings items framings =
    if length framings == length (least_labels items)
    then against_size (first_large framings) (record { items = items; framings = framings })
    else Err (Arguments (FramingCount (length framings) (length (least_labels items))))
