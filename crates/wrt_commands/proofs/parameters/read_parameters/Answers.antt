use Rattle.std.proofs.Common.{◌≡◌, ◌∙◌, min, sym, ap, Err, arith}
use Rattle.root_quantum.specs.Refusals.{IsRefused}
use Rattle.root_quantum.specs.declared.fault.ParamFault.TheVariants as against
use Rattle.wrt_commands.specs.Parameters.{against_order, level_of}
use Rattle.wrt_commands.proofs.ParametersLemmas.{level_law, made_law, refused_parameters}
use Rattle.wrt_commands.proofs.parameters.read_parameters.Goals as goal

pub returns-in-Ok : goal.returns-in-Ok
returns-in-Ok c =
    let numbers = c.args.numbers.now in
    let level = c.unwrap_or-level.ensures ∙ level_law c.try_from.result numbers.level c.try_from.ensures in
    let made = c.in-Ok.ensures.made in
    made_law c.args.form numbers c.in-Ok.params made.0 made.1 (made.2 ∙ level) made.3

pub returns-in-Err-Modulus : goal.returns-in-Err-Modulus
returns-in-Err-Modulus c =
    let numbers = c.args.numbers.now in
    let level = c.unwrap_or-level.ensures ∙ level_law c.try_from.result numbers.level c.try_from.ensures in
    let h = (c.in-Err-Modulus.ensures.refused against.Modulus).0 (ap Err c.in-Err-Modulus.field-0-is) in
    refused_parameters c.args.form numbers against.Modulus h

pub returns-in-Err-Root : goal.returns-in-Err-Root
returns-in-Err-Root c =
    let numbers = c.args.numbers.now in
    let level = c.unwrap_or-level.ensures ∙ level_law c.try_from.result numbers.level c.try_from.ensures in
    let h = (c.in-Err-Root.ensures.refused against.Root).0 (ap Err c.in-Err-Root.field-0-is) in
    refused_parameters c.args.form numbers against.Root h

pub returns-in-Err-Level : goal.returns-in-Err-Level
returns-in-Err-Level c =
    let numbers = c.args.numbers.now in
    let level = c.unwrap_or-level.ensures ∙ level_law c.try_from.result numbers.level c.try_from.ensures in
    let h = (c.in-Err-Level.ensures.refused against.Level).0 (ap Err c.in-Err-Level.field-0-is) in
    refused_parameters c.args.form numbers against.Level (rw (sym level) h)

pub returns-in-Err-EvenLevel : goal.returns-in-Err-EvenLevel
returns-in-Err-EvenLevel c =
    let numbers = c.args.numbers.now in
    let level = c.unwrap_or-level.ensures ∙ level_law c.try_from.result numbers.level c.try_from.ensures in
    let h = (c.in-Err-EvenLevel.ensures.refused against.EvenLevel).0 (ap Err c.in-Err-EvenLevel.field-0-is) in
    refused_parameters c.args.form numbers against.EvenLevel (rw (sym level) h)

pub returns-in-Err-Order : goal.returns-in-Err-Order
returns-in-Err-Order c =
    let numbers = c.args.numbers.now in
    let level = c.unwrap_or-level.ensures ∙ level_law c.try_from.result numbers.level c.try_from.ensures in
    let fault = against.Order c.in-Err-Order.found in
    let h = (c.in-Err-Order.ensures.refused fault).0 (ap Err c.in-Err-Order.field-0-is) in
    let h : IsRefused c.args.form numbers.modulus numbers.root (level_of numbers) fault = rw (sym level) h in
    let small : min c.unwrap_or-level.result 10 ≡ level_of numbers = omega (arith, level, h.2) in
    ap Err (c.order_refusal.ensures ∙ ap (λ l. against_order c.args.form l c.in-Err-Order.found) (c.min.ensures ∙ small)) ∙ refused_parameters c.args.form numbers fault h
