use Rattle.std.proofs.Common.{◌≡◌, ◌<◌, [], ◌∷◌, length, ap, ◌∙◌, Err, arith}
use Rattle.std.proofs.lemmas.List.Elements.{All-cons, All-nil}
use Rattle.state_sums.specs.Networks.{Term}
use Rattle.cable_grids.proofs.Misfits.{no_misfits}
use Rattle.cable_grids.proofs.through.one_term_node.Goals as goal

pub unreachable-requires : goal.unreachable-requires
unreachable-requires c =
    let e = (c.new.ensures.long c.in-Err-Long.field-0-0).0 (c.in-Err-Long.is ∙ ap Err c.in-Err-Long.field-0-is) in
    let many = e.0 in
    let few = c.requires.few in
    omega (arith, many, few)

pub unreachable-requires-in-Err-TooMany : goal.unreachable-requires-in-Err-TooMany
unreachable-requires-in-Err-TooMany c =
    let e = (c.new.ensures.too_many c.in-Err-TooMany.field-0-0).0 (c.in-Err-TooMany.is ∙ ap Err c.in-Err-TooMany.field-0-is) in
    let many : 1048576 < 1 = e.1 in
    omega (arith, many)

pub unreachable-requires-in-Err-Ends : goal.unreachable-requires-in-Err-Ends
unreachable-requires-in-Err-Ends c =
    let e = (c.new.ensures.misfit c.in-Err-Ends.field-0-0).0 (c.in-Err-Ends.is ∙ ap Err c.in-Err-Ends.field-0-is) in
    let term : Term = record { weight = 1; partner = c.args.pairing } in
    let Pairs : Term → Type 0 = λ t. length t.partner ≡ length c.args.ends.now in
    no_misfits (length c.args.ends.now) (term ∷ []) (All-cons Pairs term [] c.requires.whole (All-nil Pairs)) c.in-Err-Ends.field-0-0 e.2
