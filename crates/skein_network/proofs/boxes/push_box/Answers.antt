use Rattle.std.proofs.Common.{◌≡◌, ◌+◌, length, ℕ, ap, ◌∙◌, Err, arith, subst, All, length-append}
use Rattle.state_sums.specs.Networks.{Term}
use Rattle.cable_grids.proofs.Misfits.{no_misfits}
use Rattle.skein_network.proofs.boxes.push_box.Goals as goal

pub unreachable-requires : goal.unreachable-requires
unreachable-requires c =
    let e = (c.new.ensures.long c.in-Err-Long.field-0-0).0 (c.in-Err-Long.is ∙ ap Err c.in-Err-Long.field-0-is) in
    let many = e.0 in
    let few = c.requires.few in
    let same = c.requires.same in
    let a = ap length c.deref.ensures.value in
    let b = ap length c.in_ok-extend_from_slice.ensures.items in
    let d = ap length c.in_ok-ends.ensures.items in
    omega (arith, many, few, same, a, b, d, length-append {A = ℕ})

pub unreachable-requires-in-Err-TooMany : goal.unreachable-requires-in-Err-TooMany
unreachable-requires-in-Err-TooMany c =
    let e = (c.new.ensures.too_many c.in-Err-TooMany.field-0-0).0 (c.in-Err-TooMany.is ∙ ap Err c.in-Err-TooMany.field-0-is) in
    let many = e.1 in
    let few = c.requires.few_terms in
    omega (arith, many, few)

pub unreachable-requires-in-Err-Ends : goal.unreachable-requires-in-Err-Ends
unreachable-requires-in-Err-Ends c =
    let e = (c.new.ensures.misfit c.in-Err-Ends.field-0-0).0 (c.in-Err-Ends.is ∙ ap Err c.in-Err-Ends.field-0-is) in
    let same = c.requires.same in
    let a = ap length c.deref.ensures.value in
    let b = ap length c.in_ok-extend_from_slice.ensures.items in
    let d = ap length c.in_ok-ends.ensures.items in
    let n : length c.args.xs.now + length c.args.xs.now ≡ length c.deref.result.now = omega (arith, same, a, b, d, length-append {A = ℕ}) in
    no_misfits (length c.deref.result.now) c.args.terms.now (subst (λ k. All (λ (term : Term). length term.partner ≡ k) c.args.terms.now) n c.requires.whole) c.in-Err-Ends.field-0-0 e.2
