-- Each digit keeps the number below the power; and the digits of a colouring are its place.
use Rattle.std.proofs.Common.{◌≡◌, ◌≤◌, ◌-◌, length, get_or, ap, sym, ◌∙◌, arith}
use Rattle.std.proofs.lemmas.List.Elements.{All-get_or}
use Rattle.tetra_sum.proofs.Walks.{digits_from, digit_more, digit_read, digits_read, power_within, place_of}
use Rattle.tetra_sum.proofs.number.number_of.Goals as goal

pub overflow_mul-number : goal.overflow_mul-number
overflow_mul-number c =
    let s = c.args.r - 1 in
    let k = c.loop-colour.colour-index in
    let low : get_or c.args.colours.now k 0 ≤ c.args.r - 2 = All-get_or (λ colour. colour ≤ c.args.r - 2) c.args.colours.now k 0 c.loop-colour-test.true c.requires.few in
    let below = digit_more s c.loop-colour.number 0 k c.from.result 0 (omega (arith, c.requires.low)) c.loop-colour.invariant.below (omega (arith, c.requires.low)) c.from.ensures (omega arith) in
    let within = power_within s k (length c.args.colours.now) (omega (arith, c.requires.low)) c.loop-colour-test.true in
    omega (arith, below, within, c.requires.small)

pub overflow_add-number : goal.overflow_add-number
overflow_add-number c =
    let s = c.args.r - 1 in
    let k = c.loop-colour.colour-index in
    let x = get_or c.args.colours.now k 0 in
    let low : x ≤ c.args.r - 2 = All-get_or (λ colour. colour ≤ c.args.r - 2) c.args.colours.now k 0 c.loop-colour-test.true c.requires.few in
    let below = digit_more s c.loop-colour.number x k c.from.result c.from-in-loop-colour.result (omega (arith, c.requires.low)) c.loop-colour.invariant.below (omega (arith, low, c.requires.low)) c.from.ensures c.from-in-loop-colour.ensures in
    let within = power_within s k (length c.args.colours.now) (omega (arith, c.requires.low)) c.loop-colour-test.true in
    omega (arith, below, within, c.requires.small)

pub loop-colour-preserved : goal.loop-colour-preserved
loop-colour-preserved c =
    let s = c.args.r - 1 in
    let k = c.loop-colour.colour-index in
    let x = get_or c.args.colours.now k 0 in
    let low : x ≤ c.args.r - 2 = All-get_or (λ colour. colour ≤ c.args.r - 2) c.args.colours.now k 0 c.loop-colour-test.true c.requires.few in
    record {
      value =
          digit_read s c.loop-colour.number c.from.result c.from-in-loop-colour.result k c.args.colours.now (digits_from s 0 c.args.colours.now) c.loop-colour-test.true c.from.ensures c.from-in-loop-colour.ensures
          c.loop-colour.invariant.value;
      below =
          digit_more s c.loop-colour.number x k c.from.result c.from-in-loop-colour.result (omega (arith, c.requires.low)) c.loop-colour.invariant.below (omega (arith, low, c.requires.low)) c.from.ensures
          c.from-in-loop-colour.ensures;
    }

pub returns : goal.returns
returns c = λ number first last is.
    let s = c.args.r - 1 in
    let read = digits_read s c.loop-colour.number c.loop-colour.colour-index c.args.colours.now (digits_from s 0 c.args.colours.now) (omega (arith, c.loop-colour-test.false)) c.loop-colour.invariant.value in
    let place : digits_from s 0 c.args.colours.now ≡ number - 1 = ap (digits_from s 0) (sym is) ∙ place_of s (length c.args.colours.now) (number - 1) (omega (arith, c.requires.low)) (omega (arith, first, last)) in
    omega (arith, read, place, first)
