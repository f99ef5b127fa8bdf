-- A turn leaves out the last component, whose colour is that of the remainder.
use Rattle.std.proofs.Common.{◌≡◌, ℕ, ◌+◌, ◌-◌, ◌^◌, ◌<◌, suc, [], get_or, slice_index, ap, subst, ◌∙◌, arith}
use Rattle.coloured_values.specs.Surgery.{colour_lists}
use Rattle.kirby_terms.proofs.ColourLists.{quotient_below, one_turn, last_turn}
use Rattle.kirby_terms.proofs.colours.place_of.Goals as goal

pub loop-preserved : goal.loop-preserved
loop-preserved c =
    let s = c.args.count in
    let n : ℕ = c.args.components - (c.loop.counter + 1) in
    let one_less : c.args.components - c.loop.counter ≡ suc n = omega (arith, c.loop-test.true) in
    let below : c.loop.rest < s ^ suc n = subst (λ j. c.loop.rest < s ^ j) one_less c.loop.invariant.below in
    let before : c.args.component - 1 < n = omega (arith, c.loop-test.true, c.requires.first, c.requires.last) in
    record {
      below = quotient_below s n c.loop.rest c.requires.some below;
      same = λ colours l.
          c.loop.invariant.same colours l
          ∙ ap (λ j. slice_index (get_or (colour_lists colours j) c.loop.rest []) (c.args.component - 1)) one_less
          ∙ one_turn colours s n c.loop.rest (c.args.component - 1) l c.requires.some below before;
    }

pub returns-clause-place : goal.returns-clause-place
returns-clause-place c = λ colours l.
    c.loop.invariant.same colours l
    ∙ last_turn colours c.args.count (c.args.components - c.loop.counter) c.loop.rest (c.args.component - 1) l c.requires.some c.loop.invariant.below (omega (arith, c.loop-test.false, c.loop.auto.counter-end, c.requires.first, c.requires.last))
