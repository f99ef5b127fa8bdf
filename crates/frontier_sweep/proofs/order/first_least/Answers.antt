use Rattle.std.proofs.Common.{◌≡◌, ℕ, ◌==◌, take_all, slice_index, ap, ◌∙◌, sym, arith}
use Rattle.std.specs.Set.{is_member}
use Rattle.std.proofs.lemmas.Bool.Decides.{nat_tests}
use Rattle.std.proofs.lemmas.List.Elements.{All-get_or}
use Rattle.graph_parts.proofs.Ends.{is_member-get_or}
use Rattle.frontier_laws.proofs.FirstLeast.{running, better, running-all, running-more, better-then, better-else}
use Rattle.frontier_sweep.proofs.order.first_least.Goals as goal
use Rattle.frontier_sweep.proofs.order.first_least.Goals.{then-value-least, else-value-least}

pub loop-place-preserved : goal.loop-place-preserved
loop-place-preserved g c =
    let i = c.loop-place.place-index in
    let places = c.args.places.now in
    let place = slice_index places i in
    elim c.if-value-least.branch [
      | then-value-least w ↦ (
        (λ key says.
            let before = (c.loop-place.invariant.0) key says in
            let value : c.measure-value.result ≡ key place =
            All-get_or (λ (place : ℕ). (value : ℕ) → goal.F-post g c.args.measure place value → value ≡ key place) places i 0 c.loop-place-test.true says c.measure-value.result c.measure-value.ensures in
            let more = running-more key (slice_index places 0) places i c.loop-place-test.true in (
              w.best-is
                  ∙ sym (more ∙ ap (λ best. better key best place) (sym before.0) ∙ better-then key c.loop-place.best place (let a = value in let b = before.1 in let e = w.if-value-least.true in grind (arith, nat_tests, a, b, e))),
              w.least-is ∙ value ∙ ap key (sym w.best-is),
            )),
        ap (is_member ◌==◌ places) w.best-is ∙ is_member-get_or places i c.loop-place-test.true,
      )
      | else-value-least w ↦ (
        (λ key says.
            let before = (c.loop-place.invariant.0) key says in
            let value : c.measure-value.result ≡ key place =
            All-get_or (λ (place : ℕ). (value : ℕ) → goal.F-post g c.args.measure place value → value ≡ key place) places i 0 c.loop-place-test.true says c.measure-value.result c.measure-value.ensures in
            let more = running-more key (slice_index places 0) places i c.loop-place-test.true in (
              w.best-is
                  ∙ sym (more ∙ ap (λ best. better key best place) (sym before.0) ∙ better-else key c.loop-place.best place (let a = value in let b = before.1 in let e = w.if-value-least.false in grind (arith, nat_tests, a, b, e))),
              w.least-is ∙ before.1 ∙ ap key (sym w.best-is),
            )),
        ap (is_member ◌==◌ places) w.best-is ∙ c.loop-place.invariant.1,
      )
    ]

pub returns-clause-least : goal.returns-clause-least
returns-clause-least g c key says =
    let kept = (c.loop-place.invariant.0) key says in
    let whole = take_all c.loop-place.place-index c.args.places.now c.loop-place-test.false in
    kept.0 ∙ ap (running key (slice_index c.args.places.now 0)) whole ∙ running-all key c.args.places.now c.requires.some
