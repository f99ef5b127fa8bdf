use Rattle.std.proofs.Common.{◌≡◌, ℕ, ◌<◌, length, ap, ◌∙◌, map, arith}
use Rattle.std.specs.List.{range_with_len}
use Rattle.planar_check.specs.Cycles.{next_on}
use Rattle.planar_check.proofs.Others.{mapped_push}
use Rattle.planar_check.proofs.Counts.{edges_among}
use Rattle.planar_check.proofs.WaysOn.{next_within}
use Rattle.planar_check.proofs.cycles.way_edges.Goals as goal

pub loop-place-preserved : goal.loop-place-preserved
loop-place-preserved c =
    let next : ℕ → ℕ × ℕ = λ p. (p, next_on c.args.way c.args.after.now c.args.others.now p) in
    mapped_push next c.loop-place.place c.loop-place.edges.items _ c.loop-place.invariant (rw (← c.next_place.ensures) c.in_ok-push.ensures.items)

pub returns : goal.returns
returns c =
    let others = c.args.others.now in
    let next : ℕ → ℕ × ℕ = λ p. (p, next_on c.args.way c.args.after.now others p) in
    let whole : c.loop-place.place ≡ length others = omega (arith, c.loop-place-test.false, c.loop-place.auto.place-end) in
    record {
      edges = c.loop-place.invariant ∙ ap (λ (n : ℕ). map next (range_with_len 0 n)) whole;
      among = edges_among next c.loop-place.place (length others) c.loop-place.edges.items c.loop-place.invariant (λ p l.
          let here : p < length others = omega (arith, l, c.loop-place.auto.place-end) in
          (here, next_within c.args.after.now others c.requires.same_length c.requires.after_in_range c.requires.others_in_range c.args.way p here));
    }
