use Rattle.std.proofs.Common.{◌<◌, length, slice_index, ◌∙◌, arith}
use Rattle.planar_check.proofs.Others.{mapped_push}
use Rattle.planar_check.proofs.Counts.{edges_among}
use Rattle.planar_check.proofs.count.count_pieces.Goals as goal

pub loop-place-preserved : goal.loop-place-preserved
loop-place-preserved c =
    mapped_push (λ p. (slice_index c.args.owners.now p, slice_index c.args.owners.now (slice_index c.args.others.now p)))
    c.loop-place.place c.loop-place.edges.items _ c.loop-place.invariant c.in_ok-push.ensures.items

pub count_parts-requires : goal.count_parts-requires
count_parts-requires c =
    let others = c.args.others.now in
    let owners = c.args.owners.now in
    record {
      among = edges_among (λ p. (slice_index owners p, slice_index owners (slice_index others p))) c.loop-place.place c.args.items c.deref.result.now
          (c.deref.ensures.value ∙ c.loop-place.invariant) (λ p l.
          let here : p < length owners = omega (arith, l, c.loop-place.auto.place-end, c.requires.same_length) in
          let there : p < length others = omega (arith, l, c.loop-place.auto.place-end) in
          let across : slice_index others p < length owners = omega (arith, c.requires.others_in_range p 0 there, c.requires.same_length) in
          (c.requires.owners_in_range p 0 here, c.requires.owners_in_range (slice_index others p) 0 across));
    }
