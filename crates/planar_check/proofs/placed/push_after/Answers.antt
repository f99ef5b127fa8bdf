use Rattle.std.proofs.Common.{◌≡◌, ℕ, ◌+◌, List, [], ◌∷◌, ◌++◌, map, sym, ap, ◌∙◌, append_assoc, arith}
use Rattle.std.specs.List.{range_with_len}
use Rattle.std.proofs.lemmas.List.FromFn.{map-range_with_len_more}
use Rattle.planar_check.specs.Places.{slot_after}
use Rattle.planar_check.proofs.placed.push_after.Goals as goal

pub loop-slot-preserved : goal.loop-slot-preserved
loop-slot-preserved c =
    let front = c.args.after.now.items in
    let f = slot_after c.len-start.result c.args.slots in
    let n = c.loop-slot.slot in
    let same : 0 + n ≡ n = omega arith in
    record {
      items = c.in_ok-push.ensures.items
          ∙ (ap (λ (ts : List ℕ). ts ++ f n ∷ []) c.loop-slot.invariant.items
          ∙ (append_assoc front (map f (range_with_len 0 n)) (f n ∷ [])
          ∙ ap (λ (ts : List ℕ). front ++ ts) (sym (map-range_with_len_more f 0 n n same))));
      more = omega (arith, c.in_ok-push.ensures.len, c.loop-slot.invariant.more);
    }
