use Rattle.std.proofs.Common.{◌++◌, ◌∷◌, [], ap, sym, ◌∙◌, List, ℕ}
use Rattle.list_lemmas.proofs.Ranges.{range_push}
use Rattle.frontier_sweep.proofs.frontier.places.Goals as goal

pub loop-place-preserved : goal.loop-place-preserved
loop-place-preserved c = c.in_ok-push.ensures.items ∙ ap (λ (places : List ℕ). places ++ c.loop-place.place ∷ []) c.loop-place.invariant ∙ sym (range_push c.loop-place.place)
