-- The first refusal of a text, from those before the walk and that of the walk.
use Rattle.std.proofs.Common.{◌≡◌, List, length, Option, Some, None, ap, ◌∙◌}
use Rattle.std.specs.Option.{option_or}
use Rattle.root_quantum.specs.Parameters.{Parameters}
use Rattle.tetra_reader.specs.declared.item.TetraItem.{TetraItem}
use Rattle.tetra_sum.specs.declared.fault.TetraFault.{TetraFault}
use Rattle.tetra_sum.specs.Refusals.{count_refusal, inverse_refusal, walk_refusal, refusal}
use Rattle.tetra_sum.specs.Sums.{text_labels}

or_more : (a b w : Option TetraFault) (fault : TetraFault) → option_or a b ≡ Some fault → option_or a (option_or b w) ≡ Some fault
or_more (Some x) b w fault e = e
or_more None b w fault e = ap (λ o. option_or o w) e

pub refused_before : (p : Parameters) (items : List TetraItem) (fault : TetraFault) →
    option_or (count_refusal p.level (length (text_labels items))) (inverse_refusal p (length (text_labels items))) ≡ Some fault → refusal p items ≡ Some fault
unfolding refusal
refused_before p items fault e = or_more (count_refusal p.level (length (text_labels items))) (inverse_refusal p (length (text_labels items))) (walk_refusal p items) fault e

pub refused_by_walk : (p : Parameters) (items : List TetraItem) → count_refusal p.level (length (text_labels items)) ≡ None → inverse_refusal p (length (text_labels items)) ≡ None →
    refusal p items ≡ walk_refusal p items
unfolding refusal
refused_by_walk p items few inverses =
    ap (λ o. option_or o (option_or (inverse_refusal p (length (text_labels items))) (walk_refusal p items))) few ∙ ap (λ o. option_or o (walk_refusal p items)) inverses
