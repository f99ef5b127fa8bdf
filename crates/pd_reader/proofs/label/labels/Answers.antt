use Rattle.std.proofs.Common.{◌≡◌, ◌+◌, ap, sym, ◌∙◌, ◌++◌, ◌∷◌, [], take, arith}
use Rattle.std.proofs.lemmas.List.{take_more}
use Rattle.text_shapes.proofs.Elements.{All-push}
use Rattle.pd_reader.proofs.ItemLabels.{labels-push}
use Rattle.pd_reader.proofs.label.labels.Goals as goal

pub loop-item-preserved : goal.loop-item-preserved
loop-item-preserved g c =
    let front = take c.loop-item.item-index c.args.items.now in
    let item = c.item-item.result in
    let more : take (c.loop-item.item-index + 1) c.args.items.now ≡ front ++ item ∷ [] = take_more _ _ item c.loop-item-test.true ∙ ap (λ x. front ++ x ∷ []) (sym c.item-item.is) in
    record {
      items = rw (more, labels-push g.I.Labelled.labels front item) (c.in_ok-push_labels.ensures.items ∙ ap (λ ls. ls ++ g.I.Labelled.labels item) c.loop-item.invariant.items);
      few = omega (arith, c.in_ok-push_labels.ensures.few, c.loop-item.invariant.few);
      sized = rw more (All-push g.I.Labelled.has_size front item c.loop-item.invariant.sized c.push_labels.ensures.sized);
    }
