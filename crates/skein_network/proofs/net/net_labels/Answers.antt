use Rattle.std.proofs.Common.{◌≤◌, length, ap, sym, subst, ◌∙◌}
use Rattle.std.proofs.lemmas.Result.{IfOk-weaker}
use Rattle.pd_reader.specs.Items.{net_item_labels}
use Rattle.pd_reader.specs.Diagrams.{labels, IsNet}
use Rattle.planar_check.specs.Components.{distinct}
use Rattle.skein_network.proofs.NetEdges.{few_labels}
use Rattle.skein_network.proofs.net.net_labels.Goals as goal

pub returns-clause-labels : goal.returns-clause-labels
returns-clause-labels c =
    let all = c.deref.ensures.value ∙ c.in_ok-labels.ensures.items ∙ ap (labels net_item_labels) (c.items.ensures.items ∙ c.net.ensures.net) in
    IfOk-weaker c.distinct.result _ _ (λ names e. e ∙ ap distinct all) c.distinct.ensures

pub returns-clause-few : goal.returns-clause-few
returns-clause-few c =
    let all = c.deref.ensures.value ∙ c.in_ok-labels.ensures.items in
    IfOk-weaker c.distinct.result _ _ (λ names e. subst (λ ls. length ls ≤ 2000001) (sym (e ∙ ap distinct all)) (few_labels c.items.result.now (subst IsNet (sym c.items.ensures.items) c.items.ensures.net))) c.distinct.ensures
