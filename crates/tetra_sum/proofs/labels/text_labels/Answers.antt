use Rattle.std.proofs.Common.{◌≤◌, ◌++◌, length, ap, ap₂, sym, subst, ◌∙◌}
use Rattle.std.proofs.lemmas.Result.{IfOk-weaker}
use Rattle.planar_check.specs.Components.{distinct}
use Rattle.tetra_sum.specs.Sums.{all_labels}
use Rattle.tetra_sum.proofs.LabelBounds.{few_labels}
use Rattle.tetra_sum.proofs.labels.text_labels.Goals as goal

pub returns-clause-few : goal.returns-clause-few
returns-clause-few c =
    let all =
    c.deref-2.ensures.value
    ∙ c.in_ok-extend_from_slice.ensures.items
    ∙ ap₂ (λ xs ys. xs ++ ys) (c.in_ok-labels.ensures ∙ ap all_labels c.faces.ensures.faces) (c.deref.ensures.value ∙ c.in_ok-others.ensures ∙ ap all_labels c.tetrahedra.ensures.tetrahedra) in
    IfOk-weaker c.distinct.result _ _ (λ found e. subst (λ ls. length ls ≤ 1000000) (sym (e ∙ ap distinct all)) (few_labels c.args.tetra.now c.faces.ensures.tetra.spelled)) c.distinct.ensures
