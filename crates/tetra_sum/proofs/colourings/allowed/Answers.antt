use Rattle.std.proofs.Common.{◌++◌, ◌∷◌, [], List, ℕ, cond, filter, flat_map, sym, ap, ◌∙◌, add-one}
use Rattle.coloured_values.specs.Surgery.{colour_lists}
use Rattle.tetra_sum.specs.Colourings.{are_allowed, colours_below}
use Rattle.tetra_sum.specs.Lists.{lists, longer_by}
use Rattle.tetra_sum.proofs.Cuts.{keeps, none_coloured, one_label}
use Rattle.tetra_sum.proofs.colourings.allowed.Goals as goal

pub loop-init : goal.loop-init
loop-init c =
    ap lists ((c.in_ok-push.ensures {u = tt}).items ∙ ap (λ xs. xs ++ c.new.result ∷ []) c.new-list.ensures.items)
    ∙ ap (λ (x : List ℕ). x ∷ []) c.new.ensures.items
    ∙ sym (ap (λ b. cond b ([] ∷ []) []) (none_coloured c.args.r c.args.labels.now c.args.faces.now))

pub loop-preserved : goal.loop-preserved
loop-preserved c =
    let ok = λ (each : List ℕ). are_allowed c.args.r c.args.labels.now each c.args.faces.now in
    let below = colours_below c.args.r in
    c.in_ok-list.ensures {u = tt}
    ∙ ap (λ xs. flat_map (λ colours. filter ok (longer_by below colours)) (lists xs)) c.deref.ensures.value
    ∙ ap (flat_map (λ colours. filter ok (longer_by below colours))) c.loop.invariant
    ∙ one_label ok (λ colours colour. keeps c.args.r c.args.labels.now colours colour c.args.faces.now) below (colour_lists below c.loop.counter)
    ∙ sym (ap (λ n. filter ok (colour_lists below n)) (add-one c.loop.counter))
