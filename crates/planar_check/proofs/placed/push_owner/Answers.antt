use Rattle.std.proofs.Common.{ℕ, List, [], ◌∷◌, ◌++◌, map, take, get_or, sym, ap, ◌∙◌, append_assoc}
use Rattle.std.proofs.lemmas.List.{take_more, map-append}
use Rattle.planar_check.proofs.placed.push_owner.Goals as goal

pub loop-label-preserved : goal.loop-label-preserved
loop-label-preserved c =
    let front = c.args.owners.now.items in
    let slots = c.args.slots.now in
    let i = c.loop-label._label-index in
    let f = λ (_ : ℕ). c.args.number in
    c.in_ok-push.ensures.items
    ∙ (ap (λ (ns : List ℕ). ns ++ c.args.number ∷ []) c.loop-label.invariant
    ∙ (append_assoc front (map f (take i slots)) (c.args.number ∷ [])
    ∙ ap (λ (ns : List ℕ). front ++ ns) (sym (ap (map f) (take_more slots i 0 c.loop-label-test.true) ∙ map-append f (take i slots) (get_or slots i 0 ∷ [])))))
