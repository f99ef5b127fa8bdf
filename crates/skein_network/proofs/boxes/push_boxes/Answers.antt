use Rattle.std.proofs.Common.{◌≡◌, ◌≤◌, ◌==◌, ◌&&◌, ◌++◌, ◌∷◌, [], true, not, length, get_or, reverse, refl, sym, ap, subst, ◌∙◌, arith, append-nil}
use Rattle.std.specs.Set.{is_member}
use Rattle.std.proofs.lemmas.Bool.{and_parts}
use Rattle.std.proofs.lemmas.Bool.Decides.{nat_tests}
use Rattle.planar_check.specs.Components.{distinct}
use Rattle.skein_network.specs.Edges.{boxed_at}
use Rattle.skein_network.specs.Colourings.{strands_in}
use Rattle.skein_network.proofs.BoxLists.{with_box, without_box, label_low, none_boxed, unboxed_without}
use Rattle.skein_network.proofs.LentTerms.{labelled_box}
use Rattle.skein_network.proofs.boxes.push_boxes.Goals as goal
use Rattle.skein_network.proofs.boxes.push_boxes.Goals.{then-has_box+in_ok-push_strands_box, else-has_box}

pub push_strands_box-requires-clause-low : goal.push_strands_box-requires-clause-low
push_strands_box-requires-clause-low c =
    let same = c.deref-label-items.ensures.value ∙ c.in_ok-distinct.ensures in
    let i = c.loop-label.label-index in
    let within = c.loop-label-test.true in
    let long = ap length same in
    subst (λ ls. get_or ls i 0 ≤ 2000000) (sym same) (label_low c.args.slots.now c.requires.low i (omega (arith, within, long)))

pub push_strands_box-requires-clause-some : goal.push_strands_box-requires-clause-some
push_strands_box-requires-clause-some c =
    let x = get_or c.deref-label-items.result.now c.loop-label.label-index 0 in
    c.requires.ready.some x
    (ap (λ es. boxed_at es x) (sym c.deref.ensures.value)
    ∙ (and_parts (boxed_at c.deref.result.now x) (not (is_member ◌==◌ (reverse c.args.seen.now) x)) (sym c.has_box.ensures ∙ c.if-has_box.true)).0)

pub loop-label-preserved : goal.loop-label-preserved
loop-label-preserved c =
    let labels = c.deref-label-items.result.now in
    let i = c.loop-label.label-index in
    let x = get_or labels i 0 in
    let seen = reverse c.args.seen.now in
    let strands = strands_in c.args.colouring.now in
    let within = c.loop-label-test.true in
    let told = ap (λ es. boxed_at es x && not (is_member ◌==◌ seen x)) (sym c.deref.ensures.value) ∙ sym c.has_box.ensures in
    let boxed = λ (t : (boxed_at c.args.colouring.now.edges.items x && not (is_member ◌==◌ seen x)) ≡ true). (and_parts (boxed_at c.args.colouring.now.edges.items x) (not (is_member ◌==◌ seen x)) t).0 in
    elim c.if-has_box.branch [
      | then-has_box+in_ok-push_strands_box w ↦
          with_box strands c.args.group seen labels i x within refl c.if-has_box.nodes.items c.loop-label.nodes.items _ (told ∙ w.if-has_box.true)
          (ap (λ v. v.items) w.nodes-is ∙ w.in_ok-push_strands_box.ensures
          ∙ ap (λ node. c.loop-label.nodes.items ++ node ∷ []) (labelled_box c.args.colouring.now.params.now c.args.colouring.now.edges.items c.args.group x (boxed (told ∙ w.if-has_box.true))))
          c.loop-label.invariant
      | else-has_box w ↦ without_box strands c.args.group seen labels i x within refl c.if-has_box.nodes.items c.loop-label.nodes.items _ (told ∙ w.if-has_box.false) (ap (λ v. v.items) w.nodes-is) c.loop-label.invariant
    ]

pub returns-then-is_empty : goal.returns-then-is_empty
returns-then-is_empty c =
    let old = c.args.nodes.now.items in
    let told = c.is_empty.ensures in
    let empty = c.if-is_empty.true in
    let none : length c.args.colouring.now.projectors.items ≡ 0 = grind (arith, nat_tests, told, empty) in
    sym (ap (λ ns. old ++ ns) (none_boxed (strands_in c.args.colouring.now) c.args.group (reverse c.args.seen.now) (distinct c.args.slots.now) (unboxed_without c.args.colouring.now c.requires.ready none)) ∙ append-nil old)
