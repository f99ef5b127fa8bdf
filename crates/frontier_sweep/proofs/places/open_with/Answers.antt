use Rattle.std.proofs.Common.{◌≡◌, ◌<◌, ◌+◌, ◌++◌, ◌∷◌, [], List, ℕ, length, take, take_all, slice_index, sym, ap, subst, ◌∙◌, append_assoc, append-nil, arith}
use Rattle.std.proofs.lemmas.List.{length-append, length-take-le, take_more}
use Rattle.arrayvec.specs.ArrayVec.{ArrayVec}
use Rattle.arc_gluing.specs.Pairings.{AreOpen}
use Rattle.frontier_sweep.proofs.KeptPlaces.{IsPlaced, placed_as, placed_none, placed_stays, placed_glued, placed_moved, placed_all}
use Rattle.frontier_sweep.proofs.places.open_with.Goals.{then-count_of-eq0, else-count_of-eq0+then-len-gt0, else-count_of-eq0+else-len-gt0}
use Rattle.frontier_sweep.proofs.places.open_with.Goals as goal

items : ArrayVec ℕ → List ℕ
items list = list.items

pub loop-name-init : goal.loop-name-init
loop-name-init c =
    placed_as c.args.names.now c.ends-ends.result.now 0 [] c.new_names-fresh.result.items c.new-open.result.items c.new_names-fresh.result.items c.new-open.ensures (λ i. c.new_names-fresh.result.items)
    (placed_none c.args.names.now c.ends-ends.result.now c.new_names-fresh.result.items c.new_names-fresh.ensures
    (let n = c.ends-ends.ensures.node.few_ends in let e = ap (λ (xs : List ℕ). length xs) c.ends-ends.ensures.value in omega (arith, n, e)))

pub loop-name-preserved : goal.loop-name-preserved
unfolding items
loop-name-preserved c =
    let names = c.args.names.now in
    let ends = c.ends-ends.result.now in
    let done = c.loop-name.name-index in
    let listed = c.loop-name.open.items in
    let fresh = c.loop-name.fresh.items in
    let h = c.loop-name.invariant in
    let within = c.loop-name-test.true in
    let some = c.count_of.ensures in
    elim c.if-count_of-eq0.branch [
      | then-count_of-eq0 w ↦
          placed_as names ends (done + 1) (listed ++ slice_index names done ∷ []) fresh c.if-count_of-eq0.open.items c.if-count_of-eq0.fresh.items
          (ap items w.open-is ∙ w.push.ensures.items) (ap items w.fresh-is)
          (placed_stays names ends done listed fresh h within (sym c.count_of.ensures ∙ w.if-count_of-eq0.true))
      | else-count_of-eq0+then-len-gt0 w ↦
          placed_as names ends (done + 1) _ _ c.if-count_of-eq0.open.items c.if-count_of-eq0.fresh.items
          (ap items w.open-is ∙ w.push-then-len-gt0.ensures.items) (ap items w.fresh-is ∙ w.remove.ensures.items)
          (placed_moved names ends (done + 1) listed fresh (placed_glued names ends done listed fresh h within (let n = w.if-count_of-eq0.false in omega (arith, some, n))) w.heir-place.result w.remove.result
          (subst (λ (xs : List ℕ). w.heir-place.result < length xs) w.as_slice.ensures.value w.heir-place.ensures) w.remove.ensures.value)
      | else-count_of-eq0+else-len-gt0 w ↦
          placed_as names ends (done + 1) listed fresh c.if-count_of-eq0.open.items c.if-count_of-eq0.fresh.items (ap items w.open-is) (ap items w.fresh-is)
          (placed_glued names ends done listed fresh h within (let n = w.if-count_of-eq0.false in omega (arith, some, n)))
    ]

pub loop-end-init : goal.loop-end-init
loop-end-init c = sym (append-nil c.loop-name.open.items)

pub push-requires-in-loop-end : goal.push-requires-in-loop-end
push-requires-in-loop-end c =
    let e = ap (λ (xs : List ℕ). length xs) c.loop-end.invariant in
    let a = length-append c.loop-name.open.items (take c.loop-end.end-index c.as_slice-end-items.result.now) in
    let within = c.loop-end-test.true in
    let t = length-take-le c.loop-end.end-index c.as_slice-end-items.result.now (omega (arith, within)) in
    let f = ap (λ (xs : List ℕ). length xs) c.as_slice-end-items.ensures.value in
    let r = c.loop-name.invariant.room in
    let n = c.requires.few in
    let k = c.loop-name.auto.name-index-end in
    (omega arith, omega (arith, e, a, within, t, f, r, n, k))

pub loop-end-preserved : goal.loop-end-preserved
loop-end-preserved c =
    let rest = c.as_slice-end-items.result.now in
    c.push-in-loop-end.ensures.items
    ∙ ap (λ (xs : List ℕ). xs ++ slice_index rest c.loop-end.end-index ∷ []) c.loop-end.invariant
    ∙ append_assoc c.loop-name.open.items (take c.loop-end.end-index rest) (slice_index rest c.loop-end.end-index ∷ [])
    ∙ ap (λ (xs : List ℕ). c.loop-name.open.items ++ xs) (sym (take_more rest c.loop-end.end-index 0 c.loop-end-test.true))

pub returns : goal.returns
returns c =
    let names = c.args.names.now in
    let ends = c.ends-ends.result.now in
    let all : c.loop-end.open.items ≡ c.loop-name.open.items ++ c.loop-name.fresh.items =
    c.loop-end.invariant
    ∙ ap (λ (xs : List ℕ). c.loop-name.open.items ++ xs) (take_all c.loop-end.end-index c.as_slice-end-items.result.now c.loop-end-test.false ∙ c.as_slice-end-items.ensures.value) in
    let done : c.loop-name.name-index ≡ length names = (let a = c.loop-name.auto.name-index-end in let b = c.loop-name-test.false in omega (arith, a, b)) in
    subst (AreOpen (names ++ c.args.node.now.ends)) (sym all)
    (subst (λ (ends : List ℕ). AreOpen (names ++ ends) (c.loop-name.open.items ++ c.loop-name.fresh.items)) c.ends-ends.ensures.value
    (placed_all names ends c.loop-name.open.items c.loop-name.fresh.items c.requires.single
    (subst (λ done. IsPlaced names ends done c.loop-name.open.items c.loop-name.fresh.items) done c.loop-name.invariant)))
