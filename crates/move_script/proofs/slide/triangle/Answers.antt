use Rattle.std.proofs.Common.{◌≡◌, ◌∙◌, ◌||◌, Bool, false, sym, ap, arith}
use Rattle.std.specs.List.{find}
use Rattle.std.proofs.lemmas.Bool.{or_left, or_right}
use Rattle.std.proofs.lemmas.List.{drop_all}
use Rattle.diagram_moves.specs.Moves.{is_triangle, slot_triples}
use Rattle.move_script.proofs.Loops.{either_triangle, find_here, find_more, triple_at, triples_from}
use Rattle.move_script.proofs.slide.triangle.Goals as goal
use Rattle.move_script.proofs.slide.triangle.Goals.{then-is_triangle-via-then-is_triangle, then-is_triangle-via-else-is_triangle+then-is_triangle-2}

neither : (a b : Bool) → a ≡ false → b ≡ false → (a || b) ≡ false
neither a b h k = rw (h, k) (let e : (false || false) ≡ false = cc in e)

pub returns-then-is_triangle-clause-found : goal.returns-then-is_triangle-clause-found
returns-then-is_triangle-clause-found c =
    let here = c.args.first.now in let there = c.args.second.now in let beyond = c.args.third.now in
    let at = triple_at c.loop-k.k in
    find_here (either_triangle here there beyond) slot_triples c.loop-k.k at _ c.loop-k.invariant (triples_from c.loop-k.k c.loop-k-test.true)
    (elim c.then-is_triangle.branch [
      | then-is_triangle-via-then-is_triangle w ↦ or_left (is_triangle here there beyond at) (is_triangle here beyond there at) (sym c.is_triangle.ensures ∙ w.if-is_triangle.true)
      | then-is_triangle-via-else-is_triangle+then-is_triangle-2 w ↦ or_right (is_triangle here there beyond at) (is_triangle here beyond there at) (sym w.is_triangle-else-is_triangle.ensures ∙ w.if-is_triangle-2.true)
    ])

pub loop-k-preserved : goal.loop-k-preserved
loop-k-preserved c =
    let here = c.args.first.now in let there = c.args.second.now in let beyond = c.args.third.now in
    let at = triple_at c.loop-k.k in
    find_more (either_triangle here there beyond) slot_triples c.loop-k.k at _ c.loop-k.invariant (triples_from c.loop-k.k c.loop-k-test.true)
    (neither (is_triangle here there beyond at) (is_triangle here beyond there at) (sym c.is_triangle.ensures ∙ c.if-is_triangle.false) (sym c.is_triangle-else-is_triangle.ensures ∙ c.if-is_triangle-2.false))

pub returns-clause-found : goal.returns-clause-found
returns-clause-found c =
    sym (ap (find (either_triangle c.args.first.now c.args.second.now c.args.third.now)) (drop_all c.loop-k.k slot_triples (omega (arith, c.loop-k-test.false)))) ∙ c.loop-k.invariant
