use Rattle.std.proofs.Common.{◌≡◌, ◌∙◌, ◌+◌, ◌||◌, ◌==◌, ℕ, Bool, false, cond, List, inr, sym, ap, refl}
use Rattle.std.proofs.lemmas.Bool.{ne_eqb}
use Rattle.pd_reader.specs.declared.item.Item.{Item}
use Rattle.diagram_moves.specs.Moves.{triangle_rewritten}
use Rattle.move_script.proofs.MadeMoves.{slid_is}
use Rattle.move_script.proofs.slide.slide_over.Goals as goal
use Rattle.move_script.proofs.slide.slide_over.Goals.{then-is_triangle+in_ok-all, else-is_triangle+in_ok-all-2}

all_apart : (c d f : ℕ) → (c ≡ d → ⊥) → (d ≡ f → ⊥) → (c ≡ f → ⊥) → (c == d || (d == f || c == f)) ≡ false
all_apart c d f cd df cf = rw (ne_eqb c d cd, ne_eqb d f df, ne_eqb c f cf) refl

pub returns : goal.returns
returns c =
    let items = c.args.items.now in
    let here = c.in_ok-here.here in let there = c.in_ok-there.there in let beyond = c.in_ok-beyond.beyond in let at = c.in-Some.at in
    let one = triangle_rewritten items c.args.first c.args.second c.args.third here there beyond (at.0 + 3) at.1.0 at.1.1 in
    let other = triangle_rewritten items c.args.first c.args.third c.args.second here beyond there (at.0 + 3) at.1.0 at.1.1 in
    inr
    (c.finished.ensures
    ∙ slid_is items c.if-is_triangle.all.items c.args.first c.args.second c.args.third here there beyond at c.in_ok-here.ensures.ok c.in_ok-there.ensures.ok c.in_ok-beyond.ensures.ok
    (all_apart c.args.first c.args.second c.args.third c.if-first-second.false c.if-second-third.false c.if-first-third.false) (sym c.triangle.ensures.found ∙ c.in-Some.is)
    (elim c.if-is_triangle.branch [
      | then-is_triangle+in_ok-all w ↦ rw w.all-is (w.in_ok-all.ensures ∙ sym (ap (λ (b : Bool). cond {A = List Item} b one other) (sym c.is_triangle.ensures ∙ w.if-is_triangle.true)))
      | else-is_triangle+in_ok-all-2 w ↦ rw w.all-is (w.in_ok-all-2.ensures ∙ sym (ap (λ (b : Bool). cond {A = List Item} b one other) (sym c.is_triangle.ensures ∙ w.if-is_triangle.false)))
    ]))
