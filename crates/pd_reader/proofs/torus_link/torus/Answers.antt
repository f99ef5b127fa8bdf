use Rattle.std.proofs.Common.{◌≡◌, ◌∙◌, ◌++◌, ◌-◌, ◌*◌, ◌∷◌, [], ap, sym, subst, arith, List, ℕ}
use Rattle.pd_reader.specs.declared.item.Item.{Item}
use Rattle.pd_reader.specs.declared.item.Item.TheVariants as items
use Rattle.pd_reader.specs.Diagrams.{IsDiagram}
use Rattle.pd_reader.specs.Torus.{torus_front, torus_items}
use Rattle.pd_reader.proofs.TorusLabels.{torus_is_diagram}
use Rattle.pd_reader.proofs.torus_link.torus.Goals as goal

pub invariant_of-result : goal.invariant_of-result
invariant_of-result c =
    let last : Item = items.X (2 * c.args.n ∷ 2 ∷ 1 ∷ (2 * c.args.n - 1) ∷ []) in
    let all : c.loop-i.i ≡ c.args.n = omega arith in
    let e : c.push-2.new.self.items ≡ torus_items c.args.n = c.in_ok-push-2.ensures.items ∙ ap (λ (xs : List Item). xs ++ last ∷ []) (c.loop-i.invariant ∙ ap (λ (i : ℕ). torus_front (i - 1)) all) in
    subst IsDiagram (sym e) (torus_is_diagram c.args.n c.requires.least c.requires.most)
