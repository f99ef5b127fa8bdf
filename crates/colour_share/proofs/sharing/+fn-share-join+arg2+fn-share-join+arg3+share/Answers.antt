use Rattle.std.proofs.Common.{◌≡◌, ℕ, ◌+◌, ◌-◌, ◌/◌, ap, sym, subst, ◌∙◌, arith}
use Rattle.colour_share.specs.Merging.{Fits, IsMerged}
use Rattle.colour_share.proofs.Halves.{halves, fits}
use Rattle.colour_share.proofs.sharing.+fn-share-join+arg2+fn-share-join+arg3+share.Goals as goal

pub merge-requires : goal.merge-requires
merge-requires g t c =
    let p = c.args.table.now.params in
    let low = p.meets.modulus.0 in
    let m : c.ring.result.now ≡ p.modulus = c.ring.ensures ∙ ap (λ q. q.modulus) c.params.ensures in
    let left = c.join-left.result.0 in
    let right = c.join-left.result.1 in
    subst (λ (k : ℕ). Fits k left right) (sym m)
    (fits (g.C.Choose.answers c.args.chooser.now) c.args.table.now c.args.framed.now c.args.workers c.args.from (c.args.from + (c.args.to - c.args.from) / 2) c.args.to c.args.total
    (omega (arith, low)) (omega arith) (omega arith) left right c.requires.few c.join-left.ensures.first c.join-left.ensures.second)

pub returns : goal.returns
returns g t c =
    let p = c.args.table.now.params in
    let low = p.meets.modulus.0 in
    let m : c.ring.result.now ≡ p.modulus = c.ring.ensures ∙ ap (λ q. q.modulus) c.params.ensures in
    let left = c.join-left.result.0 in
    let right = c.join-left.result.1 in
    halves (g.C.Choose.answers c.args.chooser.now) c.args.table.now c.args.framed.now c.args.workers c.args.from (c.args.from + (c.args.to - c.args.from) / 2) c.args.to c.args.total
    (omega (arith, low)) (omega arith) (omega arith) left right c.merge.result c.join-left.ensures.first c.join-left.ensures.second
    (subst (λ (k : ℕ). IsMerged k left right c.merge.result) m c.merge.ensures)
