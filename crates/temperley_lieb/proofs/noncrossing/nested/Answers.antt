use Rattle.std.proofs.Common.{◌≡◌, ◌+◌, ◌∷◌, ◌++◌, map, take, take_all, length, subst, sym, ap, ◌∙◌, arith}
use Rattle.state_sums.specs.Networks.{IsPairing}
use Rattle.strand_algebra.specs.Noncrossing.{nested}
use Rattle.temperley_lieb.proofs.NestedLists.{nested_length}
use Rattle.temperley_lieb.proofs.noncrossing.nested.Goals as goal

pub unwrap-requires : goal.unwrap-requires
unwrap-requires c =
    let k = c.args.k in
    let a = c.args.inside.now in
    let b = c.args.behind.now in
    let between : c.len-between.result ≡ k + k = c.len-between.ensures.value ∙ c.requires.around in
    let whole : c.as_slice.result.now ≡ nested k a b = c.as_slice.ensures.value ∙ c.loop-point-2.invariant
    ∙ ap (λ z. (z + 1) ∷ (map (λ j. j + 1) a ++ (0 ∷ map (λ j. j + (z + 2)) (take c.loop-point-2.point-index b)))) between
    ∙ ap (λ ys. (k + k + 1) ∷ (map (λ j. j + 1) a ++ (0 ∷ map (λ j. j + (k + k + 2)) ys))) (take_all c.loop-point-2.point-index b (omega (arith, ap length c.partners-point-items-2.ensures.value))) in
    c.new.ensures.succeeds (let l = ap length whole ∙ nested_length k a b in omega (arith, l, c.requires.few)) (subst IsPairing (sym whole) c.requires.pairing)
