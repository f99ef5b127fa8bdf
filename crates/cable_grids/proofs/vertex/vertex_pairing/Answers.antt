use Rattle.std.proofs.Common.{ℕ, [], ◌∷◌, ◌++◌, map, length, sym, ap, ◌∙◌, arith}
use Rattle.std.specs.List.{range_with_len}
use Rattle.std.proofs.lemmas.List.FromFn.{length-map-range_with_len, map-range_with_len_more}
use Rattle.cables.specs.CableNodes.{vertex_point}
use Rattle.cable_grids.proofs.OneTerm.{vertex_short}
use Rattle.cable_grids.proofs.vertex.vertex_pairing.Goals as goal

pub push-requires : goal.push-requires
push-requires c =
    let l = ap length c.loop-at.invariant ∙ length-map-range_with_len (vertex_point c.args.xy c.args.yz c.args.zx) 0 c.loop-at.at in
    (omega arith, omega (arith, l))

pub loop-at-preserved : goal.loop-at-preserved
loop-at-preserved c =
    let f : ℕ → ℕ = vertex_point c.args.xy c.args.yz c.args.zx in
    c.push.ensures.items
    ∙ ap (λ k. c.loop-at.partners.items ++ k ∷ []) c.vertex_point.ensures
    ∙ ap (λ xs. xs ++ f c.loop-at.at ∷ []) c.loop-at.invariant
    ∙ sym (map-range_with_len_more f 0 c.loop-at.at c.loop-at.at (omega arith))

pub unwrap-requires : goal.unwrap-requires
unwrap-requires c =
    let t = vertex_short c.args.xy c.args.yz c.args.zx c.as_slice.result.now c.requires.few (c.as_slice.ensures.value ∙ c.loop-at.invariant ∙ ap (λ k. map (vertex_point c.args.xy c.args.yz c.args.zx) (range_with_len 0 k)) (omega arith)) in
    c.new.ensures.succeeds t.0 t.1
