use Rattle.std.proofs.Common.{◌++◌, length, List, ℕ, ap, ap₂, sym, ◌∙◌, arith}
use Rattle.cable_grids.proofs.OneTerm.{vertex_ends}
use Rattle.cable_grids.proofs.vertex.push_vertex.Goals as goal

pub one_term_node-requires-clause-whole : goal.one_term_node-requires-clause-whole
one_term_node-requires-clause-whole c =
    let ends = c.args.ends.now in
    let add : List ℕ → List ℕ → List ℕ = λ more zs. zs ++ more in
    let y = c.deref-2.ensures.value in
    let z = c.deref-3.ensures.value in
    ap length c.vertex_pairing-pairing.ensures
    ∙ vertex_ends ends.x.items ends.y.items ends.z.items _ _ _ (let k = c.len-a.ensures in omega (arith, k)) (let k = c.len-b.ensures in omega (arith, k)) (let k = c.len-c.ensures in omega (arith, k)) c.requires.admissible
    ∙ ap length (sym (c.deref-4.ensures.value ∙ c.in_ok-extend_from_slice-2.ensures.items
    ∙ ap₂ add z (c.in_ok-extend_from_slice.ensures.items ∙ ap₂ add y (c.in_ok-names.ensures.items ∙ c.deref.ensures.value))))
