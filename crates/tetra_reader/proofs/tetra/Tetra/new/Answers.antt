use Rattle.std.proofs.Common.{◌≡◌, ◌∙◌, List, length, ap, arith}
use Rattle.tetra_reader.specs.Tetras.{tetrahedra_of}
use Rattle.tetra_reader.proofs.Tetrahedra.{few_tetrahedra}
use Rattle.tetra_reader.proofs.tetra.Tetra.new.Goals as goal

pub first_unlisted-requires : goal.first_unlisted-requires
first_unlisted-requires c =
    let given : length c.deref-4.result.now ≡ length (tetrahedra_of c.args.items.items) =
    ap (λ (ts : List (List _)). length ts) (c.deref-4.ensures.value ∙ c.in_ok-tetrahedra.ensures {u = tt} ∙ ap tetrahedra_of c.deref-2.ensures.value) in
    let few = few_tetrahedra c.args.items.items in
    let all : length c.deref.result.now ≡ length c.args.items.items = ap (λ xs. length xs) c.deref.ensures.value in
    omega (arith, given, few, all, c.len.ensures, c.if-len.false, c.deref.ensures.len)
