use Rattle.std.proofs.Common.{◌≡◌, ◌+◌, ℕ, suc, cond, Bool, Option, Some, None, option_map, [], drop, refl, sym, ap, ◌∙◌, arith}
use Rattle.std.proofs.lemmas.List.{drop_more}
use Rattle.tetra_reader.specs.Tetras.{first_unlisted}
use Rattle.tetra_reader.proofs.tetra.first_unlisted.Goals as goal

-- one place further on
moved : (i : ℕ) (o : Option ℕ) → option_map (λ k. i + k) (option_map suc o) ≡ option_map (λ k. (i + 1) + k) o
moved i None = refl
moved i (Some k) = ap (λ (n : ℕ). Some n) (omega arith)

pub loop-i-init : goal.loop-i-init
loop-i-init c = same (first_unlisted c.args.faces.now c.args.tetrahedra.now)
  where
    same : (o : Option ℕ) → o ≡ option_map (λ k. 0 + k) o
    same None = refl
    same (Some k) = ap (λ (n : ℕ). Some n) (omega arith)

pub returns-then-not-has_faces : goal.returns-then-not-has_faces
returns-then-not-has_faces c =
    let i = c.loop-i.i in
    let ts = c.args.tetrahedra.now in
    let here = c.if-not-has_faces.ensures {u = tt} in
    sym
    (c.loop-i.invariant
    ∙ ap (λ rest. option_map (λ k. i + k) (first_unlisted c.args.faces.now rest)) (drop_more ts i [] c.loop-i-test.true)
    ∙ ap (λ (b : Bool). option_map (λ k. i + k) (cond b (option_map suc (first_unlisted c.args.faces.now (drop (i + 1) ts))) (Some 1))) (sym here))

pub loop-i-preserved : goal.loop-i-preserved
loop-i-preserved c =
    let i = c.loop-i.i in
    let ts = c.args.tetrahedra.now in
    let here = c.if-not-has_faces.ensures {u = tt} in
    c.loop-i.invariant
    ∙ ap (λ rest. option_map (λ k. i + k) (first_unlisted c.args.faces.now rest)) (drop_more ts i [] c.loop-i-test.true)
    ∙ ap (λ (b : Bool). option_map (λ k. i + k) (cond b (option_map suc (first_unlisted c.args.faces.now (drop (i + 1) ts))) (Some 1))) (sym here)
    ∙ moved i (first_unlisted c.args.faces.now (drop (i + 1) ts))
