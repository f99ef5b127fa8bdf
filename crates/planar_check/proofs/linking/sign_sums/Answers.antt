use Rattle.std.proofs.Common.{ℤ, [], ◌∷◌, ◌++◌, List, ap, subst, sym, ◌∙◌, take, get_or, arith}
use Rattle.std.proofs.lemmas.List.{take_more, with_items_is}
use Rattle.planar_check.specs.declared.sign.Sign.TheVariants.{Plus}
use Rattle.planar_check.specs.declared.sign.Signed.{Signed}
use Rattle.planar_check.proofs.SignSums.{itself_skipped}
use Rattle.planar_check.proofs.linking.sign_sums.Goals as goal
use Rattle.planar_check.proofs.linking.sign_sums.Goals.{then-crossing, else-crossing}
use Rattle.planar_check.specs.Tables.{AreSignSums}

pub loop-crossing-preserved : goal.loop-crossing-preserved
loop-crossing-preserved c =
    let n = c.args.size in
    let i = c.loop-crossing.crossing-index in
    let list = c.args.crossings.now in
    let x : Signed = get_or list i record { under = 0; over = 0; sign = Plus } in
    let before = c.loop-crossing.invariant in
    let P : List Signed → Type 0 = λ xs. AreSignSums n xs c.if-crossing.sums.items in
    let Q : List ℤ → Type 0 = λ sums. AreSignSums n (take i list ++ x ∷ []) sums in
    let R : List ℤ → Type 0 = λ sums. AreSignSums n (take i list) sums in
    let more = take_more list i record { under = 0; over = 0; sign = Plus } c.loop-crossing-test.true in
    subst P (sym more) (elim c.if-crossing.branch [
      | then-crossing w ↦ (
          let after = w.add_sign.ensures (take i list) (subst R (sym w.deref_mut.ensures.value) before) in
          let same = ap (λ v. v.items) w.sums-is ∙ with_items_is c.loop-crossing.sums w.add_sign.new.sums (omega (arith, after.full, before.full, c.loop-crossing.sums.ok.0)) in
          subst Q (sym same) after)
      | else-crossing w ↦ subst Q (sym (ap (λ v. v.items) w.sums-is)) (itself_skipped n x c.loop-crossing.sums.items (take i list) w.if-crossing.false before)
    ])
