use Rattle.std.proofs.Common.{◌≡◌, ◌∙◌, ap, ◌++◌, ◌∷◌, [], ℤ, FitsSigned, to_z, of_z, rules}
use Rattle.std.specs.Int.{w64, w128}
use Rattle.std.proofs.lemmas.Int.{to_z-of_z}
use Rattle.planar_check.proofs.Others.{mapped_push}
use Rattle.planar_check.proofs.LinkingEntries.{fits_more, widened}
use Rattle.planar_check.proofs.linking.entries.Goals as goal
use Rattle.planar_check.specs.Tables.{entry_from}

pub loop-place-preserved : goal.loop-place-preserved
loop-place-preserved c =
    let z = c.entry_at.result in
    let in_range : FitsSigned w64 z = search rules in
    let from : c.from.result ≡ z = c.from.ensures ∙ to_z-of_z w64 z in_range in
    let pushed : to_z w128 (of_z w128 c.from.result) ≡ z = ap (λ v. to_z w128 (of_z w128 v)) from ∙ widened z in_range in
    let before = c.loop-place.entries.items in
    let after = c.in_ok-push.ensures.items ∙ ap (λ (v : ℤ). before ++ v ∷ []) pushed in
    record {
      are = mapped_push (entry_from c.args.framings.now c.args.sums.now) c.loop-place.place before _ c.loop-place.invariant.are (after ∙ ap (λ (v : ℤ). before ++ v ∷ []) c.entry_at.ensures);
      fit = fits_more before _ z c.loop-place.invariant.fit in_range after;
    }
