use Rattle.std.proofs.Common.{ℕ, ◌≡◌, ◌≤◌, ◌++◌, List, sym, ap₂, subst, ◌∙◌}
use Rattle.std.specs.List.Sorted.{IsStrictlyIncreasing}
use Rattle.list_lemmas.specs.Times.{times_in}
use Rattle.arc_gluing.specs.Pairings.{AreOpen}
use Rattle.arc_pairing.specs.Gluing.{open_name_count}
use Rattle.strand_algebra.specs.GluedProducts.{below_names, above_names, left_names}
use Rattle.strand_algebra.proofs.StrandSeams.{strand_seam}
use Rattle.temperley_lieb.proofs.Seams.{few_strands_left, not_wide, seam_is}
use Rattle.temperley_lieb.proofs.stacking.Stack.new.Goals as goal

all_is : (n : ℕ) (names ends : List ℕ) → names ≡ below_names n → ends ≡ above_names n → names ++ ends ≡ below_names n ++ above_names n
all_is n names ends a b = ap₂ (λ xs ys. xs ++ ys) a b

pub of-requires-clause-increasing : goal.of-requires-clause-increasing
of-requires-clause-increasing c =
    let P : List ℕ → Type 0 = λ xs. IsStrictlyIncreasing xs in
    subst P (sym (c.as_slice.ensures.value ∙ c.below_names.ensures)) (strand_seam c.args.strands).increasing

pub of-requires-clause-few : goal.of-requires-clause-few
of-requires-clause-few c =
    let n = c.args.strands in
    let P : List ℕ → Type 0 = λ xs. (x : ℕ) → times_in xs x ≤ 2 in
    subst P (sym (all_is n c.as_slice.result.now c.as_slice-2.result.now (c.as_slice.ensures.value ∙ c.below_names.ensures) (c.as_slice-2.ensures.value ∙ c.above_names.ensures))) (strand_seam n).few

pub unwrap-seam-requires : goal.unwrap-seam-requires
unwrap-seam-requires c =
    let n = c.args.strands in
    not_wide (open_name_count (c.as_slice.result.now ++ c.as_slice-2.result.now)) c.of.result c.of.ensures.wide
    (let P : List ℕ → Type 0 = λ xs. open_name_count xs ≤ 24 in
    subst P (sym (all_is n c.as_slice.result.now c.as_slice-2.result.now (c.as_slice.ensures.value ∙ c.below_names.ensures) (c.as_slice-2.ensures.value ∙ c.above_names.ensures))) (few_strands_left n c.requires))

pub invariant_of-result : goal.invariant_of-result
invariant_of-result c =
    let n = c.args.strands in
    let names = c.as_slice.ensures.value ∙ c.below_names.ensures in
    let ends = c.as_slice-2.ensures.value ∙ c.above_names.ensures in
    record {
      few = c.requires;
      joins =
          seam_is c.as_slice.result.now c.as_slice-2.result.now (left_names n) c.of.result c.unwrap-seam.result c.unwrap-seam.ensures c.of.ensures.made c.of.ensures.left c.of.ensures.ascending
          (λ found are_open up.
          let P : List ℕ → Type 0 = λ xs. AreOpen xs found in
          (strand_seam n).left found (subst P (all_is n c.as_slice.result.now c.as_slice-2.result.now names ends) are_open) up)
          ∙ ap₂ (λ xs ys. record { inner = xs; ends = ys; outer = left_names n }) names ends;
    }
