use Rattle.std.proofs.Common.{◌≡◌, ◌==◌, ◌⊎◌, ⊎_elim, ◌<◌, ◌≤◌, ℕ, Bool, true, false, List, length, slice_index, Result, Ok, Err, refl, sym, ap, subst, ◌∙◌, arith}
use Rattle.std.specs.Result.{MatchResult, is_ok}
use Rattle.std.specs.Set.{is_member}
use Rattle.std.specs.List.Sorted.{IsStrictlyIncreasing}
use Rattle.std.proofs.lemmas.List.Kept.{AllPairs-from_increasing}
use Rattle.std.proofs.lemmas.List.Sorted.{searched}
use Rattle.graph_parts.proofs.Ends.{is_member-get_or}
use Rattle.list_lemmas.proofs.Items.{member_at}
use Rattle.frontier_sweep.proofs.groups.is_left.Goals as goal

never : (xs : List ℕ) (x i : ℕ) → ((k : ℕ) → k < i → slice_index xs k < x) → ((k : ℕ) → i ≤ k → k < length xs → x < slice_index xs k) → (b : Bool) → is_member ◌==◌ xs x ≡ b → b ≡ false
never xs x i below above false e = refl
never xs x i below above true e =
    let at = member_at xs x e in
    let here = at.2 in
    absurd (⊎_elim (λ less. let l = below at.0 less in omega (arith, l, here)) (λ more. let l = above at.0 more at.1 in omega (arith, l, here)) (let split : (at.0 < i) ⊎ (i ≤ at.0) = grind arith in split))

told : (xs : List ℕ) (x : ℕ) (r : Result ℕ ℕ) → MatchResult r (λ i. (i < length xs) × (slice_index xs i ≡ x)) (λ i. (i ≤ length xs) × ((k : ℕ) → k < i → slice_index xs k < x) × ((k : ℕ) → i ≤ k → k < length xs → x < slice_index xs k)) →
    is_ok r ≡ is_member ◌==◌ xs x
told xs x (Ok i) found = sym (subst (λ x. is_member ◌==◌ xs x ≡ true) found.1 (is_member-get_or xs i found.0))
told xs x (Err i) none = sym (never xs x i none.1 none.2 (is_member ◌==◌ xs x) refl)

rising : (xs : List ℕ) → IsStrictlyIncreasing xs → (i j : ℕ) → i ≤ j → j < length xs → slice_index xs i ≤ slice_index xs j
rising xs up i j less within =
    ⊎_elim
    (λ (same : i ≡ j). let e = ap (slice_index xs) same in omega (arith, e))
    (λ (before : i < j). let l = AllPairs-from_increasing xs up i j 0 before within in omega (arith, l))
    (let split : (i ≡ j) ⊎ (i < j) = grind (arith, less) in split)

pub returns : goal.returns
returns c = c.is_ok.ensures.value ∙ told c.args.left.now c.args.place c.binary_search.result (searched c.args.left.now c.args.place c.binary_search.result c.binary_search.ensures.position (rising c.args.left.now c.requires))
