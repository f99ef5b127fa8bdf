-- A binary search among the terms of an element finds each noncrossing pairing, since the list has it and increases.
use Rattle.std.proofs.Common.{◌≡◌, ℕ, zero, suc, ◌+◌, ◌<◌, ◌≤◌, false, List, map, length, get_or, refl, sym, ap, ap₂, ◌∙◌, arith, subst, All, Less, Equal, Greater, Result, Ok, Err}
use Rattle.std.specs.Cmp.{IsTotalOrder}
use Rattle.std.specs.Cmp.Lexicographic.{slice_cmp, lists_total}
use Rattle.std.specs.Ordering.{nat_cmp, is_lt, is_eq, ordering_index, ordering_reverse}
use Rattle.std.specs.List.Sorted.{IsBinarySearchResult, IsNonDecreasingBy, IsSortedBy}
use Rattle.std.specs.Result.{IsOk}
use Rattle.std.proofs.lemmas.Cmp.{nat_cmp_total}
use Rattle.std.proofs.lemmas.List.{length-map, get_or-map}
use Rattle.std.proofs.lemmas.List.Sorted.{searchable_from_sorted}
use Rattle.std.proofs.lemmas.Map.Text.{is_eq-slice_cmp}
use Rattle.std.proofs.lemmas.Slice.Eq.{bytes_eq-Decides}
use Rattle.state_sums.specs.Networks.{Term}
use Rattle.strand_algebra.specs.Laws.{IsNoncrossingOn}
use Rattle.strand_algebra.specs.Noncrossing.{noncrossing}
use Rattle.strand_algebra.proofs.NoncrossingLists.{order_same, noncrossing_sorted}
use Rattle.strand_algebra.proofs.PairingLaws.{noncrossing_list}
use Rattle.temperley_lieb.proofs.AddedTerms.{increasing}

order : IsTotalOrder (slice_cmp nat_cmp)
order = lists_total nat_cmp_total

-- what compares equal is equal
same_order : (p q : List ℕ) → slice_cmp nat_cmp p q ≡ Equal → p ≡ q
same_order p q h = (bytes_eq-Decides p q).0 (sym (is_eq-slice_cmp p q) ∙ ap is_eq h)

not_after : (p q : List ℕ) → slice_cmp nat_cmp p q ≡ Less → is_lt (slice_cmp nat_cmp q p) ≡ false
not_after p q h = ap is_lt (order.antisymm q p ∙ ap ordering_reverse h)

less_not_equal : Less ≡ Equal → ⊥
less_not_equal h = cc

greater_not_equal : Greater ≡ Equal → ⊥
greater_not_equal h = cc

below_or_not : {R : Type 0} (j i : ℕ) → (j < i → R) → (i ≤ j → R) → R
below_or_not j zero below not_below = not_below (omega arith)
below_or_not zero (suc i) below not_below = below (omega arith)
below_or_not (suc j) (suc i) below not_below = below_or_not j i (λ l. below (omega (arith, l))) (λ l. not_below (omega (arith, l)))

module _ (n : ℕ) (x : List Term) (whole : map (λ term. term.partner) x ≡ noncrossing n) where
  partner_at : (k : ℕ) (d : Term) → k < length x → (get_or x k d).partner ≡ get_or (noncrossing n) k d.partner
  partner_at k d l = sym (get_or-map (λ term. term.partner) x k d d.partner l) ∙ ap (λ ps. get_or ps k d.partner) whole

  long : length x ≡ length (noncrossing n)
  long = sym (length-map x (λ term. term.partner)) ∙ ap length whole

  -- each term has a noncrossing pairing
  pub terms_noncrossing : All (λ term. IsNoncrossingOn n term.partner) x
  terms_noncrossing k d l =
      let s = long in
      subst (IsNoncrossingOn n) (sym (partner_at k d l)) ((noncrossing_list n).only k d.partner (omega (arith, s, l)))

  sorted : IsSortedBy (λ a b. is_lt (slice_cmp nat_cmp a.partner b.partner)) x
  sorted k d l m =
      let s = long in
      not_after (get_or x k d).partner (get_or x (k + 1) d).partner
      (ap₂ (slice_cmp nat_cmp) (partner_at k d (omega arith)) (partner_at (k + 1) d m)
      ∙ increasing (noncrossing n) k (k + 1) d.partner (noncrossing_sorted n) (omega arith) (omega (arith, s, m)))

  searchable : (p : List ℕ) → IsNonDecreasingBy (λ term. ordering_index (slice_cmp nat_cmp term.partner p)) x
  searchable p = searchable_from_sorted order (λ term. term.partner) x p sorted

  -- THE SEARCH FINDS IT
  pub search_finds : (p : List ℕ) (r : Result ℕ ℕ) → IsNoncrossingOn n p → IsBinarySearchResult (λ term. slice_cmp nat_cmp term.partner p) x r → IsOk r
  search_finds p (Ok i) h found = refl
  search_finds p (Err i) h found =
      let split = found (searchable p) in
      let there = (noncrossing_list n).each p h in
      let j = there.0 in
      let s = long in
      let b = there.1 in
      let none : Term = record { weight = 0; partner = p } in
      let equal : slice_cmp nat_cmp (get_or x j none).partner p ≡ Equal =
      ap (λ q. slice_cmp nat_cmp q p) (partner_at j none (omega (arith, s, b)) ∙ there.2) ∙ order_same p in
      absurd (below_or_not j i
      (λ l. less_not_equal (sym (split.0 j none (omega arith) l) ∙ equal))
      (λ l. greater_not_equal (sym (split.1 j none l (omega (arith, s, b))) ∙ equal)))

  pub found_partner : (p : List ℕ) (r : Result ℕ ℕ) (i : ℕ) → r ≡ Ok i → IsBinarySearchResult (λ term. slice_cmp nat_cmp term.partner p) x r → (d : Term) → p ≡ (get_or x i d).partner
  found_partner p r i e found d =
      let P : Result ℕ ℕ → Type 0 = λ answer. IsBinarySearchResult (λ term. slice_cmp nat_cmp term.partner p) x answer in
      sym (same_order (get_or x i d).partner p (subst P e found d))
