use Rattle.std.proofs.Common.{List, ℕ, get_or, Ordering, ◌≡◌, sym, ap, subst, rules}
use Rattle.std.specs.Cmp.Lexicographic.{slice_cmp}
use Rattle.std.specs.Ordering.{nat_cmp}
use Rattle.std.specs.List.Sorted.{IsBinarySearchResult}
use Rattle.std.proofs.lemmas.Fn.{always_returns_same}
use Rattle.strand_algebra.specs.Laws.{IsNoncrossingOn}
use Rattle.state_sums.specs.Networks.{Term}
use Rattle.temperley_lieb.proofs.PairingPlaces.{search_finds, found_partner}
use Rattle.temperley_lieb.proofs.collecting.place_of.Goals as goal

pub unwrap-requires : goal.unwrap-requires
unwrap-requires c =
    let p = c.args.pairing.now in
    let by : Term → Ordering = λ term. slice_cmp nat_cmp term.partner p in
    let found = c.binary_search_by.ensures.position by (always_returns_same _ _ _ (λ a r f called. search rules)) in
    let P : List Term → Type 0 = λ x. IsBinarySearchResult by x c.binary_search_by.result in
    search_finds c.element.inside.strands c.element.inside.terms.items c.element.invariant.partners p c.binary_search_by.result
    (subst (λ (n : ℕ). IsNoncrossingOn n p) (ap (λ e. e.strands) (sym c.element.view_is)) c.requires)
    (subst P c.deref.ensures.value found)

pub returns-clause-there : goal.returns-clause-there
returns-clause-there c =
    let p = c.args.pairing.now in
    let by : Term → Ordering = λ term. slice_cmp nat_cmp term.partner p in
    let found = c.binary_search_by.ensures.position by (always_returns_same _ _ _ (λ a r f called. search rules)) in
    let P : List Term → Type 0 = λ x. IsBinarySearchResult by x c.binary_search_by.result in
    let Q : List Term → Type 0 = λ x. (d : Term) → p ≡ (get_or x c.unwrap.result d).partner in
    subst Q (ap (λ e. e.terms) c.element.view_is)
    (found_partner c.element.inside.strands c.element.inside.terms.items c.element.invariant.partners p c.binary_search_by.result c.unwrap.result c.unwrap.ensures
    (subst P c.deref.ensures.value found))
