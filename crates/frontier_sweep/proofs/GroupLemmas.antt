-- The index of groups, and the first nodes left of some: what a search in the index finds is the first of its kind, since the numbers
-- increase.
use Rattle.std.proofs.Common.{◌≡◌, ◌≢◌, ◌⊎◌, ⊎_elim, ℕ, ◌+◌, ◌*◌, ◌%◌, ◌<◌, ◌≤◌, ◌==◌, true, false, List, [], ◌∷◌, ◌++◌, length, slice_index, take, take_all, sym, refl, ap, subst, ◌∙◌, arith}
use Rattle.std.specs.List.{All}
use Rattle.std.specs.List.Sorted.{IsNonDecreasing, IsPermutation}
use Rattle.std.specs.Set.{is_member}
use Rattle.std.proofs.lemmas.Bool.{or_left, or_right, eq-eqb}
use Rattle.std.proofs.lemmas.List.Kept.{AllPairs-from_increasing}
use Rattle.std.proofs.lemmas.List.Elements.{All-push, All-get_or}
use Rattle.std.proofs.lemmas.List.Sorted.{All-permutation, list_any-IsPermutation}
use Rattle.graph_parts.proofs.Distinct.{is_member-append}
use Rattle.state_sums.specs.Networks.{Node}
use Rattle.list_lemmas.proofs.Items.{member_at}
use Rattle.frontier_laws.specs.Orders.{View, given_of, node_at, rank_in}
use Rattle.frontier_laws.proofs.FirstLeast.{first_least-told}
use Rattle.frontier_laws.proofs.Ranks.{rank-behind, rank-only, rank-outside, rank-there}
use Rattle.frontier_laws.specs.Views.{IsView}
use Rattle.frontier_sweep.specs.Groups.{IsGroupIndex, IsFirstLeft, IsFirstOf, IsFirstOfAll, group_at}
use Rattle.frontier_sweep.specs.Rises.{place_key}

-- The first so many nodes have their numbers there, and each number is a node's.
pub record HasGroups (nodes : List Node) (done : ℕ) (index : List ℕ) : Type 0 where
  pub has : (place : ℕ) → place < done → is_member ◌==◌ index (place_key (node_at nodes place).group place) ≡ true
  pub only : All (λ key. key ≡ place_key (node_at nodes (key % 65536)).group (key % 65536)) index

key_place : (group place : ℕ) → place < 65536 → place_key group place % 65536 ≡ place
key_place group place small = omega (arith, small)

key_there : (nodes : List Node) (place : ℕ) → place < 65536 → place_key (node_at nodes place).group place ≡ place_key (node_at nodes (place_key (node_at nodes place).group place % 65536)).group (place_key (node_at nodes place).group place % 65536)
key_there nodes place small = ap (λ at. place_key (node_at nodes at).group at) (sym (key_place (node_at nodes place).group place small))

-- ONE NODE MORE
pub groups_more : (nodes : List Node) (done : ℕ) (index : List ℕ) → HasGroups nodes done index → done < 65536 → (key : ℕ) → key ≡ place_key (node_at nodes done).group done → (next : List ℕ) → next ≡ index ++ key ∷ [] → HasGroups nodes (done + 1) next
groups_more nodes done index h small key key_is next next_is = record {
  has = λ place less.
      let own = place_key (node_at nodes place).group place in
      ap (λ keys. is_member ◌==◌ keys own) next_is
      ∙ is_member-append index (key ∷ []) own
      ∙ ⊎_elim
      (λ (before : place < done). or_left (is_member ◌==◌ index own) (is_member ◌==◌ (key ∷ []) own) (h.has place before))
      (λ (last : place ≡ done).
      let same : own ≡ key = ap (λ place. place_key (node_at nodes place).group place) last ∙ sym key_is in
      or_right (is_member ◌==◌ index own) (is_member ◌==◌ (key ∷ []) own) (or_left (own == key) false (eq-eqb own key same)))
      (let split : (place < done) ⊎ (place ≡ done) = grind (arith, less) in split);
  only = subst (All (λ key. key ≡ place_key (node_at nodes (key % 65536)).group (key % 65536))) (sym next_is)
      (All-push (λ key. key ≡ place_key (node_at nodes (key % 65536)).group (key % 65536)) index key h.only
      (subst (λ key. key ≡ place_key (node_at nodes (key % 65536)).group (key % 65536)) (sym key_is) (key_there nodes done small)));
}

-- SORTED, THEY ARE THE INDEX
pub groups_sorted : (nodes : List Node) (done : ℕ) (keys sorted : List ℕ) → HasGroups nodes done keys → length nodes ≤ done → length nodes ≤ 65536 → IsPermutation keys sorted → IsNonDecreasing sorted → IsGroupIndex nodes sorted
groups_sorted nodes done keys sorted h all few permuted increasing = record {
  few = few;
  increasing = increasing;
  has = λ place small. sym (list_any-IsPermutation (λ other. place_key (node_at nodes place).group place == other) keys sorted permuted) ∙ h.has place (omega (arith, small, all));
  only = All-permutation (λ key. key ≡ place_key (node_at nodes (key % 65536)).group (key % 65536)) keys sorted permuted h.only;
}

-- ---- what a search finds
false_not_true : false ≡ true → ⊥
false_not_true e = grind (arith, e)

module _ (view : View) (is_view : IsView view) (index : List ℕ) (is : IsGroupIndex view.network.nodes index) where
  -- A place left is below 65,536, and stands in the index.
  place_small : (place : ℕ) → is_member ◌==◌ view.left place ≡ true → place < length view.network.nodes
  place_small place left =
      let at = member_at view.left place left in
      subst (λ place. place < length view.network.nodes) at.2 (All-get_or (λ place. place < length view.network.nodes) view.left at.0 0 at.1 is_view.below)

  pub record StandsAt (place : ℕ) : Type 0 where
    pub at : ℕ
    pub within : at < length index
    pub key : slice_index index at ≡ group_at view place * 65536 + place
    pub small : place < 65536

  stands_at : (place : ℕ) → is_member ◌==◌ view.left place ≡ true → StandsAt place
  stands_at place left =
      let small = place_small place left in
      let few = is.few in
      let found = member_at index (place_key (group_at view place) place) (is.has place small) in
      record { at = found.0; within = found.1; key = found.2; small = omega (arith, small, few) }

  -- What was found, as a number of the index.
  found_key : (low high place : ℕ) → high ≤ length index → (first : IsFirstLeft view.left index low high place) → slice_index index first.at ≡ group_at view place * 65536 + place
  found_key low high place within first =
      let key = All-get_or (λ key. key ≡ place_key (node_at view.network.nodes (key % 65536)).group (key % 65536)) index first.at 0 (let to = first.to in omega (arith, to, within)) is.only in
      key ∙ ap (λ place. place_key (group_at view place) place) (sym first.place_is)

  -- It stands no further than any other place left that stands in the same range.
  not_further : (low high place : ℕ) → high ≤ length index → (first : IsFirstLeft view.left index low high place) → (other : ℕ) → is_member ◌==◌ view.left other ≡ true → (stands : StandsAt other) → low ≤ stands.at →
      slice_index index first.at ≤ slice_index index stands.at
  not_further low high place within first other left stands from =
      is.increasing first.at stands.at 0
      (not_less stands.at first.at (λ less.
      let key = stands.key in
      let small = stands.small in
      let rest : slice_index index stands.at % 65536 ≡ other = omega (arith, key, small) in
      false_not_true (sym (first.before stands.at from less) ∙ ap (is_member ◌==◌ view.left) rest ∙ left)))
      stands.within
    where
      not_less : (k at : ℕ) → (k < at → ⊥) → at ≤ k
      not_less k at less = grind (arith, less)

  -- THE FIRST OF A GROUP
  module _ (group low high : ℕ) (within : high ≤ length index) (low_before : (k : ℕ) → k < low → slice_index index k < group * 65536) (low_behind : (k : ℕ) → low ≤ k → k < length index → group * 65536 ≤ slice_index index k)
      (high_before : (k : ℕ) → k < high → slice_index index k < group * 65536 + 65536) (high_behind : (k : ℕ) → high ≤ k → k < length index → group * 65536 + 65536 ≤ slice_index index k) where
    -- A place left of the group stands in the range.
    in_range : (other : ℕ) → (stands : StandsAt other) → group_at view other ≡ group → (low ≤ stands.at) × (stands.at < high)
    in_range other stands of_group =
        let key = stands.key in
        let small = stands.small in
        let before = low_before stands.at in
        let behind = λ (more : high ≤ stands.at). high_behind stands.at more stands.within in (
          not_less stands.at low (λ less. let b = before less in omega (arith, b, key, of_group)),
          not_more stands.at high (λ more. let b = behind more in omega (arith, b, key, of_group, small)),
        )
      where
        not_less : (k at : ℕ) → (k < at → ⊥) → at ≤ k
        not_less k at less = grind (arith, less)

        not_more : (k at : ℕ) → (at ≤ k → ⊥) → k < at
        not_more k at more = grind (arith, more)

    pub first_of : (place : ℕ) → IsFirstLeft view.left index low high place → IsFirstOf view group place
    first_of place first =
        let key = found_key low high place within first in
        let at_most = high_before first.at first.to in
        let at_least = low_behind first.at first.from (let to = first.to in omega (arith, to, within)) in
        let small = (stands_at place first.left_is).small in
        let same : group_at view place ≡ group = omega (arith, key, at_most, at_least, small) in
        record {
          left_is = first.left_is;
          group_is = same;
          first = λ other left of_group.
              let stands = stands_at other left in
              let range = in_range other stands of_group in
              let no = not_further low high place within first other left stands range.0 in
              let other_key = stands.key in
              omega (arith, no, key, other_key, same, of_group);
        }

    pub none_of : ((k : ℕ) → low ≤ k → k < high → is_member ◌==◌ view.left (slice_index index k % 65536) ≡ false) → (other : ℕ) → is_member ◌==◌ view.left other ≡ true → group_at view other ≢ group
    none_of none other left of_group =
        let stands = stands_at other left in
        let range = in_range other stands of_group in
        let key = stands.key in
        let small = stands.small in
        let rest : slice_index index stands.at % 65536 ≡ other = omega (arith, key, small) in
        false_not_true (sym (none stands.at range.0 range.1) ∙ ap (is_member ◌==◌ view.left) rest ∙ left)

  -- THE FIRST OF ALL
  pub first_of_whole : (place : ℕ) → IsFirstLeft view.left index 0 (length index) place → IsFirstOfAll view place
  first_of_whole place first =
      let key = found_key 0 (length index) place (omega arith) first in
      let small = (stands_at place first.left_is).small in
      record {
        left_is = first.left_is;
        least = λ other left.
            let stands = stands_at other left in
            let no = not_further 0 (length index) place (omega arith) first other left stands (omega arith) in
            let other_key = stands.key in
            let other_small = stands.small in
            omega (arith, no, key, other_key, other_small);
        first = λ other left same.
            let stands = stands_at other left in
            let no = not_further 0 (length index) place (omega arith) first other left stands (omega arith) in
            let other_key = stands.key in
            omega (arith, no, key, other_key, same);
      }

  -- Where none is found, none is left.
  pub none_left : ((k : ℕ) → 0 ≤ k → k < length index → is_member ◌==◌ view.left (slice_index index k % 65536) ≡ false) → view.left ≢ [] → ⊥
  none_left none some = at view.left refl
    where
      at : (left : List ℕ) → view.left ≡ left → ⊥
      at [] e = some e
      at (place ∷ places) e =
          let left : is_member ◌==◌ view.left place ≡ true = ap (λ left. is_member ◌==◌ left place) e ∙ or_left (place == place) (is_member ◌==◌ places place) (eq-eqb place place refl) in
          let stands = stands_at place left in
          let key = stands.key in
          let small = stands.small in
          let rest : slice_index index stands.at % 65536 ≡ place = omega (arith, key, small) in
          false_not_true (sym (none stands.at (omega arith) stands.within) ∙ ap (is_member ◌==◌ view.left) rest ∙ left)

-- ---- the order that a list gives
-- None of the nodes left has one of the first so many groups.
abbrev pub NoneOf : View → List ℕ → ℕ → Type 0
NoneOf view order done = (place : ℕ) → is_member ◌==◌ view.left place ≡ true → is_member ◌==◌ (take done order) (group_at view place) ≡ false

-- THE FIRST OF THE FIRST GROUP THAT HAS A NODE LEFT is what the order names
pub given_found : (view : View) → IsView view → (order : List ℕ) (at : ℕ) → at < length order → NoneOf view order at → (place : ℕ) → IsFirstOf view (slice_index order at) place → place ≡ given_of order view
given_found view is_view order at within none place first =
    sym (first_least-told (λ place. rank_in order (group_at view place)) view.left place (AllPairs-from_increasing view.left is_view.increasing) first.left_is (λ other left.
    let here = rank-there order (group_at view place) at within (none place first.left_is) (sym first.group_is) in
    let behind = rank-behind order (group_at view other) at (omega (arith, within)) (none other left) in (
      omega (arith, here, behind),
      λ less. above (rank_in order (group_at view place)) (rank_in order (group_at view other)) at here behind (λ same.
          let no = first.first other left (sym (rank-only order (group_at view other) at within same)) in
          omega (arith, no, less)),
    )))
  where
    above : (a b at : ℕ) → a ≡ at → at ≤ b → (b ≡ at → ⊥) → a < b
    above a b at here behind apart = grind (arith, here, behind, apart)

-- WHERE NO GROUP OF THE LIST HAS A NODE LEFT, it names the first of all
pub given_behind : (view : View) → IsView view → (order : List ℕ) (done : ℕ) → length order ≤ done → NoneOf view order done → (place : ℕ) → IsFirstOfAll view place → place ≡ given_of order view
given_behind view is_view order done all none place first =
    sym (first_least-told (λ place. rank_in order (group_at view place)) view.left place (AllPairs-from_increasing view.left is_view.increasing) first.left_is (λ other left.
    let here = outside place first.left_is in
    let there = outside other left in
    let least = first.least other left in (
      omega (arith, here, there, least),
      λ less. above (group_at view place) (group_at view other) (rank_in order (group_at view place)) (rank_in order (group_at view other)) (length order) here there least (λ same.
          let no = first.first other left same in
          omega (arith, no, less)),
    )))
  where
    outside : (place : ℕ) → is_member ◌==◌ view.left place ≡ true → rank_in order (group_at view place) ≡ length order + group_at view place
    outside place left = rank-outside order (group_at view place) (ap (λ groups. is_member ◌==◌ groups (group_at view place)) (sym (take_all done order all)) ∙ none place left)

    above : (p q a b far : ℕ) → a ≡ far + p → b ≡ far + q → p ≤ q → (q ≡ p → ⊥) → a < b
    above p q a b far here there least apart = grind (arith, here, there, least, apart)
