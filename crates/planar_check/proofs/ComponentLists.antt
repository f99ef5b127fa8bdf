-- The lists of the different labels, of their least labels and of all components: increasing, with the labels
-- as elements, and as the ranks tell them.
use Rattle.std.proofs.Common.{◌≡◌, ℕ, ◌+◌, ◌<◌, ◌^◌, ◌≤◌, ◌==◌, ◌&&◌, ◌||◌, Bool, true, false, cond, leb, ltb, List, [], ◌∷◌, length, map, count_by, slice_index, Option, Some, None, MatchOption, inl, inr, refl, sym, subst, ap, ap₂, ◌∙◌, arith, All}
use Rattle.std.specs.List.{AllByRecursion, filter, range_with_len}
use Rattle.std.specs.List.Sorted.{IsStrictlySortedBy}
use Rattle.std.specs.Ordering.{nat_cmp}
use Rattle.std.specs.Set.{is_member}
use Rattle.std.proofs.lemmas.Bool.{cases_Bool, ltb-true}
use Rattle.std.proofs.lemmas.Bool.Decides.{nat_tests}
use Rattle.std.proofs.lemmas.List.{ext_get_or, get_or-map, length-map}
use Rattle.std.proofs.lemmas.List.Elements.{All-same, All-map}
use Rattle.std.proofs.lemmas.List.FromFn.{length-range_with_len, get_or-range_with_len, length-map-range_with_len}
use Rattle.std.proofs.lemmas.List.Kept.{IsStrictlySortedBy-filter}
use Rattle.std.proofs.lemmas.Map.Keys.{sorted_from_strictly_increasing}
use Rattle.graph_parts.specs.Ends.{EndsAre}
use Rattle.graph_parts.specs.LeastNames.{least_name, least_label}
use Rattle.graph_parts.specs.Renaming.{renamed}
use Rattle.graph_parts.proofs.Ends.{is_member-get_or}
use Rattle.graph_parts.proofs.LeastLabels.{least_name-label, AreLeast-labels}
use Rattle.graph_parts.proofs.Numbered.{is_member-numbered, AreAmong-numbered}
use Rattle.pd_reader.specs.declared.item.Item.{Item}
use Rattle.pd_reader.specs.Items.{item_labels, HasItsSlots}
use Rattle.pd_reader.specs.Diagrams.{labels, IsDiagram}
use Rattle.planar_check.specs.Components.{strand_edges, greatest, distinct, rank, component_least, is_least_of, least_labels, number_of, component_of}
use Rattle.planar_check.proofs.FaceSteps.{entry_at}
use Rattle.planar_check.proofs.FewComponents.{few_components}
use Rattle.planar_check.proofs.Strands.{strands_inside, member_at_most, ends_below}
use Rattle.planar_check.proofs.Ranks.{rank_at, at_rank, rank_absent, least_by_rank, least_inside, ranks_below}
use Rattle.planar_check.specs.Tables.{AreComponents}
use Rattle.list_lemmas.proofs.Ranges.{All-below}

-- ---- increasing lists
range_sorted : (n : ℕ) → IsStrictlySortedBy nat_cmp (range_with_len 0 n)
range_sorted n = sorted_from_strictly_increasing (range_with_len 0 n) (λ k l.
    let long = length-range_with_len 0 n in
    let here = get_or-range_with_len 0 n k 0 (omega (arith, l, long)) in
    let next = get_or-range_with_len 0 n (k + 1) 0 (omega (arith, l, long)) in
    omega (arith, here, next))

pub distinct_sorted : (ls : List ℕ) → IsStrictlySortedBy nat_cmp (distinct ls)
unfolding distinct
distinct_sorted ls = IsStrictlySortedBy-filter nat_cmp (is_member ◌==◌ ls) (range_with_len 0 (greatest ls + 1)) (range_sorted (greatest ls + 1))

pub least_labels_sorted : (xs : List Item) → IsStrictlySortedBy nat_cmp (least_labels xs)
unfolding least_labels
least_labels_sorted xs =
    let n = greatest (labels item_labels xs) + 1 in
    IsStrictlySortedBy-filter nat_cmp (is_least_of xs) (range_with_len 0 n) (range_sorted n)

-- ---- what is kept of a list
pub member-filter : (p : ℕ → Bool) (ns : List ℕ) (x : ℕ) → is_member ◌==◌ (filter p ns) x ≡ (p x && is_member ◌==◌ ns x)
member-filter p [] x = grind (arith, nat_tests)
member-filter p (n ∷ ns) x =
    let ih = member-filter p ns x in
    let same = λ (e : x ≡ n). ap p e in
    elim (p n) as (λ b. p n ≡ b → is_member ◌==◌ (cond b (n ∷ filter p ns) (filter p ns)) x ≡ (p x && (x == n || is_member ◌==◌ ns x))) [
      | true ↦ λ t. grind (arith, nat_tests, ih, same, t)
      | false ↦ λ t. grind (arith, nat_tests, ih, same, t)
    ] refl

pub filter-filter : (p q : ℕ → Bool) (ns : List ℕ) → filter p (filter q ns) ≡ filter (λ x. q x && p x) ns
filter-filter p q [] = refl
filter-filter p q (n ∷ ns) =
    elim (q n) as (λ b. filter p (cond b (n ∷ filter q ns) (filter q ns)) ≡ cond (b && p n) (n ∷ filter (λ x. q x && p x) ns) (filter (λ x. q x && p x) ns)) [
      | true ↦ ap (λ (ys : List ℕ). cond (p n) (n ∷ ys) ys) (filter-filter p q ns)
      | false ↦ filter-filter p q ns
    ]

pub distinct-member : (ls : List ℕ) (x : ℕ) → is_member ◌==◌ (distinct ls) x ≡ is_member ◌==◌ ls x
unfolding distinct
distinct-member ls x =
    let n = greatest ls + 1 in
    member-filter (is_member ◌==◌ ls) (range_with_len 0 n) x
    ∙ elim (cases_Bool (is_member ◌==◌ ls x)) [
      | inl t ↦ (let there = is_member-numbered n x (let h = member_at_most ls x t in omega (arith, h)) in ap₂ (λ (a b : Bool). a && b) t there ∙ sym t)
      | inr t ↦ ap (λ (a : Bool). a && is_member ◌==◌ (range_with_len 0 n) x) t ∙ sym t
    ]

-- THE NAMES THAT ARE THEIR OWN LEAST ONES
pub own_are : (xs : List Item) → filter (λ name. component_least xs name == name) (distinct (labels item_labels xs)) ≡ least_labels xs
unfolding distinct least_labels
own_are xs = filter-filter (λ name. component_least xs name == name) (is_member ◌==◌ (labels item_labels xs)) (range_with_len 0 (greatest (labels item_labels xs) + 1))

module _ (xs : List Item) (sizes : AllByRecursion HasItsSlots xs) where
  abbrev names : List ℕ
  names = distinct (labels item_labels xs)

  abbrev es : List (ℕ × ℕ)
  es = strand_edges xs

  abbrev ranked : List (ℕ × ℕ)
  ranked = map (renamed (rank names)) es

  sorted : IsStrictlySortedBy nat_cmp names
  sorted = distinct_sorted (labels item_labels xs)

  names_inside : EndsAre (is_member ◌==◌ names) es
  names_inside = strands_inside (is_member ◌==◌ names) xs sizes (λ x m. distinct-member (labels item_labels xs) x ∙ m)

  pub strands_among : All (λ edge. (edge.0 < length names) × (edge.1 < length names)) ranked
  strands_among = ends_below (λ k. ltb k (length names)) (length names) (λ k t. ltb-true k (length names) t) ranked (ranks_below names sorted es names_inside)

  least_of_is : (x : ℕ) → is_member ◌==◌ names x ≡ true → component_least xs x ≡ least_label es x
  unfolding component_least
  least_of_is x m =
      let ls = labels item_labels xs in
      least_name-label ls es (strands_inside (is_member ◌==◌ ls) xs sizes (λ y k. k)) x (sym (distinct-member ls x) ∙ m)

  -- THE LEAST LABELS, BY RANKS
  pub leasts_are : (ranks : List ℕ) → ranks ≡ map (least_name (range_with_len 0 (length names)) ranked) (range_with_len 0 (length names)) → map (slice_index names) ranks ≡ map (component_least xs) names
  leasts_are ranks are =
      let n = length names in
      let long : length ranks ≡ n = ap length are ∙ length-map-range_with_len (least_name (range_with_len 0 n) ranked) 0 n in
      ext_get_or 0 (map (slice_index names) ranks) (map (component_least xs) names) (length-map ranks (slice_index names) ∙ (long ∙ sym (length-map names (component_least xs)))) (λ k l.
      let within : k < n = omega (arith, l, length-map ranks (slice_index names), long) in
      let x = slice_index names k in
      let here : is_member ◌==◌ names x ≡ true = is_member-get_or names k within in
      let entry : slice_index ranks k ≡ rank names (least_label es x) =
      entry_at (least_name (range_with_len 0 n) ranked) n k ranks are within
      ∙ (least_name-label (range_with_len 0 n) ranked (AreAmong-numbered n ranked strands_among) k (is_member-numbered n k within)
      ∙ (ap (least_label ranked) (sym (rank_at names sorted k within)) ∙ least_by_rank names sorted es names_inside x here)) in
      get_or-map (slice_index names) ranks k 0 0 (omega (arith, within, long))
      ∙ (ap (slice_index names) entry
      ∙ ((at_rank names sorted (least_label es x) (least_inside names sorted es names_inside x here)).1
      ∙ (sym (least_of_is x here) ∙ sym (get_or-map (component_least xs) names k 0 0 within)))))

  -- each rank is that of a name
  pub ranks_inside : (ranks : List ℕ) → ranks ≡ map (least_name (range_with_len 0 (length names)) ranked) (range_with_len 0 (length names)) → All (λ k. k < length names) ranks
  ranks_inside ranks are =
      let n = length names in
      let P : ℕ → Type 0 = λ k. k < n in
      let f = least_name (range_with_len 0 n) ranked in
      All-same P ranks (map f (range_with_len 0 n)) are (All-map P f (range_with_len 0 n) (All-below (λ k. P (f k)) n (λ k l.
      let least = AreLeast-labels ranked in
      let below = least.below k in
      let is = least_name-label (range_with_len 0 n) ranked (AreAmong-numbered n ranked strands_among) k (is_member-numbered n k l) in
      omega (arith, below, is, l))))

-- ---- the lists of a diagram's components
module _ (xs : List Item) (names leasts all : List ℕ) (are : AreComponents xs names leasts all) where
  pub names_sorted : IsStrictlySortedBy nat_cmp names
  names_sorted = subst (IsStrictlySortedBy nat_cmp) (sym are.names_are) (distinct_sorted (labels item_labels xs))

  pub all_sorted : IsStrictlySortedBy nat_cmp all
  all_sorted = subst (IsStrictlySortedBy nat_cmp) (sym are.all_are) (least_labels_sorted xs)

  names_member : (x : ℕ) → is_member ◌==◌ names x ≡ is_member ◌==◌ (labels item_labels xs) x
  names_member x = ap (λ (ns : List ℕ). is_member ◌==◌ ns x) are.names_are ∙ distinct-member (labels item_labels xs) x

  leasts_long : length leasts ≡ length names
  leasts_long = ap length are.leasts_are ∙ length-map names (component_least xs)

  pub rank_inside : (x : ℕ) → is_member ◌==◌ (labels item_labels xs) x ≡ true → rank names x < length leasts
  rank_inside x m = let there = (at_rank names names_sorted x (names_member x ∙ m)).0 in omega (arith, there, leasts_long)

  pub least_found : (x : ℕ) → is_member ◌==◌ (labels item_labels xs) x ≡ true → slice_index leasts (rank names x) ≡ component_least xs x
  least_found x m =
      let there = at_rank names names_sorted x (names_member x ∙ m) in
      ap (λ (ns : List ℕ). slice_index ns (rank names x)) are.leasts_are ∙ (get_or-map (component_least xs) names (rank names x) 0 0 there.0 ∙ ap (component_least xs) there.1)

  rank_outside : (x : ℕ) → is_member ◌==◌ (labels item_labels xs) x ≡ false → rank names x ≡ length leasts
  rank_outside x m =
      rank_absent names names_sorted x (λ k l e.
      let there = is_member-get_or names k l in
      let both : true ≡ false = sym there ∙ (ap (is_member ◌==◌ names) e ∙ (names_member x ∙ m)) in
      grind (arith, both))
      ∙ sym leasts_long

  -- THE COMPONENT OF A LABEL
  pub component_told : (label : ℕ) (found : Option ℕ) →
      MatchOption found (length leasts ≤ rank names label) (λ number. (rank names label < length leasts) × (number ≡ count_by (λ least. leb least (slice_index leasts (rank names label))) all)) →
      found ≡ component_of xs label
  component_told label None h =
      elim (cases_Bool (is_member ◌==◌ (labels item_labels xs) label)) [
        | inl m ↦ absurd (let there = rank_inside label m in omega (arith, h, there))
        | inr m ↦ sym (ap (λ (b : Bool). cond b (Some (number_of xs label)) None) m)
      ]
  component_told label (Some number) h =
      elim (cases_Bool (is_member ◌==◌ (labels item_labels xs) label)) [
        | inl m ↦ (
            let same : number ≡ number_of xs label =
            h.1 ∙ (ap (λ (k : ℕ). count_by (λ least. leb least k) all) (least_found label m) ∙ ap (count_by (λ least. leb least (component_least xs label))) are.all_are) in
            ap Some same ∙ sym (ap (λ (b : Bool). cond b (Some (number_of xs label)) None) m))
        | inr m ↦ absurd (let out = rank_outside label m in let low = h.0 in omega (arith, out, low))
      ]

-- the lists of the components, as they are read
pub components_read : (xs : List Item) (names leasts all names_read leasts_read all_read : List ℕ) → names_read ≡ names → leasts_read ≡ leasts → all_read ≡ all → AreComponents xs names leasts all →
    AreComponents xs names_read leasts_read all_read
components_read xs own leasts all names_read leasts_read all_read n l f are = record {
  names_are = n ∙ are.names_are;
  leasts_are = l ∙ (are.leasts_are ∙ sym (ap (map (component_least xs)) n));
  all_are = f ∙ are.all_are;
  few = subst (λ fs. length fs < 2 ^ 32) (sym f) are.few;
}

-- what is found of a diagram
pub found_are : (xs : List Item) → IsDiagram xs → (names leasts all : List ℕ) → names ≡ distinct (labels item_labels xs) → leasts ≡ map (component_least xs) names →
    ((least : ℕ → ℕ) → leasts ≡ map least names → all ≡ filter (λ name. least name == name) names) → AreComponents xs names leasts all
found_are xs diagram names leasts all n l f =
    let is : all ≡ least_labels xs = f (component_least xs) l ∙ (ap (filter (λ name. component_least xs name == name)) n ∙ own_are xs) in
    record {
      names_are = n;
      leasts_are = l;
      all_are = is;
      few = omega (arith, ap length is, few_components xs diagram);
    }
