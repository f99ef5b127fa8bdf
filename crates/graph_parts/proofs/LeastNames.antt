-- The number of parts is the number of labels: the names with no smaller name in their part represent the parts.
use Rattle.std.proofs.Common.{◌≡◌, ◌≢◌, ℕ, zero, suc, ◌<◌, Bool, true, false, cond, not, ◌==◌, ◌||◌, List, [], ◌∷◌, map, length, get_or, filter, ltb, refl, sym, ap, ◌∙◌, arith, ⊎_elim, All, Any, AllPairs, Contains}
use Rattle.std.specs.List.{list_any}
use Rattle.std.specs.Set.{is_member, unique_keys}
use Rattle.std.proofs.lemmas.Bool.{eq-eqb, cases_Bool, ltb-true, lt-ltb, cases_order}
use Rattle.std.proofs.lemmas.Bool.Decides.{Decides-eqb, nat_tests}
use Rattle.std.proofs.lemmas.List.Elements.{All-filter, filter_passes, All-contains_itself, All-nil, All-cons}
use Rattle.std.proofs.lemmas.List.Folds.{list_any_at, Any-from_list_any}
use Rattle.std.proofs.lemmas.List.Kept.{AllPairs-filter, AllPairs-cons}
use Rattle.std.proofs.lemmas.List.Sums.{length-filter}
use Rattle.std.proofs.lemmas.Map.Made.{is_member-Decides}
use Rattle.graph_parts.specs.Ends.{AreAmong}
use Rattle.graph_parts.specs.Parts.{part, is_least, part_count}
use Rattle.graph_parts.specs.Walks.{Joined, stay, back, on}
use Rattle.graph_parts.specs.Labels.{label_of, label_count}
use Rattle.graph_parts.proofs.Counting.{distinct_count-cons, is_member-map}
use Rattle.graph_parts.proofs.Representatives.{length-AreRepresentatives}
use Rattle.graph_parts.proofs.Rounds.{part-Joined, part-names}
use Rattle.list_lemmas.proofs.Members.{member_of}

-- ---- names without repeats
pub is_member-unique : (names : List ℕ) (x : ℕ) → is_member ◌==◌ (unique_keys ◌==◌ names) x ≡ is_member ◌==◌ names x
is_member-unique [] x = refl
is_member-unique (y ∷ names) x =
    let ih = is_member-unique names x in
    let same = λ (t : x ≡ y). ap (is_member ◌==◌ names) t in
    elim (is_member ◌==◌ names y) as (λ b. is_member ◌==◌ names y ≡ b → is_member ◌==◌ (cond b (unique_keys ◌==◌ names) (y ∷ unique_keys ◌==◌ names)) x ≡ (x == y || is_member ◌==◌ names x)) [
      | true ↦ λ t. grind (arith, nat_tests, ih, same, t)
      | false ↦ λ t. ap (λ b. x == y || b) ih
    ] refl

apart_from : (names : List ℕ) (x : ℕ) → is_member ◌==◌ names x ≡ false → All (λ y. x ≢ y) names
apart_from [] x m = All-nil (λ y. x ≢ y)
apart_from (y ∷ names) x m = let e = eq-eqb x y in All-cons (λ y. x ≢ y) y names (λ t. let u = e t in grind (arith, m, u)) (apart_from names x (grind (arith, m)))

unique_apart : (names : List ℕ) → AllPairs (λ x y. x ≢ y) (unique_keys ◌==◌ names)
unique_apart [] = λ i j d h k. absurd (omega (arith, k))
unique_apart (x ∷ names) =
    let rest = unique_keys ◌==◌ names in
    elim (is_member ◌==◌ names x) as (λ b. is_member ◌==◌ names x ≡ b → AllPairs (λ x y. x ≢ y) (cond b rest (x ∷ rest))) [
      | true ↦ λ t. unique_apart names
      | false ↦ λ t. AllPairs-cons (λ x y. x ≢ y) x rest (apart_from rest x (is_member-unique names x ∙ t)) (unique_apart names)
    ] refl

is_member-unique_labels : (label : ℕ → ℕ) (names : List ℕ) (n : ℕ) → is_member ◌==◌ (map label (unique_keys ◌==◌ names)) n ≡ is_member ◌==◌ (map label names) n
is_member-unique_labels label [] n = refl
is_member-unique_labels label (x ∷ names) n =
    let ih = is_member-unique_labels label names n in
    let rest = unique_keys ◌==◌ names in
    let there = is_member-map label names x in
    let same = λ (t : n ≡ label x). ap (is_member ◌==◌ (map label names)) t in
    elim (is_member ◌==◌ names x) as (λ b. is_member ◌==◌ names x ≡ b → is_member ◌==◌ (map label (cond b rest (x ∷ rest))) n ≡ (n == label x || is_member ◌==◌ (map label names) n)) [
      | true ↦ λ t. grind (arith, nat_tests, ih, same, there, t)
      | false ↦ λ t. ap (λ b. n == label x || b) ih
    ] refl

pub label_count-unique : (label : ℕ → ℕ) (names : List ℕ) → label_count label (unique_keys ◌==◌ names) ≡ label_count label names
label_count-unique label [] = refl
label_count-unique label (x ∷ names) =
    let ih = label_count-unique label names in
    let rest = unique_keys ◌==◌ names in
    let e = distinct_count-cons (label x) (map label names) in
    let f = distinct_count-cons (label x) (map label rest) in
    let m = is_member-unique_labels label names (label x) in
    let there = is_member-map label names x in
    elim (is_member ◌==◌ names x) as (λ b. is_member ◌==◌ names x ≡ b → label_count label (cond b rest (x ∷ rest)) ≡ label_count label (x ∷ names)) [
      | true ↦ λ t. grind (arith, ih, e, there, t)
      | false ↦ λ t. grind (arith, ih, e, f, m)
    ] refl

pub AreAmong-unique : (names : List ℕ) (edges : List (ℕ × ℕ)) → AreAmong names edges → AreAmong (unique_keys ◌==◌ names) edges
AreAmong-unique names [] h = tt
AreAmong-unique names (e ∷ edges) h = (is_member-unique names e.0 ∙ h.0, is_member-unique names e.1 ∙ h.1, AreAmong-unique names edges h.2)

-- ---- least names
contained : (xs : List ℕ) (x : ℕ) → is_member ◌==◌ xs x ≡ true → Contains xs x
contained xs x m = (is_member-Decides Decides-eqb xs x).0 m

in_filter : (p : ℕ → Bool) (x : ℕ) (xs : List ℕ) → Contains xs x → p x ≡ true → Any (λ y. y ≡ x) (filter p xs)
in_filter p x [] c h = absurd (omega (arith, c.1))
in_filter p x (y ∷ xs) (zero, l, same) h =
    let t : p y ≡ true = ap p same ∙ h in
    elim (p y) as (λ b. b ≡ true → Any (λ z. z ≡ x) (cond b (y ∷ filter p xs) (filter p xs))) [ true ↦ λ e. (0, y, omega arith, refl, same) | false ↦ λ e. cc ] t
in_filter p x (y ∷ xs) (suc k, l, same) h =
    let a = in_filter p x xs (k, omega arith, same) h in
    elim (p y) as (λ b. Any (λ z. z ≡ x) (cond b (y ∷ filter p xs) (filter p xs))) [ true ↦ (suc a.0, a.1, omega (arith, a.2), a.3, a.4) | false ↦ a ]

module _ (names : List ℕ) (edges : List (ℕ × ℕ)) (among : AreAmong names edges) where
  -- a least name has no smaller one joined to it
  least_low : (x y : ℕ) → is_least names edges x ≡ true → Contains names x → Joined edges x y → y < x → ⊥
  least_low x y h c j lt =
      let m = (part-Joined names edges x y (member_of names x c) among).1 j in
      let p = contained (part names edges x) y m in
      let at = list_any_at (λ z. ltb z x) (part names edges x) p.0 y p.1 (let e = p.2 in let l = lt-ltb y x lt in rw e l) in
      grind (arith, h, at)

  -- down to the least name of the part
  low : (n x : ℕ) → x < n → Contains names x → Any (λ y. Joined edges x y) (filter (is_least names edges) names)
  low zero x h c = absurd (omega arith)
  low (suc n) x h c =
      let there = member_of names x c in
      ⊎_elim
      (λ some.
      let a = Any-from_list_any (λ y. ltb y x) (part names edges x) some in
      let lt : a.1 < x = ltb-true a.1 x a.4 in
      let m = member_of (part names edges x) a.1 (a.0, a.2, a.3) in
      let j = (part-Joined names edges x a.1 there among).0 m in
      let r = low n a.1 (omega (arith, lt, h)) (contained names a.1 (part-names names edges x a.1 there among m)) in
      (r.0, r.1, r.2, r.3, on j r.4))
      (λ none.
      let r = in_filter (is_least names edges) x names c (ap not none) in
      (r.0, r.1, r.2, r.3, (let e = r.4 in rw e stay)))
      (cases_Bool (list_any (λ y. ltb y x) (part names edges x)))

  least_count : AllPairs (λ x y. x ≢ y) names → length (filter (is_least names edges) names) ≡ label_count (label_of edges) names
  least_count apart =
      let chosen = filter (is_least names edges) names in
      let d = AllPairs-filter (λ x y. x ≢ y) (is_least names edges) names apart in
      let least = filter_passes (is_least names edges) names in
      let known = All-filter (is_least names edges) (Contains names) names (All-contains_itself names) in
      length-AreRepresentatives edges names chosen record {
        are_names = known;
        are_apart = λ i j e h k t.
            let x = get_or chosen i e in let y = get_or chosen j e in
            let hi : i < length chosen = omega (arith, h, k) in
            ⊎_elim (λ same. d i j e h k same)
            (λ o. ⊎_elim (λ lt. least_low y x (least j e k) (known j e k) (back t) lt) (λ gt. least_low x y (least i e hi) (known i e hi) t gt) o)
            (cases_order x y);
        reach_all = λ i e k. low (suc (get_or names i e)) (get_or names i e) (omega arith) (All-contains_itself names i e k);
      }

-- THE NUMBER OF PARTS IS THE NUMBER OF LABELS
pub part_count-labels : (names : List ℕ) (edges : List (ℕ × ℕ)) → AreAmong names edges → part_count names edges ≡ label_count (label_of edges) names
unfolding part_count
part_count-labels names edges among =
    let unique = unique_keys ◌==◌ names in
    sym (length-filter (is_least unique edges) unique)
    ∙ least_count unique edges (AreAmong-unique names edges among) (unique_apart names)
    ∙ label_count-unique (label_of edges) names
