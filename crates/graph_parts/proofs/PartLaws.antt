-- The laws of parts, from those of labels and walks.
use Rattle.std.proofs.Common.{zip, ◌≡◌, ℕ, ◌+◌, Bool, true, cond, ◌==◌, List, [], ◌∷◌, ◌++◌, map, refl, sym, ap, ◌∙◌, arith, ◌⊎◌, ⊎_elim, inl, append-nil, Contains, count_by}
use Rattle.std.specs.List.{AllPass}
use Rattle.std.specs.Set.{is_member, unique_keys}
use Rattle.std.proofs.lemmas.Bool.{eq-eqb, eqb-true, cases_Bool, or_left, or_right}
use Rattle.std.proofs.lemmas.List.Elements.{All-map, All-weaker, All-nil, Contains-append_left, Contains-append_right, Contains-append_cases}
use Rattle.graph_parts.proofs.Distinct.{is_member-append, distinct_count-le_from_within}
use Rattle.graph_parts.specs.Ends.{AreAmong}
use Rattle.graph_parts.specs.Labels.{label_of, label_count}
use Rattle.graph_parts.specs.Laws.{PartsByWalksLaw, PartEquivalenceLaw, NoNamesLaw, JoinedEdgeLaw, ApartEdgeLaw, ContractionLaw, SameEdgesLaw, SameNamesLaw, OtherNamesLaw, DisjointGraphsLaw, AsManyRepresentativesLaw, LeastNamesTellLaw, CountByLeastLaw, PatternGluingLaw, ClosedGluingLaw}
use Rattle.graph_parts.specs.LeastNames.{least_name}
use Rattle.graph_parts.specs.Parts.{is_least, part_count}
use Rattle.graph_parts.specs.Patterns.{pattern, closed_parts, label_pattern}
use Rattle.graph_parts.specs.Renaming.{renamed}
use Rattle.graph_parts.specs.Walks.{stay, back, on}
use Rattle.graph_parts.proofs.Agreement.{label_count-agree, Agree-from_Joined, Agree-same_edges, from_All}
use Rattle.graph_parts.proofs.Counting.{label_count-relabel, label_count-contract, label_after-append, is_member-map}
use Rattle.graph_parts.proofs.Ends.{EndsAre-append, EndsAre-weaker, EndsAre-zip, is_member-itself}
use Rattle.graph_parts.proofs.Gluing.{label_pattern-glue, label_closed-glue}
use Rattle.graph_parts.proofs.PatternLabels.{pattern-labels, closed_parts-labels, label_pattern-among}
use Rattle.graph_parts.proofs.LeastNames.{part_count-labels, is_member-unique, AreAmong-unique}
use Rattle.graph_parts.proofs.LeastLabels.{least_name-Joined, least_name-label, is_least-label}
use Rattle.graph_parts.proofs.Renaming.{label_count-renamed}
use Rattle.graph_parts.proofs.Representatives.{length-AreRepresentatives}
use Rattle.graph_parts.proofs.Rounds.{part-Joined, part-names, count_by-cons}
use Rattle.graph_parts.proofs.Through.{label_count-through}
use Rattle.graph_parts.proofs.Walks.{Joined-from_labels, labels-from_Joined}

-- A PART IS WHAT WALKS JOIN
pub parts_by_walks : PartsByWalksLaw
parts_by_walks names edges x y among there = part-Joined names edges x y there among

-- TO BE IN ONE PART IS AN EQUIVALENCE
pub part_equivalence : PartEquivalenceLaw
part_equivalence names edges among = record {
  itself = λ x there. (parts_by_walks names edges x x among there).1 stay;
  back = λ x y there h.
      let m = part-names names edges x y there among h in
      (parts_by_walks names edges y x among m).1 (back ((parts_by_walks names edges x y among there).0 h));
  on = λ x y z there h k.
      let m = part-names names edges x y there among h in
      (parts_by_walks names edges x z among there).1 (on ((parts_by_walks names edges x y among there).0 h) ((parts_by_walks names edges y z among m).0 k));
}

-- NO NAMES, NO PARTS
pub no_names : NoNamesLaw
unfolding part_count
no_names edges = refl

-- ---- one more edge
turn_about : (es fs : List (ℕ × ℕ)) (x y : ℕ) → Contains (es ++ fs) (x, y) → Contains (fs ++ es) (x, y) ⊎ Contains (fs ++ es) (y, x)
turn_about es fs x y c = inl (⊎_elim (λ l. Contains-append_right fs es (x, y) l) (λ r. Contains-append_left fs es (x, y) r) (Contains-append_cases es fs (x, y) c))

one_more : (names : List ℕ) (edges : List (ℕ × ℕ)) (x y : ℕ) → AreAmong names ((x, y) ∷ edges) →
    part_count names ((x, y) ∷ edges) + cond (label_of edges x == label_of edges y) 0 1 ≡ part_count names edges
one_more names edges x y among =
    let last = edges ++ (x, y) ∷ [] in
    let turned = label_count-agree (is_member ◌==◌ names) (label_of ((x, y) ∷ edges)) (label_of last) names
    (Agree-same_edges (is_member ◌==◌ names) ((x, y) ∷ edges) last (turn_about ((x, y) ∷ []) edges) (turn_about edges ((x, y) ∷ []))) (is_member-itself names) in
    let step = ap (λ l. label_count l names) (label_after-append (λ z. z) edges ((x, y) ∷ [])) in
    let counted = label_count-relabel (label_of edges) x y names among.0 among.1 in
    let before = part_count-labels names edges among.2 in
    let after = part_count-labels names ((x, y) ∷ edges) among in
    omega (arith, turned, step, counted, before, after)

-- AN EDGE WITHIN A PART
pub joined_edge : JoinedEdgeLaw
joined_edge names edges x y among j =
    let t = eq-eqb (label_of edges x) (label_of edges y) (labels-from_Joined edges j) in let e = one_more names edges x y among in grind (arith, t, e)

-- AN EDGE BETWEEN TWO PARTS
pub apart_edge : ApartEdgeLaw
apart_edge names edges x y among apart =
    let e = one_more names edges x y among in
    ⊎_elim (λ t. absurd (apart (Joined-from_labels edges x y (eqb-true (label_of edges x) (label_of edges y) t)))) (λ f. grind (arith, f, e)) (cases_Bool (label_of edges x == label_of edges y))

-- ---- many edges
-- CONTRACTION
pub contraction : ContractionLaw
contraction names inside es fs more p q r s alike =
    let test = is_member ◌==◌ names in
    let a = part_count-labels names (es ++ more) (EndsAre-append test es more p r) in
    let b = part_count-labels names fs q in
    let c = part_count-labels names (fs ++ more) (EndsAre-append test fs more q r) in
    let d = part_count-labels names es p in
    let e = label_count-contract (is_member ◌==◌ inside) names es fs more s r (Agree-from_Joined (is_member ◌==◌ inside) es fs alike) in
    omega (arith, a, b, c, d, e)

-- THE SAME EDGES
pub same_edges : SameEdgesLaw
same_edges names es fs p q h k =
    part_count-labels names es p
    ∙ label_count-agree (is_member ◌==◌ names) (label_of es) (label_of fs) names (Agree-same_edges (is_member ◌==◌ names) es fs h k) (is_member-itself names)
    ∙ sym (part_count-labels names fs q)

-- ---- other names
-- the labels of a part of the names are among the labels of all
pub within_labels : (l : ℕ → ℕ) (names others : List ℕ) → ((x : ℕ) → is_member ◌==◌ names x ≡ true → is_member ◌==◌ others x ≡ true) → AllPass (is_member ◌==◌ (map l others)) (map l names)
within_labels l names others h =
    All-map (λ z. is_member ◌==◌ (map l others) z ≡ true) l names
    (All-weaker (λ x. is_member ◌==◌ names x ≡ true) (λ x. is_member ◌==◌ (map l others) (l x) ≡ true) (λ x m. is_member-map l others x (h x m)) names (is_member-itself names))

pub label_count-same_names : (l : ℕ → ℕ) (names others : List ℕ) → ((x : ℕ) → is_member ◌==◌ names x ≡ is_member ◌==◌ others x) → label_count l names ≡ label_count l others
label_count-same_names l names others h =
    let a = distinct_count-le_from_within (map l names) (map l others) (within_labels l names others (λ x m. sym (h x) ∙ m)) in
    let b = distinct_count-le_from_within (map l others) (map l names) (within_labels l others names (λ x m. h x ∙ m)) in
    omega (arith, a, b)

-- THE SAME NAMES
pub same_names : SameNamesLaw
same_names names others edges p h =
    part_count-labels names edges p
    ∙ label_count-same_names (label_of edges) names others h
    ∙ sym (part_count-labels others edges (EndsAre-weaker (is_member ◌==◌ names) (is_member ◌==◌ others) (λ x m. sym (h x) ∙ m) edges p))

pub AreAmong-renamed : (rename : ℕ → ℕ) (names : List ℕ) (edges : List (ℕ × ℕ)) → AreAmong names edges → AreAmong (map rename names) (map (renamed rename) edges)
AreAmong-renamed rename names [] h = tt
AreAmong-renamed rename names (e ∷ edges) h = (is_member-map rename names e.0 h.0, is_member-map rename names e.1 h.1, AreAmong-renamed rename names edges h.2)

-- OTHER NAMES
pub other_names : OtherNamesLaw
other_names rename names edges p h =
    part_count-labels (map rename names) (map (renamed rename) edges) (AreAmong-renamed rename names edges p)
    ∙ label_count-renamed rename names edges h p
    ∙ sym (part_count-labels names edges p)

-- ---- two graphs
pub AreAmong-append : (names others : List ℕ) (es fs : List (ℕ × ℕ)) → AreAmong names es → AreAmong others fs → AreAmong (names ++ others) (es ++ fs)
AreAmong-append names others es fs p q =
    EndsAre-append (is_member ◌==◌ (names ++ others)) es fs
    (EndsAre-weaker (is_member ◌==◌ names) (is_member ◌==◌ (names ++ others)) (λ x m. is_member-append names others x ∙ or_left (is_member ◌==◌ names x) (is_member ◌==◌ others x) m) es p)
    (EndsAre-weaker (is_member ◌==◌ others) (is_member ◌==◌ (names ++ others)) (λ x m. is_member-append names others x ∙ or_right (is_member ◌==◌ names x) (is_member ◌==◌ others x) m) fs q)

-- TWO GRAPHS WITHOUT A COMMON NAME
pub disjoint_graphs : DisjointGraphsLaw
disjoint_graphs names others es fs p q apart =
    let whole = part_count-labels (names ++ others) (es ++ fs) (AreAmong-append names others es fs p q) in
    let first = part_count-labels names es p in
    let second = part_count-labels others fs q in
    let through = label_count-through names others [] es fs p q (All-nil (λ x. is_member ◌==◌ names x ≡ true)) (λ x m n. let a = apart x n in grind (arith, a, m)) in
    let same = ap (label_count (label_of fs)) (append-nil others) in
    omega (arith, whole, first, second, through, same)

-- ---- representatives and least names
-- AS MANY PARTS AS REPRESENTATIVES
pub as_many_representatives : AsManyRepresentativesLaw
as_many_representatives names chosen edges p r = length-AreRepresentatives edges names chosen r ∙ sym (part_count-labels names edges p)

-- LEAST NAMES TELL PARTS APART
pub least_names_tell : LeastNamesTellLaw
least_names_tell names edges x y p m n = least_name-Joined names edges p x y m n

pub count_by_all : (f g : ℕ → Bool) (xs : List ℕ) → ((x : ℕ) → is_member ◌==◌ xs x ≡ true → f x ≡ g x) → count_by f xs ≡ count_by g xs
count_by_all f g [] h = refl
count_by_all f g (x ∷ xs) h =
    let here = h x (or_left (x == x) (is_member ◌==◌ xs x) (eq-eqb x x refl)) in
    let ih = count_by_all f g xs (λ y m. h y (or_right (y == x) (is_member ◌==◌ xs y) m)) in
    let a = count_by-cons f x xs in let b = count_by-cons g x xs in
    grind (arith, here, ih, a, b)

-- PARTS COUNTED BY LEAST NAMES
pub count_by_least : CountByLeastLaw
unfolding part_count
count_by_least names edges p =
    let unique = unique_keys ◌==◌ names in
    count_by_all (is_least unique edges) (λ x. least_name names edges x == x) unique
    (λ x m.
    is_least-label unique edges (AreAmong-unique names edges p) x m
    ∙ ap (λ n. n == x) (sym (least_name-label names edges p x (sym (is_member-unique names x) ∙ m))))

-- ---- gluing
pub AreAmong-glued : (others inner found : List ℕ) (fs : List (ℕ × ℕ)) → AllPass (is_member ◌==◌ inner) found → AreAmong others fs → AreAmong (others ++ inner) (zip inner found ++ fs)
AreAmong-glued others inner found fs has q =
    let test = is_member ◌==◌ (others ++ inner) in
    let in_inner : (x : ℕ) → is_member ◌==◌ inner x ≡ true → is_member ◌==◌ (others ++ inner) x ≡ true =
    λ x m. is_member-append others inner x ∙ or_right (is_member ◌==◌ others x) (is_member ◌==◌ inner x) m in
    let in_others : (x : ℕ) → is_member ◌==◌ others x ≡ true → is_member ◌==◌ (others ++ inner) x ≡ true =
    λ x m. is_member-append others inner x ∙ or_left (is_member ◌==◌ others x) (is_member ◌==◌ inner x) m in
    EndsAre-append test (zip inner found) fs
    (EndsAre-weaker (is_member ◌==◌ inner) test in_inner (zip inner found) (EndsAre-zip (is_member ◌==◌ inner) inner found (is_member-itself inner) has))
    (EndsAre-weaker (is_member ◌==◌ others) test in_others fs q)

outer_both : (names others inner outer : List ℕ) → AllPass (is_member ◌==◌ names) inner → AllPass (is_member ◌==◌ (others ++ inner)) outer → AllPass (is_member ◌==◌ (names ++ others)) outer
outer_both names others inner outer has left =
    All-weaker (λ x. is_member ◌==◌ (others ++ inner) x ≡ true) (λ x. is_member ◌==◌ (names ++ others) x ≡ true)
    (λ x m. is_member-append names others x ∙ (let a = is_member-append others inner x in let i = from_All (is_member ◌==◌ names) inner has x in grind (arith, m, a, i)))
    outer left

-- THE PATTERN OF TWO GRAPHS
pub pattern_gluing : PatternGluingLaw
pattern_gluing names others inner outer es fs p q seam left =
    let found = label_pattern es inner in
    pattern-labels (names ++ others) (es ++ fs) (AreAmong-append names others es fs p q) outer (outer_both names others inner outer seam.has_open left)
    ∙ label_pattern-glue names others inner outer es fs p q seam.has_open seam.meets left
    ∙ sym (pattern-labels (others ++ inner) (zip inner found ++ fs) (AreAmong-glued others inner found fs (label_pattern-among es inner) q) outer left)
    ∙ ap (λ f. pattern (others ++ inner) (zip inner f ++ fs) outer) (sym (pattern-labels names es p inner seam.has_open))

-- THE CLOSED PARTS OF TWO GRAPHS
pub closed_gluing : ClosedGluingLaw
closed_gluing names others inner outer es fs p q seam left =
    let found = label_pattern es inner in
    let whole = closed_parts-labels (names ++ others) (es ++ fs) (AreAmong-append names others es fs p q) outer (outer_both names others inner outer seam.has_open left) in
    let glued = label_closed-glue names others inner outer es fs p q seam.has_open seam.meets left in
    let first = closed_parts-labels names es p inner seam.has_open in
    let then_closed = closed_parts-labels (others ++ inner) (zip inner found ++ fs) (AreAmong-glued others inner found fs (label_pattern-among es inner) q) outer left in
    let same = ap (λ f. closed_parts (others ++ inner) (zip inner f ++ fs) outer) (pattern-labels names es p inner seam.has_open) in
    omega (arith, whole, glued, first, then_closed, same)
