-- One side of associativity: a stack whose upper or lower part is a product, against the stack of three.
use Rattle.std.proofs.Common.{◌≡◌, ℕ, zero, suc, ◌+◌, ◌-◌, ◌<◌, ◌≤◌, true, ◌==◌, List, ◌∷◌, ◌++◌, map, length, slice_index, refl, sym, ap, ap₂, ◌∙◌, arith}
use Rattle.std.proofs.lemmas.List.Elements.{All-map}
use Rattle.std.proofs.lemmas.Bool.Decides.{nat_tests}
use Rattle.std.specs.List.{range_with_len}
use Rattle.std.specs.Set.{is_member}
use Rattle.list_lemmas.proofs.Ranges.{is_member-range}
use Rattle.graph_parts.proofs.Agreement.{label_count-agree, to_All}
use Rattle.graph_parts.proofs.Counting.{is_member-map}
use Rattle.graph_parts.proofs.Distinct.{distinct_count-le_from_within}
use Rattle.graph_parts.proofs.Renaming.{map_map}
use Rattle.graph_parts.proofs.Through.{is_outer}
use Rattle.graph_parts.specs.Ends.{EndsAre}
use Rattle.graph_parts.specs.Labels.{label_of, label_count, Agree}
use Rattle.graph_parts.specs.Renaming.{renamed}
use Rattle.strand_algebra.proofs.Contractions.{named, out_map, label_count-members, Agree-names, label_count-names, es, ps, names, open_names, contract_agree, contract_count}
use Rattle.strand_algebra.proofs.LabelProducts.{label_parts, outer, label_loops, IsPairingOf}

pub map_range : {X : Type 0} (f g : ℕ → X) (a k : ℕ) → ((i : ℕ) → a ≤ i → i < a + k → f i ≡ g i) → map f (range_with_len a k) ≡ map g (range_with_len a k)
map_range f g a zero h = refl
map_range f g a (suc k) h = ap₂ (λ x xs. x ∷ xs) (h a (omega arith) (omega arith)) (map_range f g (a + 1) k (λ i p q. h i (omega arith) (omega arith)))

pub named_same : (f g : ℕ → ℕ) (size : ℕ) (p : List ℕ) → IsPairingOf size p → ((i : ℕ) → i < size → f i ≡ g i) → named f p ≡ named g p
named_same f g size p hp h =
    let s = hp.length_is in
    map_range (λ i. (f i, f (slice_index p i))) (λ i. (g i, g (slice_index p i))) 0 (length p)
    (λ i a b. ap₂ (λ x y. (x, y)) (h i (omega (arith, s))) (h (slice_index p i) (hp.stays i (omega (arith, s)))))

-- ---- one side: a stack in the outer stack G, whose names are changed by r
module _ (n : ℕ) (a b : List ℕ) (ha : IsPairingOf (n + n) a) (hb : IsPairingOf (n + n) b) (name : ℕ → ℕ) (one : (u v : ℕ) → name u ≡ name v → u ≡ v)
    (fs : List (ℕ × ℕ)) (others : List ℕ) (ends_fs : EndsAre (is_member ◌==◌ others) fs)
    (meets : (x : ℕ) → is_member ◌==◌ others x ≡ true → is_member ◌==◌ (names n a b ha hb name one) x ≡ true → is_member ◌==◌ (open_names n a b ha hb name one) x ≡ true)
    (G : List (ℕ × ℕ)) (ends_G : EndsAre (is_member ◌==◌ (range_with_len 0 (n + n + (n + n)))) G) (r : ℕ → ℕ) (one_r : (u v : ℕ) → r u ≡ r v → u ≡ v)
    (same : Agree (λ x. true) (label_of (map (renamed r) G)) (label_of (ps n a b ha hb name one ++ fs)))
    (r_outer : (i : ℕ) → i < n + n → is_outer (names n a b ha hb name one) (open_names n a b ha hb name one) (r (outer n i)) ≡ true)
    (r_in : (x : ℕ) → x < n + n + (n + n) → is_member ◌==◌ (others ++ open_names n a b ha hb name one) (r x) ≡ true)
    (r_onto : (y : ℕ) → is_member ◌==◌ (others ++ open_names n a b ha hb name one) y ≡ true → is_member ◌==◌ (map r (range_with_len 0 (n + n + (n + n)))) y ≡ true) where
  abbrev all : List ℕ
  all = range_with_len 0 (n + n + (n + n))

  abbrev whole : List (ℕ × ℕ)
  whole = es n a b ha hb name one ++ fs

  abbrev less : List (ℕ × ℕ)
  less = ps n a b ha hb name one ++ fs

  outer_in_all : (i : ℕ) → i < n + n → is_member ◌==◌ all (outer n i) ≡ true
  outer_in_all i h = is_member-range 0 (n + n + (n + n)) (outer n i) (omega arith) (grind (arith, nat_tests, h))

  pub side_tells : (i j : ℕ) → i < n + n → j < n + n → (label_of G (outer n i) == label_of G (outer n j)) ≡ (label_of whole (r (outer n i)) == label_of whole (r (outer n j)))
  side_tells i j bi bj =
      sym (Agree-names r all G (λ u v x y. one_r u v) ends_G (outer n i) (outer n j) (outer_in_all i bi) (outer_in_all j bj))
      ∙ same (r (outer n i)) (r (outer n j)) refl refl
      ∙ sym (contract_agree n a b ha hb name one fs others ends_fs meets (r (outer n i)) (r (outer n j)) (r_outer i bi) (r_outer j bj))

  renamed_count : (xs : List ℕ) → ((x : ℕ) → is_member ◌==◌ xs x ≡ true → is_member ◌==◌ all x ≡ true) → label_count (label_of G) xs ≡ label_count (label_of less) (map r xs)
  renamed_count xs h =
      sym (label_count-names r all G xs (λ u v x y. one_r u v) ends_G (to_All (is_member ◌==◌ all) xs h))
      ∙ label_count-agree (λ x. true) (label_of (map (renamed r) G)) (label_of less) (map r xs) same (to_All (λ x. true) (map r xs) (λ x m. refl))

  outer_named : map r (map (outer n) (range_with_len 0 (n + n))) ≡ map (λ i. r (outer n i)) (range_with_len 0 (n + n))
  outer_named = map_map r (outer n) (range_with_len 0 (n + n))

  all_count : label_count (label_of G) all ≡ label_parts less (others ++ open_names n a b ha hb name one)
  all_count =
      renamed_count all (λ x m. m)
      ∙ label_count-members (label_of less) (map r all) (others ++ open_names n a b ha hb name one)
      (λ y m. let t = out_map r (n + n + (n + n)) y m in ap (is_member ◌==◌ (others ++ open_names n a b ha hb name one)) t.1.1 ∙ r_in t.0 t.1.0)
      r_onto

  outer_count : label_count (label_of G) (map (outer n) (range_with_len 0 (n + n))) ≡ label_count (label_of whole) (map (λ i. r (outer n i)) (range_with_len 0 (n + n)))
  outer_count =
      renamed_count (map (outer n) (range_with_len 0 (n + n))) (λ y m. let t = out_map (outer n) (n + n) y m in ap (is_member ◌==◌ all) t.1.1 ∙ outer_in_all t.0 t.1.0)
      ∙ ap (label_count (label_of less)) outer_named
      ∙ sym (label_count-agree (is_outer (names n a b ha hb name one) (open_names n a b ha hb name one)) (label_of whole) (label_of less) (map (λ i. r (outer n i)) (range_with_len 0 (n + n)))
      (contract_agree n a b ha hb name one fs others ends_fs meets)
      (to_All (is_outer (names n a b ha hb name one) (open_names n a b ha hb name one)) (map (λ i. r (outer n i)) (range_with_len 0 (n + n)))
      (λ y m. let t = out_map (λ i. r (outer n i)) (n + n) y m in ap (is_outer (names n a b ha hb name one) (open_names n a b ha hb name one)) t.1.1 ∙ r_outer t.0 t.1.0)))

  outer_fewer : label_count (label_of G) (map (outer n) (range_with_len 0 (n + n))) ≤ label_count (label_of G) all
  outer_fewer =
      distinct_count-le_from_within (map (label_of G) (map (outer n) (range_with_len 0 (n + n)))) (map (label_of G) all)
      (All-map (λ z. is_member ◌==◌ (map (label_of G) all) z ≡ true) (label_of G) (map (outer n) (range_with_len 0 (n + n)))
      (to_All (λ x. is_member ◌==◌ (map (label_of G) all) (label_of G x)) (map (outer n) (range_with_len 0 (n + n)))
      (λ y m. let t = out_map (outer n) (n + n) y m in is_member-map (label_of G) all y (ap (is_member ◌==◌ all) t.1.1 ∙ outer_in_all t.0 t.1.0))))

  pub side_count : label_loops n a b + (label_count (label_of G) all - label_count (label_of G) (map (outer n) (range_with_len 0 (n + n))))
      ≡ label_parts whole (names n a b ha hb name one ++ others) - label_count (label_of whole) (map (λ i. r (outer n i)) (range_with_len 0 (n + n)))
  side_count =
      let c = contract_count n a b ha hb name one fs others ends_fs meets in
      let s = all_count in let t = outer_count in let f = outer_fewer in
      omega (arith, c, s, t, f)
