-- R2Undo and CurlUndo keep the value, or multiply it by the curl's factor.
use Rattle.std.proofs.Common.{◌≡◌, ℕ, suc, ◌+◌, ◌*◌, ◌%◌, ◌<◌, Bool, true, false, cond, not, ◌==◌, List, [], ◌∷◌, map, length, slice_index, Some, refl, sym, ap, ◌∙◌, arith}
use Rattle.std.specs.List.{count_by, filter}
use Rattle.std.specs.Set.{unique_keys}
use Rattle.std.proofs.lemmas.Bool.{eqb-true, and_parts}
use Rattle.std.proofs.lemmas.Bool.Decides.{nat_tests}
use Rattle.graph_parts.specs.LeastNames.{least_label}
use Rattle.graph_parts.specs.Walks.{along}
use Rattle.pd_reader.specs.declared.item.Item.{Item}
use Rattle.diagram_brackets.specs.Brackets.{loop_count}
use Rattle.state_sums.specs.LocalSums.{crossing, AreSkeinNumbers}
use Rattle.state_sums.specs.Networks.{Node, names_of}
use Rattle.state_sums.specs.StateSums.{value}
use Rattle.diagram_moves.specs.Rewriting.{slot, around, crossing_at, crossing_labels}
use Rattle.diagram_moves.specs.Moves.{is_bigon, bigon_classes, is_curl, curl_classes, closing, removed, two_labels}
use Rattle.diagram_moves.specs.Laws.{IsPairedDiagram}
use Rattle.diagram_moves.proofs.Corners.{two_corners, two_times, one_corner, one_times, same_crossing, turned_numbers}
use Rattle.diagram_moves.proofs.Nodes.{nodes_of, kept, IsNode-kept, V, corner, first_weight, second_weight}
use Rattle.diagram_moves.proofs.Undone.{closed_value, paired_piece, least_contraction, four_four, all_one}
use Rattle.list_lemmas.specs.Times.{times_in}
use Rattle.graph_parts.specs.Ends.{ends_of}
use Rattle.piece_laws.proofs.PlainMoves.{bigon_anywhere, curl_anywhere}
use Rattle.list_lemmas.proofs.Times.{times_in-append}

-- slots are counted on from 3 to 0
pub wrapped : (slots : List ℕ) (s i : ℕ) → slot slots (s + 3 + suc i) ≡ slot slots (s + i)
wrapped slots s i = ap (slice_index slots) (let e : (s + 3 + suc i) % 4 ≡ (s + i) % 4 = omega arith in e)

module _ (m delta a b : ℕ) (numbers : AreSkeinNumbers m a b delta) (items : List Item) (pd : IsPairedDiagram items)
    (c : ℕ) (here : List ℕ) (found : crossing_at items c ≡ Some here) where
  module _ (d : ℕ) (there : List ℕ) (also : crossing_at items d ≡ Some there) (apart : (d == c) ≡ false)
      (s t : ℕ) (low_s : s < 4) (low_t : t < 4) (test : is_bigon here there (s, t) ≡ true) where
    abbrev k : ℕ
    k = s + 3

    abbrev x : ℕ
    x = slot here s

    abbrev y : ℕ
    y = slot there (t + 1)

    abbrev rest : List Node
    rest = kept a b (d ∷ c ∷ []) 1 items

    low_k : k < 8
    low_k = omega (arith, low_s)

    less_t : t < 8
    less_t = omega (arith, low_t)

    shared_x : slot there t ≡ x
    shared_x = let p = and_parts (slot here s == slot there t) _ test in sym (eqb-true x (slot there t) p.0)

    shared_y : slot here k ≡ y
    shared_y =
        let p = and_parts (slot here s == slot there t) _ test in
        let q = and_parts (slot here (s + 3) == slot there (t + 1)) _ p.1 in
        eqb-true (slot here (s + 3)) y q.0

    parity : (t % 2 == 0) ≡ not (k % 2 == 0)
    parity =
        let p = and_parts (slot here s == slot there t) _ test in
        let q = and_parts (slot here (s + 3) == slot there (t + 1)) _ p.1 in
        let e : s % 2 ≡ t % 2 = eqb-true (s % 2) (t % 2) q.1 in
        let f : (s + 3) % 2 + s % 2 ≡ 1 = omega arith in
        grind (arith, nat_tests, e, f)

    first_turned : first_weight a b t ≡ second_weight a b k
    first_turned = ap (λ z. cond z a b) parity ∙ elim (k % 2 == 0) as (λ z. cond (not z) a b ≡ cond z b a) [ true ↦ refl | false ↦ refl ]

    second_turned : second_weight a b t ≡ first_weight a b k
    second_turned = ap (λ z. cond z b a) parity ∙ elim (k % 2 == 0) as (λ z. cond (not z) b a ≡ cond z a b) [ true ↦ refl | false ↦ refl ]

    here_is : corner a b k here ≡ crossing (first_weight a b k) (second_weight a b k) y x (slot here (s + 1)) (slot here (s + 2))
    here_is = same_crossing refl refl shared_y (wrapped here s 0 ∙ ap (slot here) (let e : s + 0 ≡ s = omega arith in e)) (wrapped here s 1) (wrapped here s 2)

    there_is : corner a b t there ≡ crossing (second_weight a b k) (first_weight a b k) x y (slot there (t + 2)) (slot there (t + 3))
    there_is = same_crossing first_turned second_turned shared_x refl refl refl

    around_here : around k here ≡ y ∷ x ∷ slot here (s + 1) ∷ slot here (s + 2) ∷ []
    around_here =
        let p = shared_y in
        let q : slot here (s + 3 + 1) ≡ x = wrapped here s 0 ∙ ap (slot here) (let e : s + 0 ≡ s = omega arith in e) in
        let r = wrapped here s 1 in let u = wrapped here s 2 in cc

    around_there : around t there ≡ x ∷ y ∷ slot there (t + 2) ∷ slot there (t + 3) ∷ []
    around_there = let p = shared_x in cc

    abbrev olds : List ℕ
    olds = x ∷ y ∷ slot there (t + 2) ∷ slot there (t + 3) ∷ y ∷ x ∷ slot here (s + 1) ∷ slot here (s + 2) ∷ []

    abbrev news : List ℕ
    news = x ∷ slot here (s + 2) ∷ x ∷ slot there (t + 2) ∷ y ∷ slot here (s + 1) ∷ y ∷ slot there (t + 3) ∷ []

    counted : (z : ℕ) → times_in (crossing_labels items) z ≡ times_in olds z + times_in (names_of rest) z
    counted z =
        let total = two_times a b items pd.sizes c here found k low_k d there also apart t less_t z in
        let p = ap (λ ns. times_in ns z) around_here in
        let q = ap (λ ns. times_in ns z) around_there in
        let u : times_in olds z ≡ times_in (x ∷ y ∷ slot there (t + 2) ∷ slot there (t + 3) ∷ []) z + times_in (y ∷ x ∷ slot here (s + 1) ∷ slot here (s + 2) ∷ []) z =
        times_in-append (x ∷ y ∷ slot there (t + 2) ∷ slot there (t + 3) ∷ []) (y ∷ x ∷ slot here (s + 1) ∷ slot here (s + 2) ∷ []) z in
        omega (arith, total, p, q, u)

    pub recounted : (z : ℕ) → times_in (crossing_labels items) z ≡ times_in news z + times_in (names_of rest) z
    recounted z = let e = counted z in let same : times_in news z ≡ times_in olds z = omega arith in omega (arith, e, same)

    classes_counted : (p : ℕ → Bool) →
        count_by p (unique_keys ◌==◌ (map (least_label (bigon_classes here there (s, t))) (ends_of (bigon_classes here there (s, t)))))
        ≡ length (filter p (two_labels (least_label (bigon_classes here there (s, t)) x) (least_label (bigon_classes here there (s, t)) y)))
    classes_counted p =
        let pairs = bigon_classes here there (s, t) in
        let label : ℕ → ℕ = least_label pairs in
        let rules = least_contraction pairs in
        let e1 : label x ≡ label (slot here (s + 2)) = rules.one x (slot here (s + 2)) (along (0, omega arith, refl)) in
        let e2 : label x ≡ label (slot there (t + 2)) = rules.one x (slot there (t + 2)) (along (1, omega arith, refl)) in
        let e3 : label y ≡ label (slot here (s + 1)) = rules.one y (slot here (s + 1)) (along (2, omega arith, refl)) in
        let e4 : label y ≡ label (slot there (t + 3)) = rules.one y (slot there (t + 3)) (along (3, omega arith, refl)) in
        let same : map label (ends_of pairs) ≡ label x ∷ label x ∷ label x ∷ label x ∷ label y ∷ label y ∷ label y ∷ label y ∷ [] = cc in
        ap (λ ns. count_by p (unique_keys ◌==◌ ns)) same ∙ four_four p (label x) (label y)

    -- R2UNDO KEEPS THE VALUE
    pub pulled_value :
        value m delta record { nodes = nodes_of a b items; free_loops = loop_count items }
        ≡ value m delta record {
          nodes = nodes_of a b (closing (least_label (bigon_classes here there (s, t))) x y (removed (d ∷ c ∷ []) (least_label (bigon_classes here there (s, t))) items));
          free_loops = loop_count (closing (least_label (bigon_classes here there (s, t))) x y (removed (d ∷ c ∷ []) (least_label (bigon_classes here there (s, t))) items));
        }
    pulled_value =
        let free = loop_count items in
        let u = first_weight a b k in
        let v = second_weight a b k in
        two_corners a b items pd.sizes c here found k low_k d there also apart t less_t m delta free
        ∙ ap (λ n. V a b m delta free (n ∷ corner a b k here ∷ rest)) there_is
        ∙ ap (λ n. V a b m delta free (crossing v u x y (slot there (t + 2)) (slot there (t + 3)) ∷ n ∷ rest)) here_is
        ∙ bigon_anywhere m u v delta (turned_numbers m a b delta numbers (k % 2 == 0)) free rest (IsNode-kept a b (d ∷ c ∷ []) 1 items pd.sizes)
        x y (slot here (s + 1)) (slot here (s + 2)) (slot there (t + 2)) (slot there (t + 3)) (paired_piece items pd olds (names_of rest) counted)
        ∙ closed_value m delta a b items (d ∷ c ∷ []) (bigon_classes here there (s, t)) x y pd.sizes classes_counted

  module _ (s : ℕ) (low_s : s < 4) (test : is_curl here s ≡ true) (w : ℕ) (factor : (w + first_weight a b s * first_weight a b s * first_weight a b s) % m ≡ 0 % m) where
    abbrev loop : ℕ
    loop = slot here s

    abbrev others : List Node
    others = kept a b (c ∷ []) 1 items

    less_s : s < 8
    less_s = omega (arith, low_s)

    curls : slot here (s + 1) ≡ loop
    curls = sym (eqb-true (slot here s) (slot here (s + 1)) test)

    curl_is : corner a b s here ≡ crossing (first_weight a b s) (second_weight a b s) loop loop (slot here (s + 2)) (slot here (s + 3))
    curl_is = same_crossing refl refl refl curls refl refl

    around_curl : around s here ≡ loop ∷ loop ∷ slot here (s + 2) ∷ slot here (s + 3) ∷ []
    around_curl = let p = curls in cc

    curl_counted : (z : ℕ) → times_in (crossing_labels items) z ≡ times_in (loop ∷ loop ∷ slot here (s + 2) ∷ slot here (s + 3) ∷ []) z + times_in (names_of others) z
    curl_counted z =
        let total = one_times a b items pd.sizes c here found s less_s z in
        let p = ap (λ ns. times_in ns z) around_curl in
        omega (arith, total, p)

    pub curl_recounted : (z : ℕ) → times_in (crossing_labels items) z ≡ times_in (loop ∷ slot here (s + 2) ∷ loop ∷ slot here (s + 3) ∷ []) z + times_in (names_of others) z
    curl_recounted z =
        let e = curl_counted z in
        let same : times_in (loop ∷ slot here (s + 2) ∷ loop ∷ slot here (s + 3) ∷ []) z ≡ times_in (loop ∷ loop ∷ slot here (s + 2) ∷ slot here (s + 3) ∷ []) z = omega arith in
        omega (arith, e, same)

    curl_class : (p : ℕ → Bool) →
        count_by p (unique_keys ◌==◌ (map (least_label (curl_classes here s)) (ends_of (curl_classes here s))))
        ≡ length (filter p (two_labels (least_label (curl_classes here s) loop) (least_label (curl_classes here s) loop)))
    curl_class p =
        let pairs = curl_classes here s in
        let label : ℕ → ℕ = least_label pairs in
        let rules = least_contraction pairs in
        let e1 : label loop ≡ label (slot here (s + 2)) = rules.one loop (slot here (s + 2)) (along (0, omega arith, refl)) in
        let e2 : label loop ≡ label (slot here (s + 3)) = rules.one loop (slot here (s + 3)) (along (1, omega arith, refl)) in
        let same : map label (ends_of pairs) ≡ label loop ∷ label loop ∷ label loop ∷ label loop ∷ [] = cc in
        ap (λ ns. count_by p (unique_keys ◌==◌ ns)) same ∙ all_one p (label loop)

    -- CURLUNDO TAKES THE CURL'S FACTOR AWAY
    pub uncurled_value :
        value m delta record { nodes = nodes_of a b items; free_loops = loop_count items }
        ≡ w * value m delta record {
          nodes = nodes_of a b (closing (least_label (curl_classes here s)) loop loop (removed (c ∷ []) (least_label (curl_classes here s)) items));
          free_loops = loop_count (closing (least_label (curl_classes here s)) loop loop (removed (c ∷ []) (least_label (curl_classes here s)) items));
        } % m
    uncurled_value =
        let free = loop_count items in
        let u = first_weight a b s in
        let v = second_weight a b s in
        one_corner a b items pd.sizes c here found s less_s m delta free
        ∙ ap (λ n. V a b m delta free (n ∷ others)) curl_is
        ∙ curl_anywhere m u v delta (turned_numbers m a b delta numbers (s % 2 == 0)) free others (IsNode-kept a b (c ∷ []) 1 items pd.sizes)
        w loop (slot here (s + 2)) (slot here (s + 3)) factor (paired_piece items pd (loop ∷ loop ∷ slot here (s + 2) ∷ slot here (s + 3) ∷ []) (names_of others) curl_counted)
        ∙ ap (λ n. w * n % m) (closed_value m delta a b items (c ∷ []) (curl_classes here s) loop loop pd.sizes curl_class)
