-- A box closed on itself: both ends of each strand have one name, so each pairing of its terms makes as many loops as its closure.
use Rattle.std.proofs.Common.{inl, ◌≡◌, ℕ, zero, suc, ◌+◌, ◌-◌, ◌*◌, ◌<◌, ◌≤◌, ◌==◌, nat_lt, Bool, true, if◌then◌else◌, List, [], ◌∷◌, ◌++◌, map, length, reverse, get_or, sym, ap, ap₂, ◌∙◌, arith, ⊎_elim, Contains, All}
use Rattle.std.specs.List.{range_with_len, AllPass}
use Rattle.std.specs.Set.{is_member}
use Rattle.std.proofs.lemmas.Bool.{cases_Bool}
use Rattle.std.proofs.lemmas.Bool.Decides.{nat_tests}
use Rattle.std.proofs.lemmas.Grind.{get_or_default_zero}
use Rattle.std.proofs.lemmas.List.{ext_get_or, get_or-reverse, get_or_append_left, get_or-append_right, length-reverse, map-append}
use Rattle.std.proofs.lemmas.List.Elements.{Contains-append_left, Contains-append_right, Contains-append_cases}
use Rattle.std.proofs.lemmas.List.FromFn.{length-range_with_len, length-map-range_with_len}
use Rattle.std.proofs.Common.{length-append}
use Rattle.graph_parts.specs.Ends.{EndsAre}
use Rattle.graph_parts.specs.Labels.{label_of, label_after, label_count, Agree}
use Rattle.graph_parts.specs.Renaming.{renamed}
use Rattle.graph_parts.proofs.Agreement.{label_count-agree, to_All}
use Rattle.graph_parts.proofs.Counting.{label_after-append, Agree-after}
use Rattle.graph_parts.proofs.Renaming.{label_count-map}
use Rattle.arc_gluing.specs.Pairings.{pair_edges}
use Rattle.arc_gluing.proofs.SlotNames.{pair_edges-map}
use Rattle.strand_algebra.specs.StrandPairings.{closure_loops}
use Rattle.strand_algebra.proofs.ByLabels.{closure_loops-labels, pair_edges-pairs}
use Rattle.strand_algebra.proofs.Contractions.{EndsAre-named}
use Rattle.strand_algebra.proofs.LabelProducts.{pairs, closed_edges, IsPairingOf}
use Rattle.std.proofs.Common.{◌≡◌, ℕ, zero, suc, ◌+◌, ◌*◌, ◌%◌, ◌^◌, ◌<◌, ◌≤◌, List, [], ◌∷◌, ◌++◌, length, reverse, sym, ap, ap₂, ◌∙◌, arith, All, append-nil}
use Rattle.state_sums.specs.Networks.{Node, Term, IsPairing, IsNode}
use Rattle.state_sums.specs.StateSums.{value}
use Rattle.state_sums.proofs.StateEdges.{HavePlaces-from_nodes, sum_by_all}
use Rattle.state_sums.proofs.StateSums.{state_sum-labels}
use Rattle.graph_parts.specs.Labels.{label_of, label_count}
use Rattle.strand_algebra.specs.Elements.{IsElement}
use Rattle.strand_algebra.specs.Noncrossing.{noncrossing}
use Rattle.strand_algebra.specs.Laws.{IsNoncrossingOn}
use Rattle.strand_algebra.proofs.LabelProducts.{IsPairingOf}
use Rattle.strand_algebra.proofs.ByLabels.{IsPairingOn-from_points}
use Rattle.strand_algebra.proofs.PairingLaws.{pairing_of, noncrossing_list}
use Rattle.std.proofs.lemmas.List.{length-reverse}
use Rattle.std.proofs.lemmas.List.Elements.{All-nil, All-cons, All-weaker, All-head, All-tail}
use Rattle.std.proofs.lemmas.List.FromFn.{length-map-range_with_len}
use Rattle.std.proofs.Common.{length-append, map}
use Rattle.graph_parts.proofs.Agreement.{Agree-same_edges}
use Rattle.list_lemmas.proofs.Bools.{same_bool}
use Rattle.list_lemmas.proofs.Ranges.{range_push, is_member-range}
use Rattle.std.proofs.lemmas.Bool.{eq-eqb, eqb-true}
use Rattle.std.proofs.lemmas.List.FromFn.{get_or-map-range_with_len}
use Rattle.box_laws.specs.Laws.{ClosedBoxLaw}

at_range : (f : ℕ → ℕ) (n i : ℕ) → i < n → get_or (map f (range_with_len 0 n)) i 0 ≡ f i
at_range f n i l = get_or-map-range_with_len f 0 n i i 0 l (omega arith)

-- ---- the closing edges give bottom points their tops' labels
abbrev closing : ℕ → ℕ → List (ℕ × ℕ)
closing n k = map (λ i. (i, n + n - 1 - i)) (range_with_len 0 k)

abbrev topped : ℕ → ℕ → ℕ → ℕ
topped n k u = if nat_lt u k then n + n - 1 - u else u

one_step : (n k u lu lk lt : ℕ) → k < n → u < n + n → lu ≡ topped n k u → lk ≡ k → lt ≡ n + n - 1 - k → (if lu == lk then lt else lu) ≡ topped n (k + 1) u
one_step n k u lu lk lt h b e f g = grind (arith, nat_tests, h, b, e, f, g)

closing_label : (n k u : ℕ) → k ≤ n → u < n + n → label_of (closing n k) u ≡ topped n k u
closing_label n zero u h b = none n u
  where
    none : (n u : ℕ) → u ≡ topped n 0 u
    none n u = grind (arith, nat_tests)
closing_label n (suc k) u h b =
    let z : suc k ≡ k + 1 = omega arith in
    let split : closing n (suc k) ≡ closing n k ++ (k, n + n - 1 - k) ∷ [] =
    ap (closing n) z ∙ ap (map (λ i. (i, n + n - 1 - i))) (range_push k) ∙ map-append (λ i. (i, n + n - 1 - i)) (range_with_len 0 k) (k ∷ []) in
    let l : ℕ → ℕ = label_of (closing n k) in
    let eu : l u ≡ topped n k u = closing_label n k u (omega arith) b in
    let ek : l k ≡ k = closing_label n k k (omega arith) (omega (arith, h)) ∙ low n k in
    let et : l (n + n - 1 - k) ≡ n + n - 1 - k = closing_label n k (n + n - 1 - k) (omega arith) (omega (arith, h)) ∙ high n k h in
    ap (λ es. label_of es u) split
    ∙ ap (λ f. f u) (label_after-append (λ x. x) (closing n k) ((k, n + n - 1 - k) ∷ []))
    ∙ one_step n k u (l u) (l k) (l (n + n - 1 - k)) (omega arith) b eu ek et
    ∙ ap (λ j. topped n j u) (sym z)
  where
    low : (n k : ℕ) → topped n k k ≡ k
    low n k = grind (arith, nat_tests)

    high : (n k : ℕ) → suc k ≤ n → topped n k (n + n - 1 - k) ≡ n + n - 1 - k
    high n k h = grind (arith, nat_tests, h)

module _ (n : ℕ) (base : ℕ → ℕ) (one : (i j : ℕ) → i < n → j < n → base i ≡ base j → i ≡ j) where
  -- the strand of a point of the box
  abbrev strand : ℕ → ℕ
  strand i = if nat_lt i n then i else n + n - 1 - i

  abbrev name : ℕ → ℕ
  name i = base (strand i)

  abbrev pub named : List ℕ
  named = map base (range_with_len 0 n)

  names_are : named ++ reverse (named) ≡ map name (range_with_len 0 (n + n))
  names_are =
      let f : ℕ → ℕ = base in
      let xs = map f (range_with_len 0 n) in
      let lx = length-map-range_with_len f 0 n in
      let lr = length-reverse xs in
      let la = length-append xs (reverse xs) in
      let lm = length-map-range_with_len name 0 (n + n) in
      ext_get_or 0 (xs ++ reverse xs) (map name (range_with_len 0 (n + n))) (omega (arith, lx, lr, la, lm)) (λ i b.
      let bn : i < n + n = omega (arith, b, lx, lr, la) in
      ⊎_elim
      (λ t.
      let lt : i < n = grind (arith, nat_tests, t) in
      get_or_append_left xs (reverse xs) 0 i (omega (arith, lt, lx)) ∙ at_range f n i lt ∙ sym (at_range name (n + n) i bn ∙ ap (λ c. base (if c then i else n + n - 1 - i)) t))
      (λ t.
      let ge : n ≤ i = grind (arith, nat_tests, t) in
      get_or-append_right xs (reverse xs) n i 0 lx ge
      ∙ get_or-reverse xs (i - n) 0 (omega (arith, lx, ge, bn))
      ∙ (let z : length xs - 1 - (i - n) ≡ n + n - 1 - i = omega (arith, lx, ge, bn) in ap (λ k. get_or xs k 0) z)
      ∙ at_range f n (n + n - 1 - i) (omega (arith, ge, bn))
      ∙ sym (at_range name (n + n) i bn ∙ ap (λ c. base (if c then i else n + n - 1 - i)) t))
      (cases_Bool (nat_lt i n)))

  plain : (b c : Bool) → (b ≡ true → c ≡ true) → (c ≡ true → b ≡ true) → c ≡ b
  plain b c h k = same_bool c b k h

  tops : (u v : ℕ) → u < n + n → v < n + n → (strand u == strand v) ≡ (topped n n u == topped n n v)
  tops u v a b = grind (arith, nat_tests, a, b)

  told : (u v : ℕ) → u < n + n → v < n + n → (name u == name v) ≡ (topped n n u == topped n n v)
  told u v a b =
      let low_u : strand u < n = grind (arith, nat_tests, a) in
      let low_v : strand v < n = grind (arith, nat_tests, b) in
      let apart = one (strand u) (strand v) low_u low_v in
      let same : strand u ≡ strand v → name u ≡ name v = λ e. ap base e in
      plain (strand u == strand v) (name u == name v) (λ t. eq-eqb (name u) (name v) (same (eqb-true (strand u) (strand v) t))) (λ t. eq-eqb (strand u) (strand v) (apart (eqb-true (name u) (name v) t))) ∙ tops u v a b

  below_range : (x : ℕ) → is_member ◌==◌ (range_with_len 0 (n + n)) x ≡ true → x < n + n
  below_range x m = (let h = member_below 0 (n + n) x m in omega (arith, h))
    where
      member_below : (a k x : ℕ) → is_member ◌==◌ (range_with_len a k) x ≡ true → x < a + k
      member_below a zero x h = absurd (grind (arith, h))
      member_below a (suc k) x h = let ih = member_below (a + 1) k x in grind (arith, nat_tests, ih, h)

  module _ (p : List ℕ) (hp : IsPairingOf (n + n) p) where
    abbrev inside : ℕ → Bool
    inside = is_member ◌==◌ (range_with_len 0 (n + n))

    agree : Agree inside name (label_of (closing n n))
    agree u v hu hv =
        let a = below_range u hu in let b = below_range v hv in
        told u v a b ∙ sym (ap₂ (λ x y. x == y) (closing_label n n u (omega arith) a) (closing_label n n v (omega arith) b))

    ends : EndsAre inside (pairs 0 p)
    ends = EndsAre-named inside (λ i. 0 + i) (n + n) p hp (λ i b. is_member-range 0 (n + n) (0 + i) (omega arith) (omega arith))

    turned_about : (es fs : List (ℕ × ℕ)) (e : ℕ × ℕ) → Contains (es ++ fs) e → Contains (fs ++ es) e
    turned_about es fs e c = ⊎_elim (λ h. Contains-append_right fs es e h) (λ h. Contains-append_left fs es e h) (Contains-append_cases es fs e c)

    -- the labels of the names by the pairs are those of the points by the closure
    same_count : label_count (label_after name (pairs 0 p)) (range_with_len 0 (n + n)) ≡ label_count (label_of (closed_edges n p)) (range_with_len 0 (n + n))
    same_count =
        let all = range_with_len 0 (n + n) in
        let every : AllPass inside all = to_All inside all (λ x m. m) in
        label_count-agree inside (label_after name (pairs 0 p)) (label_after (label_of (closing n n)) (pairs 0 p)) all (Agree-after inside name (label_of (closing n n)) (pairs 0 p) ends agree) every
        ∙ ap (λ l. label_count l all) (sym (label_after-append (λ x. x) (closing n n) (pairs 0 p)))
        ∙ label_count-agree inside (label_of (closing n n ++ pairs 0 p)) (label_of (closed_edges n p)) all
        (Agree-same_edges inside (closing n n ++ pairs 0 p) (closed_edges n p) (λ x y c. inl (turned_about (closing n n) (pairs 0 p) (x, y) c)) (λ x y c. inl (turned_about (pairs 0 p) (closing n n) (x, y) c))) every

    all_places : All (λ place. place < length (range_with_len 0 (n + n))) p
    all_places i d b =
        let l = length-range_with_len 0 (n + n) in
        let s = hp.length_is in
        let w = hp.stays i (omega (arith, s, b)) in
        let same = get_or_default_zero p i d b in
        omega (arith, l, w, same)

    -- THE LOOPS OF EACH PAIRING
    pub closed_pairing :
        label_count (label_of (pair_edges (named ++ reverse (named)) p)) (named ++ reverse (named)) ≡ closure_loops n p
    closed_pairing =
        let all = range_with_len 0 (n + n) in
        ap (λ xs. label_count (label_of (pair_edges xs p)) xs) names_are
        ∙ ap (λ es. label_count (label_of es) (map name all)) (pair_edges-map name all p all_places ∙ ap (map (renamed name)) (pair_edges-pairs 0 (n + n) p hp))
        ∙ label_count-map name (pairs 0 p) all
        ∙ same_count
        ∙ sym (closure_loops-labels n p hp)

-- the terms of an element are pairings
mapped_all : (P : List ℕ → Type 0) (xs : List Term) (ps : List (List ℕ)) → map (λ term. term.partner) xs ≡ ps → All P ps → All (λ (term : Term). P term.partner) xs
mapped_all P xs ps e a = go xs (rw e a)
  where
    go : (xs : List Term) → All P (map (λ (term : Term). term.partner) xs) → All (λ (term : Term). P term.partner) xs
    go [] a = All-nil (λ (term : Term). P term.partner)
    go (x ∷ xs) a = All-cons (λ (term : Term). P term.partner) x xs (All-head P x.partner (map (λ (term : Term). term.partner) xs) a) (go xs (All-tail P x.partner (map (λ (term : Term). term.partner) xs) a))

pub element_pairings : (m n : ℕ) (f : List Term) → IsElement m n f → All (λ (term : Term). IsPairingOf (n + n) term.partner) f
element_pairings m n f e =
    mapped_all (IsPairingOf (n + n)) f (noncrossing n) e.partners (All-weaker (IsNoncrossingOn n) (IsPairingOf (n + n)) (λ p h. pairing_of n p h) (noncrossing n) (noncrossing_list n).only)

-- A BOX CLOSED ON ITSELF
pub closed_box : ClosedBoxLaw
unfolding value
closed_box m d n group f base e one =
    let xs = named n base one in
    let node : Node = record { group = group; ends = xs ++ reverse xs; terms = f } in
    let pairings = element_pairings m n f e in
    let ends_length : n + n ≡ length (xs ++ reverse xs) =
    (let a = length-append xs (reverse xs) in let b = length-reverse xs in let c = length-map-range_with_len base 0 n in omega (arith, a, b, c)) in
    let is_node : IsNode node =
    All-weaker (λ (term : Term). IsPairingOf (n + n) term.partner) (λ (term : Term). IsPairing term.partner × (length term.partner ≡ length (xs ++ reverse xs)))
    (λ term h. ((IsPairingOn-from_points n term.partner h).is_pairing, h.length_is ∙ ends_length)) f pairings in
    ap (λ k. k % m)
    (state_sum-labels d (node ∷ []) 0 (HavePlaces-from_nodes (node ∷ []) (All-cons IsNode node [] is_node (All-nil IsNode)))
    ∙ sum_by_all (λ (term : Term). IsPairingOf (n + n) term.partner) _ (λ term. term.weight * d ^ closure_loops n term.partner) f pairings
    (λ term h.
    ap (λ k. term.weight * d ^ k)
    (ap₂ (λ es ns. label_count (label_of es) ns + 0) (append-nil (pair_edges (xs ++ reverse xs) term.partner)) (append-nil (xs ++ reverse xs))
    ∙ (let c = closed_pairing n base one term.partner h in omega (arith, c)))))
