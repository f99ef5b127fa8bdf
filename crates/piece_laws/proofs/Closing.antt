-- Arcs close: their edges join, and what no edge of the rest meets stays a part of its own. One arc between names of the rest is the case in
-- which nothing closes.
use Rattle.std.proofs.Common.{Bool, ◌≡◌, ℕ, ◌+◌, ◌*◌, ◌^◌, ◌%◌, true, false, cond, not, ◌||◌, ◌==◌, List, [], ◌∷◌, ◌++◌, map, refl, sym, ap, ◌∙◌, arith, inl, ⊎_elim, subst}
use Rattle.std.specs.List.{AllPass, count_by}
use Rattle.std.specs.Set.{is_member, unique_keys}
use Rattle.std.proofs.lemmas.Bool.{or_left, or_right, eq-eqb, cases_Bool}
use Rattle.std.proofs.lemmas.Bool.Decides.{nat_tests}
use Rattle.std.proofs.lemmas.List.{map-append}
use Rattle.std.proofs.lemmas.List.Sums.{sum_by-cons}
use Rattle.std.proofs.lemmas.Nat.{mul-mod_second}
use Rattle.graph_parts.specs.Ends.{EndsAre, AreAmong}
use Rattle.graph_parts.specs.Labels.{label_after, label_of, label_count, Agree}
use Rattle.graph_parts.specs.Parts.{part_count}
use Rattle.graph_parts.specs.Renaming.{renamed}
use Rattle.graph_parts.specs.Walks.{Joined, back, on}
use Rattle.graph_parts.proofs.Agreement.{label_count-agree, Agree-same_edges, eqb_from_iff}
use Rattle.graph_parts.proofs.Counting.{Agree-after, label_after-append, distinct_count-cons, is_member-map}
use Rattle.graph_parts.proofs.Distinct.{is_member-append}
use Rattle.graph_parts.proofs.PartLaws.{AreAmong-renamed}
use Rattle.graph_parts.proofs.Renaming.{label_count-map}
use Rattle.graph_parts.proofs.Through.{alone, member_label}
use Rattle.graph_parts.proofs.Walks.{labels-from_Joined, Joined-from_labels}
use Rattle.state_sums.specs.LocalSums.{rename, arc, weighted_arc}
use Rattle.state_sums.specs.Networks.{names_of}
use Rattle.state_sums.specs.StateSums.{state_sum, value}
use Rattle.state_sums.proofs.NodeNames.{total-rename, names_of-rename, HavePlaces-rename}
use Rattle.state_sums.proofs.StateEdges.{HavePlaces-from_nodes, total_same}
use Rattle.state_sums.proofs.StateSums.{state_sum-labels, state_sum-nested}
use Rattle.state_sums.proofs.Sums.{total}
use Rattle.piece_laws.specs.Arcs.{arcs_of, AreClassLabels, closed_classes}
use Rattle.piece_laws.specs.Laws.{ArcsCloseLaw, ArcJoinsLaw, WeightIsFactorLaw}
use Rattle.piece_laws.proofs.ArcEdges.{arc_edges, arc_edges-within, arc_edges-has, total-arcs, names_of-arcs, HavePlaces-arcs}
use Rattle.graph_parts.specs.Ends.{ends_of}
use Rattle.graph_parts.specs.Renaming.{replaced}
use Rattle.graph_parts.specs.Walks.{along, stay}
use Rattle.graph_parts.proofs.Through.{keeps_Joined}
use Rattle.std.proofs.lemmas.Bool.{eqb-true}
use Rattle.std.proofs.lemmas.List.Elements.{All-cons, All-nil}

pub Agree-class_labels : (pairs : List (ℕ × ℕ)) (label : ℕ → ℕ) → AreClassLabels pairs label → Agree (λ x. true) (label_of (arc_edges pairs)) label
Agree-class_labels pairs label h u v p q =
    Agree-same_edges (λ x. true) (arc_edges pairs) pairs (arc_edges-within pairs) (λ x y c. inl (arc_edges-has pairs x y c)) u v p q
    ∙ eqb_from_iff (label_of pairs u) (label_of pairs v) (label u) (label v)
    (λ e. h.one u v (Joined-from_labels pairs u v e))
    (λ e.
    let P : ℕ → Type 0 = λ z. Joined pairs u z in
    let walk : Joined pairs u v = on (subst P e (h.joined u)) (back (h.joined v)) in
    labels-from_Joined pairs walk)

module _ (others : List ℕ) (es : List (ℕ × ℕ)) (among : AreAmong others es) where
  abbrev M : ℕ → ℕ
  M = label_of es

  unmet : (c : ℕ) (zs : List ℕ) → is_member ◌==◌ others c ≡ false → is_member ◌==◌ zs c ≡ false → is_member ◌==◌ (map M zs) (M c) ≡ false
  unmet c zs out apart = member_label M c zs (λ z k e. let same : c ≡ z = alone (is_member ◌==◌ others) es among c z out e in let t = ap (is_member ◌==◌ zs) same in grind (arith, t, k, apart))

  label_count-front : (ends : List ℕ) →
      label_count M (ends ++ others) ≡ label_count M others + count_by (λ end. not (is_member ◌==◌ others end)) (unique_keys ◌==◌ ends)
  label_count-front [] = omega arith
  label_count-front (c ∷ ends) =
      let ih = label_count-front ends in
      let e = distinct_count-cons (M c) (map M (ends ++ others)) in
      let app = is_member-append ends others c in
      let inside = is_member-map M (ends ++ others) c in
      let met = unmet c (ends ++ others) in
      let f = sum_by-cons (λ end. cond (not (is_member ◌==◌ others end)) 1 0) c (unique_keys ◌==◌ ends) in
      ⊎_elim
      (λ t. let i = inside (app ∙ or_left (is_member ◌==◌ ends c) (is_member ◌==◌ others c) t) in
      grind (arith, ih, e, t, i))
      (λ t. ⊎_elim
      (λ o. let i = inside (app ∙ or_right (is_member ◌==◌ ends c) (is_member ◌==◌ others c) o) in grind (arith, ih, e, t, i, f, o))
      (λ o. let i = met o (app ∙ (let u : (is_member ◌==◌ ends c || is_member ◌==◌ others c) ≡ false = grind (arith, t, o) in u)) in grind (arith, ih, e, t, i, f, o))
      (cases_Bool (is_member ◌==◌ others c)))
      (cases_Bool (is_member ◌==◌ ends c))

everywhere : (es : List (ℕ × ℕ)) → EndsAre (λ u. true) es
everywhere [] = tt
everywhere (e ∷ es) = (refl, refl, everywhere es)

closing_labels : (pairs : List (ℕ × ℕ)) (label : ℕ → ℕ) (others : List ℕ) (es : List (ℕ × ℕ)) → AreAmong others es → AreClassLabels pairs label →
    label_count (label_of (arc_edges pairs ++ es)) (ends_of pairs ++ others)
    ≡ label_count (label_of (map (renamed label) es)) (map label others) + closed_classes label pairs others
closing_labels pairs label others es among h =
    let names = ends_of pairs ++ others in
    let all : (xs : List ℕ) → AllPass (λ u. true) xs = λ xs i d l. refl in
    ap (λ l. label_count l names) (label_after-append (λ x. x) (arc_edges pairs) es)
    ∙ label_count-agree (λ u. true) (label_after (label_of (arc_edges pairs)) es) (label_after label es) names
    (Agree-after (λ u. true) (label_of (arc_edges pairs)) label es (everywhere es) (Agree-class_labels pairs label h)) (all names)
    ∙ sym (label_count-map label es names)
    ∙ ap (label_count (label_of (map (renamed label) es))) (map-append label (ends_of pairs) others)
    ∙ label_count-front (map label others) (map (renamed label) es) (AreAmong-renamed label others es among) (map label (ends_of pairs))

pub none_counted : (p : ℕ → Bool) (xs : List ℕ) → ((x : ℕ) → is_member ◌==◌ xs x ≡ true → p x ≡ false) → count_by p (unique_keys ◌==◌ xs) ≡ 0
none_counted p [] h = refl
none_counted p (x ∷ xs) h =
    let ih = none_counted p xs (λ y m. h y (or_right (y == x) (is_member ◌==◌ xs y) m)) in
    let here = h x (or_left (x == x) (is_member ◌==◌ xs x) (eq-eqb x x refl)) in
    let e = sum_by-cons (λ z. cond (p z) 1 0) x (unique_keys ◌==◌ xs) in
    grind (arith, ih, here, e)

-- ARCS CLOSE
pub arcs_close : ArcsCloseLaw
unfolding value
arcs_close m delta free pairs label rest nodes h =
    let places = HavePlaces-from_nodes rest nodes in
    let closed = closed_classes label pairs (names_of rest) in
    let there : List (ℕ × ℕ) → ℕ = λ es. delta ^ (label_count (label_of es) (names_of (rename label rest)) + (free + closed)) in
    let here : List (ℕ × ℕ) → ℕ = λ es. delta ^ (label_count (label_of es) (names_of (arcs_of pairs ++ rest)) + free) in
    ap (λ n. n % m)
    (state_sum-labels delta (arcs_of pairs ++ rest) free (HavePlaces-arcs pairs rest places)
    ∙ total-arcs pairs rest here
    ∙ total_same rest places (λ es. here (arc_edges pairs ++ es)) (λ es. there (map (renamed label) es))
    (λ es among.
    let a = ap (label_count (label_of (arc_edges pairs ++ es))) (names_of-arcs pairs rest) ∙ closing_labels pairs label (names_of rest) es among h in
    let b = ap (label_count (label_of (map (renamed label) es))) (names_of-rename label rest) in
    ap (λ n. delta ^ n) (omega (arith, a, b)))
    ∙ sym (total-rename label rest places there)
    ∙ sym (state_sum-labels delta (rename label rest) (free + closed) (HavePlaces-rename label rest places)))

-- A WEIGHT IS A FACTOR
pub weight_is_factor : WeightIsFactorLaw
unfolding value
weight_is_factor m delta free w x y rest =
    let f : List (ℕ × ℕ) → ℕ = λ es. delta ^ (part_count (x ∷ y ∷ names_of rest) es + free) in
    let t : ℕ = total rest (λ es. f ((x, y) ∷ (y, x) ∷ es)) in
    let weighted : total (weighted_arc w x y ∷ rest) f ≡ w * t = omega arith in
    let plain : total (arc x y ∷ rest) f ≡ t = omega arith in
    let a : state_sum delta record { nodes = weighted_arc w x y ∷ rest; free_loops = free } ≡ w * t = state_sum-nested delta (weighted_arc w x y ∷ rest) free ∙ weighted in
    let b : state_sum delta record { nodes = arc x y ∷ rest; free_loops = free } ≡ t = state_sum-nested delta (arc x y ∷ rest) free ∙ plain in
    ap (λ n. n % m) a ∙ sym (mul-mod_second w t m) ∙ sym (ap (λ n. w * (n % m) % m) b)

-- ---- one arc
replaced_class : (x y : ℕ) → AreClassLabels ((x, y) ∷ []) (replaced x y)
replaced_class x y = record {
  joined = λ z.
      ⊎_elim
      (λ t. let e : z ≡ x = eqb-true z x t in
      let P : ℕ → Type 0 = λ u. Joined ((x, y) ∷ []) z u in
      let Q : ℕ → Type 0 = λ u. Joined ((x, y) ∷ []) u y in
      subst P (ap (λ b. cond b y z) (sym t)) (subst Q (sym e) (along (0, omega arith, refl))))
      (λ t. let P : ℕ → Type 0 = λ u. Joined ((x, y) ∷ []) z u in subst P (ap (λ b. cond b y z) (sym t)) stay)
      (cases_Bool (z == x));
  one = λ u v walk. keeps_Joined (replaced x y) ((x, y) ∷ []) (All-cons (λ (e : ℕ × ℕ). replaced x y e.0 ≡ replaced x y e.1) (x, y) [] (to_second x y) (All-nil (λ (e : ℕ × ℕ). replaced x y e.0 ≡ replaced x y e.1))) walk;
}
  where
    to_second : (x y : ℕ) → replaced x y x ≡ replaced x y y
    to_second x y = grind (arith, nat_tests)

nothing_closes : (x y : ℕ) (names : List ℕ) → is_member ◌==◌ names y ≡ true → closed_classes (replaced x y) ((x, y) ∷ []) names ≡ 0
nothing_closes x y names m =
    none_counted (λ end. not (is_member ◌==◌ (map (replaced x y) names) end)) (replaced x y x ∷ replaced x y y ∷ [])
    (λ z there.
    let second : replaced x y y ≡ y = grind (arith, nat_tests) in
    let first : replaced x y x ≡ y = grind (arith, nat_tests) in
    let same : z ≡ replaced x y y = grind (arith, nat_tests, there, first, second) in
    let mapped = is_member-map (replaced x y) names y m in
    let e = ap (is_member ◌==◌ (map (replaced x y) names)) same in
    grind (arith, mapped, e))

-- AN ARC JOINS
pub arc_joins : ArcJoinsLaw
arc_joins m delta free x y rest p a b =
    arcs_close m delta free ((x, y) ∷ []) (replaced x y) rest p (replaced_class x y)
    ∙ ap (λ k. value m delta record { nodes = rename (replaced x y) rest; free_loops = k }) (let z = nothing_closes x y (names_of rest) b in omega (arith, z))
