-- One more order of the open names: each pairing is written in another way, and no two in the same way.
use Rattle.std.proofs.Common.{◌≡◌, ◌≢◌, ℕ, ◌+◌, ◌≤◌, ◌<◌, true, false, cond, ⊎_elim, List, [], ◌∷◌, ◌++◌, map, length, slice_index, refl, sym, ap, subst, ◌∙◌, arith}
use Rattle.std.specs.List.{All, flat_map}
use Rattle.std.proofs.lemmas.List.Concat.{flat_map-cons}
use Rattle.std.specs.Set.{is_member, distinct_count, unique_keys}
use Rattle.std.specs.Str.{bytes_eq}
use Rattle.std.proofs.lemmas.Bool.{or_left, or_right, or_cases}
use Rattle.std.proofs.lemmas.Bool.Decides.{nat_tests}
use Rattle.std.proofs.lemmas.List.{get_or-map, length-map}
use Rattle.std.proofs.lemmas.List.Elements.{All-head, All-tail, All-cons, All-nil, All-weaker, All-append, All-map}
use Rattle.std.proofs.lemmas.Slice.Eq.{bytes_eq-Decides}
use Rattle.graph_parts.specs.Walks.{Joined}
use Rattle.graph_parts.proofs.Ends.{is_member-get_or}
use Rattle.state_sums.specs.Networks.{Node, Term, names_of}
use Rattle.state_sums.specs.StateSums.{states, state_edges, term_edges}
use Rattle.arc_gluing.specs.Pairings.{AreOpen, IsPairedBy, partners_of}
use Rattle.arc_gluing.specs.Seams.{place_in}
use Rattle.arc_gluing.specs.Mates.{label_partners}
use Rattle.arc_gluing.proofs.ByParts.{IsPairedBy-from_labels, partners_of-labels}
use Rattle.arc_gluing.proofs.Choices.{AllChoices}
use Rattle.arc_gluing.proofs.EachState.{each_choice}
use Rattle.arc_gluing.proofs.GluingLaws.{open_among, one_pairing_by_parts}
use Rattle.arc_gluing.proofs.OneNode.{IsChoice, AreOnce-open}
use Rattle.arc_gluing.proofs.Places.{AreOnce, place_in-at, place_in-found}
use Rattle.kept_seams.specs.AnyOrder.{pairings_by, reordered, ReorderedLaw, SameCountLaw}
use Rattle.list_lemmas.proofs.Times.{times_of_member}

module _ (names one other : List ℕ) (h : AreOpen names one) (k : AreOpen names other) where
  once_one : AreOnce one
  once_one = AreOnce-open names one h

  once_other : AreOnce other
  once_other = AreOnce-open names other k

  in_one : (i : ℕ) → i < length other → (place_in one (slice_index other i) < length one) × (slice_index one (place_in one (slice_index other i)) ≡ slice_index other i)
  in_one i l =
      let x = slice_index other i in
      let t = times_of_member x other (is_member-get_or other i l) in let a = h.once x in let b = k.once x in
      place_in-found one once_one x (grind (arith, nat_tests, t, a, b))

  in_other : (i : ℕ) → i < length one → (place_in other (slice_index one i) < length other) × (slice_index other (place_in other (slice_index one i)) ≡ slice_index one i)
  in_other i l =
      let x = slice_index one i in
      let t = times_of_member x one (is_member-get_or one i l) in let a = h.once x in let b = k.once x in
      place_in-found other once_other x (grind (arith, nat_tests, t, a, b))

  module _ (edges : List (ℕ × ℕ)) (p : List ℕ) (paired : IsPairedBy edges one p) where
    abbrev from : ℕ → ℕ
    from i = place_in one (slice_index other i)

    long : length (reordered one other p) ≡ length other
    long = length-map other (λ x. place_in other (slice_index one (slice_index p (place_in one x))))

    partner_in : (i : ℕ) → i < length other → slice_index p (place_in one (slice_index other i)) < length one
    partner_in i l = let w = paired.whole in let f = (in_one i l).0 in let g = paired.is_pairing.within (place_in one (slice_index other i)) (omega (arith, w, f)) in omega (arith, w, g)

    at : (i : ℕ) → i < length other → slice_index (reordered one other p) i ≡ place_in other (slice_index one (slice_index p (place_in one (slice_index other i))))
    at i l = get_or-map (λ x. place_in other (slice_index one (slice_index p (place_in one x)))) other i 0 0 l

    within : (i : ℕ) → i < length other → slice_index (reordered one other p) i < length other
    within i l = let e = at i l in let f = (in_other (slice_index p (place_in one (slice_index other i))) (partner_in i l)).0 in omega (arith, e, f)

    named : (i : ℕ) → i < length other → slice_index other (slice_index (reordered one other p) i) ≡ slice_index one (slice_index p (place_in one (slice_index other i)))
    named i l = ap (slice_index other) (at i l) ∙ (in_other (slice_index p (place_in one (slice_index other i))) (partner_in i l)).1

    -- the place in the first order of the partner's name
    back_from : (i : ℕ) → i < length other → place_in one (slice_index other (slice_index (reordered one other p) i)) ≡ slice_index p (place_in one (slice_index other i))
    back_from i l = ap (place_in one) (named i l) ∙ place_in-at one once_one (slice_index p (place_in one (slice_index other i))) (partner_in i l)

    point : (i : ℕ) → i < length other → place_in one (slice_index other i) < length p
    point i l = let w = paired.whole in let f = (in_one i l).0 in omega (arith, w, f)

    apart : (i : ℕ) → i < length other → slice_index (reordered one other p) i ≢ i
    apart i l e = paired.is_pairing.apart (place_in one (slice_index other i)) (point i l) (sym (back_from i l) ∙ ap (λ j. place_in one (slice_index other j)) e)

    back : (i : ℕ) → i < length other → slice_index (reordered one other p) (slice_index (reordered one other p) i) ≡ i
    back i l =
        at (slice_index (reordered one other p) i) (within i l)
        ∙ ap (λ j. place_in other (slice_index one (slice_index p j))) (back_from i l)
        ∙ ap (λ j. place_in other (slice_index one j)) (paired.is_pairing.back (place_in one (slice_index other i)) (point i l))
        ∙ ap (place_in other) ((in_one i l).1) ∙ place_in-at other once_other i l

    joined : (i : ℕ) → i < length other → Joined edges (slice_index other i) (slice_index other (slice_index (reordered one other p) i))
    joined i l =
        let P : ℕ → Type 0 = λ x. Joined edges x (slice_index other (slice_index (reordered one other p) i)) in
        let Q : ℕ → Type 0 = λ y. Joined edges (slice_index one (place_in one (slice_index other i))) y in
        subst P ((in_one i l).1) (subst Q (sym (named i l)) (paired.joined (place_in one (slice_index other i)) ((in_one i l).0)))

    only : (i j : ℕ) → i < length other → j < length other → Joined edges (slice_index other i) (slice_index other j) → j ≢ i → j ≡ slice_index (reordered one other p) i
    only i j li lj walk apart =
        let P : ℕ → Type 0 = λ x. Joined edges x (slice_index one (place_in one (slice_index other j))) in
        let Q : ℕ → Type 0 = λ y. Joined edges (slice_index other i) y in
        let moved = subst P (sym ((in_one i li).1)) (subst Q (sym ((in_one j lj).1)) walk) in
        let other_place : place_in one (slice_index other j) ≢ place_in one (slice_index other i) =
        (λ e. apart (once_other j i lj li (sym ((in_one j lj).1) ∙ ap (slice_index one) e ∙ (in_one i li).1))) in
        let is = paired.only (place_in one (slice_index other i)) (place_in one (slice_index other j)) ((in_one i li).0) ((in_one j lj).0) moved other_place in
        sym (place_in-at other once_other j lj) ∙ ap (place_in other) (sym ((in_one j lj).1)) ∙ ap (λ n. place_in other (slice_index one n)) is ∙ sym (at i li)

    pub IsPairedBy-reordered : IsPairedBy edges other (reordered one other p)
    IsPairedBy-reordered = record {
      whole = long;
      is_pairing = record {
        within = λ i l. let w = long in let f = within i (omega (arith, w, l)) in omega (arith, w, f);
        apart = λ i l. apart i (let w = long in omega (arith, w, l));
        back = λ i l. back i (let w = long in omega (arith, w, l));
      };
      joined = joined;
      only = only;
    }

map_where : {A B : Type 0} (P : A → Type 0) (f g : A → B) (xs : List A) → All P xs → ((x : A) → P x → f x ≡ g x) → map f xs ≡ map g xs
map_where P f g [] h k = refl
map_where P f g (x ∷ xs) h k = let e = k x (All-head P x xs h) in let ih = map_where P f g xs (All-tail P x xs h) k in cc (e, ih)

map_then : {A B C : Type 0} (f : A → B) (g : B → C) (xs : List A) → map g (map f xs) ≡ map (λ x. g (f x)) xs
map_then f g [] = refl
map_then f g (x ∷ xs) = let ih = map_then f g xs in cc ih

-- ---- what holds of every choice holds of every state
All-flat_map : {X Y : Type 0} (P : Y → Type 0) (f : X → List Y) (xs : List X) → All (λ x. All P (f x)) xs → All P (flat_map f xs)
All-flat_map P f [] a = All-nil P
All-flat_map P f (x ∷ xs) a =
    rw (flat_map-cons f x xs) (All-append P (f x) (flat_map f xs) (All-head (λ y. All P (f y)) x xs a) (All-flat_map P f xs (All-tail (λ y. All P (f y)) x xs a)))

abbrev IsState : List Node → (List (ℕ × ℕ) → Type 0) → List Term → Type 0
IsState nodes Q state = Q (state_edges nodes state)

each_state : (nodes : List Node) (Q : List (ℕ × ℕ) → Type 0) → AllChoices nodes Q → All (IsState nodes Q) (states nodes)
each_state [] Q a = All-cons (IsState [] Q) [] [] a (All-nil (IsState [] Q))
each_state (node ∷ nodes) Q a =
    All-flat_map (IsState (node ∷ nodes) Q) (λ term. map (λ rest. term ∷ rest) (states nodes)) node.terms
    (All-weaker (λ term. AllChoices nodes (λ es. Q (term_edges node term ++ es))) (λ term. All (IsState (node ∷ nodes) Q) (map (λ rest. term ∷ rest) (states nodes)))
    (λ term b. All-map (IsState (node ∷ nodes) Q) (λ rest. term ∷ rest) (states nodes) (each_state nodes (λ es. Q (term_edges node term ++ es)) b)) node.terms a)

-- EACH STATE'S PAIRING IN THE OTHER ORDER
pub reordered_states : ReorderedLaw
reordered_states nodes one other ok few h k =
    let names = names_of nodes in
    let by : List ℕ → List Term → List ℕ = λ order state. partners_of (names_of nodes) (state_edges nodes state) order in
    map_where (IsState nodes (IsChoice names one)) (by other) (λ state. reordered one other (by one state)) (states nodes) (each_state nodes (IsChoice names one) (each_choice nodes one ok few h))
    (λ state choice.
    let es = state_edges nodes state in
    let P : List ℕ → Type 0 = λ p. IsPairedBy es one p in
    let paired : IsPairedBy es one (by one state) = subst P (sym (partners_of-labels names es choice.inside one (open_among names one h))) (IsPairedBy-from_labels es one (label_partners es one) choice.paired) in
    one_pairing_by_parts names other (reordered one other (by one state)) es choice.inside k (IsPairedBy-reordered names one other h k es (by one state) paired))
    ∙ sym (map_then (by one) (reordered one other) (states nodes))

-- what is mapped has no more different members
member_mapped : (f : List ℕ → List ℕ) (xs : List (List ℕ)) (x : List ℕ) → is_member bytes_eq xs x ≡ true → is_member bytes_eq (map f xs) (f x) ≡ true
member_mapped f [] x m = m
member_mapped f (y ∷ xs) x m =
    ⊎_elim
    (λ e. or_left (bytes_eq (f x) (f y)) (is_member bytes_eq (map f xs) (f x)) (equal (f x) (f y) (ap f (same x y e))))
    (λ r. or_right (bytes_eq (f x) (f y)) (is_member bytes_eq (map f xs) (f x)) (member_mapped f xs x r))
    (or_cases (bytes_eq x y) (is_member bytes_eq xs x) m)
  where
    same : (u v : List ℕ) → bytes_eq u v ≡ true → u ≡ v
    same u v e = let d = bytes_eq-Decides u v in grind (arith, d, e)

    equal : (u v : List ℕ) → u ≡ v → bytes_eq u v ≡ true
    equal u v e = let d = bytes_eq-Decides u v in grind (arith, d, e)

count_more : (x : List ℕ) (xs : List (List ℕ)) → distinct_count bytes_eq (x ∷ xs) ≡ cond (is_member bytes_eq xs x) 0 1 + distinct_count bytes_eq xs
count_more x xs = elim (is_member bytes_eq xs x) as (λ b. length (cond b (unique_keys bytes_eq xs) (x ∷ unique_keys bytes_eq xs)) ≡ cond b 0 1 + distinct_count bytes_eq xs) [ true ↦ omega arith | false ↦ omega arith ]

count_mapped : (f : List ℕ → List ℕ) (xs : List (List ℕ)) → distinct_count bytes_eq (map f xs) ≤ distinct_count bytes_eq xs
count_mapped f [] = omega arith
count_mapped f (x ∷ xs) =
    let ih = count_mapped f xs in let a = count_more x xs in let b = count_more (f x) (map f xs) in let m = member_mapped f xs x in
    grind (arith, nat_tests, ih, a, b, m)

-- AS MANY PAIRINGS IN EACH ORDER
pub same_count : SameCountLaw
same_count nodes one other ok few h k =
    let a = count_mapped (reordered one other) (pairings_by nodes one) in
    let b = count_mapped (reordered other one) (pairings_by nodes other) in
    let c = ap (distinct_count bytes_eq) (reordered_states nodes one other ok few h k) in
    let d = ap (distinct_count bytes_eq) (reordered_states nodes other one ok few k h) in
    omega (arith, a, b, c, d)
