-- Crossings that are left out: in a diagram without them the later items have lesser numbers, and so other names within their grids and
-- other groups. That changes no value.
--
--     dropped gone n items       the items without the crossings whose numbers are in `gone`; the first crossing has the number n
--     number_before ..           which number an item had that has the number j without them
use Rattle.std.proofs.Common.{◌≡◌, ℕ, ◌+◌, ◌-◌, ◌*◌, ◌/◌, ◌%◌, ◌^◌, ◌<◌, ◌≤◌, ◌==◌, nat_lt, Bool, true, false, cond, List, [], ◌∷◌, ◌++◌, map, length, refl, sym, ap, ap₂, ◌∙◌, arith, ⊎_elim, ◌⊎◌, inl, inr, All, subst}
use Rattle.std.specs.List.{AllByRecursion}
use Rattle.std.specs.Set.{is_member}
use Rattle.std.proofs.lemmas.Bool.{cases_Bool, cases_eq, cases_order, eq-eqb, or_left, or_right}
use Rattle.std.proofs.lemmas.Bool.Decides.{nat_tests}
use Rattle.std.proofs.lemmas.List.{length-map, map-append}
use Rattle.std.proofs.lemmas.List.Elements.{All-cons, All-head, All-nil, All-tail}
use Rattle.graph_parts.proofs.Distinct.{is_member-append}
use Rattle.list_lemmas.specs.Times.{times_in}
use Rattle.list_lemmas.proofs.Times.{member_of_times, times_in-append, times_in-cons, times_of_member}
use Rattle.state_sums.specs.LocalSums.{rename}
use Rattle.state_sums.specs.Networks.{Node, Term, IsNode, IsPairing, names_of}
use Rattle.state_sums.specs.StateSums.{value}
use Rattle.state_sums.proofs.NetworkLaws.{any_names}
use Rattle.state_sums.proofs.NodeNames.{names_of-rename}
use Rattle.piece_laws.specs.TurnedNodes.{without_group}
use Rattle.piece_laws.proofs.RenamedNodes.{rename-append, rename_fixed, rename_via}
use Rattle.piece_laws.proofs.Ungrouped.{groups}
use Rattle.root_quantum.specs.Parameters.{Parameters}
use Rattle.pd_reader.specs.declared.item.Item.{Item}
use Rattle.pd_reader.specs.declared.item.Item.TheVariants as item
use Rattle.cables.specs.Strands.{Strands, strands_of}
use Rattle.cables.specs.CableNodes.{crossing_cable}
use Rattle.cables.specs.Cables.{loop_nodes}
use Rattle.cables.proofs.GridNames.{crossing-times, crossing_inner}
use Rattle.cables.proofs.Groups.{crossing_same, loop_same}
use Rattle.cables.proofs.InnerNames.{inner_range}
use Rattle.cables.proofs.LabelNames.{zero_or_some}
use Rattle.cables.proofs.NumberedStrands.{as_many_strands, first_length, label_low}
use Rattle.cables.proofs.RenamedCables.{crossing-renamed, loop-renamed}
use Rattle.diagram_moves.proofs.Paired.{loop_labels}
use Rattle.coloured_moves.proofs.ArcMerges.{map_fixed}
use Rattle.coloured_moves.proofs.LabelColours.{long_stub}
use Rattle.coloured_moves.proofs.StubItems.{half, at_stub, stub_crossing, stub_nodes, boxes_of}
use Rattle.coloured_moves.proofs.StubNames.{kept_stubs, Straight, stub_low}
use Rattle.coloured_moves.proofs.Tests.{one_if, one_apart, one_same}
use Rattle.cable_crossings.proofs.CabledBigon.{names_of-ungrouped}

abbrev pub dropped : List ℕ → ℕ → List Item → List Item
dropped gone n [] = []
dropped gone n (item.X ws ∷ rest) = cond (is_member ◌==◌ gone n) [] (item.X ws ∷ []) ++ dropped gone (n + 1) rest
dropped gone n (item.Loop l ∷ rest) = item.Loop l ∷ dropped gone n rest

-- the next item has the number i, and j without the crossings that are left out
abbrev number_before : List ℕ → ℕ → ℕ → ℕ → List Item → ℕ → ℕ
number_before gone n i j [] k = k + (i - j)
number_before gone n i j (item.X ws ∷ rest) k =
    cond (is_member ◌==◌ gone n) (number_before gone (n + 1) (i + 1) j rest k) (cond (k == j) i (number_before gone (n + 1) (i + 1) (j + 1) rest k))
number_before gone n i j (item.Loop l ∷ rest) k = cond (k == j) i (number_before gone n (i + 1) (j + 1) rest k)

-- ---- numbers keep their order
kept_low : (i j k : ℕ) (f : ℕ → ℕ) → j ≤ k → ((m : ℕ) → j + 1 ≤ m → i + 1 ≤ f m) → i ≤ cond (k == j) i (f k)
kept_low i j k f a low =
    ⊎_elim
    (λ t. (let e = ap (λ h. cond h i (f k)) t in omega (arith, e)))
    (λ t. (let e = ap (λ h. cond h i (f k)) t in let s = low k (above j k a t) in omega (arith, e, s)))
    (cases_Bool (k == j))
  where
    above : (j k : ℕ) → j ≤ k → (k == j) ≡ false → j + 1 ≤ k
    above j k b t = grind (arith, nat_tests, b, t)

before_low : (gone : List ℕ) (n i j : ℕ) (items : List Item) (k : ℕ) → j ≤ i → j ≤ k → i ≤ number_before gone n i j items k
before_low gone n i j [] k a b = omega (arith, a, b)
before_low gone n i j (item.X ws ∷ rest) k a b =
    let G : ℕ → ℕ = number_before gone (n + 1) (i + 1) j rest in
    let K : ℕ → ℕ = number_before gone (n + 1) (i + 1) (j + 1) rest in
    let low = before_low gone (n + 1) (i + 1) j rest k (omega (arith, a)) b in
    elim (is_member ◌==◌ gone n) as (λ h. i ≤ cond h (G k) (cond (k == j) i (K k))) [
      | true ↦ omega (arith, low)
      | false ↦ kept_low i j k K b (λ m s. before_low gone (n + 1) (i + 1) (j + 1) rest m (omega (arith, a)) s)
    ]
before_low gone n i j (item.Loop l ∷ rest) k a b = kept_low i j k (number_before gone n (i + 1) (j + 1) rest) b (λ m s. before_low gone n (i + 1) (j + 1) rest m (omega (arith, a)) s)

-- one kept item in front
kept_order : (i j k l : ℕ) (f : ℕ → ℕ) → j ≤ k → k < l → ((m : ℕ) → j + 1 ≤ m → i + 1 ≤ f m) → ((m o : ℕ) → j + 1 ≤ m → m < o → f m < f o) → cond (k == j) i (f k) < cond (l == j) i (f l)
kept_order i j k l f a b low order =
    let out : (l == j) ≡ false = grind (arith, nat_tests, a, b) in
    let e = ap (λ h. cond h i (f l)) out in
    ⊎_elim
    (λ t. (let q = ap (λ h. cond h i (f k)) t in let s = low l (omega (arith, a, b)) in omega (arith, e, q, s)))
    (λ t. (let q = ap (λ h. cond h i (f k)) t in let s = order k l (above j k a t) b in omega (arith, e, q, s)))
    (cases_Bool (k == j))
  where
    above : (j k : ℕ) → j ≤ k → (k == j) ≡ false → j + 1 ≤ k
    above j k b t = grind (arith, nat_tests, b, t)

before_order : (gone : List ℕ) (n i j : ℕ) (items : List Item) (k l : ℕ) → j ≤ i → j ≤ k → k < l → number_before gone n i j items k < number_before gone n i j items l
before_order gone n i j [] k l a b d = omega (arith, d)
before_order gone n i j (item.X ws ∷ rest) k l a b d =
    let G : ℕ → ℕ = number_before gone (n + 1) (i + 1) j rest in
    let K : ℕ → ℕ = number_before gone (n + 1) (i + 1) (j + 1) rest in
    elim (is_member ◌==◌ gone n) as (λ h. cond h (G k) (cond (k == j) i (K k)) < cond h (G l) (cond (l == j) i (K l))) [
      | true ↦ before_order gone (n + 1) (i + 1) j rest k l (omega (arith, a)) b d
      | false ↦ kept_order i j k l K b d (λ m s. before_low gone (n + 1) (i + 1) (j + 1) rest m (omega (arith, a)) s) (λ m o s t. before_order gone (n + 1) (i + 1) (j + 1) rest m o (omega (arith, a)) s t)
    ]
before_order gone n i j (item.Loop l' ∷ rest) k l a b d =
    let K : ℕ → ℕ = number_before gone n (i + 1) (j + 1) rest in
    kept_order i j k l K b d (λ m s. before_low gone n (i + 1) (j + 1) rest m (omega (arith, a)) s) (λ m o s t. before_order gone n (i + 1) (j + 1) rest m o (omega (arith, a)) s t)

-- ---- names: those of strands stay, those within grids go to the number before
abbrev name_before : (ℕ → ℕ) → ℕ → ℕ
name_before f z = cond (nat_lt z (2 ^ 25)) z (2 ^ 25 + 128 * f ((z - 2 ^ 25) / 128) + (z - 2 ^ 25) % 128)

name_low : (f : ℕ → ℕ) (z : ℕ) → z < 2 ^ 25 → name_before f z ≡ z
name_low f z l = let t : nat_lt z (2 ^ 25) ≡ true = grind (arith, nat_tests, l) in ap (λ h. cond h z (2 ^ 25 + 128 * f ((z - 2 ^ 25) / 128) + (z - 2 ^ 25) % 128)) t

name_high : (f : ℕ → ℕ) (z : ℕ) → 2 ^ 25 ≤ z → name_before f z ≡ 2 ^ 25 + 128 * f ((z - 2 ^ 25) / 128) + (z - 2 ^ 25) % 128
name_high f z l = let t : nat_lt z (2 ^ 25) ≡ false = grind (arith, nat_tests, l) in ap (λ h. cond h z (2 ^ 25 + 128 * f ((z - 2 ^ 25) / 128) + (z - 2 ^ 25) % 128)) t

name_at : (f : ℕ → ℕ) (k o : ℕ) → o < 128 → name_before f (2 ^ 25 + 128 * k + o) ≡ 2 ^ 25 + 128 * f k + o
name_at f k o l =
    let z = 2 ^ 25 + 128 * k + o in
    let q : (z - 2 ^ 25) / 128 ≡ k = omega (arith, l) in
    let r : (z - 2 ^ 25) % 128 ≡ o = omega (arith, l) in
    name_high f z (omega arith) ∙ ap₂ (λ x y. 2 ^ 25 + 128 * f x + y) q r

name_apart : (f : ℕ → ℕ) → ((k l : ℕ) → k < l → f k < f l) → (x y : ℕ) → name_before f x ≡ name_before f y → x ≡ y
name_apart f order x y e =
    ⊎_elim
    (λ (a : x < 2 ^ 25).
    ⊎_elim
    (λ (b : y < 2 ^ 25). sym (name_low f x a) ∙ e ∙ name_low f y b)
    (λ b. absurd (let p = name_low f x a in let q = name_high f y b in omega (arith, e, p, q, a)))
    (below y))
    (λ a.
    ⊎_elim
    (λ (b : y < 2 ^ 25). absurd (let p = name_high f x a in let q = name_low f y b in omega (arith, e, p, q, b)))
    (λ b.
    let p = name_high f x a in let q = name_high f y b in
    let i = (x - 2 ^ 25) / 128 in let j = (y - 2 ^ 25) / 128 in
    let same : f i ≡ f j = omega (arith, e, p, q) in
    let rests : (x - 2 ^ 25) % 128 ≡ (y - 2 ^ 25) % 128 = omega (arith, e, p, q) in
    let at : i ≡ j = ⊎_elim (λ s. s) (λ o. ⊎_elim (λ l. absurd (let k = order i j l in omega (arith, k, same))) (λ l. absurd (let k = order j i l in omega (arith, k, same))) o) (cases_order i j) in
    omega (arith, at, rests, a, b))
    (below y))
    (below x)
  where
    below : (z : ℕ) → (z < 2 ^ 25) ⊎ (2 ^ 25 ≤ z)
    below z = ⊎_elim (λ t. (let l : z < 2 ^ 25 = grind (arith, nat_tests, t) in inl l)) (λ t. (let l : 2 ^ 25 ≤ z = grind (arith, nat_tests, t) in inr l)) (cases_Bool (nat_lt z (2 ^ 25)))

-- ---- one crossing at another number
abbrev AreLow : List ℕ → Type 0
AreLow xs = (z : ℕ) → 1 ≤ times_in xs z → z < 2 ^ 25

crossing_moved : (p : Parameters) (f : ℕ → ℕ) (g j i : ℕ) (a b c d : List ℕ) → j ≤ i → length a ≡ length c → length b ≡ length d → length a ≤ 8 → length b ≤ 8 → AreLow a → AreLow b → AreLow c → AreLow d → ((z : ℕ) → z < 2 ^ 25 → f z ≡ z) →
    ((o : ℕ) → o < 128 → f (2 ^ 25 + 128 * j + o) ≡ 2 ^ 25 + 128 * i + o) → rename f (crossing_cable p g j a b c d) ≡ crossing_cable p g i a b c d
crossing_moved p f g j i a b c d le ac bd few_a few_b low_a low_b low_c low_d stays moves =
    let s : ℕ → ℕ = λ z. cond (nat_lt z (2 ^ 25)) z (z + 128 * (i - j)) in
    let s_low : (z : ℕ) → z < 2 ^ 25 → s z ≡ z = λ z l. (let t : nat_lt z (2 ^ 25) ≡ true = grind (arith, nat_tests, l) in ap (λ h. cond h z (z + 128 * (i - j))) t) in
    let s_high : (z : ℕ) → 2 ^ 25 ≤ z → s z ≡ z + 128 * (i - j) = λ z l. (let t : nat_lt z (2 ^ 25) ≡ false = grind (arith, nat_tests, l) in ap (λ h. cond h z (z + 128 * (i - j))) t) in
    let linear : (o : ℕ) → s (2 ^ 25 + 128 * j + o) ≡ 2 ^ 25 + 128 * i + o = λ o. s_high (2 ^ 25 + 128 * j + o) (omega arith) ∙ (let q : 2 ^ 25 + 128 * j + o + 128 * (i - j) ≡ 2 ^ 25 + 128 * i + o = omega (arith, le) in q) in
    let same : (xs : List ℕ) → ((z : ℕ) → 1 ≤ times_in xs z → z < 2 ^ 25) → map s xs ≡ xs = λ xs low. map_fixed s xs (λ z l. s_low z (low z l)) in
    let C : List ℕ → List ℕ → List ℕ → List ℕ → List Node = crossing_cable p g i in
    let alike : (z : ℕ) → is_member ◌==◌ (names_of (crossing_cable p g j a b c d)) z ≡ true → f z ≡ s z =
    λ z m.
    let one = times_of_member z (names_of (crossing_cable p g j a b c d)) m in
    let t = crossing-times p g j z a b c d ac bd in
    ⊎_elim
    (λ (n : crossing_inner j (length a) (length b) z ≡ 0).
    let low : z < 2 ^ 25 = any_low z (omega (arith, one, t, n)) in
    stays z low ∙ sym (s_low z low))
    (λ n.
    let n1 = n.1 in
    let r = inner_range j (length a) (length b) z few_a few_b (omega (arith, n1)) in
    let lo = r.0 in let hi = r.1 in
    let o = z - (2 ^ 25 + 128 * j) in
    let whole : 2 ^ 25 + 128 * j + o ≡ z = omega (arith, lo) in
    ap f (sym whole) ∙ moves o (omega (arith, lo, hi)) ∙ sym (ap s (sym whole) ∙ linear o))
    (zero_or_some (crossing_inner j (length a) (length b) z)) in
    sym (rename_via (λ z. z) s f (crossing_cable p g j a b c d) (λ z m. sym (alike z m)))
    ∙ rename_fixed (λ z. z) (rename s (crossing_cable p g j a b c d)) (λ z m. refl)
    ∙ sym (crossing-renamed p s g j i linear a b c d)
    ∙ ap₂ (λ x y. C x y (map s c) (map s d)) (same a low_a) (same b low_b) ∙ ap₂ (λ x y. C a b x y) (same c low_c) (same d low_d)
  where
    any_low : (z : ℕ) → 1 ≤ times_in a z + times_in b z + times_in c z + times_in d z → z < 2 ^ 25
    any_low z h =
        ⊎_elim
        (λ (na : times_in a z ≡ 0).
        ⊎_elim
        (λ (nb : times_in b z ≡ 0).
        ⊎_elim (λ (nc : times_in c z ≡ 0). low_d z (omega (arith, h, na, nb, nc))) (λ k. (let l = k.1 in low_c z (omega (arith, l)))) (zero_or_some (times_in c z)))
        (λ k. (let l = k.1 in low_b z (omega (arith, l))))
        (zero_or_some (times_in b z)))
        (λ k. (let l = k.1 in low_a z (omega (arith, l))))
        (zero_or_some (times_in a z))

-- ---- nodes with other names, and other groups
IsNode-renamed : (f : ℕ → ℕ) (nodes : List Node) → All IsNode (rename f nodes) → All IsNode nodes
IsNode-renamed f [] h = All-nil IsNode
IsNode-renamed f (node ∷ nodes) h =
    let P : ℕ → Type 0 = λ k. All (λ term. IsPairing term.partner × (length term.partner ≡ k)) node.terms in
    All-cons IsNode node nodes (subst P (length-map node.ends f) (All-head IsNode record { group = node.group; ends = map f node.ends; terms = node.terms } (rename f nodes) h)) (IsNode-renamed f nodes (All-tail IsNode record { group = node.group; ends = map f node.ends; terms = node.terms } (rename f nodes) h))

IsNode-ungrouped : (nodes : List Node) → All IsNode nodes → All IsNode (map without_group nodes)
IsNode-ungrouped [] h = All-nil IsNode
IsNode-ungrouped (node ∷ nodes) h = All-cons IsNode (without_group node) (map without_group nodes) (All-head IsNode node nodes h) (IsNode-ungrouped nodes (All-tail IsNode node nodes h))

IsNode-grouped : (nodes : List Node) → All IsNode (map without_group nodes) → All IsNode nodes
IsNode-grouped [] h = All-nil IsNode
IsNode-grouped (node ∷ nodes) h = All-cons IsNode node nodes (All-head IsNode (without_group node) (map without_group nodes) h) (IsNode-grouped nodes (All-tail IsNode (without_group node) (map without_group nodes) h))

-- names that stay apart stand as often under their new names
times_mapped : (f : ℕ → ℕ) → ((x y : ℕ) → f x ≡ f y → x ≡ y) → (xs : List ℕ) (z : ℕ) → times_in (map f xs) (f z) ≡ times_in xs z
times_mapped f apart [] z = refl
times_mapped f apart (x ∷ xs) z =
    let ih = times_mapped f apart xs z in
    let a = times_in-cons (f x) (map f xs) (f z) in
    let b = times_in-cons x xs z in
    let same : one_if (f z == f x) ≡ one_if (z == x) =
    ⊎_elim
    (λ (e : z ≡ x). one_same (f z) (f x) (ap f e) ∙ sym (one_same z x e))
    (λ d. one_apart (f z) (f x) (λ e. d (apart z x e)) ∙ sym (one_apart z x d))
    (cases_eq z x) in
    omega (arith, ih, a, b, same)

-- ---- all items
module _ (p : Parameters) (colour : ℕ → ℕ) (boxed : ℕ → Bool) (box : ℕ → List Term) (few : (l : ℕ) → colour l ≤ 8) (gone : List ℕ) where
  abbrev S : Strands
  S = strands_of colour boxed box

  few_at : (w : ℕ) → length (at_stub S w) ≤ 8
  few_at w = let a = long_stub S (as_many_strands colour boxed box) w in let b = first_length colour boxed box (half w) in let c = few (half w) in omega (arith, a, b, c)

  first_low : (l : ℕ) → l ≤ 2000000 → (z : ℕ) → 1 ≤ times_in (S.first l) z → z < 2 ^ 25
  first_low l low z h = label_low colour boxed box z few l low (omega (arith, h))

  second_low : (l : ℕ) → l ≤ 2000000 → (z : ℕ) → 1 ≤ times_in (S.second l) z → z < 2 ^ 25
  second_low l low z h = label_low colour boxed box z few l low (omega (arith, h))

  abbrev AreMoved : (ℕ → ℕ) → ℕ → ℕ → ℕ → List Item → Type 0
  AreMoved f n i j items = (k o : ℕ) → j ≤ k → o < 128 → f (2 ^ 25 + 128 * k + o) ≡ 2 ^ 25 + 128 * number_before gone n i j items k + o

  moved_nodes : (f : ℕ → ℕ) → ((z : ℕ) → z < 2 ^ 25 → f z ≡ z) → (m n g h i j lg lh : ℕ) (items : List Item) → j ≤ i → AllByRecursion (Straight S) items → ((w : ℕ) → is_member ◌==◌ (kept_stubs gone n items) w ≡ true → half w ≤ 2000000) →
      ((l : ℕ) → is_member ◌==◌ (loop_labels items) l ≡ true → l ≤ 2000000) → AreMoved f n i j items →
      map without_group (rename f (stub_nodes p S [] m g j lg (dropped gone n items))) ≡ map without_group (stub_nodes p S gone n h i lh items)
  moved_nodes f stays m n g h i j lg lh [] le st at_stubs at_loops moves = refl
  moved_nodes f stays m n g h i j lg lh (item.Loop l ∷ rest) le st at_stubs at_loops moves =
      let now = loop_nodes S lg (S.first l) in
      let later = stub_nodes p S [] m g (j + 1) (lg + 1) (dropped gone n rest) in
      let ih = moved_nodes f stays m n g h (i + 1) (j + 1) (lg + 1) (lh + 1) rest (omega (arith, le)) st.1 at_stubs (λ k q. at_loops k (or_right (k == l) _ q))
      (λ k o a b. moves k o (omega (arith, a)) b ∙ ap (λ h. 2 ^ 25 + 128 * cond h i (number_before gone n (i + 1) (j + 1) rest k) + o) (beyond j k a)) in
      let fixed : map f (S.first l) ≡ S.first l = map_fixed f (S.first l) (λ z q. stays z (first_low l (at_loops l (or_left (l == l) _ (eq-eqb l l refl))) z q)) in
      let here : rename f now ≡ now = sym (loop-renamed p f S lg (S.first l)) ∙ ap (loop_nodes S lg) fixed in
      ap (map without_group) (rename-append f now later)
      ∙ map-append without_group (rename f now) (rename f later)
      ∙ ap₂ (λ x y. x ++ y) (ap (map without_group) here ∙ loop_same p S lg lh (S.first l)) ih
      ∙ sym (map-append without_group (loop_nodes S lh (S.first l)) (stub_nodes p S gone n h (i + 1) (lh + 1) rest))
    where
      beyond : (j k : ℕ) → j + 1 ≤ k → (k == j) ≡ false
      beyond j k a = grind (arith, nat_tests, a)
  moved_nodes f stays m n g h i j lg lh (item.X (a ∷ b ∷ c ∷ d ∷ []) ∷ rest) le st at_stubs at_loops moves =
      let ws = a ∷ b ∷ c ∷ d ∷ [] in
      let ks = kept_stubs gone (n + 1) rest in
      let N : ℕ → List ℕ = at_stub S in
      let out = is_member ◌==◌ gone n in
      let later = stub_nodes p S gone (n + 1) (h + 1) (i + 1) lh rest in
      let stubs_later : (w : ℕ) → is_member ◌==◌ ks w ≡ true → half w ≤ 2000000 = λ w q. at_stubs w (is_member-append (cond out [] ws) ks w ∙ or_right (is_member ◌==◌ (cond out [] ws) w) (is_member ◌==◌ ks w) q) in
      let Old : Bool → List Node = λ t. map without_group (cond t [] (stub_crossing p S h i ws) ++ later) in
      let New : Bool → List Node = λ t. map without_group (rename f (stub_nodes p S [] m g j lg (cond t [] (item.X ws ∷ []) ++ dropped gone (n + 1) rest))) in
      let B : Bool → ℕ → ℕ = λ t k. cond t (number_before gone (n + 1) (i + 1) j rest k) (cond (k == j) i (number_before gone (n + 1) (i + 1) (j + 1) rest k)) in
      ⊎_elim
      (λ (t : out ≡ true).
      let ih = moved_nodes f stays m (n + 1) g (h + 1) (i + 1) j lg lh rest (omega (arith, le)) st.1 stubs_later at_loops (λ k o q r. moves k o q r ∙ ap (λ s. 2 ^ 25 + 128 * B s k + o) t) in
      ap New t ∙ ih ∙ sym (ap Old t))
      (λ (t : out ≡ false).
      let ih = moved_nodes f stays (m + 1) (n + 1) (g + 1) (h + 1) (i + 1) (j + 1) lg lh rest (omega (arith, le)) st.1 stubs_later at_loops
      (λ k o q r. moves k o (omega (arith, q)) r ∙ ap (λ s. 2 ^ 25 + 128 * B s k + o) t ∙ ap (λ s. 2 ^ 25 + 128 * cond s i (number_before gone (n + 1) (i + 1) (j + 1) rest k) + o) (beyond j k q)) in
      let own : (j == j) ≡ true = eq-eqb j j refl in
      let here_moves : (o : ℕ) → o < 128 → f (2 ^ 25 + 128 * j + o) ≡ 2 ^ 25 + 128 * i + o =
      λ o r. moves j o (omega arith) r ∙ ap (λ s. 2 ^ 25 + 128 * B s j + o) t ∙ ap (λ s. 2 ^ 25 + 128 * cond s i (number_before gone (n + 1) (i + 1) (j + 1) rest j) + o) own in
      let low : (w : ℕ) → is_member ◌==◌ ws w ≡ true → (z : ℕ) → 1 ≤ times_in (N w) z → z < 2 ^ 25 =
      λ w q z s. stub_low colour boxed box few w z (at_stubs w (ap (λ b. is_member ◌==◌ (cond b [] ws ++ ks) w) t ∙ is_member-append ws ks w ∙ or_left (is_member ◌==◌ ws w) (is_member ◌==◌ ks w) q)) s in
      let C : ℕ → ℕ → List Node = λ g k. crossing_cable p g k (N a) (N b) (N c) (N d) in
      let new_later = stub_nodes p S [] (m + 1) (g + 1) (j + 1) lg (dropped gone (n + 1) rest) in
      let here : rename f (C g j) ≡ C g i =
      crossing_moved p f g j i (N a) (N b) (N c) (N d) le st.0.0 st.0.1 (few_at a) (few_at b) (low a (grind (arith, nat_tests))) (low b (grind (arith, nat_tests))) (low c (grind (arith, nat_tests))) (low d (grind (arith, nat_tests))) stays here_moves in
      ap New t
      ∙ ap (map without_group) (rename-append f (C g j) new_later)
      ∙ map-append without_group (rename f (C g j)) (rename f new_later)
      ∙ ap₂ (λ x y. x ++ y) (ap (map without_group) here ∙ crossing_same p g h i (N a) (N b) (N c) (N d)) ih
      ∙ sym (map-append without_group (C h i) later)
      ∙ sym (ap Old t))
      (cases_Bool out)
    where
      beyond : (j k : ℕ) → j + 1 ≤ k → (k == j) ≡ false
      beyond j k a = grind (arith, nat_tests, a)
  moved_nodes f stays m n g h i j lg lh (item.X [] ∷ rest) le st at_stubs at_loops moves = absurd st.0
  moved_nodes f stays m n g h i j lg lh (item.X (a ∷ []) ∷ rest) le st at_stubs at_loops moves = absurd st.0
  moved_nodes f stays m n g h i j lg lh (item.X (a ∷ b ∷ []) ∷ rest) le st at_stubs at_loops moves = absurd st.0
  moved_nodes f stays m n g h i j lg lh (item.X (a ∷ b ∷ c ∷ []) ∷ rest) le st at_stubs at_loops moves = absurd st.0
  moved_nodes f stays m n g h i j lg lh (item.X (a ∷ b ∷ c ∷ d ∷ e ∷ ws) ∷ rest) le st at_stubs at_loops moves = absurd st.0

  -- ---- the crossings beside other nodes
  module _ (lg lh : ℕ) (items : List Item) (st : AllByRecursion (Straight S) items) (at_stubs : (w : ℕ) → is_member ◌==◌ (kept_stubs gone 1 items) w ≡ true → half w ≤ 2000000)
      (at_loops : (l : ℕ) → is_member ◌==◌ (loop_labels items) l ≡ true → l ≤ 2000000) where
    abbrev before : ℕ → ℕ
    before = number_before gone 1 0 0 items

    abbrev pub old_name : ℕ → ℕ
    old_name = name_before before

    abbrev new : List Node
    new = stub_nodes p S [] 1 1 0 lg (dropped gone 1 items)

    abbrev old : List Node
    old = stub_nodes p S gone 1 1 0 lh items

    pub low_name : (z : ℕ) → z < 2 ^ 25 → old_name z ≡ z
    low_name z l = name_low before z l

    pub high_name : (z : ℕ) → 2 ^ 25 ≤ z → 2 ^ 25 ≤ old_name z
    high_name z l = let q = name_high before z l in omega (arith, q)

    apart : (x y : ℕ) → old_name x ≡ old_name y → x ≡ y
    apart x y e = name_apart before (λ k l q. before_order gone 1 0 0 items k l (omega arith) (omega arith) q) x y e

    crossings_same : map without_group (rename old_name new) ≡ map without_group old
    crossings_same = moved_nodes old_name (name_low before) 1 1 1 1 0 0 lg lh items (omega arith) st at_stubs at_loops (λ k o q r. name_at before k o r)

    pub dropped_ok : All IsNode old → All IsNode new
    dropped_ok ok = IsNode-renamed old_name new (IsNode-grouped (rename old_name new) (subst (All IsNode) (sym crossings_same) (IsNode-ungrouped old ok)))

    -- how often a name stands
    pub dropped_names : (z : ℕ) → times_in (names_of new) z ≡ times_in (names_of old) (old_name z)
    dropped_names z =
        sym (times_mapped old_name apart (names_of new) z)
        ∙ ap (λ ns. times_in ns (old_name z)) (sym (names_of-rename old_name new) ∙ sym (names_of-ungrouped (rename old_name new)) ∙ ap names_of crossings_same ∙ names_of-ungrouped old)

    -- CROSSINGS LEFT OUT
    pub dropped_beside : (modulus delta free : ℕ) (nodes : List Node) → ((z : ℕ) → is_member ◌==◌ (names_of nodes) z ≡ true → z < 2 ^ 25) → All IsNode (nodes ++ new) →
        value modulus delta record { nodes = nodes ++ new; free_loops = free } ≡ value modulus delta record { nodes = nodes ++ old; free_loops = free }
    dropped_beside modulus delta free nodes low ok =
        let same : map without_group (rename old_name (nodes ++ new)) ≡ map without_group (nodes ++ old) =
        ap (map without_group) (rename-append old_name nodes new)
        ∙ map-append without_group (rename old_name nodes) (rename old_name new)
        ∙ ap₂ (λ x y. map without_group x ++ y) (rename_fixed old_name nodes (λ z m. name_low before z (low z m))) crossings_same
        ∙ sym (map-append without_group nodes old) in
        sym (any_names modulus delta free old_name (nodes ++ new) ok (λ x y mx my e. apart x y e))
        ∙ (groups delta free (rename old_name (nodes ++ new)) (nodes ++ old) same).values modulus

  -- names of boxes are those of strands
  pub boxes_low : (ls : List ℕ) → AllByRecursion (λ l. l ≤ 2000000) ls → (z : ℕ) → is_member ◌==◌ (names_of (boxes_of S ls)) z ≡ true → z < 2 ^ 25
  boxes_low [] h z m = absurd (grind (arith, m))
  boxes_low (l ∷ ls) h z m =
      let one = times_of_member z (names_of (boxes_of S (l ∷ ls))) m in
      let a = times_in-append (S.first l ++ S.second l) (names_of (boxes_of S ls)) z in
      let b = times_in-append (S.first l) (S.second l) z in
      ⊎_elim
      (λ (n : times_in (S.first l) z ≡ 0).
      ⊎_elim
      (λ (k : times_in (S.second l) z ≡ 0). boxes_low ls h.1 z (member_of_times z (names_of (boxes_of S ls)) (omega (arith, one, a, b, n, k))))
      (λ k. (let k1 = k.1 in second_low l h.0 z (omega (arith, k1))))
      (zero_or_some (times_in (S.second l) z)))
      (λ n. (let n1 = n.1 in first_low l h.0 z (omega (arith, n1))))
      (zero_or_some (times_in (S.first l) z))

  -- CROSSINGS LEFT OUT BESIDE BOXES
  pub dropped_value : (modulus delta free lg lh : ℕ) (ls : List ℕ) (items : List Item) → AllByRecursion (λ l. l ≤ 2000000) ls → AllByRecursion (Straight S) items → ((w : ℕ) → is_member ◌==◌ (kept_stubs gone 1 items) w ≡ true → half w ≤ 2000000) →
      ((l : ℕ) → is_member ◌==◌ (loop_labels items) l ≡ true → l ≤ 2000000) → All IsNode (boxes_of S ls ++ stub_nodes p S [] 1 1 0 lg (dropped gone 1 items)) →
      value modulus delta record { nodes = boxes_of S ls ++ stub_nodes p S [] 1 1 0 lg (dropped gone 1 items); free_loops = free }
      ≡ value modulus delta record { nodes = boxes_of S ls ++ stub_nodes p S gone 1 1 0 lh items; free_loops = free }
  dropped_value modulus delta free lg lh ls items small st at_stubs at_loops ok = dropped_beside lg lh items st at_stubs at_loops modulus delta free (boxes_of S ls) (boxes_low ls small) ok
