-- In any surroundings the product stands in for the stack: outer names are told alike, and as many parts go as the product
-- closes loops. The names may be others, one to one.
use Rattle.std.proofs.Common.{◌≡◌, ℕ, zero, suc, ◌+◌, ◌-◌, ◌<◌, ◌≤◌, ◌≢◌, Bool, true, false, not, nat_lt, ◌||◌, ◌==◌, List, [], ◌∷◌, ◌++◌, map, length, slice_index, zip, refl, sym, ap, ap₂, ◌∙◌, arith, ⊎_elim}
use Rattle.std.proofs.lemmas.List.Elements.{All-map}
use Rattle.std.proofs.lemmas.Bool.{cases_Bool, eqb-true, or_left, or_right, or_cases}
use Rattle.std.proofs.lemmas.Bool.Decides.{nat_tests}
use Rattle.std.specs.List.{range_with_len, AllPass}
use Rattle.std.specs.Set.{is_member}
use Rattle.list_lemmas.proofs.Ranges.{All-range, is_member-range}
use Rattle.graph_parts.proofs.Agreement.{eqb_from_iff, label_count-agree, to_All}
use Rattle.graph_parts.proofs.Counting.{label_after-append, is_member-map, Agree-after}
use Rattle.graph_parts.proofs.Distinct.{is_member-append, distinct_count-le_from_within}
use Rattle.graph_parts.proofs.Ends.{EndsAre-append, EndsAre-weaker}
use Rattle.graph_parts.proofs.Renaming.{label_after-map, label_count-map, Agree-renamed, map_map}
use Rattle.graph_parts.proofs.Through.{alone, is_outer, Agree-pattern, label_count-through}
use Rattle.graph_parts.specs.Ends.{EndsAre}
use Rattle.graph_parts.specs.Labels.{label_after, label_of, label_count, Agree}
use Rattle.graph_parts.specs.Patterns.{label_closed, label_pattern}
use Rattle.graph_parts.specs.Renaming.{renamed, IsOneToOne}
use Rattle.strand_algebra.proofs.LabelProducts.{label_parts, pairs, label_stack, outer, label_product, label_loops, IsPairingOf}
use Rattle.strand_algebra.proofs.Matchings.{Matches-pairs}
use Rattle.strand_algebra.proofs.Stacks.{below_is, is_below, Contains-range, Matches-product, IsPairingOf-product, inner, inner_outer}
use Rattle.strand_algebra.specs.StrandPairings.{seams}

-- the pairs of a pairing by any names
abbrev pub named : (ℕ → ℕ) → List ℕ → List (ℕ × ℕ)
named name p = map (λ i. (name i, name (slice_index p i))) (range_with_len 0 (length p))

outer_in : (o m : Bool) → (o || not m) ≡ true → m ≡ true → o ≡ true
outer_in o m h k = grind (arith, h, k)

outer_from : (o m : Bool) → (m ≡ true → o ≡ true) → (o || not m) ≡ true
outer_from o m h = elim m as (λ b. (b ≡ true → o ≡ true) → (o || not b) ≡ true) [ true ↦ λ k. or_left o false (k refl) | false ↦ λ k. or_right o true refl ] h

differs : (a b : ℕ) → a ≢ b → (a == b) ≡ false
differs a b h = grind (arith, nat_tests)

-- ---- members
pub below_range : (a k x : ℕ) → is_member ◌==◌ (range_with_len a k) x ≡ true → x < a + k
below_range a zero x h = absurd (grind (arith, h))
below_range a (suc k) x h = let ih = below_range (a + 1) k x in grind (arith, nat_tests, ih, h)

pub member_map : (f : ℕ → ℕ) (xs : List ℕ) (y : ℕ) → is_member ◌==◌ (map f xs) y ≡ true → (x : ℕ) × ((is_member ◌==◌ xs x ≡ true) × (y ≡ f x))
member_map f [] y h = absurd (grind (arith, h))
member_map f (x ∷ xs) y h =
    ⊎_elim
    (λ e. (x, (or_left (x == x) (is_member ◌==◌ xs x) (grind (arith, nat_tests)), eqb-true y (f x) e)))
    (λ r. let t = member_map f xs y r in (t.0, (or_right (t.0 == x) (is_member ◌==◌ xs t.0) t.1.0, t.1.1)))
    (or_cases (y == f x) (is_member ◌==◌ (map f xs) y) h)

pub in_map : (f : ℕ → ℕ) (k i : ℕ) → i < k → is_member ◌==◌ (map f (range_with_len 0 k)) (f i) ≡ true
in_map f k i b = is_member-map f (range_with_len 0 k) i (is_member-range 0 k i (omega arith) (omega arith))

pub out_map : (f : ℕ → ℕ) (k y : ℕ) → is_member ◌==◌ (map f (range_with_len 0 k)) y ≡ true → (i : ℕ) × ((i < k) × (y ≡ f i))
out_map f k y h = let t = member_map f (range_with_len 0 k) y h in (t.0, ((let b = below_range 0 k t.0 t.1.0 in omega (arith, b)), t.1.1))

-- the same members, the same count
pub label_count-members : (l : ℕ → ℕ) (xs ys : List ℕ) → ((x : ℕ) → is_member ◌==◌ xs x ≡ true → is_member ◌==◌ ys x ≡ true) → ((x : ℕ) → is_member ◌==◌ ys x ≡ true → is_member ◌==◌ xs x ≡ true) → label_count l xs ≡ label_count l ys
label_count-members l xs ys h k =
    let le = distinct_count-le_from_within (map l xs) (map l ys) (All-map (λ z. is_member ◌==◌ (map l ys) z ≡ true) l xs (to_All (λ x. is_member ◌==◌ (map l ys) (l x)) xs (λ x m. is_member-map l ys x (h x m)))) in
    let ge = distinct_count-le_from_within (map l ys) (map l xs) (All-map (λ z. is_member ◌==◌ (map l xs) z ≡ true) l ys (to_All (λ x. is_member ◌==◌ (map l xs) (l x)) ys (λ x m. is_member-map l xs x (k x m)))) in
    omega (arith, le, ge)

-- ---- ends
pub EndsAre-map : (inside outside : ℕ → Bool) (f : ℕ → ℕ) → ((x : ℕ) → inside x ≡ true → outside (f x) ≡ true) → (es : List (ℕ × ℕ)) → EndsAre inside es → EndsAre outside (map (renamed f) es)
EndsAre-map inside outside f h [] p = tt
EndsAre-map inside outside f h (e ∷ es) p = (h e.0 p.0, h e.1 p.1, EndsAre-map inside outside f h es p.2)

pub EndsAre-range : (inside : ℕ → Bool) (f g : ℕ → ℕ) (a k : ℕ) → ((i : ℕ) → a ≤ i → i < a + k → inside (f i) ≡ true) → ((i : ℕ) → a ≤ i → i < a + k → inside (g i) ≡ true) →
    EndsAre inside (map (λ i. (f i, g i)) (range_with_len a k))
EndsAre-range inside f g a zero p q = tt
EndsAre-range inside f g a (suc k) p q =
    (p a (omega arith) (omega arith), q a (omega arith) (omega arith), EndsAre-range inside f g (a + 1) k (λ i x y. p i (omega arith) (omega arith)) (λ i x y. q i (omega arith) (omega arith)))

pub EndsAre-named : (inside : ℕ → Bool) (name : ℕ → ℕ) (size : ℕ) (p : List ℕ) → IsPairingOf size p → ((i : ℕ) → i < size → inside (name i) ≡ true) → EndsAre inside (named name p)
EndsAre-named inside name size p hp h =
    let s = hp.length_is in
    EndsAre-range inside name (λ i. name (slice_index p i)) 0 (length p) (λ i x y. h i (omega (arith, s))) (λ i x y. h (slice_index p i) (hp.stays i (omega (arith, s))))

pub EndsAre-stack : (n : ℕ) (p q : List ℕ) → IsPairingOf (n + n) p → IsPairingOf (n + n) q → EndsAre (is_member ◌==◌ (range_with_len 0 (n + n + (n + n)))) (label_stack n p q)
EndsAre-stack n p q hp hq =
    let inside = is_member ◌==◌ (range_with_len 0 (n + n + (n + n))) in
    EndsAre-append inside (pairs 0 q) (pairs (n + n) p ++ seams n)
    (EndsAre-named inside (λ i. 0 + i) (n + n) q hq (λ i b. is_member-range 0 (n + n + (n + n)) (0 + i) (omega arith) (omega arith)))
    (EndsAre-append inside (pairs (n + n) p) (seams n)
    (EndsAre-named inside (λ i. n + n + i) (n + n) p hp (λ i b. is_member-range 0 (n + n + (n + n)) (n + n + i) (omega arith) (omega arith)))
    (EndsAre-range inside (λ i. n + n + i) (λ i. n + n - 1 - i) 0 n
    (λ i x y. is_member-range 0 (n + n + (n + n)) (n + n + i) (omega arith) (omega arith))
    (λ i x y. is_member-range 0 (n + n + (n + n)) (n + n - 1 - i) (omega arith) (omega arith))))

-- ---- other names
pub Agree-names : (r : ℕ → ℕ) (names : List ℕ) (es : List (ℕ × ℕ)) → IsOneToOne r names → EndsAre (is_member ◌==◌ names) es → (u v : ℕ) → is_member ◌==◌ names u ≡ true → is_member ◌==◌ names v ≡ true →
    (label_of (map (renamed r) es) (r u) == label_of (map (renamed r) es) (r v)) ≡ (label_of es u == label_of es v)
Agree-names r names es one ends u v p q =
    ap (λ k. k u == k v) (sym (label_after-map r (λ x. x) es)) ∙ Agree-renamed r names es one ends u v p q

pub label_count-names : (r : ℕ → ℕ) (names : List ℕ) (es : List (ℕ × ℕ)) (xs : List ℕ) → IsOneToOne r names → EndsAre (is_member ◌==◌ names) es → AllPass (is_member ◌==◌ names) xs →
    label_count (label_of (map (renamed r) es)) (map r xs) ≡ label_count (label_of es) xs
label_count-names r names es xs one ends a = label_count-map r es xs ∙ label_count-agree (is_member ◌==◌ names) (label_after r es) (label_of es) xs (Agree-renamed r names es one ends) a

pub map-named : (r name : ℕ → ℕ) (p : List ℕ) → map (renamed r) (named name p) ≡ named (λ i. r (name i)) p
map-named r name p = map_map (renamed r) (λ i. (name i, name (slice_index p i))) (range_with_len 0 (length p))

-- the pairs of a pairing join what it pairs
pub tells-named : (size : ℕ) (name : ℕ → ℕ) (p : List ℕ) → IsPairingOf size p → IsOneToOne name (range_with_len 0 size) → (i j : ℕ) → i < size → j < size →
    (label_of (named name p) (name i) == label_of (named name p) (name j)) ≡ (i == j || slice_index p i == j)
tells-named size name p hp one i j bi bj =
    let own = Matches-pairs (λ x. nat_lt x size) (slice_index p) (named (λ x. x) p)
    (λ u h. is_below size _ (hp.stays u (below_is size u h))) (λ u h. hp.turns u (below_is size u h)) (λ u h. differs _ _ (hp.moves u (below_is size u h)))
    (All-map (λ e. (nat_lt e.0 size ≡ true) × (e.1 ≡ slice_index p e.0)) (λ x. (x, slice_index p x)) (range_with_len 0 (length p)) (All-range (λ x. (nat_lt x size ≡ true) × (slice_index p x ≡ slice_index p x)) 0 (length p) (λ x a b. (is_below size x (let s = hp.length_is in omega (arith, s)), refl))))
    (λ u h. Contains-range (λ x. (x, slice_index p x)) 0 (length p) u (omega arith) (let s = hp.length_is in let b = below_is size u h in omega (arith, s, b))) in
    let ends : EndsAre (is_member ◌==◌ (range_with_len 0 size)) (named (λ x. x) p) = EndsAre-named (is_member ◌==◌ (range_with_len 0 size)) (λ x. x) size p hp (λ x b. is_member-range 0 size x (omega arith) (omega arith)) in
    ap (λ es. label_of es (name i) == label_of es (name j)) (sym (map-named name (λ x. x) p))
    ∙ Agree-names name (range_with_len 0 size) (named (λ x. x) p) one ends i j (is_member-range 0 size i (omega arith) (omega arith)) (is_member-range 0 size j (omega arith) (omega arith))
    ∙ own.tells i j (is_below size i bi) (is_below size j bj)

-- ---- a stack in surroundings
module _ (n : ℕ) (p q : List ℕ) (hp : IsPairingOf (n + n) p) (hq : IsPairingOf (n + n) q) (name : ℕ → ℕ) (one : (u v : ℕ) → name u ≡ name v → u ≡ v) where
  abbrev pub es : List (ℕ × ℕ)
  es = map (renamed name) (label_stack n p q)

  abbrev pub ps : List (ℕ × ℕ)
  ps = named (λ i. name (outer n i)) (label_product n p q)

  abbrev pub names : List ℕ
  names = map name (range_with_len 0 (n + n + (n + n)))

  abbrev pub open_names : List ℕ
  open_names = map (λ i. name (outer n i)) (range_with_len 0 (n + n))

  one_outer : (u v : ℕ) → name (outer n u) ≡ name (outer n v) → u ≡ v
  one_outer u v e = sym (inner_outer n u) ∙ ap (inner n) (one (outer n u) (outer n v) e) ∙ inner_outer n v

  ends_es : EndsAre (is_member ◌==◌ names) es
  ends_es = EndsAre-map (is_member ◌==◌ (range_with_len 0 (n + n + (n + n)))) (is_member ◌==◌ names) name (λ x m. is_member-map name (range_with_len 0 (n + n + (n + n))) x m) (label_stack n p q) (EndsAre-stack n p q hp hq)

  outer_member : (i : ℕ) → i < n + n → is_member ◌==◌ (range_with_len 0 (n + n + (n + n))) (outer n i) ≡ true
  outer_member i b = is_member-range 0 (n + n + (n + n)) (outer n i) (omega arith) (grind (arith, nat_tests, b))

  name_member : (i : ℕ) → i < n + n → is_member ◌==◌ names (name (outer n i)) ≡ true
  name_member i b = is_member-map name (range_with_len 0 (n + n + (n + n))) (outer n i) (outer_member i b)

  ends_ps : EndsAre (is_member ◌==◌ names) ps
  ends_ps = EndsAre-named (is_member ◌==◌ names) (λ i. name (outer n i)) (n + n) (label_product n p q) (IsPairingOf-product n p q hp hq) name_member

  has_open : AllPass (is_member ◌==◌ names) open_names
  has_open = to_All (is_member ◌==◌ names) open_names (λ x m. let t = out_map (λ i. name (outer n i)) (n + n) x m in ap (is_member ◌==◌ names) t.1.1 ∙ name_member t.0 t.1.0)

  agree_open : (i j : ℕ) → i < n + n → j < n + n → (label_of es (name (outer n i)) == label_of es (name (outer n j))) ≡ (label_of ps (name (outer n i)) == label_of ps (name (outer n j)))
  agree_open i j bi bj =
      let h = Matches-product n p q hp hq in
      Agree-names name (range_with_len 0 (n + n + (n + n))) (label_stack n p q) (λ u v a b. one u v) (EndsAre-stack n p q hp hq) (outer n i) (outer n j) (outer_member i bi) (outer_member j bj)
      ∙ h.tells i j (is_below (n + n) i bi) (is_below (n + n) j bj)
      ∙ sym (tells-named (n + n) (λ k. name (outer n k)) (label_product n p q) (IsPairingOf-product n p q hp hq) (λ u v a b. one_outer u v) i j bi bj)

  agree : Agree (is_outer names open_names) (label_of es) (label_of ps)
  agree u v ou ov =
      ⊎_elim
      (λ su. ⊎_elim
      (λ sv.
      let mu : is_member ◌==◌ open_names u ≡ true = outer_in (is_member ◌==◌ open_names u) (is_member ◌==◌ names u) ou su in
      let mv : is_member ◌==◌ open_names v ≡ true = outer_in (is_member ◌==◌ open_names v) (is_member ◌==◌ names v) ov sv in
      let tu = out_map (λ i. name (outer n i)) (n + n) u mu in
      let tv = out_map (λ i. name (outer n i)) (n + n) v mv in
      rw (tu.1.1, tv.1.1) (agree_open tu.0 tv.0 tu.1.0 tv.1.0))
      (λ fv. eqb_from_iff (label_of es u) (label_of es v) (label_of ps u) (label_of ps v)
      (λ e. ap (label_of ps) (sym (alone (is_member ◌==◌ names) es ends_es v u fv (sym e))))
      (λ e. ap (label_of es) (sym (alone (is_member ◌==◌ names) ps ends_ps v u fv (sym e)))))
      (cases_Bool (is_member ◌==◌ names v)))
      (λ fu. eqb_from_iff (label_of es u) (label_of es v) (label_of ps u) (label_of ps v)
      (λ e. ap (label_of ps) (alone (is_member ◌==◌ names) es ends_es u v fu e))
      (λ e. ap (label_of es) (alone (is_member ◌==◌ names) ps ends_ps u v fu e)))
      (cases_Bool (is_member ◌==◌ names u))

  module _ (fs : List (ℕ × ℕ)) (others : List ℕ) (ends_fs : EndsAre (is_member ◌==◌ others) fs)
      (meets : (x : ℕ) → is_member ◌==◌ others x ≡ true → is_member ◌==◌ names x ≡ true → is_member ◌==◌ open_names x ≡ true) where
    others_outer : (x : ℕ) → is_member ◌==◌ others x ≡ true → is_outer names open_names x ≡ true
    others_outer x m = outer_from (is_member ◌==◌ open_names x) (is_member ◌==◌ names x) (meets x m)

    ends_outer : EndsAre (is_outer names open_names) fs
    ends_outer = EndsAre-weaker (is_member ◌==◌ others) (is_outer names open_names) others_outer fs ends_fs

    -- THE PRODUCT STANDS IN FOR THE STACK: outer names are told alike, and the loops go
    pub contract_agree : Agree (is_outer names open_names) (label_of (es ++ fs)) (label_of (ps ++ fs))
    contract_agree u v hu hv =
        ap (λ k. k u == k v) (label_after-append (λ x. x) es fs)
        ∙ Agree-after (is_outer names open_names) (label_of es) (label_of ps) fs ends_outer agree u v hu hv
        ∙ sym (ap (λ k. k u == k v) (label_after-append (λ x. x) ps fs))

    closed_loops_are : label_closed es names open_names ≡ label_loops n p q
    closed_loops_are =
        let all = range_with_len 0 (n + n + (n + n)) in
        ap₂ (λ s t. s - t)
        (label_count-names name all (label_stack n p q) all (λ u v a b. one u v) (EndsAre-stack n p q hp hq) (to_All (is_member ◌==◌ all) all (λ x m. m)))
        (ap (label_count (label_of es)) (sym (map_map name (outer n) (range_with_len 0 (n + n))))
        ∙ label_count-names name all (label_stack n p q) (map (outer n) (range_with_len 0 (n + n))) (λ u v a b. one u v) (EndsAre-stack n p q hp hq)
        (to_All (is_member ◌==◌ all) (map (outer n) (range_with_len 0 (n + n))) (λ x m. let t = out_map (outer n) (n + n) x m in ap (is_member ◌==◌ all) t.1.1 ∙ outer_member t.0 t.1.0)))

    pub contract_count : label_parts (es ++ fs) (names ++ others) ≡ label_loops n p q + label_parts (ps ++ fs) (others ++ open_names)
    contract_count =
        let edges = zip open_names (label_pattern es open_names) in
        let outer_pass : AllPass (is_outer names open_names) (others ++ open_names) =
        to_All (is_outer names open_names) (others ++ open_names)
        (λ x m. ⊎_elim (others_outer x) (λ o. or_left (is_member ◌==◌ open_names x) (not (is_member ◌==◌ names x)) o)
        (or_cases (is_member ◌==◌ others x) (is_member ◌==◌ open_names x) (sym (is_member-append others open_names x) ∙ m))) in
        let same : (u v : ℕ) → is_outer names open_names u ≡ true → is_outer names open_names v ≡ true → (label_of edges u == label_of edges v) ≡ (label_of ps u == label_of ps v) =
        λ u v hu hv. sym (Agree-pattern names open_names es ends_es u v hu hv) ∙ agree u v hu hv in
        label_count-through names others open_names es fs ends_es ends_fs has_open meets
        ∙ ap₂ (λ s t. s + t) closed_loops_are
        (ap (λ k. label_count k (others ++ open_names)) (label_after-append (λ x. x) edges fs)
        ∙ label_count-agree (is_outer names open_names) (label_after (label_of edges) fs) (label_after (label_of ps) fs) (others ++ open_names) (Agree-after (is_outer names open_names) (label_of edges) (label_of ps) fs ends_outer same) outer_pass
        ∙ sym (ap (λ k. label_count k (others ++ open_names)) (label_after-append (λ x. x) ps fs)))
