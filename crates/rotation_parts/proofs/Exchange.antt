-- An exchange of two names: a cycle more where they lie in one cycle, else one less. With both steps taken away, the paths that
-- begin behind the two names end in these, each in another one: either each in its own name, or crosswise.
use Rattle.std.proofs.Common.{◌≡◌, ◌≢◌, ◌⊎◌, ℕ, zero, suc, ◌+◌, ◌==◌, true, false, cond, List, [], ◌∷◌, map, refl, sym, ap, ◌∙◌, subst, arith, ⊎_elim, inl, inr}
use Rattle.std.specs.Fn.{iterate}
use Rattle.std.specs.List.{AllPass}
use Rattle.std.specs.Set.{is_member, distinct_count}
use Rattle.std.proofs.lemmas.Bool.{eq-eqb, eqb-true, cases_Bool, or_left, or_right}
use Rattle.std.proofs.lemmas.Bool.Decides.{nat_tests}
use Rattle.graph_parts.specs.Ends.{AreAmong}
use Rattle.graph_parts.specs.Parts.{part_count}
use Rattle.graph_parts.specs.Walks.{Joined, along, stay, back, on}
use Rattle.graph_parts.proofs.Agreement.{label_count-agree, to_All}
use Rattle.graph_parts.proofs.Counting.{distinct_count-cons}
use Rattle.graph_parts.proofs.Distinct.{distinct_count-le_from_within}
use Rattle.graph_parts.proofs.PartLaws.{joined_edge, apart_edge}
use Rattle.graph_parts.proofs.Walks.{Contains-cases}
use Rattle.rotation_parts.specs.Laws.{ExchangeSplitsLaw, ExchangeMergesLaw}
use Rattle.rotation_parts.specs.Rotations.{exchanged, steps, cycle_count, IsPermutation}
use Rattle.rotation_parts.proofs.Steps.{same_parts, step_of, walks, equal_joined, longer, first_edge, shorter, step_along, step_walks, steps_among}

-- ---- stopped at a and b
abbrev pub stopped : (ℕ → ℕ) → ℕ → ℕ → ℕ → ℕ
stopped next a b x = cond (x == a) a (cond (x == b) b (next x))

module _ (next : ℕ → ℕ) (a b : ℕ) where
  at_first : stopped next a b a ≡ a
  at_first = let e = eq-eqb a a refl in grind (arith, e)

  at_second : stopped next a b b ≡ b
  at_second = let e = eq-eqb b b refl in grind (arith, nat_tests, e)

  elsewhere : (x : ℕ) → x ≢ a → x ≢ b → stopped next a b x ≡ next x
  elsewhere x p q = grind (arith, nat_tests, p, q)

  -- a is reached from x
  abbrev ComesTo : ℕ → Type 0
  ComesTo x = (n : ℕ) × (iterate (stopped next a b) n x ≡ a)

  forth : (x : ℕ) → ComesTo x → ComesTo (stopped next a b x)
  forth x (zero, e) = (zero, ap (stopped next a b) e ∙ at_first)
  forth x (suc n, e) = (n, e)

  abbrev Alike : ℕ → ℕ → Type 0
  Alike x y = (ComesTo x → ComesTo y) × (ComesTo y → ComesTo x)

  carried : (names : List ℕ) {x y : ℕ} → Joined (steps (stopped next a b) names) x y → Alike x y
  carried names (along {x = x} {y = y} c) =
      let r = step_of (stopped next a b) names x y c in
      let P : ℕ → Type 0 = λ z. Alike x z in
      subst P r.1 (λ h. forth x h, λ h. (suc h.0, h.1))
  carried names stay = (λ h. h, λ h. h)
  carried names (back j) = let r = carried names j in (r.1, r.0)
  carried names (on j k) = let r = carried names j in let s = carried names k in (λ h. s.0 (r.0 h), λ h. r.1 (s.1 h))

  stays : (n : ℕ) → iterate (stopped next a b) n b ≡ b
  stays zero = refl
  stays (suc n) = ap (iterate (stopped next a b) n) at_second ∙ stays n

  -- NO WALK LEADS FROM THE ONE TO THE OTHER
  ends_apart : (names : List ℕ) → a ≢ b → Joined (steps (stopped next a b) names) a b → ⊥
  ends_apart names ne j = let h = (carried names j).0 (zero, refl) in ne (sym h.1 ∙ stays h.0)

-- ---- each name comes back to itself
iterate_after : (f : ℕ → ℕ) (n x : ℕ) → f (iterate f n x) ≡ iterate f n (f x)
iterate_after f zero x = refl
iterate_after f (suc n) x = iterate_after f n (f x)

abbrev path : (ℕ → ℕ) → ℕ → ℕ → List ℕ
path f x zero = []
path f x (suc n) = x ∷ map f (path f x n)

pub mapped_member : (f : ℕ → ℕ) (xs : List ℕ) (y : ℕ) → is_member ◌==◌ (map f xs) y ≡ true → (x : ℕ) × (is_member ◌==◌ xs x ≡ true) × (f x ≡ y)
mapped_member f [] y h = absurd (grind (arith, h))
mapped_member f (x ∷ xs) y h =
    ⊎_elim
    (λ t. (x, or_left (x == x) (is_member ◌==◌ xs x) (eq-eqb x x refl), sym (eqb-true y (f x) t)))
    (λ e. let r = mapped_member f xs y (grind (arith, e, h)) in (r.0, or_right (r.0 == x) (is_member ◌==◌ xs r.0) r.1, r.2))
    (cases_Bool (y == f x))

map_itself : (xs : List ℕ) → map (λ x. x) xs ≡ xs
map_itself [] = refl
map_itself (x ∷ xs) = ap (λ ys. x ∷ ys) (map_itself xs)

module _ (names : List ℕ) (next before : ℕ → ℕ) (is : IsPermutation names next before) where
  one_to_one : (x y : ℕ) → is_member ◌==◌ names x ≡ true → is_member ◌==◌ names y ≡ true → next x ≡ next y → x ≡ y
  one_to_one x y p q e = sym (is.undone x p) ∙ (ap before e ∙ is.undone y q)

  pub mapped_count : (xs : List ℕ) → AllPass (is_member ◌==◌ names) xs → distinct_count ◌==◌ (map next xs) ≡ distinct_count ◌==◌ xs
  mapped_count xs h =
      label_count-agree (is_member ◌==◌ names) next (λ x. x) xs (λ u v p q. (let i = one_to_one u v p q in let j = λ (t : u ≡ v). ap next t in grind (arith, nat_tests, i, j))) h
      ∙ ap (distinct_count ◌==◌) (map_itself xs)

  -- a name of a path
  on_path : (x : ℕ) (n y : ℕ) → is_member ◌==◌ names x ≡ true → is_member ◌==◌ (path next x n) y ≡ true → (is_member ◌==◌ names y ≡ true) × ((k : ℕ) × (iterate next k x ≡ y))
  on_path x zero y m h = absurd (grind (arith, h))
  on_path x (suc n) y m h =
      ⊎_elim
      (λ t. let e = eqb-true y x t in let P : ℕ → Type 0 = λ z. is_member ◌==◌ names z ≡ true in (subst P (sym e) m, (zero, sym e)))
      (λ f.
      let there : is_member ◌==◌ (map next (path next x n)) y ≡ true = grind (arith, f, h) in
      let w = mapped_member next (path next x n) y there in
      let r = on_path x n w.0 m w.1 in
      let P : ℕ → Type 0 = λ z. is_member ◌==◌ names z ≡ true in
      (subst P w.2 (is.inside w.0 r.0), (suc r.1.0, sym (iterate_after next r.1.0 x) ∙ (ap next r.1.1 ∙ w.2))))
      (cases_Bool (y == x))

  path_within : (x n : ℕ) → is_member ◌==◌ names x ≡ true → AllPass (is_member ◌==◌ names) (path next x n)
  path_within x n m = to_All (is_member ◌==◌ names) (path next x n) (λ y h. (on_path x n y m h).0)

  path_length : (x n : ℕ) → is_member ◌==◌ names x ≡ true → ((k : ℕ) × (iterate next k (next x) ≡ x)) ⊎ (distinct_count ◌==◌ (path next x n) ≡ n)
  path_length x zero m = inr refl
  path_length x (suc n) m =
      ⊎_elim
      (λ found. inl found)
      (λ ih.
      let front = path next x n in
      ⊎_elim
      (λ t.
      let w = mapped_member next front x t in
      let r = on_path x n w.0 m w.1 in
      inl (r.1.0, sym (iterate_after next r.1.0 x) ∙ (ap next r.1.1 ∙ w.2)))
      (λ f.
      let c = distinct_count-cons x (map next front) in
      let d = mapped_count front (path_within x n m) in
      inr (grind (arith, f, c, d, ih)))
      (cases_Bool (is_member ◌==◌ (map next front) x)))
      (path_length x n m)

  -- EACH NAME COMES BACK
  comes_back : (x : ℕ) → is_member ◌==◌ names x ≡ true → (k : ℕ) × (iterate next k (next x) ≡ x)
  comes_back x m =
      let n = distinct_count ◌==◌ names in
      ⊎_elim (λ found. found)
      (λ e. let low = distinct_count-le_from_within (path next x (n + 1)) names (path_within x (n + 1) m) in absurd (omega (arith, e, low)))
      (path_length x (n + 1) m)

  module _ (a b : ℕ) (ma : is_member ◌==◌ names a ≡ true) (mb : is_member ◌==◌ names b ≡ true) (ne : a ≢ b) where
    abbrev rest : List (ℕ × ℕ)
    rest = steps (stopped next a b) names

    -- a walk on to the first of a and b
    stops : (n x z : ℕ) → is_member ◌==◌ names x ≡ true → iterate next n x ≡ z → (Joined rest z a ⊎ Joined rest z b) → Joined rest x a ⊎ Joined rest x b
    stops zero x z m e h = let P : ℕ → Type 0 = λ y. Joined rest y a ⊎ Joined rest y b in subst P (sym e) h
    stops (suc n) x z m e h =
        ⊎_elim (λ t. inl (equal_joined rest x a (eqb-true x a t)))
        (λ f. ⊎_elim (λ t. inr (equal_joined rest x b (eqb-true x b t)))
        (λ g.
        let one : Joined rest x (next x) = on (step_along (stopped next a b) names x m) (equal_joined rest (stopped next a b x) (next x) (grind (arith, f, g))) in
        ⊎_elim (λ l. inl (on one l)) (λ r. inr (on one r)) (stops n (next x) z (is.inside x m) e h))
        (cases_Bool (x == b)))
        (cases_Bool (x == a))

    apart : Joined rest a b → ⊥
    apart j = ends_apart next a b names ne j

    -- backward: no walk leads from behind the one to behind the other
    backward : {x y : ℕ} → Joined rest x y → Joined (steps (stopped before (next a) (next b)) names) x y
    backward j =
        let fs = steps (stopped before (next a) (next b)) names in
        step_walks (stopped next a b) names fs
        (λ x m.
        ⊎_elim (λ t. equal_joined fs x (stopped next a b x) (let e = eqb-true x a t in grind (arith, t, e)))
        (λ f. ⊎_elim (λ t. equal_joined fs x (stopped next a b x) (let e = eqb-true x b t in grind (arith, t, e, f)))
        (λ g.
        let p : next x ≢ next a = λ e. (let k = eq-eqb x a (one_to_one x a m ma e) in grind (arith, k, f)) in
        let q : next x ≢ next b = λ e. (let k = eq-eqb x b (one_to_one x b m mb e) in grind (arith, k, g)) in
        let home : stopped before (next a) (next b) (next x) ≡ x = elsewhere before (next a) (next b) (next x) p q ∙ is.undone x m in
        let same : stopped next a b x ≡ next x = grind (arith, f, g) in
        let to = on (step_along (stopped before (next a) (next b)) names (next x) (is.inside x m)) (equal_joined fs (stopped before (next a) (next b) (next x)) x home) in
        on (back to) (equal_joined fs (next x) (stopped next a b x) (sym same)))
        (cases_Bool (x == b)))
        (cases_Bool (x == a))) j

    behind_apart : Joined rest (next a) (next b) → ⊥
    behind_apart j = ends_apart before (next a) (next b) names (λ e. ne (one_to_one a b ma mb e)) (backward j)

    -- THE PATHS: EACH IN ITS OWN NAME, OR CROSSWISE
    paths : (Joined rest (next a) a × Joined rest (next b) b) ⊎ (Joined rest (next a) b × Joined rest (next b) a)
    paths =
        let ra = comes_back a ma in
        let rb = comes_back b mb in
        let ha = stops ra.0 (next a) a (is.inside a ma) ra.1 (inl stay) in
        let hb = stops rb.0 (next b) b (is.inside b mb) rb.1 (inr stay) in
        ⊎_elim
        (λ l. ⊎_elim (λ k. absurd (behind_apart (on l (back k)))) (λ k. inl (l, k)) hb)
        (λ r. ⊎_elim (λ k. inr (r, k)) (λ k. absurd (behind_apart (on r (back k)))) hb)
        ha

    module _ (f : ℕ → ℕ) (u v : ℕ) (fa : f a ≡ u) (fb : f b ≡ v) (other : (x : ℕ) → (x == a) ≡ false → (x == b) ≡ false → f x ≡ next x) where
      abbrev both : List (ℕ × ℕ)
      both = (a, u) ∷ (b, v) ∷ rest

      opened : {x y : ℕ} → Joined (steps f names) x y → Joined both x y
      opened j =
          step_walks f names both
          (λ x m.
          ⊎_elim (λ t. let e = eqb-true x a t in on (equal_joined both x a e) (on (first_edge a u ((b, v) ∷ rest)) (equal_joined both u (f x) (sym fa ∙ sym (ap f e)))))
          (λ n. ⊎_elim (λ t. let e = eqb-true x b t in on (equal_joined both x b e) (on (longer (a, u) ((b, v) ∷ rest) (first_edge b v rest)) (equal_joined both v (f x) (sym fb ∙ sym (ap f e)))))
          (λ o.
          let same : stopped next a b x ≡ f x = (let k = other x n o in grind (arith, n, o, k)) in
          let one : Joined rest x (stopped next a b x) = step_along (stopped next a b) names x m in
          on (longer (a, u) ((b, v) ∷ rest) (longer (b, v) rest one)) (equal_joined both (stopped next a b x) (f x) same))
          (cases_Bool (x == b)))
          (cases_Bool (x == a))) j

      from_rest : {x y : ℕ} → Joined rest x y → Joined (steps f names) x y
      from_rest j =
          let es = steps f names in
          step_walks (stopped next a b) names es
          (λ x m.
          ⊎_elim (λ t. equal_joined es x (stopped next a b x) (let e = eqb-true x a t in grind (arith, t, e)))
          (λ n. ⊎_elim (λ t. equal_joined es x (stopped next a b x) (let e = eqb-true x b t in grind (arith, t, e, n)))
          (λ o.
          let same : f x ≡ stopped next a b x = (let k = other x n o in grind (arith, n, o, k)) in
          on (step_along f names x m) (equal_joined es (f x) (stopped next a b x) same))
          (cases_Bool (x == b)))
          (cases_Bool (x == a))) j

      closed : {x y : ℕ} → Joined both x y → Joined (steps f names) x y
      closed j =
          let es = steps f names in
          walks both es
          (λ x y c.
          ⊎_elim
          (λ e. on (equal_joined es x a (ap (λ g. g.0) (sym e))) (on (step_along f names a ma) (equal_joined es (f a) y (fa ∙ ap (λ g. g.1) e))))
          (λ d. ⊎_elim
          (λ e. on (equal_joined es x b (ap (λ g. g.0) (sym e))) (on (step_along f names b mb) (equal_joined es (f b) y (fb ∙ ap (λ g. g.1) e))))
          (λ r. from_rest (along r))
          (Contains-cases (b, v) (x, y) rest d))
          (Contains-cases (a, u) (x, y) ((b, v) ∷ rest) c)) j

      counted : AreAmong names (steps f names) → AreAmong names both → cycle_count names f ≡ part_count names both
      counted p q = same_parts names (steps f names) both p q (λ x y j. opened j) (λ x y j. closed j)

    rest_among : AreAmong names rest
    rest_among = steps_among (stopped next a b) names (λ x m. (let h = is.inside x m in
        ⊎_elim (λ t. let P : ℕ → Type 0 = λ z. is_member ◌==◌ names z ≡ true in subst P (let e = eqb-true x a t in grind (arith, t, e)) ma)
        (λ n. ⊎_elim (λ t. let P : ℕ → Type 0 = λ z. is_member ◌==◌ names z ≡ true in subst P (let e = eqb-true x b t in grind (arith, n, t, e)) mb)
        (λ o. let P : ℕ → Type 0 = λ z. is_member ◌==◌ names z ≡ true in subst P (grind (arith, n, o)) h)
        (cases_Bool (x == b)))
        (cases_Bool (x == a))))

    -- two edges that close the paths, and two that make them one
    module _ (c d : ℕ) (mc : is_member ◌==◌ names c ≡ true) (md : is_member ◌==◌ names d ≡ true) (ca : Joined rest c a) (db : Joined rest d b) where
      kept : part_count names ((a, c) ∷ (b, d) ∷ rest) ≡ part_count names rest
      kept =
          joined_edge names ((b, d) ∷ rest) a c (ma, mc, (mb, md, rest_among)) (longer (b, d) rest (back ca))
          ∙ joined_edge names rest b d (mb, md, rest_among) (back db)

      lost : part_count names ((a, d) ∷ (b, c) ∷ rest) + 1 ≡ part_count names rest
      lost =
          let one = joined_edge names ((b, c) ∷ rest) a d (ma, md, (mb, mc, rest_among)) (on (longer (b, c) rest (back ca)) (on (back (first_edge b c rest)) (longer (b, c) rest (back db)))) in
          let two = apart_edge names rest b c (mb, mc, rest_among) (λ j. apart (back (on j ca))) in
          omega (arith, one, two)

      still_apart : Joined ((a, c) ∷ (b, d) ∷ rest) a b → ⊥
      still_apart j = apart (shorter b d rest (back db) (shorter a c ((b, d) ∷ rest) (longer (b, d) rest (back ca)) j))

      now_joined : Joined ((a, d) ∷ (b, c) ∷ rest) a b
      now_joined = on (first_edge a d ((b, c) ∷ rest)) (longer (a, d) ((b, c) ∷ rest) (longer (b, c) rest db))

    -- ---- next, and next after the exchange
    abbrev turned_next : ℕ → ℕ
    turned_next x = next (exchanged a b x)

    exchanged_inside : (x : ℕ) → is_member ◌==◌ names x ≡ true → is_member ◌==◌ names (exchanged a b x) ≡ true
    exchanged_inside x m =
        let P : ℕ → Type 0 = λ z. is_member ◌==◌ names z ≡ true in
        ⊎_elim (λ t. subst P (grind (arith, t)) mb)
        (λ n. ⊎_elim (λ t. subst P (grind (arith, n, t)) ma) (λ o. subst P (grind (arith, n, o)) m) (cases_Bool (x == b)))
        (cases_Bool (x == a))

    cycles_next : cycle_count names next ≡ part_count names ((a, next a) ∷ (b, next b) ∷ rest)
    cycles_next = counted next (next a) (next b) refl refl (λ x n o. refl) (steps_among next names is.inside) (ma, is.inside a ma, (mb, is.inside b mb, rest_among))

    first_turned : turned_next a ≡ next b
    first_turned = ap next (let e = eq-eqb a a refl in grind (arith, e))

    second_turned : turned_next b ≡ next a
    second_turned = ap next (let e = eq-eqb b b refl in grind (arith, nat_tests, e))

    other_turned : (x : ℕ) → (x == a) ≡ false → (x == b) ≡ false → turned_next x ≡ next x
    other_turned x n o = ap next (grind (arith, n, o))

    cycles_turned : cycle_count names turned_next ≡ part_count names ((a, next b) ∷ (b, next a) ∷ rest)
    cycles_turned =
        counted turned_next (next b) (next a) first_turned second_turned other_turned (steps_among turned_next names (λ x m. is.inside (exchanged a b x) (exchanged_inside x m)))
        (ma, is.inside b mb, (mb, is.inside a ma, rest_among))

    split_count : Joined (steps next names) a b → cycle_count names turned_next ≡ cycle_count names next + 1
    split_count j =
        ⊎_elim
        (λ own. absurd (still_apart (next a) (next b) (is.inside a ma) (is.inside b mb) own.0 own.1 (opened next (next a) (next b) refl refl (λ x n o. refl) j)))
        (λ cross.
        let k = kept (next b) (next a) (is.inside b mb) (is.inside a ma) cross.1 cross.0 in
        let l = lost (next b) (next a) (is.inside b mb) (is.inside a ma) cross.1 cross.0 in
        omega (arith, k, l, cycles_next, cycles_turned))
        paths

    merge_count : (Joined (steps next names) a b → ⊥) → cycle_count names turned_next + 1 ≡ cycle_count names next
    merge_count away =
        ⊎_elim
        (λ own.
        let k = kept (next a) (next b) (is.inside a ma) (is.inside b mb) own.0 own.1 in
        let l = lost (next a) (next b) (is.inside a ma) (is.inside b mb) own.0 own.1 in
        omega (arith, k, l, cycles_next, cycles_turned))
        (λ cross. absurd (away (closed next (next a) (next b) refl refl (λ x n o. refl) (now_joined (next b) (next a) (is.inside b mb) (is.inside a ma) cross.1 cross.0))))
        paths

pub exchange_splits : ExchangeSplitsLaw
exchange_splits names next before a b is ma mb ne j = split_count names next before is a b ma mb ne j

pub exchange_merges : ExchangeMergesLaw
exchange_merges names next before a b is ma mb ne away = merge_count names next before is a b ma mb ne away
