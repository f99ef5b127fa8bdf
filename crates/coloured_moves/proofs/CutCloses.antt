-- The strands of a cut edge close: arcs between those at the second place of the old label and at the first place of the new one
-- give the new names' places the old names.
use Rattle.std.proofs.Common.{◌≡◌, ◌≢◌, ℕ, zero, suc, ◌+◌, ◌-◌, ◌*◌, ◌/◌, ◌%◌, ◌<◌, ◌≤◌, ◌==◌, ◌&&◌, ◌⊎◌, inl, inr, not, nat_lt, Bool, true, false, cond, List, [], ◌∷◌, ◌++◌, map, length, reverse, slice_index, Contains, refl, sym, ap, ap₂, ◌∙◌, arith, ⊎_elim, All, subst}
use Rattle.std.specs.List.{AllByRecursion, zip, range_with_len}
use Rattle.std.specs.Set.{is_member}
use Rattle.std.proofs.lemmas.Bool.{cases_Bool}
use Rattle.std.proofs.lemmas.Bool.Decides.{nat_tests}
use Rattle.std.proofs.lemmas.List.{ext_get_or, get_or-map, get_or-reverse, length-map, length-reverse}
use Rattle.std.proofs.lemmas.List.FromFn.{length-map-range_with_len, get_or-map-range_with_len}
use Rattle.graph_parts.proofs.Counting.{is_member-map}
use Rattle.graph_parts.specs.Walks.{Joined, along, stay, back}
use Rattle.state_sums.specs.LocalSums.{rename}
use Rattle.state_sums.specs.Networks.{Node, IsNode, names_of}
use Rattle.list_lemmas.specs.Times.{times_in}
use Rattle.state_sums.specs.StateSums.{value}
use Rattle.piece_laws.specs.Arcs.{arcs_of, closed_classes, AreClassLabels}
use Rattle.graph_parts.specs.Ends.{ends_of}
use Rattle.piece_laws.proofs.Closing.{arcs_close, none_counted}
use Rattle.list_lemmas.proofs.Times.{times_of_member, times_in-cons}
use Rattle.piece_laws.proofs.NameCounts.{member_mapped}
use Rattle.cables.specs.Strands.{first_names, second_names}
use Rattle.cables.proofs.RenamedCables.{map-reverse}
use Rattle.cables.proofs.NameCounts.{at, found_in_map, times-map, times-reverse}
use Rattle.diagram_moves.proofs.Undone.{contraction_from}
use Rattle.cable_crossings.proofs.CabledBigon.{zip-times}
use Rattle.cable_crossings.proofs.StepPieces.{member_of_one}
use Rattle.cable_crossings.proofs.ThroughArcs.{zip_contains}

abbrev pub shift : Bool → ℕ
shift boxed = cond boxed 1 0

shift_le : (b : Bool) → shift b ≤ 1
shift_le true = omega arith
shift_le false = omega arith

pub zip_all : (f : ℕ → ℕ) (xs ys : List ℕ) → ((i : ℕ) → i < length xs → f (slice_index xs i) ≡ f (slice_index ys i)) → AllByRecursion (λ (pair : ℕ × ℕ). f pair.0 ≡ f pair.1) (zip xs ys)
zip_all f [] ys h = tt
zip_all f (x ∷ xs) [] h = tt
zip_all f (x ∷ xs) (y ∷ ys) h = (h 0 (omega arith), zip_all f xs ys (λ i l. h (suc i) (omega (arith, l))))

-- the label v stands for a part of the edge e with c strands
module _ (v e c : ℕ) (boxed : Bool) (apart : v ≢ e) (few : c ≤ 8) where
  abbrev pub news : List ℕ
  news = first_names c v

  abbrev pub olds : List ℕ
  olds = second_names c boxed e

  abbrev new_at : ℕ → ℕ
  new_at i = 16 * v + 2 * i

  abbrev old_at : ℕ → ℕ
  old_at i = 16 * e + 2 * i + shift boxed

  -- the names of the new label's strands become the old ones
  abbrev pub closed : ℕ → ℕ
  closed z = cond (z / 16 == v && (z % 2 == 0 && nat_lt (z % 16 / 2) c)) (old_at (c - 1 - z % 16 / 2)) z

  pub closed_new : (i : ℕ) → i < c → closed (new_at i) ≡ old_at (c - 1 - i)
  closed_new i l =
      let z = new_at i in
      let q : z / 16 ≡ v = omega (arith, l, few) in
      let r : z % 2 ≡ 0 = omega arith in
      let t : z % 16 / 2 ≡ i = omega (arith, l, few) in
      ap₂ (λ a b. cond (a == v && (b == 0 && nat_lt (z % 16 / 2) c)) (old_at (c - 1 - z % 16 / 2)) z) q r
      ∙ ap (λ j. cond (v == v && (0 == 0 && nat_lt j c)) (old_at (c - 1 - j)) z) t
      ∙ taken v i c (old_at (c - 1 - i)) z l
    where
      taken : (v i c x y : ℕ) → i < c → cond (v == v && (0 == 0 && nat_lt i c)) x y ≡ x
      taken v i c x y l = grind (arith, nat_tests, l)

  pub closed_other : (z : ℕ) → z / 16 ≢ v → closed z ≡ z
  closed_other z d = left (z / 16) v (z % 2 == 0 && nat_lt (z % 16 / 2) c) (old_at (c - 1 - z % 16 / 2)) z d
    where
      left : (q v : ℕ) (t : Bool) (x y : ℕ) → q ≢ v → cond (q == v && t) x y ≡ y
      left q v t x y d = grind (arith, nat_tests, d)

  closed_old : (i : ℕ) → i < c → closed (old_at i) ≡ old_at i
  closed_old i l = closed_other (old_at i) (λ s. apart (sym s ∙ (let b = shift_le boxed in omega (arith, l, few, b))))

  length_news : length news ≡ c
  length_news = length-map-range_with_len new_at 0 c

  length_olds : length olds ≡ c
  length_olds = length-reverse (map old_at (range_with_len 0 c)) ∙ length-map-range_with_len old_at 0 c

  news_at : (i : ℕ) → i < c → slice_index news i ≡ new_at i
  news_at i l = let z : 0 + i ≡ i = omega arith in get_or-map-range_with_len new_at 0 c i i 0 l z

  olds_at : (i : ℕ) → i < c → slice_index olds i ≡ old_at (c - 1 - i)
  olds_at i l =
      let long = length-map-range_with_len old_at 0 c in
      let z : 0 + (c - 1 - i) ≡ c - 1 - i = omega arith in
      get_or-reverse (map old_at (range_with_len 0 c)) i 0 (omega (arith, l, long)) ∙ ap (λ n. slice_index (map old_at (range_with_len 0 c)) (n - 1 - i)) long
      ∙ get_or-map-range_with_len old_at 0 c (c - 1 - i) (c - 1 - i) 0 (omega (arith, l)) z

  closed_at_news : (i : ℕ) → i < c → closed (slice_index news i) ≡ slice_index olds i
  closed_at_news i l = ap closed (news_at i l) ∙ closed_new i l ∙ sym (olds_at i l)

  closed_at_olds : (i : ℕ) → i < c → closed (slice_index olds i) ≡ slice_index olds i
  closed_at_olds i l = ap closed (olds_at i l) ∙ closed_old (c - 1 - i) (omega (arith, l)) ∙ sym (olds_at i l)

  pub news_become : map closed news ≡ olds
  news_become =
      let lm = length-map news closed in
      ext_get_or 0 (map closed news) olds (lm ∙ length_news ∙ sym length_olds) (λ k b.
      let l : k < c = omega (arith, b, lm, length_news) in
      get_or-map closed news k 0 0 (omega (arith, l, length_news)) ∙ closed_at_news k l)

  -- the arcs, from either side
  abbrev pub cut_arcs : Bool → List (ℕ × ℕ)
  cut_arcs true = zip olds news
  cut_arcs false = zip (reverse news) (reverse olds)

  reversed_at : (xs : List ℕ) (i : ℕ) → length xs ≡ c → i < c → slice_index (reverse xs) i ≡ slice_index xs (c - 1 - i)
  reversed_at xs i e l = get_or-reverse xs i 0 (omega (arith, e, l)) ∙ ap (λ n. slice_index xs (n - 1 - i)) e

  one_class : (b : Bool) → AllByRecursion (λ pair. closed pair.0 ≡ closed pair.1) (cut_arcs b)
  one_class true =
      zip_all closed olds news (λ i l. let k : i < c = omega (arith, l, length_olds) in closed_at_olds i k ∙ sym (closed_at_news i k))
  one_class false =
      zip_all closed (reverse news) (reverse olds) (λ i l.
      let a = length-reverse news in
      let k : i < c = omega (arith, l, a, length_news) in
      let m : c - 1 - i < c = omega (arith, k) in
      ap closed (reversed_at news i length_news k) ∙ closed_at_news (c - 1 - i) m ∙ sym (ap closed (reversed_at olds i length_olds k) ∙ closed_at_olds (c - 1 - i) m))

  joined_at : (b : Bool) (i : ℕ) → i < c → Joined (cut_arcs b) (new_at i) (old_at (c - 1 - i))
  joined_at true i l =
      let w = zip_contains i olds news (omega (arith, l, length_olds)) (length_news ∙ sym length_olds) in
      let P : ℕ → Type 0 = λ x. Contains (zip olds news) (x, new_at i) in
      let Q : ℕ → Type 0 = λ y. Contains (zip olds news) (slice_index olds i, y) in
      back (along (subst P (olds_at i l) (subst Q (news_at i l) w)))
  joined_at false i l =
      let m : c - 1 - i < c = omega (arith, l) in
      let a = length-reverse news in
      let b = length-reverse olds in
      let t : c - 1 - (c - 1 - i) ≡ i = omega (arith, l) in
      let pairs = zip (reverse news) (reverse olds) in
      let w = zip_contains (c - 1 - i) (reverse news) (reverse olds) (omega (arith, m, a, length_news)) (b ∙ length_olds ∙ sym (a ∙ length_news)) in
      let x : slice_index (reverse news) (c - 1 - i) ≡ new_at i = reversed_at news (c - 1 - i) length_news m ∙ ap (slice_index news) t ∙ news_at i l in
      let y : slice_index (reverse olds) (c - 1 - i) ≡ old_at (c - 1 - i) = reversed_at olds (c - 1 - i) length_olds m ∙ ap (slice_index olds) t ∙ olds_at i l in
      let P : ℕ → Type 0 = λ x. Contains pairs (x, old_at (c - 1 - i)) in
      let Q : ℕ → Type 0 = λ y. Contains pairs (slice_index (reverse news) (c - 1 - i), y) in
      along (subst P x (subst Q y w))

  joined_closed : (b : Bool) (z : ℕ) → Joined (cut_arcs b) z (closed z)
  joined_closed b z =
      let i = z % 16 / 2 in
      let J : ℕ → Type 0 = λ y. Joined (cut_arcs b) z y in
      ⊎_elim
      (λ t.
      let q = here (z / 16) v (z % 2) i c t in
      let q0 = q.0 in let q1 = q.1 in
      let whole : new_at i ≡ z = omega (arith, q0, q1) in
      let K : ℕ → Type 0 = λ y. Joined (cut_arcs b) y (old_at (c - 1 - i)) in
      subst J (sym (ap (λ s. cond s (old_at (c - 1 - i)) z) t)) (subst K whole (joined_at b i q.2)))
      (λ t. subst J (sym (ap (λ s. cond s (old_at (c - 1 - i)) z) t)) stay)
      (cases_Bool (z / 16 == v && (z % 2 == 0 && nat_lt i c)))
    where
      here : (q v r i c : ℕ) → (q == v && (r == 0 && nat_lt i c)) ≡ true → (q ≡ v) × (r ≡ 0) × (i < c)
      here q v r i c t = (grind (arith, nat_tests, t), grind (arith, nat_tests, t), grind (arith, nat_tests, t))

  contraction : (b : Bool) → AreClassLabels (cut_arcs b) closed
  contraction b = contraction_from (cut_arcs b) closed (joined_closed b) (one_class b)

  pub ends_times : (b : Bool) (z : ℕ) → times_in (ends_of (cut_arcs b)) z ≡ times_in news z + times_in olds z
  ends_times true z = let a = zip-times z olds news (length_news ∙ sym length_olds) in omega (arith, a)
  ends_times false z =
      let x = length-reverse news in let y = length-reverse olds in
      let a = zip-times z (reverse news) (reverse olds) (y ∙ length_olds ∙ sym (x ∙ length_news)) in
      let r = times-reverse z news in let s = times-reverse z olds in omega (arith, a, r, s)

  olds_times : (z : ℕ) → times_in olds z ≡ times_in (map old_at (range_with_len 0 c)) z
  olds_times z = times-reverse z (map old_at (range_with_len 0 c))

  pub ends_once : (b : Bool) (z : ℕ) → times_in (ends_of (cut_arcs b)) z ≤ 1
  ends_once b z =
      let t = ends_times b z in
      let n = times-map new_at (λ i j s. omega (arith, s)) z 0 c in
      let o = times-map old_at (λ i j s. omega (arith, s)) z 0 c in
      let s = olds_times z in
      ⊎_elim (λ (k : times_in news z ≡ 0). omega (arith, t, o, s, k))
      (λ (k : 1 ≤ times_in news z).
      ⊎_elim (λ (l : times_in olds z ≡ 0). omega (arith, t, n, l))
      (λ (l : 1 ≤ times_in olds z).
      let x = found_in_map new_at (λ i j s. omega (arith, s)) z 0 c k in
      let y = found_in_map old_at (λ i j s. omega (arith, s)) z 0 c (omega (arith, l, s)) in
      let x1 = x.1.1 in let x2 = x.1.2 in let y1 = y.1.1 in let y2 = y.1.2 in
      let h = shift_le boxed in
      let a : z / 16 ≡ v = omega (arith, x1, x2, few) in
      let b : z / 16 ≡ e = omega (arith, y1, y2, few, h) in
      absurd (apart (sym a ∙ b)))
      (some (times_in olds z)))
      (some (times_in news z))
    where
      some : (k : ℕ) → (k ≡ 0) ⊎ (1 ≤ k)
      some zero = inl refl
      some (suc k) = inr (omega arith)

  some_ends : (k : ℕ) → (k ≡ 0) ⊎ (1 ≤ k)
  some_ends zero = inl refl
  some_ends (suc k) = inr (omega arith)

  pub ends_label : (b : Bool) (z : ℕ) → 1 ≤ times_in (ends_of (cut_arcs b)) z → (z / 16 ≡ v) ⊎ (z / 16 ≡ e)
  ends_label b z h =
      let t = ends_times b z in
      let s = olds_times z in
      ⊎_elim
      (λ (k : times_in news z ≡ 0). (
      let y = found_in_map old_at (λ i j q. omega (arith, q)) z 0 c (omega (arith, h, t, s, k)) in
      let y1 = y.1.1 in let y2 = y.1.2 in let sh = shift_le boxed in inr (omega (arith, y1, y2, few, sh))))
      (λ (k : 1 ≤ times_in news z). (
      let x = found_in_map new_at (λ i j q. omega (arith, q)) z 0 c k in
      let x1 = x.1.1 in let x2 = x.1.2 in inl (omega (arith, x1, x2, few))))
      (some_ends (times_in news z))

  -- how often other names stand
  pub times_closed : (z : ℕ) (xs : List ℕ) → z / 16 ≢ v → z / 16 ≢ e → times_in (map closed xs) z ≡ times_in xs z
  times_closed z [] dv de = refl
  times_closed z (y ∷ ys) dv de =
      let ih = times_closed z ys dv de in
      let a = times_in-cons (closed y) (map closed ys) z in
      let b = times_in-cons y ys z in
      let here : at z (closed y) ≡ at z y = one y in
      omega (arith, ih, a, b, here)
    where
      away : (z y : ℕ) → z ≢ y → at z y ≡ 0
      away z y d = grind (arith, nat_tests, d)

      one : (y : ℕ) → at z (closed y) ≡ at z y
      one y =
          ⊎_elim
          (λ t.
          let i = y % 16 / 2 in
          let q = both (y / 16) v (y % 2) i c t in
          let sh = shift_le boxed in
          let l = q.1 in
          let image : old_at (c - 1 - i) / 16 ≡ e = omega (arith, l, few, sh) in
          let none : at z (old_at (c - 1 - i)) ≡ 0 = away z (old_at (c - 1 - i)) (λ s. de (ap (λ k. k / 16) s ∙ image)) in
          ap (λ s. at z (cond s (old_at (c - 1 - i)) y)) t ∙ none ∙ sym (away z y (λ s. dv (ap (λ k. k / 16) s ∙ q.0))))
          (λ t. ap (λ s. at z (cond s (old_at (c - 1 - y % 16 / 2)) y)) t)
          (cases_Bool (y / 16 == v && (y % 2 == 0 && nat_lt (y % 16 / 2) c)))
        where
          both : (q v r i c : ℕ) → (q == v && (r == 0 && nat_lt i c)) ≡ true → (q ≡ v) × (i < c)
          both q v r i c t = (grind (arith, nat_tests, t), grind (arith, nat_tests, t))

  ranged_fixed : (g : ℕ → ℕ) (a k : ℕ) → ((i : ℕ) → i < a + k → g i / 16 ≢ v) → map closed (map g (range_with_len a k)) ≡ map g (range_with_len a k)
  ranged_fixed g a zero h = refl
  ranged_fixed g a (suc k) h = ap₂ (λ x xs. x ∷ xs) (closed_other (g a) (h a (omega arith))) (ranged_fixed g (a + 1) k (λ i l. h i (omega (arith, l))))

  -- the names of other labels stay
  pub first_stays : (k l : ℕ) → k ≤ 8 → l ≢ v → map closed (first_names k l) ≡ first_names k l
  first_stays k l few_k d = ranged_fixed (λ i. 16 * l + 2 * i) 0 k (λ i h s. d (sym (let q : (16 * l + 2 * i) / 16 ≡ l = omega (arith, h, few_k) in q) ∙ s))

  pub second_stays : (k l : ℕ) (t : Bool) → k ≤ 8 → l ≢ v → map closed (second_names k t l) ≡ second_names k t l
  second_stays k l t few_k d =
      map-reverse closed (map (λ i. 16 * l + 2 * i + shift t) (range_with_len 0 k))
      ∙ ap reverse (ranged_fixed (λ i. 16 * l + 2 * i + shift t) 0 k (λ i h s. d (sym (let sh = shift_le t in let q : (16 * l + 2 * i + shift t) / 16 ≡ l = omega (arith, h, few_k, sh) in q) ∙ s)))

  -- THE STRANDS CLOSE
  pub cut_closes : (b : Bool) (m delta free : ℕ) (rest : List Node) → All IsNode rest →
      ((z : ℕ) → 1 ≤ times_in (ends_of (cut_arcs b)) z → times_in (ends_of (cut_arcs b)) z + times_in (names_of rest) z ≡ 2) →
      value m delta record { nodes = arcs_of (cut_arcs b) ++ rest; free_loops = free } ≡ value m delta record { nodes = rename closed rest; free_loops = free }
  cut_closes b m delta free rest ok twice =
      let pairs = cut_arcs b in
      let none : closed_classes closed pairs (names_of rest) ≡ 0 =
      none_counted (λ end. not (is_member ◌==◌ (map closed (names_of rest)) end)) (map closed (ends_of pairs))
      (λ z mem.
      let r = member_mapped closed (ends_of pairs) z mem in
      let one = times_of_member r.0 (ends_of pairs) r.1 in
      let most = ends_once b r.0 in
      let two = twice r.0 one in
      let there = is_member-map closed (names_of rest) r.0 (member_of_one r.0 (names_of rest) (omega (arith, most, two))) in
      ap not (ap (is_member ◌==◌ (map closed (names_of rest))) r.2 ∙ there)) in
      arcs_close m delta free pairs closed rest ok (contraction b)
      ∙ ap (λ k. value m delta record { nodes = rename closed rest; free_loops = k }) (omega (arith, none))
