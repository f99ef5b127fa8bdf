-- A crossing of two neighbouring strands before a crossing of bundles, and behind it, at names that are written out: both sides are runs of steps. Strand i
-- of a bundle has at its m-th edge, counted from below, the number 8 (32 i + m), and 1 more where it goes upwards; on the other side inner edges have 4 more.
use Rattle.std.proofs.Common.{◌≡◌, ◌≢◌, ℕ, ◌+◌, ◌-◌, ◌*◌, ◌<◌, ◌≤◌, ◌==◌, ◌||◌, ◌⊎◌, inl, inr, nat_lt, true, false, cond, List, [], ◌++◌, sym, ap, ◌∙◌, arith, ⊎_elim}
use Rattle.std.proofs.lemmas.Bool.{cases_eq}
use Rattle.std.proofs.lemmas.Bool.Decides.{nat_tests}
use Rattle.strand_words.specs.Words.{top}
use Rattle.word_networks.specs.GridNetworks.{FitsGrid}
use Rattle.word_networks.specs.Spelling.{AgreeOn}
use Rattle.word_networks.specs.Steps.{Step, names_after}
use Rattle.word_networks.specs.Strands.{strand_of, strand_points}
use Rattle.word_networks.proofs.Strands.{member_strands, strand_top, halves}
use Rattle.cable_crossings.proofs.BundleTriangle.{bit, star, bit-le, bit_end}
use Rattle.cable_crossings.proofs.CrossingSteps.{long, long-few, long-some, crossing_steps, Follows, crossing_follows, crossing_tops, crossing_names, crossing_distinct, IsLongName, AreLongNames}
use Rattle.cable_crossings.proofs.NameCodes.{code, in_lt, out_lt, below_or}
use Rattle.cable_crossings.proofs.StepPieces.{IsRun, based, bottoms_kept}
use Rattle.cable_crossings.proofs.ThreeRuns.{three_runs, three_names}

top_apart : (i j : ℕ) → i ≢ j → top i ≢ top j
top_apart i j d e = d (omega (arith, e))

-- o strands cross n strands; the small crossing is that of the strands k and k+1 among the n
module _ (o n k : ℕ) (few_o : o ≤ 8) (few_n : n ≤ 8) (inside : k + 1 < n) where
  abbrev pub size : ℕ
  size = o + n

  abbrev lo : ℕ
  lo = long o

  abbrev ln : ℕ
  ln = long n

  -- 1 at the strands that cross
  abbrev pub lift : ℕ → ℕ
  lift j = cond (j == k || j == k + 1) 1 0

  lift_first : lift k ≡ 1
  lift_first = grind (arith, nat_tests)

  lift_second : lift (k + 1) ≡ 1
  lift_second = grind (arith, nat_tests)

  lift_other : (j : ℕ) → j ≢ k → j ≢ k + 1 → lift j ≡ 0
  lift_other j d e = grind (arith, nat_tests, d, e)

  lift-le : (j : ℕ) → lift j ≤ 1
  lift-le j = elim (j == k || j == k + 1) as (λ b. cond b 1 0 ≤ 1) [ true ↦ omega arith | false ↦ omega arith ]

  -- ---- the names before and behind
  abbrev pub base : ℕ → ℕ
  base i = cond (nat_lt i o) (code 0 (o - 1 - i) 0) (code 1 (i - o) 0)

  abbrev final : ℕ → ℕ
  final i = cond (nat_lt i n) (code 1 i (lo + 1)) (code 0 (n + o - 1 - i) ln)

  base_h : (i : ℕ) → i < o → base i ≡ code 0 (o - 1 - i) 0
  base_h i l = in_lt i o (code 0 (o - 1 - i) 0) (code 1 (i - o) 0) l

  base_v : (i : ℕ) → o ≤ i → base i ≡ code 1 (i - o) 0
  base_v i l = out_lt i o (code 0 (o - 1 - i) 0) (code 1 (i - o) 0) l

  final_v : (i : ℕ) → i < n → final i ≡ code 1 i (lo + 1)
  final_v i l = in_lt i n (code 1 i (lo + 1)) (code 0 (n + o - 1 - i) ln) l

  final_h : (i : ℕ) → n ≤ i → final i ≡ code 0 (n + o - 1 - i) ln
  final_h i l = out_lt i n (code 1 i (lo + 1)) (code 0 (n + o - 1 - i) ln) l

  base_is : (i : ℕ) → i < size → (j : ℕ) × (j < 8) × ((base i ≡ code 0 j 0) ⊎ (base i ≡ code 1 j 0))
  base_is i l = ⊎_elim (λ h. (o - 1 - i, omega (arith, h, few_o), inl (base_h i h))) (λ h. (i - o, omega (arith, h, l, few_n), inr (base_v i h))) (below_or i o)

  final_is : (i : ℕ) → i < size → (j : ℕ) × (m : ℕ) × (1 ≤ m) × (m ≤ 16) × ((final i ≡ code 0 j m) ⊎ (final i ≡ code 1 j m))
  final_is i l =
      let a = long-few o few_o in let b = long-few n few_n in let d = long-some n in
      ⊎_elim (λ h. (i, lo + 1, omega arith, omega (arith, a), inr (final_v i h))) (λ h. (n + o - 1 - i, ln, omega (arith, d), omega (arith, b), inl (final_h i h))) (below_or i n)

  pub one : (i j : ℕ) → i < size → j < size → base i ≡ base j → i ≡ j
  one i j a b e =
      ⊎_elim
      (λ p. (let u = base_h i p in ⊎_elim (λ q. (let v = base_h j q in omega (arith, e, u, v, p, q))) (λ q. absurd (let v = base_v j q in omega (arith, e, u, v))) (below_or j o)))
      (λ p. (let u = base_v i p in ⊎_elim (λ q. absurd (let v = base_h j q in omega (arith, e, u, v))) (λ q. (let v = base_v j q in omega (arith, e, u, v, p, q))) (below_or j o)))
      (below_or i o)

  -- a name of an edge past the first
  IsInner : ℕ → Type 0
  IsInner w = (j : ℕ) × (m : ℕ) × (t : ℕ) × (1 ≤ m) × (m ≤ 16) × (t ≤ 1) × ((w ≡ code 0 j m + 4 * t) ⊎ (w ≡ code 1 j m + 4 * t))

  inner_new : (w i : ℕ) → IsInner w → i < size → w ≢ base i
  unfolding IsInner
  inner_new w i p l e =
      let q = base_is i l in
      let m1 = p.3 in let m2 = p.4 in let t1 = p.5 in
      ⊎_elim
      (λ u. ⊎_elim (λ v. omega (arith, e, u, v, m1, m2, t1)) (λ v. omega (arith, e, u, v, t1)) q.2)
      (λ u. ⊎_elim (λ v. omega (arith, e, u, v, t1)) (λ v. omega (arith, e, u, v, m1, m2, t1)) q.2)
      p.6

  final_new : (i j : ℕ) → i < size → j < size → final i ≢ base j
  unfolding IsInner
  final_new i j a b e =
      let p = final_is i a in
      let inner : IsInner (final i) = (p.0, p.1, 0, p.2, p.3, omega arith, ⊎_elim (λ u. inl (omega (arith, u))) (λ u. inr (omega (arith, u))) p.4) in
      inner_new (final i) j inner b e

  abbrev pub name : ℕ → ℕ
  name = based base

  name_top : (i : ℕ) → name (top i) ≡ base i
  name_top i = ap base (strand_top i)

  -- ---- the small crossing before
  abbrev pub lv : ℕ → ℕ → ℕ
  lv i j = code 1 (k + 1 - i) i

  abbrev pub lh : ℕ → ℕ → ℕ
  lh i j = code 1 (k + j) j

  abbrev pub V : ℕ → ℕ → ℕ
  V i j = code 1 j (cond (i == 0) (lift j) (i + 1))

  abbrev pub H : ℕ → ℕ → ℕ
  H i j = code 0 i j

  -- ---- and behind
  abbrev pub keep : ℕ → ℕ → ℕ
  keep i j = cond (i == 0) 0 (cond (nat_lt i lo) 1 (lift j))

  abbrev pub W : ℕ → ℕ → ℕ
  W i j = code 1 j (cond (i == 0) 0 (i + 1)) + 4 * keep i j

  abbrev pub K : ℕ → ℕ → ℕ
  K i j = star 0 i j ln

  abbrev pub mv : ℕ → ℕ → ℕ
  mv i j = code 1 (k + 1 - i) (lo + 1) + 4 * (1 - i)

  abbrev pub mh : ℕ → ℕ → ℕ
  mh i j = code 1 (k + j) (lo + 1) + 4 * (1 - j)

  V_high : (i j : ℕ) → 0 < i → V i j ≡ code 1 j (i + 1)
  V_high i j l = let t : cond (i == 0) (lift j) (i + 1) ≡ i + 1 = plain i (lift j) l in omega (arith, t)
    where
      plain : (i x : ℕ) → 0 < i → cond (i == 0) x (i + 1) ≡ i + 1
      plain i x l = grind (arith, nat_tests, l)

  W_high : (i j : ℕ) → 0 < i → W i j ≡ code 1 j (i + 1) + 4 * keep i j
  W_high i j l = let t : cond (i == 0) 0 (i + 1) ≡ i + 1 = plain i l in omega (arith, t)
    where
      plain : (i : ℕ) → 0 < i → cond (i == 0) 0 (i + 1) ≡ i + 1
      plain i l = grind (arith, nat_tests, l)

  keep-le : (i j : ℕ) → keep i j ≤ 1
  keep-le i j = let l = lift-le j in plain i lo (lift j) l
    where
      plain : (i lo x : ℕ) → x ≤ 1 → cond (i == 0) 0 (cond (nat_lt i lo) 1 x) ≤ 1
      plain i lo x l = grind (arith, nat_tests, l)

  pub keep_inner : (i j : ℕ) → 0 < i → i < lo → keep i j ≡ 1
  keep_inner i j a b = plain i lo (lift j) a b
    where
      plain : (i lo x : ℕ) → 0 < i → i < lo → cond (i == 0) 0 (cond (nat_lt i lo) 1 x) ≡ 1
      plain i lo x a b = grind (arith, nat_tests, a, b)

  pub keep_last : (j : ℕ) → keep lo j ≡ lift j
  keep_last j = plain lo (lift j) (long-some o)
    where
      plain : (lo x : ℕ) → 1 ≤ lo → cond (lo == 0) 0 (cond (nat_lt lo lo) 1 x) ≡ x
      plain lo x l = grind (arith, nat_tests, l)

  star_start : (i last : ℕ) → star 0 i 0 last ≡ code 0 i 0
  star_start i last = omega arith

  star_end : (i m last : ℕ) → last ≤ m → star 0 i m last ≡ code 0 i m
  star_end i m last l = let e = bit_end m last l in omega (arith, e)

  module _ (a1 b1 a2 b2 : ℕ) where
    abbrev pub s1 : List Step
    s1 = crossing_steps a1 b1 lv lh (o + k) 1 1

    abbrev pub s2 : List Step
    s2 = crossing_steps a2 b2 V H 0 o n

    abbrev pub olds : List Step
    olds = s1 ++ (s2 ++ [])

    abbrev pub n1 : ℕ → ℕ
    n1 = names_after name s1

    abbrev pub t1 : List Step
    t1 = crossing_steps a2 b2 W K 0 o n

    abbrev pub t2 : List Step
    t2 = crossing_steps a1 b1 mv mh k 1 1

    abbrev pub news : List Step
    news = t1 ++ (t2 ++ [])

    abbrev pub m1 : ℕ → ℕ
    m1 = names_after name t1

    pub fits_1 : FitsGrid name lv lh (o + k) 0 1 1
    fits_1 = record {
      west = λ i r l h e. name_top i ∙ base_v i (omega (arith, l)) ∙ omega (arith, l, h);
      south = λ i c l h e. name_top i ∙ base_v i (omega (arith, l)) ∙ omega (arith, l, h);
    }

    follows_1 : Follows name n1 lv lh (o + k) 1 1
    follows_1 = crossing_follows a1 b1 lv lh name (o + k) 1 1 fits_1

    pub fits_2 : FitsGrid n1 V H 0 0 o n
    fits_2 = record {
      west = λ i r l h e. follows_1.others (top i) (λ j lo hi. top_apart i j (λ s. omega (arith, s, h, lo))) ∙ name_top i ∙ base_h i (omega (arith, h)) ∙ omega (arith, e);
      south = λ i c l h e.
          ⊎_elim
          (λ (q : c ≡ k). follows_1.north i 0 (omega (arith, e, q)) (omega (arith, e, q)) (omega (arith, e, q)) ∙ (let f = lift_first in let g : lift c ≡ 1 = ap lift q ∙ f in omega (arith, g, q)))
          (λ d. ⊎_elim
          (λ (q : c ≡ k + 1). follows_1.east i 0 (omega (arith, e, q)) (omega (arith, e, q)) (omega (arith, e, q)) ∙ (let f = lift_second in let g : lift c ≡ 1 = ap lift q ∙ f in omega (arith, g, q)))
          (λ u.
          follows_1.others (top i) (λ j lo hi. top_apart i j (λ s. (let v = d in let w = u in sides c k (λ q. v q) (λ q. w q) (omega (arith, s, lo, e)) (omega (arith, s, hi, e)))))
          ∙ name_top i ∙ base_v i (omega (arith, l)) ∙ (let g = lift_other c d u in omega (arith, g, e)))
          (cases_eq c (k + 1)))
          (cases_eq c k);
    }
      where
        sides : (c k : ℕ) → c ≢ k → c ≢ k + 1 → k ≤ c → c < k + 2 → ⊥
        sides c k d u a b = omega (arith, d, u, a, b)

    follows_2 : Follows n1 (names_after n1 s2) V H 0 o n
    follows_2 = crossing_follows a2 b2 V H n1 0 o n fits_2

    old_behind : (i : ℕ) → i < size → names_after name olds (top i) ≡ final i
    old_behind i l =
        ap (λ (f : ℕ → ℕ). f (top i)) (three_names name s1 s2 [])
        ∙ ⊎_elim
        (λ p. follows_2.north i i (omega arith) (omega (arith, p)) (omega arith) ∙ V_high lo i (let s = long-some o in omega (arith, s)) ∙ sym (final_v i p))
        (λ p. follows_2.east i (n + o - 1 - i) (omega (arith, p)) (omega (arith, l)) (omega (arith, l, p)) ∙ sym (final_h i p))
        (below_or i n)

    pub fits_3 : FitsGrid name W K 0 0 o n
    fits_3 = record {
      west = λ i r l h e. name_top i ∙ base_h i (omega (arith, h)) ∙ (let t : o - 1 - i ≡ r = omega (arith, e) in ap (λ j. code 0 j 0) t) ∙ sym (star_start r ln);
      south = λ i c l h e. name_top i ∙ base_v i (omega (arith, l)) ∙ omega (arith, e);
    }

    follows_3 : Follows name m1 W K 0 o n
    follows_3 = crossing_follows a2 b2 W K name 0 o n fits_3

    at_last : (j : ℕ) → W lo j ≡ code 1 j (lo + 1) + 4 * lift j
    at_last j = W_high lo j (let s = long-some o in omega (arith, s)) ∙ ap (λ q. code 1 j (lo + 1) + 4 * q) (keep_last j)

    pub fits_4 : FitsGrid m1 mv mh k 0 1 1
    fits_4 = record {
      west = λ i r l h e. follows_3.north i k (omega arith) (omega (arith, h, inside)) (omega (arith, l, h)) ∙ at_last k ∙ (let f = lift_first in omega (arith, f));
      south = λ i c l h e. follows_3.north i (k + 1) (omega arith) (omega (arith, h, inside)) (omega (arith, l, h)) ∙ at_last (k + 1) ∙ (let f = lift_second in omega (arith, f));
    }

    follows_4 : Follows m1 (names_after m1 t2) mv mh k 1 1
    follows_4 = crossing_follows a1 b1 mv mh m1 k 1 1 fits_4

    new_behind : (i : ℕ) → i < size → names_after name news (top i) ≡ final i
    new_behind i l =
        ap (λ (f : ℕ → ℕ). f (top i)) (three_names name t1 t2 [])
        ∙ ⊎_elim
        (λ p. ⊎_elim
        (λ (q : i ≡ k). follows_4.north i 0 (omega (arith, q)) (omega (arith, q)) (omega (arith, q)) ∙ (let f = final_v i p in omega (arith, f, q)))
        (λ d. ⊎_elim
        (λ (q : i ≡ k + 1). follows_4.east i 0 (omega (arith, q)) (omega (arith, q)) (omega (arith, q)) ∙ (let f = final_v i p in omega (arith, f, q)))
        (λ u. follows_4.others (top i) (λ j a b. top_apart i j (λ s. sides i k d u (omega (arith, s, a)) (omega (arith, s, b)))) ∙ follows_3.north i i (omega arith) (omega (arith, p)) (omega arith) ∙ at_last i
        ∙ (let g = lift_other i d u in let f = final_v i p in omega (arith, g, f)))
        (cases_eq i (k + 1)))
        (cases_eq i k))
        (λ p.
        follows_4.others (top i) (λ j a b. top_apart i j (λ s. omega (arith, s, b, p, inside))) ∙ follows_3.east i (n + o - 1 - i) (omega (arith, p)) (omega (arith, l)) (omega (arith, l, p))
        ∙ star_end (n + o - 1 - i) ln ln (omega arith) ∙ sym (final_h i p))
        (below_or i n)
      where
        sides : (c k : ℕ) → c ≢ k → c ≢ k + 1 → k ≤ c → c < k + 2 → ⊥
        sides c k d u a b = omega (arith, d, u, a, b)

    -- ---- no name is given twice
    abbrev First : ℕ → Type 0
    First w = IsLongName lv lh 1 1 w

    abbrev Second : ℕ → Type 0
    Second w = IsLongName V H o n w

    abbrev Third : ℕ → Type 0
    Third w = IsLongName W K o n w

    abbrev Fourth : ℕ → Type 0
    Fourth w = IsLongName mv mh 1 1 w

    abbrev None : ℕ → Type 0
    None w = ⊥

    names_1 : AreLongNames lv lh 1 1
    names_1 = record {
      vertical = λ i j p l i0 ix jy p0 px ly e. (omega (arith, i0, ix, p0, px), omega (arith, jy, ly));
      horizontal = λ i j p l ix j0 jy px l0 ly e. (omega (arith, ix, px), omega (arith, j0, jy, l0, ly));
      apart = λ i j p l i0 ix jy px l0 ly e. omega (arith, e, i0, ix, l0, ly);
    }

    names_2 : AreLongNames V H o n
    names_2 = record {
      vertical = λ i j p l i0 ix jy p0 px ly e. let a = long-few o few_o in let u = V_high i j i0 in let v = V_high p l p0 in (omega (arith, e, u, v, ix, px, a), omega (arith, e, u, v, ix, px, a));
      horizontal = λ i j p l ix j0 jy px l0 ly e. let a = long-few n few_n in (omega (arith, e, jy, ly, a), omega (arith, e, jy, ly, a));
      apart = λ i j p l i0 ix jy px l0 ly e. omega (arith, e);
    }

    names_3 : AreLongNames W K o n
    names_3 = record {
      vertical = λ i j p l i0 ix jy p0 px ly e.
          let a = long-few o few_o in let u = W_high i j i0 in let v = W_high p l p0 in let q = keep-le i j in let r = keep-le p l in (omega (arith, e, u, v, ix, px, a, q, r), omega (arith, e, u, v, ix, px, a, q, r));
      horizontal = λ i j p l ix j0 jy px l0 ly e. let a = long-few n few_n in let q = bit-le j ln in let r = bit-le l ln in (omega (arith, e, jy, ly, a, q, r), omega (arith, e, jy, ly, a, q, r));
      apart = λ i j p l i0 ix jy px l0 ly e. let u = W_high i j i0 in let q = keep-le i j in let r = bit-le l ln in omega (arith, e, u, q, r);
    }

    names_4 : AreLongNames mv mh 1 1
    names_4 = record {
      vertical = λ i j p l i0 ix jy p0 px ly e. (omega (arith, i0, ix, p0, px), omega (arith, jy, ly));
      horizontal = λ i j p l ix j0 jy px l0 ly e. (omega (arith, ix, px), omega (arith, j0, jy, l0, ly));
      apart = λ i j p l i0 ix jy px l0 ly e. omega (arith, e, i0, ix, l0, ly);
    }

    clash_12 : (w : ℕ) → First w → Second w → ⊥
    clash_12 w (inl p) (inl q) = let a = p.2 in let b = p.3 in let c = q.2 in let d = q.3 in let f = long-few o few_o in let e = p.5 in let g = q.5 ∙ V_high q.0 q.1 q.2 in omega (arith, a, b, c, d, e, f, g)
    clash_12 w (inl p) (inr q) = let e = p.5 in let g = q.5 in omega (arith, e, g)
    clash_12 w (inr p) (inl q) = let a = p.3 in let b = p.4 in let c = q.2 in let d = q.3 in let f = long-few o few_o in let e = p.5 in let g = q.5 ∙ V_high q.0 q.1 q.2 in omega (arith, a, b, c, d, e, f, g)
    clash_12 w (inr p) (inr q) = let e = p.5 in let g = q.5 in omega (arith, e, g)

    -- the last edges of both strands are others than those behind the small crossing
    apart_last : (i j : ℕ) → 0 < i → i ≤ lo → (j ≡ k) ⊎ (j ≡ k + 1) → W i j ≢ code 1 j (lo + 1)
    apart_last i j a b c e =
        let u = W_high i j a in
        let f = long-few o few_o in
        let one : lift j ≡ 1 = ⊎_elim (λ q. ap lift q ∙ lift_first) (λ q. ap lift q ∙ lift_second) c in
        let kept : keep i j ≡ 1 = plain i lo (lift j) a b one in
        omega (arith, e, u, kept)
      where
        plain : (i lo x : ℕ) → 0 < i → i ≤ lo → x ≡ 1 → cond (i == 0) 0 (cond (nat_lt i lo) 1 x) ≡ 1
        plain i lo x a b h = grind (arith, nat_tests, a, b, h)

    clash_34 : (w : ℕ) → Third w → Fourth w → ⊥
    clash_34 w (inl p) (inl q) =
        let a = q.2 in let b = q.3 in let e = q.5 in let f = long-few o few_o in
        let g = p.5 ∙ W_high p.0 p.1 p.2 in let h = keep-le p.0 p.1 in let i = p.3 in
        let j : p.1 ≡ k = omega (arith, a, b, e, f, g, h, i) in
        apart_last p.0 p.1 p.2 p.3 (inl j) (sym p.5 ∙ (omega (arith, a, b, e, j)))
    clash_34 w (inl p) (inr q) =
        let a = q.3 in let b = q.4 in let e = q.5 in let f = long-few o few_o in
        let g = p.5 ∙ W_high p.0 p.1 p.2 in let h = keep-le p.0 p.1 in let i = p.3 in
        let j : p.1 ≡ k + 1 = omega (arith, a, b, e, f, g, h, i) in
        apart_last p.0 p.1 p.2 p.3 (inr j) (sym p.5 ∙ (omega (arith, a, b, e, j)))
    clash_34 w (inr p) (inl q) = let a = q.2 in let b = q.3 in let e = q.5 in let g = p.5 in let r = bit-le p.1 ln in omega (arith, a, b, e, g, r)
    clash_34 w (inr p) (inr q) = let a = q.3 in let b = q.4 in let e = q.5 in let g = p.5 in let r = bit-le p.1 ln in omega (arith, a, b, e, g, r)

    inner_1 : (w : ℕ) → First w → IsInner w
    unfolding IsInner
    inner_1 w (inl p) = let e = p.5 in let a = p.2 in let b = p.3 in (k, 1, 0, omega arith, omega arith, omega arith, inr (omega (arith, a, b, e)))
    inner_1 w (inr p) = let e = p.5 in let a = p.3 in let b = p.4 in (k + 1, 1, 0, omega arith, omega arith, omega arith, inr (omega (arith, a, b, e)))

    inner_2 : (w : ℕ) → Second w → IsInner w
    unfolding IsInner
    inner_2 w (inl p) = let e = p.5 ∙ V_high p.0 p.1 p.2 in let b = p.3 in let f = long-few o few_o in (p.1, p.0 + 1, 0, omega arith, omega (arith, b, f), omega arith, inr (omega (arith, e)))
    inner_2 w (inr p) = let e = p.5 in let a = p.3 in let b = p.4 in let f = long-few n few_n in (p.0, p.1, 0, omega (arith, a), omega (arith, b, f), omega arith, inl (omega (arith, e)))

    inner_3 : (w : ℕ) → Third w → IsInner w
    unfolding IsInner
    inner_3 w (inl p) = let e = p.5 ∙ W_high p.0 p.1 p.2 in let b = p.3 in let f = long-few o few_o in (p.1, p.0 + 1, keep p.0 p.1, omega arith, omega (arith, b, f), keep-le p.0 p.1, inr e)
    inner_3 w (inr p) = let a = p.3 in let b = p.4 in let f = long-few n few_n in (p.0, p.1, bit p.1 ln, omega (arith, a), omega (arith, b, f), bit-le p.1 ln, inl p.5)

    inner_4 : (w : ℕ) → Fourth w → IsInner w
    unfolding IsInner
    inner_4 w (inl p) = let e = p.5 in let a = p.2 in let b = p.3 in let f = long-few o few_o in (k, lo + 1, 0, omega arith, omega (arith, f), omega arith, inr (omega (arith, a, b, e)))
    inner_4 w (inr p) = let e = p.5 in let a = p.3 in let b = p.4 in let f = long-few o few_o in (k + 1, lo + 1, 0, omega arith, omega (arith, f), omega arith, inr (omega (arith, a, b, e)))

    -- THE RUN BEFORE
    pub old_run : IsRun size base olds
    old_run =
        three_runs size base s1 s2 []
        (crossing_tops size a1 b1 lv lh (o + k) 1 1 (omega (arith, inside))) (crossing_tops size a2 b2 V H 0 o n (omega arith)) tt
        (crossing_distinct a1 b1 lv lh (o + k) 1 1 names_1) (crossing_distinct a2 b2 V H 0 o n names_2) tt
        First Second None (crossing_names a1 b1 lv lh (o + k) 1 1) (crossing_names a2 b2 V H 0 o n) (λ z m. absurd (grind (arith, m)))
        clash_12 (λ w p q. q) (λ w p q. q) (λ w i p. inner_new w i (inner_1 w p)) (λ w i p. inner_new w i (inner_2 w p)) (λ w i p. absurd p)
        (λ i j li lj e. final_new i j li lj (sym (old_behind i li) ∙ e))

    -- THE RUN BEHIND
    pub new_run : IsRun size base news
    new_run =
        three_runs size base t1 t2 []
        (crossing_tops size a2 b2 W K 0 o n (omega arith)) (crossing_tops size a1 b1 mv mh k 1 1 (omega (arith, inside))) tt
        (crossing_distinct a2 b2 W K 0 o n names_3) (crossing_distinct a1 b1 mv mh k 1 1 names_4) tt
        Third Fourth None (crossing_names a2 b2 W K 0 o n) (crossing_names a1 b1 mv mh k 1 1) (λ z m. absurd (grind (arith, m)))
        clash_34 (λ w p q. q) (λ w p q. q) (λ w i p. inner_new w i (inner_3 w p)) (λ w i p. inner_new w i (inner_4 w p)) (λ w i p. absurd p)
        (λ i j li lj e. final_new i j li lj (sym (new_behind i li) ∙ e))

    -- BOTH HAVE THE SAME NAMES BEHIND
    pub sides_agree : AgreeOn (strand_points 0 size) (names_after name olds) (names_after name news)
    sides_agree u m =
        let l = (member_strands 0 size u m).1 in
        let i = strand_of u in
        ⊎_elim
        (λ e. ap (names_after name olds) e ∙ old_behind i (omega (arith, l)) ∙ sym (ap (names_after name news) e ∙ new_behind i (omega (arith, l))))
        (λ e. ap (names_after name olds) e ∙ bottoms_kept size name olds old_run.tops i ∙ sym (ap (names_after name news) e ∙ bottoms_kept size name news new_run.tops i))
        (halves u)
