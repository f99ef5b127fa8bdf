-- Three bundles that cross one another, at names that are written out: both sides of the third move are runs of steps. Strand i of a
-- bundle has at its m-th edge, counted from below, the number 8 (32 i + m), and 1 or 2 more in the second and the third bundle; on the
-- other side of the move inner edges have 4 more.
use Rattle.std.proofs.Common.{◌≡◌, ◌≢◌, ℕ, ◌+◌, ◌-◌, ◌*◌, ◌<◌, ◌≤◌, ◌&&◌, ◌⊎◌, inl, inr, nat_lt, true, false, cond, List, ◌++◌, sym, ap, ◌∙◌, arith, ⊎_elim}
use Rattle.std.proofs.lemmas.Bool.Decides.{nat_tests}
use Rattle.strand_words.specs.Words.{top}
use Rattle.word_networks.specs.GridNetworks.{FitsGrid}
use Rattle.word_networks.specs.Spelling.{AgreeOn}
use Rattle.word_networks.specs.Steps.{Step, names_after}
use Rattle.word_networks.specs.Strands.{strand_of, strand_points}
use Rattle.word_networks.proofs.Strands.{member_strands, strand_top, halves}
use Rattle.cable_crossings.proofs.CrossingSteps.{long, long-few, long-some, crossing_steps, Follows, crossing_follows, crossing_tops, crossing_names, crossing_distinct, IsLongName, AreLongNames}
use Rattle.cable_crossings.proofs.NameCodes.{code, in_lt, out_lt, below_or}
use Rattle.cable_crossings.proofs.StepPieces.{IsRun, based, bottoms_kept}
use Rattle.cable_crossings.proofs.ThreeRuns.{three_runs, three_names}

-- 1 at an inner edge of a strand whose last edge is `last`
abbrev pub bit : ℕ → ℕ → ℕ
bit m last = cond (nat_lt 0 m && nat_lt m last) 1 0

-- the number on the other side of the move
abbrev pub star : ℕ → ℕ → ℕ → ℕ → ℕ
star tag i m last = code tag i m + 4 * bit m last

pub bit-le : (m last : ℕ) → bit m last ≤ 1
bit-le m last = elim (nat_lt 0 m && nat_lt m last) as (λ b. cond b 1 0 ≤ 1) [ true ↦ omega arith | false ↦ omega arith ]

pub bit_end : (m last : ℕ) → last ≤ m → bit m last ≡ 0
bit_end m last l = grind (arith, nat_tests, l)

pub bit_inner : (m last : ℕ) → 0 < m → m < last → bit m last ≡ 1
bit_inner m last a b = grind (arith, nat_tests, a, b)

top_apart : (i j : ℕ) → i ≢ j → top i ≢ top j
top_apart i j d e = d (omega (arith, e))

module _ (x y z : ℕ) (few_x : x ≤ 8) (few_y : y ≤ 8) (few_z : z ≤ 8) where
  abbrev n : ℕ
  n = x + y + z

  abbrev lx : ℕ
  lx = long x

  abbrev ly : ℕ
  ly = long y

  abbrev lz : ℕ
  lz = long z

  -- ---- the names before and behind
  abbrev pub base : ℕ → ℕ
  base k = cond (nat_lt k x) (code 0 (x - 1 - k) 0) (cond (nat_lt k (x + y)) (code 1 (k - x) 0) (code 2 (k - x - y) 0))

  abbrev final : ℕ → ℕ
  final k = cond (nat_lt k z) (code 2 k (lx + ly)) (cond (nat_lt k (z + y)) (code 1 (k - z) (lx + lz)) (code 0 (z + y + x - 1 - k) (ly + lz)))

  first : (k i p q w : ℕ) → k < i → cond (nat_lt k i) p (cond (nat_lt k (i + q)) w 0) ≡ p
  first k i p q w l = grind (arith, nat_tests, l)

  base_x : (k : ℕ) → k < x → base k ≡ code 0 (x - 1 - k) 0
  base_x k l = in_lt k x (code 0 (x - 1 - k) 0) (cond (nat_lt k (x + y)) (code 1 (k - x) 0) (code 2 (k - x - y) 0)) l

  base_y : (k : ℕ) → x ≤ k → k < x + y → base k ≡ code 1 (k - x) 0
  base_y k l h = out_lt k x (code 0 (x - 1 - k) 0) (cond (nat_lt k (x + y)) (code 1 (k - x) 0) (code 2 (k - x - y) 0)) l ∙ in_lt k (x + y) (code 1 (k - x) 0) (code 2 (k - x - y) 0) h

  base_z : (k : ℕ) → x + y ≤ k → base k ≡ code 2 (k - x - y) 0
  base_z k l =
      out_lt k x (code 0 (x - 1 - k) 0) (cond (nat_lt k (x + y)) (code 1 (k - x) 0) (code 2 (k - x - y) 0)) (omega (arith, l)) ∙ out_lt k (x + y) (code 1 (k - x) 0) (code 2 (k - x - y) 0) l

  final_z : (k : ℕ) → k < z → final k ≡ code 2 k (lx + ly)
  final_z k l = in_lt k z (code 2 k (lx + ly)) (cond (nat_lt k (z + y)) (code 1 (k - z) (lx + lz)) (code 0 (z + y + x - 1 - k) (ly + lz))) l

  final_y : (k : ℕ) → z ≤ k → k < z + y → final k ≡ code 1 (k - z) (lx + lz)
  final_y k l h =
      out_lt k z (code 2 k (lx + ly)) (cond (nat_lt k (z + y)) (code 1 (k - z) (lx + lz)) (code 0 (z + y + x - 1 - k) (ly + lz))) l
      ∙ in_lt k (z + y) (code 1 (k - z) (lx + lz)) (code 0 (z + y + x - 1 - k) (ly + lz)) h

  final_x : (k : ℕ) → z + y ≤ k → final k ≡ code 0 (z + y + x - 1 - k) (ly + lz)
  final_x k l =
      out_lt k z (code 2 k (lx + ly)) (cond (nat_lt k (z + y)) (code 1 (k - z) (lx + lz)) (code 0 (z + y + x - 1 - k) (ly + lz))) (omega (arith, l))
      ∙ out_lt k (z + y) (code 1 (k - z) (lx + lz)) (code 0 (z + y + x - 1 - k) (ly + lz)) l

  -- a name from before is an edge 0, one behind is not
  base_is : (k : ℕ) → k < n → (i : ℕ) × (i < 8) × ((base k ≡ code 0 i 0) ⊎ ((base k ≡ code 1 i 0) ⊎ (base k ≡ code 2 i 0)))
  base_is k l =
      ⊎_elim (λ h. (x - 1 - k, omega (arith, h, few_x), inl (base_x k h)))
      (λ g. ⊎_elim (λ h. (k - x, omega (arith, g, h, few_y), inr (inl (base_y k g h)))) (λ h. (k - x - y, omega (arith, h, l, few_z), inr (inr (base_z k h)))) (below_or k (x + y)))
      (below_or k x)

  final_is : (k : ℕ) → k < n → (i : ℕ) × (m : ℕ) × (i < 8) × (1 ≤ m) × (m ≤ 16) × ((final k ≡ code 0 i m) ⊎ ((final k ≡ code 1 i m) ⊎ (final k ≡ code 2 i m)))
  final_is k l =
      let ax = long-few x few_x in let ay = long-few y few_y in let az = long-few z few_z in let bx = long-some x in let by = long-some y in
      ⊎_elim (λ h. (k, lx + ly, omega (arith, h, few_z), omega (arith, bx), omega (arith, ax, ay), inr (inr (final_z k h))))
      (λ g. ⊎_elim (λ h. (k - z, lx + lz, omega (arith, g, h, few_y), omega (arith, bx), omega (arith, ax, az), inr (inl (final_y k g h))))
      (λ h. (z + y + x - 1 - k, ly + lz, omega (arith, h, l, few_x), omega (arith, by), omega (arith, ay, az), inl (final_x k h))) (below_or k (z + y)))
      (below_or k z)

  pub one : (i j : ℕ) → i < n → j < n → base i ≡ base j → i ≡ j
  one i j a b e =
      ⊎_elim
      (λ p. (let u = base_x i p in ⊎_elim
      (λ q. (let v = base_x j q in omega (arith, e, u, v, p, q)))
      (λ q. ⊎_elim (λ r. absurd (let v = base_y j q r in omega (arith, e, u, v))) (λ r. absurd (let v = base_z j r in omega (arith, e, u, v))) (below_or j (x + y)))
      (below_or j x)))
      (λ p. ⊎_elim
      (λ s. (let u = base_y i p s in ⊎_elim
      (λ q. absurd (let v = base_x j q in omega (arith, e, u, v)))
      (λ q. ⊎_elim (λ r. (let v = base_y j q r in omega (arith, e, u, v, p, q))) (λ r. absurd (let v = base_z j r in omega (arith, e, u, v))) (below_or j (x + y)))
      (below_or j x)))
      (λ s. (let u = base_z i s in ⊎_elim
      (λ q. absurd (let v = base_x j q in omega (arith, e, u, v)))
      (λ q. ⊎_elim (λ r. absurd (let v = base_y j q r in omega (arith, e, u, v))) (λ r. (let v = base_z j r in omega (arith, e, u, v, s, r))) (below_or j (x + y)))
      (below_or j x)))
      (below_or i (x + y)))
      (below_or i x)

  final_new : (i j : ℕ) → i < n → j < n → final i ≢ base j
  final_new i j a b e =
      let p = final_is i a in
      let q = base_is j b in
      let m1 = p.3 in let m2 = p.4 in
      ⊎_elim
      (λ u. ⊎_elim (λ v. omega (arith, e, u, v, m1, m2)) (λ w. ⊎_elim (λ v. omega (arith, e, u, v)) (λ v. omega (arith, e, u, v)) w) q.2)
      (λ t. ⊎_elim
      (λ u. ⊎_elim (λ v. omega (arith, e, u, v)) (λ w. ⊎_elim (λ v. omega (arith, e, u, v, m1, m2)) (λ v. omega (arith, e, u, v)) w) q.2)
      (λ u. ⊎_elim (λ v. omega (arith, e, u, v)) (λ w. ⊎_elim (λ v. omega (arith, e, u, v)) (λ v. omega (arith, e, u, v, m1, m2)) w) q.2)
      t)
      p.5

  abbrev pub name : ℕ → ℕ
  name = based base

  name_top : (k : ℕ) → name (top k) ≡ base k
  name_top k = ap base (strand_top k)

  -- ---- the crossings before the move
  abbrev pub v1 : ℕ → ℕ → ℕ
  v1 i j = code 1 j i

  abbrev pub h1 : ℕ → ℕ → ℕ
  h1 i j = code 0 i j

  abbrev pub v2 : ℕ → ℕ → ℕ
  v2 i j = code 2 j i

  abbrev pub h2 : ℕ → ℕ → ℕ
  h2 i j = code 0 i (ly + j)

  abbrev pub v3 : ℕ → ℕ → ℕ
  v3 i j = code 2 j (lx + i)

  abbrev pub h3 : ℕ → ℕ → ℕ
  h3 i j = code 1 (y - 1 - i) (lx + j)

  -- ---- and behind it
  abbrev pub w1 : ℕ → ℕ → ℕ
  w1 i j = star 2 j i (lx + ly)

  abbrev pub k1 : ℕ → ℕ → ℕ
  k1 i j = star 1 (y - 1 - i) j (lx + lz)

  abbrev pub w2 : ℕ → ℕ → ℕ
  w2 i j = star 2 j (ly + i) (lx + ly)

  abbrev pub k2 : ℕ → ℕ → ℕ
  k2 i j = star 0 i j (ly + lz)

  abbrev pub w3 : ℕ → ℕ → ℕ
  w3 i j = star 1 j (lz + i) (lx + lz)

  abbrev pub k3 : ℕ → ℕ → ℕ
  k3 i j = star 0 i (lz + j) (ly + lz)

  star_start : (tag i last : ℕ) → star tag i 0 last ≡ code tag i 0
  star_start tag i last = omega arith

  star_end : (tag i m last : ℕ) → last ≤ m → star tag i m last ≡ code tag i m
  star_end tag i m last l = let e = bit_end m last l in omega (arith, e)

  module _ (a1 b1 a2 b2 a3 b3 : ℕ) where
    abbrev pub s1 : List Step
    s1 = crossing_steps a1 b1 v1 h1 0 x y

    abbrev pub s2 : List Step
    s2 = crossing_steps a2 b2 v2 h2 (0 + y) x z

    abbrev pub s3 : List Step
    s3 = crossing_steps a3 b3 v3 h3 0 y z

    abbrev pub olds : List Step
    olds = s1 ++ (s2 ++ s3)

    abbrev pub n1 : ℕ → ℕ
    n1 = names_after name s1

    abbrev pub n2 : ℕ → ℕ
    n2 = names_after n1 s2

    abbrev pub t1 : List Step
    t1 = crossing_steps a3 b3 w1 k1 (0 + x) y z

    abbrev pub t2 : List Step
    t2 = crossing_steps a2 b2 w2 k2 0 x z

    abbrev pub t3 : List Step
    t3 = crossing_steps a1 b1 w3 k3 (0 + z) x y

    abbrev pub news : List Step
    news = t1 ++ (t2 ++ t3)

    abbrev pub m1 : ℕ → ℕ
    m1 = names_after name t1

    abbrev pub m2 : ℕ → ℕ
    m2 = names_after m1 t2

    pub fits_1 : FitsGrid name v1 h1 0 0 x y
    fits_1 = record {
      west = λ k r l h e. name_top k ∙ base_x k (omega (arith, h)) ∙ omega (arith, e);
      south = λ k c l h e. name_top k ∙ base_y k (omega (arith, l)) (omega (arith, h)) ∙ omega (arith, e);
    }

    follows_1 : Follows name n1 v1 h1 0 x y
    follows_1 = crossing_follows a1 b1 v1 h1 name 0 x y fits_1

    pub fits_2 : FitsGrid n1 v2 h2 (0 + y) 0 x z
    fits_2 = record {
      west = λ k r l h e. follows_1.east k r l h (omega (arith, e)) ∙ omega arith;
      south = λ k c l h e. follows_1.others (top k) (λ j lo hi. top_apart k j (λ s. omega (arith, s, l, hi))) ∙ name_top k ∙ base_z k (omega (arith, l)) ∙ omega (arith, e);
    }

    follows_2 : Follows n1 n2 v2 h2 (0 + y) x z
    follows_2 = crossing_follows a2 b2 v2 h2 n1 (0 + y) x z fits_2

    pub fits_3 : FitsGrid n2 v3 h3 0 0 y z
    fits_3 = record {
      west = λ k r l h e. follows_2.others (top k) (λ j lo hi. top_apart k j (λ s. omega (arith, s, h, lo))) ∙ follows_1.north k k l h (omega arith) ∙ omega (arith, e);
      south = λ k c l h e. follows_2.north k c l (omega (arith, h)) (omega (arith, e)) ∙ omega arith;
    }

    follows_3 : Follows n2 (names_after n2 s3) v3 h3 0 y z
    follows_3 = crossing_follows a3 b3 v3 h3 n2 0 y z fits_3

    old_behind : (k : ℕ) → k < n → names_after name olds (top k) ≡ final k
    old_behind k l =
        ap (λ (f : ℕ → ℕ). f (top k)) (three_names name s1 s2 s3)
        ∙ ⊎_elim
        (λ p. follows_3.north k k (omega arith) (omega (arith, p)) (omega arith) ∙ (let e = final_z k p in omega (arith, e)))
        (λ q. ⊎_elim
        (λ p. follows_3.east k (z + y - 1 - k) (omega (arith, q)) (omega (arith, p)) (omega (arith, p)) ∙ (let e = final_y k q p in let t : y - 1 - (z + y - 1 - k) ≡ k - z = omega (arith, q, p) in omega (arith, e, t)))
        (λ p. follows_3.others (top k) (λ j lo hi. top_apart k j (λ s. omega (arith, s, p, hi))) ∙ follows_2.east k (z + y + x - 1 - k) (omega (arith, p)) (omega (arith, l)) (omega (arith, p, l)) ∙ (let e = final_x k p in omega (arith, e)))
        (below_or k (z + y)))
        (below_or k z)

    pub fits_4 : FitsGrid name w1 k1 (0 + x) 0 y z
    fits_4 = record {
      west = λ k r l h e. name_top k ∙ base_y k (omega (arith, l)) (omega (arith, h)) ∙ (let t : k - x ≡ y - 1 - r = omega (arith, l, h, e) in ap (λ i. code 1 i 0) t) ∙ sym (star_start 1 (y - 1 - r) (lx + lz));
      south = λ k c l h e. name_top k ∙ base_z k (omega (arith, l)) ∙ (let t : k - x - y ≡ c = omega (arith, e) in ap (λ i. code 2 i 0) t) ∙ sym (star_start 2 c (lx + ly));
    }

    follows_4 : Follows name m1 w1 k1 (0 + x) y z
    follows_4 = crossing_follows a3 b3 w1 k1 name (0 + x) y z fits_4

    pub fits_5 : FitsGrid m1 w2 k2 0 0 x z
    fits_5 = record {
      west = λ k r l h e. follows_4.others (top k) (λ j lo hi. top_apart k j (λ s. omega (arith, s, h, lo))) ∙ name_top k ∙ base_x k (omega (arith, h))
          ∙ (let t : x - 1 - k ≡ r = omega (arith, e) in ap (λ i. code 0 i 0) t) ∙ sym (star_start 0 r (ly + lz));
      south = λ k c l h e. follows_4.north k c l (omega (arith, h)) (omega (arith, e)) ∙ ap (λ i. star 2 c i (lx + ly)) (let t : ly ≡ ly + 0 = omega arith in t);
    }

    follows_5 : Follows m1 m2 w2 k2 0 x z
    follows_5 = crossing_follows a2 b2 w2 k2 m1 0 x z fits_5

    pub fits_6 : FitsGrid m2 w3 k3 (0 + z) 0 x y
    fits_6 = record {
      west = λ k r l h e. follows_5.east k r l (omega (arith, h)) (omega (arith, e)) ∙ ap (λ i. star 0 r i (ly + lz)) (let t : lz ≡ lz + 0 = omega arith in t);
      south = λ k c l h e. follows_5.others (top k) (λ j lo hi. top_apart k j (λ s. omega (arith, s, l, hi))) ∙ follows_4.east k (y - 1 - c) (omega (arith, l)) (omega (arith, h)) (omega (arith, e, h))
          ∙ (let t : y - 1 - (y - 1 - c) ≡ c = omega (arith, e, h) in ap (λ i. star 1 i lz (lx + lz)) t) ∙ ap (λ i. star 1 c i (lx + lz)) (let t : lz ≡ lz + 0 = omega arith in t);
    }

    follows_6 : Follows m2 (names_after m2 t3) w3 k3 (0 + z) x y
    follows_6 = crossing_follows a1 b1 w3 k3 m2 (0 + z) x y fits_6

    new_behind : (k : ℕ) → k < n → names_after name news (top k) ≡ final k
    new_behind k l =
        ap (λ (f : ℕ → ℕ). f (top k)) (three_names name t1 t2 t3)
        ∙ ⊎_elim
        (λ p. follows_6.others (top k) (λ j lo hi. top_apart k j (λ s. omega (arith, s, p, lo))) ∙ follows_5.north k k (omega arith) (omega (arith, p)) (omega arith)
        ∙ star_end 2 k (ly + lx) (lx + ly) (omega arith) ∙ (let e = final_z k p in omega (arith, e)))
        (λ q. ⊎_elim
        (λ p. follows_6.north k (k - z) (omega (arith, q)) (omega (arith, p)) (omega (arith, q)) ∙ star_end 1 (k - z) (lz + lx) (lx + lz) (omega arith) ∙ (let e = final_y k q p in omega (arith, e)))
        (λ p. follows_6.east k (z + y + x - 1 - k) (omega (arith, p)) (omega (arith, l)) (omega (arith, p, l)) ∙ star_end 0 (z + y + x - 1 - k) (lz + ly) (ly + lz) (omega arith) ∙ (let e = final_x k p in omega (arith, e)))
        (below_or k (z + y)))
        (below_or k z)

    -- ---- no name is given twice
    abbrev pub First : ℕ → Type 0
    First w = IsLongName v1 h1 x y w

    abbrev pub Second : ℕ → Type 0
    Second w = IsLongName v2 h2 x z w

    abbrev pub Third : ℕ → Type 0
    Third w = IsLongName v3 h3 y z w

    names_1 : AreLongNames v1 h1 x y
    names_1 = record {
      vertical = λ i j k l i0 ix jy k0 kx ly e. let ax = long-few x few_x in (omega (arith, e, ix, kx, ax), omega (arith, e, ix, kx, ax));
      horizontal = λ i j k l ix j0 jy kx l0 ly e. let ay = long-few y few_y in (omega (arith, e, jy, ly, ay), omega (arith, e, jy, ly, ay));
      apart = λ i j k l i0 ix jy kx l0 ly e. omega (arith, e);
    }

    names_2 : AreLongNames v2 h2 x z
    names_2 = record {
      vertical = λ i j k l i0 ix jz k0 kx lz e. let ax = long-few x few_x in (omega (arith, e, ix, kx, ax), omega (arith, e, ix, kx, ax));
      horizontal = λ i j k l ix j0 jz kx l0 lz e. let ay = long-few y few_y in let az = long-few z few_z in (omega (arith, e, jz, lz, ay, az), omega (arith, e, jz, lz, ay, az));
      apart = λ i j k l i0 ix jz kx l0 lz e. omega (arith, e);
    }

    names_3 : AreLongNames v3 h3 y z
    names_3 = record {
      vertical = λ i j k l i0 iy jz k0 ky lz e. let ax = long-few x few_x in let ay = long-few y few_y in (omega (arith, e, iy, ky, ax, ay), omega (arith, e, iy, ky, ax, ay));
      horizontal = λ i j k l iy j0 jz ky l0 lz e. let ax = long-few x few_x in let az = long-few z few_z in (omega (arith, e, iy, ky, jz, lz, ax, az), omega (arith, e, iy, ky, jz, lz, ax, az));
      apart = λ i j k l i0 iy jz ky l0 lz e. omega (arith, e);
    }

    clash_12 : (w : ℕ) → First w → Second w → ⊥
    clash_12 w (inl p) (inl q) = let e = p.5 in let f = q.5 in omega (arith, e, f)
    clash_12 w (inl p) (inr q) = let e = p.5 in let f = q.5 in omega (arith, e, f)
    clash_12 w (inr p) (inl q) = let e = p.5 in let f = q.5 in omega (arith, e, f)
    clash_12 w (inr p) (inr q) = let e = p.5 in let f = q.5 in let a = p.4 in let b = q.3 in let c = q.4 in let ay = long-few y few_y in let az = long-few z few_z in omega (arith, e, f, a, b, c, ay, az)

    clash_13 : (w : ℕ) → First w → Third w → ⊥
    clash_13 w (inl p) (inl q) = let e = p.5 in let f = q.5 in omega (arith, e, f)
    clash_13 w (inl p) (inr q) = let e = p.5 in let f = q.5 in let a = p.3 in let b = q.3 in let c = q.4 in let ax = long-few x few_x in let az = long-few z few_z in omega (arith, e, f, a, b, c, ax, az)
    clash_13 w (inr p) (inl q) = let e = p.5 in let f = q.5 in omega (arith, e, f)
    clash_13 w (inr p) (inr q) = let e = p.5 in let f = q.5 in omega (arith, e, f)

    clash_23 : (w : ℕ) → Second w → Third w → ⊥
    clash_23 w (inl p) (inl q) = let e = p.5 in let f = q.5 in let a = p.3 in let b = q.2 in let c = q.3 in let ax = long-few x few_x in let ay = long-few y few_y in omega (arith, e, f, a, b, c, ax, ay)
    clash_23 w (inl p) (inr q) = let e = p.5 in let f = q.5 in omega (arith, e, f)
    clash_23 w (inr p) (inl q) = let e = p.5 in let f = q.5 in omega (arith, e, f)
    clash_23 w (inr p) (inr q) = let e = p.5 in let f = q.5 in omega (arith, e, f)

    -- a name that a crossing gives is an edge past the first, of some strand
    IsInner : ℕ → Type 0
    IsInner w = (i : ℕ) × (m : ℕ) × (t : ℕ) × (1 ≤ m) × (m ≤ 16) × (t ≤ 1) × ((w ≡ code 0 i m + 4 * t) ⊎ ((w ≡ code 1 i m + 4 * t) ⊎ (w ≡ code 2 i m + 4 * t)))

    inner_new : (w k : ℕ) → IsInner w → k < n → w ≢ base k
    unfolding IsInner
    inner_new w k p l e =
        let q = base_is k l in
        let m1 = p.3 in let m2 = p.4 in let t1 = p.5 in
        ⊎_elim
        (λ u. ⊎_elim (λ v. omega (arith, e, u, v, m1, m2, t1)) (λ r. ⊎_elim (λ v. omega (arith, e, u, v, t1)) (λ v. omega (arith, e, u, v, t1)) r) q.2)
        (λ s. ⊎_elim
        (λ u. ⊎_elim (λ v. omega (arith, e, u, v, t1)) (λ r. ⊎_elim (λ v. omega (arith, e, u, v, m1, m2, t1)) (λ v. omega (arith, e, u, v, t1)) r) q.2)
        (λ u. ⊎_elim (λ v. omega (arith, e, u, v, t1)) (λ r. ⊎_elim (λ v. omega (arith, e, u, v, t1)) (λ v. omega (arith, e, u, v, m1, m2, t1)) r) q.2)
        s)
        p.6

    inner_1 : (w : ℕ) → First w → IsInner w
    unfolding IsInner
    inner_1 w (inl p) = let e = p.5 in let a = p.2 in let b = p.3 in let ax = long-few x few_x in (p.1, p.0, 0, omega (arith, a), omega (arith, b, ax), omega arith, inr (inl (omega (arith, e))))
    inner_1 w (inr p) = let e = p.5 in let a = p.3 in let b = p.4 in let ay = long-few y few_y in (p.0, p.1, 0, omega (arith, a), omega (arith, b, ay), omega arith, inl (omega (arith, e)))

    inner_2 : (w : ℕ) → Second w → IsInner w
    unfolding IsInner
    inner_2 w (inl p) = let e = p.5 in let a = p.2 in let b = p.3 in let ax = long-few x few_x in (p.1, p.0, 0, omega (arith, a), omega (arith, b, ax), omega arith, inr (inr (omega (arith, e))))
    inner_2 w (inr p) = let e = p.5 in let a = p.3 in let b = p.4 in let ay = long-few y few_y in let az = long-few z few_z in (p.0, ly + p.1, 0, omega (arith, a), omega (arith, b, ay, az), omega arith, inl (omega (arith, e)))

    inner_3 : (w : ℕ) → Third w → IsInner w
    unfolding IsInner
    inner_3 w (inl p) = let e = p.5 in let a = p.2 in let b = p.3 in let ax = long-few x few_x in let ay = long-few y few_y in (p.1, lx + p.0, 0, omega (arith, a), omega (arith, b, ax, ay), omega arith, inr (inr (omega (arith, e))))
    inner_3 w (inr p) = let e = p.5 in let a = p.3 in let b = p.4 in let ax = long-few x few_x in let az = long-few z few_z in (y - 1 - p.0, lx + p.1, 0, omega (arith, a), omega (arith, b, ax, az), omega arith, inr (inl (omega (arith, e))))

    -- THE RUN BEFORE THE MOVE
    pub old_run : IsRun n base olds
    old_run =
        three_runs n base s1 s2 s3
        (crossing_tops n a1 b1 v1 h1 0 x y (omega arith)) (crossing_tops n a2 b2 v2 h2 (0 + y) x z (omega arith)) (crossing_tops n a3 b3 v3 h3 0 y z (omega arith))
        (crossing_distinct a1 b1 v1 h1 0 x y names_1) (crossing_distinct a2 b2 v2 h2 (0 + y) x z names_2) (crossing_distinct a3 b3 v3 h3 0 y z names_3)
        First Second Third (crossing_names a1 b1 v1 h1 0 x y) (crossing_names a2 b2 v2 h2 (0 + y) x z) (crossing_names a3 b3 v3 h3 0 y z)
        clash_12 clash_13 clash_23 (λ w k p. inner_new w k (inner_1 w p)) (λ w k p. inner_new w k (inner_2 w p)) (λ w k p. inner_new w k (inner_3 w p))
        (λ j k lj lk e. final_new j k lj lk (sym (old_behind j lj) ∙ e))

    abbrev pub Fourth : ℕ → Type 0
    Fourth w = IsLongName w1 k1 y z w

    abbrev pub Fifth : ℕ → Type 0
    Fifth w = IsLongName w2 k2 x z w

    abbrev pub Sixth : ℕ → Type 0
    Sixth w = IsLongName w3 k3 x y w

    -- two numbers of one bundle are one only at one edge of one strand
    same_star : (tag i m j k l : ℕ) → tag ≤ 3 → m ≤ 16 → k ≤ 16 → star tag i m l ≡ star tag j k l → (i ≡ j) × (m ≡ k)
    same_star tag i m j k l t a b e = let p = bit-le m l in let q = bit-le k l in (omega (arith, e, p, q, t, a, b), omega (arith, e, p, q, t, a, b))

    other_star : (t s i m l j k u : ℕ) → t ≤ 3 → s ≤ 3 → t ≢ s → star t i m l ≢ star s j k u
    other_star t s i m l j k u a b d e = let p = bit-le m l in let q = bit-le k u in d (omega (arith, e, p, q, a, b))

    names_4 : AreLongNames w1 k1 y z
    names_4 = record {
      vertical = λ i j k l i0 iy jz k0 ky hl e. let ay = long-few y few_y in let r = same_star 2 j i l k (lx + ly) (omega arith) (omega (arith, iy, ay)) (omega (arith, ky, ay)) e in (r.1, r.0);
      horizontal = λ i j k l iy j0 jz ky l0 hl e. let az = long-few z few_z in let r = same_star 1 (y - 1 - i) j (y - 1 - k) l (lx + lz) (omega arith) (omega (arith, jz, az)) (omega (arith, hl, az)) e in let r0 = r.0 in (omega (arith, r0, iy, ky), r.1);
      apart = λ i j k l i0 iy jz ky l0 hl. other_star 2 1 j i (lx + ly) (y - 1 - k) l (lx + lz) (omega arith) (omega arith) (λ s. omega (arith, s));
    }

    names_5 : AreLongNames w2 k2 x z
    names_5 = record {
      vertical = λ i j k l i0 ix jz k0 kx hl e. let ax = long-few x few_x in let ay = long-few y few_y in let r = same_star 2 j (ly + i) l (ly + k) (lx + ly) (omega arith) (omega (arith, ix, ax, ay)) (omega (arith, kx, ax, ay)) e in let r1 = r.1 in (omega (arith, r1), r.0);
      horizontal = λ i j k l ix j0 jz kx l0 hl e. let az = long-few z few_z in same_star 0 i j k l (ly + lz) (omega arith) (omega (arith, jz, az)) (omega (arith, hl, az)) e;
      apart = λ i j k l i0 ix jz kx l0 hl. other_star 2 0 j (ly + i) (lx + ly) k l (ly + lz) (omega arith) (omega arith) (λ s. omega (arith, s));
    }

    names_6 : AreLongNames w3 k3 x y
    names_6 = record {
      vertical = λ i j k l i0 ix jy k0 kx hl e. let ax = long-few x few_x in let az = long-few z few_z in let r = same_star 1 j (lz + i) l (lz + k) (lx + lz) (omega arith) (omega (arith, ix, ax, az)) (omega (arith, kx, ax, az)) e in let r1 = r.1 in (omega (arith, r1), r.0);
      horizontal = λ i j k l ix j0 jy kx l0 hl e. let ay = long-few y few_y in let az = long-few z few_z in
          let r = same_star 0 i (lz + j) k (lz + l) (ly + lz) (omega arith) (omega (arith, jy, ay, az)) (omega (arith, hl, ay, az)) e in let r1 = r.1 in (r.0, omega (arith, r1));
      apart = λ i j k l i0 ix jy kx l0 hl. other_star 1 0 j (lz + i) (lx + lz) k (lz + l) (ly + lz) (omega arith) (omega arith) (λ s. omega (arith, s));
    }

    clash_45 : (w : ℕ) → Fourth w → Fifth w → ⊥
    clash_45 w (inl p) (inl q) =
        let ax = long-few x few_x in let ay = long-few y few_y in let a = p.3 in let b = q.2 in let c = q.3 in
        let r = same_star 2 p.1 p.0 q.1 (ly + q.0) (lx + ly) (omega arith) (omega (arith, a, ay)) (omega (arith, c, ax, ay)) (sym p.5 ∙ q.5) in let r1 = r.1 in omega (arith, r1, a, b)
    clash_45 w (inl p) (inr q) = other_star 2 0 p.1 p.0 (lx + ly) q.0 q.1 (ly + lz) (omega arith) (omega arith) (λ s. omega (arith, s)) (sym p.5 ∙ q.5)
    clash_45 w (inr p) (inl q) = other_star 1 2 (y - 1 - p.0) p.1 (lx + lz) q.1 (ly + q.0) (lx + ly) (omega arith) (omega arith) (λ s. omega (arith, s)) (sym p.5 ∙ q.5)
    clash_45 w (inr p) (inr q) = other_star 1 0 (y - 1 - p.0) p.1 (lx + lz) q.0 q.1 (ly + lz) (omega arith) (omega arith) (λ s. omega (arith, s)) (sym p.5 ∙ q.5)

    clash_46 : (w : ℕ) → Fourth w → Sixth w → ⊥
    clash_46 w (inl p) (inl q) = other_star 2 1 p.1 p.0 (lx + ly) q.1 (lz + q.0) (lx + lz) (omega arith) (omega arith) (λ s. omega (arith, s)) (sym p.5 ∙ q.5)
    clash_46 w (inl p) (inr q) = other_star 2 0 p.1 p.0 (lx + ly) q.0 (lz + q.1) (ly + lz) (omega arith) (omega arith) (λ s. omega (arith, s)) (sym p.5 ∙ q.5)
    clash_46 w (inr p) (inl q) =
        let ax = long-few x few_x in let az = long-few z few_z in let a = p.4 in let b = q.2 in let c = q.3 in
        let r = same_star 1 (y - 1 - p.0) p.1 q.1 (lz + q.0) (lx + lz) (omega arith) (omega (arith, a, az)) (omega (arith, c, ax, az)) (sym p.5 ∙ q.5) in let r1 = r.1 in omega (arith, r1, a, b)
    clash_46 w (inr p) (inr q) = other_star 1 0 (y - 1 - p.0) p.1 (lx + lz) q.0 (lz + q.1) (ly + lz) (omega arith) (omega arith) (λ s. omega (arith, s)) (sym p.5 ∙ q.5)

    clash_56 : (w : ℕ) → Fifth w → Sixth w → ⊥
    clash_56 w (inl p) (inl q) = other_star 2 1 p.1 (ly + p.0) (lx + ly) q.1 (lz + q.0) (lx + lz) (omega arith) (omega arith) (λ s. omega (arith, s)) (sym p.5 ∙ q.5)
    clash_56 w (inl p) (inr q) = other_star 2 0 p.1 (ly + p.0) (lx + ly) q.0 (lz + q.1) (ly + lz) (omega arith) (omega arith) (λ s. omega (arith, s)) (sym p.5 ∙ q.5)
    clash_56 w (inr p) (inl q) = other_star 0 1 p.0 p.1 (ly + lz) q.1 (lz + q.0) (lx + lz) (omega arith) (omega arith) (λ s. omega (arith, s)) (sym p.5 ∙ q.5)
    clash_56 w (inr p) (inr q) =
        let ay = long-few y few_y in let az = long-few z few_z in let a = p.4 in let b = q.3 in let c = q.4 in
        let r = same_star 0 p.0 p.1 q.0 (lz + q.1) (ly + lz) (omega arith) (omega (arith, a, az)) (omega (arith, c, ay, az)) (sym p.5 ∙ q.5) in let r1 = r.1 in omega (arith, r1, a, b)

    inner_4 : (w : ℕ) → Fourth w → IsInner w
    unfolding IsInner
    inner_4 w (inl p) = let a = p.2 in let b = p.3 in let ay = long-few y few_y in (p.1, p.0, bit p.0 (lx + ly), omega (arith, a), omega (arith, b, ay), bit-le p.0 (lx + ly), inr (inr p.5))
    inner_4 w (inr p) = let a = p.3 in let b = p.4 in let az = long-few z few_z in (y - 1 - p.0, p.1, bit p.1 (lx + lz), omega (arith, a), omega (arith, b, az), bit-le p.1 (lx + lz), inr (inl p.5))

    inner_5 : (w : ℕ) → Fifth w → IsInner w
    unfolding IsInner
    inner_5 w (inl p) = let a = p.2 in let b = p.3 in let ax = long-few x few_x in let ay = long-few y few_y in (p.1, ly + p.0, bit (ly + p.0) (lx + ly), omega (arith, a), omega (arith, b, ax, ay), bit-le (ly + p.0) (lx + ly), inr (inr p.5))
    inner_5 w (inr p) = let a = p.3 in let b = p.4 in let az = long-few z few_z in (p.0, p.1, bit p.1 (ly + lz), omega (arith, a), omega (arith, b, az), bit-le p.1 (ly + lz), inl p.5)

    inner_6 : (w : ℕ) → Sixth w → IsInner w
    unfolding IsInner
    inner_6 w (inl p) = let a = p.2 in let b = p.3 in let ax = long-few x few_x in let az = long-few z few_z in (p.1, lz + p.0, bit (lz + p.0) (lx + lz), omega (arith, a), omega (arith, b, ax, az), bit-le (lz + p.0) (lx + lz), inr (inl p.5))
    inner_6 w (inr p) = let a = p.3 in let b = p.4 in let ay = long-few y few_y in let az = long-few z few_z in (p.0, lz + p.1, bit (lz + p.1) (ly + lz), omega (arith, a), omega (arith, b, ay, az), bit-le (lz + p.1) (ly + lz), inl p.5)

    -- THE RUN BEHIND IT
    pub new_run : IsRun n base news
    new_run =
        three_runs n base t1 t2 t3
        (crossing_tops n a3 b3 w1 k1 (0 + x) y z (omega arith)) (crossing_tops n a2 b2 w2 k2 0 x z (omega arith)) (crossing_tops n a1 b1 w3 k3 (0 + z) x y (omega arith))
        (crossing_distinct a3 b3 w1 k1 (0 + x) y z names_4) (crossing_distinct a2 b2 w2 k2 0 x z names_5) (crossing_distinct a1 b1 w3 k3 (0 + z) x y names_6)
        Fourth Fifth Sixth (crossing_names a3 b3 w1 k1 (0 + x) y z) (crossing_names a2 b2 w2 k2 0 x z) (crossing_names a1 b1 w3 k3 (0 + z) x y)
        clash_45 clash_46 clash_56 (λ w k p. inner_new w k (inner_4 w p)) (λ w k p. inner_new w k (inner_5 w p)) (λ w k p. inner_new w k (inner_6 w p))
        (λ j k lj lk e. final_new j k lj lk (sym (new_behind j lj) ∙ e))

    -- BOTH HAVE THE SAME NAMES BEHIND
    pub sides_agree : AgreeOn (strand_points 0 n) (names_after name olds) (names_after name news)
    sides_agree u m =
        let l = (member_strands 0 n u m).1 in
        let k = strand_of u in
        ⊎_elim
        (λ e. ap (names_after name olds) e ∙ old_behind k (omega (arith, l)) ∙ sym (ap (names_after name news) e ∙ new_behind k (omega (arith, l))))
        (λ e. ap (names_after name olds) e ∙ bottoms_kept n name olds old_run.tops k ∙ sym (ap (names_after name news) e ∙ bottoms_kept n name news new_run.tops k))
        (halves u)
