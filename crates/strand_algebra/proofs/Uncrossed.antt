-- A product of noncrossing pairings is noncrossing. In the order of their names the points that are still open beside a seam
-- are neighbours, so joining their partners makes no crossing.
--
--     Uncrossed inside m       the pairs {u, m u} of the names inside do not cross
use Rattle.std.proofs.Common.{◌≡◌, ◌≢◌, ℕ, zero, suc, ◌+◌, ◌-◌, ◌<◌, Bool, true, cond, not, nat_lt, ◌==◌, if◌then◌else◌, List, ◌++◌, map, slice_index, sym, ap, ◌∙◌, arith, ⊎_elim}
use Rattle.std.specs.List.{range_with_len}
use Rattle.std.proofs.lemmas.Bool.{cases_Bool, eqb-true, eq-eqb}
use Rattle.std.proofs.lemmas.Bool.Decides.{nat_tests}
use Rattle.list_lemmas.proofs.Items.{get_past}
use Rattle.list_lemmas.proofs.Bools.{apart_from_test, and_first, and_second}
use Rattle.graph_parts.specs.Labels.{relabel, label_after, label_of}
use Rattle.arc_pairing.specs.Pairings.{IsNoncrossing}
use Rattle.strand_algebra.proofs.LabelProducts.{IsPairingOf, pairs, label_stack, outer, label_product}
use Rattle.strand_algebra.proofs.Matchings.{Matches, cut, without, Matches-cut, Matches-same}
use Rattle.strand_algebra.proofs.Stacks.{is_open, one_more, open_up, open_down, open_apart, stack_label, outer_open, outer_inner, partner_in, Matches-two, Matches-outer, Matches-product, IsPairingOf-product, inner, is_below, below_is}

-- no two pairs of the names inside cross
abbrev pub Uncrossed : (ℕ → Bool) → (ℕ → ℕ) → Type 0
Uncrossed inside m = (u v : ℕ) → inside u ≡ true → inside v ≡ true → u < v → v < m u → m u < m v → ⊥

-- ---- two neighbours b < a, one way round and the other: a name v is on the near side, so its partner w is, and cannot be
closed_in : (v w a b : ℕ) → b < a → v ≢ a → v ≢ b → w ≢ a → w ≢ b → (b < v → v < a → ⊥) → (b < w → w < a → ⊥) → (b < v → ⊥) → (v < a → a < w → ⊥) → (w < b → ⊥) → ⊥
closed_in v w a b s va vb wa wb n o f g h = grind (arith, s, va, vb, wa, wb, n, o, f, g, h)

closed_out : (v w a b : ℕ) → b < a → v ≢ a → v ≢ b → w ≢ a → w ≢ b → (b < v → v < a → ⊥) → (b < w → w < a → ⊥) → (a < v → ⊥) → (v < b → b < w → ⊥) → (w < a → ⊥) → ⊥
closed_out v w a b s va vb wa wb n o f g h = grind (arith, s, va, vb, wa, wb, n, o, f, g, h)

without_inside : (inside : ℕ → Bool) (a b x : ℕ) → without inside a b x ≡ true → inside x ≡ true
without_inside inside a b x h = and_first (inside x) _ h

without_first : (inside : ℕ → Bool) (a b x : ℕ) → without inside a b x ≡ true → x ≢ a
without_first inside a b x h e = let t = eq-eqb x a e in let s = and_first (not (x == a)) _ (and_second (inside x) _ h) in grind (arith, t, s)

without_second : (inside : ℕ → Bool) (a b x : ℕ) → without inside a b x ≡ true → x ≢ b
without_second inside a b x h e = let t = eq-eqb x b e in let s = and_second (not (x == a)) _ (and_second (inside x) _ h) in grind (arith, t, s)

module _ (inside : ℕ → Bool) (l m : ℕ → ℕ) (a b : ℕ) (p : inside a ≡ true) (q : inside b ≡ true) (less : b < a) (h : Matches inside l m)
    (near : (x : ℕ) → inside x ≡ true → b < x → x < a → ⊥) (free : Uncrossed inside m) where
  -- a partner is neither of the two, unless its partner is a partner of theirs
  apart : (x c : ℕ) → inside x ≡ true → x ≢ m c → inside c ≡ true → m x ≢ c
  apart x c i d j e = d (sym (h.turns x i) ∙ ap m e)

  pub Uncrossed-cut : Uncrossed (without inside a b) (cut m a b)
  Uncrossed-cut u v iu iv uv vm mm =
      let ju = without_inside inside a b u iu in
      let jv = without_inside inside a b v iv in
      let ua = without_first inside a b u iu in
      let ub = without_second inside a b u iu in
      let va = without_first inside a b v iv in
      let vb = without_second inside a b v iv in
      let ma = h.stays a p in
      let mb = h.stays b q in
      let mu = h.stays u ju in
      let mv = h.stays v jv in
      ⊎_elim
      (λ e.
      let eu : m u ≡ a = eqb-true (m u) a e in
      let mau : m a ≡ u = sym (ap m eu) ∙ h.turns u ju in
      let cu : cut m a b u ≡ m b = ap (λ t. cond t (m b) (if m u == b then m a else m u)) e in
      ⊎_elim
      (λ f. absurd (let g = ap m (sym (eqb-true (m v) a f)) in let t = h.turns v jv in omega (arith, uv, mau, g, t)))
      (λ f. ⊎_elim
      (λ g. absurd (let ev : m b ≡ v = sym (ap m (eqb-true (m v) b g)) ∙ h.turns v jv in omega (arith, vm, cu, ev)))
      (λ g.
      let cv : cut m a b v ≡ m v = (let s = f in let t = g in grind (arith, s, t)) in
      let vmb : v < m b = omega (arith, vm, cu) in
      let bmv : m b < m v = omega (arith, mm, cu, cv) in
      closed_in v (m v) a b less va vb (apart_from_test (m v) a f) (apart_from_test (m v) b g) (near v jv) (near (m v) mv)
      (λ bv. free b v q jv bv vmb bmv)
      (λ x y. free u v ju jv uv (omega (arith, x, eu)) (omega (arith, y, eu)))
      (λ x. free v (m b) jv mb vmb bmv (let t = h.turns b q in omega (arith, x, t))))
      (cases_Bool (m v == b)))
      (cases_Bool (m v == a)))
      (λ e. ⊎_elim
      (λ e2.
      let eu : m u ≡ b = eqb-true (m u) b e2 in
      let mbu : m b ≡ u = sym (ap m eu) ∙ h.turns u ju in
      let cu : cut m a b u ≡ m a = (let s = e in let t = e2 in grind (arith, s, t)) in
      ⊎_elim
      (λ f. absurd (let ev : m a ≡ v = sym (ap m (eqb-true (m v) a f)) ∙ h.turns v jv in omega (arith, vm, cu, ev)))
      (λ f. ⊎_elim
      (λ g. absurd (let s = ap m (sym (eqb-true (m v) b g)) in let t = h.turns v jv in omega (arith, uv, mbu, s, t)))
      (λ g.
      let cv : cut m a b v ≡ m v = (let s = f in let t = g in grind (arith, s, t)) in
      let vma : v < m a = omega (arith, vm, cu) in
      let amv : m a < m v = omega (arith, mm, cu, cv) in
      closed_out v (m v) a b less va vb (apart_from_test (m v) a f) (apart_from_test (m v) b g) (near v jv) (near (m v) mv)
      (λ av. free a v p jv av vma amv)
      (λ x y. free u v ju jv uv (omega (arith, x, eu)) (omega (arith, y, eu)))
      (λ x. free v (m a) jv ma vma amv (let t = h.turns a p in omega (arith, x, t))))
      (cases_Bool (m v == b)))
      (cases_Bool (m v == a)))
      (λ e2.
      let cu : cut m a b u ≡ m u = (let s = e in let t = e2 in grind (arith, s, t)) in
      let vmu : v < m u = omega (arith, vm, cu) in
      ⊎_elim
      (λ f.
      let ev : m v ≡ a = eqb-true (m v) a f in
      let mav : m a ≡ v = sym (ap m ev) ∙ h.turns v jv in
      let cv : cut m a b v ≡ m b = ap (λ t. cond t (m b) (if m v == b then m a else m v)) f in
      let umb : m u < m b = omega (arith, mm, cu, cv) in
      closed_out u (m u) a b less ua ub (apart_from_test (m u) a e) (apart_from_test (m u) b e2) (near u ju) (near (m u) mu)
      (λ au. free a u p ju au (omega (arith, uv, mav)) (omega (arith, vmu, mav)))
      (λ x y. free u b ju q x y umb)
      (λ x. free u v ju jv uv vmu (omega (arith, x, ev))))
      (λ f. ⊎_elim
      (λ g.
      let ev : m v ≡ b = eqb-true (m v) b g in
      let mbv : m b ≡ v = sym (ap m ev) ∙ h.turns v jv in
      let cv : cut m a b v ≡ m a = (let s = f in let t = g in grind (arith, s, t)) in
      let uma : m u < m a = omega (arith, mm, cu, cv) in
      closed_in u (m u) a b less ua ub (apart_from_test (m u) a e) (apart_from_test (m u) b e2) (near u ju) (near (m u) mu)
      (λ bu. free b u q ju bu (omega (arith, uv, mbv)) (omega (arith, vmu, mbv)))
      (λ x y. free u a ju p x y uma)
      (λ x. free u v ju jv uv vmu (omega (arith, x, ev))))
      (λ g.
      let cv : cut m a b v ≡ m v = (let s = f in let t = g in grind (arith, s, t)) in
      free u v ju jv uv vmu (omega (arith, mm, cu, cv)))
      (cases_Bool (m v == b)))
      (cases_Bool (m v == a)))
      (cases_Bool (m u == b)))
      (cases_Bool (m u == a))

Uncrossed-same : (i j : ℕ → Bool) (m : ℕ → ℕ) → ((x : ℕ) → i x ≡ j x) → Uncrossed i m → Uncrossed j m
Uncrossed-same i j m e h u v p q = h u v (e u ∙ p) (e v ∙ q)

-- ---- the seams, one after another
none_between : (n a x : ℕ) → a < n → is_open n a x ≡ true → n + n - 1 - a < x → x < n + n + a → ⊥
none_between n a x h o b c = grind (arith, nat_tests, o, b, c)

Uncrossed-seam : (n k a : ℕ) (l m : ℕ → ℕ) → a + k ≡ n → Matches (is_open n a) l m → Uncrossed (is_open n a) m →
    (w : ℕ → ℕ) × (Matches (is_open n n) (label_after l (map (λ i. (n + n + i, n + n - 1 - i)) (range_with_len a k))) w × Uncrossed (is_open n n) w)
Uncrossed-seam n zero a l m e h f =
    let s : a ≡ n = omega arith in
    (m, (Matches-same (is_open n a) (is_open n n) l m (λ x. ap (λ t. is_open n t x) s) h, Uncrossed-same (is_open n a) (is_open n n) m (λ x. ap (λ t. is_open n t x) s) f))
Uncrossed-seam n (suc k) a l m e h f =
    let lt : a < n = omega arith in
    let up = n + n + a in
    let down = n + n - 1 - a in
    Uncrossed-seam n k (a + 1) (relabel l (up, down)) (cut m up down) (omega arith)
    (Matches-same (without (is_open n a) up down) (is_open n (a + 1)) (relabel l (up, down)) (cut m up down) (λ x. one_more n a x lt)
    (Matches-cut (is_open n a) l m up down (open_up n a lt) (open_down n a lt) (open_apart n a lt) h))
    (Uncrossed-same (without (is_open n a) up down) (is_open n (a + 1)) (cut m up down) (λ x. one_more n a x lt)
    (Uncrossed-cut (is_open n a) l m up down (open_up n a lt) (open_down n a lt) (omega arith) h (λ x o. none_between n a x lt o) f))

-- ---- two noncrossing pairings, one behind the other
two_plain : (n u v : ℕ) (p q : List ℕ) → IsPairingOf (n + n) q → IsNoncrossing p → IsNoncrossing q → u < v → v < partner_in n p q u → partner_in n p q u < partner_in n p q v → ⊥
two_plain n u v p q hq fp fq uv vm mm =
    let low = λ (b : u < n + n). hq.stays u b in
    let one = fq u v uv in
    let two = fp (u - (n + n)) (v - (n + n)) in
    grind (arith, nat_tests, low, one, two, uv, vm, mm)

-- a pairing that tells the same labels is the same
same_partner : (inside : ℕ → Bool) (l m k : ℕ → ℕ) → Matches inside l m → Matches inside l k → (x : ℕ) → inside x ≡ true → m x ≡ k x
same_partner inside l m k h g x p =
    let s = sym (h.tells x (m x) p (h.stays x p)) ∙ g.tells x (m x) p (h.stays x p) in
    let d = h.moves x p in
    grind (arith, nat_tests, s, d)

outer_rises : (n i j : ℕ) → i < j → outer n i < outer n j
outer_rises n i j h = grind (arith, nat_tests, h)

module _ (n : ℕ) (p q : List ℕ) (hp : IsPairingOf (n + n) p) (hq : IsPairingOf (n + n) q) (fp : IsNoncrossing p) (fq : IsNoncrossing q) where
  abbrev seamed : (w : ℕ → ℕ) × (Matches (is_open n n) (label_after (label_of (pairs 0 q ++ pairs (n + n) p)) (map (λ i. (n + n + i, n + n - 1 - i)) (range_with_len 0 n))) w × Uncrossed (is_open n n) w)
  seamed =
      Uncrossed-seam n n 0 (label_of (pairs 0 q ++ pairs (n + n) p)) (partner_in n p q) (omega arith) (Matches-two n p q hp hq)
      (λ u v iu iv uv vm mm. two_plain n u v p q hq fp fq uv vm mm)

  abbrev w : ℕ → ℕ
  w = seamed.0

  matches : Matches (is_open n n) (label_of (label_stack n p q)) w
  matches = let s = seamed.1.0 in rw (← stack_label n p q hp hq) at s

  partner : (i : ℕ) → i < n + n → slice_index (label_product n p q) i ≡ inner n (w (outer n i))
  partner i b =
      same_partner (λ j. nat_lt j (n + n)) (λ j. label_of (label_stack n p q) (outer n j)) (slice_index (label_product n p q)) (λ j. inner n (w (outer n j)))
      (Matches-product n p q hp hq) (Matches-outer n (label_of (label_stack n p q)) w matches) i (is_below (n + n) i b)

  -- the name of the partner of an outer point
  partner_name : (i : ℕ) → i < n + n → outer n (slice_index (label_product n p q) i) ≡ w (outer n i)
  partner_name i b =
      ap (outer n) (partner i b) ∙ outer_inner n (w (outer n i)) (matches.stays (outer n i) (outer_open n i (is_below (n + n) i b)))

  within : (i : ℕ) → 0 < slice_index (label_product n p q) i → i < n + n
  within i h =
      ⊎_elim (λ t. below_is (n + n) i t)
      (λ f. absurd (let s = (IsPairingOf-product n p q hp hq).length_is in let z = get_past (label_product n p q) i (grind (arith, nat_tests, s, f)) in omega (arith, z, h)))
      (cases_Bool (nat_lt i (n + n)))

  -- THE PRODUCT OF NONCROSSING PAIRINGS
  pub IsNoncrossing-product : IsNoncrossing (label_product n p q)
  IsNoncrossing-product i j ij jm mm =
      let bj = within j (omega (arith, mm, jm)) in
      let bi : i < n + n = omega (arith, ij, bj) in
      let pi = partner_name i bi in
      let pj = partner_name j bj in
      seamed.1.1 (outer n i) (outer n j) (outer_open n i (is_below (n + n) i bi)) (outer_open n j (is_below (n + n) j bj)) (outer_rises n i j ij)
      (let r = outer_rises n j (slice_index (label_product n p q) i) jm in omega (arith, r, pi))
      (let r = outer_rises n (slice_index (label_product n p q) i) (slice_index (label_product n p q) j) mm in omega (arith, r, pi, pj))
