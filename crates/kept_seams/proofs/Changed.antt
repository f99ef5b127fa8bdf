-- What both changes make of a pairing, point by point, and that it is a pairing again.
use Rattle.std.proofs.Common.{◌≡◌, ◌≢◌, ℕ, ◌<◌, ◌==◌, List, length, slice_index, slice_set, if◌then◌else◌, sym, ap, ◌∙◌, arith, get_or-set_other, get_or-set_same}
use Rattle.std.proofs.Math.ListN.{set, length-set}
use Rattle.std.proofs.lemmas.Bool.Decides.{nat_tests}
use Rattle.state_sums.specs.Networks.{IsPairing}
use Rattle.kept_seams.specs.Changes.{joined_at, crossed_at}
use Rattle.arc_gluing.proofs.OneEdge.{same_or_not}

-- four entries written one after the other, all in range
abbrev put4 : List ℕ → ℕ → ℕ → ℕ → ℕ → ℕ → ℕ → ℕ → ℕ → ℕ → ℕ
put4 p a u b v c w d z i = if i == d then z else if i == c then w else if i == b then v else if i == a then u else slice_index p i

pub set_at : (p : List ℕ) (a u i : ℕ) → a < length p → slice_index (slice_set p a u) i ≡ (if i == a then u else slice_index p i)
set_at p a u i l =
    same_or_not i a
    (λ e. let s = get_or-set_same p a u 0 l in let k = ap (slice_index (slice_set p a u)) e in grind (arith, nat_tests, e, s, k))
    (λ d. let s = get_or-set_other p a i u 0 d in grind (arith, nat_tests, d, s))

length4 : (p : List ℕ) (a u b v c w d z : ℕ) → length (slice_set (slice_set (slice_set (slice_set p a u) b v) c w) d z) ≡ length p
length4 p a u b v c w d z =
    length-set (slice_set (slice_set (slice_set p a u) b v) c w) d z ∙ length-set (slice_set (slice_set p a u) b v) c w ∙ length-set (slice_set p a u) b v ∙ length-set p a u

set4_at : (p : List ℕ) (a u b v c w d z i : ℕ) → a < length p → b < length p → c < length p → d < length p →
    slice_index (slice_set (slice_set (slice_set (slice_set p a u) b v) c w) d z) i ≡ put4 p a u b v c w d z i
set4_at p a u b v c w d z i la lb lc ld =
    let l1 = length-set p a u in let l2 = length-set (slice_set p a u) b v in let l3 = length-set (slice_set (slice_set p a u) b v) c w in
    let e1 = set_at p a u i la in
    let e2 = set_at (slice_set p a u) b v i (omega (arith, l1, lb)) in
    let e3 = set_at (slice_set (slice_set p a u) b v) c w i (omega (arith, l1, l2, lc)) in
    let e4 = set_at (slice_set (slice_set (slice_set p a u) b v) c w) d z i (omega (arith, l1, l2, l3, ld)) in
    grind (arith, nat_tests, e1, e2, e3, e4)

module _ (p : List ℕ) (h : IsPairing p) (s t : ℕ) (ls : s < length p) (lt : t < length p) (st : s ≢ t) (not_paired : slice_index p s ≢ t) where
  abbrev x : ℕ
  x = slice_index p s

  abbrev y : ℕ
  y = slice_index p t

  -- the four points are different
  pub facts : (x < length p) × (y < length p) × (x ≢ s) × (y ≢ t) × (slice_index p x ≡ s) × (slice_index p y ≡ t)
  facts = (h.within s ls, h.within t lt, h.apart s ls, h.apart t lt, h.back s ls, h.back t lt)

  pub y_not_s : slice_index p t ≢ s
  y_not_s e = not_paired (sym (ap (slice_index p) e) ∙ h.back t lt)

  pub x_not_y : slice_index p s ≢ slice_index p t
  x_not_y e = st (sym (h.back s ls) ∙ ap (slice_index p) e ∙ h.back t lt)

  abbrev pub joined : ℕ → ℕ
  joined i = if i == slice_index p t then slice_index p s else if i == slice_index p s then slice_index p t else if i == t then s else if i == s then t else slice_index p i

  abbrev pub crossed : ℕ → ℕ
  crossed i = if i == slice_index p t then s else if i == slice_index p s then t else if i == t then slice_index p s else if i == s then slice_index p t else slice_index p i

  pub joined-length : length (joined_at p s t) ≡ length p
  joined-length = let l = length4 p s t t s (slice_index p s) (slice_index p t) (slice_index p t) (slice_index p s) in grind (arith, nat_tests, l, not_paired)

  pub joined-points : (i : ℕ) → slice_index (joined_at p s t) i ≡ joined i
  joined-points i =
      let k = set4_at p s t t s (slice_index p s) (slice_index p t) (slice_index p t) (slice_index p s) i ls lt (h.within s ls) (h.within t lt) in
      grind (arith, nat_tests, k, not_paired)

  pub crossed-length : length (crossed_at p s t) ≡ length p
  crossed-length = let l = length4 p s (slice_index p t) t (slice_index p s) (slice_index p s) t (slice_index p t) s in grind (arith, nat_tests, l, not_paired)

  pub crossed-points : (i : ℕ) → slice_index (crossed_at p s t) i ≡ crossed i
  crossed-points i =
      let k = set4_at p s (slice_index p t) t (slice_index p s) (slice_index p s) t (slice_index p t) s i ls lt (h.within s ls) (h.within t lt) in
      grind (arith, nat_tests, k, not_paired)

  -- where another point's partner is
  pub others : (i : ℕ) → i < length p → i ≢ s → i ≢ t → i ≢ slice_index p s → i ≢ slice_index p t →
      (slice_index p i ≢ s) × (slice_index p i ≢ t) × (slice_index p i ≢ slice_index p s) × (slice_index p i ≢ slice_index p t)
  others i l a b c d = (
    (λ e. c (sym (h.back i l) ∙ ap (slice_index p) e)),
    (λ e. d (sym (h.back i l) ∙ ap (slice_index p) e)),
    (λ e. a (sym (h.back i l) ∙ ap (slice_index p) e ∙ h.back s ls)),
    (λ e. b (sym (h.back i l) ∙ ap (slice_index p) e ∙ h.back t lt)),
  )

  -- a point is one of the four, or another one
  five_ways : (i : ℕ) (P : Type 0) → (i ≡ y → P) → (i ≡ x → i ≢ y → P) → (i ≡ t → i ≢ y → i ≢ x → P) → (i ≡ s → i ≢ y → i ≢ x → i ≢ t → P) → (i ≢ s → i ≢ t → i ≢ x → i ≢ y → P) → P
  five_ways i P at_y at_x at_t at_s other =
      same_or_not i y at_y (λ d. same_or_not i x (λ e. at_x e d) (λ c. same_or_not i t (λ e. at_t e d c) (λ b. same_or_not i s (λ e. at_s e d c b) (λ a. other a b c d))))

  one_pairing : (q : List ℕ) (f : ℕ → ℕ) → length q ≡ length p → ((i : ℕ) → slice_index q i ≡ f i) →
      ((i : ℕ) → i < length p → f i < length p) → ((i : ℕ) → i < length p → f i ≢ i) → ((i : ℕ) → i < length p → f (f i) ≡ i) → IsPairing q
  one_pairing q f len at w a b = record {
    within = λ i l. let e = at i in let k = w i (omega (arith, len, l)) in omega (arith, e, k, len);
    apart = λ i l e. a i (omega (arith, len, l)) (sym (at i) ∙ e);
    back = λ i l. at (slice_index q i) ∙ ap f (at i) ∙ b i (omega (arith, len, l));
  }

  joined_within : (i : ℕ) → i < length p → joined i < length p
  joined_within i l = let w = h.within i l in let f = facts in let a = f.0 in let b = f.1 in grind (arith, nat_tests, w, a, b, ls, lt)

  joined_apart : (i : ℕ) → i < length p → joined i ≢ i
  joined_apart i l e =
      let a = h.apart i l in let n = x_not_y in let m = y_not_s in let f = facts in
      grind (arith, nat_tests, a, n, m, st, not_paired, e)

  joined_back : (i : ℕ) → i < length p → joined (joined i) ≡ i
  joined_back i l =
      let f = facts in let f2 = f.2 in let f3 = f.3 in let n = x_not_y in let m = y_not_s in
      five_ways i (joined (joined i) ≡ i) (λ e. grind (arith, nat_tests, e, n, m, st, not_paired, f2, f3)) (λ e d. grind (arith, nat_tests, e, n, m, st, not_paired, f2, f3, d))
      (λ e d c. grind (arith, nat_tests, e, n, m, st, not_paired, f2, f3, d, c)) (λ e d c b. grind (arith, nat_tests, e, n, m, st, not_paired, f2, f3, d, c, b))
      (λ a b c d. let o = others i l a b c d in let o0 = o.0 in let o1 = o.1 in let o2 = o.2 in let o3 = o.3 in let k = h.back i l in
      grind (arith, nat_tests, a, b, c, d, o0, o1, o2, o3, k))

  pub IsPairing-joined : IsPairing (joined_at p s t)
  IsPairing-joined = one_pairing (joined_at p s t) joined joined-length joined-points joined_within joined_apart joined_back

  crossed_within : (i : ℕ) → i < length p → crossed i < length p
  crossed_within i l = let w = h.within i l in let f = facts in let a = f.0 in let b = f.1 in grind (arith, nat_tests, w, a, b, ls, lt)

  crossed_apart : (i : ℕ) → i < length p → crossed i ≢ i
  crossed_apart i l e =
      let a = h.apart i l in let n = x_not_y in let m = y_not_s in
      grind (arith, nat_tests, a, n, m, st, not_paired, e)

  crossed_back : (i : ℕ) → i < length p → crossed (crossed i) ≡ i
  crossed_back i l =
      let f = facts in let f2 = f.2 in let f3 = f.3 in let n = x_not_y in let m = y_not_s in
      five_ways i (crossed (crossed i) ≡ i) (λ e. grind (arith, nat_tests, e, n, m, st, not_paired, f2, f3)) (λ e d. grind (arith, nat_tests, e, n, m, st, not_paired, f2, f3, d))
      (λ e d c. grind (arith, nat_tests, e, n, m, st, not_paired, f2, f3, d, c)) (λ e d c b. grind (arith, nat_tests, e, n, m, st, not_paired, f2, f3, d, c, b))
      (λ a b c d. let o = others i l a b c d in let o0 = o.0 in let o1 = o.1 in let o2 = o.2 in let o3 = o.3 in let k = h.back i l in
      grind (arith, nat_tests, a, b, c, d, o0, o1, o2, o3, k))

  pub IsPairing-crossed : IsPairing (crossed_at p s t)
  IsPairing-crossed = one_pairing (crossed_at p s t) crossed crossed-length crossed-points crossed_within crossed_apart crossed_back
