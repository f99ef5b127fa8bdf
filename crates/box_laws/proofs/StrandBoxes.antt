-- Pairings of strands as matings of points, and a hook on two tops.
use Rattle.std.proofs.Common.{◌≡◌, ◌≢◌, ℕ, ◌+◌, ◌-◌, ◌<◌, ◌≤◌, Bool, true, false, cond, not, ◌==◌, ◌&&◌, nat_lt, List, slice_index, refl, sym, ap, ap₂, ◌∙◌, arith, ⊎_elim, ◌⊎◌, inl, inr}
use Rattle.std.proofs.lemmas.Bool.{cases_Bool}
use Rattle.std.proofs.lemmas.Bool.Decides.{nat_tests}
use Rattle.graph_parts.proofs.Agreement.{eqb_from_iff}
use Rattle.strand_algebra.proofs.LabelProducts.{IsPairingOf}
use Rattle.strand_words.specs.Boxes.{bottom}
use Rattle.strand_words.specs.Matings.{IsMating, hooked}
use Rattle.strand_words.specs.Words.{top}
use Rattle.strand_words.proofs.Hooks.{fun_ext}
use Rattle.word_networks.specs.Strands.{strand_of, standing}
use Rattle.word_networks.proofs.Strands.{standing-IsMating, strand_standing, halves, strand_top, strand_bottom}
use Rattle.box_laws.specs.StrandBoxes.{is_boxed, place_of, point_at, mate_of}
use Rattle.box_laws.proofs.HookProducts.{x, y, hooked_list, mate_in, mate_in-low, list_at, Q_below, x_below, y_below}

module _ (c n : ℕ) where
  -- ---- points and places
  pub strand_point : (j : ℕ) → j < n + n → (c ≤ strand_of (point_at c n j)) × (strand_of (point_at c n j) < c + n)
  strand_point j l =
      ⊎_elim
      (λ t. (let low : j < n = grind (arith, nat_tests, t) in
      let e = ap (λ b. strand_of (cond b (bottom (c + j)) (top (c + (n + n - 1 - j))))) t ∙ strand_bottom (c + j) in (omega (arith, e), omega (arith, e, low))))
      (λ f. (let high : n ≤ j = grind (arith, nat_tests, f) in
      let e = ap (λ b. strand_of (cond b (bottom (c + j)) (top (c + (n + n - 1 - j))))) f ∙ strand_top (c + (n + n - 1 - j)) in (omega (arith, e), omega (arith, e, high, l))))
      (cases_Bool (nat_lt j n))

  pub boxed_point : (j : ℕ) → j < n + n → is_boxed c n (point_at c n j) ≡ true
  boxed_point j l = let s = strand_point j l in let a = s.0 in let b = s.1 in plain (strand_of (point_at c n j)) c (c + n) a b
    where
      plain : (s a b : ℕ) → a ≤ s → s < b → (not (nat_lt s a) && nat_lt s b) ≡ true
      plain s a b p q = grind (arith, nat_tests, p, q)

  pub place_point : (j : ℕ) → j < n + n → place_of c n (point_at c n j) ≡ j
  place_point j l =
      ⊎_elim
      (λ t.
      (let low : j < n = grind (arith, nat_tests, t) in
      let p : point_at c n j ≡ bottom (c + j) = ap (λ b. cond b (bottom (c + j)) (top (c + (n + n - 1 - j)))) t in
      ap (place_of c n) p ∙ low_plain (bottom (c + j)) (strand_of (bottom (c + j))) c n j (strand_bottom (c + j)) refl))
      (λ f.
      (let high : n ≤ j = grind (arith, nat_tests, f) in
      let k = c + (n + n - 1 - j) in
      let p : point_at c n j ≡ top k = ap (λ b. cond b (bottom (c + j)) (top k)) f in
      ap (place_of c n) p ∙ high_plain (top k) (strand_of (top k)) c n j (strand_top k) refl high l))
      (cases_Bool (nat_lt j n))
    where
      low_plain : (u s c n j : ℕ) → s ≡ c + j → u ≡ bottom (c + j) → cond (u == bottom s) (s - c) (n + n - 1 - (s - c)) ≡ j
      low_plain u s c n j e f = grind (arith, nat_tests, e, f)

      high_plain : (u s c n j : ℕ) → s ≡ c + (n + n - 1 - j) → u ≡ top (c + (n + n - 1 - j)) → n ≤ j → j < n + n → cond (u == bottom s) (s - c) (n + n - 1 - (s - c)) ≡ j
      high_plain u s c n j e f a b = grind (arith, nat_tests, e, f, a, b)

  pub boxed_bounds : (u : ℕ) → is_boxed c n u ≡ true → (c ≤ strand_of u) × (strand_of u < c + n)
  boxed_bounds u h = (grind (arith, nat_tests, h), grind (arith, nat_tests, h))

  pub place_below : (u : ℕ) → is_boxed c n u ≡ true → place_of c n u < n + n
  place_below u h = let s = boxed_bounds u h in plain (u == bottom (strand_of u)) (strand_of u) c n s.0 s.1
    where
      plain : (b : Bool) (s c n : ℕ) → c ≤ s → s < c + n → cond b (s - c) (n + n - 1 - (s - c)) < n + n
      plain true s c n p q = omega (arith, p, q)
      plain false s c n p q = omega (arith, p, q)

  pub point_place : (u : ℕ) → is_boxed c n u ≡ true → point_at c n (place_of c n u) ≡ u
  point_place u h = let s = boxed_bounds u h in plain u (strand_of u) c n s.0 s.1 (halves u)
    where
      plain : (u s c n : ℕ) → c ≤ s → s < c + n → (u ≡ top s) ⊎ (u ≡ bottom s) → point_at c n (cond (u == bottom s) (s - c) (n + n - 1 - (s - c))) ≡ u
      plain u s c n p q (inl e) =
          ap (λ b. point_at c n (cond b (s - c) (n + n - 1 - (s - c)))) (let t : (u == bottom s) ≡ false = grind (arith, nat_tests, e) in t)
          ∙ ap (λ b. cond b (bottom (c + (n + n - 1 - (s - c)))) (top (c + (n + n - 1 - (n + n - 1 - (s - c)))))) (let t : nat_lt (n + n - 1 - (s - c)) n ≡ false = grind (arith, nat_tests, p, q) in t)
          ∙ ap top (let t : c + (n + n - 1 - (n + n - 1 - (s - c))) ≡ s = omega (arith, p, q) in t) ∙ sym e
      plain u s c n p q (inr e) =
          ap (λ b. point_at c n (cond b (s - c) (n + n - 1 - (s - c)))) (let t : (u == bottom s) ≡ true = grind (arith, nat_tests, e) in t)
          ∙ ap (λ b. cond b (bottom (c + (s - c))) (top (c + (n + n - 1 - (s - c))))) (let t : nat_lt (s - c) n ≡ true = grind (arith, nat_tests, p, q) in t)
          ∙ ap bottom (let t : c + (s - c) ≡ s = omega (arith, p) in t) ∙ sym e

  -- ---- a pairing as a mating
  pub mate_boxed : (q : List ℕ) (u : ℕ) → is_boxed c n u ≡ true → mate_of c n q u ≡ point_at c n (slice_index q (place_of c n u))
  mate_boxed q u h = ap (λ b. cond b (point_at c n (slice_index q (place_of c n u))) (standing u)) h

  pub mate_stands : (q : List ℕ) (u : ℕ) → is_boxed c n u ≡ false → mate_of c n q u ≡ standing u
  mate_stands q u h = ap (λ b. cond b (point_at c n (slice_index q (place_of c n u))) (standing u)) h

  pub mate_point : (q : List ℕ) (j : ℕ) → j < n + n → mate_of c n q (point_at c n j) ≡ point_at c n (slice_index q j)
  mate_point q j l = mate_boxed q (point_at c n j) (boxed_point j l) ∙ ap (λ k. point_at c n (slice_index q k)) (place_point j l)

  boxed_standing : (u : ℕ) → is_boxed c n (standing u) ≡ is_boxed c n u
  boxed_standing u = ap (λ s. not (nat_lt s c) && nat_lt s (c + n)) (strand_standing u)

  -- points are told apart by their places
  pub point_one : (j k : ℕ) → j < n + n → k < n + n → point_at c n j ≡ point_at c n k → j ≡ k
  point_one j k l m e = sym (place_point j l) ∙ ap (place_of c n) e ∙ place_point k m

  pub mate_of-IsMating : (q : List ℕ) → IsPairingOf (n + n) q → IsMating (mate_of c n q)
  mate_of-IsMating q hq = record {
    apart = λ u e.
        ⊎_elim
        (λ t. (let l = place_below u t in hq.moves (place_of c n u) l (point_one (slice_index q (place_of c n u)) (place_of c n u) (hq.stays (place_of c n u) l) l (sym (mate_boxed q u t) ∙ e ∙ sym (point_place u t)))))
        (λ f. standing-IsMating.apart u (sym (mate_stands q u f) ∙ e)) (cases_Bool (is_boxed c n u));
    back = λ u.
        ⊎_elim
        (λ t. (let l = place_below u t in
        ap (mate_of c n q) (mate_boxed q u t) ∙ mate_point q (slice_index q (place_of c n u)) (hq.stays (place_of c n u) l) ∙ ap (point_at c n) (hq.turns (place_of c n u) l) ∙ point_place u t))
        (λ f. ap (mate_of c n q) (mate_stands q u f) ∙ mate_stands q (standing u) (boxed_standing u ∙ f) ∙ standing-IsMating.back u)
        (cases_Bool (is_boxed c n u));
  }

-- ---- a hook on two tops
cond_point : (f : ℕ → ℕ) (a b d e : Bool) (v w r s t : ℕ) → cond a (f v) (cond b (f w) (cond d (f r) (cond e (f s) (f t)))) ≡ f (cond a v (cond b w (cond d r (cond e s t))))
cond_point f true b d e v w r s t = refl
cond_point f false true d e v w r s t = refl
cond_point f false false true e v w r s t = refl
cond_point f false false false true v w r s t = refl
cond_point f false false false false v w r s t = refl

module _ (c n i : ℕ) (q : List ℕ) (hq : IsPairingOf (n + n) q) (b : i + 1 < n) where
  abbrev X : ℕ
  X = x n i q hq b

  abbrev Y : ℕ
  Y = y n i q hq b

  abbrev Q : ℕ → ℕ
  Q = mate_in n q

  abbrev M : ℕ → ℕ
  M = mate_of c n q

  abbrev at : ℕ → ℕ
  at = point_at c n

  pub at_x : at X ≡ top (c + i)
  at_x =
      ap (λ t. cond t (bottom (c + X)) (top (c + (n + n - 1 - X)))) (let t : nat_lt X n ≡ false = grind (arith, nat_tests, b) in t)
      ∙ ap top (let t : c + (n + n - 1 - X) ≡ c + i = omega (arith, b) in t)

  pub at_y : at Y ≡ top (c + i + 1)
  at_y =
      ap (λ t. cond t (bottom (c + Y)) (top (c + (n + n - 1 - Y)))) (let t : nat_lt Y n ≡ false = grind (arith, nat_tests, b) in t)
      ∙ ap top (let t : c + (n + n - 1 - Y) ≡ c + i + 1 = omega (arith, b) in t)

  mate_at : (j : ℕ) → j < n + n → M (at j) ≡ at (Q j)
  mate_at j l = mate_point c n q j l ∙ ap at (sym (mate_in-low n q j l))

  told : (j k : ℕ) → j < n + n → k < n + n → (at j == at k) ≡ (j == k)
  told j k l m = eqb_from_iff (at j) (at k) j k (point_one c n j k l m) (λ e. ap at e)

  hooked_at : (j : ℕ) → j < n + n → hooked (at X) (at Y) M (at j) ≡ at (hooked X Y Q j)
  hooked_at j l =
      let lx = x_below n i q hq b in let ly = y_below n i q hq b in
      let below = Q_below n i q hq b in
      let mx = mate_at X lx in let my = mate_at Y ly in
      let tx = told j X l lx in
      let ty = told j Y l ly in
      let ux : (at j == M (at X)) ≡ (j == Q X) = ap (λ z. at j == z) mx ∙ told j (Q X) l (below X lx) in
      let uy : (at j == M (at Y)) ≡ (j == Q Y) = ap (λ z. at j == z) my ∙ told j (Q Y) l (below Y ly) in
      ap₂ (λ s r. cond s (at Y) r) tx
      (ap₂ (λ s r. cond s (at X) r) ty
      (ap₂ (λ s r. cond s (M (at Y)) r) ux (ap₂ (λ s r. cond s (M (at X)) r) uy (mate_at j l))
      ∙ ap₂ (λ v w. cond (j == Q X) v (cond (j == Q Y) w (at (Q j)))) my mx))
      ∙ cond_point at (j == X) (j == Y) (j == Q X) (j == Q Y) Y X (Q Y) (Q X) (Q j)

  -- THE MATING OF THE HOOKED PAIRING
  pub mate_of-hooked : mate_of c n (hooked_list n i q hq b) ≡ hooked (top (c + i)) (top (c + i + 1)) M
  mate_of-hooked =
      fun_ext _ _ (λ u.
      ⊎_elim
      (λ t.
      (let l = place_below c n u t in
      mate_boxed c n (hooked_list n i q hq b) u t ∙ ap at (list_at n i q hq b (place_of c n u) l)
      ∙ sym (hooked_at (place_of c n u) l)
      ∙ ap (hooked (at X) (at Y) M) (point_place c n u t)
      ∙ ap₂ (λ v w. hooked v w M u) at_x at_y))
      (λ f.
      mate_stands c n (hooked_list n i q hq b) u f ∙ sym (mate_stands c n q u f)
      ∙ sym (outside u f)
      ∙ ap₂ (λ v w. hooked v w M u) at_x at_y)
      (cases_Bool (is_boxed c n u)))
    where
      away : (u j : ℕ) → is_boxed c n u ≡ false → j < n + n → u ≢ at j
      away u j f l e = clash (is_boxed c n u) (is_boxed c n (at j)) f (boxed_point c n j l) (ap (is_boxed c n) e)
        where
          clash : (s t : Bool) → s ≡ false → t ≡ true → s ≡ t → ⊥
          clash s t p r k = grind (arith, p, r, k)

      outside : (u : ℕ) → is_boxed c n u ≡ false → hooked (at X) (at Y) M u ≡ M u
      outside u f =
          let lx = x_below n i q hq b in let ly = y_below n i q hq b in
          let below = Q_below n i q hq b in
          kept_plain M u (at X) (at Y) (away u X f lx) (away u Y f ly) (λ e. away u (Q X) f (below X lx) (e ∙ mate_at X lx)) (λ e. away u (Q Y) f (below Y ly) (e ∙ mate_at Y ly))
        where
          kept_plain : (mate : ℕ → ℕ) (u p r : ℕ) → u ≢ p → u ≢ r → u ≢ mate p → u ≢ mate r → hooked p r mate u ≡ mate u
          kept_plain mate u p r d e f g = grind (arith, nat_tests, d, e, f, g)

  -- THE TOPS ARE MATES JUST WHERE THEY ARE PARTNERS
  pub tops_told : (M (top (c + i)) == top (c + i + 1)) ≡ (Q X == Y)
  tops_told =
      let lx = x_below n i q hq b in let ly = y_below n i q hq b in
      ap₂ (λ v w. M v == w) (sym at_x) (sym at_y) ∙ ap (λ v. v == at Y) (mate_at X lx) ∙ told (Q X) Y (Q_below n i q hq b X lx) ly
