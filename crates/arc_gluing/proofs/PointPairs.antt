-- The pairs of a pairing have each of its points once: the points whose pair begins at i or later become fewer by the two of
-- the pair that begins at i.
use Rattle.std.proofs.Common.{◌≡◌, ◌≢◌, ℕ, zero, suc, ◌+◌, ◌≤◌, ◌<◌, nat_lt, Bool, true, false, cond, not, ◌&&◌, ◌==◌, ⊎_elim, List, [], ◌∷◌, ◌++◌, length, slice_index, refl, ap, ◌∙◌, arith}
use Rattle.std.proofs.lemmas.Bool.{eq-eqb, eqb-true, cases_Bool}
use Rattle.std.proofs.lemmas.Bool.Decides.{nat_tests}
use Rattle.std.proofs.lemmas.List.Sums.{sum_by-cons}
use Rattle.state_sums.specs.Networks.{IsPairing}
use Rattle.arc_gluing.specs.Mates.{pairs_below}
use Rattle.list_lemmas.specs.Times.{times_in}
use Rattle.list_lemmas.proofs.Times.{times_in-append}
use Rattle.graph_parts.specs.Ends.{ends_of}

-- the sum of f over the numbers below n
abbrev pub sum_below : (ℕ → ℕ) → ℕ → ℕ
sum_below f zero = 0
sum_below f (suc n) = sum_below f n + f n

sum_below-same : (f g : ℕ → ℕ) (n : ℕ) → ((i : ℕ) → i < n → f i ≡ g i) → sum_below f n ≡ sum_below g n
sum_below-same f g zero h = refl
sum_below-same f g (suc n) h =
    let ih = sum_below-same f g n (λ i l. h i (omega arith)) in let e = h n (omega arith) in omega (arith, ih, e)

sum_below-add : (f g : ℕ → ℕ) (n : ℕ) → sum_below (λ i. f i + g i) n ≡ sum_below f n + sum_below g n
sum_below-add f g zero = refl
sum_below-add f g (suc n) = let ih = sum_below-add f g n in omega (arith, ih)

sum_below-none : (f : ℕ → ℕ) (n : ℕ) → ((i : ℕ) → i < n → f i ≡ 0) → sum_below f n ≡ 0
sum_below-none f zero h = refl
sum_below-none f (suc n) h = let ih = sum_below-none f n (λ i l. h i (omega arith)) in let e = h n (omega arith) in omega (arith, ih, e)

-- only one of the numbers counts
sum_below-one : (f : ℕ → ℕ) (k n : ℕ) → k < n → sum_below (λ i. cond (i == k) (f i) 0) n ≡ f k
sum_below-one f k zero l = absurd (omega arith)
sum_below-one f k (suc n) l =
    ⊎_elim
    (λ e. let same : n ≡ k = eqb-true n k e in
    let none = sum_below-none (λ i. cond (i == k) (f i) 0) n (λ i m. grind (arith, nat_tests, same)) in
    let now = ap (λ b. cond b (f n) 0) e in let g = ap f same in omega (arith, none, now, g))
    (λ e. let ne : n ≢ k = (λ t. let q = eq-eqb n k t in grind (arith, q, e)) in
    let ih = sum_below-one f k n (omega (arith, ne)) in let now = ap (λ b. cond b (f n) 0) e in omega (arith, ih, now))
    (cases_Bool (n == k))

sum_below-front : (f : ℕ → ℕ) (n : ℕ) → sum_below f (suc n) ≡ f 0 + sum_below (λ i. f (suc i)) n
sum_below-front f zero = omega arith
sum_below-front f (suc n) = let ih = sum_below-front f n in omega (arith, ih)

pub times_in-below : (names : List ℕ) (x : ℕ) → times_in names x ≡ sum_below (λ i. cond (x == slice_index names i) 1 0) (length names)
times_in-below [] x = refl
times_in-below (y ∷ names) x =
    let ih = times_in-below names x in
    let e = sum_by-cons (λ z. cond (x == z) 1 0) y names in
    let f = sum_below-front (λ i. cond (x == slice_index (y ∷ names) i) 1 0) (length names) in
    omega (arith, ih, e, f)

pub ends_of-append : (es fs : List (ℕ × ℕ)) → ends_of (es ++ fs) ≡ ends_of es ++ ends_of fs
ends_of-append [] fs = refl
ends_of-append (e ∷ es) fs = ap (λ xs. e.0 ∷ e.1 ∷ xs) (ends_of-append es fs)

module _ (names partner : List ℕ) (h : IsPairing partner) (x : ℕ) where
  abbrev here : ℕ → ℕ
  here j = cond (x == slice_index names j) 1 0

  -- a point whose pair does not begin below i
  abbrev waits : ℕ → ℕ → Bool
  waits i j = not (nat_lt j i) && not (nat_lt (slice_index partner j) i)

  abbrev waiting : ℕ → ℕ
  waiting i = sum_below (λ j. cond (waits i j) (here j) 0) (length partner)

  waiting-step : (i : ℕ) → i < length partner →
      waiting i ≡ waiting (suc i) + cond (nat_lt i (slice_index partner i)) (here i + here (slice_index partner i)) 0
  waiting-step i l =
      let n = length partner in
      let k = slice_index partner i in
      let kl = h.within i l in let ka = h.apart i l in let kb = h.back i l in
      ⊎_elim
      (λ t.
      let one = sum_below-one here i n l in
      let two = sum_below-one here k n kl in
      let same = sum_below-same (λ j. cond (waits i j) (here j) 0) (λ j. cond (waits (suc i) j) (here j) 0 + (cond (j == i) (here j) 0 + cond (j == k) (here j) 0)) n
      (λ j jl. let jb = h.back j jl in let ja = h.apart j jl in let s1 = λ (e : j ≡ i). ap (slice_index partner) e in let s2 = λ (e : slice_index partner j ≡ i). ap (slice_index partner) e in
      let s3 = λ (e : j ≡ k). ap (slice_index partner) e in
      grind (arith, nat_tests, jb, ja, s1, s2, s3, kb, ka, t)) in
      let a1 = sum_below-add (λ j. cond (waits (suc i) j) (here j) 0) (λ j. cond (j == i) (here j) 0 + cond (j == k) (here j) 0) n in
      let a2 = sum_below-add (λ j. cond (j == i) (here j) 0) (λ j. cond (j == k) (here j) 0) n in
      let now = ap (λ b. cond b (here i + here k) 0) t in
      omega (arith, same, a1, a2, one, two, now))
      (λ f.
      let same = sum_below-same (λ j. cond (waits i j) (here j) 0) (λ j. cond (waits (suc i) j) (here j) 0) n
      (λ j jl. let jb = h.back j jl in let ja = h.apart j jl in let s1 = λ (e : j ≡ i). ap (slice_index partner) e in let s2 = λ (e : slice_index partner j ≡ i). ap (slice_index partner) e in
      grind (arith, nat_tests, jb, ja, s1, s2, kb, ka, f)) in
      let now = ap (λ b. cond b (here i + here k) 0) f in
      omega (arith, same, now))
      (cases_Bool (nat_lt i k))

  waiting-below : (i : ℕ) → i ≤ length partner → times_in (ends_of (pairs_below names partner i)) x + waiting i ≡ waiting 0
  waiting-below zero l = omega arith
  waiting-below (suc i) l =
      let ih = waiting-below i (omega arith) in
      let s = waiting-step i (omega arith) in
      let k = slice_index partner i in
      let so_far = pairs_below names partner i in
      let pair : List (ℕ × ℕ) = (slice_index names i, slice_index names k) ∷ [] in
      let more : Bool → List (ℕ × ℕ) = λ b. cond b pair [] in
      let a = ap (λ xs. times_in xs x) (ends_of-append so_far (more (nat_lt i k))) ∙ times_in-append (ends_of so_far) (ends_of (more (nat_lt i k))) x in
      let one : (b : Bool) → times_in (ends_of (more b)) x ≡ cond b (here i + here k) 0 = λ b. elim b as (λ c. times_in (ends_of (more c)) x ≡ cond c (here i + here k) 0) [
        | true ↦ (let e = sum_by-cons (λ z. cond (x == z) 1 0) (slice_index names i) (slice_index names k ∷ []) in let f = sum_by-cons (λ z. cond (x == z) 1 0) (slice_index names k) [] in omega (arith, e, f))
        | false ↦ refl
      ] in
      let o = one (nat_lt i k) in
      omega (arith, ih, s, a, o)

  -- EACH POINT STANDS IN ONE PAIR
  pub times_in-pairs : length partner ≡ length names → times_in (ends_of (pairs_below names partner (length partner))) x ≡ times_in names x
  times_in-pairs e =
      let w = waiting-below (length partner) (omega arith) in
      let last = sum_below-none (λ j. cond (waits (length partner) j) (here j) 0) (length partner) (λ j jl. grind (arith, nat_tests, jl)) in
      let first = sum_below-same (λ j. cond (waits 0 j) (here j) 0) here (length partner) (λ j jl. grind (arith, nat_tests)) in
      let t = times_in-below names x in
      let k = ap (sum_below here) e in
      omega (arith, w, last, first, t, k)
