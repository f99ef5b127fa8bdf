-- A noncrossing pairing is one within point 0 and its partner and one behind them: so two such make one, and each arises so.
use Rattle.std.proofs.Common.{◌≡◌, ◌≢◌, ℕ, zero, suc, ◌+◌, ◌-◌, ◌<◌, nat_lt, ◌==◌, List, ◌∷◌, map, length, length-append, slice_index, sym, ap, ◌∙◌, arith, ⊎_elim, subst}
use Rattle.std.specs.List.{range_with_len}
use Rattle.std.proofs.lemmas.Bool.{cases_Bool, eqb-true}
use Rattle.std.proofs.lemmas.Bool.Decides.{nat_tests}
use Rattle.std.proofs.lemmas.List.{get_or_append_left, get_or-append-add, get_or-map, length-map, get_or_past}
use Rattle.std.proofs.lemmas.List.FromFn.{length-map-range_with_len, get_or-map-range_with_len}
use Rattle.arc_pairing.specs.Pairings.{IsNoncrossing}
use Rattle.strand_algebra.specs.Noncrossing.{nested}
use Rattle.strand_algebra.proofs.LabelProducts.{IsPairingOf}
use Rattle.strand_algebra.proofs.StraightStrands.{same_list}

-- where a partner is past some number, the point is one of the pairing
pub in_range : (size : ℕ) (p : List ℕ) (i : ℕ) → length p ≡ size → 0 < slice_index p i → i < size
in_range size p i l h =
    ⊎_elim (λ t. grind (arith, nat_tests, t)) (λ f. absurd (let z = get_or_past p i 0 (grind (arith, nat_tests, f, l)) in omega (arith, z, h))) (cases_Bool (nat_lt i size))

-- ---- the points of nested pairings
module _ (k j : ℕ) (a b : List ℕ) (ha : IsPairingOf (k + k) a) (hb : IsPairingOf (j + j) b) where
  abbrev front : List ℕ
  front = map (λ i. i + 1) a

  abbrev back : List ℕ
  back = map (λ i. i + (k + k + 2)) b

  front_length : length front ≡ k + k
  front_length = length-map a (λ i. i + 1) ∙ ha.length_is

  pub nested_length : length (nested k a b) ≡ k + k + 2 + (j + j)
  nested_length =
      let f = front_length in let g = length-map b (λ i. i + (k + k + 2)) ∙ hb.length_is in let s = length-append front (0 ∷ back) in omega (arith, f, g, s)

  within_at : (i : ℕ) → i < k + k → slice_index (nested k a b) (i + 1) ≡ slice_index a i + 1
  within_at i h =
      let z : i + 1 ≡ suc i = omega arith in
      ap (slice_index (nested k a b)) z
      ∙ get_or_append_left front (0 ∷ back) 0 i (let f = front_length in omega (arith, f, h))
      ∙ get_or-map (λ x. x + 1) a i 0 0 (let s = ha.length_is in omega (arith, s, h))

  past_at : (i : ℕ) → slice_index (nested k a b) (k + k + 1 + i) ≡ slice_index (0 ∷ back) i
  past_at i =
      let f = front_length in
      let z : k + k + 1 + i ≡ suc (length front + i) = omega (arith, f) in
      ap (slice_index (nested k a b)) z ∙ get_or-append-add front (0 ∷ back) i 0

  end_at : slice_index (nested k a b) (k + k + 1) ≡ 0
  end_at = (let z : k + k + 1 ≡ k + k + 1 + 0 = omega arith in ap (slice_index (nested k a b)) z) ∙ past_at 0

  behind_at : (i : ℕ) → i < j + j → slice_index (nested k a b) (k + k + 2 + i) ≡ slice_index b i + (k + k + 2)
  behind_at i h =
      (let z : k + k + 2 + i ≡ k + k + 1 + suc i = omega arith in ap (slice_index (nested k a b)) z)
      ∙ past_at (suc i)
      ∙ get_or-map (λ x. x + (k + k + 2)) b i 0 0 (let s = hb.length_is in omega (arith, s, h))

  -- a fact on each point
  by_places : (P : ℕ → Type 0) → P 0 → ((i : ℕ) → i < k + k → P (i + 1)) → P (k + k + 1) → ((i : ℕ) → i < j + j → P (k + k + 2 + i)) → (x : ℕ) → x < k + k + 2 + (j + j) → P x
  by_places P first inside last behind zero h = first
  by_places P first inside last behind (suc y) h =
      let z : y + 1 ≡ suc y = omega arith in
      ⊎_elim
      (λ t. let p = inside y (grind (arith, nat_tests, t)) in rw z at p)
      (λ f. ⊎_elim
      (λ e. let s : k + k + 1 ≡ suc y = (let q = eqb-true y (k + k) e in omega (arith, q)) in rw s at last)
      (λ e. let s : k + k + 2 + (y - (k + k + 1)) ≡ suc y = grind (arith, nat_tests, f, e) in
      let p = behind (y - (k + k + 1)) (omega (arith, s, h)) in rw s at p)
      (cases_Bool (y == k + k)))
      (cases_Bool (nat_lt y (k + k)))

  stays_nested : (x : ℕ) → x < k + k + 2 + (j + j) → slice_index (nested k a b) x < k + k + 2 + (j + j)
  stays_nested =
      by_places (λ x. slice_index (nested k a b) x < k + k + 2 + (j + j)) (omega arith)
      (λ i h. let e = within_at i h in let s = ha.stays i h in omega (arith, e, s))
      (let e = end_at in omega (arith, e))
      (λ i h. let e = behind_at i h in let s = hb.stays i h in omega (arith, e, s))

  pub IsPairingOf-nested : (size : ℕ) → size ≡ k + k + 2 + (j + j) → IsPairingOf size (nested k a b)
  IsPairingOf-nested size e = record {
    length_is = nested_length ∙ sym e;
    stays = λ i h. (let s = stays_nested i (omega (arith, e, h)) in omega (arith, e, s));
    turns = λ i h.
        by_places (λ x. slice_index (nested k a b) (slice_index (nested k a b) x) ≡ x) end_at
        (λ i h. ap (slice_index (nested k a b)) (within_at i h) ∙ within_at (slice_index a i) (ha.stays i h) ∙ ap (λ t. t + 1) (ha.turns i h))
        (ap (slice_index (nested k a b)) end_at)
        (λ i h. (let z : slice_index b i + (k + k + 2) ≡ k + k + 2 + slice_index b i = omega arith in ap (slice_index (nested k a b)) (behind_at i h ∙ z))
        ∙ behind_at (slice_index b i) (hb.stays i h) ∙ ap (λ t. t + (k + k + 2)) (hb.turns i h) ∙ omega arith)
        i (omega (arith, e, h));
    moves = λ i h.
        by_places (λ x. slice_index (nested k a b) x ≢ x) (λ t. omega (arith, t))
        (λ i h t. ha.moves i h (let q = within_at i h in omega (arith, q, t)))
        (λ t. (let q = end_at in omega (arith, q, t)))
        (λ i h t. hb.moves i h (let q = behind_at i h in omega (arith, q, t)))
        i (omega (arith, e, h));
  }

  -- the places of a point within, and of one behind
  at_within : (y : ℕ) → 0 < y → y < k + k + 1 → slice_index (nested k a b) y ≡ slice_index a (y - 1) + 1
  at_within y l h = (let z : y ≡ y - 1 + 1 = omega arith in ap (slice_index (nested k a b)) z) ∙ within_at (y - 1) (omega arith)

  at_behind : (y : ℕ) → k + k + 1 < y → y < k + k + 2 + (j + j) → slice_index (nested k a b) y ≡ slice_index b (y - (k + k + 2)) + (k + k + 2)
  at_behind y l h = (let z : y ≡ k + k + 2 + (y - (k + k + 2)) = omega arith in ap (slice_index (nested k a b)) z) ∙ behind_at (y - (k + k + 2)) (omega arith)

  pub IsNoncrossing-nested : IsNoncrossing a → IsNoncrossing b → IsNoncrossing (nested k a b)
  IsNoncrossing-nested fa fb i y iy yp pp =
      let bound = in_range (k + k + 2 + (j + j)) (nested k a b) in
      let bi = bound i nested_length (omega (arith, yp)) in
      let by = bound y nested_length (omega (arith, pp)) in
      by_places (λ x. x < y → y < slice_index (nested k a b) x → slice_index (nested k a b) x < slice_index (nested k a b) y → ⊥)
      (λ u v w. let e = at_within y (omega (arith, u)) (omega (arith, v)) in let s = ha.stays (y - 1) (omega (arith, u, v)) in omega (arith, e, s, w))
      (λ x h u v w.
      let q = within_at x h in
      let s = ha.stays x h in
      let e = at_within y (omega (arith, u)) (omega (arith, v, q, s)) in
      fa x (y - 1) (omega (arith, u)) (omega (arith, v, q)) (omega (arith, w, q, e)))
      (λ u v w. let q = end_at in omega (arith, q, v))
      (λ x h u v w.
      let q = behind_at x h in
      let e = at_behind y (omega (arith, u)) by in
      fb x (y - (k + k + 2)) (omega (arith, u)) (omega (arith, v, q)) (omega (arith, w, q, e)))
      i bi iy yp pp

-- ---- each noncrossing pairing is nested
-- p is a within point 0 and its partner, and b behind them
pub record IsSplit (size : ℕ) (p a b : List ℕ) (s t : ℕ) : Type 0 where
  pub whole : size ≡ s + 2 + t
  pub within : IsPairingOf s a
  pub behind : IsPairingOf t b
  pub within_noncrossing : IsNoncrossing a
  pub behind_noncrossing : IsNoncrossing b
  pub same : (k j : ℕ) → s ≡ k + k → t ≡ j + j → p ≡ nested k a b

module _ (size : ℕ) (p : List ℕ) (hp : IsPairingOf size p) (free : IsNoncrossing p) (some : 0 < size) where
  abbrev fellow : ℕ
  fellow = slice_index p 0

  abbrev pub inner_part : List ℕ
  inner_part = map (λ i. slice_index p (i + 1) - 1) (range_with_len 0 (fellow - 1))

  abbrev pub outer_part : List ℕ
  outer_part = map (λ i. slice_index p (fellow + 1 + i) - (fellow + 1)) (range_with_len 0 (size - (fellow + 1)))

  fellow_some : 0 < fellow
  fellow_some = let m = hp.moves 0 some in omega (arith, m)

  fellow_below : fellow < size
  fellow_below = hp.stays 0 some

  fellow_back : slice_index p fellow ≡ 0
  fellow_back = hp.turns 0 some

  not_fellow : (x : ℕ) → x < size → x ≢ 0 → slice_index p x ≢ fellow
  not_fellow x h d e = d (sym (hp.turns x h) ∙ ap (slice_index p) e ∙ fellow_back)

  not_first : (x : ℕ) → x < size → x ≢ fellow → slice_index p x ≢ 0
  not_first x h d e = d (sym (hp.turns x h) ∙ ap (slice_index p) e)

  -- what is between point 0 and its partner stays between, and what is behind stays behind
  between : (x : ℕ) → 0 < x → x < fellow → (0 < slice_index p x) × (slice_index p x < fellow)
  between x l h =
      let b : x < size = (let f = fellow_below in omega (arith, f, h)) in
      let z = not_first x b (λ e. omega (arith, e, h)) in
      let n = not_fellow x b (λ e. omega (arith, e, l)) in
      let c = free 0 x l h in
      (omega (arith, z), grind (arith, n, c))

  beyond : (x : ℕ) → fellow < x → x < size → fellow < slice_index p x
  beyond x l h =
      let y = slice_index p x in
      let z = not_first x h (λ e. omega (arith, e, l)) in
      let n = not_fellow x h (λ e. omega (arith, e, l)) in
      let t = hp.turns x h in
      let c = free 0 (slice_index p x) (omega (arith, z)) in
      grind (arith, n, c, t, l)

  inner_at : (i : ℕ) → i < fellow - 1 → slice_index inner_part i ≡ slice_index p (i + 1) - 1
  inner_at i h = get_or-map-range_with_len (λ i. slice_index p (i + 1) - 1) 0 (fellow - 1) i i 0 h (omega arith)

  outer_at : (i : ℕ) → i < size - (fellow + 1) → slice_index outer_part i ≡ slice_index p (fellow + 1 + i) - (fellow + 1)
  outer_at i h = get_or-map-range_with_len (λ i. slice_index p (fellow + 1 + i) - (fellow + 1)) 0 (size - (fellow + 1)) i i 0 h (omega arith)

  inner_size : length inner_part ≡ fellow - 1
  inner_size = length-map-range_with_len (λ i. slice_index p (i + 1) - 1) 0 (fellow - 1)

  outer_size : length outer_part ≡ size - (fellow + 1)
  outer_size = length-map-range_with_len (λ i. slice_index p (fellow + 1 + i) - (fellow + 1)) 0 (size - (fellow + 1))

  inner_next : (i : ℕ) → i < fellow - 1 → slice_index inner_part i + 1 ≡ slice_index p (i + 1)
  inner_next i h = let e = inner_at i h in let b = between (i + 1) (omega arith) (omega (arith, h)) in let c = b.0 in omega (arith, e, c)

  outer_next : (i : ℕ) → i < size - (fellow + 1) → fellow + 1 + slice_index outer_part i ≡ slice_index p (fellow + 1 + i)
  outer_next i h = let e = outer_at i h in let b = beyond (fellow + 1 + i) (omega arith) (omega (arith, h)) in omega (arith, e, b)

  inner_pairing : IsPairingOf (fellow - 1) inner_part
  inner_pairing =
      let stays : (i : ℕ) → i < fellow - 1 → slice_index inner_part i < fellow - 1 = λ i h. (let e = inner_next i h in let b = (between (i + 1) (omega arith) (omega (arith, h))).1 in omega (arith, e, b)) in
      record {
        length_is = inner_size;
        stays = stays;
        turns = λ i h.
            let e = inner_next (slice_index inner_part i) (stays i h) in
            let f = ap (slice_index p) (inner_next i h) in
            let t = hp.turns (i + 1) (let c = fellow_below in omega (arith, c, h)) in
            omega (arith, e, f, t);
        moves = λ i h e. hp.moves (i + 1) (let c = fellow_below in omega (arith, c, h)) (let f = inner_next i h in omega (arith, e, f));
      }

  outer_pairing : IsPairingOf (size - (fellow + 1)) outer_part
  outer_pairing =
      let stays : (i : ℕ) → i < size - (fellow + 1) → slice_index outer_part i < size - (fellow + 1) = λ i h. (let e = outer_next i h in let b = hp.stays (fellow + 1 + i) (omega (arith, h)) in omega (arith, e, b)) in
      record {
        length_is = outer_size;
        stays = stays;
        turns = λ i h.
            let e = outer_next (slice_index outer_part i) (stays i h) in
            let f = ap (slice_index p) (outer_next i h) in
            let t = hp.turns (fellow + 1 + i) (omega (arith, h)) in
            omega (arith, e, f, t);
        moves = λ i h e. hp.moves (fellow + 1 + i) (omega (arith, h)) (let f = outer_next i h in omega (arith, e, f));
      }

  inner_noncrossing : IsNoncrossing inner_part
  inner_noncrossing i y iy yp pp =
      let bi = in_range (fellow - 1) inner_part i inner_size (omega (arith, yp)) in
      let by = in_range (fellow - 1) inner_part y inner_size (omega (arith, pp)) in
      let e = inner_next i bi in
      let f = inner_next y by in
      free (i + 1) (y + 1) (omega (arith, iy)) (omega (arith, yp, e)) (omega (arith, pp, e, f))

  outer_noncrossing : IsNoncrossing outer_part
  outer_noncrossing i y iy yp pp =
      let bi = in_range (size - (fellow + 1)) outer_part i outer_size (omega (arith, yp)) in
      let by = in_range (size - (fellow + 1)) outer_part y outer_size (omega (arith, pp)) in
      let e = outer_next i bi in
      let f = outer_next y by in
      free (fellow + 1 + i) (fellow + 1 + y) (omega (arith, iy)) (omega (arith, yp, e)) (omega (arith, pp, e, f))

  -- A NONCROSSING PAIRING IS NESTED
  pub split : IsSplit size p inner_part outer_part (fellow - 1) (size - (fellow + 1))
  split =
      let l = fellow_below in
      let z = fellow_some in
      record {
        whole = omega (arith, l, z);
        within = inner_pairing;
        behind = outer_pairing;
        within_noncrossing = inner_noncrossing;
        behind_noncrossing = outer_noncrossing;
        same = λ k j e f.
            let ha : IsPairingOf (k + k) inner_part = subst (λ s. IsPairingOf s inner_part) e inner_pairing in
            let hb : IsPairingOf (j + j) outer_part = subst (λ s. IsPairingOf s outer_part) f outer_pairing in
            let g : fellow ≡ k + k + 1 = omega (arith, e, z) in
            let whole : size ≡ k + k + 2 + (j + j) = omega (arith, e, f, l, z) in
            same_list size p (nested k inner_part outer_part) hp.length_is (nested_length k j inner_part outer_part ha hb ∙ sym whole)
            (λ i h. by_places k j inner_part outer_part ha hb (λ x. slice_index p x ≡ slice_index (nested k inner_part outer_part) x) g
            (λ i h. sym (inner_next i (omega (arith, e, h))) ∙ sym (within_at k j inner_part outer_part ha hb i h))
            (ap (slice_index p) (sym g) ∙ fellow_back ∙ sym (end_at k j inner_part outer_part ha hb))
            (λ i h. (let y : k + k + 2 + i ≡ fellow + 1 + i = omega (arith, g) in ap (slice_index p) y)
            ∙ sym (outer_next i (omega (arith, f, h)))
            ∙ (let y : fellow + 1 + slice_index outer_part i ≡ slice_index outer_part i + (k + k + 2) = omega (arith, g) in y)
            ∙ sym (behind_at k j inner_part outer_part ha hb i h))
            i (omega (arith, whole, h)));
      }
