-- A step of the loop over the pairs of a term: it closes a loop, makes two mates, or passes over a pair that was joined.
--
--     IsAt start slots partner mates loops i     the loop has come to the point i
use Rattle.std.proofs.Common.{◌≡◌, ◌≢◌, ℕ, zero, suc, ◌+◌, ◌≤◌, ◌<◌, true, false, cond, nat_lt, List, [], ◌∷◌, ◌++◌, length, slice_index, sym, ap, subst, ◌∙◌, arith, append-nil, get_or-set_other, get_or-set_same, add-one}
use Rattle.std.proofs.Math.ListN.{set, length-set}
use Rattle.std.proofs.lemmas.Bool.Decides.{nat_tests}
use Rattle.std.proofs.lemmas.List.Sums.{fold-append}
use Rattle.arc_gluing.specs.Mates.{put, joined_mates, mates_after, loops_after, pairs_below}
use Rattle.arc_gluing.proofs.OneEdge.{same_or_not}

pub mates_after-append : (m : ℕ → ℕ) (es fs : List (ℕ × ℕ)) → mates_after m (es ++ fs) ≡ mates_after (mates_after m es) fs
mates_after-append m es fs = fold-append joined_mates m es fs

pub loops_after-append : (m : ℕ → ℕ) (es fs : List (ℕ × ℕ)) → loops_after m (es ++ fs) ≡ loops_after m es + loops_after (mates_after m es) fs
loops_after-append m [] fs = omega arith
loops_after-append m (e ∷ es) fs = let ih = loops_after-append (joined_mates m e) es fs in omega (arith, ih)

put-set : (ms : List ℕ) (u v x : ℕ) → u < length ms → slice_index (set ms u v) x ≡ put (slice_index ms) u v x
put-set ms u v x l =
    same_or_not x u
    (λ e. let P : ℕ → Type 0 = λ y. slice_index (set ms u v) y ≡ put (slice_index ms) u v y in
    subst P (sym e) (get_or-set_same ms u v 0 l ∙ (grind (arith, nat_tests))))
    (λ d. get_or-set_other ms u x v 0 d ∙ (grind (arith, nat_tests, d)))

small_set : (ms : List ℕ) (u v x : ℕ) → v < 48 → slice_index ms x < 48 → slice_index (set ms u v) x < 48
small_set [] u v x l k = k
small_set (m ∷ ms) zero v zero l k = l
small_set (m ∷ ms) zero v (suc x) l k = k
small_set (m ∷ ms) (suc u) v zero l k = k
small_set (m ∷ ms) (suc u) v (suc x) l k = small_set ms u v x l k

module _ (m : ℕ → ℕ) (es : List (ℕ × ℕ)) (ms : List ℕ) (whole : length ms ≡ 48) (now : (x : ℕ) → slice_index ms x ≡ mates_after m es x) (small : (x : ℕ) → slice_index ms x < 48) (a b : ℕ) where
  pub after_closed : slice_index ms a ≡ b → (x : ℕ) → slice_index ms x ≡ mates_after m (es ++ (a, b) ∷ []) x
  after_closed e x =
      let k = ap (λ f. f x) (mates_after-append m es ((a, b) ∷ [])) in let n = now x in let na = now a in grind (arith, nat_tests, k, n, na, e)

  pub loops_closed : slice_index ms a ≡ b → loops_after m (es ++ (a, b) ∷ []) ≡ loops_after m es + 1
  loops_closed e = let k = loops_after-append m es ((a, b) ∷ []) in let na = now a in grind (arith, nat_tests, k, na, e)

  pub loops_open : slice_index ms a ≢ b → loops_after m (es ++ (a, b) ∷ []) ≡ loops_after m es
  loops_open d = let k = loops_after-append m es ((a, b) ∷ []) in let na = now a in grind (arith, nat_tests, k, na, d)

  pub after_open : slice_index ms a ≢ b → (x : ℕ) → slice_index (set (set ms (slice_index ms a) (slice_index ms b)) (slice_index ms b) (slice_index ms a)) x ≡ mates_after m (es ++ (a, b) ∷ []) x
  after_open d x =
      let c = slice_index ms a in let v = slice_index ms b in
      let sc = small a in let sv = small b in
      let k = ap (λ f. f x) (mates_after-append m es ((a, b) ∷ [])) in
      let p = put-set (set ms c v) v c x (let w = length-set ms c v in omega (arith, w, whole, sv)) in
      let q = put-set ms c v x (omega (arith, whole, sc)) in
      let n = now x in let na = now a in let nb = now b in
      grind (arith, nat_tests, k, p, q, n, na, nb, d)

pub pairs_taken : (slots partner : List ℕ) (i : ℕ) → i < slice_index partner i →
    pairs_below slots partner (i + 1) ≡ pairs_below slots partner i ++ (slice_index slots i, slice_index slots (slice_index partner i)) ∷ []
pairs_taken slots partner i l =
    let pair : List (ℕ × ℕ) = (slice_index slots i, slice_index slots (slice_index partner i)) ∷ [] in
    let t : nat_lt i (slice_index partner i) ≡ true = grind (arith, nat_tests, l) in
    rw add-one (ap (λ b. pairs_below slots partner i ++ cond b pair []) t)

pub pairs_skipped : (slots partner : List ℕ) (i : ℕ) → slice_index partner i ≤ i → pairs_below slots partner (i + 1) ≡ pairs_below slots partner i
pairs_skipped slots partner i l =
    let pair : List (ℕ × ℕ) = (slice_index slots i, slice_index slots (slice_index partner i)) ∷ [] in
    let t : nat_lt i (slice_index partner i) ≡ false = grind (arith, nat_tests, l) in
    rw add-one (ap (λ b. pairs_below slots partner i ++ cond b pair []) t ∙ append-nil (pairs_below slots partner i))

-- the loop over the pairs has come to the point i
pub record IsAt (start : ℕ → ℕ) (slots partner mates : List ℕ) (loops i : ℕ) : Type 0 where
  pub now : (x : ℕ) → slice_index mates x ≡ mates_after start (pairs_below slots partner i) x
  pub small : (x : ℕ) → slice_index mates x < 48
  pub loops_are : loops ≡ loops_after start (pairs_below slots partner i)
  pub few : loops ≤ i

module _ (start : ℕ → ℕ) (slots partner mates : List ℕ) (loops i a b : ℕ) (whole : length mates ≡ 48) (h : IsAt start slots partner mates loops i)
    (is_a : a ≡ slice_index slots i) (is_b : b ≡ slice_index slots (slice_index partner i)) where
  pairs_now : i < slice_index partner i → pairs_below slots partner (i + 1) ≡ pairs_below slots partner i ++ (a, b) ∷ []
  pairs_now l = pairs_taken slots partner i l ∙ (let p = is_a in let q = is_b in cc)

  -- A LOOP CLOSES
  pub IsAt-closed : i < slice_index partner i → slice_index mates a ≡ b → IsAt start slots partner mates (loops + 1) (i + 1)
  IsAt-closed l e =
      let es = pairs_below slots partner i in
      record {
        now = λ x. after_closed start es mates whole h.now h.small a b e x ∙ sym (ap (λ ps. mates_after start ps x) (pairs_now l));
        small = h.small;
        loops_are = (let k = loops_closed start es mates whole h.now h.small a b e in let n = h.loops_are in omega (arith, k, n)) ∙ sym (ap (loops_after start) (pairs_now l));
        few = let f = h.few in omega (arith, f);
      }

  -- TWO MATES ARE MADE
  pub IsAt-open : i < slice_index partner i → slice_index mates a ≢ b →
      IsAt start slots partner (set (set mates (slice_index mates a) (slice_index mates b)) (slice_index mates b) (slice_index mates a)) loops (i + 1)
  IsAt-open l d =
      let es = pairs_below slots partner i in
      let sa = h.small a in let sb = h.small b in
      record {
        now = λ x. after_open start es mates whole h.now h.small a b d x ∙ sym (ap (λ ps. mates_after start ps x) (pairs_now l));
        small = λ x. small_set (set mates (slice_index mates a) (slice_index mates b)) (slice_index mates b) (slice_index mates a) x sa (small_set mates (slice_index mates a) (slice_index mates b) x sb (h.small x));
        loops_are = h.loops_are ∙ sym (loops_open start es mates whole h.now h.small a b d) ∙ sym (ap (loops_after start) (pairs_now l));
        few = let f = h.few in omega (arith, f);
      }

-- A PAIR THAT WAS JOINED IS PASSED OVER
pub IsAt-skipped : (start : ℕ → ℕ) (slots partner mates : List ℕ) (loops i : ℕ) → IsAt start slots partner mates loops i → slice_index partner i ≤ i → IsAt start slots partner mates loops (i + 1)
IsAt-skipped start slots partner mates loops i h l =
    record {
      now = λ x. h.now x ∙ sym (ap (λ ps. mates_after start ps x) (pairs_skipped slots partner i l));
      small = h.small;
      loops_are = h.loops_are ∙ sym (ap (loops_after start) (pairs_skipped slots partner i l));
      few = let f = h.few in omega (arith, f);
    }
