-- Runs of equal names in an ascending list: what the scan for the least miscount keeps. A run is a stretch of one name;
-- the runs before `start` have two names each, and no name of the run at `start` stands before it.
--
--     IsScanned names start          what is known where a run begins
--     IsRun names start end name     what is known inside it
--     run_begins, run_times, scanned_on
use Rattle.std.proofs.Common.{◌≡◌, ◌≢◌, ℕ, zero, suc, ◌+◌, ◌<◌, ◌≤◌, ◌==◌, true, cond, List, [], ◌∷◌, length, take, drop, get_or, refl, sym, ap, ◌∙◌, arith, length-drop, ⊎_elim}
use Rattle.std.proofs.lemmas.Bool.{cases_lt, cases_order}
use Rattle.std.proofs.lemmas.Bool.Decides.{nat_tests}
use Rattle.std.proofs.lemmas.List.{get_or-take, get_or-drop, length-take-le}
use Rattle.std.proofs.lemmas.List.Sums.{sum_by-cons, sum_by_more, sum_by-take-drop}
use Rattle.std.specs.List.Sorted.{IsNonDecreasing}
use Rattle.std.specs.Set.{is_member}
use Rattle.list_lemmas.specs.Times.{times_in}
use Rattle.arc_pairing.specs.Counts.{StandsTwice}

-- a name that stands at no place stands no time
times_in-none : (xs : List ℕ) (x : ℕ) → ((j : ℕ) → j < length xs → get_or xs j 0 ≢ x) → times_in xs x ≡ 0
times_in-none [] x h = refl
times_in-none (y ∷ xs) x h =
    let ih = times_in-none xs x (λ j l. h (suc j) (omega arith)) in
    let here = h zero (omega arith) in
    let e = sum_by-cons (λ z. cond (x == z) 1 0) y xs in
    grind (arith, nat_tests, ih, e, here)

no_member : (xs : List ℕ) (x : ℕ) → ((j : ℕ) → j < length xs → get_or xs j 0 ≢ x) → is_member ◌==◌ xs x ≡ true → ⊥
no_member [] x h m = absurd (grind (arith, m))
no_member (y ∷ xs) x h m =
    let ih = no_member xs x (λ j l. h (suc j) (omega arith)) in
    let here = h zero (omega arith) in
    grind (arith, nat_tests, ih, here, m)

times_in-more : (xs : List ℕ) (x k : ℕ) → k < length xs → times_in (take (k + 1) xs) x ≡ times_in (take k xs) x + cond (x == get_or xs k 0) 1 0
times_in-more xs x k l = sum_by_more (λ z. cond (x == z) 1 0) xs k 0 l

-- names past a place that are all others add nothing
times_in-past : (xs : List ℕ) (x k : ℕ) → ((j : ℕ) → k ≤ j → j < length xs → get_or xs j 0 ≢ x) → times_in xs x ≡ times_in (take k xs) x
times_in-past xs x k h =
    let rest = times_in-none (drop k xs) x (λ j l e. h (k + j) (omega arith) (let n = length-drop k xs in omega (arith, n, l)) (sym (get_or-drop k xs j 0) ∙ e)) in
    let whole = sum_by-take-drop (λ z. cond (x == z) 1 0) xs k in
    omega (arith, rest, whole)

pub record IsScanned (names : List ℕ) (start : ℕ) : Type 0 where
  pub within : start ≤ length names
  pub done : (x : ℕ) → (start < length names → x < get_or names start 0) → StandsTwice names x
  pub fresh : (x : ℕ) → start < length names → get_or names start 0 ≤ x → times_in (take start names) x ≡ 0

pub record IsRun (names : List ℕ) (start end name : ℕ) : Type 0 where
  pub within : end ≤ length names
  pub some : start < end
  pub equal : (j : ℕ) → start ≤ j → j < end → get_or names j 0 ≡ name
  pub count : times_in (take end names) name + start ≡ end

module _ (names : List ℕ) (ascending : IsNonDecreasing names) where
  pub scanned_none : IsScanned names 0
  scanned_none = record {
    within = omega arith;
    done = λ x below m. absurd (no_member names x (λ j l e. let a = ascending 0 j 0 (omega arith) l in let b = below (omega (arith, l)) in omega (arith, a, b, e)) m);
    fresh = λ x l k. refl;
  }

  pub run_begins : (start : ℕ) → IsScanned names start → start < length names → IsRun names start (start + 1) (get_or names start 0)
  run_begins start s l =
      let none = s.fresh (get_or names start 0) l (omega arith) in
      let more = times_in-more names (get_or names start 0) start l in
      record {
        within = omega arith;
        some = omega arith;
        equal = λ j a b. let k : j ≡ start = omega (arith, a, b) in ap (λ i. get_or names i 0) k;
        count = grind (arith, nat_tests, none, more);
      }

  -- past a run stands no name of it
  past_run : (start end name : ℕ) → IsRun names start end name → (end < length names → get_or names end 0 ≢ name) → (j : ℕ) → end ≤ j → j < length names → name < get_or names j 0
  past_run start end name r other j k l =
      let some = r.some in
      let before = r.equal start (omega arith) some in
      let up = ascending start end 0 (omega (arith, some)) (omega (arith, k, l)) in
      let far = ascending end j 0 k l in
      let apart = other (omega (arith, k, l)) in
      grind (arith, before, up, far, apart)

  pub run_times : (start end name : ℕ) → IsRun names start end name → (end < length names → get_or names end 0 ≢ name) → times_in names name + start ≡ end
  run_times start end name r other =
      let c = r.count in
      let past = times_in-past names name end (λ j k l e. let a = past_run start end name r other j k l in omega (arith, a, e)) in
      omega (arith, c, past)

  -- a name above the run's stands nowhere up to its end
  up_to : (start end : ℕ) → IsRun names start end (get_or names start 0) → (j : ℕ) → j < end → (x : ℕ) → get_or names start 0 < x → get_or names j 0 ≡ x → ⊥
  up_to start end r j front x gt e =
      let within = r.within in
      let some = r.some in
      ⊎_elim
      (λ (early : j < start). let a = ascending j start 0 (omega arith) (omega (arith, some, within)) in omega (arith, a, e, gt))
      (λ (inside : start ≤ j). let a = r.equal j inside front in omega (arith, a, e, gt))
      (cases_lt j start)

  -- PAST A RUN OF TWO THE SCAN GOES ON
  pub scanned_on : (start end : ℕ) → IsScanned names start → start < length names → IsRun names start end (get_or names start 0) → (end < length names → get_or names end 0 ≢ get_or names start 0) → end ≡ start + 2 → IsScanned names end
  scanned_on start end s l r other two =
      let name : ℕ = get_or names start 0 in
      record {
        within = r.within;
        done = λ x below m.
            ⊎_elim
            (λ (same : x ≡ name). (let t = run_times start end name r other in let e = ap (times_in names) same in omega (arith, t, e, two)))
            (λ o. ⊎_elim
            (λ (lt : x < name). s.done x (λ k. lt) m)
            (λ (gt : name < x). absurd (no_member names x
            (λ j k e. ⊎_elim
            (λ (front : j < end). up_to start end r j front x gt e)
            (λ (back : end ≤ j). (let a = ascending end j 0 back k in let b = below (omega (arith, back, k)) in omega (arith, a, b, e)))
            (cases_lt j end)) m))
            o)
            (cases_order x name);
        fresh = λ x k le.
            let past = past_run start end name r other end (omega arith) k in
            times_in-none (take end names) x (λ j l e. let n = length-take-le end names r.within in let front : j < end = omega (arith, n, l) in
            up_to start end r j front x (omega (arith, past, le)) (sym (get_or-take end names j 0 front) ∙ e));
      }
