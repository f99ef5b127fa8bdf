-- The least label that doesn't stand twice, found from the left: one label more either is less than
-- the least so far, or isn't.
--
--     least_among ls front     the least label of the front that doesn't stand twice in ls
use Rattle.std.proofs.Common.{inl, inr, ◌≡◌, ℕ, ◌==◌, eqb, Bool, true, false, not, min, List, [], ◌∷◌, ◌++◌, append-nil, filter, Option, Some, None, option_map, unwrap_or, refl, ap, ◌∙◌, arith}
use Rattle.std.proofs.lemmas.Bool.{cases_Bool, eqb-true, eq-eqb}
use Rattle.std.proofs.lemmas.List.Elements.{filter-append}
use Rattle.std.specs.List.{AllByRecursion}
use Rattle.list_lemmas.specs.Times.{times_in}
use Rattle.pd_reader.specs.Diagrams.{least, least_unpaired}

abbrev pub is_unpaired : List ℕ → ℕ → Bool
is_unpaired ls label = not (times_in ls label == 2)

abbrev pub least_among : List ℕ → List ℕ → Option ℕ
least_among ls front = least (filter (is_unpaired ls) front)

-- the less of a number and what is found so far
abbrev pub lesser : Option ℕ → ℕ → ℕ
lesser None n = n
lesser (Some m) n = min m n

pub least-push : (ns : List ℕ) (n : ℕ) → least (ns ++ n ∷ []) ≡ Some (lesser (least ns) n)
least-push [] n = refl
least-push (m ∷ ns) n = rw (least-push ns n) (by_rest (least ns))
  where
    by_rest : (rest : Option ℕ) → Some (unwrap_or (option_map (min m) (Some (lesser rest n))) m) ≡ Some (min (unwrap_or (option_map (min m) rest) m) n)
    by_rest None = refl
    by_rest (Some k) = ap (λ (x : ℕ). Some x) (omega arith)

-- one label more of the front
pub least_among-more : (ls : List ℕ) (front : List ℕ) (n : ℕ) → is_unpaired ls n ≡ true → least_among ls (front ++ n ∷ []) ≡ Some (lesser (least_among ls front) n)
least_among-more ls front n h =
    let e : filter (is_unpaired ls) (front ++ n ∷ []) ≡ filter (is_unpaired ls) front ++ n ∷ [] = filter-append (is_unpaired ls) front (n ∷ []) ∙ rw h refl in
    ap least e ∙ least-push (filter (is_unpaired ls) front) n

pub least_among-same : (ls : List ℕ) (front : List ℕ) (n : ℕ) → is_unpaired ls n ≡ false → least_among ls (front ++ n ∷ []) ≡ least_among ls front
least_among-same ls front n h =
    let e : filter (is_unpaired ls) (front ++ n ∷ []) ≡ filter (is_unpaired ls) front = filter-append (is_unpaired ls) front (n ∷ []) ∙ rw h (append-nil (filter (is_unpaired ls) front)) in
    ap least e

least-none : (ns : List ℕ) → least ns ≡ None → ns ≡ []
least-none [] e = refl
least-none (n ∷ ns) e = absurd cc

none_left : (p : ℕ → Bool) (ns : List ℕ) → filter p ns ≡ [] → AllByRecursion (λ n. p n ≡ false) ns
none_left p [] e = tt
none_left p (n ∷ ns) e =
    elim (cases_Bool (p n)) [
      | inl is ↦ (let full : n ∷ filter p ns ≡ [] = rw is at e in absurd cc)
      | inr not_is ↦ (not_is, none_left p ns (rw not_is at e))
    ]

all_twice : (ls ns : List ℕ) → AllByRecursion (λ n. is_unpaired ls n ≡ false) ns → AllByRecursion (λ n. times_in ls n ≡ 2) ns
all_twice ls [] h = tt
all_twice ls (n ∷ ns) h = (by_test (eqb (times_in ls n) 2) refl h.0, all_twice ls ns h.1)
  where
    by_test : (b : Bool) → eqb (times_in ls n) 2 ≡ b → not b ≡ false → times_in ls n ≡ 2
    by_test true e k = eqb-true (times_in ls n) 2 e
    by_test false e k = absurd cc

-- no label is left out: each stands twice
pub each_stands_twice : (ls : List ℕ) → least_unpaired ls ≡ None → AllByRecursion (λ n. times_in ls n ≡ 2) ls
each_stands_twice ls e = all_twice ls ls (none_left (is_unpaired ls) ls (least-none (filter (is_unpaired ls) ls) e))

none_kept : (ls ns : List ℕ) → AllByRecursion (λ n. times_in ls n ≡ 2) ns → filter (is_unpaired ls) ns ≡ []
none_kept ls [] h = refl
none_kept ls (n ∷ ns) h = let even : is_unpaired ls n ≡ false = rw (eq-eqb (times_in ls n) 2 h.0) refl in rw even (none_kept ls ns h.1)

-- WHERE EACH LABEL STANDS TWICE, NONE IS LEFT OUT
pub none_is_unpaired : (ls : List ℕ) → AllByRecursion (λ n. times_in ls n ≡ 2) ls → least_unpaired ls ≡ None
none_is_unpaired ls h = ap least (none_kept ls ls h)
