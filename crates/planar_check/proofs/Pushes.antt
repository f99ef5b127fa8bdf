-- One item more at the end of the list: what comes behind the labels, after and owners so far.
--
-- Each is an induction on the list in front.
use Rattle.std.proofs.Common.{◌≡◌, ℕ, ◌+◌, ◌<◌, ◌==◌, ltb, cond, true, false, Bool, List, [], ◌∷◌, ◌++◌, length, map, refl, sym, ap, ◌∙◌, arith, append_assoc, append-nil, length-append}
use Rattle.std.specs.List.{filter, range_with_len}
use Rattle.std.proofs.lemmas.Bool.{lt-ltb}
use Rattle.std.proofs.lemmas.Bool.Decides.{nat_tests}
use Rattle.std.proofs.lemmas.List.{map-append}
use Rattle.std.proofs.lemmas.List.Elements.{filter-append}
use Rattle.std.proofs.lemmas.List.FromFn.{length-map-range_with_len}
use Rattle.planar_check.specs.Places.{slot_lists, labels_by_place, slot_after, slots_after, owners}

module _ {I : Type 0} (slots_of : I → List ℕ) where
  slot_lists-append : (xs : List I) (x : I) → slot_lists slots_of (xs ++ x ∷ []) ≡ slot_lists slots_of xs ++ slot_lists slots_of (x ∷ [])
  slot_lists-append xs x =
      ap (filter (λ (slots : List ℕ). ltb 0 (length slots))) (map-append slots_of xs (x ∷ [])) ∙ filter-append (λ (slots : List ℕ). ltb 0 (length slots)) (map slots_of xs) (slots_of x ∷ [])

  pub slot_lists-push : (xs : List I) (x : I) → 0 < length (slots_of x) → slot_lists slots_of (xs ++ x ∷ []) ≡ slot_lists slots_of xs ++ slots_of x ∷ []
  slot_lists-push xs x some =
      let test : ltb 0 (length (slots_of x)) ≡ true = lt-ltb 0 (length (slots_of x)) some in
      slot_lists-append xs x ∙ ap (λ (b : Bool). slot_lists slots_of xs ++ cond b (slots_of x ∷ []) []) test

  pub slot_lists-skip : (xs : List I) (x : I) → length (slots_of x) ≡ 0 → slot_lists slots_of (xs ++ x ∷ []) ≡ slot_lists slots_of xs
  slot_lists-skip xs x none =
      let test : ltb 0 (length (slots_of x)) ≡ false = ap (λ n. ltb 0 n) none in
      slot_lists-append xs x ∙ (ap (λ (b : Bool). slot_lists slots_of xs ++ cond b (slots_of x ∷ []) []) test ∙ append-nil (slot_lists slots_of xs))

pub labels-push : (cs : List (List ℕ)) (slots : List ℕ) → labels_by_place (cs ++ slots ∷ []) ≡ labels_by_place cs ++ slots
labels-push [] slots = append-nil slots
labels-push (c ∷ cs) slots = ap (λ (ls : List ℕ). c ++ ls) (labels-push cs slots) ∙ sym (append_assoc c (labels_by_place cs) slots)

-- the after at one item
abbrev pub after_at : ℕ → ℕ → List ℕ
after_at start n = map (slot_after start n) (range_with_len 0 n)

pub after-push : (start : ℕ) (cs : List (List ℕ)) (slots : List ℕ) →
    slots_after start (cs ++ slots ∷ []) ≡ slots_after start cs ++ after_at (start + length (labels_by_place cs)) (length slots)
after-push start [] slots = append-nil (after_at start (length slots)) ∙ ap (λ s. after_at s (length slots)) (let e : start ≡ start + 0 = omega arith in e)
after-push start (c ∷ cs) slots =
    let here = after_at start (length c) in
    let n = length slots in
    let same : start + length c + length (labels_by_place cs) ≡ start + length (c ++ labels_by_place cs) = omega (arith, length-append c (labels_by_place cs)) in
    ap (λ (ts : List ℕ). here ++ ts) (after-push (start + length c) cs slots ∙ ap (λ s. slots_after (start + length c) cs ++ after_at s n) same)
    ∙ sym (append_assoc here (slots_after (start + length c) cs) (after_at (start + length (c ++ labels_by_place cs)) n))

pub owners-push : (number : ℕ) (cs : List (List ℕ)) (slots : List ℕ) →
    owners number (cs ++ slots ∷ []) ≡ owners number cs ++ map (λ _. number + length cs) slots
owners-push number [] slots = append-nil (map (λ _. number) slots) ∙ ap (λ n. map (λ _. n) slots) (let e : number ≡ number + 0 = omega arith in e)
owners-push number (c ∷ cs) slots =
    let here = map (λ _. number) c in
    let same : number + 1 + length cs ≡ number + length (c ∷ cs) = omega arith in
    ap (λ (ns : List ℕ). here ++ ns) (owners-push (number + 1) cs slots ∙ ap (λ n. owners (number + 1) cs ++ map (λ _. n) slots) same)
    ∙ sym (append_assoc here (owners (number + 1) cs) (map (λ _. number + length (c ∷ cs)) slots))

pub length-after : (start : ℕ) (cs : List (List ℕ)) → length (slots_after start cs) ≡ length (labels_by_place cs)
length-after start [] = refl
length-after start (c ∷ cs) =
    omega (arith, length-append (after_at start (length c)) (slots_after (start + length c) cs), length-append c (labels_by_place cs), length-after (start + length c) cs, length-map-range_with_len (slot_after start (length c)) 0 (length c))

length-map : (f : ℕ → ℕ) (xs : List ℕ) → length (map f xs) ≡ length xs
length-map f [] = refl
length-map f (x ∷ xs) = omega (arith, length-map f xs)

pub length-owners : (number : ℕ) (cs : List (List ℕ)) → length (owners number cs) ≡ length (labels_by_place cs)
length-owners number [] = refl
length-owners number (c ∷ cs) =
    omega (arith, length-append (map (λ _. number) c) (owners (number + 1) cs), length-append c (labels_by_place cs), length-owners (number + 1) cs, length-map (λ _. number) c)

pub some_slot : (slots : List ℕ) (empty : Bool) → empty ≡ (length slots == 0) → empty ≡ false → 0 < length slots
some_slot slots empty e f = grind (arith, nat_tests, e, f)

pub no_slot : (slots : List ℕ) (empty : Bool) → empty ≡ (length slots == 0) → empty ≡ true → length slots ≡ 0
no_slot slots empty e f = grind (arith, nat_tests, e, f)
