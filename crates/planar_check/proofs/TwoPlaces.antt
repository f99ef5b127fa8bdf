-- A label that stands twice in a list stands at two places and nowhere else; and a search finds the one number that passes.
use Rattle.std.proofs.Common.{◌≡◌, ◌≢◌, ◌⊎◌, ℕ, zero, suc, ◌+◌, ◌<◌, ◌≤◌, ◌==◌, Bool, true, false, cond, List, [], ◌∷◌, length, slice_index, inl, inr, refl, sym, ap, ◌∙◌, arith, ⊎_elim}
use Rattle.std.specs.List.{range_with_len}
use Rattle.std.proofs.lemmas.Bool.{cases_Bool, eqb-true, eqb-false, eq-eqb}
use Rattle.graph_parts.proofs.Rounds.{count_by-cons}
use Rattle.list_lemmas.specs.Times.{times_in}
use Rattle.planar_check.specs.Places.{first_passing}

abbrev once : Bool → ℕ
once b = cond b 1 0

module _ (x : ℕ) where
  abbrev is_x : ℕ → Bool
  is_x y = x == y

  nowhere : (ls : List ℕ) → times_in ls x ≡ 0 → (q : ℕ) → q < length ls → slice_index ls q ≢ x
  nowhere [] t q l e = absurd (omega (arith, l))
  nowhere (y ∷ ls) t zero l e =
      let one : once (is_x y) ≡ 1 = ap once (eq-eqb x y (sym e)) in
      absurd (omega (arith, count_by-cons is_x y ls, one, t))
  nowhere (y ∷ ls) t (suc q) l e = nowhere ls (omega (arith, count_by-cons is_x y ls, t)) q (omega (arith, l)) e

  -- the one place
  record IsOne (ls : List ℕ) : Type 0 where
    place : ℕ
    within : place < length ls
    is : slice_index ls place ≡ x
    only : (r : ℕ) → r < length ls → slice_index ls r ≡ x → r ≡ place

  one_place : (ls : List ℕ) → times_in ls x ≡ 1 → IsOne ls
  one_place [] t = absurd (omega (arith, t))
  one_place (y ∷ ls) t = elim (cases_Bool (is_x y)) [
    | inl h ↦ (let one : once (is_x y) ≡ 1 = ap once h in
        let none = nowhere ls (omega (arith, count_by-cons is_x y ls, t, one)) in
        record { place = 0; within = omega arith; is = sym (eqb-true x y h); only = only_first y ls none })
    | inr h ↦ (let no : once (is_x y) ≡ 0 = ap once h in
        let o = one_place ls (omega (arith, count_by-cons is_x y ls, t, no)) in
        record { place = suc o.place; within = let w = o.within in omega (arith, w); is = o.is; only = only_later y ls (λ e. eqb-false x y h (sym e)) o })
  ]
    where
      only_first : (y : ℕ) (ls : List ℕ) → ((q : ℕ) → q < length ls → slice_index ls q ≢ x) → (r : ℕ) → r < length (y ∷ ls) → slice_index (y ∷ ls) r ≡ x → r ≡ 0
      only_first y ls none zero l e = refl
      only_first y ls none (suc r) l e = absurd (none r (omega (arith, l)) e)

      only_later : (y : ℕ) (ls : List ℕ) → y ≢ x → (o : IsOne ls) → (r : ℕ) → r < length (y ∷ ls) → slice_index (y ∷ ls) r ≡ x → r ≡ suc o.place
      only_later y ls d o zero l e = absurd (d e)
      only_later y ls d o (suc r) l e = ap (λ (m : ℕ). suc m) (o.only r (omega (arith, l)) e)

  -- the two places
  pub record AreTwo (ls : List ℕ) : Type 0 where
    pub first : ℕ
    pub second : ℕ
    pub first_within : first < length ls
    pub second_within : second < length ls
    pub apart : first ≢ second
    pub first_is : slice_index ls first ≡ x
    pub second_is : slice_index ls second ≡ x
    pub only : (r : ℕ) → r < length ls → slice_index ls r ≡ x → (r ≡ first) ⊎ (r ≡ second)

  first_and_one : (y : ℕ) (ls : List ℕ) → y ≡ x → (o : IsOne ls) → (r : ℕ) → r < length (y ∷ ls) → slice_index (y ∷ ls) r ≡ x → (r ≡ 0) ⊎ (r ≡ suc o.place)
  first_and_one y ls h o zero l e = inl refl
  first_and_one y ls h o (suc r) l e = inr (ap (λ (m : ℕ). suc m) (o.only r (omega (arith, l)) e))

  both_later : (y : ℕ) (ls : List ℕ) → y ≢ x → (t : AreTwo ls) → (r : ℕ) → r < length (y ∷ ls) → slice_index (y ∷ ls) r ≡ x → (r ≡ suc t.first) ⊎ (r ≡ suc t.second)
  both_later y ls d t zero l e = absurd (d e)
  both_later y ls d t (suc r) l e =
      ⊎_elim (λ s. inl (ap (λ (m : ℕ). suc m) s)) (λ s. inr (ap (λ (m : ℕ). suc m) s)) (t.only r (omega (arith, l)) e)

  pub two_places : (ls : List ℕ) → times_in ls x ≡ 2 → AreTwo ls
  two_places [] t = absurd (omega (arith, t))
  two_places (y ∷ ls) t = elim (cases_Bool (is_x y)) [
    | inl h ↦ (let one : once (is_x y) ≡ 1 = ap once h in
        let o = one_place ls (omega (arith, count_by-cons is_x y ls, t, one)) in
        record {
          first = 0;
          second = suc o.place;
          first_within = omega arith;
          second_within = let w = o.within in omega (arith, w);
          apart = λ e. absurd (omega (arith, e));
          first_is = sym (eqb-true x y h);
          second_is = o.is;
          only = first_and_one y ls (sym (eqb-true x y h)) o;
        })
    | inr h ↦ (let no : once (is_x y) ≡ 0 = ap once h in
        let w = two_places ls (omega (arith, count_by-cons is_x y ls, t, no)) in
        record {
          first = suc w.first;
          second = suc w.second;
          first_within = let a = w.first_within in omega (arith, a);
          second_within = let a = w.second_within in omega (arith, a);
          apart = λ e. w.apart (omega (arith, e));
          first_is = w.first_is;
          second_is = w.second_is;
          only = both_later y ls (λ e. eqb-false x y h (sym e)) w;
        })
  ]

-- the one number that passes is found
pub found_one : (test : ℕ → Bool) (a n f d : ℕ) → a ≤ f → f < a + n → test f ≡ true → ((q : ℕ) → q < a + n → test q ≡ true → q ≡ f) → first_passing test (range_with_len a n) d ≡ f
found_one test a zero f d h l t only = absurd (omega (arith, h, l))
found_one test a (suc n) f d h l t only =
    elim (cases_Bool (test a)) [
      | inl e ↦ ap (λ (b : Bool). cond b a (first_passing test (range_with_len (a + 1) n) d)) e ∙ only a (omega arith) e
      | inr e ↦ (
          let apart : a ≢ f = λ s. let clash : true ≡ false = sym t ∙ (ap test (sym s) ∙ e) in absurd cc in
          ap (λ (b : Bool). cond b a (first_passing test (range_with_len (a + 1) n) d)) e
          ∙ found_one test (a + 1) n f d (omega (arith, h, apart)) (omega (arith, l)) t (λ q k. only q (omega (arith, k))))
    ]
