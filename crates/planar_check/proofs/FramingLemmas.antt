-- Where no framing is found large, none is.
use Rattle.std.proofs.Common.{◌≡◌, ℕ, ◌+◌, ◌≤◌, Bool, false, cond, not, ltb, ℤ, List, [], ◌∷◌, length, Option, Some, None, inl, inr, ap, ◌∙◌, arith, All}
use Rattle.std.specs.List.{position, position_or_len}
use Rattle.std.proofs.lemmas.Bool.{cases_Bool, ltb-false}
use Rattle.std.proofs.lemmas.List.Elements.{All-nil, All-cons, All-same}
use Rattle.planar_check.specs.Framings.{is_large}

module _ {X : Type 0} (p : X → Bool) where
  all_pass_not : (xs : List X) → length xs ≤ position_or_len p xs → All (λ x. p x ≡ false) xs
  all_pass_not [] h = All-nil (λ x. p x ≡ false)
  all_pass_not (x ∷ xs) h =
      elim (cases_Bool (p x)) [
        | inl t ↦ absurd (let here : position_or_len p (x ∷ xs) ≡ 0 = ap (λ (b : Bool). cond (not b) (1 + position_or_len p xs) 0) t in omega (arith, here, h))
        | inr t ↦ (let there : position_or_len p (x ∷ xs) ≡ 1 + position_or_len p xs = ap (λ (b : Bool). cond (not b) (1 + position_or_len p xs) 0) t in
            All-cons (λ x. p x ≡ false) x xs t (all_pass_not xs (omega (arith, there, h))))
      ]

  no_position : (found : Option ℕ) (xs : List X) → found ≡ position p xs → ((x : ℕ) → found ≡ Some x → ⊥) → length xs ≤ position_or_len p xs
  no_position found xs is none =
      let n = position_or_len p xs in
      elim (cases_Bool (ltb n (length xs))) [
        | inl t ↦ absurd (none n (is ∙ ap (λ (b : Bool). cond b (Some n) None) t))
        | inr t ↦ ltb-false n (length xs) t
      ]

-- the search for a large framing found none
pub none_large : (found : Option ℕ) (read framings : List ℤ) → found ≡ position is_large read → ((x : ℕ) → found ≡ Some x → ⊥) → framings ≡ read → All (λ framing. is_large framing ≡ false) framings
none_large found read framings is none same =
    let P : ℤ → Type 0 = λ framing. is_large framing ≡ false in
    All-same P framings read same (all_pass_not is_large read (no_position is_large found read is none))
