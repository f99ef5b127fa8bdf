-- A face, one place after the other, and the faces that start at one place more.
use Rattle.std.proofs.Common.{◌≡◌, ◌≢◌, ℕ, suc, ◌+◌, ◌-◌, ◌<◌, ◌==◌, Bool, true, false, cond, List, [], ◌∷◌, ◌++◌, map, get_or, slice_index, sym, ap, ◌∙◌, arith, eq-eqb, ne_eqb, append-nil}
use Rattle.std.specs.List.{filter, range_with_len}
use Rattle.std.proofs.lemmas.List.{map-append}
use Rattle.std.proofs.lemmas.List.Elements.{filter-append}
use Rattle.std.proofs.lemmas.List.FromFn.{get_or-map-range_with_len}
use Rattle.planar_check.specs.Faces.{cycle_from}
use Rattle.list_lemmas.proofs.Ranges.{range_push}

module _ (next : ℕ → ℕ) (start p s n : ℕ) where
  cycle_step : s < n → cycle_from next start p (n - s) ≡ p ∷ cond (next p == start) [] (cycle_from next start (next p) (n - (s + 1)))
  cycle_step l =
      let more : n - s ≡ suc (n - (s + 1)) = omega arith in
      ap (cycle_from next start p) more

  pub cycle_goes_on : s < n → next p ≢ start → cycle_from next start p (n - s) ≡ p ∷ cycle_from next start (next p) (n - (s + 1))
  cycle_goes_on l e = cycle_step l ∙ ap (λ (b : Bool). p ∷ cond b [] (cycle_from next start (next p) (n - (s + 1)))) (ne_eqb (next p) start e)

  pub cycle_ends : s < n → next p ≡ start → cycle_from next start p (n - s) ≡ p ∷ []
  cycle_ends l e = cycle_step l ∙ ap (λ (b : Bool). p ∷ cond b [] (cycle_from next start (next p) (n - (s + 1)))) (eq-eqb (next p) start e)

pub entry_at : (g : ℕ → ℕ) (n x : ℕ) (entries : List ℕ) → entries ≡ map g (range_with_len 0 n) → x < n → slice_index entries x ≡ g x
entry_at g n x entries is l = ap (λ (xs : List ℕ). get_or xs x 0) is ∙ get_or-map-range_with_len g 0 n x x 0 l (let e : 0 + x ≡ x = omega arith in e)

module _ {Y : Type 0} (p : ℕ → Bool) (f : ℕ → Y) (n : ℕ) (before after : List Y) (is : before ≡ map f (filter p (range_with_len 0 n))) where
  listed : (b : Bool) → p n ≡ b → map f (filter p (range_with_len 0 (n + 1))) ≡ map f (filter p (range_with_len 0 n)) ++ map f (cond b (n ∷ []) [])
  listed b t =
      ap (λ (ns : List ℕ). map f (filter p ns)) (range_push n)
      ∙ (ap (map f) (filter-append p (range_with_len 0 n) (n ∷ []) ∙ ap (λ (c : Bool). filter p (range_with_len 0 n) ++ cond c (n ∷ []) []) t)
      ∙ map-append f (filter p (range_with_len 0 n)) (cond b (n ∷ []) []))

  pub listed_yes : p n ≡ true → after ≡ before ++ f n ∷ [] → after ≡ map f (filter p (range_with_len 0 (n + 1)))
  listed_yes t e = e ∙ (ap (λ (ys : List Y). ys ++ f n ∷ []) is ∙ sym (listed true t))

  pub listed_no : p n ≡ false → after ≡ before → after ≡ map f (filter p (range_with_len 0 (n + 1)))
  listed_no t e = e ∙ (is ∙ sym (listed false t ∙ append-nil (map f (filter p (range_with_len 0 n)))))
