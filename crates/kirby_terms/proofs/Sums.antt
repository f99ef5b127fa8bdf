-- A sum over a list grows by its next element.
use Rattle.std.proofs.Common.{◌≡◌, ℕ, ◌+◌, ◌<◌, ℤ, pos, ◌+ℤ◌, List, [], ◌∷◌, ◌++◌, length, take, get_or, take-suc, sym, ap, ◌∙◌, add-one}
use Rattle.ring_identities.specs.Residues.{residue, Congruent}
use Rattle.ring_identities.proofs.Congruences.{congruent_eq, congruent_sym, congruent_trans, congruent_plus, residue_congruent, same_residue, residue_small}
use Rattle.ring_identities.proofs.Integers.{zero_plus, plus_zero, plus_assoc}
use Rattle.coloured_values.specs.Surgery.{sum_over}

pub sum-last : {X : Type 0} (f : X → ℤ) (xs : List X) (x : X) → sum_over f (xs ++ x ∷ []) ≡ sum_over f xs +ℤ f x
sum-last f [] x = plus_zero (f x) ∙ sym (zero_plus (f x))
sum-last f (y ∷ xs) x = ap (λ s. f y +ℤ s) (sum-last f xs x) ∙ sym (plus_assoc (f y) (sum_over f xs) (f x))

-- no element yet
pub no_sum : {X : Type 0} (m : ℕ) (f : X → ℤ) → 0 < m → 0 ≡ residue m (sum_over f [])
no_sum m f some = sym (residue_small m 0 some)

-- ONE ELEMENT MORE, AS RESIDUES
pub sum_more : {X : Type 0} (m : ℕ) (f : X → ℤ) (xs : List X) (k : ℕ) (d : X) (sum term next : ℕ) → 0 < m → k < length xs → sum ≡ residue m (sum_over f (take k xs)) →
    term ≡ residue m (f (get_or xs k d)) → next ≡ residue m (pos sum +ℤ pos term) → next ≡ residue m (sum_over f (take (k + 1) xs))
sum_more m f xs k d sum term next some h sum_is term_is next_is =
    let x = get_or xs k d in
    let before = sum_over f (take k xs) in
    let longer : sum_over f (take (k + 1) xs) ≡ before +ℤ f x = ap (λ j. sum_over f (take j xs)) (add-one k) ∙ ap (sum_over f) (take-suc xs k d h) ∙ sum-last f (take k xs) x in
    let old : Congruent m (pos sum) before = congruent_trans (congruent_eq (ap pos sum_is)) (congruent_sym (residue_congruent m before some)) in
    let new : Congruent m (pos term) (f x) = congruent_trans (congruent_eq (ap pos term_is)) (congruent_sym (residue_congruent m (f x) some)) in
    next_is ∙ same_residue some (congruent_plus old new) ∙ ap (residue m) (sym longer)
