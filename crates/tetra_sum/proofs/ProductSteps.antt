-- A product over a list, one member more.
use Rattle.std.proofs.Common.{◌≡◌, ℕ, ◌+◌, ◌<◌, ℤ, pos, ◌*ℤ◌, List, [], ◌∷◌, ◌++◌, length, take, get_or, take-suc, sym, ap, ◌∙◌, add-one}
use Rattle.ring_identities.specs.Residues.{residue, Congruent}
use Rattle.ring_identities.proofs.Congruences.{congruent_eq, congruent_sym, congruent_trans, congruent_times, residue_congruent, same_residue, residue_small}
use Rattle.ring_identities.proofs.Integers.{one_times, times_one, times_assoc}
use Rattle.tetra_sum.specs.Sums.{product_over}

product-last : {X : Type 0} (f : X → ℤ) (xs : List X) (x : X) → product_over f (xs ++ x ∷ []) ≡ product_over f xs *ℤ f x
product-last f [] x = times_one (f x) ∙ sym (one_times (f x))
product-last f (y ∷ xs) x = ap (λ s. f y *ℤ s) (product-last f xs x) ∙ sym (times_assoc (f y) (product_over f xs) (f x))

-- no member yet
pub no_product : {X : Type 0} (m : ℕ) (f : X → ℤ) → 1 < m → 1 ≡ residue m (product_over f [])
no_product m f some = sym (residue_small m 1 some)

-- ONE MEMBER MORE, AS RESIDUES
pub product_more : {X : Type 0} (m : ℕ) (f : X → ℤ) (xs : List X) (k : ℕ) (d : X) (product factor next : ℕ) → 0 < m → k < length xs → product ≡ residue m (product_over f (take k xs)) →
    pos factor ≡ f (get_or xs k d) → next ≡ residue m (pos product *ℤ pos factor) → next ≡ residue m (product_over f (take (k + 1) xs))
product_more m f xs k d product factor next some h product_is factor_is next_is =
    let before = product_over f (take k xs) in
    let x = get_or xs k d in
    let longer : product_over f (take (k + 1) xs) ≡ before *ℤ f x = ap (λ j. product_over f (take j xs)) (add-one k) ∙ ap (product_over f) (take-suc xs k d h) ∙ product-last f (take k xs) x in
    let old : Congruent m (pos product) before = congruent_trans (congruent_eq (ap pos product_is)) (congruent_sym (residue_congruent m before some)) in
    next_is ∙ same_residue some (congruent_times old (congruent_eq factor_is)) ∙ ap (residue m) (sym longer)

-- three factors, as residues
pub three_factors : (m : ℕ) (a b c : ℤ) (x y z xy xyz : ℕ) → 0 < m → x ≡ residue m a → y ≡ residue m b → z ≡ residue m c → xy ≡ residue m (pos x *ℤ pos y) →
    xyz ≡ residue m (pos xy *ℤ pos z) → xyz ≡ residue m (a *ℤ b *ℤ c)
three_factors m a b c x y z xy xyz some xa yb zc first second =
    let of : (n : ℕ) (u : ℤ) → n ≡ residue m u → Congruent m (pos n) u = λ n u e. congruent_trans (congruent_eq (ap pos e)) (congruent_sym (residue_congruent m u some)) in
    let both : Congruent m (pos xy) (a *ℤ b) = congruent_trans (of xy (pos x *ℤ pos y) first) (congruent_times (of x a xa) (of y b yb)) in
    second ∙ same_residue some (congruent_times both (of z c zc))
