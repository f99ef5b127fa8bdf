-- Steps of square and multiply, and of a walk through the powers of x.
--
-- Square and multiply keeps `product * square^left` modulo m: an odd `left` moves one factor to the
-- product, and two factors of `square` are one of its square.
use Rattle.std.proofs.Common.{◌≡◌, ◌≢◌, ◌+◌, ◌-◌, ◌/◌, ◌%◌, ◌<◌, ◌≤◌, ℕ, suc, pos, ◌*ℤ◌, [], ◌∷◌, refl, sym, ap, ◌∙◌, arith}
use borrow.Author.Count.{below_more}
use Rattle.ring_identities.specs.Residues.{residue, Congruent}
use Rattle.ring_identities.specs.Powers.{power, IsUnity}
use Rattle.ring_identities.proofs.Congruences.{congruent_refl, congruent_eq, congruent_trans, congruent_times, from_residue, same_residue, residue_small}
use Rattle.ring_identities.proofs.Identities.{reads, by_ring}
use Rattle.ring_identities.proofs.PowerLemmas.{power-add, power-times, congruent_power}

-- what is left to multiply
abbrev pub remaining : ℕ → ℕ → ℕ → ℕ → ℕ
remaining m product square left = residue m (pos product *ℤ power (pos square) left)

pub remaining_first : (m one base e : ℕ) → one ≡ 1 → remaining m one base e ≡ residue m (power (pos base) e)
remaining_first m one base e h =
    let same : pos one *ℤ power (pos base) e ≡ power (pos base) e = ap (λ k. pos k *ℤ power (pos base) e) h ∙ by_ring (power (pos base) e ∷ []) (search reads depth 30) (search reads depth 30) refl in
    ap (λ k. residue m k) same

pub remaining_last : (m product square left : ℕ) → product < m → left ≡ 0 → remaining m product square left ≡ product
unfolding power
remaining_last m product square left b h =
    let same : pos product *ℤ power (pos square) left ≡ pos product = ap (λ k. pos product *ℤ power (pos square) k) h ∙ by_ring (pos product ∷ []) (search reads depth 30) (search reads depth 30) refl in
    ap (λ k. residue m k) same ∙ residue_small m product b

-- the powers of a square
squared : (m square next half : ℕ) → 0 < m → next ≡ residue m (pos square *ℤ pos square) → Congruent m (power (pos next) half) (power (pos square) (half + half))
squared m square next half h e =
    congruent_trans (congruent_power (from_residue m next (pos square *ℤ pos square) h e) half) (congruent_eq (power-times (pos square) (pos square) half ∙ sym (power-add (pos square) half half)))

pub remaining_even : (m product square left next : ℕ) → 0 < m → left % 2 ≢ 1 → next ≡ residue m (pos square *ℤ pos square) → remaining m product next (left / 2) ≡ remaining m product square left
remaining_even m product square left next h even e =
    let whole : left / 2 + left / 2 ≡ left = omega arith in
    same_residue h (congruent_times (congruent_refl m (pos product)) (congruent_trans (squared m square next (left / 2) h e) (congruent_eq (ap (λ k. power (pos square) k) whole))))

pub remaining_odd : (m product square left more next : ℕ) → 0 < m → left % 2 ≡ 1 → more ≡ residue m (pos product *ℤ pos square) → next ≡ residue m (pos square *ℤ pos square) → remaining m more next (left / 2) ≡ remaining m product square left
unfolding power
remaining_odd m product square left more next h odd d e =
    let whole : suc (left / 2 + left / 2) ≡ left = omega arith in
    let half = power (pos square) (left / 2 + left / 2) in
    let moved : pos product *ℤ pos square *ℤ half ≡ pos product *ℤ power (pos square) left = by_ring (pos product ∷ pos square ∷ half ∷ []) (search reads depth 30) (search reads depth 30) refl ∙ ap (λ k. pos product *ℤ power (pos square) k) whole in
    same_residue h (congruent_trans (congruent_times (from_residue m more (pos product *ℤ pos square) h d) (squared m square next (left / 2) h e)) (congruent_eq moved))

-- the next power of x
pub power_next : (m x value next t : ℕ) → 0 < m → 1 ≤ t → value ≡ residue m (power (pos x) (t - 1)) → next ≡ residue m (pos value *ℤ pos x) → next ≡ residue m (power (pos x) t)
unfolding power
power_next m x value next t h positive before e =
    let whole : suc (t - 1) ≡ t = omega arith in
    let last = power (pos x) (t - 1) in
    let moved : last *ℤ pos x ≡ power (pos x) t = by_ring (last ∷ pos x ∷ []) (search reads depth 30) (search reads depth 30) refl ∙ ap (λ k. power (pos x) k) whole in
    e ∙ same_residue h (congruent_trans (congruent_times (from_residue m value last h before) (congruent_refl m (pos x))) (congruent_eq moved))

pub power_first : (m x one : ℕ) → one ≡ 1 → one < m → one ≡ residue m (power (pos x) 0)
unfolding power
power_first m x one e h = e ∙ sym (ap (λ k. residue m (pos k)) (sym e) ∙ residue_small m one h ∙ e)

-- a power that is not 1 is one more that is not
pub none_next : (m x value t : ℕ) → value ≡ residue m (power (pos x) t) → value ≢ 1 → ((s : ℕ) → 1 ≤ s → s < t → ¬ IsUnity m x s) → (s : ℕ) → 1 ≤ s → s < t + 1 → ¬ IsUnity m x s
none_next m x value t is not_one before s positive within =
    below_more (λ s. 1 ≤ s → ¬ IsUnity m x s) t (λ k below first. before k first below) (λ first unity. not_one (is ∙ unity)) s within positive
