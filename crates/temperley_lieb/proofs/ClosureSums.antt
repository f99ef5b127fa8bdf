-- The loop that sums a closure: with one more term the sum grows by the term's weight times delta to the loops of its closure,
-- and residues may be taken at each step.
use Rattle.std.proofs.Common.{◌≡◌, ℕ, ◌+◌, ◌*◌, ◌%◌, ◌^◌, ◌<◌, List, take, length, get_or, sum_by, pos, ◌+ℤ◌, ◌*ℤ◌, sym, ap, ap₂, ◌∙◌}
use Rattle.std.proofs.Math.Nat.{add-mod}
use Rattle.std.proofs.lemmas.List.Sums.{sum_by_more}
use Rattle.std.proofs.lemmas.Nat.{mul-mod_second}
use Rattle.ring_identities.specs.Residues.{residue}
use Rattle.ring_identities.specs.Powers.{power}
use Rattle.ring_identities.proofs.PowerLemmas.{power-pos}
use Rattle.state_sums.specs.Networks.{Term}
use Rattle.strand_algebra.specs.StrandPairings.{closure_loops}

-- ONE MORE TERM OF THE SUM
pub closure_step : (m d n : ℕ) (xs : List Term) (i : ℕ) (t : Term) (s w l p q r : ℕ) → i < length xs → t ≡ get_or xs i t → w ≡ t.weight → l ≡ closure_loops n t.partner →
    s ≡ sum_by (λ term. term.weight * d ^ closure_loops n term.partner) (take i xs) % m → p ≡ residue m (power (pos d) l) → q ≡ residue m (pos w *ℤ pos p) → r ≡ residue m (pos s +ℤ pos q) →
    r ≡ sum_by (λ term. term.weight * d ^ closure_loops n term.partner) (take (i + 1) xs) % m
unfolding residue
closure_step m d n xs i t s w l p q r b read weight loops so_far power_is product sum =
    let f : Term → ℕ = λ term. term.weight * d ^ closure_loops n term.partner in
    let before : ℕ = sum_by f (take i xs) in
    let x : p ≡ d ^ closure_loops n t.partner % m = power_is ∙ ap (residue m) (power-pos d l) ∙ ap (λ k. d ^ k % m) loops in
    let y : q ≡ f t % m = product ∙ ap₂ (λ a k. (a * k) % m) weight x ∙ mul-mod_second t.weight (d ^ closure_loops n t.partner) m in
    sum ∙ ap₂ (λ a k. (a + k) % m) so_far y ∙ sym (add-mod before (f t) m)
    ∙ ap (λ k. (before + k) % m) (ap f read) ∙ ap (λ k. k % m) (sym (sum_by_more f xs i t b))
