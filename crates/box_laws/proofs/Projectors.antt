-- A projector as a box: a hook on two of its tops gives zero, since its product with a hook does.
use Rattle.std.proofs.Common.{◌≡◌, ℕ, ◌+◌, ◌-◌, ◌*◌, ◌%◌, ◌<◌, ◌≤◌, Bool, true, false, cond, not, ◌==◌, ◌&&◌, nat_lt, List, [], ◌∷◌, ℤ, pos, ◌+ℤ◌, ◌*ℤ◌, refl, sym, ap, ap₂, ◌∙◌, arith, All}
use Rattle.std.proofs.lemmas.Bool.Decides.{nat_tests}
use Rattle.std.proofs.lemmas.List.Elements.{All-cons, All-nil}
use Rattle.ring_identities.proofs.Identities.{reads, by_ring}
use Rattle.ring_identities.specs.Powers.{power}
use Rattle.ring_identities.specs.Residues.{residue, Congruent}
use Rattle.ring_identities.proofs.Congruences.{congruent_eq, congruent_sym, congruent_trans, same_residue}
use Rattle.state_sums.specs.Networks.{Term}
use Rattle.strand_algebra.specs.Elements.{hook, multiply}
use Rattle.strand_algebra.specs.Laws.{nothing}
use Rattle.strand_algebra.specs.Projectors.{IsProjector}
use Rattle.strand_algebra.proofs.Collecting.{signed, collected_alike, noncrossing_element}
use Rattle.strand_algebra.proofs.FormalSums.{total, formal_hook}
use Rattle.strand_algebra.proofs.LabelProducts.{IsPairingOf, label_product, label_loops, hooked_behind}
use Rattle.strand_algebra.proofs.Operations.{pairings_of, hook_alike, multiply_alike, IsElement-hook}
use Rattle.strand_algebra.proofs.ProjectorLaws.{projector_element, hook_on_projector}
use Rattle.strand_algebra.proofs.Totals.{AreTerms, within, total-multiply}
use Rattle.strand_words.specs.Boxes.{AreStanding, box_sum}
use Rattle.strand_words.specs.Matings.{IsMating, hooked, loop_worth}
use Rattle.strand_words.specs.Words.{top}
use Rattle.word_networks.specs.Strands.{strand_of}
use Rattle.word_networks.proofs.Strands.{standing_top, strand_top}
use Rattle.box_laws.specs.Laws.{ProjectorBoxLaw}
use Rattle.box_laws.specs.StrandBoxes.{mate_of, strand_box}
use Rattle.box_laws.proofs.HookProducts.{x, y, hook_product, hook_loops, mate_in}
use Rattle.box_laws.proofs.StrandBoxes.{mate_of-IsMating, mate_stands, mate_of-hooked, tops_told}

power_loop : (delta : ℕ) (b : Bool) → power (pos delta) (cond b 1 0) ≡ pos (cond b delta 1)
unfolding power
power_loop delta true = ap pos (let e : delta * 1 ≡ delta = omega arith in e)
power_loop delta false = refl

module _ (delta n c i : ℕ) (b : i + 1 < n) (worth : (ℕ → ℕ) → ℕ) where
  abbrev pub hooked_worth : (ℕ → ℕ) → ℕ
  hooked_worth mate = loop_worth delta (top (c + i)) (top (c + i + 1)) mate * worth (hooked (top (c + i)) (top (c + i + 1)) mate)

  abbrev pub pairing_worth : List ℕ → ℤ
  pairing_worth p = pos (worth (mate_of c n p))

  one_pairing : (q : List ℕ) → IsPairingOf (n + n) q → within n (pos delta) pairing_worth (hooked_behind n i) q ≡ pos (hooked_worth (mate_of c n q))
  one_pairing q hq =
      let loops : power (pos delta) (label_loops n (hooked_behind n i) q) ≡ pos (loop_worth delta (top (c + i)) (top (c + i + 1)) (mate_of c n q)) =
      ap (power (pos delta)) (hook_loops n i q hq b) ∙ power_loop delta (mate_in n q (x n i q hq b) == y n i q hq b) ∙ ap (λ t. pos (cond t delta 1)) (sym (tops_told c n i q hq b)) in
      let product : pairing_worth (label_product n (hooked_behind n i) q) ≡ pos (worth (hooked (top (c + i)) (top (c + i + 1)) (mate_of c n q))) =
      ap pairing_worth (hook_product n i q hq b) ∙ ap (λ mate. pos (worth mate)) (mate_of-hooked c n i q hq b) in
      ap₂ (λ u v. u *ℤ v) loops product

  pub all_pairings : (f : List Term) → AreTerms (n + n) (signed f) → total (signed f) (within n (pos delta) pairing_worth (hooked_behind n i)) ≡ pos (box_sum (strand_box c n f) hooked_worth)
  all_pairings [] a = refl
  all_pairings (term ∷ f) a = ap₂ (λ u v. pos term.weight *ℤ u +ℤ v) (one_pairing term.partner a.0) (all_pairings f a.1)

-- ---- the hook above the projector
hook_kills : (m delta n i : ℕ) (f : List Term) → 0 < m → n ≤ 8 → i + 1 < n → IsProjector m delta n f → (w : List ℕ → ℤ) → Congruent m (total (signed f) (within n (pos delta) w (hooked_behind n i))) (pos 0)
hook_kills m delta n i f some few b is w =
    let element = projector_element m delta n f some is in
    let ok = noncrossing_element m n f element in
    let k = hook m n (i + 1) in
    let k_ok = noncrossing_element m n k (IsElement-hook m n (i + 1) some) in
    let killed : multiply m delta n k f ≡ nothing m n = hook_on_projector m delta n (i + 1) f some few (omega arith) b is in
    let back : i + 1 - 1 ≡ i = omega arith in
    let alone : total (formal_hook n i) (λ p. total (signed f) (within n (pos delta) w p)) ≡ total (signed f) (within n (pos delta) w (hooked_behind n i)) = one_term (total (signed f) (within n (pos delta) w (hooked_behind n i))) in
    congruent_trans (congruent_eq (sym alone))
    (congruent_trans (congruent_sym (hooks k back w))
    (congruent_trans (congruent_eq (sym (total-multiply n (pos delta) (signed k) (signed f) w)))
    (congruent_trans (congruent_sym (multiply_alike m delta n k f some k_ok ok w))
    (congruent_trans (congruent_eq (ap (λ x. total (signed x) w) killed)) (collected_alike m n [] some tt w)))))
  where
    one_term : (z : ℤ) → pos 1 *ℤ z +ℤ pos 0 ≡ z
    one_term z = by_ring (z ∷ []) (search reads depth 30) (search reads depth 30) refl

    hooks : (k : List Term) → i + 1 - 1 ≡ i → (w : List ℕ → ℤ) → Congruent m (total (signed (hook m n (i + 1))) (λ p. total (signed f) (within n (pos delta) w p))) (total (formal_hook n i) (λ p. total (signed f) (within n (pos delta) w p)))
    hooks k back w =
        congruent_trans (hook_alike m n (i + 1) some (omega arith) b (λ p. total (signed f) (within n (pos delta) w p)))
        (congruent_eq (ap (λ j. total (formal_hook n j) (λ p. total (signed f) (within n (pos delta) w p))) back))

-- ---- the box
matings : (c n : ℕ) (f : List Term) → AreTerms (n + n) (signed f) → All (λ term. IsMating term.mate × AreStanding 0 c term.mate) (strand_box c n f)
matings c n [] a = All-nil (λ term. IsMating term.mate × AreStanding 0 c term.mate)
matings c n (term ∷ f) a =
    All-cons (λ term. IsMating term.mate × AreStanding 0 c term.mate) (record { weight = term.weight; mate = mate_of c n term.partner }) (strand_box c n f)
    (mate_of-IsMating c n term.partner a.0, stands term.partner) (matings c n f a.1)
  where
    left : (s p : ℕ) → s ≡ p → p < 0 + c → (not (nat_lt s c) && nat_lt s (c + n)) ≡ false
    left s p e h = grind (arith, nat_tests, e, h)

    stands : (q : List ℕ) → AreStanding 0 c (mate_of c n q)
    stands q p lo hi = mate_stands c n q (top p) (left (strand_of (top p)) p (strand_top p) hi) ∙ standing_top p

-- A PROJECTOR IS A BOX
pub projector_box : ProjectorBoxLaw
unfolding residue
projector_box m delta n c f some few is =
    let element = projector_element m delta n f some is in
    let terms = pairings_of n f (noncrossing_element m n f element) in
    record {
      are_matings = matings c n f terms;
      kills = λ k lo hi worth.
          let i = k - c in
          let place : c + i ≡ k = omega (arith, lo) in
          let b : i + 1 < n = omega (arith, lo, hi) in
          let zero_sum : Congruent m (pos (box_sum (strand_box c n f) (hooked_worth delta n c i b worth))) (pos 0) =
          congruent_trans (congruent_eq (sym (all_pairings delta n c i b worth f terms))) (hook_kills m delta n i f some few b is (pairing_worth delta n c i b worth)) in
          ap (λ j. box_sum (strand_box c n f) (λ mate. loop_worth delta (top j) (top (j + 1)) mate * worth (hooked (top j) (top (j + 1)) mate)) % m) (sym place) ∙ same_residue some zero_sum;
    }
