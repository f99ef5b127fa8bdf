-- Words in the Temperley-Lieb algebra: the product of the letters' elements is the word's sum over matings.
use Rattle.std.proofs.Common.{◌≡◌, ℕ, ◌+◌, ◌-◌, ◌*◌, ◌%◌, ◌<◌, true, false, cond, ◌==◌, nat_lt, List, [], ◌∷◌, ℤ, pos, ◌+ℤ◌, ◌*ℤ◌, refl, sym, ap, ap₂, ◌∙◌, arith, ⊎_elim, ◌⊎◌, inl, inr}
use Rattle.std.proofs.lemmas.Bool.{cases_Bool}
use Rattle.std.proofs.lemmas.Bool.Decides.{nat_tests}
use Rattle.ring_identities.proofs.Identities.{reads, by_ring}
use Rattle.ring_identities.specs.Powers.{power}
use Rattle.ring_identities.specs.Residues.{residue, Congruent}
use Rattle.ring_identities.proofs.Congruences.{congruent_eq, congruent_trans, congruent_plus, congruent_times, congruent_refl, same_residue}
use Rattle.state_sums.specs.Networks.{Term}
use Rattle.strand_algebra.specs.Elements.{IsElement, identity, hook, scaled, multiply}
use Rattle.strand_algebra.specs.StrandPairings.{straight}
use Rattle.strand_algebra.proofs.Collecting.{signed, noncrossing_element}
use Rattle.strand_algebra.proofs.FormalSums.{total, formal_hook}
use Rattle.strand_algebra.proofs.LabelProducts.{IsPairingOf, hooked_behind}
use Rattle.strand_algebra.proofs.Operations.{pairings_of, identity_alike, hook_alike, add_alike, scaled_alike, multiply_alike, IsElement-hook, IsElement-identity, IsElement-add, IsElement-scaled, IsElement-multiply}
use Rattle.strand_algebra.proofs.StraightStrands.{straight_at, straight_product, straight_loops}
use Rattle.strand_algebra.proofs.Totals.{within, total-multiply, total-append, total-scale, total_same}
use Rattle.strand_words.specs.Boxes.{bottom, box_sum}
use Rattle.strand_words.specs.Matings.{hooked, loop_worth}
use Rattle.strand_words.specs.Words.{Letter, top, word_sum}
use Rattle.strand_words.proofs.Boxes.{box_sum-two}
use Rattle.strand_words.proofs.Hooks.{fun_ext}
use Rattle.word_networks.specs.Strands.{strand_of, standing}
use Rattle.word_networks.proofs.Strands.{standing_top, halves, standing_back}
use Rattle.box_laws.specs.StrandBoxes.{is_boxed, place_of, point_at, mate_of, strand_box}
use Rattle.box_laws.specs.Traces.{letter_element, word_on, AreOn}
use Rattle.box_laws.proofs.Projectors.{hooked_worth, all_pairings}
use Rattle.box_laws.proofs.StrandBoxes.{mate_boxed, mate_stands, place_below, boxed_bounds}

-- a box's sum as a total
box_total : (c n : ℕ) (worth : (ℕ → ℕ) → ℕ) (f : List Term) → total (signed f) (λ p. pos (worth (mate_of c n p))) ≡ pos (box_sum (strand_box c n f) worth)
box_total c n worth [] = refl
box_total c n worth (term ∷ f) = ap (λ v. pos term.weight *ℤ pos (worth (mate_of c n term.partner)) +ℤ v) (box_total c n worth f)

one_term : (z : ℤ) → pos 1 *ℤ z +ℤ pos 0 ≡ z
one_term z = by_ring (z ∷ []) (search reads depth 30) (search reads depth 30) refl

-- a letter's element, formally
letter_total : (m n : ℕ) (letter : Letter) → 0 < m → letter.at + 1 < n → (g : List ℕ → ℤ) →
    Congruent m (total (signed (letter_element m n letter)) g) (pos letter.straight *ℤ g (straight n) +ℤ pos letter.hook *ℤ g (hooked_behind n letter.at))
letter_total m n letter some b g =
    let i = letter.at in
    let one = identity m n in
    let k = hook m n (i + 1) in
    let one_ok = noncrossing_element m n one (IsElement-identity m n some) in
    let k_ok = noncrossing_element m n k (IsElement-hook m n (i + 1) some) in
    let first = scaled m n letter.straight one in
    let second = scaled m n letter.hook k in
    let first_ok = noncrossing_element m n first (IsElement-scaled m n letter.straight one some) in
    let second_ok = noncrossing_element m n second (IsElement-scaled m n letter.hook k some) in
    let back : i + 1 - 1 ≡ i = omega arith in
    let straight_part : Congruent m (total (signed first) g) (pos letter.straight *ℤ g (straight n)) =
    congruent_trans (scaled_alike m n letter.straight one some one_ok g)
    (congruent_trans (congruent_eq (total-scale (pos letter.straight) (signed one) g))
    (congruent_times (congruent_refl m (pos letter.straight)) (congruent_trans (identity_alike m n some g) (congruent_eq (one_term (g (straight n))))))) in
    let hook_part : Congruent m (total (signed second) g) (pos letter.hook *ℤ g (hooked_behind n i)) =
    congruent_trans (scaled_alike m n letter.hook k some k_ok g)
    (congruent_trans (congruent_eq (total-scale (pos letter.hook) (signed k) g))
    (congruent_times (congruent_refl m (pos letter.hook))
    (congruent_trans (hook_alike m n (i + 1) some (omega arith) b g) (congruent_eq (ap (λ j. total (formal_hook n j) g) back ∙ one_term (g (hooked_behind n i))))))) in
    congruent_trans (add_alike m n first second some first_ok second_ok g)
    (congruent_trans (congruent_eq (total-append (signed first) (signed second) g)) (congruent_plus straight_part hook_part))

straight_within : (n : ℕ) (d : ℤ) (w : List ℕ → ℤ) (q : List ℕ) → IsPairingOf (n + n) q → within n d w (straight n) q ≡ w q
unfolding power
straight_within n d w q hq = ap₂ (λ k p. power d k *ℤ w p) (straight_loops n q hq) (straight_product n q hq) ∙ by_ring (w q ∷ []) (search reads depth 30) (search reads depth 30) refl

-- ONE LETTER ON AN ELEMENT
letter_on : (m delta n : ℕ) (letter : Letter) (x : List Term) → 0 < m → letter.at + 1 < n → IsElement m n x → (worth : (ℕ → ℕ) → ℕ) →
    box_sum (strand_box 0 n (multiply m delta n (letter_element m n letter) x)) worth % m ≡ box_sum (strand_box 0 n x) (word_sum delta (letter ∷ []) worth) % m
unfolding residue
letter_on m delta n letter x some b ex worth =
    let i = letter.at in
    let d = pos delta in
    let L = letter_element m n letter in
    let L_ok = noncrossing_element m n L (IsElement-add m n (scaled m n letter.straight (identity m n)) (scaled m n letter.hook (hook m n (i + 1))) some) in
    let x_ok = noncrossing_element m n x ex in
    let terms = pairings_of n x x_ok in
    let w : List ℕ → ℤ = λ p. pos (worth (mate_of 0 n p)) in
    let g : List ℕ → ℤ = λ p. total (signed x) (within n d w p) in
    let s = letter.straight in
    let h = letter.hook in
    let inside : (ℕ → ℕ) → ℕ = hooked_worth delta n 0 i b worth in
    let straight_is : g (straight n) ≡ pos (box_sum (strand_box 0 n x) worth) =
    total_same (n + n) (signed x) (within n d w (straight n)) w terms (straight_within n d w) ∙ box_total 0 n worth x in
    let hook_is : g (hooked_behind n i) ≡ pos (box_sum (strand_box 0 n x) inside) = all_pairings delta n 0 i b worth x terms in
    let zero_add : 0 + i ≡ i = omega arith in
    let sum : s * box_sum (strand_box 0 n x) worth + h * box_sum (strand_box 0 n x) inside ≡ box_sum (strand_box 0 n x) (word_sum delta (letter ∷ []) worth) =
    sym (box_sum-two s h (strand_box 0 n x) worth inside)
    ∙ ap (λ j. box_sum (strand_box 0 n x) (λ mate. s * worth mate + h * (loop_worth delta (top j) (top (j + 1)) mate * worth (hooked (top j) (top (j + 1)) mate)))) zero_add in
    same_residue some
    (congruent_trans (congruent_eq (sym (box_total 0 n worth (multiply m delta n L x))))
    (congruent_trans (multiply_alike m delta n L x some L_ok x_ok w)
    (congruent_trans (congruent_eq (total-multiply n d (signed L) (signed x) w))
    (congruent_trans (letter_total m n letter some b g)
    (congruent_eq (ap₂ (λ u v. pos s *ℤ u +ℤ pos h *ℤ v) straight_is hook_is ∙ ap pos sum))))))

-- A WORD ON AN ELEMENT
pub word_on_sum : (m delta n : ℕ) (word : List Letter) (x : List Term) → 0 < m → AreOn n word → IsElement m n x → (worth : (ℕ → ℕ) → ℕ) →
    box_sum (strand_box 0 n (word_on m delta n x word)) worth % m ≡ box_sum (strand_box 0 n x) (word_sum delta word worth) % m
word_on_sum m delta n [] x some a ex worth = refl
word_on_sum m delta n (letter ∷ word) x some a ex worth =
    word_on_sum m delta n word (multiply m delta n (letter_element m n letter) x) some a.1 (IsElement-multiply m delta n (letter_element m n letter) x some) worth
    ∙ letter_on m delta n letter x some a.0 ex (word_sum delta word worth)

pub word_element : (m delta n : ℕ) (word : List Letter) (x : List Term) → 0 < m → IsElement m n x → IsElement m n (word_on m delta n x word)
word_element m delta n [] x some ex = ex
word_element m delta n (letter ∷ word) x some ex = word_element m delta n word (multiply m delta n (letter_element m n letter) x) some (IsElement-multiply m delta n (letter_element m n letter) x some)

-- ---- straight strands stand
pub mate_of-straight : (n : ℕ) → mate_of 0 n (straight n) ≡ standing
mate_of-straight n =
    fun_ext _ _ (λ u.
    ⊎_elim
    (λ t.
    (let s = boxed_bounds 0 n u t in
    let l = place_below 0 n u t in
    mate_boxed 0 n (straight n) u t ∙ ap (point_at 0 n) (straight_at n (place_of 0 n u) l) ∙ plain n u (strand_of u) s.1 (halves u)
    ∙ ⊎_elim (λ (e : u ≡ top (strand_of u)). from_top u (strand_of u) e) (λ (e : u ≡ bottom (strand_of u)). from_bottom u (strand_of u) e) (halves u)))
    (λ f. mate_stands 0 n (straight n) u f)
    (cases_Bool (is_boxed 0 n u)))
  where
    from_top : (u s : ℕ) → u ≡ top s → cond (u == bottom s) (top s) (bottom s) ≡ standing u
    from_top u s e = (let t : (u == bottom s) ≡ false = grind (arith, nat_tests, e) in ap (λ b. cond b (top s) (bottom s)) t) ∙ sym (standing_top s) ∙ ap standing (sym e)

    from_bottom : (u s : ℕ) → u ≡ bottom s → cond (u == bottom s) (top s) (bottom s) ≡ standing u
    from_bottom u s e = (let t : (u == bottom s) ≡ true = grind (arith, nat_tests, e) in ap (λ b. cond b (top s) (bottom s)) t) ∙ sym (standing_back (top s)) ∙ ap standing (standing_top s ∙ sym e)

    plain : (n u s : ℕ) → s < 0 + n → (u ≡ top s) ⊎ (u ≡ bottom s) → point_at 0 n (n + n - 1 - cond (u == bottom s) (s - 0) (n + n - 1 - (s - 0))) ≡ cond (u == bottom s) (top s) (bottom s)
    plain n u s l (inl e) =
        (let t : (u == bottom s) ≡ false = grind (arith, nat_tests, e) in
        ap (λ b. point_at 0 n (n + n - 1 - cond b (s - 0) (n + n - 1 - (s - 0)))) t
        ∙ ap (point_at 0 n) (let z : n + n - 1 - (n + n - 1 - (s - 0)) ≡ s = omega (arith, l) in z)
        ∙ ap (λ b. cond b (bottom (0 + s)) (top (0 + (n + n - 1 - s)))) (let z : nat_lt s n ≡ true = grind (arith, nat_tests, l) in z)
        ∙ ap bottom (let z : 0 + s ≡ s = omega arith in z)
        ∙ sym (ap (λ b. cond b (top s) (bottom s)) t))
    plain n u s l (inr e) =
        (let t : (u == bottom s) ≡ true = grind (arith, nat_tests, e) in
        ap (λ b. point_at 0 n (n + n - 1 - cond b (s - 0) (n + n - 1 - (s - 0)))) t
        ∙ ap (λ b. cond b (bottom (0 + (n + n - 1 - (s - 0)))) (top (0 + (n + n - 1 - (n + n - 1 - (s - 0)))))) (let z : nat_lt (n + n - 1 - (s - 0)) n ≡ false = grind (arith, nat_tests, l) in z)
        ∙ ap top (let z : 0 + (n + n - 1 - (n + n - 1 - (s - 0))) ≡ s = omega (arith, l) in z)
        ∙ sym (ap (λ b. cond b (top s) (bottom s)) t))

-- THE IDENTITY IS THE STANDING STRANDS
pub identity_sum : (m n : ℕ) → 0 < m → (worth : (ℕ → ℕ) → ℕ) → box_sum (strand_box 0 n (identity m n)) worth % m ≡ worth standing % m
unfolding residue
identity_sum m n some worth =
    same_residue some
    (congruent_trans (congruent_eq (sym (box_total 0 n worth (identity m n))))
    (congruent_trans (identity_alike m n some (λ p. pos (worth (mate_of 0 n p))))
    (congruent_eq (one_term (pos (worth (mate_of 0 n (straight n)))) ∙ ap (λ mate. pos (worth mate)) (mate_of-straight n)))))
