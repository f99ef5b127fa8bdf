-- A blow-up keeps the surgery value: the Kirby sum is multiplied by Omega of the sign, and the count of the sign is raised by
-- one, since the linking matrix has one place more.
use Rattle.std.proofs.Common.{◌≡◌, ◌≢◌, ℕ, zero, suc, ◌+◌, ◌-◌, ◌*◌, ◌<◌, ◌==◌, ◌&&◌, ◌||◌, not, Bool, true, false, if◌then◌else◌, ℤ, pos, negsuc, ◌-ℤ◌, ◌*ℤ◌, List, [], ◌∷◌, ◌++◌, length, get_or, count_by, refl, sym, ap, ap₂, ◌∙◌, arith, All, ◌⊎◌, inl, inr, ⊎_elim, length-append, subst}
use Rattle.std.proofs.lemmas.Bool.{cases_Bool, eqb-true, eq-eqb}
use Rattle.std.proofs.lemmas.Bool.Decides.{nat_tests}
use Rattle.std.proofs.lemmas.List.{get_or-append_right}
use Rattle.std.proofs.lemmas.List.Sums.{sum_by-cons}
use Rattle.ring_identities.specs.Residues.{Congruent}
use Rattle.ring_identities.specs.Powers.{power}
use Rattle.ring_identities.proofs.Congruences.{congruent_refl, congruent_eq, congruent_trans, congruent_times, same_residue, natural_mod}
use Rattle.ring_identities.proofs.Identities.{reads, by_ring}
use Rattle.ring_identities.proofs.Unities.{unity_congruent}
use Rattle.inertia_laws.specs.Certificates.{positives, negatives, bordered}
use Rattle.inertia_laws.specs.Elimination.{eliminated}
use Rattle.inertia_laws.specs.Indices.{positive_index, negative_index}
use Rattle.inertia_laws.specs.Laws.{IsSymmetric}
use Rattle.inertia_laws.specs.Matrices.{is_positive, is_negative}
use Rattle.inertia_laws.proofs.Clearing.{bordered_inertia}
use Rattle.inertia_laws.proofs.Eliminated.{eliminated_certifies}
use Rattle.pd_reader.specs.declared.item.Item.{Item}
use Rattle.pd_reader.specs.Diagrams.{IsDiagram}
use Rattle.planar_check.specs.declared.sign.Signed.{Signed}
use Rattle.planar_check.specs.Components.{least_labels}
use Rattle.planar_check.specs.Framings.{FramedDiagram, framing_of, linking_entry}
use Rattle.planar_check.specs.Tables.{IsWithin}
use Rattle.planar_check.specs.Signs.{is_plus, is_between, signed_crossings, signs_between, halved, linking}
use Rattle.planar_check.proofs.CrossingComponents.{crossings_within}
use Rattle.coloured_values.specs.Surgery.{kirby, omega_sum, matrix_of, component_count, plus_count, minus_count, omega_inverse, surgery}
use Rattle.coloured_values.specs.Laws.{IsAddedLabel, blown_up, BlownUpMatrixLaw, BlowUpKeepsSurgeryLaw}
use Rattle.coloured_values.proofs.AddedComponents.{least_labels-added}
use Rattle.coloured_values.proofs.AddedCrossings.{once, none_linked, signed_crossings-added}
use Rattle.coloured_values.proofs.AddedSums.{added_sum}

-- ---- a component that no crossing has links nothing
module _ (n i j : ℕ) (past : (n < i) ⊎ (n < j)) where
  not_linked : (list : List Signed) → All (IsWithin n) list → halved (signs_between i j list) ≡ pos 0
  not_linked list a =
      ap₂ (λ x y. halved (pos x -ℤ pos y)) (none_linked n i j past (λ c. is_plus c.sign) list a) (none_linked n i j past (λ c. not (is_plus c.sign)) list a)

-- ---- linking numbers go both ways
turned_about : (i j : ℕ) (keep : Signed → Bool) (list : List Signed) → count_by (λ (c : Signed). is_between i j c && keep c) list ≡ count_by (λ (c : Signed). is_between j i c && keep c) list
turned_about i j keep [] = refl
turned_about i j keep (c ∷ list) =
    let ih = turned_about i j keep list in
    let e = sum_by-cons (λ (d : Signed). once (is_between i j d && keep d)) c list in
    let f = sum_by-cons (λ (d : Signed). once (is_between j i d && keep d)) c list in
    let same : once (is_between i j c && keep c) ≡ once (is_between j i c && keep c) = ap (λ b. once (b && keep c)) (either (c.under == i && c.over == j) (c.under == j && c.over == i)) in
    omega (arith, ih, e, f, same)
  where
    either : (a b : Bool) → (a || b) ≡ (b || a)
    either true true = refl
    either true false = refl
    either false true = refl
    either false false = refl

linking_turned : (items : List Item) (i j : ℕ) → linking items i j ≡ linking items j i
linking_turned items i j =
    ap₂ (λ x y. halved (pos x -ℤ pos y)) (turned_about i j (λ c. is_plus c.sign) (signed_crossings items)) (turned_about i j (λ c. not (is_plus c.sign)) (signed_crossings items))

symmetric : (diagram : FramedDiagram) (n : ℕ) → IsSymmetric n (matrix_of diagram)
symmetric diagram n i j hi hj =
    ⊎_elim
    (λ t. let same = eqb-true i j t in ap₂ (λ a b. linking_entry diagram (a + 1) (b + 1)) same (sym same))
    (λ f.
    ap (λ b. if b then framing_of diagram (i + 1) else linking diagram.items (i + 1) (j + 1)) (apart i j f)
    ∙ linking_turned diagram.items (i + 1) (j + 1)
    ∙ sym (ap (λ b. if b then framing_of diagram (j + 1) else linking diagram.items (j + 1) (i + 1)) (apart_back i j f)))
    (cases_Bool (i == j))
  where
    apart : (i j : ℕ) → (i == j) ≡ false → (i + 1 == j + 1) ≡ false
    apart i j f = grind (arith, nat_tests, f)

    apart_back : (i j : ℕ) → (i == j) ≡ false → (j + 1 == i + 1) ≡ false
    apart_back i j f = grind (arith, nat_tests, f)

-- ---- the matrix
module _ (diagram : FramedDiagram) (label : ℕ) (e : ℤ) (is_diagram : IsDiagram diagram.items) (count : length diagram.framings ≡ component_count diagram) (new : IsAddedLabel diagram.items label) where
  abbrev n : ℕ
  n = component_count diagram

  abbrev list : List Signed
  list = signed_crossings diagram.items

  same_list : signed_crossings (blown_up diagram label e).items ≡ list
  same_list = signed_crossings-added diagram.items label is_diagram.sizes new.past

  linking_same : (i j : ℕ) → linking (blown_up diagram label e).items i j ≡ linking diagram.items i j
  linking_same i j = ap (λ l. halved (signs_between i j l)) same_list

  linking_none : (i j : ℕ) → (n < i) ⊎ (n < j) → linking (blown_up diagram label e).items i j ≡ pos 0
  linking_none i j past = ap (λ l. halved (signs_between i j l)) same_list ∙ not_linked n i j past list (crossings_within diagram.items is_diagram.sizes list refl)

  -- the framings
  framing_last : (i : ℕ) → i ≡ n → framing_of (blown_up diagram label e) (i + 1) ≡ e
  framing_last i h =
      let z : i + 1 - 1 ≡ n = omega (arith, h) in
      ap (λ k. get_or (diagram.framings ++ e ∷ []) k (pos 0)) z
      ∙ get_or-append_right diagram.framings (e ∷ []) n n (pos 0) count (omega arith)
      ∙ (let w : n - n ≡ 0 = omega arith in ap (λ k. get_or (e ∷ []) k (pos 0)) w)

  framing_old : (i : ℕ) → i ≢ n → framing_of (blown_up diagram label e) (i + 1) ≡ framing_of diagram (i + 1)
  framing_old i h =
      let z : i + 1 - 1 ≡ i = omega arith in
      ap (λ k. get_or (diagram.framings ++ e ∷ []) k (pos 0)) z
      ∙ entry_old diagram.framings i (λ (same : i ≡ length diagram.framings). h (same ∙ count))
      ∙ ap (λ k. get_or diagram.framings k (pos 0)) (sym z)
    where
      entry_old : (ts : List ℤ) (i : ℕ) → i ≢ length ts → get_or (ts ++ e ∷ []) i (pos 0) ≡ get_or ts i (pos 0)
      entry_old [] zero h = absurd (h refl)
      entry_old [] (suc i) h = refl
      entry_old (t ∷ ts) zero h = refl
      entry_old (t ∷ ts) (suc i) h = entry_old ts i (λ (same : i ≡ length ts). h (ap suc same))

  entry_is : (i j : ℕ) → matrix_of (blown_up diagram label e) i j ≡ bordered n e (matrix_of diagram) i j
  entry_is i j =
      ⊎_elim
      (λ ti.
      let hi = eqb-true i n ti in
      ⊎_elim
      (λ tj.
      let hj = eqb-true j n tj in
      let one : (i + 1 == j + 1) ≡ true = eq-eqb (i + 1) (j + 1) (omega (arith, hi, hj)) in
      ap (λ b. if b then framing_of (blown_up diagram label e) (i + 1) else linking (blown_up diagram label e).items (i + 1) (j + 1)) one
      ∙ framing_last i hi
      ∙ sym (ap₂ (λ a b. if a then (if b then e else pos 0) else if b then pos 0 else matrix_of diagram i j) ti tj))
      (λ fj.
      let off : (i + 1 == j + 1) ≡ false = apart i j hi fj in
      ap (λ b. if b then framing_of (blown_up diagram label e) (i + 1) else linking (blown_up diagram label e).items (i + 1) (j + 1)) off
      ∙ linking_none (i + 1) (j + 1) (inl (omega (arith, hi)))
      ∙ sym (ap₂ (λ a b. if a then (if b then e else pos 0) else if b then pos 0 else matrix_of diagram i j) ti fj))
      (cases_Bool (j == n)))
      (λ fi.
      ⊎_elim
      (λ tj.
      let hj = eqb-true j n tj in
      let off : (i + 1 == j + 1) ≡ false = apart_other i j hj fi in
      ap (λ b. if b then framing_of (blown_up diagram label e) (i + 1) else linking (blown_up diagram label e).items (i + 1) (j + 1)) off
      ∙ linking_none (i + 1) (j + 1) (inr (omega (arith, hj)))
      ∙ sym (ap₂ (λ a b. if a then (if b then e else pos 0) else if b then pos 0 else matrix_of diagram i j) fi tj))
      (λ fj.
      let ni : i ≢ n = λ (s : i ≡ n). let t = eq-eqb i n s in grind (arith, t, fi) in
      ap₂ (λ x y. if i + 1 == j + 1 then x else y) (framing_old i ni) (linking_same (i + 1) (j + 1))
      ∙ sym (ap₂ (λ a b. if a then (if b then e else pos 0) else if b then pos 0 else matrix_of diagram i j) fi fj))
      (cases_Bool (j == n)))
      (cases_Bool (i == n))
    where
      apart : (i j : ℕ) → i ≡ n → (j == n) ≡ false → (i + 1 == j + 1) ≡ false
      apart i j h f = grind (arith, nat_tests, h, f)

      apart_other : (i j : ℕ) → j ≡ n → (i == n) ≡ false → (i + 1 == j + 1) ≡ false
      apart_other i j h f = grind (arith, nat_tests, h, f)

-- THE MATRIX OF A BLOW-UP
pub blown_up_matrix : BlownUpMatrixLaw
blown_up_matrix diagram label e is_diagram count new = λ k i j. entry_is diagram label e is_diagram count new i j k

-- ---- the counts
counts : (diagram : FramedDiagram) (label : ℕ) (e : ℤ) → IsDiagram diagram.items → length diagram.framings ≡ component_count diagram → IsAddedLabel diagram.items label →
    (plus_count (blown_up diagram label e) ≡ plus_count diagram + (if is_positive e then 1 else 0)) × (minus_count (blown_up diagram label e) ≡ minus_count diagram + (if is_negative e then 1 else 0))
unfolding positive_index negative_index
counts diagram label e is_diagram count new =
    let n = component_count diagram in
    let l = matrix_of diagram in
    let big = blown_up diagram label e in
    let size : component_count big ≡ suc n = ap length (least_labels-added diagram.items label is_diagram.sizes new.past) ∙ length-append (least_labels diagram.items) (label ∷ []) ∙ (let z : length (least_labels diagram.items) + 1 ≡ suc (length (least_labels diagram.items)) = omega arith in z) in
    let matrix = blown_up_matrix diagram label e is_diagram count new in
    let small_cert = eliminated_certifies n l (symmetric diagram n) in
    let big_symmetric : IsSymmetric (suc n) (bordered n e l) = subst (IsSymmetric (suc n)) matrix (symmetric big (suc n)) in
    let big_cert = eliminated_certifies (suc n) (bordered n e l) big_symmetric in
    let rule = bordered_inertia n l e (eliminated n l).p (eliminated n l).q (λ i. (eliminated n l).m i i) (eliminated (suc n) (bordered n e l)).p (eliminated (suc n) (bordered n e l)).q (λ i. (eliminated (suc n) (bordered n e l)).m i i) small_cert big_cert in
    (ap₂ (λ k a. positives k (λ i. (eliminated k a).m i i)) size matrix ∙ rule.0, ap₂ (λ k a. negatives k (λ i. (eliminated k a).m i i)) size matrix ∙ rule.1)

-- A BLOW-UP KEEPS THE SURGERY VALUE
pub blow_up : BlowUpKeepsSurgeryLaw
unfolding surgery power
blow_up p diagram label e sign is_diagram count new has =
    let m = p.modulus in
    let some : 0 < m = (let h = p.meets.modulus.0 in omega (arith, h)) in
    let big = blown_up diagram label e in
    let both = counts diagram label e is_diagram count new in
    let size : 0 < component_count big = (let l = ap length (least_labels-added diagram.items label is_diagram.sizes new.past) in let k = length-append (least_labels diagram.items) (label ∷ []) in omega (arith, l, k)) in
    let sum = added_sum p diagram.items diagram.framings label e is_diagram count new (has.projectors size) in
    let K = kirby p diagram.items diagram.framings in
    let y = omega_inverse p (pos 1) in
    let z = omega_inverse p (negsuc 0) in
    let b = plus_count diagram in
    let c = minus_count diagram in
    let kirby_is : Congruent m (pos (kirby p big.items big.framings)) (pos K *ℤ pos (omega_sum p e)) =
    congruent_trans (congruent_eq (ap pos sum)) (natural_mod some (congruent_eq (product K (omega_sum p e)))) in
    same_residue some
    (⊎_elim
    (λ one.
    let plus : plus_count big ≡ suc b = both.0 ∙ ap (λ t. b + (if is_positive t then 1 else 0)) one ∙ (let w : b + 1 ≡ suc b = omega arith in w) in
    let minus : minus_count big ≡ c = both.1 ∙ ap (λ t. c + (if is_negative t then 1 else 0)) one ∙ (let w : c + 0 ≡ c = omega arith in w) in
    let unit : Congruent m (pos (omega_sum p e) *ℤ pos y) (pos 1) =
    congruent_trans (congruent_eq (ap (λ t. pos (omega_sum p t) *ℤ pos y) one)) (unity_congruent _ some (has.plus (omega (arith, plus)))) in
    congruent_trans
    (congruent_times (congruent_times kirby_is (congruent_eq (ap (power (pos y)) plus))) (congruent_eq (ap (power (pos z)) minus)))
    (congruent_trans
    (congruent_eq (by_ring (pos K ∷ pos (omega_sum p e) ∷ pos y ∷ power (pos y) b ∷ power (pos z) c ∷ []) (search reads depth 30) (search reads depth 30) refl))
    (congruent_trans (congruent_times unit (congruent_refl m (pos K *ℤ power (pos y) b *ℤ power (pos z) c)))
    (congruent_eq (by_ring (pos K ∷ power (pos y) b ∷ power (pos z) c ∷ []) (search reads depth 30) (search reads depth 30) refl)))))
    (λ one.
    let plus : plus_count big ≡ b = both.0 ∙ ap (λ t. b + (if is_positive t then 1 else 0)) one ∙ (let w : b + 0 ≡ b = omega arith in w) in
    let minus : minus_count big ≡ suc c = both.1 ∙ ap (λ t. c + (if is_negative t then 1 else 0)) one ∙ (let w : c + 1 ≡ suc c = omega arith in w) in
    let unit : Congruent m (pos (omega_sum p e) *ℤ pos z) (pos 1) =
    congruent_trans (congruent_eq (ap (λ t. pos (omega_sum p t) *ℤ pos z) one)) (unity_congruent _ some (has.minus (omega (arith, minus)))) in
    congruent_trans
    (congruent_times (congruent_times kirby_is (congruent_eq (ap (power (pos y)) plus))) (congruent_eq (ap (power (pos z)) minus)))
    (congruent_trans
    (congruent_eq (by_ring (pos K ∷ pos (omega_sum p e) ∷ pos z ∷ power (pos y) b ∷ power (pos z) c ∷ []) (search reads depth 30) (search reads depth 30) refl))
    (congruent_trans (congruent_times unit (congruent_refl m (pos K *ℤ power (pos y) b *ℤ power (pos z) c)))
    (congruent_eq (by_ring (pos K ∷ power (pos y) b ∷ power (pos z) c ∷ []) (search reads depth 30) (search reads depth 30) refl)))))
    sign)
  where
    product : (a b : ℕ) → pos (a * b) ≡ pos a *ℤ pos b
    product a b = refl
