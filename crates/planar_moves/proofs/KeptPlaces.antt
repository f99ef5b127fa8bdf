-- The crossings that stay where others go: their numbers, and the places that they have before and after.
use Rattle.std.proofs.Common.{◌≡◌, ◌≤◌, ◌<◌, ℕ, zero, suc, ◌+◌, ◌-◌, ◌*◌, ◌/◌, ◌%◌, ◌==◌, Bool, true, false, cond, not, ltb, List, [], ◌∷◌, ◌++◌, map, length, slice_index, Some, refl, sym, ap, ◌∙◌, subst, arith, ⊎_elim, append-nil}
use Rattle.std.specs.List.{AllByRecursion}
use Rattle.std.specs.Set.{is_member}
use Rattle.std.proofs.lemmas.Bool.{eq-eqb, eqb-true, cases_Bool, ltb-true}
use Rattle.std.proofs.lemmas.Bool.Decides.{nat_tests}
use Rattle.std.proofs.lemmas.List.{length-append, length-map}
use Rattle.list_lemmas.proofs.Items.{get_front}
use Rattle.pd_reader.specs.declared.item.Item.{Item}
use Rattle.pd_reader.specs.declared.item.Item.TheVariants as item
use Rattle.pd_reader.specs.Items.{HasItsSlots}
use Rattle.planar_check.specs.Components.{rank}
use Rattle.diagram_moves.specs.Rewriting.{crossing_from, crossing_labels, rewritten}
use Rattle.diagram_moves.proofs.Nodes.{none_some}
use Rattle.diagram_moves.proofs.Pushing.{crossing_labels-append}
use Rattle.move_results.proofs.FaceSteps.{number_from}
use Rattle.planar_forms.proofs.PlacePairs.{slice_index-skip}

-- how many crossings there are
abbrev pub crossing_count : List Item → ℕ
crossing_count [] = 0
crossing_count (item.X slots ∷ rest) = suc (crossing_count rest)
crossing_count (item.Loop label ∷ rest) = crossing_count rest

-- the numbers of those that stay, where the first has the number k
abbrev pub kept_numbers : List ℕ → ℕ → List Item → List ℕ
kept_numbers gone k [] = []
kept_numbers gone k (item.X slots ∷ rest) = cond (is_member ◌==◌ gone k) (kept_numbers gone (k + 1) rest) (k ∷ kept_numbers gone (k + 1) rest)
kept_numbers gone k (item.Loop label ∷ rest) = kept_numbers gone k rest

-- what is left, where the first crossing has the number k
abbrev pub removed_from : List ℕ → (ℕ → ℕ) → ℕ → List Item → List Item
removed_from gone label k items = rewritten (λ k slots. cond (is_member ◌==◌ gone k) [] (item.X (map label slots) ∷ [])) k items

pub count_labels : (items : List Item) → AllByRecursion HasItsSlots items → length (crossing_labels items) ≡ 4 * crossing_count items
count_labels [] h = refl
count_labels (item.X here ∷ rest) h =
    let ih = count_labels rest h.1 in let four = h.0 in let long = length-append here (crossing_labels rest) in
    omega (arith, ih, four, long)
count_labels (item.Loop label ∷ rest) h = count_labels rest h.1

-- a number that stays
pub record IsKept (gone : List ℕ) (k : ℕ) (items : List Item) (c : ℕ) : Type 0 where
  pub low : k ≤ c
  pub high : c < k + crossing_count items
  pub stays : is_member ◌==◌ gone c ≡ false

kept_later : (gone : List ℕ) (k : ℕ) (slots : List ℕ) (rest : List Item) (c : ℕ) → IsKept gone (k + 1) rest c → IsKept gone k (item.X slots ∷ rest) c
kept_later gone k slots rest c is = record { low = (let l = is.low in omega (arith, l)); high = (let h = is.high in omega (arith, h)); stays = is.stays }

pub kept_at : (gone : List ℕ) (k : ℕ) (items : List Item) (i : ℕ) → i < length (kept_numbers gone k items) → IsKept gone k items (slice_index (kept_numbers gone k items) i)
kept_at gone k [] i l = absurd (omega (arith, l))
kept_at gone k (item.X slots ∷ rest) i l =
    let K = kept_numbers gone (k + 1) rest in
    let P : Bool → Type 0 = λ b. (i : ℕ) → i < length (cond b K (k ∷ K)) → IsKept gone k (item.X slots ∷ rest) (slice_index (cond b K (k ∷ K)) i) in
    let ih = kept_at gone (k + 1) rest in
    let gone_on : P true = λ i l. kept_later gone k slots rest (slice_index K i) (ih i l) in
    let first : is_member ◌==◌ gone k ≡ false → P false = λ f i.
    (let Q : ℕ → Type 0 = λ i. i < length (k ∷ K) → IsKept gone k (item.X slots ∷ rest) (slice_index (k ∷ K) i) in
    elim i as Q [
      | zero ↦ λ l. record { low = omega arith; high = omega arith; stays = f }
      | suc j ↦ λ l. kept_later gone k slots rest (slice_index K j) (ih j (omega (arith, l)))
    ]) in
    ⊎_elim (λ t. subst P (sym t) gone_on i l) (λ f. subst P (sym f) (first f) i l) (cases_Bool (is_member ◌==◌ gone k))
kept_at gone k (item.Loop label ∷ rest) i l =
    let r = kept_at gone k rest i l in record { low = r.low; high = r.high; stays = r.stays }

pub kept_has : (gone : List ℕ) (k : ℕ) (items : List Item) (c : ℕ) → k ≤ c → c < k + crossing_count items → is_member ◌==◌ gone c ≡ false → is_member ◌==◌ (kept_numbers gone k items) c ≡ true
kept_has gone k [] c low high out = absurd (omega (arith, low, high))
kept_has gone k (item.X slots ∷ rest) c low high out =
    let K = kept_numbers gone (k + 1) rest in
    let P : Bool → Type 0 = λ b. is_member ◌==◌ (cond b K (k ∷ K)) c ≡ true in
    ⊎_elim
    (λ t.
    let e = eqb-true c k t in
    let f : is_member ◌==◌ gone k ≡ false = ap (is_member ◌==◌ gone) (sym e) ∙ out in
    subst P (sym f) (grind (arith, t)))
    (λ n.
    let ne : (c == k) ≡ false = n in
    let apart : k + 1 ≤ c = grind (arith, nat_tests, low, ne) in
    let ih = kept_has gone (k + 1) rest c apart (omega (arith, high)) out in
    ⊎_elim (λ t. subst P (sym t) ih) (λ f. subst P (sym f) (grind (arith, ih, n))) (cases_Bool (is_member ◌==◌ gone k)))
    (cases_Bool (c == k))
kept_has gone k (item.Loop label ∷ rest) c low high out = kept_has gone k rest c low high out

-- numbers rise
pub rank_at : (gone : List ℕ) (k : ℕ) (items : List Item) (i : ℕ) → i < length (kept_numbers gone k items) → rank (kept_numbers gone k items) (slice_index (kept_numbers gone k items) i) ≡ i
rank_at gone k [] i l = absurd (omega (arith, l))
rank_at gone k (item.X slots ∷ rest) i l =
    let K = kept_numbers gone (k + 1) rest in
    let P : Bool → Type 0 = λ b. (i : ℕ) → i < length (cond b K (k ∷ K)) → rank (cond b K (k ∷ K)) (slice_index (cond b K (k ∷ K)) i) ≡ i in
    let ih = rank_at gone (k + 1) rest in
    let first : P false = λ i.
    (let Q : ℕ → Type 0 = λ i. i < length (k ∷ K) → rank (k ∷ K) (slice_index (k ∷ K) i) ≡ i in
    elim i as Q [
      | zero ↦ λ l. (let t = eq-eqb k k refl in ap (λ b. cond (not b) (1 + rank K k) 0) t)
      | suc j ↦ λ l.
          let c = slice_index K j in
          let at = kept_at gone (k + 1) rest j (omega (arith, l)) in
          let low = at.low in
          let n : (k == c) ≡ false = grind (arith, nat_tests, low) in
          let r = ih j (omega (arith, l)) in
          ap (λ b. cond (not b) (1 + rank K c) 0) n ∙ (let e : 1 + rank K c ≡ suc j = omega (arith, r) in e)
    ]) in
    ⊎_elim (λ t. subst P (sym t) ih i l) (λ f. subst P (sym f) first i l) (cases_Bool (is_member ◌==◌ gone k))
rank_at gone k (item.Loop label ∷ rest) i l = rank_at gone k rest i l

-- ---- labels
mapped_at : (label : ℕ → ℕ) (xs : List ℕ) (i : ℕ) → i < length xs → slice_index (map label xs) i ≡ label (slice_index xs i)
mapped_at label [] i l = absurd (omega (arith, l))
mapped_at label (x ∷ xs) zero l = refl
mapped_at label (x ∷ xs) (suc i) l = mapped_at label xs i (omega (arith, l))

-- the place, where the first crossing has the number k, that a place had before
abbrev pub place_from : List ℕ → ℕ → ℕ → ℕ
place_from numbers k u = 4 * (slice_index numbers (u / 4) - k) + u % 4

pub kept_label : (gone : List ℕ) (label : ℕ → ℕ) (k : ℕ) (items : List Item) (u : ℕ) → AllByRecursion HasItsSlots items → u < 4 * length (kept_numbers gone k items) →
    slice_index (crossing_labels (removed_from gone label k items)) u ≡ label (slice_index (crossing_labels items) (place_from (kept_numbers gone k items) k u))
kept_label gone label k [] u h l = absurd (omega (arith, l))
kept_label gone label k (item.X here ∷ rest) u h l =
    let K = kept_numbers gone (k + 1) rest in
    let R = removed_from gone label (k + 1) rest in
    let whole = here ++ crossing_labels rest in
    let four = h.0 in
    let P : Bool → Type 0 = λ b. (u : ℕ) → u < 4 * length (cond b K (k ∷ K)) → slice_index (crossing_labels (cond b [] (item.X (map label here) ∷ []) ++ R)) u ≡ label (slice_index whole (place_from (cond b K (k ∷ K)) k u)) in
    let ih = kept_label gone label (k + 1) rest in
    -- one crossing later
    let later : (u : ℕ) → u < 4 * length K → label (slice_index (crossing_labels rest) (place_from K (k + 1) u)) ≡ label (slice_index whole (place_from K k u)) = λ u l.
    (let at = kept_at gone (k + 1) rest (u / 4) (omega (arith, l)) in
    let low = at.low in
    let e : place_from K k u ≡ length here + place_from K (k + 1) u = omega (arith, low, four) in
    ap label (sym (ap (slice_index whole) e ∙ slice_index-skip here (crossing_labels rest) (place_from K (k + 1) u)))) in
    let gone_on : P true = λ u l. ih u h.1 l ∙ later u l in
    let stays : P false = λ u l.
    ⊎_elim
    (λ t.
    let low = ltb-true u 4 t in
    let e : place_from (k ∷ K) k u ≡ u =
    (let z : u / 4 ≡ 0 = omega (arith, low) in
    let s = ap (slice_index (k ∷ K)) z in omega (arith, low, s)) in
    get_front (map label here) (crossing_labels R) u (let n = length-map here label in omega (arith, low, four, n))
    ∙ (mapped_at label here u (omega (arith, low, four)) ∙ ap label (sym (ap (slice_index whole) e ∙ get_front here (crossing_labels rest) u (omega (arith, low, four))))))
    (λ f.
    let high : 4 ≤ u = grind (arith, nat_tests, f) in
    let v = u - 4 in
    let n = length-map here label in
    let at : u ≡ length (map label here) + v = omega (arith, high, four, n) in
    let below : v < 4 * length K = omega (arith, l, high) in
    let z : u / 4 ≡ suc (v / 4) = omega (arith, high) in
    let s : slice_index (k ∷ K) (u / 4) ≡ slice_index K (v / 4) = ap (slice_index (k ∷ K)) z in
    let e : place_from (k ∷ K) k u ≡ place_from K k v = omega (arith, s, high) in
    ap (slice_index (map label here ++ crossing_labels R)) at ∙ (slice_index-skip (map label here) (crossing_labels R) v ∙ (ih v h.1 below ∙ (later v below ∙ ap (λ p. label (slice_index whole p)) (sym e)))))
    (cases_Bool (ltb u 4)) in
    ⊎_elim (λ t. subst P (sym t) gone_on u l) (λ f. subst P (sym f) stays u l) (cases_Bool (is_member ◌==◌ gone k))
kept_label gone label k (item.Loop l ∷ rest) u h m = kept_label gone label k rest u h.1 m

pub kept_long : (gone : List ℕ) (label : ℕ → ℕ) (k : ℕ) (items : List Item) → AllByRecursion HasItsSlots items → length (crossing_labels (removed_from gone label k items)) ≡ 4 * length (kept_numbers gone k items)
kept_long gone label k [] h = refl
kept_long gone label k (item.X here ∷ rest) h =
    let K = kept_numbers gone (k + 1) rest in
    let R = removed_from gone label (k + 1) rest in
    let four = h.0 in
    let ih = kept_long gone label (k + 1) rest h.1 in
    let n = length-map here label in
    let long = length-append (map label here) (crossing_labels R) in
    let P : Bool → Type 0 = λ b. length (crossing_labels (cond b [] (item.X (map label here) ∷ []) ++ R)) ≡ 4 * length (cond b K (k ∷ K)) in
    ⊎_elim (λ t. subst P (sym t) ih) (λ f. subst P (sym f) (omega (arith, ih, four, n, long))) (cases_Bool (is_member ◌==◌ gone k))
kept_long gone label k (item.Loop l ∷ rest) h = kept_long gone label k rest h.1

-- ---- how many stay
pub all_kept : (k : ℕ) (items : List Item) → length (kept_numbers [] k items) ≡ crossing_count items
all_kept k [] = refl
all_kept k (item.X slots ∷ rest) = ap suc (all_kept (k + 1) rest)
all_kept k (item.Loop label ∷ rest) = all_kept k rest

passed_number : (gone : List ℕ) (c k : ℕ) (items : List Item) → c < k → kept_numbers (c ∷ gone) k items ≡ kept_numbers gone k items
passed_number gone c k [] l = refl
passed_number gone c k (item.X slots ∷ rest) l =
    let K = kept_numbers gone (k + 1) rest in
    let ih = passed_number gone c (k + 1) rest (omega (arith, l)) in
    let n : is_member ◌==◌ (c ∷ gone) k ≡ is_member ◌==◌ gone k = (let f : (k == c) ≡ false = grind (arith, nat_tests, l) in grind (arith, f)) in
    ap (λ b. cond b (kept_numbers (c ∷ gone) (k + 1) rest) (k ∷ kept_numbers (c ∷ gone) (k + 1) rest)) n ∙ ap (λ ns. cond (is_member ◌==◌ gone k) ns (k ∷ ns)) ih
passed_number gone c k (item.Loop label ∷ rest) l = passed_number gone c k rest l

pub one_less : (gone : List ℕ) (c k : ℕ) (items : List Item) (slots : List ℕ) → crossing_from k items c ≡ Some slots → is_member ◌==◌ gone c ≡ false →
    length (kept_numbers (c ∷ gone) k items) + 1 ≡ length (kept_numbers gone k items)
one_less gone c k [] slots found out = absurd (none_some slots found)
one_less gone c k (item.X here ∷ rest) slots found out =
    let K = kept_numbers gone (k + 1) rest in
    let L = kept_numbers (c ∷ gone) (k + 1) rest in
    ⊎_elim
    (λ t.
    let e = eqb-true k c t in
    let in_more : is_member ◌==◌ (c ∷ gone) k ≡ true = grind (arith, t) in
    let not_in : is_member ◌==◌ gone k ≡ false = ap (is_member ◌==◌ gone) e ∙ out in
    let same = ap length (passed_number gone c (k + 1) rest (omega (arith, e))) in
    let a = ap (λ b. length (cond b L (k ∷ L))) in_more in
    let b = ap (λ b. length (cond b K (k ∷ K))) not_in in
    omega (arith, same, a, b))
    (λ f.
    let n : is_member ◌==◌ (c ∷ gone) k ≡ is_member ◌==◌ gone k = grind (arith, f) in
    let ih = one_less gone c (k + 1) rest slots (sym (ap (λ z. cond z (Some here) (crossing_from (k + 1) rest c)) f) ∙ found) out in
    let a = ap (λ b. length (cond b L (k ∷ L))) n in
    let P : Bool → Type 0 = λ b. length (cond b L (k ∷ L)) + 1 ≡ length (cond b K (k ∷ K)) in
    let both : P (is_member ◌==◌ gone k) = ⊎_elim (λ t. subst P (sym t) ih) (λ g. subst P (sym g) (omega (arith, ih))) (cases_Bool (is_member ◌==◌ gone k)) in
    omega (arith, a, both))
    (cases_Bool (k == c))
one_less gone c k (item.Loop label ∷ rest) slots found out = one_less gone c k rest slots found out

pub last_number : (k : ℕ) (items : List Item) (c : ℕ) (slots : List ℕ) → crossing_from k items c ≡ Some slots → c < k + crossing_count items
last_number k [] c slots found = absurd (none_some slots found)
last_number k (item.X here ∷ rest) c slots found =
    ⊎_elim
    (λ t. let e = eqb-true k c t in omega (arith, e))
    (λ f. let ih = last_number (k + 1) rest c slots (sym (ap (λ z. cond z (Some here) (crossing_from (k + 1) rest c)) f) ∙ found) in omega (arith, ih))
    (cases_Bool (k == c))
last_number k (item.Loop label ∷ rest) c slots found = last_number k rest c slots found

-- ---- the label at a slot
pub label_at : (k : ℕ) (items : List Item) (c : ℕ) (slots : List ℕ) (s : ℕ) → AllByRecursion HasItsSlots items → crossing_from k items c ≡ Some slots → s < 4 →
    slice_index (crossing_labels items) (4 * (c - k) + s) ≡ slice_index slots s
label_at k [] c slots s h found l = absurd (none_some slots found)
label_at k (item.X here ∷ rest) c slots s h found l =
    let four = h.0 in
    let whole = here ++ crossing_labels rest in
    ⊎_elim
    (λ t.
    let same = eqb-true k c t in
    let e : Some here ≡ Some slots = sym (ap (λ z. cond z (Some here) (crossing_from (k + 1) rest c)) t) ∙ found in
    let is : here ≡ slots = cc in
    let at : 4 * (c - k) + s ≡ s = omega (arith, same) in
    ap (slice_index whole) at ∙ get_front here (crossing_labels rest) s (omega (arith, l, four)) ∙ ap (λ xs. slice_index xs s) is)
    (λ t.
    let next : crossing_from (k + 1) rest c ≡ Some slots = sym (ap (λ z. cond z (Some here) (crossing_from (k + 1) rest c)) t) ∙ found in
    let low = number_from (k + 1) rest c slots next in
    let at : 4 * (c - k) + s ≡ length here + (4 * (c - (k + 1)) + s) = omega (arith, low, four) in
    ap (slice_index whole) at ∙ slice_index-skip here (crossing_labels rest) (4 * (c - (k + 1)) + s) ∙ label_at (k + 1) rest c slots s h.1 next l)
    (cases_Bool (k == c))
label_at k (item.Loop label ∷ rest) c slots s h found l = label_at k rest c slots s h.1 found l

-- Loops at the end have no place
no_labels : (ls : List ℕ) → crossing_labels (map item.Loop ls) ≡ []
no_labels [] = refl
no_labels (l ∷ ls) = no_labels ls

pub closed_labels : (items : List Item) (ls : List ℕ) → crossing_labels (items ++ map item.Loop ls) ≡ crossing_labels items
closed_labels items ls = crossing_labels-append items (map item.Loop ls) ∙ (ap (λ ns. crossing_labels items ++ ns) (no_labels ls) ∙ append-nil (crossing_labels items))
