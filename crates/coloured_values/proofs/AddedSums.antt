-- The Kirby sum of a diagram with one more loop is a sum over the old colours and the new one, so a product.
use Rattle.std.proofs.Common.{◌≡◌, ℕ, zero, suc, ◌+◌, ◌*◌, ◌<◌, ◌≤◌, min, ◌-◌, ℤ, pos, ◌+ℤ◌, ◌-ℤ◌, ◌*ℤ◌, List, [], ◌∷◌, ◌++◌, length, map, flat_map, refl, sym, ap, ap₂, ◌∙◌, arith, length-append, All}
use Rattle.std.specs.List.{AllByRecursion}
use Rattle.ring_identities.specs.Residues.{residue, Congruent}
use Rattle.ring_identities.proofs.Congruences.{congruent_refl, congruent_eq, congruent_sym, congruent_trans, congruent_plus, congruent_times, residue_congruent, same_residue, natural_mod}
use Rattle.ring_identities.proofs.Identities.{reads, by_ring}
use Rattle.root_quantum.specs.Parameters.{Parameters}
use Rattle.root_quantum.specs.Colours.{form_colours, greatest_colour}
use Rattle.root_quantum.proofs.GreatestColours.{greatest_of_colours_law}
use Rattle.std.proofs.lemmas.List.Elements.{All-head, All-tail}
use Rattle.root_quantum.specs.QuantumNumbers.{delta, twist}
use Rattle.pd_reader.specs.declared.item.Item.{Item}
use Rattle.pd_reader.specs.declared.item.Item.TheVariants.{Loop}
use Rattle.pd_reader.specs.Diagrams.{IsDiagram}
use Rattle.planar_check.specs.Components.{least_labels}
use Rattle.planar_check.specs.Signs.{writhe}
use Rattle.cables.specs.Nets.{HasProjector}
use Rattle.coloured_values.specs.Coloured.{coloured, twists, framed}
use Rattle.coloured_values.specs.Surgery.{colour_lists, deltas, sum_over, kirby, omega_sum}
use Rattle.coloured_values.specs.Laws.{IsAddedLabel, AddedFramedLoopLaw}
use Rattle.coloured_values.proofs.AddedComponents.{least_labels-added}
use Rattle.coloured_values.proofs.AddedCrossings.{writhe-added, writhe-last}
use Rattle.coloured_values.proofs.ColouredLaws.{added_component}

-- ---- sums
sum-append : {X : Type 0} (f : X → ℤ) (xs ys : List X) → sum_over f (xs ++ ys) ≡ sum_over f xs +ℤ sum_over f ys
sum-append f [] ys = by_ring (sum_over f ys ∷ []) (search reads depth 30) (search reads depth 30) refl
sum-append f (x ∷ xs) ys =
    ap (λ s. f x +ℤ s) (sum-append f xs ys) ∙ by_ring (f x ∷ sum_over f xs ∷ sum_over f ys ∷ []) (search reads depth 30) (search reads depth 30) refl

sum-map : {X Y : Type 0} (f : Y → ℤ) (h : X → Y) (xs : List X) → sum_over f (map h xs) ≡ sum_over (λ x. f (h x)) xs
sum-map f h [] = refl
sum-map f h (x ∷ xs) = ap (λ s. f (h x) +ℤ s) (sum-map f h xs)

sum-flat_map : {X Y : Type 0} (f : Y → ℤ) (h : X → List Y) (xs : List X) → sum_over f (flat_map h xs) ≡ sum_over (λ x. sum_over f (h x)) xs
sum-flat_map f h [] = refl
sum-flat_map f h (x ∷ xs) = sum-append f (h x) (flat_map h xs) ∙ ap (λ s. sum_over f (h x) +ℤ s) (sum-flat_map f h xs)

sum_congruent : {X : Type 0} (m : ℕ) (P : X → Type 0) (f g : X → ℤ) (xs : List X) → AllByRecursion P xs → ((x : X) → P x → Congruent m (f x) (g x)) → Congruent m (sum_over f xs) (sum_over g xs)
sum_congruent m P f g [] a h = congruent_refl m (pos 0)
sum_congruent m P f g (x ∷ xs) a h = congruent_plus (h x a.0) (sum_congruent m P f g xs a.1 h)

sum-times : {X : Type 0} (c : ℤ) (f : X → ℤ) (xs : List X) → sum_over (λ x. c *ℤ f x) xs ≡ c *ℤ sum_over f xs
sum-times c f [] = by_ring (c ∷ []) (search reads depth 30) (search reads depth 30) refl
sum-times c f (x ∷ xs) =
    ap (λ s. c *ℤ f x +ℤ s) (sum-times c f xs) ∙ by_ring (c ∷ f x ∷ sum_over f xs ∷ []) (search reads depth 30) (search reads depth 30) refl

sum-behind : {X : Type 0} (c : ℤ) (f : X → ℤ) (xs : List X) → sum_over (λ x. f x *ℤ c) xs ≡ sum_over f xs *ℤ c
sum-behind c f [] = by_ring (c ∷ []) (search reads depth 30) (search reads depth 30) refl
sum-behind c f (x ∷ xs) =
    ap (λ s. f x *ℤ c +ℤ s) (sum-behind c f xs) ∙ by_ring (c ∷ f x ∷ sum_over f xs ∷ []) (search reads depth 30) (search reads depth 30) refl

-- ---- products over one component more
deltas-append : (p : Parameters) (colours : List ℕ) (n : ℕ) → deltas p (colours ++ n ∷ []) ≡ deltas p colours *ℤ pos (delta p n)
deltas-append p [] n = by_ring (pos (delta p n) ∷ []) (search reads depth 30) (search reads depth 30) refl
deltas-append p (c ∷ colours) n =
    ap (λ s. pos (delta p c) *ℤ s) (deltas-append p colours n)
    ∙ by_ring (pos (delta p c) ∷ deltas p colours ∷ pos (delta p n) ∷ []) (search reads depth 30) (search reads depth 30) refl

twists-append : (p : Parameters) (added items : List Item) → ((i : ℕ) → writhe added i ≡ writhe items i) → (framings : List ℤ) (colours : List ℕ) (number : ℕ) (e : ℤ) (n : ℕ) → length framings ≡ length colours →
    twists p added number (framings ++ e ∷ []) (colours ++ n ∷ []) ≡ twists p items number framings colours *ℤ pos (twist p n (e -ℤ writhe added (number + length framings)))
twists-append p added items same [] [] number e n h =
    let z : number + 0 ≡ number = omega arith in
    ap (λ k. pos (twist p n (e -ℤ writhe added k)) *ℤ pos 1) (sym z)
    ∙ by_ring (pos (twist p n (e -ℤ writhe added (number + 0))) ∷ []) (search reads depth 30) (search reads depth 30) refl
twists-append p added items same [] (c ∷ colours) number e n h = absurd (omega (arith, h))
twists-append p added items same (t ∷ framings) [] number e n h = absurd (omega (arith, h))
twists-append p added items same (t ∷ framings) (c ∷ colours) number e n h =
    let z : number + 1 + length framings ≡ number + suc (length framings) = omega arith in
    ap₂ (λ w s. pos (twist p c (t -ℤ w)) *ℤ s) (same number) (twists-append p added items same framings colours (number + 1) e n (omega (arith, h)))
    ∙ ap (λ k. pos (twist p c (t -ℤ writhe items number)) *ℤ (twists p items (number + 1) framings colours *ℤ pos (twist p n (e -ℤ writhe added k)))) z
    ∙ by_ring (pos (twist p c (t -ℤ writhe items number)) ∷ twists p items (number + 1) framings colours ∷ pos (twist p n (e -ℤ writhe added (number + suc (length framings)))) ∷ []) (search reads depth 30) (search reads depth 30) refl

minus_none : (e : ℤ) → e -ℤ pos 0 ≡ e
minus_none e = by_ring (e ∷ []) (search reads depth 30) (search reads depth 30) refl

-- ---- the lists of colours
IsChoice : (ℕ → Type 0) → ℕ → List ℕ → Type 0
IsChoice P n list = (length list ≡ n) × AllByRecursion P list

push_choice : (P : ℕ → Type 0) (list : List ℕ) (colour : ℕ) → AllByRecursion P list → P colour → AllByRecursion P (list ++ colour ∷ [])
push_choice P [] colour a h = (h, tt)
push_choice P (x ∷ list) colour a h = (a.0, push_choice P list colour a.1 h)

all_append : {X : Type 0} (P : X → Type 0) (xs ys : List X) → AllByRecursion P xs → AllByRecursion P ys → AllByRecursion P (xs ++ ys)
all_append P [] ys a b = b
all_append P (x ∷ xs) ys a b = (a.0, all_append P xs ys a.1 b)

module _ (P : ℕ → Type 0) (colours : List ℕ) (each : AllByRecursion P colours) where
  row_choices : (n : ℕ) (list : List ℕ) → IsChoice P n list → (cs : List ℕ) → AllByRecursion P cs → AllByRecursion (IsChoice P (suc n)) (map (λ colour. list ++ colour ∷ []) cs)
  unfolding IsChoice
  row_choices n list h [] a = tt
  row_choices n list h (c ∷ cs) a =
      (((let l = length-append list (c ∷ []) in let k = h.0 in omega (arith, l, k)), push_choice P list c h.1 a.0), row_choices n list h cs a.1)

  all_rows : (n : ℕ) (lists : List (List ℕ)) → AllByRecursion (IsChoice P n) lists → AllByRecursion (IsChoice P (suc n)) (flat_map (λ list. map (λ colour. list ++ colour ∷ []) colours) lists)
  all_rows n [] a = tt
  all_rows n (list ∷ lists) a =
      all_append (IsChoice P (suc n)) (map (λ colour. list ++ colour ∷ []) colours) (flat_map (λ l. map (λ colour. l ++ colour ∷ []) colours) lists) (row_choices n list a.0 colours each) (all_rows n lists a.1)

  choices : (n : ℕ) → AllByRecursion (IsChoice P n) (colour_lists colours n)
  unfolding IsChoice
  choices zero = ((refl, tt), tt)
  choices (suc n) = all_rows n (colour_lists colours n) (choices n)

few_of : (p : Parameters) (list : List ℕ) → AllByRecursion (λ n. (n ≤ 8) × HasProjector p n) list → AllByRecursion (λ colour. colour ≤ 8) list
few_of p [] a = tt
few_of p (n ∷ list) a = (a.0.0, few_of p list a.1)

module _ (p : Parameters) (items : List Item) (framings : List ℤ) (label : ℕ) (e : ℤ) (diagram : IsDiagram items) (count : length framings ≡ length (least_labels items)) (new : IsAddedLabel items label) where
  abbrev m : ℕ
  m = p.modulus

  some_modulus : 0 < p.modulus
  some_modulus = let h = p.meets.modulus.0 in omega (arith, h)

  abbrev added : List Item
  added = items ++ Loop label ∷ []

  -- the framed value with one colour more
  framed_more : (colours : List ℕ) (n : ℕ) → length colours ≡ length (least_labels items) → AllByRecursion (λ colour. colour ≤ 8) colours → n ≤ 8 → HasProjector p n →
      Congruent p.modulus (pos (framed p added (framings ++ e ∷ []) (colours ++ n ∷ []))) (pos (framed p items framings colours) *ℤ (pos (delta p n) *ℤ pos (twist p n e)))
  unfolding framed
  framed_more colours n long few low projector =
      let value = coloured p items colours in
      let t = twists p items 1 framings colours in
      let component = added_component p items colours label n diagram record { count = long; few = few } low projector new in
      let z : 1 + length framings ≡ length (least_labels items) + 1 = omega (arith, count) in
      let turned : twists p added 1 (framings ++ e ∷ []) (colours ++ n ∷ []) ≡ t *ℤ pos (twist p n e) =
      twists-append p added items (writhe-added items label diagram.sizes new.past) framings colours 1 e n (count ∙ sym long)
      ∙ ap (λ w. t *ℤ pos (twist p n (e -ℤ w))) (ap (writhe added) z ∙ writhe-last items label diagram.sizes new.past)
      ∙ ap (λ w. t *ℤ pos (twist p n w)) (minus_none e) in
      let closed : Congruent p.modulus (pos (coloured p added (colours ++ n ∷ []))) (pos value *ℤ pos (delta p n)) =
      congruent_trans (congruent_eq (ap pos component)) (natural_mod some_modulus (congruent_eq (product value (delta p n)))) in
      congruent_trans (congruent_sym (residue_congruent p.modulus (pos (coloured p added (colours ++ n ∷ [])) *ℤ twists p added 1 (framings ++ e ∷ []) (colours ++ n ∷ [])) some_modulus))
      (congruent_trans (congruent_times closed (congruent_eq turned))
      (congruent_trans
      (congruent_eq (by_ring (pos value ∷ pos (delta p n) ∷ t ∷ pos (twist p n e) ∷ []) (search reads depth 30) (search reads depth 30) refl))
      (congruent_times (residue_congruent p.modulus (pos value *ℤ t) some_modulus) (congruent_refl p.modulus (pos (delta p n) *ℤ pos (twist p n e))))))
    where
      product : (a b : ℕ) → pos (a * b) ≡ pos a *ℤ pos b
      product a b = refl

  abbrev worth : List ℕ → ℤ
  worth colours = deltas p colours *ℤ pos (framed p items framings colours)

  abbrev more_worth : List ℕ → ℤ
  more_worth colours = deltas p colours *ℤ pos (framed p added (framings ++ e ∷ []) colours)

  abbrev term : ℕ → ℤ
  term n = pos (delta p n) *ℤ pos (delta p n) *ℤ pos (twist p n e)

  one_colour : (colours : List ℕ) (n : ℕ) → length colours ≡ length (least_labels items) → AllByRecursion (λ colour. colour ≤ 8) colours → n ≤ 8 → HasProjector p n →
      Congruent p.modulus (more_worth (colours ++ n ∷ [])) (worth colours *ℤ term n)
  one_colour colours n long few low projector =
      congruent_trans (congruent_times (congruent_eq (deltas-append p colours n)) (framed_more colours n long few low projector))
      (congruent_eq (by_ring (deltas p colours ∷ pos (delta p n) ∷ pos (framed p items framings colours) ∷ pos (twist p n e) ∷ []) (search reads depth 30) (search reads depth 30) refl))

  -- THE SUM OVER THE OLD COLOURS AND THE NEW ONE
  sums : (palette : List ℕ) → AllByRecursion (λ n. (n ≤ 8) × HasProjector p n) palette →
      Congruent p.modulus (sum_over more_worth (colour_lists palette (length (least_labels items) + 1))) (sum_over worth (colour_lists palette (length (least_labels items))) *ℤ sum_over term palette)
  unfolding IsChoice
  sums palette each =
      let count = length (least_labels items) in
      let z : count + 1 ≡ suc count = omega arith in
      let lists = colour_lists palette count in
      let P : ℕ → Type 0 = λ n. (n ≤ 8) × HasProjector p n in
      congruent_trans
      (congruent_eq
      (ap (λ k. sum_over more_worth (colour_lists palette k)) z
      ∙ sum-flat_map more_worth (λ list. map (λ colour. list ++ colour ∷ []) palette) lists))
      (congruent_trans
      (sum_congruent p.modulus (IsChoice P count) (λ list. sum_over more_worth (map (λ colour. list ++ colour ∷ []) palette)) (λ list. worth list *ℤ sum_over term palette) lists (choices P palette each count)
      (λ list h.
      congruent_trans (congruent_eq (sum-map more_worth (λ colour. list ++ colour ∷ []) palette))
      (congruent_trans
      (sum_congruent p.modulus P (λ n. more_worth (list ++ n ∷ [])) (λ n. worth list *ℤ term n) palette each (λ n k. one_colour list n h.0 (few_of p list h.1) k.0 k.1))
      (congruent_eq (sum-times (worth list) term palette)))))
      (congruent_eq (sum-behind (sum_over term palette) worth lists)))

-- the colours of a form are at most 8
palette : (p : Parameters) (colours : List ℕ) → All (λ n. n ≤ greatest_colour p) colours → AllByRecursion (λ n. HasProjector p n) colours →
    AllByRecursion (λ n. (n ≤ 8) × HasProjector p n) colours
palette p [] a b = tt
palette p (n ∷ colours) a b =
    let first = All-head (λ k. k ≤ greatest_colour p) n colours a in
    let top : greatest_colour p ≤ min (p.level - 1) 8 = (greatest_of_colours_law p).2 in
    let low : n ≤ 8 = omega (arith, first, top) in
    ((low, b.0), palette p colours (All-tail (λ k. k ≤ greatest_colour p) n colours a) b.1)

-- A FRAMED LOOP MORE
pub added_sum : AddedFramedLoopLaw
unfolding kirby omega_sum residue
added_sum p items framings label e diagram count new projectors =
    let m = p.modulus in
    let some : 0 < m = (let h = p.meets.modulus.0 in omega (arith, h)) in
    let cs = form_colours p in
    let old = sum_over (λ colours. deltas p colours *ℤ pos (framed p items framings colours)) (colour_lists cs (length (least_labels items))) in
    let w = sum_over (λ n. pos (delta p n) *ℤ pos (delta p n) *ℤ pos (twist p n e)) cs in
    let one_more : length (least_labels (items ++ Loop label ∷ [])) ≡ length (least_labels items) + 1 =
    ap length (least_labels-added items label diagram.sizes new.past) ∙ length-append (least_labels items) (label ∷ []) in
    ap (λ k. residue m (sum_over (λ colours. deltas p colours *ℤ pos (framed p (items ++ Loop label ∷ []) (framings ++ e ∷ []) colours)) (colour_lists cs k))) one_more
    ∙ same_residue {m = m} {y = pos (residue m old * residue m w)} some
    (congruent_trans (sums p items framings label e diagram count new cs (palette p cs (greatest_of_colours_law p).1 projectors))
    (congruent_times (residue_congruent m old some) (residue_congruent m w some)))
