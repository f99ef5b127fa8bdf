-- Signs under any direction. The ends of directed pieces give a direction of their items. Two directions of a diagram agree on a whole
-- component or nowhere on it, so a crossing's sign under the one is that under the other times a sign for each of its strands' components;
-- and the sums of signs between two components differ by the product of both components' signs.
use Rattle.std.proofs.Common.{◌≡◌, ◌≢◌, ℕ, zero, suc, ◌+◌, ◌*◌, ◌<◌, ◌≤◌, ◌==◌, ◌&&◌, ◌||◌, Bool, true, false, not, cond, List, [], ◌∷◌, length, map, get_or, slice_index, count_by, ℤ, pos, negsuc, ◌+ℤ◌, ◌*ℤ◌, ◌-ℤ◌, refl, sym, ap, ap₂, ◌∙◌, arith, inl, inr, eq-eqb}
use Rattle.std.specs.List.{AllByRecursion, range_with_len}
use Rattle.std.proofs.lemmas.Bool.{cases_Bool, eqb-true}
use Rattle.std.proofs.lemmas.Int.{ints}
use Rattle.std.proofs.lemmas.List.{get_or-map}
use Rattle.std.proofs.lemmas.List.Sums.{sum_by-cons}
use Rattle.ring_identities.proofs.Identities.{reads, by_ring}
use Rattle.pd_reader.specs.declared.item.Item.{Item}
use Rattle.list_lemmas.specs.Times.{times_in}
use Rattle.pd_reader.specs.Diagrams.{IsDiagram}
use Rattle.planar_check.specs.declared.sign.Sign.{Sign}
use Rattle.planar_check.specs.declared.sign.Signed.{Signed}
use Rattle.planar_check.specs.Places.{labels_by_place, other_place, crossings_of}
use Rattle.planar_check.specs.Components.{number_of}
use Rattle.planar_check.specs.Tables.{sign_value}
use Rattle.planar_check.specs.Signs.{enters, same_truth, sign_for, signed_at, signed_crossings, signs_between}
use Rattle.slide_strands.specs.declared.strand.Strand.{Strand}
use Rattle.slide_strands.specs.declared.strand.Piece.{Piece}
use Rattle.slide_strands.specs.declared.strand.Piece.TheVariants.{Crossed, Free}
use Rattle.slide_strands.specs.Strands.{alike, sign_of, delta, ordered_sum, ends, entered_at, strands, is_label, IsDirected}
use Rattle.planar_check.proofs.Reversal.{ArePlaced}
use Rattle.planar_check.specs.Directions.{opposite, IsDirection}
use Rattle.slide_laws.specs.Directed.{items_of}
use Rattle.slide_laws.proofs.DirectedItems.{standing-cons, ends_labels, is_end, count_ends, count_two, pair}
use Rattle.planar_check.proofs.Directions.{by_walks, walk_directions, first_of}
use Rattle.planar_check.proofs.OtherDirections.{between_cons}
use Rattle.planar_check.proofs.OppositePlaces.{placed, places_twice, other_label, opposite_later}
use Rattle.slide_laws.proofs.StartPieces.{ends_count}

abbrev once : Bool → ℕ
once b = cond b 1 0

abbrev pub one : Bool → ℤ
one b = cond b (pos 1) (negsuc 0)

abbrev pub no_end : ℕ × Bool
no_end = (0, false)

-- ---- the ends of pieces
at_opposite : (ps : List Piece) (p : ℕ) → p < length (ends ps) → entered_at ps (opposite p) ≡ not (entered_at ps p)
at_opposite [] p l = absurd (omega (arith, l))
at_opposite (Crossed u o ∷ ps) zero l = refl
at_opposite (Crossed u o ∷ ps) (suc zero) l = back_again o.ahead
  where
    back_again : (b : Bool) → b ≡ not (not b)
    back_again true = refl
    back_again false = refl
at_opposite (Crossed u o ∷ ps) (suc (suc zero)) l = back_again u.ahead
  where
    back_again : (b : Bool) → b ≡ not (not b)
    back_again true = refl
    back_again false = refl
at_opposite (Crossed u o ∷ ps) (suc (suc (suc zero))) l = refl
at_opposite (Crossed u o ∷ ps) (suc (suc (suc (suc p)))) l =
    ap (entered_at (Crossed u o ∷ ps)) (let e : opposite (suc (suc (suc (suc p)))) ≡ suc (suc (suc (suc (opposite p)))) = omega (arith, opposite_later p) in e)
    ∙ at_opposite ps p (omega (arith, l))
at_opposite (Free label ∷ ps) p l = at_opposite ps p l

-- each standing of a label is entered or left
both_counts : (x : ℕ) (es : List (ℕ × Bool)) → count_by (is_end true x) es + count_by (is_end false x) es ≡ times_in (map (λ (e : ℕ × Bool). e.0) es) x
both_counts x [] = refl
both_counts x (e ∷ es) =
    let a = sum_by-cons (λ (d : ℕ × Bool). once (is_end true x d)) e es in
    let b = sum_by-cons (λ (d : ℕ × Bool). once (is_end false x d)) e es in
    let c = standing-cons x e.0 (map (λ (d : ℕ × Bool). d.0) es) in
    omega (arith, a, b, c, both_counts x es, one_way (e.0 == x) e.1)
  where
    one_way : (t d : Bool) → once (t && alike true d) + once (t && alike false d) ≡ once t
    one_way true true = refl
    one_way true false = refl
    one_way false d = refl

is_not : (a b : Bool) → (a ≡ b → ⊥) → a ≡ not b
is_not true true h = absurd (h refl)
is_not true false h = refl
is_not false true h = refl
is_not false false h = absurd (h refl)

alike_self : (b : Bool) → alike b b ≡ true
alike_self true = refl
alike_self false = refl

module _ (its : List Item) (diagram : IsDiagram its) (ps : List Piece) (same : items_of ps ≡ its) (directed : IsDirected (strands ps)) where
  abbrev ls : List ℕ
  ls = labels_by_place (crossings_of its)

  pub long : length (ends ps) ≡ length ls
  long = ends_count ps ∙ ap (λ (xs : List Item). length (labels_by_place (crossings_of xs))) same

  labels_are : map (λ (e : ℕ × Bool). e.0) (ends ps) ≡ ls
  labels_are = sym (ends_labels ps) ∙ ap (λ (xs : List Item). labels_by_place (crossings_of xs)) same

  pub end_label : (p : ℕ) → p < length ls → (get_or (ends ps) p no_end).0 ≡ slice_index ls p
  end_label p l = sym (get_or-map (λ (e : ℕ × Bool). e.0) (ends ps) p no_end 0 (omega (arith, l, long))) ∙ ap (λ (xs : List ℕ). slice_index xs p) labels_are

  -- each label is entered once, and left once
  ends_once : (into : Bool) (p : ℕ) → p < length ls → count_by (is_end into (slice_index ls p)) (ends ps) ≡ 1
  ends_once into p l =
      let x = slice_index ls p in
      let two : count_by (is_end true x) (ends ps) + count_by (is_end false x) (ends ps) ≡ 2 = both_counts x (ends ps) ∙ (ap (λ (xs : List ℕ). times_in xs x) labels_are ∙ places_twice its diagram p l) in
      let even : count_by (is_end true x) (ends ps) ≡ count_by (is_end false x) (ends ps) = count_ends true x ps ∙ (directed (is_label x) ∙ sym (count_ends false x ps)) in
      by_side x into two even
    where
      by_side : (x : ℕ) (b : Bool) → count_by (is_end true x) (ends ps) + count_by (is_end false x) (ends ps) ≡ 2 → count_by (is_end true x) (ends ps) ≡ count_by (is_end false x) (ends ps) → count_by (is_end b x) (ends ps) ≡ 1
      by_side x true t e = omega (arith, t, e)
      by_side x false t e = omega (arith, t, e)

  end_passes : (b : Bool) (x p : ℕ) → p < length ls → slice_index ls p ≡ x → entered_at ps p ≡ b → is_end b x (get_or (ends ps) p no_end) ≡ true
  end_passes b x p l e t = rw (eq-eqb (get_or (ends ps) p no_end).0 x (end_label p l ∙ e), t) (alike_self b)

  -- THE DIRECTION OF THE ENDS
  pub inherited : IsDirection (crossings_of its) (entered_at ps)
  inherited = record {
    straight = λ p l. at_opposite ps p (omega (arith, l, long));
    across = λ p l.
        let q = other_place ls p in
        let there = ArePlaced.other_within (placed its diagram) p l in
        let apart = ArePlaced.other_apart (placed its diagram) p l in
        is_not (entered_at ps q) (entered_at ps p) (λ e.
        let x = slice_index ls p in
        let two = count_two (is_end (entered_at ps p) x) no_end (ends ps) q p (omega (arith, there, long)) (omega (arith, l, long)) apart
        (end_passes (entered_at ps p) x q there (other_label ls p l (places_twice its diagram p l)) e) (end_passes (entered_at ps p) x p l refl refl) in
        absurd (omega (arith, two, ends_once (entered_at ps p) p l)));
  }

  -- by the walks, and the direction at the start of the place's component
  pub agree_on : (p : ℕ) → p < length ls → entered_at ps p ≡ same_truth (enters its p) (entered_at ps (first_of its diagram p))
  agree_on p l = by_walks its diagram (entered_at ps) inherited p l

-- the walk of a component comes in at the first place of its least label
pub first_entered : (its : List Item) (diagram : IsDiagram its) (p : ℕ) → p < length (labels_by_place (crossings_of its)) → enters its (first_of its diagram p) ≡ true
first_entered its diagram p l = kept (enters its p) (enters its (first_of its diagram p)) (by_walks its diagram (enters its) (walk_directions its diagram) p l)
  where
    kept : (x y : Bool) → x ≡ same_truth x y → y ≡ true
    kept true y h = sym h
    kept false true h = refl
    kept false false h = absurd cc

-- ---- sums of signs, ordered
abbrev pub list_sum : ℕ → ℕ → List Signed → ℤ
list_sum a b [] = pos 0
list_sum a b (c ∷ cs) = (sign_value c.sign *ℤ (delta c.under a *ℤ delta c.over b)) +ℤ list_sum a b cs

-- the crossings with their numbers
abbrev pub Sequence : (ℕ → Strand → Strand → Type 0) → ℕ → List Piece → Type 0
Sequence P k [] = Unit {0}
Sequence P k (Crossed u o ∷ ps) = P k u o × Sequence P (k + 1) ps
Sequence P k (Free label ∷ ps) = Sequence P k ps

abbrev pub crossing_count : List Piece → ℕ
crossing_count [] = 0
crossing_count (Crossed u o ∷ ps) = suc (crossing_count ps)
crossing_count (Free label ∷ ps) = crossing_count ps

count_crossings : (ps : List Piece) → crossing_count ps ≡ length (crossings_of (items_of ps))
count_crossings [] = refl
count_crossings (Crossed u o ∷ ps) = ap (λ (n : ℕ). suc n) (count_crossings ps)
count_crossings (Free label ∷ ps) = count_crossings ps

module _ (whole : List Piece) (Q : Strand → Type 0) where
  -- the crossing's ends, among those of all
  pub record Stands (k : ℕ) (u o : Strand) : Type 0 where
    pub within : 4 * k + 4 ≤ length (ends whole)
    pub at_a : get_or (ends whole) (4 * k) no_end ≡ pair u.from u.ahead
    pub at_b : get_or (ends whole) (4 * k + 1) no_end ≡ pair o.to (not o.ahead)
    pub at_d : get_or (ends whole) (4 * k + 3) no_end ≡ pair o.from o.ahead
    pub of_under : Q u
    pub of_over : Q o

  sequence : (k : ℕ) (ps : List Piece) → 4 * k + length (ends ps) ≡ length (ends whole) → ((i : ℕ) → i < length (ends ps) → get_or (ends ps) i no_end ≡ get_or (ends whole) (4 * k + i) no_end) →
      AllByRecursion Q (strands ps) → Sequence Stands k ps
  sequence k [] e h q = tt
  sequence k (Crossed u o ∷ ps) e h q = (
    record {
      within = omega (arith, e);
      at_a = ap (λ (n : ℕ). get_or (ends whole) n no_end) (let z : 4 * k ≡ 4 * k + 0 = omega arith in z) ∙ sym (h 0 (omega arith));
      at_b = sym (h 1 (omega arith));
      at_d = sym (h 3 (omega arith));
      of_under = q.0;
      of_over = q.1.0;
    },
    sequence (k + 1) ps (omega (arith, e)) (λ i l. h (suc (suc (suc (suc i)))) (omega (arith, l)) ∙ ap (λ (n : ℕ). get_or (ends whole) n no_end) (let z : 4 * k + suc (suc (suc (suc i))) ≡ 4 * (k + 1) + i = omega arith in z)) q.1.1,
  )
  sequence k (Free label ∷ ps) e h q = sequence k ps e h q

  pub all_stand : AllByRecursion Q (strands whole) → Sequence Stands 0 whole
  all_stand q = sequence 0 whole (omega arith) (λ i l. ap (λ (n : ℕ). get_or (ends whole) n no_end) (let z : i ≡ 4 * 0 + i = omega arith in z)) q

undone : (a f : Bool) → one a ≡ one (same_truth a f) *ℤ one f
undone true true = refl
undone true false = refl
undone false true = refl
undone false false = refl

value_of : (x y : Bool) → sign_value (sign_for (same_truth x y)) ≡ one x *ℤ one y
value_of true true = refl
value_of true false = refl
value_of false true = refl
value_of false false = refl

sign_product : (x y : Bool) → sign_of x y ≡ one x *ℤ one y
sign_product true true = refl
sign_product true false = refl
sign_product false true = refl
sign_product false false = refl

rearranged : (x y s t d e : ℤ) → ((x *ℤ s) *ℤ (y *ℤ t)) *ℤ (d *ℤ e) ≡ (x *ℤ y) *ℤ ((s *ℤ d) *ℤ (t *ℤ e))
rearranged x y s t d e = by_ring (x ∷ y ∷ s ∷ t ∷ d ∷ e ∷ []) (search reads depth 30) (search reads depth 30) refl

gathered : (x s t d e : ℤ) → x *ℤ ((s *ℤ d) *ℤ (t *ℤ e)) ≡ (s *ℤ t) *ℤ (x *ℤ (d *ℤ e))
gathered x s t d e = by_ring (x ∷ s ∷ t ∷ d ∷ e ∷ []) (search reads depth 30) (search reads depth 30) refl

spread : (s x y : ℤ) → s *ℤ x +ℤ s *ℤ y ≡ s *ℤ (x +ℤ y)
spread s x y = by_ring (s ∷ x ∷ y ∷ []) (search reads depth 30) (search reads depth 30) refl

nothing_times : (s : ℤ) → pos 0 ≡ s *ℤ pos 0
nothing_times s = omega (arith, ints)

-- a sign that counts only at its own component
at_own : (F : ℕ → ℤ) (c a : ℕ) → F c *ℤ delta c a ≡ F a *ℤ delta c a
at_own F c a = elim (cases_Bool (c == a)) [
  | inl t ↦ ap (λ (d : ℕ). F d *ℤ delta c a) (eqb-true c a t)
  | inr t ↦ (let none : delta c a ≡ pos 0 = ap (λ (b : Bool). cond b (pos 1) (pos 0)) t in ap (λ z. F c *ℤ z) none ∙ (sym (nothing_times (F c)) ∙ (nothing_times (F a) ∙ sym (ap (λ z. F a *ℤ z) none))))
]

module _ (its : List Item) (diagram : IsDiagram its) (whole : List Piece) (same : items_of whole ≡ its) (directed : IsDirected (strands whole))
    (numbers : AllByRecursion (λ s. (number_of its s.from ≡ s.component) × (number_of its s.to ≡ s.component)) (strands whole))
    (F : ℕ → ℤ) (flags : (p : ℕ) → p < length (labels_by_place (crossings_of its)) → one (entered_at whole (first_of its diagram p)) ≡ F (number_of its (slice_index (labels_by_place (crossings_of its)) p))) where
  abbrev here : List ℕ
  here = labels_by_place (crossings_of its)

  abbrev Numbered : Strand → Type 0
  Numbered s = (number_of its s.from ≡ s.component) × (number_of its s.to ≡ s.component)

  -- the direction at a place, by that of the end and the sign of its component
  turned_at : (p c : ℕ) (b : Bool) → p < length here → entered_at whole p ≡ b → number_of its (slice_index here p) ≡ c → one (enters its p) ≡ one b *ℤ F c
  turned_at p c b l e n =
      undone (enters its p) (entered_at whole (first_of its diagram p))
      ∙ ap₂ (λ x y. x *ℤ y) (ap one (sym (agree_on its diagram whole same directed p l) ∙ e)) (flags p l ∙ ap F n)

  one_crossing : (a b k : ℕ) (u o : Strand) → Stands whole Numbered k u o →
      sign_value (signed_at its k).sign *ℤ (delta (signed_at its k).under a *ℤ delta (signed_at its k).over b) ≡ (F a *ℤ F b) *ℤ (sign_of u.ahead o.ahead *ℤ (delta u.component a *ℤ delta o.component b))
  one_crossing a b k u o s =
      let w = s.within in
      let all = long its diagram whole same directed in
      let la : 4 * k < length here = omega (arith, w, all) in
      let lb : 4 * k + 1 < length here = omega (arith, w, all) in
      let ld : 4 * k + 3 < length here = omega (arith, w, all) in
      let label : (p : ℕ) (x : ℕ) (c : Bool) → p < length here → get_or (ends whole) p no_end ≡ pair x c → slice_index here p ≡ x = λ p x c l e. sym (end_label its diagram whole same directed p l) ∙ ap (λ (f : ℕ × Bool). f.0) e in
      let under_is : (signed_at its k).under ≡ u.component = ap (number_of its) (label (4 * k) u.from u.ahead la s.at_a) ∙ s.of_under.0 in
      let over_is : (signed_at its k).over ≡ o.component = ap (number_of its) (label (4 * k + 1) o.to (not o.ahead) lb s.at_b) ∙ s.of_over.1 in
      let from_a = turned_at (4 * k) u.component u.ahead la (ap (λ (f : ℕ × Bool). f.1) s.at_a) under_is in
      let from_d = turned_at (4 * k + 3) o.component o.ahead ld (ap (λ (f : ℕ × Bool). f.1) s.at_d) (ap (number_of its) (label (4 * k + 3) o.from o.ahead ld s.at_d) ∙ s.of_over.0) in
      ap₂ (λ x y. x *ℤ y) (value_of (enters its (4 * k)) (enters its (4 * k + 3)) ∙ ap₂ (λ x y. x *ℤ y) from_a from_d) (ap₂ (λ x y. delta x a *ℤ delta y b) under_is over_is)
      ∙ (rearranged (one u.ahead) (one o.ahead) (F u.component) (F o.component) (delta u.component a) (delta o.component b)
      ∙ (ap₂ (λ x y. (one u.ahead *ℤ one o.ahead) *ℤ (x *ℤ y)) (at_own F u.component a) (at_own F o.component b)
      ∙ (gathered (one u.ahead *ℤ one o.ahead) (F a) (F b) (delta u.component a) (delta o.component b)
      ∙ ap (λ z. (F a *ℤ F b) *ℤ (z *ℤ (delta u.component a *ℤ delta o.component b))) (sym (sign_product u.ahead o.ahead)))))

  sum_from : (a b k : ℕ) (ps : List Piece) → Sequence (Stands whole Numbered) k ps → list_sum a b (map (signed_at its) (range_with_len k (crossing_count ps))) ≡ (F a *ℤ F b) *ℤ ordered_sum a b ps
  sum_from a b k [] q = nothing_times (F a *ℤ F b)
  sum_from a b k (Crossed u o ∷ ps) q =
      ap₂ (λ x y. x +ℤ y) (one_crossing a b k u o q.0) (sum_from a b (k + 1) ps q.1)
      ∙ spread (F a *ℤ F b) (sign_of u.ahead o.ahead *ℤ (delta u.component a *ℤ delta o.component b)) (ordered_sum a b ps)
  sum_from a b k (Free label ∷ ps) q = sum_from a b k ps q

  -- THE SUMS OF SIGNS
  pub signed_sum : (a b : ℕ) → list_sum a b (signed_crossings its) ≡ (F a *ℤ F b) *ℤ ordered_sum a b whole
  unfolding signed_crossings
  signed_sum a b =
      ap (λ (n : ℕ). list_sum a b (map (signed_at its) (range_with_len 0 n))) (ap (λ (xs : List Item). length (crossings_of xs)) (sym same) ∙ sym (count_crossings whole))
      ∙ sum_from a b 0 whole (all_stand whole Numbered numbers)

-- ---- sums between two components
abbrev digit : Bool → ℤ
digit b = cond b (pos 1) (pos 0)

either_order : (p q r s : Bool) (z : ℤ) → ((p && r) ≡ true → ⊥) → cond ((p && q) || (r && s)) z (pos 0) ≡ (z *ℤ (digit p *ℤ digit q)) +ℤ (z *ℤ (digit r *ℤ digit s))
either_order true q true s z h = absurd (h refl)
either_order true true false true z h = omega (arith, ints)
either_order true true false false z h = omega (arith, ints)
either_order true false false true z h = omega (arith, ints)
either_order true false false false z h = omega (arith, ints)
either_order false true true true z h = omega (arith, ints)
either_order false true true false z h = omega (arith, ints)
either_order false true false true z h = omega (arith, ints)
either_order false true false false z h = omega (arith, ints)
either_order false false true true z h = omega (arith, ints)
either_order false false true false z h = omega (arith, ints)
either_order false false false true z h = omega (arith, ints)
either_order false false false false z h = omega (arith, ints)

twice_same : (p q : Bool) (z : ℤ) → cond ((p && q) || (p && q)) z (pos 0) ≡ z *ℤ (digit p *ℤ digit q)
twice_same true true z = omega (arith, ints)
twice_same true false z = omega (arith, ints)
twice_same false true z = omega (arith, ints)
twice_same false false z = omega (arith, ints)

regroup : (x y u v : ℤ) → (x +ℤ y) +ℤ (u +ℤ v) ≡ (x +ℤ u) +ℤ (y +ℤ v)
regroup x y u v = omega (arith, ints)

both_true : (p q : Bool) → (p && q) ≡ true → (p ≡ true) × (q ≡ true)
both_true true q h = (refl, h)
both_true false q h = absurd cc

-- between two components: both orders
pub between_apart : (a b : ℕ) → a ≢ b → (cs : List Signed) → signs_between a b cs ≡ list_sum a b cs +ℤ list_sum b a cs
between_apart a b apart [] = refl
between_apart a b apart (c ∷ cs) =
    between_cons a b c cs
    ∙ (ap₂ (λ x y. x +ℤ y)
    (either_order (c.under == a) (c.over == b) (c.under == b) (c.over == a) (sign_value c.sign) (λ h.
    let two = both_true (c.under == a) (c.under == b) h in apart (sym (eqb-true c.under a two.0) ∙ eqb-true c.under b two.1)))
    (between_apart a b apart cs)
    ∙ regroup (sign_value c.sign *ℤ (delta c.under a *ℤ delta c.over b)) (sign_value c.sign *ℤ (delta c.under b *ℤ delta c.over a)) (list_sum a b cs) (list_sum b a cs))

-- of a component with itself
pub between_self : (a : ℕ) (cs : List Signed) → signs_between a a cs ≡ list_sum a a cs
between_self a [] = refl
between_self a (c ∷ cs) = between_cons a a c cs ∙ ap₂ (λ x y. x +ℤ y) (twice_same (c.under == a) (c.over == a) (sign_value c.sign)) (between_self a cs)
