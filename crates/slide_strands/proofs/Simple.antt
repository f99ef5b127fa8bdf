-- Each label stands once among the ends that are entered, or is a loop's: kept by curls, by the doubling and by the band.
use Rattle.std.proofs.Common.{◌≡◌, ◌≢◌, ◌⊎◌, ℕ, zero, suc, ◌+◌, ◌*◌, ◌<◌, ◌≤◌, ◌==◌, Bool, true, false, cond, List, [], ◌∷◌, refl, sym, ap, subst, ◌∙◌, arith, inl, inr, ⊎_elim}
use Rattle.std.specs.List.{AllByRecursion}
use Rattle.std.proofs.lemmas.Bool.{cases_Bool, cases_order, eqb-true, eq-eqb, ne_eqb}
use Rattle.slide_strands.specs.declared.strand.Strand.{Strand}
use Rattle.slide_strands.specs.declared.strand.Piece.{Piece}
use Rattle.slide_strands.specs.declared.strand.Piece.TheVariants.{Crossed, Free}
use Rattle.slide_strands.specs.Strands.{alike, strands, end_of, end_sum, strand_sum, is_label, IsDirected}
use Rattle.slide_strands.specs.Doubling.{Slide, copy, columns, rows, inner, doubled, exchanged, banded, curled, curls}
use Rattle.slide_strands.specs.Components.{Ready}
use Rattle.slide_strands.proofs.Curls.{kept_sum, curl_ready}
use Rattle.slide_strands.proofs.Directions.{doubled_ends, side_ends, copied_weight, inner_weight, inner_total, copy_end}
use Rattle.slide_strands.proofs.Frees.{free, free_on_side, free_curled, free_doubled}
use Rattle.slide_strands.proofs.Joins.{every_weaker}
use Rattle.slide_strands.proofs.Starts.{total_none, label_below, none_where, end_is}

-- how often the label is a loop's
abbrev pub free_times : ℕ → List ℕ → ℕ
free_times x [] = 0
free_times x (l ∷ ls) = is_label x l + free_times x ls

abbrev pub standing : ℕ → List Piece → ℕ
standing x ps = end_sum true (is_label x) (strands ps) + free_times x (free ps)

-- each label stands at most once so, and none that is 0 or from n on
pub record IsSimple (n : ℕ) (ps : List Piece) : Type 0 where
  pub once : (x : ℕ) → standing x ps ≤ 1
  pub none_above : (x : ℕ) → n ≤ x → standing x ps ≡ 0
  pub none_zero : standing 0 ps ≡ 0

by_side : (ss : List Strand) → IsDirected ss → (b c : Bool) (w : ℕ → ℕ) → end_sum b w ss ≡ end_sum c w ss
by_side ss d true true w = refl
by_side ss d true false w = d w
by_side ss d false true w = sym (d w)
by_side ss d false false w = refl

label_apart : (x y : ℕ) → y ≢ x → is_label x y ≡ 0
label_apart x y h = ap (λ (b : Bool). cond b 1 0) (ne_eqb y x h)

label_once : (x y : ℕ) → is_label x y ≤ 1
label_once x y = by_test (y == x)
  where
    by_test : (b : Bool) → cond b 1 0 ≤ 1
    by_test true = omega arith
    by_test false = omega arith

-- ---- curls
two_labels : (x n : ℕ) → is_label x n + is_label x (n + 1) ≤ 1
two_labels x n = elim (cases_Bool (n == x)) [
  | inl h ↦ (let is = eqb-true n x h in let other = label_apart x (n + 1) (λ e. absurd (omega (arith, e, is))) in omega (arith, other, label_once x n))
  | inr h ↦ (let none : is_label x n ≡ 0 = ap (λ (b : Bool). cond b 1 0) h in omega (arith, none, label_once x (n + 1)))
]

curl_simple : (plus : Bool) (f j : ℕ) (entered : Bool) (n : ℕ) (ps : List Piece) → IsDirected (strands ps) → IsDirected (strands (curled plus f j entered n ps)) → 0 < n → IsSimple n ps → IsSimple (n + 2) (curled plus f j entered n ps)
curl_simple plus f j entered n ps d d' some s =
    let new = curled plus f j entered n ps in
    let moved : (x : ℕ) → standing x new ≡ standing x ps + (is_label x n + is_label x (n + 1)) =
    λ x. let a = by_side (strands new) d' true entered (is_label x) in let b = kept_sum plus f j entered n ps (is_label x) in let c = by_side (strands ps) d entered true (is_label x) in
    let e = ap (free_times x) (free_curled plus f j entered n ps) in omega (arith, a, b, c, e) in
    record {
      once = λ x. elim (cases_Bool (n == x)) [
        | inl h ↦ (let is = eqb-true n x h in let none = s.none_above x (omega (arith, is)) in omega (arith, moved x, none, two_labels x n))
        | inr h ↦ elim (cases_Bool (n + 1 == x)) [
          | inl k ↦ (let is = eqb-true (n + 1) x k in let none = s.none_above x (omega (arith, is)) in omega (arith, moved x, none, two_labels x n))
          | inr k ↦ (let a : is_label x n ≡ 0 = ap (λ (b : Bool). cond b 1 0) h in let b : is_label x (n + 1) ≡ 0 = ap (λ (b : Bool). cond b 1 0) k in let o = s.once x in omega (arith, moved x, a, b, o))
        ]
      ];
      none_above = λ x l. let none = s.none_above x (omega (arith, l)) in
          let a = label_apart x n (λ e. absurd (omega (arith, e, l))) in let b = label_apart x (n + 1) (λ e. absurd (omega (arith, e, l))) in omega (arith, moved x, none, a, b);
      none_zero = let none = s.none_zero in let a = label_apart 0 n (λ e. absurd (omega (arith, e, some))) in let b = label_apart 0 (n + 1) (λ e. absurd (omega (arith, e))) in omega (arith, moved 0, none, a, b);
    }

pub curls_simple : (plus : Bool) (f j : ℕ) (entered : Bool) (class root : ℕ → ℕ) (e i none k n : ℕ) (ps : List Piece) → Ready class root e f i j none n ps → 0 < n → IsSimple n ps → IsSimple (n + 2 * k) (curls plus f j entered k n ps)
curls_simple plus f j entered class root e i none zero n ps r some s = subst (λ (m : ℕ). IsSimple m ps) (let h : n ≡ n + 2 * zero = omega arith in h) s
curls_simple plus f j entered class root e i none (suc k) n ps r some s =
    let next = curl_ready plus f j entered n ps class root e i none r in
    subst (λ (m : ℕ). IsSimple m (curls plus f j entered (suc k) n ps)) (let h : n + 2 + 2 * k ≡ n + 2 * suc k = omega arith in h)
    (curls_simple plus f j entered class root e i none k (n + 2) (curled plus f j entered n ps) next (omega (arith, some)) (curl_simple plus f j entered n ps r.has.directed next.has.directed some s))

-- ---- inner edges
abbrev pub inner_count : Slide → List Piece → ℕ
inner_count slide [] = 0
inner_count slide (Crossed u o ∷ ps) = inner (columns slide u) (rows slide o) + inner_count slide ps
inner_count slide (Free label ∷ ps) = inner_count slide ps

-- the inner edges of a grid: each label once, and none from the next crossing's on
pub record IsInner (x n w c : ℕ) : Type 0 where
  pub once : w ≤ 1
  pub past : n + c ≤ x → w ≡ 0

four_labels : (x n : ℕ) → IsInner x n (is_label x n + is_label x (n + 1) + (is_label x (n + 2) + is_label x (n + 3))) 4
four_labels x n =
    let no : (k : ℕ) → n + k ≢ x → is_label x (n + k) ≡ 0 = λ k h. label_apart x (n + k) h in
    record {
      once = elim (cases_Bool (n == x)) [
        | inl h ↦ (let is = eqb-true n x h in omega (arith, label_once x n, no 1 (λ e. absurd (omega (arith, e, is))), no 2 (λ e. absurd (omega (arith, e, is))), no 3 (λ e. absurd (omega (arith, e, is)))))
        | inr h ↦ (let a : is_label x n ≡ 0 = ap (λ (b : Bool). cond b 1 0) h in elim (cases_Bool (n + 1 == x)) [
          | inl k ↦ (let is = eqb-true (n + 1) x k in omega (arith, a, label_once x (n + 1), no 2 (λ e. absurd (omega (arith, e, is))), no 3 (λ e. absurd (omega (arith, e, is)))))
          | inr k ↦ (let b : is_label x (n + 1) ≡ 0 = ap (λ (b : Bool). cond b 1 0) k in elim (cases_Bool (n + 2 == x)) [
            | inl m ↦ (let is = eqb-true (n + 2) x m in omega (arith, a, b, label_once x (n + 2), no 3 (λ e. absurd (omega (arith, e, is)))))
            | inr m ↦ (let c : is_label x (n + 2) ≡ 0 = ap (λ (b : Bool). cond b 1 0) m in omega (arith, a, b, c, label_once x (n + 3)))
          ])
        ])
      ];
      past = λ l. let z : is_label x n ≡ 0 = label_apart x n (λ e. absurd (omega (arith, e, l))) in omega (arith, z, no 1 (λ e. absurd (omega (arith, e, l))), no 2 (λ e. absurd (omega (arith, e, l))), no 3 (λ e. absurd (omega (arith, e, l))));
    }

one_label : (x n : ℕ) → IsInner x n (is_label x n) 1
one_label x n = record { once = label_once x n; past = λ l. label_apart x n (λ e. absurd (omega (arith, e, l))) }

grid_inner : (x n : ℕ) (us os : List Strand) → IsInner x n (inner_weight (is_label x) n us os) (inner us os)
grid_inner x n [] os = one_label x n
grid_inner x n (u ∷ []) [] = one_label x n
grid_inner x n (u ∷ []) (o ∷ []) = record { once = omega arith; past = λ l. refl }
grid_inner x n (u ∷ []) (o ∷ o' ∷ os) = one_label x n
grid_inner x n (u ∷ u' ∷ []) [] = one_label x n
grid_inner x n (u ∷ u' ∷ []) (o ∷ []) = one_label x n
grid_inner x n (u ∷ u' ∷ []) (o ∷ o' ∷ []) = four_labels x n
grid_inner x n (u ∷ u' ∷ []) (o ∷ o' ∷ o'' ∷ os) = one_label x n
grid_inner x n (u ∷ u' ∷ u'' ∷ us) os = one_label x n

all_inner : (slide : Slide) (x n : ℕ) (ps : List Piece) → IsInner x n (inner_total (is_label x) slide n ps) (inner_count slide ps)
all_inner slide x n [] = record { once = omega arith; past = λ l. refl }
all_inner slide x n (Free label ∷ ps) = all_inner slide x n ps
all_inner slide x n (Crossed u o ∷ ps) =
    let us = columns slide u in
    let os = rows slide o in
    let next = n + inner us os in
    let here = grid_inner x n us os in
    let rest = all_inner slide x next ps in
    let a = here.once in
    let b = rest.once in
    record {
      once = ⊎_elim
          (λ e. let h = here.past (omega (arith, e)) in omega (arith, h, b))
          (λ o. ⊎_elim (λ l. let none = total_none (is_label x) slide next ps (label_below x next l) in omega (arith, a, none)) (λ l. let h = here.past (omega (arith, l)) in omega (arith, h, b)) o)
          (cases_order x next);
      past = λ l. let h = here.past (omega (arith, l)) in let k = rest.past (omega (arith, l)) in omega (arith, h, k);
    }

-- ---- the copies
below_where : (F G : Strand → ℕ) (ss : List Strand) → AllByRecursion (λ s. F s ≤ G s) ss → strand_sum F ss ≤ strand_sum G ss
below_where F G [] h = omega arith
below_where F G (s ∷ ss) h = let a = h.0 in let b = below_where F G ss h.1 in omega (arith, a, b)

module _ (slide : Slide) (m n : ℕ) (ps : List Piece) (simple : IsSimple m ps) (back : ℕ → ℕ) (low : 0 < m) (high : m ≤ n)
    (copies : AllByRecursion (λ s. s.component ≡ slide.over →
    ((m ≤ slide.copied s.from) × (slide.copied s.from < n) × (back (slide.copied s.from) ≡ s.from)) × ((m ≤ slide.copied s.to) × (slide.copied s.to < n) × (back (slide.copied s.to) ≡ s.to))) (strands ps))
    (directed : IsDirected (strands ps)) where
  abbrev ss : List Strand
  ss = strands ps

  abbrev b : Bool
  b = alike slide.along true

  abbrev Copies : Strand → Type 0
  Copies s = s.component ≡ slide.over →
      ((m ≤ slide.copied s.from) × (slide.copied s.from < n) × (back (slide.copied s.from) ≡ s.from)) × ((m ≤ slide.copied s.to) × (slide.copied s.to < n) × (back (slide.copied s.to) ≡ s.to))

  -- what is known of the end of a copied strand
  at_end : (s : Strand) → Copies s → s.component ≡ slide.over → (m ≤ slide.copied (end_of b s)) × (slide.copied (end_of b s) < n) × (back (slide.copied (end_of b s)) ≡ end_of b s)
  at_end s k o = let c = k o in end_is (λ x. (m ≤ slide.copied x) × (slide.copied x < n) × (back (slide.copied x) ≡ x)) b s c.0 c.1

  copy_is : (x : ℕ) (s : Strand) → (s.component == slide.over) ≡ true → copied_weight true (is_label x) slide s ≡ is_label x (slide.copied (end_of b s))
  copy_is x s h = ap (λ (t : Bool). cond t (is_label x (end_of true (copy slide s))) 0) h ∙ ap (is_label x) (copy_end true slide s)

  no_copy : (x : ℕ) (s : Strand) → (s.component == slide.over) ≡ false → copied_weight true (is_label x) slide s ≡ 0
  no_copy x s h = ap (λ (t : Bool). cond t (is_label x (end_of true (copy slide s))) 0) h

  -- outside of the copies' labels
  no_copies : (x : ℕ) → (x < m) ⊎ (n ≤ x) → strand_sum (copied_weight true (is_label x) slide) ss ≡ 0
  no_copies x out = none_where (copied_weight true (is_label x) slide) ss (every_weaker Copies (λ s. copied_weight true (is_label x) slide s ≡ 0) one ss copies)
    where
      one : (s : Strand) → Copies s → copied_weight true (is_label x) slide s ≡ 0
      one s k = elim (cases_Bool (s.component == slide.over)) [
        | inl h ↦ (let c = at_end s k (eqb-true s.component slide.over h) in let c0 = c.0 in let c1 = c.1 in
            copy_is x s h ∙ label_apart x (slide.copied (end_of b s)) (λ e. ⊎_elim (λ l. absurd (omega (arith, e, l, c0))) (λ l. absurd (omega (arith, e, l, c1))) out))
        | inr h ↦ no_copy x s h
      ]

  -- a label is the copy of at most one
  copies_once : (x : ℕ) → strand_sum (copied_weight true (is_label x) slide) ss ≤ end_sum b (is_label (back x)) ss
  copies_once x = below_where (copied_weight true (is_label x) slide) (λ s. is_label (back x) (end_of b s)) ss
      (every_weaker Copies (λ s. copied_weight true (is_label x) slide s ≤ is_label (back x) (end_of b s)) one ss copies)
    where
      one : (s : Strand) → Copies s → copied_weight true (is_label x) slide s ≤ is_label (back x) (end_of b s)
      one s k = elim (cases_Bool (s.component == slide.over)) [
        | inl h ↦ (
            let c = at_end s k (eqb-true s.component slide.over h) in
            let y = end_of b s in
            let is = copy_is x s h in
            elim (cases_Bool (slide.copied y == x)) [
              | inl q ↦ (
                  let same : y ≡ back x = sym c.2 ∙ ap back (eqb-true (slide.copied y) x q) in
                  let yes : is_label (back x) y ≡ 1 = ap (λ (t : Bool). cond t 1 0) (eq-eqb y (back x) same) in
                  omega (arith, is, label_once x (slide.copied y), yes))
              | inr q ↦ (let none : is_label x (slide.copied y) ≡ 0 = ap (λ (t : Bool). cond t 1 0) q in omega (arith, is, none))
            ])
        | inr h ↦ (let none = no_copy x s h in omega (arith, none))
      ]

  doubled_simple : IsSimple (n + inner_count slide ps) (doubled slide n ps)
  doubled_simple =
      let whole : (x : ℕ) → standing x (doubled slide n ps) ≡ (standing x ps + strand_sum (copied_weight true (is_label x) slide) ss) + inner_total (is_label x) slide n ps =
      λ x. let a = doubled_ends true (is_label x) slide n ps in let f = ap (free_times x) (free_doubled slide n ps) in omega (arith, a, f) in
      record {
        once = λ x.
            let inside = all_inner slide x n ps in
            let i1 = inside.once in
            let o = simple.once x in
            elim (cases_order_two x) [
              | inl l ↦ (let none = no_copies x (inl l) in let nothing = total_none (is_label x) slide n ps (label_below x n (omega (arith, l, high))) in omega (arith, whole x, none, nothing, o))
              | inr r ↦ elim r [
                | inl q ↦ (
                    let l0 = q.0 in
                    let l1 = q.1 in
                    let empty = simple.none_above x l0 in
                    let nothing = total_none (is_label x) slide n ps (label_below x n l1) in
                    let some = copies_once x in
                    let at_most = simple.once (back x) in
                    let turn = by_side ss directed b true (is_label (back x)) in
                    omega (arith, whole x, empty, nothing, some, at_most, turn))
                | inr l ↦ (let empty = simple.none_above x (omega (arith, l, high)) in let none = no_copies x (inr l) in omega (arith, whole x, empty, none, i1))
              ]
            ];
        none_above = λ x l.
            let inside = all_inner slide x n ps in
            let past = inside.past l in
            let empty = simple.none_above x (omega (arith, l, high)) in
            let none = no_copies x (inr (omega (arith, l))) in
            omega (arith, whole x, past, empty, none);
        none_zero =
            let empty = simple.none_zero in
            let none = no_copies 0 (inl low) in
            let nothing = total_none (is_label 0) slide n ps (label_below 0 n (omega (arith, low, high))) in
            omega (arith, whole 0, empty, none, nothing);
      }
    where
      cases_order_two : (x : ℕ) → (x < m) ⊎ (((m ≤ x) × (x < n)) ⊎ (n ≤ x))
      cases_order_two x =
          ⊎_elim
          (λ e. ⊎_elim (λ o. inr (inr (omega (arith, e, o)))) (λ o. ⊎_elim (λ l. inr (inl ((omega (arith, e)), (omega (arith, e, l))))) (λ l. inr (inr (omega (arith, e, l)))) o) (cases_order m n))
          (λ o. ⊎_elim (λ l. inl l)
          (λ l. ⊎_elim (λ e. inr (inr (omega (arith, e)))) (λ p. ⊎_elim (λ k. inr (inl ((omega (arith, l)), k))) (λ k. inr (inr (omega (arith, k)))) p) (cases_order x n)) o)
          (cases_order x m)

  -- THE SLIDE
  pub slid_simple : (side : Bool) (e g : ℕ) → IsDirected (strands (doubled slide n ps)) → IsDirected (strands (banded side e g (doubled slide n ps))) → IsSimple (n + inner_count slide ps) (banded side e g (doubled slide n ps))
  slid_simple side e g d d' =
      let s = doubled_simple in
      let new = banded side e g (doubled slide n ps) in
      let same : (x : ℕ) → standing x new ≡ standing x (doubled slide n ps) =
      λ x. let a = by_side (strands new) d' true side (is_label x) in let c = by_side (strands (doubled slide n ps)) d side true (is_label x) in
      let k = kept side x in let f = ap (free_times x) (free_on_side side (exchanged e g) (doubled slide n ps)) in omega (arith, a, c, k, f) in
      record {
        once = λ x. let o = s.once x in omega (arith, same x, o);
        none_above = λ x l. let o = s.none_above x l in omega (arith, same x, o);
        none_zero = let o = s.none_zero in omega (arith, same 0, o);
      }
    where
      kept : (t : Bool) (x : ℕ) → end_sum t (is_label x) (strands (banded t e g (doubled slide n ps))) ≡ end_sum t (is_label x) (strands (doubled slide n ps))
      kept true x = side_ends true true (exchanged e g) (is_label x) (doubled slide n ps)
      kept false x = side_ends false false (exchanged e g) (is_label x) (doubled slide n ps)
