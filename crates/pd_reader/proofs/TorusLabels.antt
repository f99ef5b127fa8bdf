-- The torus link is a diagram: each of its labels 1 to 2n stands twice.
--
-- The first k crossings leave four ends: 1 and 2, which close the braid, and 2k+1 and 2k+2, from which
-- the next crossing goes on. With these four counted once more, each label up to 2k+2 stands twice
-- (`front_counts`); the last crossing has just these four slots.
use Rattle.std.proofs.Common.{inl, inr, ◌≡◌, ℕ, zero, suc, ◌+◌, ◌-◌, ◌*◌, ◌<◌, ◌≤◌, cond, eqb, List, [], ◌∷◌, length, refl, sym, ap, ◌∙◌, arith, length-append}
use Rattle.std.specs.List.{AllByRecursion}
use Rattle.std.proofs.lemmas.Bool.{eq-eqb, ne_eqb, cases_eq, cases_lt}
use Rattle.std.proofs.lemmas.List.Sums.{sum_by-append}
use Rattle.pd_reader.specs.declared.item.Item.{Item}
use Rattle.pd_reader.specs.declared.item.Item.TheVariants as items
use Rattle.pd_reader.specs.Items.{item_labels, HasItsSlots}
use Rattle.list_lemmas.specs.Times.{times_in}
use Rattle.pd_reader.specs.Diagrams.{labels, IsLabel, IsDiagram}
use Rattle.pd_reader.specs.Torus.{torus_crossing, torus_front, torus_items}
use Rattle.text_shapes.proofs.Elements.{All-append, All-push}
use Rattle.pd_reader.proofs.ItemLabels.{labels-push}

-- a label counts once at itself
abbrev is_at : ℕ → ℕ → ℕ
is_at l n = cond (eqb l n) 1 0

same : (l n : ℕ) → n ≡ l → is_at l n ≡ 1
same l n e = rw (eq-eqb l n (sym e)) refl

other : (l n : ℕ) → (n ≡ l → ⊥) → is_at l n ≡ 0
other l n e = rw (ne_eqb l n (λ h. e (sym h))) refl

four : (l a b c d : ℕ) → times_in (a ∷ b ∷ c ∷ d ∷ []) l ≡ is_at l a + is_at l b + is_at l c + is_at l d
four l a b c d = omega arith

-- the labels of the first k crossings
abbrev front : ℕ → List ℕ
front k = labels item_labels (torus_front k)

front-suc : (l k : ℕ) → times_in (front (suc k)) l ≡ times_in (front k) l + (is_at l (2 * k + 2) + is_at l (2 * k + 4) + is_at l (2 * k + 3) + is_at l (2 * k + 1))
front-suc l k =
    let more = ap (λ xs. times_in xs l) (labels-push item_labels (torus_front k) (torus_crossing (suc k))) ∙ sum_by-append (is_at l) (front k) (item_labels (torus_crossing (suc k))) in
    let a : 2 * suc k ≡ 2 * k + 2 = omega arith in
    let b : 2 * suc k + 2 ≡ 2 * k + 4 = omega arith in
    let c : 2 * suc k + 1 ≡ 2 * k + 3 = omega arith in
    let d : 2 * suc k - 1 ≡ 2 * k + 1 = omega arith in
    omega (arith, more, four l (2 * suc k) (2 * suc k + 2) (2 * suc k + 1) (2 * suc k - 1), ap (is_at l) a, ap (is_at l) b, ap (is_at l) c, ap (is_at l) d)

record Counts (l k : ℕ) : Type 0 where
  pub low : 1 ≤ l → l ≤ 2 * k + 2 → times_in (front k) l + (is_at l 1 + is_at l 2 + is_at l (2 * k + 1) + is_at l (2 * k + 2)) ≡ 2
  pub high : 2 * k + 2 < l → times_in (front k) l ≡ 0

front_counts-zero : (l : ℕ) → Counts l 0
front_counts-zero l = record { low = low; high = λ lt. refl }
  where
    low : 1 ≤ l → l ≤ 2 → 0 + (is_at l 1 + is_at l 2 + is_at l 1 + is_at l 2) ≡ 2
    low least most = elim (cases_eq 1 l) [
      | inl e ↦ omega (arith, same l 1 e, other l 2 (λ k. omega (arith, e, k)))
      | inr ne ↦ (let two : 2 ≡ l = omega (arith, ne) in omega (arith, same l 2 two, other l 1 ne))
    ]

front_counts-suc : (l k : ℕ) → Counts l k → Counts l (suc k)
front_counts-suc l k h = record { low = low; high = high }
  where
    high : 2 * suc k + 2 < l → times_in (front (suc k)) l ≡ 0
    high lt = omega (arith, front-suc l k, h.high (omega arith), other l (2 * k + 2) (λ e. omega arith), other l (2 * k + 4) (λ e. omega arith), other l (2 * k + 3) (λ e. omega arith), other l (2 * k + 1) (λ e. omega arith))

    ends : is_at l (2 * suc k + 1) + is_at l (2 * suc k + 2) ≡ is_at l (2 * k + 3) + is_at l (2 * k + 4)
    ends = let a : 2 * suc k + 1 ≡ 2 * k + 3 = omega arith in let b : 2 * suc k + 2 ≡ 2 * k + 4 = omega arith in omega (arith, ap (is_at l) a, ap (is_at l) b)

    new : 2 * k + 2 < l → l ≤ 2 * suc k + 2 → is_at l (2 * k + 3) + is_at l (2 * k + 4) ≡ 1
    new lt most = elim (cases_eq (2 * k + 3) l) [
      | inl e ↦ omega (arith, same l (2 * k + 3) e, other l (2 * k + 4) (λ f. omega (arith, e, f)))
      | inr ne ↦ (let last : 2 * k + 4 ≡ l = omega (arith, ne) in omega (arith, same l (2 * k + 4) last, other l (2 * k + 3) ne))
    ]

    low : 1 ≤ l → l ≤ 2 * suc k + 2 → times_in (front (suc k)) l + (is_at l 1 + is_at l 2 + is_at l (2 * suc k + 1) + is_at l (2 * suc k + 2)) ≡ 2
    low least most = elim (cases_lt (2 * k + 2) l) [
      | inl lt ↦ omega (arith, front-suc l k, ends, h.high lt, new lt most, other l 1 (λ e. omega arith), other l 2 (λ e. omega arith), other l (2 * k + 2) (λ e. omega arith), other l (2 * k + 1) (λ e. omega arith))
      | inr le ↦ omega (arith, front-suc l k, ends, h.low least le, other l (2 * k + 4) (λ e. omega arith), other l (2 * k + 3) (λ e. omega arith))
    ]

front_counts : (l k : ℕ) → Counts l k
front_counts l zero = front_counts-zero l
front_counts l (suc k) = front_counts-suc l k (front_counts l k)

-- each label of the torus link stands twice
torus_counts : (n l : ℕ) → 1 ≤ n → 1 ≤ l → l ≤ 2 * n → times_in (labels item_labels (torus_items n)) l ≡ 2
torus_counts n l least low high =
    let k = n - 1 in
    let last : Item = items.X (2 * n ∷ 2 ∷ 1 ∷ (2 * n - 1) ∷ []) in
    let more = ap (λ xs. times_in xs l) (labels-push item_labels (torus_front k) last) ∙ sum_by-append (is_at l) (front k) (item_labels last) in
    let slots = four l (2 * n) 2 1 (2 * n - 1) in
    let a : is_at l (2 * n) ≡ is_at l (2 * k + 2) = (let e : 2 * n ≡ 2 * k + 2 = omega arith in rw e refl) in
    let d : is_at l (2 * n - 1) ≡ is_at l (2 * k + 1) = (let e : 2 * n - 1 ≡ 2 * k + 1 = omega arith in rw e refl) in
    omega (arith, more, slots, a, d, (front_counts l k).low low (omega arith))

-- ---- labels in range, sizes and the number of items

abbrev UpTo : ℕ → ℕ → Type 0
UpTo most l = (1 ≤ l) × (l ≤ most)

wider : (a b : ℕ) (ls : List ℕ) → a ≤ b → AllByRecursion (UpTo a) ls → AllByRecursion (UpTo b) ls
wider a b [] le h = tt
wider a b (l ∷ ls) le h = ((h.0.0, omega (arith, h.0)), wider a b ls le h.1)

front_labels : (k : ℕ) → AllByRecursion (UpTo (2 * k + 2)) (front k)
front_labels zero = tt
front_labels (suc k) =
    rw (labels-push item_labels (torus_front k) (torus_crossing (suc k)))
    (All-append (UpTo (2 * suc k + 2)) (front k) (item_labels (torus_crossing (suc k))) (wider (2 * k + 2) (2 * suc k + 2) (front k) (omega arith) (front_labels k))
    ((omega arith, omega arith), ((omega arith, omega arith), ((omega arith, omega arith), ((omega arith, omega arith), tt)))))

torus_labels : (n : ℕ) → 1 ≤ n → AllByRecursion (UpTo (2 * n)) (labels item_labels (torus_items n))
torus_labels n least =
    let last : Item = items.X (2 * n ∷ 2 ∷ 1 ∷ (2 * n - 1) ∷ []) in
    rw (labels-push item_labels (torus_front (n - 1)) last)
    (All-append (UpTo (2 * n)) (front (n - 1)) (item_labels last) (wider (2 * (n - 1) + 2) (2 * n) (front (n - 1)) (omega arith) (front_labels (n - 1)))
    ((omega arith, omega arith), ((omega arith, omega arith), ((omega arith, omega arith), ((omega arith, omega arith), tt)))))

front_sizes : (k : ℕ) → AllByRecursion HasItsSlots (torus_front k)
front_sizes zero = tt
front_sizes (suc k) = All-push HasItsSlots (torus_front k) (torus_crossing (suc k)) (front_sizes k) refl

length-front : (k : ℕ) → length (torus_front k) ≡ k
length-front zero = refl
length-front (suc k) = omega (arith, length-append (torus_front k) (torus_crossing (suc k) ∷ []), length-front k)

all_twice : (n : ℕ) → 1 ≤ n → (ls : List ℕ) → AllByRecursion (UpTo (2 * n)) ls → AllByRecursion (λ l. times_in (labels item_labels (torus_items n)) l ≡ 2) ls
all_twice n least [] h = tt
all_twice n least (l ∷ ls) h = (torus_counts n l least h.0.0 h.0.1, all_twice n least ls h.1)

all_in_range : (n : ℕ) → n ≤ 256 → (ls : List ℕ) → AllByRecursion (UpTo (2 * n)) ls → AllByRecursion IsLabel ls
all_in_range n most [] h = tt
all_in_range n most (l ∷ ls) h = (record { low = h.0.0; high = omega (arith, h.0) }, all_in_range n most ls h.1)

-- THE TORUS LINK IS A DIAGRAM
pub torus_is_diagram : (n : ℕ) → 1 ≤ n → n ≤ 256 → IsDiagram (torus_items n)
torus_is_diagram n least most =
    let last : Item = items.X (2 * n ∷ 2 ∷ 1 ∷ (2 * n - 1) ∷ []) in
    let ls = labels item_labels (torus_items n) in
    record {
      few = omega (arith, length-append (torus_front (n - 1)) (last ∷ []), length-front (n - 1));
      sizes = All-push HasItsSlots (torus_front (n - 1)) last (front_sizes (n - 1)) refl;
      in_range = all_in_range n most ls (torus_labels n least);
      twice = all_twice n least ls (torus_labels n least);
    }
