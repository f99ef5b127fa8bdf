-- Two lists of notes of one table, compared place by place: where both know a projector it is one, at each place up to the one
-- that was compared last.
use Rattle.std.proofs.Common.{◌≡◌, ℕ, ◌-◌, ◌+◌, ◌<◌, ◌≤◌, List, map, get_or, set, length, sym, ◌∙◌, ap, arith, IfSome, subst, inl, inr, below_more}
use Rattle.std.specs.declared.option.Option.{Option}
use Rattle.std.specs.declared.option.Option.TheVariants.{None, Some}
use Rattle.std.proofs.lemmas.List.{get_or-map, length-map, set-get_or, get_or_past}
use Rattle.std.proofs.lemmas.Bool.{cases_lt}
use Rattle.once_cell.specs.Once.{Agrees}
use Rattle.wenzl_table.specs.Projectors.{Projector}
use Rattle.wenzl_table.specs.Tables.{known, Agree}
use Rattle.wenzl_table.specs.Marks.{Mark, said_of}
use Rattle.wenzl_table.proofs.NotePlaces.{known_said}

-- what the note at a place knows
abbrev pub known_at : List Mark → ℕ → Option Projector
known_at ms k = get_or (map (λ m. m.known) ms) k None

reads : (ms : List Mark) (i : ℕ) (m : Mark) → i < length ms → m ≡ get_or ms i m → known_at ms i ≡ m.known
reads ms i m i-in m-is = get_or-map (λ m. m.known) ms i m None i-in ∙ sym (ap (λ y. y.known) m-is)

-- one that is written back as it was
pub same_again : (ms : List Mark) (i : ℕ) (m x : Mark) → m ≡ get_or ms i m → x ≡ m → set ms i x ≡ ms
same_again ms i m x m-is e = rw e (let h : set ms i m ≡ set ms i (get_or ms i m) = ap (λ y. set ms i y) m-is in h ∙ set-get_or ms i m)

as_long : (ms os : List Mark) → map (λ m. m.cell) ms ≡ map (λ m. m.cell) os → length ms ≡ length os
as_long ms os h = sym (length-map ms (λ m. m.cell)) ∙ ap length h ∙ length-map os (λ m. m.cell)

pub same_cell : (ms os : List Mark) (i : ℕ) (m o : Mark) → map (λ m. m.cell) ms ≡ map (λ m. m.cell) os → i < length ms → m ≡ get_or ms i m → o ≡ get_or os i o → o.cell ≡ m.cell
same_cell ms os i m o h i-in m-is o-is =
    let len = as_long ms os h in
    let o-in : i < length os = omega (arith, len, i-in) in
    ap (λ x. x.cell) o-is ∙ sym (get_or-map (λ x. x.cell) os i o 0 o-in) ∙ sym (ap (λ xs. get_or xs i 0) h) ∙ get_or-map (λ x. x.cell) ms i m 0 i-in ∙ sym (ap (λ x. x.cell) m-is)

agree_here : (a b : Option Projector) → IfSome b (Agrees a) → Agree a b
agree_here None b h = tt
agree_here (Some x) None h = tt
agree_here (Some x) (Some y) h = h

-- one more place
pub agree_more : (ms os : List Mark) (i : ℕ) (m o : Mark) → map (λ m. m.cell) ms ≡ map (λ m. m.cell) os → i < length ms → m ≡ get_or ms i m → o ≡ get_or os i o
    → IfSome o.known (Agrees m.known) → ((k : ℕ) → k < i → Agree (known_at ms k) (known_at os k)) → (k : ℕ) → k < i + 1 → Agree (known_at ms k) (known_at os k)
agree_more ms os i m o e i-in m-is o-is h below =
    let len = as_long ms os e in
    let o-in : i < length os = omega (arith, len, i-in) in
    below_more (λ k. Agree (known_at ms k) (known_at os k)) i below (rw (reads ms i m i-in m-is, reads os i o o-in o-is) (agree_here m.known o.known h))

agree_at : (ms os : List Mark) (k : ℕ) → length ms ≤ k → ((n : ℕ) → n < k → Agree (known_at ms n) (known_at os n)) → (n : ℕ) → Agree (known_at ms n) (known_at os n)
agree_at ms os k le h n = elim (cases_lt n k) [
  | inl lt ↦ h n lt
  | inr ge ↦ let past : known_at ms n ≡ None = get_or_past (map (λ m. m.known) ms) n None (rw (length-map ms (λ m. m.known)) (omega arith)) in rw past tt
]

-- AFTER ALL PLACES
pub agree_all : (ms os : List Mark) (k : ℕ) → length ms ≤ k → ((n : ℕ) → n < k → Agree (known_at ms n) (known_at os n)) → (n : ℕ) → Agree (known (said_of ms) n) (known (said_of os) n)
agree_all ms os k le h n =
    subst (λ (a : Option Projector). Agree a (known (said_of os) n)) (sym (known_said ms n))
    (subst (λ (b : Option Projector). Agree (known_at ms (n - 2)) b) (sym (known_said os n)) (agree_at ms os k le h (n - 2)))
