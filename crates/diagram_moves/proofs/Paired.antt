-- Labels that stand twice, at the crossings alone; and what is known of items that are written anew.
use Rattle.std.proofs.Common.{◌≡◌, ℕ, ◌+◌, ◌*◌, ◌≤◌, true, false, cond, ◌==◌, List, [], ◌∷◌, ◌++◌, map, refl, sym, ◌∙◌, arith, ⊎_elim, subst}
use Rattle.std.specs.List.{AllByRecursion}
use Rattle.std.specs.Set.{is_member}
use Rattle.std.proofs.lemmas.Bool.{eqb-true, or_cases}
use Rattle.std.proofs.lemmas.Bool.Decides.{nat_tests}
use Rattle.std.proofs.lemmas.List.Sums.{sum_by-cons}
use Rattle.pd_reader.specs.declared.item.Item.{Item}
use Rattle.pd_reader.specs.declared.item.Item.TheVariants as item
use Rattle.pd_reader.specs.Items.{item_labels, HasItsSlots}
use Rattle.pd_reader.specs.Diagrams.{labels}
use Rattle.diagram_moves.specs.Rewriting.{crossing_labels}
use Rattle.diagram_moves.specs.Laws.{IsPairedDiagram}
use Rattle.list_lemmas.specs.Times.{times_in}
use Rattle.list_lemmas.proofs.Times.{times_in-append, member_of_times, times_none}

all_of : (P : ℕ → Type 0) (xs : List ℕ) → AllByRecursion P xs → (x : ℕ) → is_member ◌==◌ xs x ≡ true → P x
all_of P [] h x m = absurd (grind (arith, m))
all_of P (y ∷ xs) h x m = ⊎_elim (λ e. subst P (sym (eqb-true x y e)) h.0) (λ n. all_of P xs h.1 x n) (or_cases (x == y) (is_member ◌==◌ xs x) m)

abbrev pub loop_labels : List Item → List ℕ
loop_labels [] = []
loop_labels (item.X slots ∷ rest) = loop_labels rest
loop_labels (item.Loop label ∷ rest) = label ∷ loop_labels rest

pub times_labels : (items : List Item) (x : ℕ) → times_in (labels item_labels items) x ≡ times_in (crossing_labels items) x + 2 * times_in (loop_labels items) x
times_labels [] x = refl
times_labels (item.X slots ∷ rest) x =
    let ih = times_labels rest x in
    let p = times_in-append slots (labels item_labels rest) x in
    let q = times_in-append slots (crossing_labels rest) x in
    omega (arith, ih, p, q)
times_labels (item.Loop label ∷ rest) x =
    let ih = times_labels rest x in
    let p = sum_by-cons (λ z. cond (x == z) 1 0) label (label ∷ labels item_labels rest) in
    let q = sum_by-cons (λ z. cond (x == z) 1 0) label (labels item_labels rest) in
    let r = sum_by-cons (λ z. cond (x == z) 1 0) label (loop_labels rest) in
    omega (arith, ih, p, q, r)

pub twice_in_all : (items : List Item) → IsPairedDiagram items → (x : ℕ) → 1 ≤ times_in (labels item_labels items) x → times_in (labels item_labels items) x ≡ 2
twice_in_all items pd x h =
    all_of (λ label. times_in (labels item_labels items) label ≡ 2) (labels item_labels items) pd.twice x (member_of_times x (labels item_labels items) h)

-- A LABEL OF A CROSSING STANDS TWICE AT CROSSINGS
pub paired : (items : List Item) → IsPairedDiagram items → (x : ℕ) → 1 ≤ times_in (crossing_labels items) x → times_in (crossing_labels items) x ≡ 2
paired items pd x h =
    let e = times_labels items x in
    let t = twice_in_all items pd x (omega (arith, e, h)) in
    omega (arith, e, t, h)

-- and that of a Loop stands at one
pub loop_once : (items : List Item) → IsPairedDiagram items → (x : ℕ) → is_member ◌==◌ (labels item_labels items) x ≡ true → is_member ◌==◌ (crossing_labels items) x ≡ false → times_in (loop_labels items) x ≡ 1
loop_once items pd x m out =
    let e = times_labels items x in
    let t = all_of (λ label. times_in (labels item_labels items) label ≡ 2) (labels item_labels items) pd.twice x m in
    let none : times_in (crossing_labels items) x ≡ 0 = times_none (crossing_labels items) x out in
    omega (arith, e, t, none)

-- ---- sizes
pub sizes-append : (xs ys : List Item) → AllByRecursion HasItsSlots xs → AllByRecursion HasItsSlots ys → AllByRecursion HasItsSlots (xs ++ ys)
sizes-append [] ys h k = k
sizes-append (x ∷ xs) ys h k = (h.0, sizes-append xs ys h.1 k)

pub sizes-loops : (ls : List ℕ) → AllByRecursion HasItsSlots (map item.Loop ls)
sizes-loops [] = tt
sizes-loops (l ∷ ls) = (tt, sizes-loops ls)
