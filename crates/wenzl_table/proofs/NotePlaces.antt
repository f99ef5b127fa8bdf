-- The notes of a table, place by place. A note is written anew by the call on its cell: the cells are as they were, what was
-- known is known still, and the cell's projector is known.
use Rattle.std.proofs.Common.{◌≡◌, ◌≢◌, ℕ, ◌-◌, ◌<◌, List, [], ◌∷◌, map, get_or, set, length, refl, sym, ◌∙◌, ap, arith, IfSome, subst, inl, inr, Result, Ok, Err}
use Rattle.std.specs.Prelude.{MatchResult}
use Rattle.std.specs.declared.option.Option.{Option}
use Rattle.std.specs.declared.option.Option.TheVariants.{None, Some}
use Rattle.std.specs.declared.alloc.Global.{Global}
use Rattle.std.proofs.Math.Seq.{map-set_same}
use Rattle.std.proofs.lemmas.List.{get_or-map, get_or-set_same, get_or-set_other, map-set, length-map}
use Rattle.std.proofs.lemmas.Bool.{cases_eq}
use Rattle.once_cell.specs.Once.{cell_name, Agrees}
use Rattle.wenzl_table.specs.Projectors.{Projector}
use Rattle.wenzl_table.specs.Tables.{cells_of, known, Keeps}
use Rattle.wenzl_table.specs.Marks.{Mark, said_of}

-- the cells and what is known of them, one by one
pub cells_said : (ms : List Mark) → cells_of (said_of ms) ≡ map (λ m. m.cell) ms
cells_said [] = refl
cells_said (m ∷ ms) = ap (λ xs. m.cell ∷ xs) (cells_said ms)

pub knowns_said : (ms : List Mark) → map (λ (note : ℕ × Option Projector). note.1) (said_of ms) ≡ map (λ m. m.known) ms
knowns_said [] = refl
knowns_said (m ∷ ms) = ap (λ xs. m.known ∷ xs) (knowns_said ms)

pub known_said : (ms : List Mark) (n : ℕ) → known (said_of ms) n ≡ get_or (map (λ m. m.known) ms) (n - 2) None
known_said ms n = ap (λ (xs : List (Option Projector)). get_or xs (n - 2) None) (knowns_said ms)

-- ---- the note of a cell
pub length_of : (ms : List Mark) (cs : List ℕ) → map (λ m. m.cell) ms ≡ cs → length ms ≡ length cs
length_of ms cs h = sym (length-map ms (λ m. m.cell)) ∙ ap length h

pub same_place : (ms : List Mark) (cs : List (Global × ℕ)) (i : ℕ) (m : Mark) (c : Global × ℕ) → map (λ m. m.cell) ms ≡ map cell_name cs
    → i < length cs → m ≡ get_or ms i m → c ≡ get_or cs i c → m.cell ≡ cell_name c
same_place ms cs i m c h i-in m-is c-is =
    let len = length_of ms (map cell_name cs) h ∙ length-map cs cell_name in
    let m-in : i < length ms = omega (arith, len, i-in) in
    ap (λ x. x.cell) m-is ∙ sym (get_or-map (λ x. x.cell) ms i m 0 m-in) ∙ ap (λ xs. get_or xs i 0) h ∙ get_or-map cell_name cs i c 0 i-in ∙ sym (ap cell_name c-is)

-- the cells are as they were
pub keeps_places : (ms : List Mark) (i : ℕ) (m x : Mark) → m ≡ get_or ms i m → x.cell ≡ m.cell → map (λ m. m.cell) (set ms i x) ≡ map (λ m. m.cell) ms
keeps_places ms i m x m-is e = map-set_same (λ m. m.cell) ms i x m (e ∙ ap (λ y. y.cell) m-is)

known_here : (ms : List Mark) (i k : ℕ) (x : Mark) → i < length ms → k ≡ i → get_or (map (λ m. m.known) (set ms i x)) k None ≡ x.known
known_here ms i k x i-in e =
    let at : i < length (map (λ m. m.known) ms) = rw (length-map ms (λ m. m.known)) i-in in
    rw (e, map-set (λ m. m.known) ms i x) (get_or-set_same (map (λ m. m.known) ms) i x.known None at)

known_there : (ms : List Mark) (i k : ℕ) (x : Mark) → k ≢ i → get_or (map (λ m. m.known) (set ms i x)) k None ≡ get_or (map (λ m. m.known) ms) k None
known_there ms i k x ne = rw (map-set (λ m. m.known) ms i x) (get_or-set_other (map (λ m. m.known) ms) i k x.known None ne)

abbrev pub Lasts : Option Projector → Option Projector → Type 0
Lasts a b = IfSome a (λ x. b ≡ Some x)

lasts_same : (a : Option Projector) → Lasts a a
lasts_same None = tt
lasts_same (Some x) = refl

lasts_some : (a b : Option Projector) (x : Projector) → b ≡ Some x → Agrees a x → Lasts a b
lasts_some None b x e h = tt
lasts_some (Some y) b x e h = e ∙ ap Some (sym h)

lasts_none : (a b : Option Projector) → a ≡ None → Lasts a b
lasts_none None b e = tt
lasts_none (Some y) b e = cc

-- by what the call on the cell says
pub lasts_by : {X E : Type 0} (answer : Result X E) (held : X → Projector) (a b : Option Projector) → MatchResult answer (λ x. (b ≡ Some (held x)) × Agrees a (held x)) (λ _. (a ≡ None) × (b ≡ None)) → Lasts a b
lasts_by (Ok x) held a b h = lasts_some a b (held x) h.0 h.1
lasts_by (Err e) held a b h = lasts_none a b h.0

-- WHAT WAS KNOWN IS KNOWN STILL, where the new note knows at least what the old one did
pub keeps : (ms : List Mark) (i : ℕ) (m x : Mark) → i < length ms → m ≡ get_or ms i m → Lasts m.known x.known → Keeps (said_of ms) (said_of (set ms i x))
keeps ms i m x i-in m-is h n =
    let was : get_or (map (λ m. m.known) ms) i None ≡ m.known = get_or-map (λ m. m.known) ms i m None i-in ∙ sym (ap (λ y. y.known) m-is) in
    let P : ℕ → Type 0 = λ k. Lasts (get_or (map (λ m. m.known) ms) k None) (get_or (map (λ m. m.known) (set ms i x)) k None) in
    let here : P i = rw (was, known_here ms i i x i-in refl) h in
    let plain : P (n - 2) =
    elim (cases_eq (n - 2) i) [
      | inl e ↦ subst P (sym e) here
      | inr ne ↦ let there : get_or (map (λ m. m.known) (set ms i x)) (n - 2) None ≡ get_or (map (λ m. m.known) ms) (n - 2) None = known_there ms i (n - 2) x ne in
          rw there (lasts_same (get_or (map (λ m. m.known) ms) (n - 2) None))
    ] in
    subst (λ (a : Option Projector). Lasts a (known (said_of (set ms i x)) n)) (sym (known_said ms n))
    (subst (λ (b : Option Projector). Lasts (get_or (map (λ m. m.known) ms) (n - 2) None) b) (sym (known_said (set ms i x) n)) plain)

-- AND THE CELL'S PROJECTOR IS KNOWN
pub known_now : (ms : List Mark) (n : ℕ) (x : Mark) → n - 2 < length ms → known (said_of (set ms (n - 2) x)) n ≡ x.known
known_now ms n x i-in = known_said (set ms (n - 2) x) n ∙ known_here ms (n - 2) (n - 2) x i-in refl
