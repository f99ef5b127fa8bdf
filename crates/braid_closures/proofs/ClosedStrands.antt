-- The arcs that close a braid: the name 16 q + 1 of the last label of position q becomes 16 q, that of its beginning label, and a position
-- that no entry touches becomes a free loop.
use Rattle.std.proofs.Common.{◌≡◌, ◌≢◌, inl, ℕ, zero, suc, ◌+◌, ◌*◌, ◌<◌, ◌≤◌, ◌==◌, ◌&&◌, not, Bool, true, false, cond, ℤ, List, [], ◌∷◌, map, refl, sym, ap, ap₂, ◌∙◌, arith, ⊎_elim, subst, All}
use Rattle.std.specs.List.{count_by}
use Rattle.std.specs.Set.{is_member, unique_keys}
use Rattle.std.proofs.lemmas.Bool.{cases_Bool, cases_eq, eqb-true, or_cases}
use Rattle.std.proofs.lemmas.Bool.Decides.{nat_tests}
use Rattle.std.proofs.lemmas.List.Elements.{All-cons, All-nil}
use Rattle.std.proofs.lemmas.List.Sums.{sum_by-cons}
use Rattle.graph_parts.specs.Ends.{ends_of}
use Rattle.graph_parts.specs.Walks.{Joined, along, stay}
use Rattle.graph_parts.proofs.Agreement.{Joined-wider}
use Rattle.graph_parts.proofs.Through.{keeps_Joined}
use Rattle.graph_parts.proofs.Walks.{Contains-later}
use Rattle.pd_reader.specs.declared.item.Item.{Item}
use Rattle.pd_reader.specs.declared.item.Item.TheVariants.{Loop}
use Rattle.diagram_brackets.specs.Brackets.{loop_count}
use Rattle.state_sums.specs.LocalSums.{arc}
use Rattle.piece_laws.specs.Arcs.{arcs_of, AreClassLabels}
use Rattle.strand_words.specs.Boxes.{bottom}
use Rattle.strand_words.specs.Words.{top}
use Rattle.word_networks.specs.PlacedGrids.{close_steps}
use Rattle.word_networks.specs.Steps.{step_nodes}
use Rattle.braid_closures.specs.Closures.{is_touched, new_label, loops}
use Rattle.braid_closures.proofs.BraidSteps.{fresh}

-- what a name becomes, of the positions from q on
abbrev pub closes : List ℤ → ℕ → ℕ → ℕ → ℕ
closes word q zero z = z
closes word q (suc count) z = cond (is_touched word q && z == 16 * q + 1) (16 * q) (closes word (q + 1) count z)

pub closes_label : (word : List ℤ) (q count l : ℕ) → closes word q count (16 * l) ≡ 16 * l
closes_label word q zero l = refl
closes_label word q (suc count) l = plain (is_touched word q) q l (closes word (q + 1) count (16 * l)) (closes_label word (q + 1) count l)
  where
    other : (q l : ℕ) → (16 * l == 16 * q + 1) ≡ false
    other q l = ⊎_elim (λ t. absurd (let e = eqb-true (16 * l) (16 * q + 1) t in omega (arith, e))) (λ f. f) (cases_Bool (16 * l == 16 * q + 1))

    plain : (t : Bool) (q l z : ℕ) → z ≡ 16 * l → cond (t && (16 * l == 16 * q + 1)) (16 * q) z ≡ 16 * l
    plain true q l z e = ap (λ b. cond b (16 * q) z) (other q l) ∙ e
    plain false q l z e = e

pub closes_last : (word : List ℤ) (q count r : ℕ) → is_touched word r ≡ true → q ≤ r → r < q + count → closes word q count (16 * r + 1) ≡ 16 * r
closes_last word q zero r t lo hi = absurd (omega (arith, lo, hi))
closes_last word q (suc count) r t lo hi =
    ⊎_elim
    (λ (e : q ≡ r). here (is_touched word q) q r (closes word (q + 1) count (16 * r + 1)) (ap (is_touched word) e ∙ t) e)
    (λ (d : q ≢ r). other (is_touched word q) q r (16 * q) (closes word (q + 1) count (16 * r + 1)) d ∙ closes_last word (q + 1) count r t (omega (arith, lo, d)) (omega (arith, hi)))
    (cases_eq q r)
  where
    here : (t : Bool) (q r z : ℕ) → t ≡ true → q ≡ r → cond (t && (16 * r + 1 == 16 * q + 1)) (16 * q) z ≡ 16 * r
    here t q r z e s = grind (arith, nat_tests, e, s)

    other : (t : Bool) (q r w z : ℕ) → q ≢ r → cond (t && (16 * r + 1 == 16 * q + 1)) w z ≡ z
    other t q r w z d = grind (arith, nat_tests, d)

-- a new label's name becomes the label's
pub closes_fresh : (whole later : List ℤ) (n q unused : ℕ) → is_touched whole q ≡ true → 1 ≤ q → q < 1 + n → closes whole 1 n (fresh later q unused) ≡ 16 * new_label later q unused
closes_fresh whole later n q unused t lo hi =
    ⊎_elim
    (λ b. ap (λ c. closes whole 1 n (cond c (16 * unused) (16 * q + 1))) b ∙ closes_label whole 1 n unused ∙ ap (λ c. 16 * cond c unused q) (sym b))
    (λ b. ap (λ c. closes whole 1 n (cond c (16 * unused) (16 * q + 1))) b ∙ closes_last whole 1 n q t lo hi ∙ ap (λ c. 16 * cond c unused q) (sym b))
    (cases_Bool (is_touched later q))

-- ---- the arcs
abbrev pub last_name : List ℤ → ℕ → ℕ
last_name word q = cond (is_touched word q) (16 * q + 1) (16 * q)

abbrev pub pairs : List ℤ → ℕ → ℕ → List (ℕ × ℕ)
pairs word q zero = []
pairs word q (suc count) = (last_name word q, 16 * q) ∷ pairs word (q + 1) count

pub arcs_are : (word : List ℤ) (last : ℕ → ℕ) (i count : ℕ) → ((k : ℕ) → last (top k) ≡ last_name word (k + 1)) → ((k : ℕ) → last (bottom k) ≡ 16 * (k + 1)) →
    step_nodes last (close_steps i count) ≡ arcs_of (pairs word (i + 1) count)
arcs_are word last i zero t b = refl
arcs_are word last i (suc count) t b = ap₂ (λ x y. arc x y ∷ step_nodes last (close_steps (i + 1) count)) (t i) (b i) ∙ ap (λ ns. arc (last_name word (i + 1)) (16 * (i + 1)) ∷ ns) (arcs_are word last (i + 1) count t b)

walks : (word : List ℤ) (q count x : ℕ) → Joined (pairs word q count) x (closes word q count x)
walks word q zero x = stay
walks word q (suc count) x =
    let es = pairs word (q + 1) count in
    let pair : ℕ × ℕ = (last_name word q, 16 * q) in
    let P : ℕ → Type 0 = λ z. Joined (pair ∷ es) x z in
    let rest = closes word (q + 1) count x in
    ⊎_elim
    (λ t. subst P (ap (λ c. cond c (16 * q) rest) (sym t)) (along (0, omega arith, ap (λ (v : ℕ). let g : ℕ × ℕ = (v, 16 * q) in g) (named (is_touched word q) q x t))))
    (λ f. subst P (ap (λ c. cond c (16 * q) rest) (sym f)) (Joined-wider es (pair ∷ es) (λ u v c. inl (Contains-later pair (u, v) es c)) (walks word (q + 1) count x)))
    (cases_Bool (is_touched word q && x == 16 * q + 1))
  where
    named : (t : Bool) (q x : ℕ) → (t && x == 16 * q + 1) ≡ true → cond t (16 * q + 1) (16 * q) ≡ x
    named t q x e = grind (arith, nat_tests, e)

pub last_closes : (word : List ℤ) (n q : ℕ) → 1 ≤ q → q < 1 + n → closes word 1 n (last_name word q) ≡ 16 * q
last_closes word n q lo hi =
    ⊎_elim
    (λ b. ap (λ c. closes word 1 n (cond c (16 * q + 1) (16 * q))) b ∙ closes_last word 1 n q b lo hi)
    (λ b. ap (λ c. closes word 1 n (cond c (16 * q + 1) (16 * q))) b ∙ closes_label word 1 n q)
    (cases_Bool (is_touched word q))

pairs_keep : (label : ℕ → ℕ) (word : List ℤ) (q count : ℕ) → ((r : ℕ) → q ≤ r → r < q + count → label (last_name word r) ≡ label (16 * r)) → All (λ (e : ℕ × ℕ). label e.0 ≡ label e.1) (pairs word q count)
pairs_keep label word q zero h = All-nil (λ (e : ℕ × ℕ). label e.0 ≡ label e.1)
pairs_keep label word q (suc count) h =
    All-cons (λ (e : ℕ × ℕ). label e.0 ≡ label e.1) (last_name word q, 16 * q) (pairs word (q + 1) count) (h q (omega arith) (omega arith))
    (pairs_keep label word (q + 1) count (λ r lo hi. h r (omega (arith, lo)) (omega (arith, hi))))

-- THE NAMES THAT THE ARCS JOIN
pub class_labels : (word : List ℤ) (n : ℕ) → AreClassLabels (pairs word 1 n) (closes word 1 n)
class_labels word n = record {
  joined = λ x. walks word 1 n x;
  one = λ x y walk. keeps_Joined (closes word 1 n) (pairs word 1 n) (pairs_keep (closes word 1 n) word 1 n (λ r lo hi. last_closes word n r lo hi ∙ sym (closes_label word 1 n r))) walk;
}

-- ---- the loops
abbrev doubled : ℕ → ℕ → List ℕ
doubled q zero = []
doubled q (suc count) = 16 * q ∷ 16 * q ∷ doubled (q + 1) count

abbrev singles : ℕ → ℕ → List ℕ
singles q zero = []
singles q (suc count) = 16 * q ∷ singles (q + 1) count

doubled_low : (q count z : ℕ) → is_member ◌==◌ (doubled q count) z ≡ true → 16 * q ≤ z
doubled_low q zero z m = absurd (grind (arith, m))
doubled_low q (suc count) z m =
    ⊎_elim (λ t. (let e = eqb-true z (16 * q) t in omega (arith, e)))
    (λ r. ⊎_elim (λ t. (let e = eqb-true z (16 * q) t in omega (arith, e))) (λ s. (let l = doubled_low (q + 1) count z s in omega (arith, l)))
    (or_cases (z == 16 * q) (is_member ◌==◌ (doubled (q + 1) count) z) r))
    (or_cases (z == 16 * q) (is_member ◌==◌ (16 * q ∷ doubled (q + 1) count) z) m)

unique_doubled : (q count : ℕ) → unique_keys ◌==◌ (doubled q count) ≡ singles q count
unique_doubled q zero = refl
unique_doubled q (suc count) =
    let a = 16 * q in
    let rest = doubled (q + 1) count in
    let none : is_member ◌==◌ rest a ≡ false = ⊎_elim (λ t. absurd (let l = doubled_low (q + 1) count a t in omega (arith, l))) (λ f. f) (cases_Bool (is_member ◌==◌ rest a)) in
    ap (λ b. cond b (unique_keys ◌==◌ (a ∷ rest)) (a ∷ unique_keys ◌==◌ (a ∷ rest))) (first a rest)
    ∙ ap (λ b. cond b (unique_keys ◌==◌ rest) (a ∷ unique_keys ◌==◌ rest)) none
    ∙ ap (λ u. a ∷ u) (unique_doubled (q + 1) count)
  where
    first : (a : ℕ) (xs : List ℕ) → is_member ◌==◌ (a ∷ xs) a ≡ true
    first a xs = grind (arith, nat_tests)

ends_are : (label : ℕ → ℕ) (word : List ℤ) (q count : ℕ) → ((r : ℕ) → q ≤ r → r < q + count → label (last_name word r) ≡ 16 * r) → ((r : ℕ) → label (16 * r) ≡ 16 * r) →
    map label (ends_of (pairs word q count)) ≡ doubled q count
ends_are label word q zero h k = refl
ends_are label word q (suc count) h k =
    ap₂ (λ x y. x ∷ y ∷ map label (ends_of (pairs word (q + 1) count))) (h q (omega arith) (omega arith)) (k q)
    ∙ ap (λ xs. 16 * q ∷ 16 * q ∷ xs) (ends_are label word (q + 1) count (λ r lo hi. h r (omega (arith, lo)) (omega (arith, hi))) k)

counted : (test : ℕ → Bool) (word : List ℤ) (q count : ℕ) → ((r : ℕ) → q ≤ r → r < q + count → test (16 * r) ≡ not (is_touched word r)) → count_by test (singles q count) ≡ loop_count (loops word q count)
counted test word q zero h = refl
counted test word q (suc count) h =
    let ih = counted test word (q + 1) count (λ r lo hi. h r (omega (arith, lo)) (omega (arith, hi))) in
    sum_by-cons (λ z. cond (test z) 1 0) (16 * q) (singles (q + 1) count)
    ∙ ap₂ (λ b k. cond b 1 0 + k) (h q (omega arith) (omega arith)) ih
    ∙ plain (is_touched word q) q (loops word (q + 1) count)
  where
    plain : (t : Bool) (q : ℕ) (items : List Item) → cond (not t) 1 0 + loop_count items ≡ loop_count (cond t items (Loop q ∷ items))
    plain true q items = omega arith
    plain false q items = omega arith

-- AS MANY CLASSES CLOSE AS THERE ARE LOOPS
pub closed_are_loops : (word : List ℤ) (n : ℕ) (test : ℕ → Bool) → ((r : ℕ) → 1 ≤ r → r < 1 + n → test (16 * r) ≡ not (is_touched word r)) →
    count_by test (unique_keys ◌==◌ (map (closes word 1 n) (ends_of (pairs word 1 n)))) ≡ loop_count (loops word 1 n)
closed_are_loops word n test h =
    ap (λ xs. count_by test (unique_keys ◌==◌ xs)) (ends_are (closes word 1 n) word 1 n (λ r lo hi. last_closes word n r lo hi) (λ r. closes_label word 1 n r))
    ∙ ap (count_by test) (unique_doubled 1 n)
    ∙ counted test word 1 n h
