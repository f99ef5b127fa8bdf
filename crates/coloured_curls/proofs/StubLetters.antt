-- A crossing of two neighbouring strands at a stub of a diagram: the names of the stub change at two places, and the other crossings stay.
--
--     changed xs k left right        the list with other names at the places k and k+1
--     put S w ys                     the strands with the names ys at the stub w
--     parted                         the nodes of two lists of items, one behind the other
use Rattle.std.proofs.Common.{◌≡◌, ◌≢◌, ℕ, zero, suc, ◌+◌, ◌*◌, ◌%◌, ◌<◌, ◌≤◌, ◌==◌, ◌⊎◌, inl, inr, ◌||◌, Bool, true, false, cond, List, [], ◌∷◌, ◌++◌, length, slice_index, refl, sym, ap, ap₂, ◌∙◌, arith, ⊎_elim, All, append_assoc, subst}
use Rattle.std.specs.List.{AllByRecursion}
use Rattle.std.specs.Set.{is_member}
use Rattle.std.proofs.lemmas.Bool.{cases_eq}
use Rattle.std.proofs.lemmas.Bool.Decides.{nat_tests}
use Rattle.std.proofs.lemmas.List.Elements.{All-append, All-weaker}
use Rattle.list_lemmas.specs.Times.{times_in}
use Rattle.list_lemmas.proofs.Times.{times_in-append, times_in-cons}
use Rattle.state_sums.specs.Networks.{Node, IsNode, names_of}
use Rattle.root_quantum.specs.Parameters.{Parameters}
use Rattle.pd_reader.specs.declared.item.Item.{Item}
use Rattle.pd_reader.specs.declared.item.Item.TheVariants as item
use Rattle.pd_reader.specs.declared.item.NetItem.TheVariants.{X}
use Rattle.pd_reader.specs.Items.{HasItsSlots}
use Rattle.cables.specs.CableNodes.{crossing_cable}
use Rattle.cables.specs.Cables.{Standing, loop_nodes, cable_nodes}
use Rattle.cables.specs.Nets.{projector_of}
use Rattle.cables.specs.Strands.{Strands}
use Rattle.cables.proofs.CableIsNodes.{IsGood, cable_good}
use Rattle.cables.proofs.GridNames.{crossing-times, crossing_inner}
use Rattle.cables.proofs.NameCounts.{at, times_of-append}
use Rattle.cables.proofs.ProjectorBoxes.{projector_boxes}
use Rattle.diagram_moves.specs.Rewriting.{crossing_labels}
use Rattle.diagram_moves.proofs.Paired.{loop_labels}
use Rattle.cable_crossings.proofs.StepPieces.{All-first, All-second}
use Rattle.coloured_moves.proofs.StubNames.{Straight}
use Rattle.coloured_moves.proofs.StubItems.{half, at_stub, stub_crossing, stub_nodes}

-- ---- a list with two other names
abbrev pub changed : List ℕ → ℕ → ℕ → ℕ → List ℕ
changed [] k left right = []
changed (x ∷ []) k left right = x ∷ []
changed (x ∷ y ∷ xs) zero left right = left ∷ right ∷ xs
changed (x ∷ y ∷ xs) (suc k) left right = x ∷ changed (y ∷ xs) k left right

pub changed_length : (xs : List ℕ) (k left right : ℕ) → length (changed xs k left right) ≡ length xs
changed_length [] k left right = refl
changed_length (x ∷ []) k left right = refl
changed_length (x ∷ y ∷ xs) zero left right = refl
changed_length (x ∷ y ∷ xs) (suc k) left right = let ih = changed_length (y ∷ xs) k left right in omega (arith, ih)

pub changed_first : (xs : List ℕ) (k left right : ℕ) → k + 1 < length xs → slice_index (changed xs k left right) k ≡ left
changed_first [] k left right l = absurd (omega (arith, l))
changed_first (x ∷ []) k left right l = absurd (omega (arith, l))
changed_first (x ∷ y ∷ xs) zero left right l = refl
changed_first (x ∷ y ∷ xs) (suc k) left right l = changed_first (y ∷ xs) k left right (omega (arith, l))

pub changed_second : (xs : List ℕ) (k left right : ℕ) → k + 1 < length xs → slice_index (changed xs k left right) (suc k) ≡ right
changed_second [] k left right l = absurd (omega (arith, l))
changed_second (x ∷ []) k left right l = absurd (omega (arith, l))
changed_second (x ∷ y ∷ xs) zero left right l = refl
changed_second (x ∷ y ∷ xs) (suc k) left right l = changed_second (y ∷ xs) k left right (omega (arith, l))

pub changed_other : (xs : List ℕ) (k left right i : ℕ) → i ≢ k → i ≢ k + 1 → slice_index (changed xs k left right) i ≡ slice_index xs i
changed_other [] k left right i d e = refl
changed_other (x ∷ []) k left right i d e = refl
changed_other (x ∷ y ∷ xs) zero left right zero d e = absurd (d refl)
changed_other (x ∷ y ∷ xs) zero left right (suc zero) d e = absurd (e (omega arith))
changed_other (x ∷ y ∷ xs) zero left right (suc (suc i)) d e = refl
changed_other (x ∷ y ∷ xs) (suc k) left right zero d e = refl
changed_other (x ∷ y ∷ xs) (suc k) left right (suc i) d e = changed_other (y ∷ xs) k left right i (λ s. d (omega (arith, s))) (λ s. e (omega (arith, s)))

pub changed_times : (xs : List ℕ) (k left right z : ℕ) → k + 1 < length xs → times_in (changed xs k left right) z + at z (slice_index xs k) + at z (slice_index xs (suc k)) ≡ times_in xs z + at z left + at z right
changed_times [] k left right z l = absurd (omega (arith, l))
changed_times (x ∷ []) k left right z l = absurd (omega (arith, l))
changed_times (x ∷ y ∷ xs) zero left right z l =
    let a = times_in-cons left (right ∷ xs) z in let b = times_in-cons right xs z in let c = times_in-cons x (y ∷ xs) z in let d = times_in-cons y xs z in
    omega (arith, a, b, c, d)
changed_times (x ∷ y ∷ xs) (suc k) left right z l =
    let ih = changed_times (y ∷ xs) k left right z (omega (arith, l)) in
    let a = times_in-cons x (changed (y ∷ xs) k left right) z in let b = times_in-cons x (y ∷ xs) z in
    omega (arith, ih, a, b)

pub four_times : (w a b c d : ℕ) → times_in (a ∷ b ∷ c ∷ d ∷ []) w ≡ at w a + at w b + at w c + at w d
four_times w a b c d =
    let k = times_in-cons a (b ∷ c ∷ d ∷ []) w in let l = times_in-cons b (c ∷ d ∷ []) w in let m = times_in-cons c (d ∷ []) w in let n = times_in-cons d [] w in
    omega (arith, k, l, m, n)

-- ---- other names at a stub
abbrev pub put : Strands → ℕ → List ℕ → Strands
put S w ys = record {
  first = λ l. cond (2 * l == w) ys (S.first l);
  second = λ l. cond (2 * l + 1 == w) ys (S.second l);
  boxed = S.boxed;
  box = S.box;
}

pub even_or_odd : (w : ℕ) → ((w ≡ 2 * half w) × (w % 2 ≡ 0)) ⊎ ((w ≡ 2 * half w + 1) × (w % 2 ≡ 1))
even_or_odd w = parity (w % 2) (omega arith) (omega arith)
  where
    parity : (r : ℕ) → w ≡ 2 * half w + r → r < 2 → ((w ≡ 2 * half w) × (w % 2 ≡ 0)) ⊎ ((w ≡ 2 * half w + 1) × (w % 2 ≡ 1))
    parity zero e l = inl (omega (arith, e), omega (arith, e))
    parity (suc zero) e l = inr (e, omega (arith, e))
    parity (suc (suc r)) e l = absurd (omega (arith, l))

at_even : (S : Strands) (w : ℕ) → w % 2 ≡ 0 → at_stub S w ≡ S.first (half w)
at_even S w e = ap (λ r. cond (r == 1) (S.second (half w)) (S.first (half w))) e

at_odd : (S : Strands) (w : ℕ) → w % 2 ≡ 1 → at_stub S w ≡ S.second (half w)
at_odd S w e = ap (λ r. cond (r == 1) (S.second (half w)) (S.first (half w))) e

pub put_here : (S : Strands) (w : ℕ) (ys : List ℕ) → at_stub (put S w ys) w ≡ ys
put_here S w ys =
    ⊎_elim
    (λ q. (let e = q.0 in at_even (put S w ys) w q.1 ∙ chosen (2 * half w) w (S.first (half w)) (omega (arith, e))))
    (λ q. (let e = q.0 in at_odd (put S w ys) w q.1 ∙ chosen (2 * half w + 1) w (S.second (half w)) (omega (arith, e))))
    (even_or_odd w)
  where
    chosen : (i w : ℕ) (xs : List ℕ) → i ≡ w → cond (i == w) ys xs ≡ ys
    chosen i w xs e = grind (arith, nat_tests, e)

pub put_other : (S : Strands) (w x : ℕ) (ys : List ℕ) → x ≢ w → at_stub (put S w ys) x ≡ at_stub S x
put_other S w x ys d =
    ⊎_elim
    (λ q. (let e = q.0 in at_even (put S w ys) x q.1 ∙ passed (2 * half x) w (S.first (half x)) (λ s. d (omega (arith, s, e))) ∙ sym (at_even S x q.1)))
    (λ q. (let e = q.0 in at_odd (put S w ys) x q.1 ∙ passed (2 * half x + 1) w (S.second (half x)) (λ s. d (omega (arith, s, e))) ∙ sym (at_odd S x q.1)))
    (even_or_odd x)
  where
    passed : (i w : ℕ) (xs : List ℕ) → i ≢ w → cond (i == w) ys xs ≡ xs
    passed i w xs e = grind (arith, nat_tests, e)

-- ---- crossings of lists are nodes
pub crossing_ok : (p : Parameters) (group k : ℕ) (a b c d : List ℕ) → length a ≡ length c → length b ≡ length d → length a ≤ 8 → length b ≤ 8 → All IsNode (crossing_cable p group k a b c d)
crossing_ok p group k a b c d la lb few_a few_b =
    let names : ℕ → List ℕ = λ l. cond (l == 1) a (cond (l == 2) b (cond (l == 3) c (cond (l == 4) d []))) in
    let S : Strands = record { first = names; second = names; boxed = λ l. false; box = projector_of p } in
    let standing : Standing = record { seen = []; index = k; group = group; loop_group = 0 } in
    let long : (l : ℕ) → length (names l) ≤ 8 =
    λ l.
    elim (l == 1) as (λ t. length (cond t a (cond (l == 2) b (cond (l == 3) c (cond (l == 4) d [])))) ≤ 8) [
      | true ↦ few_a
      | false ↦ elim (l == 2) as (λ t. length (cond t b (cond (l == 3) c (cond (l == 4) d []))) ≤ 8) [
        | true ↦ few_b
        | false ↦ elim (l == 3) as (λ t. length (cond t c (cond (l == 4) d [])) ≤ 8) [
          | true ↦ omega (arith, la, few_a)
          | false ↦ elim (l == 4) as (λ t. length (cond t d []) ≤ 8) [ true ↦ omega (arith, lb, few_b) | false ↦ omega arith ]
        ]
      ]
    ] in
    let one = All-weaker (IsGood p.modulus) IsNode (λ node g. g.is_node) (cable_nodes p S standing (X (1 ∷ 2 ∷ 3 ∷ 4 ∷ []) ∷ []))
    (cable_good p S (λ l. refl) long (projector_boxes p) (X (1 ∷ 2 ∷ 3 ∷ 4 ∷ []) ∷ []) standing ((la, lb), tt)) in
    All-first IsNode (crossing_cable p group k a b c d) [] one

-- ---- nodes of items, one behind the other
stubs_put : (p : Parameters) (S : Strands) (w : ℕ) (ys : List ℕ) (g i a b c d : ℕ) → a ≢ w → b ≢ w → c ≢ w → d ≢ w → stub_crossing p (put S w ys) g i (a ∷ b ∷ c ∷ d ∷ []) ≡ stub_crossing p S g i (a ∷ b ∷ c ∷ d ∷ [])
stubs_put p S w ys g i a b c d da db dc dd =
    ap₂ (λ x y. crossing_cable p g i x y (at_stub (put S w ys) c) (at_stub (put S w ys) d)) (put_other S w a ys da) (put_other S w b ys db)
    ∙ ap₂ (λ x y. crossing_cable p g i (at_stub S a) (at_stub S b) x y) (put_other S w c ys dc) (put_other S w d ys dd)

pub loop_put : (S : Strands) (w : ℕ) (ys : List ℕ) (lg : ℕ) (xs : List ℕ) → loop_nodes (put S w ys) lg xs ≡ loop_nodes S lg xs
loop_put S w ys lg [] = refl
loop_put S w ys lg (x ∷ []) = refl
loop_put S w ys lg (x ∷ y ∷ xs) = refl

-- THE STUB DOES NOT STAND THERE
pub kept_put : (p : Parameters) (S : Strands) (w : ℕ) (ys : List ℕ) (n g i lg : ℕ) (D : List Item) → AllByRecursion HasItsSlots D → times_in (crossing_labels D) w ≡ 0 → ((l : ℕ) → is_member ◌==◌ (loop_labels D) l ≡ true → 2 * l ≢ w) →
    stub_nodes p (put S w ys) [] n g i lg D ≡ stub_nodes p S [] n g i lg D
kept_put p S w ys n g i lg [] sizes none away = refl
kept_put p S w ys n g i lg (item.Loop l ∷ rest) sizes none away =
    ap₂ (λ xs ns. xs ++ ns)
    (loop_put S w ys lg (cond (2 * l == w) ys (S.first l)) ∙ ap (loop_nodes S lg) (passed (2 * l) (S.first l) (away l (here l (is_member ◌==◌ (loop_labels rest) l)))))
    (kept_put p S w ys n g (i + 1) (lg + 1) rest sizes.1 none (λ k m. away k (later (k == l) (is_member ◌==◌ (loop_labels rest) k) m)))
  where
    passed : (i : ℕ) (xs : List ℕ) → i ≢ w → cond (i == w) ys xs ≡ xs
    passed i xs e = grind (arith, nat_tests, e)

    here : (l : ℕ) (t : Bool) → ((l == l) || t) ≡ true
    here l t = grind (arith, nat_tests)

    later : (s t : Bool) → t ≡ true → (s || t) ≡ true
    later s t e = grind (arith, e)
kept_put p S w ys n g i lg (item.X (a ∷ b ∷ c ∷ d ∷ []) ∷ rest) sizes none away =
    let k = times_in-append (a ∷ b ∷ c ∷ d ∷ []) (crossing_labels rest) w in
    let four = four_times w a b c d in
    ap₂ (λ xs ns. xs ++ ns)
    (stubs_put p S w ys g i a b c d (apart a (omega (arith, k, four, none))) (apart b (omega (arith, k, four, none))) (apart c (omega (arith, k, four, none))) (apart d (omega (arith, k, four, none))))
    (kept_put p S w ys (n + 1) (g + 1) (i + 1) lg rest sizes.1 (omega (arith, k, none)) away)
  where
    apart : (a : ℕ) → at w a ≡ 0 → a ≢ w
    apart a h e = grind (arith, nat_tests, h, e)
kept_put p S w ys n g i lg (item.X [] ∷ rest) sizes none away = absurd (omega (arith, sizes.0))
kept_put p S w ys n g i lg (item.X (a ∷ []) ∷ rest) sizes none away = absurd (omega (arith, sizes.0))
kept_put p S w ys n g i lg (item.X (a ∷ b ∷ []) ∷ rest) sizes none away = absurd (omega (arith, sizes.0))
kept_put p S w ys n g i lg (item.X (a ∷ b ∷ c ∷ []) ∷ rest) sizes none away = absurd (omega (arith, sizes.0))
kept_put p S w ys n g i lg (item.X (a ∷ b ∷ c ∷ d ∷ e ∷ slots) ∷ rest) sizes none away = absurd (omega (arith, sizes.0))

-- TWO LISTS OF ITEMS, AND WHERE THE SECOND ONE BEGINS
pub parted : (p : Parameters) (pre : List Item) (n g i lg : ℕ) → (n' : ℕ) × (g' : ℕ) × (i' : ℕ) × (lg' : ℕ) × ((S : Strands) (rest : List Item) →
    stub_nodes p S [] n g i lg (pre ++ rest) ≡ stub_nodes p S [] n g i lg pre ++ stub_nodes p S [] n' g' i' lg' rest)
parted p [] n g i lg = (n, g, i, lg, λ S rest. refl)
parted p (item.X slots ∷ pre) n g i lg =
    let r = parted p pre (n + 1) (g + 1) (i + 1) lg in (
      r.0,
      r.1,
      r.2,
      r.3,
      λ S rest. ap (λ ns. stub_crossing p S g i slots ++ ns) (r.4 S rest) ∙ sym (append_assoc (stub_crossing p S g i slots) (stub_nodes p S [] (n + 1) (g + 1) (i + 1) lg pre) (stub_nodes p S [] r.0 r.1 r.2 r.3 rest)),
    )
parted p (item.Loop l ∷ pre) n g i lg =
    let r = parted p pre n g (i + 1) (lg + 1) in (
      r.0,
      r.1,
      r.2,
      r.3,
      λ S rest. ap (λ ns. loop_nodes S lg (S.first l) ++ ns) (r.4 S rest) ∙ sym (append_assoc (loop_nodes S lg (S.first l)) (stub_nodes p S [] n g (i + 1) (lg + 1) pre) (stub_nodes p S [] r.0 r.1 r.2 r.3 rest)),
    )

-- the strands at a stub that is changed are as many
put_length : (S : Strands) (w x : ℕ) (ys : List ℕ) → length ys ≡ length (at_stub S w) → length (at_stub (put S w ys) x) ≡ length (at_stub S x)
put_length S w x ys e =
    ⊎_elim (λ (q : x ≡ w). ap (λ i. length (at_stub (put S w ys) i)) q ∙ ap length (put_here S w ys) ∙ e ∙ sym (ap (λ i. length (at_stub S i)) q)) (λ d. ap length (put_other S w x ys d)) (cases_eq x w)

-- THE NODES WITH OTHER NAMES ARE NODES
pub put_ok : (p : Parameters) (S : Strands) (w : ℕ) (ys : List ℕ) → length ys ≡ length (at_stub S w) → ((x : ℕ) → length (at_stub S x) ≤ 8) → (n g i lg : ℕ) (D : List Item) → AllByRecursion (Straight S) D →
    ((l : ℕ) → is_member ◌==◌ (loop_labels D) l ≡ true → 2 * l ≢ w) → All IsNode (stub_nodes p S [] n g i lg D) → All IsNode (stub_nodes p (put S w ys) [] n g i lg D)
put_ok p S w ys e few n g i lg [] straight away ok = ok
put_ok p S w ys e few n g i lg (item.Loop l ∷ rest) straight away ok =
    let L = loop_nodes S lg (S.first l) in
    let same : loop_nodes (put S w ys) lg (cond (2 * l == w) ys (S.first l)) ≡ L =
    loop_put S w ys lg (cond (2 * l == w) ys (S.first l)) ∙ ap (loop_nodes S lg) (passed (2 * l) (S.first l) (away l (here l (is_member ◌==◌ (loop_labels rest) l)))) in
    let later = stub_nodes p S [] n g (i + 1) (lg + 1) rest in
    All-append IsNode (loop_nodes (put S w ys) lg (cond (2 * l == w) ys (S.first l))) (stub_nodes p (put S w ys) [] n g (i + 1) (lg + 1) rest)
    (subst (All IsNode) (sym same) (All-first IsNode L later ok))
    (put_ok p S w ys e few n g (i + 1) (lg + 1) rest straight.1 (λ k m. away k (behind (k == l) (is_member ◌==◌ (loop_labels rest) k) m)) (All-second IsNode L later ok))
  where
    passed : (i : ℕ) (xs : List ℕ) → i ≢ w → cond (i == w) ys xs ≡ xs
    passed i xs e = grind (arith, nat_tests, e)

    here : (l : ℕ) (t : Bool) → ((l == l) || t) ≡ true
    here l t = grind (arith, nat_tests)

    behind : (s t : Bool) → t ≡ true → (s || t) ≡ true
    behind s t e = grind (arith, e)
put_ok p S w ys e few n g i lg (item.X (a ∷ b ∷ c ∷ d ∷ []) ∷ rest) straight away ok =
    let T = put S w ys in
    let C = stub_crossing p T g i (a ∷ b ∷ c ∷ d ∷ []) in
    let la = put_length S w a ys e in let lb = put_length S w b ys e in let lc = put_length S w c ys e in let ld = put_length S w d ys e in
    let fa = few a in let fb = few b in
    All-append IsNode C (stub_nodes p T [] (n + 1) (g + 1) (i + 1) lg rest)
    (crossing_ok p g i (at_stub T a) (at_stub T b) (at_stub T c) (at_stub T d) (la ∙ straight.0.0 ∙ sym lc) (lb ∙ straight.0.1 ∙ sym ld) (omega (arith, la, fa)) (omega (arith, lb, fb)))
    (put_ok p S w ys e few (n + 1) (g + 1) (i + 1) lg rest straight.1 away (All-second IsNode (stub_crossing p S g i (a ∷ b ∷ c ∷ d ∷ [])) (stub_nodes p S [] (n + 1) (g + 1) (i + 1) lg rest) ok))
put_ok p S w ys e few n g i lg (item.X [] ∷ rest) straight away ok = absurd straight.0
put_ok p S w ys e few n g i lg (item.X (a ∷ []) ∷ rest) straight away ok = absurd straight.0
put_ok p S w ys e few n g i lg (item.X (a ∷ b ∷ []) ∷ rest) straight away ok = absurd straight.0
put_ok p S w ys e few n g i lg (item.X (a ∷ b ∷ c ∷ []) ∷ rest) straight away ok = absurd straight.0
put_ok p S w ys e few n g i lg (item.X (a ∷ b ∷ c ∷ d ∷ f ∷ slots) ∷ rest) straight away ok = absurd straight.0

-- HOW OFTEN NAMES STAND WITH OTHER NAMES AT A STUB
pub put_count : (p : Parameters) (S : Strands) (w : ℕ) (ys : List ℕ) → length ys ≡ length (at_stub S w) → (n g i lg : ℕ) (D : List Item) → AllByRecursion HasItsSlots D → AllByRecursion (Straight S) D → times_in (crossing_labels D) w ≡ 1 →
    ((l : ℕ) → is_member ◌==◌ (loop_labels D) l ≡ true → 2 * l ≢ w) → (z : ℕ) →
    times_in (names_of (stub_nodes p (put S w ys) [] n g i lg D)) z + times_in (at_stub S w) z ≡ times_in (names_of (stub_nodes p S [] n g i lg D)) z + times_in ys z
put_count p S w ys e n g i lg [] sizes straight one away z = absurd (omega (arith, one))
put_count p S w ys e n g i lg (item.Loop l ∷ rest) sizes straight one away z =
    let L = loop_nodes S lg (S.first l) in
    let M = loop_nodes (put S w ys) lg (cond (2 * l == w) ys (S.first l)) in
    let same : M ≡ L = loop_put S w ys lg (cond (2 * l == w) ys (S.first l)) ∙ ap (loop_nodes S lg) (passed (2 * l) (S.first l) (away l (here l (is_member ◌==◌ (loop_labels rest) l)))) in
    let ih = put_count p S w ys e n g (i + 1) (lg + 1) rest sizes.1 straight.1 one (λ k m. away k (behind (k == l) (is_member ◌==◌ (loop_labels rest) k) m)) z in
    let a = times_of-append z L (stub_nodes p S [] n g (i + 1) (lg + 1) rest) in
    let b = times_of-append z M (stub_nodes p (put S w ys) [] n g (i + 1) (lg + 1) rest) in
    let s = ap (λ ns. times_in (names_of ns) z) same in
    omega (arith, ih, a, b, s)
  where
    passed : (i : ℕ) (xs : List ℕ) → i ≢ w → cond (i == w) ys xs ≡ xs
    passed i xs e = grind (arith, nat_tests, e)

    here : (l : ℕ) (t : Bool) → ((l == l) || t) ≡ true
    here l t = grind (arith, nat_tests)

    behind : (s t : Bool) → t ≡ true → (s || t) ≡ true
    behind s t e = grind (arith, e)
put_count p S w ys e n g i lg (item.X (a ∷ b ∷ c ∷ d ∷ []) ∷ rest) sizes straight one away z =
    let T = put S w ys in
    let C : Strands → List Node = λ U. stub_crossing p U g i (a ∷ b ∷ c ∷ d ∷ []) in
    let Q : Strands → List Node = λ U. stub_nodes p U [] (n + 1) (g + 1) (i + 1) lg rest in
    let la = put_length S w a ys e in let lb = put_length S w b ys e in let lc = put_length S w c ys e in let ld = put_length S w d ys e in
    let k = times_in-append (a ∷ b ∷ c ∷ d ∷ []) (crossing_labels rest) w in
    let four = four_times w a b c d in
    let old = times_of-append z (C S) (Q S) in
    let new = times_of-append z (C T) (Q T) in
    ⊎_elim
    (λ (none : at w a + at w b + at w c + at w d ≡ 0).
    let same = ap (λ ns. times_in (names_of ns) z) (stubs_put p S w ys g i a b c d (apart a (omega (arith, none))) (apart b (omega (arith, none))) (apart c (omega (arith, none))) (apart d (omega (arith, none)))) in
    let ih = put_count p S w ys e (n + 1) (g + 1) (i + 1) lg rest sizes.1 straight.1 (omega (arith, k, four, none, one)) away z in
    omega (arith, old, new, same, ih))
    (λ some.
    let kept = ap (λ ns. times_in (names_of ns) z) (kept_put p S w ys (n + 1) (g + 1) (i + 1) lg rest sizes.1 (omega (arith, k, four, some, one)) away) in
    let x = crossing-times p g i z (at_stub S a) (at_stub S b) (at_stub S c) (at_stub S d) straight.0.0 straight.0.1 in
    let y = crossing-times p g i z (at_stub T a) (at_stub T b) (at_stub T c) (at_stub T d) (la ∙ straight.0.0 ∙ sym lc) (lb ∙ straight.0.1 ∙ sym ld) in
    let inner = ap₂ (λ s t. crossing_inner i s t z) la lb in
    let sa = slot a in let sb = slot b in let sc = slot c in let sd = slot d in
    let he = one_of a b c d (times_in (at_stub S w) z) (omega (arith, k, four, some, one)) in
    let hy = one_of a b c d (times_in ys z) (omega (arith, k, four, some, one)) in
    omega (arith, old, new, kept, x, y, inner, sa, sb, sc, sd, he, hy))
    (none_or (at w a + at w b + at w c + at w d))
  where
    apart : (a : ℕ) → at w a ≡ 0 → a ≢ w
    apart a h e = grind (arith, nat_tests, h, e)

    none_or : (k : ℕ) → (k ≡ 0) ⊎ (1 ≤ k)
    none_or zero = inl refl
    none_or (suc k) = inr (omega arith)

    one_of : (a b c d e : ℕ) → at w a + at w b + at w c + at w d ≡ 1 → cond (a == w) e 0 + cond (b == w) e 0 + cond (c == w) e 0 + cond (d == w) e 0 ≡ e
    one_of a b c d e h = grind (arith, nat_tests, h)

    slot : (x : ℕ) → times_in (at_stub (put S w ys) x) z + cond (x == w) (times_in (at_stub S w) z) 0 ≡ times_in (at_stub S x) z + cond (x == w) (times_in ys z) 0
    slot x =
        ⊎_elim
        (λ (q : x ≡ w).
        let h = ap (λ i. times_in (at_stub (put S w ys) i) z) q ∙ ap (λ xs. times_in xs z) (put_here S w ys) in
        let o = ap (λ i. times_in (at_stub S i) z) q in
        let c1 : cond (x == w) (times_in (at_stub S w) z) 0 ≡ times_in (at_stub S w) z = chosen x (times_in (at_stub S w) z) q in
        let c2 : cond (x == w) (times_in ys z) 0 ≡ times_in ys z = chosen x (times_in ys z) q in
        omega (arith, h, o, c1, c2))
        (λ d.
        let h = ap (λ xs. times_in xs z) (put_other S w x ys d) in
        let c1 : cond (x == w) (times_in (at_stub S w) z) 0 ≡ 0 = left_out x (times_in (at_stub S w) z) d in
        let c2 : cond (x == w) (times_in ys z) 0 ≡ 0 = left_out x (times_in ys z) d in
        omega (arith, h, c1, c2))
        (cases_eq x w)
      where
        chosen : (x e : ℕ) → x ≡ w → cond (x == w) e 0 ≡ e
        chosen x e q = grind (arith, nat_tests, q)

        left_out : (x e : ℕ) → x ≢ w → cond (x == w) e 0 ≡ 0
        left_out x e d = grind (arith, nat_tests, d)
put_count p S w ys e n g i lg (item.X [] ∷ rest) sizes straight one away z = absurd straight.0
put_count p S w ys e n g i lg (item.X (a ∷ []) ∷ rest) sizes straight one away z = absurd straight.0
put_count p S w ys e n g i lg (item.X (a ∷ b ∷ []) ∷ rest) sizes straight one away z = absurd straight.0
put_count p S w ys e n g i lg (item.X (a ∷ b ∷ c ∷ []) ∷ rest) sizes straight one away z = absurd straight.0
put_count p S w ys e n g i lg (item.X (a ∷ b ∷ c ∷ d ∷ f ∷ slots) ∷ rest) sizes straight one away z = absurd straight.0
