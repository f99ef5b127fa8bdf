-- The strands of a diagram: nodes and loops of one more item; each name stands twice since each label does, and the weights are
-- residues.
use Rattle.std.proofs.Common.{◌≡◌, ℕ, zero, suc, ◌+◌, ◌-◌, ◌*◌, pos, ◌≤◌, ◌<◌, ◌==◌, true, cond, List, [], ◌∷◌, ◌++◌, map, length, get_or, take, refl, sym, ap, ◌∙◌, subst, arith, All, ⊎_elim, append-nil}
use Rattle.std.specs.List.{AllByRecursion}
use Rattle.std.specs.Set.{is_member}
use Rattle.std.proofs.lemmas.Bool.{eqb-true, or_cases, cases_eq}
use Rattle.std.proofs.lemmas.Bool.Decides.{nat_tests}
use Rattle.std.proofs.lemmas.List.{map-append, take_more}
use Rattle.std.proofs.lemmas.List.Elements.{All-nil, All-cons}
use Rattle.std.proofs.lemmas.List.Sums.{sum_by-cons, sum_by-append}
use Rattle.ring_identities.specs.Powers.{power}
use Rattle.ring_identities.proofs.Congruences.{residue_below}
use Rattle.state_sums.specs.Networks.{Node, Term, names_of, WeightsBelow}
use Rattle.root_quantum.specs.Parameters.{Parameters}
use Rattle.pd_reader.specs.declared.item.Item.{Item}
use Rattle.pd_reader.specs.declared.item.Item.TheVariants.{X, Loop}
use Rattle.pd_reader.specs.Items.{item_labels}
use Rattle.pd_reader.specs.Diagrams.{labels, IsLabel}
use Rattle.arc_pairing.specs.Counts.{StandsTwice, IsLeastMiscount}
use Rattle.root_quantum.specs.QuantumNumbers.{inverse_root}
use Rattle.diagram_brackets.specs.Crossings.{crossing_node, joins_ab_cd, joins_ad_bc}
use Rattle.diagram_brackets.specs.Brackets.{strand_name, crossing_nodes, loop_count}
use Rattle.list_lemmas.specs.Times.{times_in}

crossing_nodes-append : (p : Parameters) (group : ℕ) (xs ys : List Item) →
    crossing_nodes p group (xs ++ ys) ≡ crossing_nodes p group xs ++ crossing_nodes p (group + length (crossing_nodes p group xs)) ys
crossing_nodes-append p group [] ys = let k : group + 0 ≡ group = omega arith in rw k
crossing_nodes-append p group (X slots ∷ xs) ys =
    let k : group + suc (length (crossing_nodes p (group + 1) xs)) ≡ group + 1 + length (crossing_nodes p (group + 1) xs) = omega arith in
    rw k (ap (λ ns. crossing_node p group (map strand_name slots) ∷ ns) (crossing_nodes-append p (group + 1) xs ys))
crossing_nodes-append p group (Loop label ∷ xs) ys = crossing_nodes-append p group xs ys

loop_count-append : (xs ys : List Item) → loop_count (xs ++ ys) ≡ loop_count xs + loop_count ys
loop_count-append [] ys = omega arith
loop_count-append (X slots ∷ xs) ys = loop_count-append xs ys
loop_count-append (Loop label ∷ xs) ys = let ih = loop_count-append xs ys in omega (arith, ih)

-- one more item
nodes_more : (p : Parameters) (items : List Item) (i : ℕ) (item : Item) → i < length items → get_or items i (X []) ≡ item →
    crossing_nodes p 1 (take (i + 1) items) ≡ crossing_nodes p 1 (take i items) ++ crossing_nodes p (1 + length (crossing_nodes p 1 (take i items))) (item ∷ [])
nodes_more p items i item l read =
    ap (crossing_nodes p 1) (take_more items i (X []) l)
    ∙ ap (λ x. crossing_nodes p 1 (take i items ++ x ∷ [])) read
    ∙ crossing_nodes-append p 1 (take i items) (item ∷ [])

pub loops_more : (items : List Item) (i : ℕ) (item : Item) → i < length items → get_or items i (X []) ≡ item →
    loop_count (take (i + 1) items) ≡ loop_count (take i items) + loop_count (item ∷ [])
loops_more items i item l read =
    ap loop_count (take_more items i (X []) l) ∙ ap (λ x. loop_count (take i items ++ x ∷ [])) read ∙ loop_count-append (take i items) (item ∷ [])

-- ---- the slots' labels are in range
all_front : (P : ℕ → Type 0) (xs ys : List ℕ) → AllByRecursion P (xs ++ ys) → AllByRecursion P xs
all_front P [] ys a = tt
all_front P (x ∷ xs) ys a = (a.0, all_front P xs ys a.1)

all_back : (P : ℕ → Type 0) (xs ys : List ℕ) → AllByRecursion P (xs ++ ys) → AllByRecursion P ys
all_back P [] ys a = a
all_back P (x ∷ xs) ys a = all_back P xs ys a.1

labels_in_range : (items : List Item) (i : ℕ) (item : Item) → i < length items → get_or items i (X []) ≡ item → AllByRecursion IsLabel (labels item_labels items) → AllByRecursion IsLabel (item_labels item)
labels_in_range [] i item l read a = absurd (omega (arith, l))
labels_in_range (x ∷ items) zero item l read a = subst (λ y. AllByRecursion IsLabel (item_labels y)) read (all_front IsLabel (item_labels x) (labels item_labels items) a)
labels_in_range (x ∷ items) (suc i) item l read a = labels_in_range items i item (omega arith) read (all_back IsLabel (item_labels x) (labels item_labels items) a)

all_high : (ls : List ℕ) → AllByRecursion IsLabel ls → All (λ label. label ≤ 2000000) ls
all_high [] a = All-nil (λ label. label ≤ 2000000)
all_high (x ∷ ls) a = All-cons (λ label. label ≤ 2000000) x ls a.0.high (all_high ls a.1)

pub slots_within : (items : List Item) (i : ℕ) (slots : List ℕ) → i < length items → get_or items i (X []) ≡ X slots → AllByRecursion IsLabel (labels item_labels items) → All (λ label. label ≤ 2000000) slots
slots_within items i slots l read a = all_high slots (labels_in_range items i (X slots) l read a)

-- ---- names stand as often as labels stand at slots
abbrev slots_of : List Item → List ℕ
slots_of [] = []
slots_of (X slots ∷ items) = slots ++ slots_of items
slots_of (Loop label ∷ items) = slots_of items

abbrev loops_at : ℕ → List Item → ℕ
loops_at x [] = 0
loops_at x (X slots ∷ items) = loops_at x items
loops_at x (Loop label ∷ items) = cond (x == label) 1 0 + loops_at x items

names_are : (p : Parameters) (group : ℕ) (items : List Item) → names_of (crossing_nodes p group items) ≡ map strand_name (slots_of items)
names_are p group [] = refl
names_are p group (X slots ∷ items) = ap (λ ns. map strand_name slots ++ ns) (names_are p (group + 1) items) ∙ sym (map-append strand_name slots (slots_of items))
names_are p group (Loop label ∷ items) = names_are p group items

times-labels : (x : ℕ) (items : List Item) → times_in (labels item_labels items) x ≡ times_in (slots_of items) x + 2 * loops_at x items
times-labels x [] = refl
times-labels x (X slots ∷ items) =
    let ih = times-labels x items in
    let e = sum_by-append (λ z. cond (x == z) 1 0) slots (labels item_labels items) in
    let f = sum_by-append (λ z. cond (x == z) 1 0) slots (slots_of items) in
    omega (arith, ih, e, f)
times-labels x (Loop label ∷ items) =
    let ih = times-labels x items in
    let e = sum_by-cons (λ z. cond (x == z) 1 0) label (label ∷ labels item_labels items) in
    let f = sum_by-cons (λ z. cond (x == z) 1 0) label (labels item_labels items) in
    grind (arith, ih, e, f)

times_in-named : (label : ℕ) (xs : List ℕ) → times_in (map strand_name xs) (strand_name label) ≡ times_in xs label
times_in-named label [] = refl
times_in-named label (y ∷ xs) =
    let ih = times_in-named label xs in
    let e = sum_by-cons (λ z. cond (strand_name label == z) 1 0) (strand_name y) (map strand_name xs) in
    let f = sum_by-cons (λ z. cond (label == z) 1 0) y xs in
    grind (arith, nat_tests, ih, e, f)

named_by : (x : ℕ) (xs : List ℕ) → is_member ◌==◌ (map strand_name xs) x ≡ true → (label : ℕ) × (x ≡ strand_name label) × (1 ≤ times_in xs label)
named_by x [] m = absurd (grind (arith, m))
named_by x (y ∷ xs) m =
    let e = λ (z : ℕ). sum_by-cons (λ w. cond (z == w) 1 0) y xs in
    ⊎_elim
    (λ t. (y, eqb-true x (strand_name y) t, (let f = e y in grind (arith, nat_tests, f))))
    (λ t. let r = named_by x xs t in (r.0, r.1, (let f = e r.0 in let g = r.2 in omega (arith, f, g))))
    (or_cases (x == strand_name y) _ m)

at_label : (P : ℕ → Type 0) (label : ℕ) (ls : List ℕ) → AllByRecursion P ls → 1 ≤ times_in ls label → P label
at_label P label [] a h = absurd (omega (arith, h))
at_label P label (y ∷ ls) a h =
    ⊎_elim
    (λ (same : y ≡ label). subst P same a.0)
    (λ other. at_label P label ls a.1 (let e = sum_by-cons (λ z. cond (z == label) 1 0) y ls in grind (arith, nat_tests, h, e, other)))
    (cases_eq y label)

member_of_times : (x : ℕ) (xs : List ℕ) → 1 ≤ times_in xs x → is_member ◌==◌ xs x ≡ true
member_of_times x [] h = absurd (omega (arith, h))
member_of_times x (y ∷ xs) h =
    let ih = member_of_times x xs in let e = sum_by-cons (λ z. cond (x == z) 1 0) y xs in grind (arith, nat_tests, ih, e, h)

-- EACH NAME STANDS TWICE
pub stands_twice : (p : Parameters) (items : List Item) → AllByRecursion (λ label. times_in (labels item_labels items) label ≡ 2) (labels item_labels items) →
    (x : ℕ) → StandsTwice (names_of (crossing_nodes p 1 items)) x
stands_twice p items twice x =
    rw (names_are p 1 items)
    (λ m.
    let r = named_by x (slots_of items) m in
    let count = times-labels r.0 items in
    let some = r.2 in
    let two = at_label (λ label. times_in (labels item_labels items) label ≡ 2) r.0 (labels item_labels items) twice (omega (arith, count, some)) in
    ap (times_in (map strand_name (slots_of items))) r.1 ∙ times_in-named r.0 (slots_of items) ∙ omega (arith, count, some, two))

inverse_below : (p : Parameters) → inverse_root p < p.modulus
unfolding inverse_root
inverse_below p = residue_below p.modulus (power (pos p.root) (4 * p.level - 1)) (let m = p.meets.modulus.0 in omega (arith, m))

-- no name is miscounted where each stands twice
pub never_miscounted : (names : List ℕ) (name count : ℕ) → ((x : ℕ) → StandsTwice names x) → IsLeastMiscount names name count → ⊥
never_miscounted names name count twice h =
    let stands = h.stands in let times = h.times in
    h.not_twice (sym times ∙ twice name (member_of_times name names (omega (arith, stands, times))))

-- a crossing more, as the loop pushes its node
pub one_crossing : (p : Parameters) (items : List Item) (i len : ℕ) (slots : List ℕ) (old new : List Node) (node : Node) → i < length items → get_or items i (X []) ≡ X slots →
    old ≡ crossing_nodes p 1 (take i items) → len ≡ length old → node ≡ crossing_node p (len + 1) (map strand_name slots) → new ≡ old ++ node ∷ [] → new ≡ crossing_nodes p 1 (take (i + 1) items)
one_crossing p items i len slots old new node l read old_is len_is node_is new_is =
    let before = crossing_nodes p 1 (take i items) in
    let group : len + 1 ≡ 1 + length before = (let n = ap length old_is in omega (arith, n, len_is)) in
    new_is
    ∙ ap (λ ns. ns ++ node ∷ []) old_is
    ∙ ap (λ x. before ++ x ∷ []) (node_is ∙ ap (λ g. crossing_node p g (map strand_name slots)) group)
    ∙ sym (nodes_more p items i (X slots) l read)

-- a loop more, which has no node
pub one_loop : (p : Parameters) (items : List Item) (i label : ℕ) (old new : List Node) → i < length items → get_or items i (X []) ≡ Loop label →
    old ≡ crossing_nodes p 1 (take i items) → new ≡ old → new ≡ crossing_nodes p 1 (take (i + 1) items)
one_loop p items i label old new l read old_is new_is =
    new_is ∙ old_is ∙ sym (nodes_more p items i (Loop label) l read ∙ append-nil (crossing_nodes p 1 (take i items)))

-- THE WEIGHTS ARE RESIDUES
pub weights_below : (p : Parameters) (group : ℕ) (items : List Item) → WeightsBelow p.modulus (crossing_nodes p group items)
weights_below p group [] = All-nil (λ node. All (λ term. term.weight < p.modulus) node.terms)
weights_below p group (X slots ∷ items) =
    let IsLow : Term → Type 0 = λ term. term.weight < p.modulus in
    let node = crossing_node p group (map strand_name slots) in
    All-cons (λ node. All (λ term. term.weight < p.modulus) node.terms) node (crossing_nodes p (group + 1) items)
    (All-cons IsLow record { weight = p.root; partner = joins_ab_cd } (record { weight = inverse_root p; partner = joins_ad_bc } ∷ []) p.meets.root.1
    (All-cons IsLow record { weight = inverse_root p; partner = joins_ad_bc } [] (inverse_below p) (All-nil IsLow)))
    (weights_below p (group + 1) items)
weights_below p group (Loop label ∷ items) = weights_below p group items
