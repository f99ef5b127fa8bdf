-- Each state of some nodes pairs their open names: node by node, since a node keeps it.
use Rattle.std.proofs.Common.{◌≡◌, ℕ, ◌+◌, ◌≤◌, cond, ◌==◌, List, [], ◌∷◌, ◌++◌, length, refl, sym, ap, subst, ◌∙◌, arith, append-nil, append_assoc}
use Rattle.std.specs.List.{All}
use Rattle.std.proofs.lemmas.Bool.Decides.{nat_tests}
use Rattle.std.proofs.lemmas.List.Concat.{flat_map-append}
use Rattle.std.proofs.lemmas.List.Elements.{All-head, All-tail, All-weaker}
use Rattle.std.proofs.lemmas.List.Sums.{sum_by-cons}
use Rattle.state_sums.specs.LocalSums.{open_names_in}
use Rattle.state_sums.specs.Networks.{Node, IsNode, IsPairing, names_of}
use Rattle.state_sums.specs.StateSums.{term_edges}
use Rattle.arc_gluing.specs.Laws.{AreFew}
use Rattle.arc_gluing.specs.Pairings.{AreOpen}
use Rattle.arc_gluing.specs.Seams.{AreOpenBehind}
use Rattle.arc_gluing.proofs.Choices.{AllChoices, AllChoices-weaker, AllChoices-append}
use Rattle.arc_gluing.proofs.OneNode.{IsChoice, next_choice}
use Rattle.list_lemmas.specs.Times.{times_in}
use Rattle.list_lemmas.proofs.Times.{times_in-append, times_in-filter}

pub names_of-append : (nodes others : List Node) → names_of (nodes ++ others) ≡ names_of nodes ++ names_of others
names_of-append nodes others = flat_map-append (λ n. n.ends) nodes others

pub names_of-more : (nodes : List Node) (node : Node) → names_of (nodes ++ node ∷ []) ≡ names_of nodes ++ node.ends
names_of-more nodes node = names_of-append nodes (node ∷ []) ∙ ap (λ xs. names_of nodes ++ xs) (append-nil node.ends)

pub times_in-more : (nodes : List Node) (node : Node) (x : ℕ) → times_in (names_of (nodes ++ node ∷ [])) x ≡ times_in (names_of nodes) x + times_in node.ends x
times_in-more nodes node x = ap (λ xs. times_in xs x) (names_of-more nodes node) ∙ times_in-append (names_of nodes) node.ends x

pub AreFew-front : (nodes others : List Node) → AreFew (nodes ++ others) → AreFew nodes
AreFew-front nodes others few x =
    let a = few x in let b = ap (λ xs. times_in xs x) (names_of-append nodes others) in let c = times_in-append (names_of nodes) (names_of others) x in omega (arith, a, b, c)

pub AreOpen-open_names_in : (names : List ℕ) → AreOpen names (open_names_in names)
AreOpen-open_names_in names = record { once = λ x. let f = times_in-filter (λ y. times_in names y == 1) names x in grind (arith, nat_tests, f) }

-- ---- from the names that are open before a node to those that are open after it
pub left_between : (nodes : List Node) (node : Node) (inner outer : List ℕ) → AreFew (nodes ++ node ∷ []) → AreOpen (names_of nodes) inner → AreOpen (names_of (nodes ++ node ∷ [])) outer →
    AreOpenBehind inner node.ends outer
left_between nodes node inner outer few open_in open_out = record {
  few = λ x. let a = few x in let b = times_in-more nodes node x in let c = open_in.once x in grind (arith, nat_tests, a, b, c);
  once = λ x. let a = few x in let b = times_in-more nodes node x in let c = open_in.once x in let d = open_out.once x in grind (arith, nat_tests, a, b, c, d);
}

pub few_between : (nodes : List Node) (node : Node) → AreFew (nodes ++ node ∷ []) → (x : ℕ) → times_in (names_of nodes) x + times_in node.ends x ≤ 2
few_between nodes node few x = let a = few x in let b = times_in-more nodes node x in omega (arith, a, b)

-- ---- one node more
choices_more : (nodes : List Node) (node : Node) (inner outer : List ℕ) → IsNode node → AreFew (nodes ++ node ∷ []) → AreOpen (names_of nodes) inner → AreOpen (names_of (nodes ++ node ∷ [])) outer →
    AllChoices nodes (IsChoice (names_of nodes) inner) → AllChoices (nodes ++ node ∷ []) (IsChoice (names_of (nodes ++ node ∷ [])) outer)
choices_more nodes node inner outer terms few open_in open_out choices =
    AllChoices-append nodes (node ∷ []) (IsChoice (names_of (nodes ++ node ∷ [])) outer)
    (AllChoices-weaker nodes (IsChoice (names_of nodes) inner) (λ es. AllChoices (node ∷ []) (λ fs. IsChoice (names_of (nodes ++ node ∷ [])) outer (es ++ fs)))
    (λ es choice. All-weaker (λ term. IsPairing term.partner × (length term.partner ≡ length node.ends)) (λ term. IsChoice (names_of (nodes ++ node ∷ [])) outer (es ++ (term_edges node term ++ [])))
    (λ term ok.
    let P : List ℕ → Type 0 = λ ns. IsChoice ns outer (es ++ (term_edges node term ++ [])) in
    let R : List (ℕ × ℕ) → Type 0 = λ fs. IsChoice (names_of nodes ++ node.ends) outer (es ++ fs) in
    subst P (sym (names_of-more nodes node)) (subst R (sym (append-nil (term_edges node term)))
    (next_choice (names_of nodes) node.ends inner outer (few_between nodes node few) open_in (left_between nodes node inner outer few open_in open_out) es choice term.partner ok.0 ok.1))) node.terms terms) choices)

open_nothing : (open_names : List ℕ) → AreOpen [] open_names → open_names ≡ []
open_nothing [] h = refl
open_nothing (x ∷ xs) h = let k = h.once x in let e = sum_by-cons (λ z. cond (x == z) 1 0) x xs in absurd (grind (arith, nat_tests, k, e))

choices_none : (open_names : List ℕ) → AreOpen [] open_names → AllChoices [] (IsChoice [] open_names)
choices_none open_names h =
    let P : List ℕ → Type 0 = λ xs. IsChoice [] xs [] in
    subst P (sym (open_nothing open_names h))
    record {
      inside = tt;
      paired = record {
        whole = refl;
        is_pairing = record { within = λ i l. absurd (omega (arith, l)); apart = λ i l. absurd (omega (arith, l)); back = λ i l. absurd (omega (arith, l)) };
        joined = λ i l. absurd (omega (arith, l));
        only = λ i j l m. absurd (omega (arith, l));
      };
    }

choices_on : (back front : List Node) (node : Node) (inner outer : List ℕ) → All IsNode (node ∷ back) → AreFew (front ++ node ∷ back) → AreOpen (names_of front) inner → AreOpen (names_of (front ++ node ∷ back)) outer →
    AllChoices front (IsChoice (names_of front) inner) → AllChoices (front ++ node ∷ back) (IsChoice (names_of (front ++ node ∷ back)) outer)
choices_on [] front node inner outer ok few open_in open_out choices =
    choices_more front node inner outer (All-head IsNode node [] ok) few open_in open_out choices
choices_on (next ∷ back) front node inner outer ok few open_in open_out choices =
    let step : front ++ node ∷ (next ∷ back) ≡ (front ++ node ∷ []) ++ next ∷ back = sym (append_assoc front (node ∷ []) (next ∷ back)) in
    let Q : List Node → Type 0 = λ ns. AllChoices ns (IsChoice (names_of ns) outer) in
    let few2 : AreFew ((front ++ node ∷ []) ++ next ∷ back) = subst AreFew step few in
    let R : List Node → Type 0 = λ ns. AreOpen (names_of ns) outer in
    let middle = AreOpen-open_names_in (names_of (front ++ node ∷ [])) in
    subst Q (sym step)
    (choices_on back (front ++ node ∷ []) next (open_names_in (names_of (front ++ node ∷ []))) outer (All-tail IsNode node (next ∷ back) ok) few2 middle (subst R step open_out)
    (choices_more front node inner (open_names_in (names_of (front ++ node ∷ []))) (All-head IsNode node (next ∷ back) ok) (AreFew-front (front ++ node ∷ []) (next ∷ back) few2) open_in middle choices))

-- EACH CHOICE PAIRS THE OPEN NAMES
pub each_choice : (nodes : List Node) (open_names : List ℕ) → All IsNode nodes → AreFew nodes → AreOpen (names_of nodes) open_names → AllChoices nodes (IsChoice (names_of nodes) open_names)
each_choice [] open_names ok few h = choices_none open_names h
each_choice (node ∷ nodes) open_names ok few h = choices_on nodes [] node [] open_names ok few (record { once = λ x. refl }) h (choices_none [] (record { once = λ x. refl }))
