-- Bundles in another order, from the other side, and two that meet in an edge.
use Rattle.std.proofs.Common.{◌≡◌, ◌≢◌, ℕ, ◌+◌, ◌≤◌, ◌==◌, ◌&&◌, not, Bool, true, false, cond, List, [], ◌∷◌, ◌++◌, map, reverse, refl, sym, ap, ap₂, ◌∙◌, arith, ⊎_elim, All, append_assoc}
use Rattle.std.specs.List.{AllByRecursion, zip}
use Rattle.std.proofs.lemmas.Bool.{cases_Bool, cases_eq, eq-eqb, eqb-true}
use Rattle.std.proofs.lemmas.Bool.Decides.{nat_tests}
use Rattle.std.proofs.lemmas.List.Elements.{All-append}
use Rattle.graph_parts.specs.Ends.{ends_of}
use Rattle.list_lemmas.specs.Times.{times_in}
use Rattle.list_lemmas.proofs.Times.{times_in-cons, times_in-append, times_of_member}
use Rattle.state_sums.specs.Networks.{Node, IsNode}
use Rattle.state_sums.specs.StateSums.{value}
use Rattle.piece_laws.specs.Arcs.{arcs_of}
use Rattle.piece_laws.proofs.RenamedNodes.{rename_fixed}
use Rattle.root_quantum.specs.Parameters.{Parameters}
use Rattle.root_quantum.specs.QuantumNumbers.{loop_value}
use Rattle.pd_reader.specs.declared.item.Item.{Item}
use Rattle.cables.specs.Nets.{projector_of}
use Rattle.cables.specs.Strands.{Strands, strands_of}
use Rattle.cable_crossings.proofs.BundleTurns.{runs_exchanged}
use Rattle.cable_crossings.proofs.ManyArcs.{arcs_ok}
use Rattle.cable_crossings.proofs.ThroughArcs.{turned_arcs}
use Rattle.coloured_moves.proofs.ArcMerges.{map_fixed}
use Rattle.coloured_moves.proofs.BundleMerges.{bundles, told, told_pair, IsState, others, told_value, long}
use Rattle.coloured_moves.proofs.BundleMerges as merges
use Rattle.coloured_moves.proofs.NetAppends.{arcs_of-append, ends_of-append}
use Rattle.coloured_moves.proofs.StubItems.{half, at_stub, stub_nodes, boxes_of}
use Rattle.coloured_moves.proofs.StubNames.{kept_stubs, relabelled, stub_nodes_renamed}
use Rattle.coloured_moves.proofs.Tests.{one_apart, one_if, one_most, one_same, one_shown}
use Rattle.strand_algebra.proofs.Each.{Each-append}

-- ---- what holds of pairs in two lists
pub all_split : (P : ℕ × ℕ → Type 0) (xs ys : List (ℕ × ℕ)) → AllByRecursion P (xs ++ ys) → AllByRecursion P xs × AllByRecursion P ys
all_split P [] ys h = (tt, h)
all_split P (x ∷ xs) ys h = let r = all_split P xs ys h.1 in ((h.0, r.0), r.1)

bundles-append : (strands : Strands) (xs ys : List (ℕ × ℕ)) → bundles strands (xs ++ ys) ≡ bundles strands xs ++ bundles strands ys
bundles-append strands [] ys = refl
bundles-append strands (x ∷ xs) ys =
    let one = zip (at_stub strands x.0) (reverse (at_stub strands x.1)) in
    ap (λ bs. one ++ bs) (bundles-append strands xs ys) ∙ sym (append_assoc one (bundles strands xs) (bundles strands ys))

arcs-bundles : (strands : Strands) (xs ys : List (ℕ × ℕ)) → arcs_of (bundles strands (xs ++ ys)) ≡ arcs_of (bundles strands xs) ++ arcs_of (bundles strands ys)
arcs-bundles strands xs ys = ap arcs_of (bundles-append strands xs ys) ∙ arcs_of-append (bundles strands xs) (bundles strands ys)

module _ (p : Parameters) (colour : ℕ → ℕ) (boxed : ℕ → Bool) (few : (l : ℕ) → colour l ≤ 8) (gone : List ℕ) (lg free : ℕ) (labels_boxed : List ℕ) where
  abbrev S : Strands
  S = strands_of colour boxed (projector_of p)

  abbrev V : List (ℕ × ℕ) → List Item → ℕ
  V = merges.V p colour boxed few gone lg free labels_boxed

  -- ---- from the other side
  pub turned_state : (present : ℕ → Bool) (u v : ℕ) (pairs : List (ℕ × ℕ)) (items : List Item) → IsState p colour boxed few gone lg free labels_boxed present ((u, v) ∷ pairs) items → IsState p colour boxed few gone lg free labels_boxed present ((v, u) ∷ pairs) items
  turned_state present u v pairs items state = record {
    straight = state.straight;
    once = λ z. (
        let o = state.once z in
        let a = times_in-cons u (v ∷ ends_of pairs) z in let b = times_in-cons v (ends_of pairs) z in
        let c = times_in-cons v (u ∷ ends_of pairs) z in let d = times_in-cons u (ends_of pairs) z in
        omega (arith, o, a, b, c, d));
    even = (sym state.even.0, state.even.1);
    small = state.small;
    loops = state.loops;
    nodes = state.nodes;
  }

  pub turned_value : (present : ℕ → Bool) (u v : ℕ) (pairs : List (ℕ × ℕ)) (items : List Item) → IsState p colour boxed few gone lg free labels_boxed present ((u, v) ∷ pairs) items → V ((u, v) ∷ pairs) items ≡ V ((v, u) ∷ pairs) items
  turned_value present u v pairs items state =
      let N : ℕ → List ℕ = at_stub S in
      let W : List Node → ℕ = λ ns. value p.modulus (loop_value p) record { nodes = ns; free_loops = free } in
      let O = others p colour boxed few gone lg free labels_boxed items in
      let later = arcs_of (bundles S pairs) in
      let flat : (xs ys : List ℕ) → W (arcs_of (zip xs ys ++ bundles S pairs) ++ O) ≡ W (arcs_of (zip xs ys) ++ (later ++ O)) =
      λ xs ys. ap (λ ns. W (ns ++ O)) (arcs_of-append (zip xs ys) (bundles S pairs)) ∙ ap W (append_assoc (arcs_of (zip xs ys)) later O) in
      flat (N u) (reverse (N v))
      ∙ turned_arcs p.modulus (loop_value p) free (colour (half v)) (N u) (N v) (later ++ O) (long p colour boxed few gone lg free labels_boxed u ∙ state.even.0) (long p colour boxed few gone lg free labels_boxed v)
      (All-append IsNode later O (arcs_ok (bundles S pairs)) state.nodes)
      ∙ sym (flat (N v) (reverse (N u)))

  -- ---- the first bundle behind others
  pub later_state : (present : ℕ → Bool) (pair : ℕ × ℕ) (todo shut : List (ℕ × ℕ)) (items : List Item) → IsState p colour boxed few gone lg free labels_boxed present (pair ∷ (todo ++ shut)) items → IsState p colour boxed few gone lg free labels_boxed present (todo ++ (pair ∷ shut)) items
  later_state present pair todo shut items state =
      let E : ℕ × ℕ → Type 0 = λ pr. colour (half pr.0) ≡ colour (half pr.1) in
      let parts = all_split E todo shut state.even.1 in
      record {
        straight = state.straight;
        once = λ z. (
            let o = state.once z in
            let a = times_in-cons pair.0 (pair.1 ∷ ends_of (todo ++ shut)) z in let b = times_in-cons pair.1 (ends_of (todo ++ shut)) z in
            let c = ap (λ ws. times_in ws z) (ends_of-append todo shut) in let d = times_in-append (ends_of todo) (ends_of shut) z in
            let e = ap (λ ws. times_in ws z) (ends_of-append todo (pair ∷ shut)) in let f = times_in-append (ends_of todo) (pair.0 ∷ pair.1 ∷ ends_of shut) z in
            let g = times_in-cons pair.0 (pair.1 ∷ ends_of shut) z in let h = times_in-cons pair.1 (ends_of shut) z in
            omega (arith, o, a, b, c, d, e, f, g, h));
        even = Each-append E todo (pair ∷ shut) parts.0 (state.even.0, parts.1);
        small = state.small;
        loops = state.loops;
        nodes = state.nodes;
      }

  pub later_value : (pair : ℕ × ℕ) (todo shut : List (ℕ × ℕ)) (items : List Item) → All IsNode (others p colour boxed few gone lg free labels_boxed items) → V (pair ∷ (todo ++ shut)) items ≡ V (todo ++ (pair ∷ shut)) items
  later_value pair todo shut items ok =
      let W : List Node → ℕ = λ ns. value p.modulus (loop_value p) record { nodes = ns; free_loops = free } in
      let O = others p colour boxed few gone lg free labels_boxed items in
      let A = arcs_of (bundles S (pair ∷ [])) in
      let B = arcs_of (bundles S todo) in
      let C = arcs_of (bundles S shut) in
      ap (λ ns. W (ns ++ O)) (arcs-bundles S (pair ∷ []) (todo ++ shut) ∙ ap (λ ns. A ++ ns) (arcs-bundles S todo shut))
      ∙ ap W (append_assoc A (B ++ C) O ∙ ap (λ ns. A ++ ns) (append_assoc B C O))
      ∙ runs_exchanged p.modulus (loop_value p) free A B (C ++ O) (arcs_ok (bundles S (pair ∷ []))) (arcs_ok (bundles S todo)) (All-append IsNode C O (arcs_ok (bundles S shut)) ok)
      ∙ ap W (sym (append_assoc B (A ++ C) O ∙ ap (λ ns. B ++ ns) (append_assoc A C O)))
      ∙ ap (λ ns. W (ns ++ O)) (sym (arcs-bundles S todo (pair ∷ shut) ∙ ap (λ ns. B ++ ns) (arcs-bundles S (pair ∷ []) shut)))

  -- ---- two bundles that meet in an edge, which has no other place
  module _ (boxes : AllByRecursion (λ l. boxed l ≡ true) labels_boxed) (present : ℕ → Bool) (x0 u x1 v : ℕ) (pairs : List (ℕ × ℕ)) (items : List Item) (state : IsState p colour boxed few gone lg free labels_boxed present ((x0, u) ∷ (x1, v) ∷ pairs) items)
      (one : half x1 ≡ half x0) (differ : x0 ≢ x1) (free_x : boxed (half x0) ≡ false) (apart_u : half u ≢ half x0) (apart_v : half v ≢ half x0) where
    abbrev x : ℕ
    x = half x0

    abbrev t : ℕ → ℕ
    t = told x u

    abbrev kept : List ℕ
    kept = kept_stubs gone 1 items

    counted : (z : ℕ) → times_in kept z + (one_if (z == x0) + (one_if (z == u) + (one_if (z == x1) + (one_if (z == v) + times_in (ends_of pairs) z)))) ≡ one_if (present (half z))
    counted z =
        let o = state.once z in
        let a = times_in-cons x0 (u ∷ x1 ∷ v ∷ ends_of pairs) z in let b = times_in-cons u (x1 ∷ v ∷ ends_of pairs) z in
        let c = times_in-cons x1 (v ∷ ends_of pairs) z in let d = times_in-cons v (ends_of pairs) z in
        omega (arith, o, a, b, c, d)

    present_x : present x ≡ true
    present_x = let c = counted x0 in let o = one_same x0 x0 refl in one_shown (present x) _ (omega (arith, o)) c

    -- the edge's stubs are these two
    sides : (z : ℕ) → one_if (z == x0) + one_if (z == x1) ≡ one_if (half z == x)
    sides z =
        ⊎_elim
        (λ (e : half z ≡ x). (let h : one_if (half z == x) ≡ 1 = grind (arith, nat_tests, e) in
        ⊎_elim
        (λ (f : z ≡ x0). (let i : one_if (z == x0) ≡ 1 = grind (arith, nat_tests, f) in let j = one_apart z x1 (λ s. differ (sym f ∙ s)) in omega (arith, h, i, j)))
        (λ f. (let i = one_apart z x0 f in let g : z ≡ x1 = omega (arith, e, one, differ, f) in let j : one_if (z == x1) ≡ 1 = grind (arith, nat_tests, g) in omega (arith, h, i, j)))
        (cases_eq z x0)))
        (λ d. (let h = one_apart (half z) x d in let i = one_apart z x0 (λ s. d (ap half s)) in let j = one_apart z x1 (λ s. d (ap half s ∙ one)) in omega (arith, h, i, j)))
        (cases_eq (half z) x)

    -- no other stub is one of the edge
    elsewhere : (w : ℕ) → 1 ≤ times_in kept w + times_in (ends_of pairs) w → half w ≢ x
    elsewhere w l e =
        let c = counted w in
        let s = sides w in
        let h : one_if (half w == x) ≡ 1 = grind (arith, nat_tests, e) in
        let m = one_most (present (half w)) in
        omega (arith, l, c, s, h, m)

    stays : (w : ℕ) → half w ≢ x → t w ≡ w
    stays w d = ⊎_elim (λ e. absurd (d (eqb-true (half w) x e))) (λ e. ap (λ h. cond h u w) e) (cases_Bool (half w == x))

    pairs_stay : (rest : List (ℕ × ℕ)) → ((w : ℕ) → 1 ≤ times_in (ends_of rest) w → half w ≢ x) → map (told_pair t) rest ≡ rest
    pairs_stay [] h = refl
    pairs_stay (pair ∷ rest) h =
        let a = times_in-cons pair.0 (pair.1 ∷ ends_of rest) in
        let b = times_in-cons pair.1 (ends_of rest) in
        let first : t pair.0 ≡ pair.0 = stays pair.0 (h pair.0 (let i = a pair.0 in let o = one_same pair.0 pair.0 refl in omega (arith, i, o))) in
        let second : t pair.1 ≡ pair.1 = stays pair.1 (h pair.1 (let i = a pair.1 in let j = b pair.1 in let o = one_same pair.1 pair.1 refl in omega (arith, i, j, o))) in
        let same : told_pair t pair ≡ pair = ap₂ (λ i j. let q : ℕ × ℕ = (i, j) in q) first second in
        ap₂ (λ q qs. q ∷ qs) same (pairs_stay rest (λ w l. h w (let i = a w in let j = b w in omega (arith, i, j, l))))

    others_stay : others p colour boxed few gone lg free labels_boxed (relabelled t items) ≡ others p colour boxed few gone lg free labels_boxed items
    others_stay =
        let id : ℕ → ℕ = λ z. z in
        let plain : (ns : List ℕ) → map id ns ≡ ns = λ ns. map_fixed id ns (λ z l. refl) in
        let K = stub_nodes p S gone 1 1 0 lg items in
        ap (λ ns. boxes_of S labels_boxed ++ ns)
        (sym (stub_nodes_renamed p S gone id t (λ k o. refl) 1 1 0 lg items state.straight
        (λ w m. plain (at_stub S w) ∙ ap (at_stub S) (sym (stays w (elsewhere w (let i = times_of_member w kept m in omega (arith, i))))))
        (λ l m. plain (S.first l)))
        ∙ rename_fixed id K (λ z m. refl))

    -- THEY ARE ONE
    pub chain_value : V ((x0, u) ∷ (x1, v) ∷ pairs) items ≡ V ((u, v) ∷ pairs) items
    chain_value =
        let W : List (ℕ × ℕ) → List Node → ℕ = λ ps os. value p.modulus (loop_value p) record { nodes = arcs_of (bundles S ps) ++ os; free_loops = free } in
        let front : told_pair t (x1, v) ≡ (u, v) =
        ap₂ (λ i j. let q : ℕ × ℕ = (i, j) in q) (ap (λ h. cond h u x1) (eq-eqb (half x1) x one)) (stays v apart_v) in
        turned_value present x0 u ((x1, v) ∷ pairs) items state
        ∙ told_value p colour boxed few gone lg free labels_boxed boxes present u x0 ((x1, v) ∷ pairs) items (turned_state present x0 u ((x1, v) ∷ pairs) items state) apart_u free_x
        ∙ ap₂ W (ap₂ (λ q qs. q ∷ qs) front (pairs_stay pairs (λ w l. elsewhere w (omega (arith, l))))) others_stay

    pub chain_state : IsState p colour boxed few gone lg free labels_boxed (λ l. present l && not (l == x)) ((u, v) ∷ pairs) items
    chain_state = record {
      straight = state.straight;
      once = λ z. (
          let c = counted z in
          let s = sides z in
          let a = times_in-cons u (v ∷ ends_of pairs) z in let b = times_in-cons v (ends_of pairs) z in
          ⊎_elim
          (λ (e : (half z == x) ≡ true).
          (let h = ap one_if e in
          let here : one_if (present (half z)) ≡ 1 = ap one_if (ap present (eqb-true (half z) x e) ∙ present_x) in
          let goal : one_if (present (half z) && not (half z == x)) ≡ 0 = ap (λ b. one_if (present (half z) && not b)) e ∙ none (present (half z)) in
          omega (arith, c, s, a, b, h, here, goal)))
          (λ e.
          (let h = ap one_if e in
          let goal : one_if (present (half z) && not (half z == x)) ≡ one_if (present (half z)) = ap (λ b. one_if (present (half z) && not b)) e ∙ whole (present (half z)) in
          omega (arith, c, s, a, b, h, goal)))
          (cases_Bool (half z == x)));
      even = (sym state.even.0 ∙ ap colour (sym one) ∙ state.even.1.0, state.even.1.1);
      small = λ l m. state.small l (front (present l) (not (l == x)) m);
      loops = λ l m. ap (λ b. b && not (l == x)) (state.loops l m);
      nodes = state.nodes;
    }
      where
        none : (h : Bool) → one_if (h && false) ≡ 0
        none true = refl
        none false = refl

        whole : (h : Bool) → one_if (h && true) ≡ one_if h
        whole true = refl
        whole false = refl

        front : (s r : Bool) → (s && r) ≡ true → s ≡ true
        front s r m = grind (arith, m)
