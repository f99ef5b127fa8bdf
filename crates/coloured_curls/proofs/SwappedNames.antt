-- Two pairs of names that are swapped: in lists, in the crossings of a diagram by their stubs, and in the value of a network.
use Rattle.std.proofs.Common.{◌≡◌, ◌≢◌, ℕ, zero, suc, ◌+◌, ◌*◌, ◌<◌, ◌≤◌, ◌==◌, true, cond, List, [], ◌∷◌, ◌++◌, map, length, slice_index, refl, sym, ap, ap₂, ◌∙◌, arith, ⊎_elim, All, ◌^◌}
use Rattle.std.specs.List.{AllByRecursion}
use Rattle.std.specs.Set.{is_member}
use Rattle.std.proofs.lemmas.Bool.{cases_eq, eq-eqb, or_left, or_right}
use Rattle.std.proofs.lemmas.Bool.Decides.{nat_tests}
use Rattle.graph_parts.proofs.Distinct.{is_member-append}
use Rattle.graph_parts.proofs.Ends.{is_member-get_or}
use Rattle.graph_parts.specs.Renaming.{IsOneToOne}
use Rattle.list_lemmas.specs.Times.{times_in}
use Rattle.list_lemmas.proofs.Times.{times_in-cons, times_of_member}
use Rattle.state_sums.specs.LocalSums.{rename}
use Rattle.state_sums.specs.Networks.{Node, IsNode, names_of}
use Rattle.state_sums.specs.StateSums.{value}
use Rattle.state_sums.proofs.NetworkLaws.{any_names}
use Rattle.piece_laws.proofs.RenamedNodes.{rename-append}
use Rattle.root_quantum.specs.Parameters.{Parameters}
use Rattle.pd_reader.specs.declared.item.Item.{Item}
use Rattle.pd_reader.specs.declared.item.Item.TheVariants as item
use Rattle.pd_reader.specs.Items.{HasItsSlots}
use Rattle.cables.specs.CableNodes.{crossing_cable}
use Rattle.cables.specs.Cables.{loop_nodes}
use Rattle.cables.specs.Strands.{Strands}
use Rattle.cables.proofs.NameCounts.{at}
use Rattle.cables.proofs.RenamedCables.{crossing-renamed, loop-renamed}
use Rattle.diagram_moves.specs.Rewriting.{crossing_labels}
use Rattle.diagram_moves.proofs.Paired.{loop_labels}
use Rattle.coloured_moves.proofs.ArcMerges.{map_fixed}
use Rattle.coloured_moves.proofs.StubItems.{at_stub, stub_crossing, stub_nodes}
use Rattle.coloured_curls.proofs.StubLetters.{changed}

-- ---- p with u, and q with v
abbrev pub swap : ℕ → ℕ → ℕ → ℕ → ℕ → ℕ
swap p q u v z = cond (z == p) u (cond (z == u) p (cond (z == q) v (cond (z == v) q z)))

pub record AreFour (p q u v : ℕ) : Type 0 where
  pub pq : p ≢ q
  pub pu : p ≢ u
  pub pv : p ≢ v
  pub qu : q ≢ u
  pub qv : q ≢ v
  pub uv : u ≢ v

module _ (p q u v : ℕ) (four : AreFour p q u v) where
  abbrev swapped : ℕ → ℕ
  swapped = swap p q u v

  pub swap_p : swapped p ≡ u
  swap_p = grind (arith, nat_tests)

  pub swap_u : swapped u ≡ p
  swap_u = let a = four.pu in grind (arith, nat_tests, a)

  pub swap_q : swapped q ≡ v
  swap_q = let a = four.pq in let b = four.qu in grind (arith, nat_tests, a, b)

  pub swap_v : swapped v ≡ q
  swap_v = let a = four.pv in let b = four.uv in let c = four.qv in grind (arith, nat_tests, a, b, c)

  pub swap_other : (z : ℕ) → z ≢ p → z ≢ q → z ≢ u → z ≢ v → swapped z ≡ z
  swap_other z a b c d = grind (arith, nat_tests, a, b, c, d)

  swap_twice : (z : ℕ) → swapped (swapped z) ≡ z
  swap_twice z =
      ⊎_elim (λ (e : z ≡ p). ap (λ i. swapped (swapped i)) e ∙ ap swapped swap_p ∙ swap_u ∙ sym e)
      (λ a. ⊎_elim (λ (e : z ≡ u). ap (λ i. swapped (swapped i)) e ∙ ap swapped swap_u ∙ swap_p ∙ sym e)
      (λ b. ⊎_elim (λ (e : z ≡ q). ap (λ i. swapped (swapped i)) e ∙ ap swapped swap_q ∙ swap_v ∙ sym e)
      (λ c. ⊎_elim (λ (e : z ≡ v). ap (λ i. swapped (swapped i)) e ∙ ap swapped swap_v ∙ swap_q ∙ sym e)
      (λ d. (let e = swap_other z a c b d in ap swapped e ∙ e)) (cases_eq z v)) (cases_eq z q)) (cases_eq z u)) (cases_eq z p)

  pub swapped_back : (xs : List ℕ) → map swapped (map swapped xs) ≡ xs
  swapped_back [] = refl
  swapped_back (x ∷ xs) = ap₂ (λ y ys. y ∷ ys) (swap_twice x) (swapped_back xs)

  one_to_one : (names : List ℕ) → IsOneToOne swapped names
  one_to_one names a b ma mb e = sym (swap_twice a) ∙ ap swapped e ∙ swap_twice b

  -- THE VALUE STAYS
  pub swapped_value : (m delta free : ℕ) (nodes : List Node) → All IsNode nodes → value m delta record { nodes = nodes; free_loops = free } ≡ value m delta record { nodes = rename swapped nodes; free_loops = free }
  swapped_value m delta free nodes ok = sym (any_names m delta free swapped nodes ok (one_to_one (names_of nodes)))

-- ---- lists
own_time : (xs : List ℕ) (k : ℕ) → k < length xs → 1 ≤ times_in xs (slice_index xs k)
own_time xs k l = times_of_member (slice_index xs k) xs (is_member-get_or xs k l)

-- two neighbours change, and the others stay
pub map_changed : (f : ℕ → ℕ) (xs : List ℕ) (k : ℕ) → k + 1 < length xs → ((z : ℕ) → times_in xs z ≤ 1) → ((z : ℕ) → 1 ≤ times_in xs z → z ≢ slice_index xs k → z ≢ slice_index xs (suc k) → f z ≡ z) →
    map f xs ≡ changed xs k (f (slice_index xs k)) (f (slice_index xs (suc k)))
map_changed f [] k l once others = absurd (omega (arith, l))
map_changed f (x ∷ []) k l once others = absurd (omega (arith, l))
map_changed f (x ∷ y ∷ xs) zero l once others =
    ap (λ zs. f x ∷ f y ∷ zs)
    (map_fixed f xs (λ z one.
    let a = times_in-cons x (y ∷ xs) z in let b = times_in-cons y xs z in let o = once z in
    others z (omega (arith, a, b, one)) (λ (e : z ≡ x). (let c : at z x ≡ 1 = grind (arith, nat_tests, e) in omega (arith, a, b, c, o, one))) (λ (e : z ≡ y). (let c : at z y ≡ 1 = grind (arith, nat_tests, e) in omega (arith, a, b, c, o, one)))))
map_changed f (x ∷ y ∷ xs) (suc k) l once others =
    let away : (i : ℕ) → i < length (y ∷ xs) → x ≢ slice_index (y ∷ xs) i =
    λ i b e. (let a = times_in-cons x (y ∷ xs) x in let o = once x in let c : at x x ≡ 1 = grind (arith, nat_tests) in let t = own_time (y ∷ xs) i b in let s = ap (times_in (y ∷ xs)) e in omega (arith, a, o, c, t, s)) in
    let here : f x ≡ x = others x (let a = times_in-cons x (y ∷ xs) x in let c : at x x ≡ 1 = grind (arith, nat_tests) in omega (arith, a, c)) (away k (omega (arith, l))) (away (suc k) (omega (arith, l))) in
    ap₂ (λ z zs. z ∷ zs) here
    (map_changed f (y ∷ xs) k (omega (arith, l)) (λ z. (let a = times_in-cons x (y ∷ xs) z in let o = once z in omega (arith, a, o)))
    (λ z one. others z (let a = times_in-cons x (y ∷ xs) z in omega (arith, a, one))))

-- ---- crossings by their stubs
pub stubs_renamed : (p : Parameters) (f : ℕ → ℕ) (S T : Strands) → ((k o : ℕ) → f (2 ^ 25 + 128 * k + o) ≡ 2 ^ 25 + 128 * k + o) → ((lg : ℕ) (xs : List ℕ) → loop_nodes S lg xs ≡ loop_nodes T lg xs) →
    (n g i lg : ℕ) (D : List Item) → AllByRecursion HasItsSlots D → ((w : ℕ) → is_member ◌==◌ (crossing_labels D) w ≡ true → map f (at_stub S w) ≡ at_stub T w) → ((l : ℕ) → is_member ◌==◌ (loop_labels D) l ≡ true → map f (S.first l) ≡ T.first l) →
    rename f (stub_nodes p S [] n g i lg D) ≡ stub_nodes p T [] n g i lg D
stubs_renamed p f S T inner boxes n g i lg [] sizes at_stubs at_loops = refl
stubs_renamed p f S T inner boxes n g i lg (item.Loop l ∷ rest) sizes at_stubs at_loops =
    let ns = loop_nodes S lg (S.first l) in
    let here : rename f ns ≡ loop_nodes T lg (T.first l) =
    sym (loop-renamed p f S lg (S.first l)) ∙ boxes lg (map f (S.first l)) ∙ ap (loop_nodes T lg) (at_loops l (or_left (l == l) _ (eq-eqb l l refl))) in
    rename-append f ns (stub_nodes p S [] n g (i + 1) (lg + 1) rest)
    ∙ ap₂ (λ x y. x ++ y) here (stubs_renamed p f S T inner boxes n g (i + 1) (lg + 1) rest sizes.1 at_stubs (λ k m. at_loops k (or_right (k == l) _ m)))
stubs_renamed p f S T inner boxes n g i lg (item.X (a ∷ b ∷ c ∷ d ∷ []) ∷ rest) sizes at_stubs at_loops =
    let ws = a ∷ b ∷ c ∷ d ∷ [] in
    let C = stub_crossing p S g i ws in
    let later = stub_nodes p S [] (n + 1) (g + 1) (i + 1) lg rest in
    let ks = crossing_labels rest in
    let m : (w : ℕ) → is_member ◌==◌ ws w ≡ true → map f (at_stub S w) ≡ at_stub T w = λ w k. at_stubs w (is_member-append ws ks w ∙ or_left (is_member ◌==◌ ws w) (is_member ◌==◌ ks w) k) in
    let ma = m a (grind (arith, nat_tests)) in let mb = m b (grind (arith, nat_tests)) in let mc = m c (grind (arith, nat_tests)) in let md = m d (grind (arith, nat_tests)) in
    let N : ℕ → List ℕ = at_stub S in
    let M : ℕ → List ℕ = at_stub T in
    let X : List ℕ → List ℕ → List ℕ → List ℕ → List Node = crossing_cable p g i in
    rename-append f C later
    ∙ ap₂ (λ x y. x ++ y)
    (sym (crossing-renamed p f g i i (inner i) (N a) (N b) (N c) (N d)) ∙ ap₂ (λ x y. X x y (map f (N c)) (map f (N d))) ma mb ∙ ap₂ (λ x y. X (M a) (M b) x y) mc md)
    (stubs_renamed p f S T inner boxes (n + 1) (g + 1) (i + 1) lg rest sizes.1 (λ w k. at_stubs w (is_member-append ws ks w ∙ or_right (is_member ◌==◌ ws w) (is_member ◌==◌ ks w) k)) at_loops)
stubs_renamed p f S T inner boxes n g i lg (item.X [] ∷ rest) sizes at_stubs at_loops = absurd (omega (arith, sizes.0))
stubs_renamed p f S T inner boxes n g i lg (item.X (a ∷ []) ∷ rest) sizes at_stubs at_loops = absurd (omega (arith, sizes.0))
stubs_renamed p f S T inner boxes n g i lg (item.X (a ∷ b ∷ []) ∷ rest) sizes at_stubs at_loops = absurd (omega (arith, sizes.0))
stubs_renamed p f S T inner boxes n g i lg (item.X (a ∷ b ∷ c ∷ []) ∷ rest) sizes at_stubs at_loops = absurd (omega (arith, sizes.0))
stubs_renamed p f S T inner boxes n g i lg (item.X (a ∷ b ∷ c ∷ d ∷ e ∷ slots) ∷ rest) sizes at_stubs at_loops = absurd (omega (arith, sizes.0))
