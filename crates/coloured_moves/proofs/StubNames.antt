-- The names at stubs, and how often names stand at crossings that are told by stubs; other names for the stubs give other stubs.
--
--     kept_stubs gone n items      the stubs of the crossings that are not in `gone`
--     relabelled f items           f of each stub
--     Straight strands item        opposite stubs of a crossing have as many strands
--     stub_sum, loop_sum           how often a name stands at stubs, and at loops
use Rattle.std.proofs.Common.{◌≡◌, ◌≢◌, ℕ, ◌+◌, ◌*◌, ◌/◌, ◌%◌, ◌^◌, ◌<◌, ◌≤◌, ◌==◌, Bool, true, false, cond, List, [], ◌∷◌, ◌++◌, map, length, refl, sym, ap, ap₂, ◌∙◌, arith, ⊎_elim}
use Rattle.std.specs.List.{AllByRecursion}
use Rattle.std.specs.Set.{is_member}
use Rattle.std.proofs.lemmas.Bool.{cases_Bool, eq-eqb, eqb-true, or_left, or_right}
use Rattle.std.proofs.lemmas.Bool.Decides.{nat_tests}
use Rattle.std.proofs.lemmas.List.{map-append}
use Rattle.graph_parts.proofs.Distinct.{is_member-append}
use Rattle.list_lemmas.specs.Times.{times_in}
use Rattle.list_lemmas.proofs.Times.{times_in-cons}
use Rattle.state_sums.specs.LocalSums.{rename}
use Rattle.state_sums.specs.Networks.{Node, Term, names_of}
use Rattle.piece_laws.proofs.RenamedNodes.{rename-append}
use Rattle.root_quantum.specs.Parameters.{Parameters}
use Rattle.pd_reader.specs.declared.item.Item.{Item}
use Rattle.pd_reader.specs.declared.item.Item.TheVariants as item
use Rattle.cables.specs.Strands.{Strands, strands_of}
use Rattle.cables.specs.CableNodes.{crossing_cable}
use Rattle.cables.specs.Cables.{loop_nodes}
use Rattle.cables.proofs.GridNames.{crossing-times, crossing_inner}
use Rattle.cables.proofs.InnerNames.{inner_range}
use Rattle.cables.proofs.LabelNames.{zero_or_some}
use Rattle.cables.proofs.NameCounts.{times_of-append}
use Rattle.cables.proofs.NumberedStrands.{first_label, second_label, first_once, second_once}
use Rattle.cables.proofs.RenamedCables.{crossing-renamed, loop-renamed}
use Rattle.diagram_moves.proofs.Nodes.{kept, node}
use Rattle.diagram_moves.proofs.Paired.{loop_labels}
use Rattle.coloured_moves.proofs.StubItems.{half, at_stub, stub_crossing, stub_nodes}
use Rattle.coloured_moves.proofs.Tests.{one_if}

abbrev pub kept_stubs : List ℕ → ℕ → List Item → List ℕ
kept_stubs gone n [] = []
kept_stubs gone n (item.X ws ∷ rest) = cond (is_member ◌==◌ gone n) [] ws ++ kept_stubs gone (n + 1) rest
kept_stubs gone n (item.Loop l ∷ rest) = kept_stubs gone n rest

abbrev pub relabelled : (ℕ → ℕ) → List Item → List Item
relabelled f [] = []
relabelled f (item.X ws ∷ rest) = item.X (map f ws) ∷ relabelled f rest
relabelled f (item.Loop l ∷ rest) = item.Loop l ∷ relabelled f rest

abbrev pub Straight : Strands → Item → Type 0
Straight strands (item.X (a ∷ b ∷ c ∷ d ∷ [])) = (length (at_stub strands a) ≡ length (at_stub strands c)) × (length (at_stub strands b) ≡ length (at_stub strands d))
Straight strands (item.X ws) = ⊥
Straight strands (item.Loop l) = Unit {0}

abbrev pub stub_sum : Strands → List ℕ → ℕ → ℕ
stub_sum strands [] z = 0
stub_sum strands (w ∷ ws) z = times_in (at_stub strands w) z + stub_sum strands ws z

abbrev pub loop_sum : Strands → List ℕ → ℕ → ℕ
loop_sum strands [] z = 0
loop_sum strands (l ∷ ls) z = times_in (names_of (loop_nodes strands 0 (strands.first l))) z + loop_sum strands ls z

-- ---- lists of stubs
pub kept_stubs-kept : (gone : List ℕ) (n : ℕ) (items : List Item) → kept_stubs gone n items ≡ names_of (kept 0 0 gone n items)
kept_stubs-kept gone n [] = refl
kept_stubs-kept gone n (item.X ws ∷ rest) =
    let ih = kept_stubs-kept gone (n + 1) rest in
    let node_of : List ℕ → Node = node 0 0 in
    ⊎_elim
    (λ t. ap (λ b. cond b [] ws ++ kept_stubs gone (n + 1) rest) t ∙ ih ∙ sym (ap (λ b. names_of (cond b (kept 0 0 gone (n + 1) rest) (node_of ws ∷ kept 0 0 gone (n + 1) rest))) t))
    (λ t. ap (λ b. cond b [] ws ++ kept_stubs gone (n + 1) rest) t ∙ ap (λ ns. ws ++ ns) ih ∙ sym (ap (λ b. names_of (cond b (kept 0 0 gone (n + 1) rest) (node_of ws ∷ kept 0 0 gone (n + 1) rest))) t))
    (cases_Bool (is_member ◌==◌ gone n))
kept_stubs-kept gone n (item.Loop l ∷ rest) = kept_stubs-kept gone n rest

pub kept_stubs-relabelled : (f : ℕ → ℕ) (gone : List ℕ) (n : ℕ) (items : List Item) → kept_stubs gone n (relabelled f items) ≡ map f (kept_stubs gone n items)
kept_stubs-relabelled f gone n [] = refl
kept_stubs-relabelled f gone n (item.X ws ∷ rest) =
    ap (λ zs. cond (is_member ◌==◌ gone n) [] (map f ws) ++ zs) (kept_stubs-relabelled f gone (n + 1) rest)
    ∙ elim (is_member ◌==◌ gone n) as (λ b. cond b [] (map f ws) ++ map f (kept_stubs gone (n + 1) rest) ≡ map f (cond b [] ws ++ kept_stubs gone (n + 1) rest)) [ true ↦ refl | false ↦ sym (map-append f ws (kept_stubs gone (n + 1) rest)) ]
kept_stubs-relabelled f gone n (item.Loop l ∷ rest) = kept_stubs-relabelled f gone n rest

pub loop_labels-relabelled : (f : ℕ → ℕ) (items : List Item) → loop_labels (relabelled f items) ≡ loop_labels items
loop_labels-relabelled f [] = refl
loop_labels-relabelled f (item.X ws ∷ rest) = loop_labels-relabelled f rest
loop_labels-relabelled f (item.Loop l ∷ rest) = ap (λ ls. l ∷ ls) (loop_labels-relabelled f rest)

stub_sum-append : (strands : Strands) (ws vs : List ℕ) (z : ℕ) → stub_sum strands (ws ++ vs) z ≡ stub_sum strands ws z + stub_sum strands vs z
stub_sum-append strands [] vs z = omega arith
stub_sum-append strands (w ∷ ws) vs z = let ih = stub_sum-append strands ws vs z in omega (arith, ih)

-- a name at one of the stubs, and at none
pub stub_sum_some : (strands : Strands) (ws : List ℕ) (w z : ℕ) → 1 ≤ times_in ws w → times_in (at_stub strands w) z ≤ stub_sum strands ws z
stub_sum_some strands [] w z h = absurd (omega (arith, h))
stub_sum_some strands (v ∷ ws) w z h =
    let c = times_in-cons v ws w in
    ⊎_elim
    (λ (t : (w == v) ≡ true). (let e : times_in (at_stub strands w) z ≡ times_in (at_stub strands v) z = ap (λ u. times_in (at_stub strands u) z) (eqb-true w v t) in omega (arith, e)))
    (λ t. (let none : one_if (w == v) ≡ 0 = grind (arith, t) in let ih = stub_sum_some strands ws w z (omega (arith, c, none, h)) in omega (arith, ih)))
    (cases_Bool (w == v))

pub stub_sum_none : (strands : Strands) (ws : List ℕ) (z : ℕ) → ((w : ℕ) → 1 ≤ times_in ws w → times_in (at_stub strands w) z ≡ 0) → stub_sum strands ws z ≡ 0
stub_sum_none strands [] z h = refl
stub_sum_none strands (w ∷ ws) z h =
    let here = h w (let c = times_in-cons w ws w in let t : one_if (w == w) ≡ 1 = grind (arith, nat_tests) in omega (arith, c, t)) in
    let ih = stub_sum_none strands ws z (λ v l. h v (let c = times_in-cons w ws v in omega (arith, c, l))) in
    omega (arith, here, ih)

-- ---- the names at a stub
module _ (colour : ℕ → ℕ) (boxed : ℕ → Bool) (box : ℕ → List Term) (few : (l : ℕ) → colour l ≤ 8) where
  abbrev S : Strands
  S = strands_of colour boxed box

  pub stub_label : (w z : ℕ) → 1 ≤ times_in (at_stub S w) z → z / 16 ≡ half w
  stub_label w z =
      elim (w % 2 == 1) as (λ b. 1 ≤ times_in (cond b (S.second (half w)) (S.first (half w))) z → z / 16 ≡ half w) [
        | true ↦ second_label colour boxed box z few (half w)
        | false ↦ first_label colour boxed box z few (half w)
      ]

  pub stub_once : (w z : ℕ) → times_in (at_stub S w) z ≤ 1
  stub_once w z =
      elim (w % 2 == 1) as (λ b. times_in (cond b (S.second (half w)) (S.first (half w))) z ≤ 1) [ true ↦ second_once colour boxed box z (half w) | false ↦ first_once colour boxed box z (half w) ]

  pub stub_low : (w z : ℕ) → half w ≤ 2000000 → 1 ≤ times_in (at_stub S w) z → z < 2 ^ 25
  stub_low w z low h = let e = stub_label w z h in omega (arith, e, low)

  pub stub_apart : (w z : ℕ) → z / 16 ≢ half w → times_in (at_stub S w) z ≡ 0
  stub_apart w z d = ⊎_elim (λ e. e) (λ s. (let k = s.1 in absurd (d (stub_label w z (omega (arith, k)))))) (zero_or_some (times_in (at_stub S w) z))

-- ---- the names at crossings
pub inner_none : (k u o z : ℕ) → u ≤ 8 → o ≤ 8 → z < 2 ^ 25 → crossing_inner k u o z ≡ 0
inner_none k u o z few_u few_o low =
    ⊎_elim (λ e. e) (λ s. (let n = s.1 in let r = (inner_range k u o z few_u few_o (omega (arith, n))).0 in absurd (omega (arith, r, low)))) (zero_or_some (crossing_inner k u o z))

module _ (p : Parameters) (strands : Strands) (gone : List ℕ) where
  -- HOW OFTEN A NAME STANDS
  pub stub_nodes_times : (z : ℕ) → z < 2 ^ 25 → ((w : ℕ) → length (at_stub strands w) ≤ 8) → (n g i lg : ℕ) (items : List Item) → AllByRecursion (Straight strands) items →
      times_in (names_of (stub_nodes p strands gone n g i lg items)) z ≡ stub_sum strands (kept_stubs gone n items) z + loop_sum strands (loop_labels items) z
  stub_nodes_times z low few n g i lg [] h = refl
  stub_nodes_times z low few n g i lg (item.Loop l ∷ rest) h =
      let ih = stub_nodes_times z low few n g (i + 1) (lg + 1) rest h.1 in
      let t = times_of-append z (loop_nodes strands lg (strands.first l)) (stub_nodes p strands gone n g (i + 1) (lg + 1) rest) in
      let e : times_in (names_of (loop_nodes strands lg (strands.first l))) z ≡ times_in (names_of (loop_nodes strands 0 (strands.first l))) z = other_group (strands.first l) in
      omega (arith, ih, t, e)
    where
      other_group : (names : List ℕ) → times_in (names_of (loop_nodes strands lg names)) z ≡ times_in (names_of (loop_nodes strands 0 names)) z
      other_group [] = refl
      other_group (x ∷ []) = refl
      other_group (x ∷ y ∷ names) = refl
  stub_nodes_times z low few n g i lg (item.X (a ∷ b ∷ c ∷ d ∷ []) ∷ rest) h =
      let ws = a ∷ b ∷ c ∷ d ∷ [] in
      let C = stub_crossing p strands g i ws in
      let out = is_member ◌==◌ gone n in
      let later = stub_nodes p strands gone (n + 1) (g + 1) (i + 1) lg rest in
      let ih = stub_nodes_times z low few (n + 1) (g + 1) (i + 1) lg rest h.1 in
      let t = times_of-append z (cond out [] C) later in
      let s = stub_sum-append strands (cond out [] ws) (kept_stubs gone (n + 1) rest) z in
      let k = crossing-times p g i z (at_stub strands a) (at_stub strands b) (at_stub strands c) (at_stub strands d) h.0.0 h.0.1 in
      let q = inner_none i (length (at_stub strands a)) (length (at_stub strands b)) z (few a) (few b) low in
      let here : times_in (names_of (cond out [] C)) z ≡ stub_sum strands (cond out [] ws) z =
      elim out as (λ b. times_in (names_of (cond b [] C)) z ≡ stub_sum strands (cond b [] ws) z) [ true ↦ refl | false ↦ omega (arith, k, q) ] in
      omega (arith, ih, t, s, here)
  stub_nodes_times z low few n g i lg (item.X [] ∷ rest) h = absurd h.0
  stub_nodes_times z low few n g i lg (item.X (a ∷ []) ∷ rest) h = absurd h.0
  stub_nodes_times z low few n g i lg (item.X (a ∷ b ∷ []) ∷ rest) h = absurd h.0
  stub_nodes_times z low few n g i lg (item.X (a ∷ b ∷ c ∷ []) ∷ rest) h = absurd h.0
  stub_nodes_times z low few n g i lg (item.X (a ∷ b ∷ c ∷ d ∷ e ∷ ws) ∷ rest) h = absurd h.0

  -- OTHER NAMES, OTHER STUBS
  module _ (f t : ℕ → ℕ) (inner : (k o : ℕ) → f (2 ^ 25 + 128 * k + o) ≡ 2 ^ 25 + 128 * k + o) where
    pub stub_nodes_renamed : (n g i lg : ℕ) (items : List Item) → AllByRecursion (Straight strands) items → ((w : ℕ) → is_member ◌==◌ (kept_stubs gone n items) w ≡ true → map f (at_stub strands w) ≡ at_stub strands (t w)) →
        ((l : ℕ) → is_member ◌==◌ (loop_labels items) l ≡ true → map f (strands.first l) ≡ strands.first l) →
        rename f (stub_nodes p strands gone n g i lg items) ≡ stub_nodes p strands gone n g i lg (relabelled t items)
    stub_nodes_renamed n g i lg [] h at_stubs at_loops = refl
    stub_nodes_renamed n g i lg (item.Loop l ∷ rest) h at_stubs at_loops =
        let ns = loop_nodes strands lg (strands.first l) in
        let here : rename f ns ≡ ns = sym (loop-renamed p f strands lg (strands.first l)) ∙ ap (loop_nodes strands lg) (at_loops l (or_left (l == l) _ (eq-eqb l l refl))) in
        rename-append f ns (stub_nodes p strands gone n g (i + 1) (lg + 1) rest)
        ∙ ap₂ (λ x y. x ++ y) here (stub_nodes_renamed n g (i + 1) (lg + 1) rest h.1 at_stubs (λ k m. at_loops k (or_right (k == l) _ m)))
    stub_nodes_renamed n g i lg (item.X (a ∷ b ∷ c ∷ d ∷ []) ∷ rest) h at_stubs at_loops =
        let ws = a ∷ b ∷ c ∷ d ∷ [] in
        let out = is_member ◌==◌ gone n in
        let ks = kept_stubs gone (n + 1) rest in
        let C = stub_crossing p strands g i ws in
        let later = stub_nodes p strands gone (n + 1) (g + 1) (i + 1) lg rest in
        let ih = stub_nodes_renamed (n + 1) (g + 1) (i + 1) lg rest h.1 (λ w m. at_stubs w (is_member-append (cond out [] ws) ks w ∙ or_right (is_member ◌==◌ (cond out [] ws) w) (is_member ◌==◌ ks w) m)) at_loops in
        let D : Bool → List Node = λ o. cond o [] (stub_crossing p strands g i (map t ws)) in
        let here : rename f (cond out [] C) ≡ D out =
        ⊎_elim
        (λ o. ap (λ b. rename f (cond b [] C)) o ∙ sym (ap D o))
        (λ o.
        let m : (w : ℕ) → is_member ◌==◌ ws w ≡ true → map f (at_stub strands w) ≡ at_stub strands (t w) =
        λ w k. at_stubs w (ap (λ b. is_member ◌==◌ (cond b [] ws ++ ks) w) o ∙ is_member-append ws ks w ∙ or_left (is_member ◌==◌ ws w) (is_member ◌==◌ ks w) k) in
        let ma = m a (grind (arith, nat_tests)) in let mb = m b (grind (arith, nat_tests)) in let mc = m c (grind (arith, nat_tests)) in let md = m d (grind (arith, nat_tests)) in
        let N : ℕ → List ℕ = at_stub strands in
        let X : List ℕ → List ℕ → List ℕ → List ℕ → List Node = crossing_cable p g i in
        ap (λ b. rename f (cond b [] C)) o
        ∙ sym (crossing-renamed p f g i i (inner i) (N a) (N b) (N c) (N d))
        ∙ ap₂ (λ x y. X x y (map f (N c)) (map f (N d))) ma mb ∙ ap₂ (λ x y. X (N (t a)) (N (t b)) x y) mc md
        ∙ sym (ap D o))
        (cases_Bool out) in
        rename-append f (cond out [] C) later ∙ ap₂ (λ x y. x ++ y) here ih
    stub_nodes_renamed n g i lg (item.X [] ∷ rest) h at_stubs at_loops = absurd h.0
    stub_nodes_renamed n g i lg (item.X (a ∷ []) ∷ rest) h at_stubs at_loops = absurd h.0
    stub_nodes_renamed n g i lg (item.X (a ∷ b ∷ []) ∷ rest) h at_stubs at_loops = absurd h.0
    stub_nodes_renamed n g i lg (item.X (a ∷ b ∷ c ∷ []) ∷ rest) h at_stubs at_loops = absurd h.0
    stub_nodes_renamed n g i lg (item.X (a ∷ b ∷ c ∷ d ∷ e ∷ ws) ∷ rest) h at_stubs at_loops = absurd h.0
