-- A loop with a new label behind the items: its nodes are appended, and share no name with the others, so the value is the
-- product.
use Rattle.std.proofs.Common.{◌≡◌, ℕ, suc, ◌+◌, ◌*◌, ◌/◌, ◌%◌, ◌≤◌, ◌==◌, Bool, true, false, List, [], ◌∷◌, ◌++◌, length, reverse, refl, sym, ap, ap₂, ◌∙◌, arith, ⊎_elim, ◌⊎◌, inl, inr, append_assoc, append-nil, All}
use Rattle.std.specs.List.{AllByRecursion}
use Rattle.std.specs.Set.{is_member}
use Rattle.std.proofs.lemmas.Bool.{cases_Bool, eqb-true, eq-eqb}
use Rattle.state_sums.specs.Networks.{Term, IsNode, names_of}
use Rattle.list_lemmas.specs.Times.{times_in}
use Rattle.state_sums.specs.StateSums.{value}
use Rattle.state_sums.proofs.NetworkLaws.{disjoint_networks}
use Rattle.root_quantum.specs.Parameters.{Parameters}
use Rattle.root_quantum.specs.QuantumNumbers.{loop_value}
use Rattle.pd_reader.specs.declared.item.NetItem.{NetItem}
use Rattle.pd_reader.specs.declared.item.NetItem.TheVariants.{X, Y, Loop}
use Rattle.pd_reader.specs.Items.{net_item_labels}
use Rattle.pd_reader.specs.Diagrams.{labels, IsNet}
use Rattle.std.proofs.lemmas.List.Elements.{All-weaker}
use Rattle.cables.specs.Strands.{Strands, strands_of, first_names}
use Rattle.cables.specs.Cables.{Standing, passed, loop_nodes, item_nodes, cable_nodes, loop_count, loops_at, count_placed, start, Fits}
use Rattle.cables.specs.Laws.{AddedLoopLaw}
use Rattle.cables.proofs.NameCounts.{times-reverse}
use Rattle.list_lemmas.proofs.Times.{times_in-append, times_of_member}
use Rattle.cables.proofs.CableNames.{cable-times}
use Rattle.cables.proofs.InnerNames.{inner_total_range}
use Rattle.cables.proofs.LabelNames.{member_none, zero_or_some, outer_times}
use Rattle.cables.proofs.NumberedStrands.{first_length, as_many_strands, only_label, plain_second, first_once, box_once, label_low}
use Rattle.cables.proofs.CableIsNodes.{IsGood, cable_good}
use Rattle.cables.proofs.CableLaws.{cable_network}
use Rattle.cables.proofs.LoopValues.{loop_law}

-- ---- a loop more
cable_append : (p : Parameters) (strands : Strands) (items : List NetItem) (standing : Standing) (label : ℕ) →
    (group : ℕ) × (cable_nodes p strands standing (items ++ Loop label ∷ []) ≡ cable_nodes p strands standing items ++ loop_nodes strands group (strands.first label))
cable_append p strands [] standing label = (standing.loop_group, append-nil (loop_nodes strands standing.loop_group (strands.first label)))
cable_append p strands (item ∷ items) standing label =
    let r = cable_append p strands items (passed standing item) label in
    (r.0, ap (λ ns. item_nodes p strands standing item ++ ns) r.1 ∙ sym (append_assoc (item_nodes p strands standing item) (cable_nodes p strands (passed standing item) items) (loop_nodes strands r.0 (strands.first label))))

loops_append : (strands : Strands) (items : List NetItem) (label : ℕ) → loop_count strands (items ++ Loop label ∷ []) ≡ loop_count strands items + loops_at (strands.first label)
loops_append strands [] label = omega arith
loops_append strands (X slots ∷ items) label = loops_append strands items label
loops_append strands (Y edges ∷ items) label = loops_append strands items label
loops_append strands (Loop l ∷ items) label = let ih = loops_append strands items label in omega (arith, ih)

placed_append : (items : List NetItem) (label : ℕ) → count_placed (items ++ Loop label ∷ []) ≡ count_placed items
placed_append [] label = refl
placed_append (X slots ∷ items) label = ap suc (placed_append items label)
placed_append (Y edges ∷ items) label = ap suc (placed_append items label)
placed_append (Loop l ∷ items) label = placed_append items label

start_append : (items : List NetItem) (label : ℕ) → start (items ++ Loop label ∷ []) ≡ start items
start_append items label = ap (λ n. record { seen = []; index = 0; group = 1; loop_group = n + 1 }) (placed_append items label)

-- ---- its names
loop_name : (strands : Strands) (group : ℕ) (names : List ℕ) (x : ℕ) → 1 ≤ times_in (names_of (loop_nodes strands group names)) x → 1 ≤ times_in names x
loop_name strands group [] x h = absurd (omega (arith, h))
loop_name strands group (a ∷ []) x h = absurd (omega (arith, h))
loop_name strands group (a ∷ b ∷ names) x h =
    let ns = a ∷ b ∷ names in
    let e = times_in-append (ns ++ reverse ns) [] x in let f = times_in-append ns (reverse ns) x in let g = times-reverse x ns in
    omega (arith, e, f, g, h)

same_nodes_of : (strands others : Strands) → strands.box ≡ others.box → (group : ℕ) (names : List ℕ) → loop_nodes strands group names ≡ loop_nodes others group names
same_nodes_of strands others e group [] = refl
same_nodes_of strands others e group (a ∷ []) = refl
same_nodes_of strands others e group (a ∷ b ∷ names) = ap (λ box. record { group = group; ends = (a ∷ b ∷ names) ++ reverse (a ∷ b ∷ names); terms = box (length (a ∷ b ∷ names)) } ∷ []) e

same_or : (a b : ℕ) → (a ≡ b) ⊎ (a ≡ b → ⊥)
same_or a b = ⊎_elim (λ t. inl (eqb-true a b t)) (λ f. inr (λ e. let g = eq-eqb a b e in grind (arith, f, g))) (cases_Bool (a == b))

-- A LOOP MORE
pub added_loop : AddedLoopLaw
added_loop p colour boxed box items label net few boxes fits low new projector =
    let m = p.modulus in
    let d = loop_value p in
    let strands : Strands = strands_of colour boxed box in
    let nodes = cable_nodes p strands (start items) items in
    let more = cable_append p strands items (start items) label in
    let group = more.0 in
    let others = loop_nodes strands group (strands.first label) in
    let is = cable_network p colour boxed box items net few boxes fits in
    let short : (l : ℕ) → length (strands.first l) ≤ 8 = λ l. (let e = first_length colour boxed box l in let f = few l in omega (arith, e, f)) in
    let others_good : All (IsGood m) (others ++ []) = cable_good p strands (as_many_strands colour boxed box) short boxes (Loop label ∷ []) record { seen = []; index = 0; group = 0; loop_group = group } (tt, tt) in
    let others_nodes : All IsNode others = All-weaker (IsGood m) IsNode (λ node g. g.is_node) others (rw append-nil at others_good) in
    let apart : (x : ℕ) → is_member ◌==◌ (names_of nodes) x ≡ true → is_member ◌==◌ (names_of others) x ≡ false =
    λ x mine. ⊎_elim (λ e. member_none x (names_of others) e)
    (λ s.
    let k = s.1 in
    let here : 1 ≤ times_in (strands.first label) x = loop_name strands group (strands.first label) x (omega (arith, k)) in
    absurd (no_both p colour boxed box items net few fits x label low new (times_of_member x (names_of nodes) mine) here))
    (zero_or_some (times_in (names_of others) x)) in
    ap₂ (λ ns k. value m d record { nodes = ns; free_loops = k })
    (ap (λ s. cable_nodes p strands s (items ++ Loop label ∷ [])) (start_append items label) ∙ more.1)
    (loops_append strands items label)
    ∙ disjoint_networks m d (loop_count strands items) (loops_at (strands.first label)) nodes others is.is_network.nodes others_nodes apart
    ∙ ap (λ k. value m d record { nodes = nodes; free_loops = loop_count strands items } * k % m)
    (ap (λ ns. value m d record { nodes = ns; free_loops = loops_at (strands.first label) }) (same_nodes_of strands (strands_of (λ l. colour label) (λ l. false) box) refl group (strands.first label))
    ∙ loop_law p box (colour label) group label (few label) projector)
  where
    no_both : (p : Parameters) (colour : ℕ → ℕ) (boxed : ℕ → Bool) (box : ℕ → List Term) (items : List NetItem) → IsNet items → ((l : ℕ) → colour l ≤ 8) → AllByRecursion (Fits (strands_of colour boxed box)) items →
        (x label : ℕ) → label ≤ 2000000 → times_in (labels net_item_labels items) label ≡ 0 →
        1 ≤ times_in (names_of (cable_nodes p (strands_of colour boxed box) (start items) items)) x → 1 ≤ times_in (first_names (colour label) label) x → ⊥
    no_both p colour boxed box items net few fits x label low new mine here =
        let strands : Strands = strands_of colour boxed box in
        let l = x / 16 in
        let only = only_label colour boxed box x few in
        let x_low = label_low colour boxed box x few label low (omega (arith, here)) in
        let own : l ≡ label = ⊎_elim (λ e. e) (λ other. absurd (let z = (only label (λ e. other (sym e))).0 in omega (arith, z, here))) (same_or l label) in
        let short : (l : ℕ) → length (strands.first l) ≤ 8 = λ l. (let e = first_length colour boxed box l in let f = few l in omega (arith, e, f)) in
        let count = cable-times p strands x l only (as_many_strands colour boxed box) items (start items) fits in
        let outer = outer_times strands x l only (plain_second colour boxed box x l) (first_once colour boxed box x l) (box_once colour boxed box x l) items net.twice in
        let outer_is = outer.1.0 in
        ⊎_elim
        (λ none.
        let range = inner_total_range strands x short items 0 (omega (arith, count, outer_is, none, mine)) in
        let high = range.0 in omega (arith, high, x_low))
        (λ some.
        let k = some.1 in
        let stands = (outer.1.1.1 (omega (arith, k))).0 in
        let z = ap (times_in (labels net_item_labels items)) own in
        omega (arith, stands, z, new))
        (zero_or_some outer.0)
