-- Items behind others, and their nodes.
use Rattle.std.proofs.Common.{◌≡◌, ℕ, ◌+◌, ◌==◌, ◌&&◌, ◌||◌, ◌⊎◌, inl, inr, not, Bool, true, false, cond, List, [], ◌∷◌, ◌++◌, map, length, filter, refl, sym, ap, ap₂, ◌∙◌, arith, ⊎_elim, append_assoc}
use Rattle.std.specs.List.{AllByRecursion, zip, range_with_len}
use Rattle.std.specs.Set.{is_member}
use Rattle.std.proofs.lemmas.Bool.{cases_Bool, eqb-true, or_cases}
use Rattle.state_sums.specs.LocalSums.{arc}
use Rattle.root_quantum.specs.Parameters.{Parameters}
use Rattle.pd_reader.specs.declared.item.Item.{Item}
use Rattle.pd_reader.specs.declared.item.NetItem.{NetItem}
use Rattle.pd_reader.specs.declared.item.NetItem.TheVariants.{X, Y, Loop}
use Rattle.pd_reader.specs.Items.{HasItsSlots}
use Rattle.piece_laws.specs.Arcs.{arcs_of}
use Rattle.graph_parts.specs.Ends.{ends_of}
use Rattle.cables.specs.Strands.{Strands, names_at}
use Rattle.cables.specs.CableNodes.{crossing_cable, box_node}
use Rattle.cables.proofs.Groups.{other_groups}
use Rattle.piece_laws.proofs.Ungrouped.{groups}
use Rattle.state_sums.specs.StateSums.{value}
use Rattle.cables.specs.Cables.{Standing, start, passed, past_all, box_nodes, item_nodes, cable_nodes, loop_count, as_net, net_item}
use Rattle.diagram_moves.specs.Rewriting.{crossing_labels}
use Rattle.pd_reader.specs.declared.item.Item.TheVariants as item
use Rattle.coloured_moves.proofs.Recut.{or_four}

pub as_net-append : (xs ys : List Item) → as_net (xs ++ ys) ≡ as_net xs ++ as_net ys
as_net-append [] ys = refl
as_net-append (x ∷ xs) ys = ap (λ ns. net_item x ∷ ns) (as_net-append xs ys)

-- behind all of the items
abbrev pub passed_all : Standing → List NetItem → Standing
passed_all standing [] = standing
passed_all standing (x ∷ xs) = passed_all (passed standing x) xs

pub cable_nodes-append : (p : Parameters) (strands : Strands) (xs ys : List NetItem) (standing : Standing) →
    cable_nodes p strands standing (xs ++ ys) ≡ cable_nodes p strands standing xs ++ cable_nodes p strands (passed_all standing xs) ys
cable_nodes-append p strands [] ys standing = refl
cable_nodes-append p strands (x ∷ xs) ys standing =
    ap (λ ns. item_nodes p strands standing x ++ ns) (cable_nodes-append p strands xs ys (passed standing x))
    ∙ sym (append_assoc (item_nodes p strands standing x) (cable_nodes p strands (passed standing x) xs) (cable_nodes p strands (passed_all (passed standing x) xs) ys))

pub loop_count-append : (strands : Strands) (xs ys : List NetItem) → loop_count strands (xs ++ ys) ≡ loop_count strands xs + loop_count strands ys
loop_count-append strands [] ys = omega arith
loop_count-append strands (X slots ∷ xs) ys = loop_count-append strands xs ys
loop_count-append strands (Y slots ∷ xs) ys = loop_count-append strands xs ys
loop_count-append strands (Loop l ∷ xs) ys = let ih = loop_count-append strands xs ys in omega (arith, ih)

-- ---- the labels before
pub seen_all : (items : List Item) (standing : Standing) (x : ℕ) → AllByRecursion HasItsSlots items →
    is_member ◌==◌ (passed_all standing (as_net items)).seen x ≡ (is_member ◌==◌ (crossing_labels items) x || is_member ◌==◌ standing.seen x)
seen_all [] standing x sizes = refl
seen_all (item.Loop l ∷ rest) standing x sizes = seen_all rest (passed standing (Loop l)) x sizes.1
seen_all (item.X (a ∷ b ∷ c ∷ d ∷ []) ∷ rest) standing x sizes =
    seen_all rest (passed standing (X (a ∷ b ∷ c ∷ d ∷ []))) x sizes.1
    ∙ moved (x == a) (x == b) (x == c) (x == d) (is_member ◌==◌ (crossing_labels rest) x) (is_member ◌==◌ standing.seen x)
  where
    moved : (a b c d r s : Bool) → (r || (d || (c || (b || (a || s))))) ≡ ((a || (b || (c || (d || r)))) || s)
    moved a b c d true s = yes a b c d s
      where
        yes : (a b c d s : Bool) → true ≡ ((a || (b || (c || (d || true)))) || s)
        yes a b c d s = grind arith
    moved a b c d false s = sym (or_four a b c d s)
seen_all (item.X [] ∷ rest) standing x sizes = absurd (omega (arith, sizes.0))
seen_all (item.X (a ∷ []) ∷ rest) standing x sizes = absurd (omega (arith, sizes.0))
seen_all (item.X (a ∷ b ∷ []) ∷ rest) standing x sizes = absurd (omega (arith, sizes.0))
seen_all (item.X (a ∷ b ∷ c ∷ []) ∷ rest) standing x sizes = absurd (omega (arith, sizes.0))
seen_all (item.X (a ∷ b ∷ c ∷ d ∷ y ∷ slots) ∷ rest) standing x sizes = absurd (omega (arith, sizes.0))

-- ---- crossings that have no box
none_pass : (p : ℕ → Bool) (xs : List ℕ) → ((x : ℕ) → p x ≡ false) → filter p xs ≡ []
none_pass p [] h = refl
none_pass p (x ∷ xs) h = ap (λ b. cond b (x ∷ filter p xs) (filter p xs)) (h x) ∙ none_pass p xs h

pub no_boxes : (strands : Strands) (standing : Standing) (slots : List ℕ) → AllByRecursion (λ l. (strands.boxed l ≡ false) ⊎ (is_member ◌==◌ standing.seen l ≡ true)) slots → box_nodes strands standing slots ≡ []
no_boxes strands standing slots all =
    ap (map (λ label. box_node standing.group (strands.box (length (strands.first label))) (strands.first label) (strands.second label)))
    (none_pass (λ label. is_member ◌==◌ slots label && (strands.boxed label && not (is_member ◌==◌ standing.seen label))) (range_with_len 0 (past_all slots)) (λ x. test x (cases_Bool (is_member ◌==◌ slots x))))
  where
    abbrev_free : (a b s : Bool) → (b ≡ false) ⊎ (s ≡ true) → (a && (b && not s)) ≡ false
    abbrev_free a b s h = ⊎_elim (λ t. grind (arith, t)) (λ t. grind (arith, t)) h

    at_slot : (ls : List ℕ) (x : ℕ) → AllByRecursion (λ l. (strands.boxed l ≡ false) ⊎ (is_member ◌==◌ standing.seen l ≡ true)) ls → is_member ◌==◌ ls x ≡ true → (strands.boxed x ≡ false) ⊎ (is_member ◌==◌ standing.seen x ≡ true)
    at_slot [] x h m = absurd (grind (arith, m))
    at_slot (l ∷ ls) x h m =
        ⊎_elim (λ t. (let e : x ≡ l = eqb-true x l t in ⊎_elim (λ u. inl (ap strands.boxed e ∙ u)) (λ u. inr (ap (is_member ◌==◌ standing.seen) e ∙ u)) h.0)) (λ t. at_slot ls x h.1 t) (or_cases (x == l) (is_member ◌==◌ ls x) m)

    off : (b s : Bool) → (false && (b && not s)) ≡ false
    off b s = refl

    test : (x : ℕ) → (is_member ◌==◌ slots x ≡ true) ⊎ (is_member ◌==◌ slots x ≡ false) → (is_member ◌==◌ slots x && (strands.boxed x && not (is_member ◌==◌ standing.seen x))) ≡ false
    test x (inl t) = abbrev_free (is_member ◌==◌ slots x) (strands.boxed x) (is_member ◌==◌ standing.seen x) (at_slot slots x all t)
    test x (inr t) = ap (λ a. a && (strands.boxed x && not (is_member ◌==◌ standing.seen x))) t

-- the nodes of such a crossing, from its names
pub nodes_at : (p : Parameters) (strands : Strands) (standing : Standing) (a b c d : ℕ) (na nb nc nd : List ℕ) →
    AllByRecursion (λ l. (strands.boxed l ≡ false) ⊎ (is_member ◌==◌ standing.seen l ≡ true)) (a ∷ b ∷ c ∷ d ∷ []) →
    names_at strands standing.seen a ≡ na → names_at strands (a ∷ standing.seen) b ≡ nb → names_at strands (b ∷ a ∷ standing.seen) c ≡ nc → names_at strands (c ∷ b ∷ a ∷ standing.seen) d ≡ nd →
    item_nodes p strands standing (X (a ∷ b ∷ c ∷ d ∷ [])) ≡ crossing_cable p standing.group standing.index na nb nc nd
nodes_at p strands standing a b c d na nb nc nd free ea eb ec ed =
    ap₂ (λ x y. x ++ y) (no_boxes strands standing (a ∷ b ∷ c ∷ d ∷ []) free)
    (ap₂ (λ x y. crossing_cable p standing.group standing.index x y (names_at strands (b ∷ a ∷ standing.seen) c) (names_at strands (c ∷ b ∷ a ∷ standing.seen) d)) ea eb
    ∙ ap₂ (λ x y. crossing_cable p standing.group standing.index na nb x y) ec ed)

pub named_new : (strands : Strands) (seen : List ℕ) (l : ℕ) → is_member ◌==◌ seen l ≡ false → names_at strands seen l ≡ strands.first l
named_new strands seen l h = ap (λ b. cond b (strands.second l) (strands.first l)) h

pub named_old : (strands : Strands) (seen : List ℕ) (l : ℕ) → is_member ◌==◌ seen l ≡ true → names_at strands seen l ≡ strands.second l
named_old strands seen l h = ap (λ b. cond b (strands.second l) (strands.first l)) h

-- ---- at other groups the nodes have the same value
pub anywhere : (m delta free : ℕ) (p : Parameters) (strands : Strands) (group loop_group : ℕ) (items : List NetItem) →
    value m delta record { nodes = cable_nodes p strands record { seen = []; index = 0; group = group; loop_group = loop_group } items; free_loops = free }
    ≡ value m delta record { nodes = cable_nodes p strands (start items) items; free_loops = free }
anywhere m delta free p strands group loop_group items =
    (groups delta free (cable_nodes p strands (record (start items) { group = group; loop_group = loop_group }) items) (cable_nodes p strands (start items) items) (other_groups p strands (start items) group loop_group items)).values m

-- ---- lists
pub arcs_of-append : (xs ys : List (ℕ × ℕ)) → arcs_of (xs ++ ys) ≡ arcs_of xs ++ arcs_of ys
arcs_of-append [] ys = refl
arcs_of-append (x ∷ xs) ys = ap (λ ns. arc x.0 x.1 ∷ ns) (arcs_of-append xs ys)

pub ends_of-append : (xs ys : List (ℕ × ℕ)) → ends_of (xs ++ ys) ≡ ends_of xs ++ ends_of ys
ends_of-append [] ys = refl
ends_of-append (x ∷ xs) ys = ap (λ ns. x.0 ∷ x.1 ∷ ns) (ends_of-append xs ys)

pub zip-append : (xs ys us vs : List ℕ) → length us ≡ length xs → zip (xs ++ ys) (us ++ vs) ≡ zip xs us ++ zip ys vs
zip-append [] ys [] vs e = refl
zip-append [] ys (u ∷ us) vs e = absurd (omega (arith, e))
zip-append (x ∷ xs) ys [] vs e = absurd (omega (arith, e))
zip-append (x ∷ xs) ys (u ∷ us) vs e = ap (λ es. (let z : ℕ × ℕ = (x, u) in z) ∷ es) (zip-append xs ys us vs (omega (arith, e)))
