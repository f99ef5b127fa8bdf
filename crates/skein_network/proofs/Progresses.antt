-- One item more of a cable: the nodes so far with the cable of the items that are left are the cable of all, before the first item,
-- from one item to the next, and behind the last, where they are the cable.
use Rattle.std.proofs.Common.{◌≡◌, ℕ, zero, suc, ◌+◌, ◌≤◌, ◌<◌, List, [], ◌∷◌, ◌++◌, length, get_or, drop, refl, sym, ap, ap₂, ◌∙◌, arith, All, append_assoc, append-nil, drop-cons, add-one, subst}
use Rattle.std.specs.List.{AllByRecursion}
use Rattle.std.proofs.lemmas.List.Elements.{All-nil, All-cons}
use Rattle.state_sums.specs.Networks.{Node}
use Rattle.root_quantum.specs.Parameters.{Parameters}
use Rattle.pd_reader.specs.declared.item.NetItem.{NetItem}
use Rattle.pd_reader.specs.declared.item.NetItem.TheVariants.{X, Y, Loop}
use Rattle.pd_reader.specs.Items.{net_item_labels}
use Rattle.pd_reader.specs.Diagrams.{labels, IsLabel}
use Rattle.cables.specs.Strands.{Strands}
use Rattle.cables.proofs.SameCables.{all_front, all_back}
use Rattle.skein_network.specs.Progress.{loops_of_item}
use Rattle.cables.specs.Cables.{Standing, passed, item_nodes, cable_nodes, loop_count, loops_at, count_placed, start, Fits}

-- after some items: what was pushed and what is left make the whole
pub record IsAlong (p : Parameters) (strands : Strands) (items : List NetItem) (i : ℕ) (nodes : List Node) (free : ℕ) (standing : Standing) : Type 0 where
  pub nodes_are : nodes ++ cable_nodes p strands standing (drop i items) ≡ cable_nodes p strands (start items) items
  pub free_is : free + loop_count strands (drop i items) ≡ loop_count strands items
  pub few_free : free ≤ i
  pub index_is : standing.index ≡ i
  pub low_group : standing.group ≤ i + 1
  pub low_loop : standing.loop_group ≤ i + 257

loops-cons : (strands : Strands) (item : NetItem) (rest : List NetItem) → loop_count strands (item ∷ rest) ≡ loops_of_item strands item + loop_count strands rest
loops-cons strands (X slots) rest = omega arith
loops-cons strands (Y edges) rest = omega arith
loops-cons strands (Loop label) rest = omega arith

few_loops : (names : List ℕ) → loops_at names ≤ 1
few_loops [] = omega arith
few_loops (x ∷ []) = omega arith
few_loops (x ∷ y ∷ names) = omega arith

few_of_item : (strands : Strands) (item : NetItem) → loops_of_item strands item ≤ 1
few_of_item strands (X slots) = omega arith
few_of_item strands (Y edges) = omega arith
few_of_item strands (Loop label) = let few = few_loops (strands.first label) in omega (arith, few)

next_index : (st : Standing) (item : NetItem) → (passed st item).index ≡ st.index + 1
next_index st (X slots) = refl
next_index st (Y edges) = refl
next_index st (Loop label) = refl

next_group : (st : Standing) (item : NetItem) → (passed st item).group ≤ st.group + 1
next_group st (X slots) = omega arith
next_group st (Y edges) = omega arith
next_group st (Loop label) = omega arith

next_loop : (st : Standing) (item : NetItem) → (passed st item).loop_group ≤ st.loop_group + 1
next_loop st (X slots) = omega arith
next_loop st (Y edges) = omega arith
next_loop st (Loop label) = omega arith

dropped : (items : List NetItem) (i : ℕ) (item : NetItem) → i < length items → get_or items i (X []) ≡ item → drop i items ≡ item ∷ drop (i + 1) items
dropped items i item h e = rw add-one (drop-cons items i (X []) h) ∙ ap (λ x. x ∷ drop (i + 1) items) e

pub along_next : (p : Parameters) (strands : Strands) (items : List NetItem) (i : ℕ) (item : NetItem) (old new : List Node) (free free' : ℕ) (st st' : Standing) →
    i < length items → get_or items i (X []) ≡ item → IsAlong p strands items i old free st →
    new ≡ old ++ item_nodes p strands st item → st' ≡ passed st item → free' ≡ free + loops_of_item strands item → IsAlong p strands items (i + 1) new free' st'
along_next p strands items i item old new free free' st st' h e along pushed standing loops =
    let cut = dropped items i item h e in
    let few = few_of_item strands item in
    let l = loops-cons strands item (drop (i + 1) items) in
    let total = ap (λ xs. free + loop_count strands xs) (sym cut) ∙ along.free_is in
    let old_free = along.few_free in
    let old_index = along.index_is in
    let old_group = along.low_group in
    let old_loop = along.low_loop in
    let ix = ap (λ s. s.index) standing ∙ next_index st item in
    let gr = ap (λ s. s.group) standing in let gl = next_group st item in
    let lr = ap (λ s. s.loop_group) standing in let ll = next_loop st item in
    record {
      nodes_are =
          ap₂ (λ ns s. ns ++ cable_nodes p strands s (drop (i + 1) items)) pushed standing
          ∙ append_assoc old (item_nodes p strands st item) (cable_nodes p strands (passed st item) (drop (i + 1) items))
          ∙ ap (λ xs. old ++ cable_nodes p strands st xs) (sym cut)
          ∙ along.nodes_are;
      free_is = omega (arith, loops, l, total);
      few_free = omega (arith, loops, few, old_free);
      index_is = omega (arith, ix, old_index);
      low_group = omega (arith, gr, gl, old_group);
      low_loop = omega (arith, lr, ll, old_loop);
    }

pub along_end : (p : Parameters) (strands : Strands) (items : List NetItem) (i : ℕ) (nodes : List Node) (free : ℕ) (st : Standing) → drop i items ≡ [] → IsAlong p strands items i nodes free st →
    (nodes ≡ cable_nodes p strands (start items) items) × (free ≡ loop_count strands items)
along_end p strands items i nodes free st none along = (
  sym (append-nil nodes) ∙ ap (λ xs. nodes ++ cable_nodes p strands st xs) (sym none) ∙ along.nodes_are,
  (let e = ap (λ xs. free + loop_count strands xs) (sym none) ∙ along.free_is in omega (arith, e)),
)

-- ---- what is known of an item
all_low : (ls : List ℕ) → AllByRecursion IsLabel ls → All (λ label. label ≤ 2000000) ls
all_low [] a = All-nil (λ label. label ≤ 2000000)
all_low (x ∷ ls) a = All-cons (λ label. label ≤ 2000000) x ls a.0.high (all_low ls a.1)

pub item_low : (items : List NetItem) (i : ℕ) (item : NetItem) → i < length items → get_or items i (X []) ≡ item → AllByRecursion IsLabel (labels net_item_labels items) → All (λ label. label ≤ 2000000) (net_item_labels item)
item_low [] i item l e a = absurd (omega (arith, l))
item_low (x ∷ items) zero item l e a = subst (λ y. All (λ label. label ≤ 2000000) (net_item_labels y)) e (all_low (net_item_labels x) (all_front IsLabel (net_item_labels x) (labels net_item_labels items) a))
item_low (x ∷ items) (suc i) item l e a = item_low items i item (omega arith) e (all_back IsLabel (net_item_labels x) (labels net_item_labels items) a)

pub item_fits : (strands : Strands) (items : List NetItem) (i : ℕ) (item : NetItem) → i < length items → get_or items i (X []) ≡ item → AllByRecursion (Fits strands) items → Fits strands item
item_fits strands [] i item l e a = absurd (omega (arith, l))
item_fits strands (x ∷ items) zero item l e a = subst (Fits strands) e a.0
item_fits strands (x ∷ items) (suc i) item l e a = item_fits strands items i item (omega arith) e a.1

-- ---- items with places
placed : NetItem → ℕ
placed (X slots) = 1
placed (Y edges) = 1
placed (Loop label) = 0

pub placed_next : (items : List NetItem) (i : ℕ) (item : NetItem) → i < length items → get_or items i (X []) ≡ item → count_placed (drop i items) ≡ count_placed (item ∷ drop (i + 1) items)
placed_next items i item h e = ap count_placed (dropped items i item h e)
