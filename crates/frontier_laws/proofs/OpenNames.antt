-- The open names of some nodes: what tells them, and what they are with one node more.
use Rattle.std.proofs.Common.{◌≡◌, ℕ, ◌≤◌, ◌==◌, true, cond, List, [], ◌∷◌, ◌++◌, length, sym, ap, ◌∙◌, arith}
use Rattle.std.specs.List.Sorted.{IsStrictlyIncreasing}
use Rattle.std.specs.Set.{is_member}
use Rattle.std.proofs.lemmas.Bool.Decides.{nat_tests}
use Rattle.std.proofs.lemmas.List.Sums.{length-filter}
use Rattle.state_sums.specs.Networks.{Node, names_of}
use Rattle.arc_gluing.specs.Laws.{AreFew}
use Rattle.arc_gluing.specs.Pairings.{AreOpen}
use Rattle.list_lemmas.specs.Times.{times_in}
use Rattle.arc_gluing.proofs.EachState.{times_in-more, AreOpen-open_names_in}
use Rattle.list_lemmas.proofs.Times.{member_of_times, times_in-append}
use Rattle.arc_pairing.specs.Gluing.{open_name_count}
use Rattle.arc_pairing.proofs.SeamLists.{increasing_permuted}
use Rattle.frontier_laws.specs.Orders.{increasing, open_names}
use Rattle.frontier_laws.specs.Turns.{open_count}
use Rattle.frontier_laws.proofs.OpenNamesSorted.{times_increasing, length_increasing, non_decreasing_increasing}
use Rattle.list_lemmas.proofs.Increasing.{one_increasing}
use Rattle.state_sums.specs.LocalSums.{open_names_in}

-- The names that stand once in a list, increasing.
AreOpen-sorted : (names : List ℕ) → AreOpen names (increasing (open_names_in names))
AreOpen-sorted names = record { once = λ x. times_increasing (open_names_in names) x ∙ (AreOpen-open_names_in names).once x }

increasing-sorted : (names : List ℕ) → IsStrictlyIncreasing (increasing (open_names_in names))
increasing-sorted names = increasing_permuted names (increasing (open_names_in names)) (AreOpen-sorted names) (non_decreasing_increasing (open_names_in names))

-- The open names are those that stand once.
pub AreOpen-open_names : (nodes : List Node) → AreOpen (names_of nodes) (open_names nodes)
AreOpen-open_names nodes = AreOpen-sorted (names_of nodes)

-- They are increasing.
pub increasing-open_names : (nodes : List Node) → IsStrictlyIncreasing (open_names nodes)
increasing-open_names nodes = increasing-sorted (names_of nodes)

-- NO OTHER INCREASING LIST HAS JUST THE NAMES THAT STAND ONCE
pub open_names-only : (nodes : List Node) (names : List ℕ) → AreOpen (names_of nodes) names → IsStrictlyIncreasing names → names ≡ open_names nodes
open_names-only nodes names h up =
    one_increasing names (open_names nodes) up (increasing-open_names nodes) (λ x. h.once x ∙ sym ((AreOpen-open_names nodes).once x))

-- Nodes in which each name stands equally often have the same open names.
pub open_names-same : (nodes others : List Node) → ((x : ℕ) → times_in (names_of nodes) x ≡ times_in (names_of others) x) → open_names nodes ≡ open_names others
open_names-same nodes others same =
    open_names-only others (open_names nodes)
    (record { once = λ x. (AreOpen-open_names nodes).once x ∙ ap (λ count. cond (count == 1) 1 0) (same x) })
    (increasing-open_names nodes)

-- Where no name stands once, none is open.
pub open_names-closed : (nodes : List Node) → ((x : ℕ) → is_member ◌==◌ (names_of nodes) x ≡ true → times_in (names_of nodes) x ≡ 2) → open_names nodes ≡ []
open_names-closed nodes twice =
    sym (open_names-only nodes []
    (record {
      once = λ x.
          let h : 1 ≤ times_in (names_of nodes) x → times_in (names_of nodes) x ≡ 2 = λ some. twice x (member_of_times x (names_of nodes) some) in
          grind (arith, nat_tests, h);
    })
    (λ k l. absurd (omega (arith, l))))

-- ---- with one node more
module _ (nodes : List Node) (node : Node) (few : AreFew (nodes ++ node ∷ [])) where
  -- Whether a name stands once with the node can be told from the names that were open before.
  AreOpen-after : (outer : List ℕ) → AreOpen (open_names nodes ++ node.ends) outer → AreOpen (names_of (nodes ++ node ∷ [])) outer
  AreOpen-after outer h = record {
    once = λ x.
        let a = h.once x in
        let b = times_in-append (open_names nodes) node.ends x in
        let c = (AreOpen-open_names nodes).once x in
        let d = times_in-more nodes node x in
        let e = few x in
        grind (arith, nat_tests, a, b, c, d, e);
  }

  -- THE NAMES THAT ARE OPEN WITH ONE NODE MORE: those that stand once among the names that were open and the node's ends
  pub open_after : (outer : List ℕ) → AreOpen (open_names nodes ++ node.ends) outer → IsStrictlyIncreasing outer → outer ≡ open_names (nodes ++ node ∷ [])
  open_after outer h up = open_names-only (nodes ++ node ∷ []) outer (AreOpen-after outer h) up

  -- How many these are.
  pub open_count-after : open_name_count (open_names nodes ++ node.ends) ≡ open_count (nodes ++ node ∷ [])
  open_count-after =
      let names = open_names nodes ++ node.ends in
      sym (length-filter (λ x. times_in names x == 1) names)
      ∙ sym (length_increasing (open_names_in names))
      ∙ ap length (open_after (increasing (open_names_in names)) (AreOpen-sorted names) (increasing-sorted names))

  -- None of the names that were open before and of the node's ends stands more than twice.
  pub few_after : (x : ℕ) → times_in (open_names nodes ++ node.ends) x ≤ 2
  few_after x =
      let b = times_in-append (open_names nodes) node.ends x in
      let c = (AreOpen-open_names nodes).once x in
      let d = times_in-more nodes node x in
      let e = few x in
      grind (arith, nat_tests, b, c, d, e)
