-- The laws of orders and turns, over the definitions alone.
--
--     IsOneOrder next network order     an order in which each place is what `next` names is the one that `next` gives, and
--                                       `next` gives one for any number of steps
--     IsFixed answers                   on each view with a node left there is one answer at the most
--     IsAnswered answers network order  the places are taken once each, by answers
--     OneOrderEach, OneLimitEach        then the network has one order of answers, and one limit at the most
--     OpenNamesWithLaw                       what the greedy order looks at is how many names are open with one more node
--     OneOrderLaw, WholeOrderLaw        for every function of a view, and for every order of all nodes
--     IsOfAll network order             the nodes in this order have the network's value, and no name is open at the end
use Rattle.std.specs.Prelude.{◌≡◌, ◌≢◌, ℕ, ◌<◌, List, [], ◌∷◌, ◌++◌, length}
use Rattle.state_sums.specs.Networks.{Network, IsNetwork}
use Rattle.state_sums.specs.StateSums.{value}
use Rattle.frontier_laws.specs.Orders.{View, IsPartOrder, IsChosen, taken, left_after, open_names, open_with, order_by, view_after}
use Rattle.frontier_laws.specs.Turns.{IsWithin, IsLimited, open_count}
use Rattle.frontier_laws.specs.Views.{IsView}

-- Where the next place is a function of the view, so is the order of the network.
pub record IsOneOrder (next : View → ℕ) (network : Network) : Type 0 where
  pub only : (order : List ℕ) → IsChosen (λ view place. place ≡ next view) network order → order ≡ order_by next network (length order)
  pub some : (steps : ℕ) → IsChosen (λ view place. place ≡ next view) network (order_by next network steps)

abbrev pub OneOrderLaw : Type 0
OneOrderLaw = (next : View → ℕ) (network : Network) → IsOneOrder next network

-- On each view with a node left there is one answer at the most.
abbrev pub IsFixed : (View → ℕ → Type 0) → Type 0
IsFixed answers = (view : View) (place other : ℕ) → IsView view → view.left ≢ [] → answers view place → answers view other → place ≡ other

-- Some of the places of the network, each once, and each an answer on the view of those before it.
pub record IsAnswered (answers : View → ℕ → Type 0) (network : Network) (order : List ℕ) : Type 0 where
  pub part : IsPartOrder (length network.nodes) order
  pub chosen : IsChosen answers network order

-- Then two orders of answers, of so many steps, are one.
abbrev pub OneOrderEach : (View → ℕ → Type 0) → Type 0
OneOrderEach answers =
    IsFixed answers → (network : Network) (order other : List ℕ) → IsAnswered answers network order → IsAnswered answers network other → length order ≡ length other → order ≡ other

-- And a limit is met at one step at the most: two orders of answers that end with the step that meets one are one, and an order
-- that meets none is shorter.
pub record IsOneLimit (network : Network) (order other : List ℕ) : Type 0 where
  pub same : IsLimited (taken network.nodes order) → IsLimited (taken network.nodes other) → order ≡ other
  pub none : IsLimited (taken network.nodes order) → IsWithin (taken network.nodes other) → length other < length order

abbrev pub OneLimitEach : (View → ℕ → Type 0) → Type 0
OneLimitEach answers = IsFixed answers → (network : Network) (order other : List ℕ) → IsAnswered answers network order → IsAnswered answers network other → IsOneLimit network order other

-- What the greedy order looks at: with one more node so many names are open.
abbrev pub OpenNamesWithLaw : Type 0
OpenNamesWithLaw =
    (network : Network) (order : List ℕ) (place : ℕ) → IsNetwork network → IsPartOrder (length network.nodes) (order ++ place ∷ []) →
    open_with (view_after network order) place ≡ open_count (taken network.nodes (order ++ place ∷ []))

-- The nodes in that order have the network's value, and no name is open.
pub record IsOfAll (network : Network) (order : List ℕ) : Type 0 where
  pub same : (m delta : ℕ) → value m delta record { nodes = taken network.nodes order; free_loops = network.free_loops } ≡ value m delta network
  pub closed : open_names (taken network.nodes order) ≡ []

-- So have all nodes in any order of each once.
abbrev pub WholeOrderLaw : Type 0
WholeOrderLaw =
    (network : Network) (order : List ℕ) → IsNetwork network → IsPartOrder (length network.nodes) order → left_after (length network.nodes) order ≡ [] → IsOfAll network order
