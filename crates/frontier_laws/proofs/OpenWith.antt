-- How many names are open with one more node, counted with no search for each two names.
use Rattle.std.proofs.Common.{◌≡◌, ℕ, ◌+◌, ◌≤◌, ◌==◌, Bool, true, not, ◌&&◌, List, ◌++◌, ap, arith}
use Rattle.std.specs.List.{count_by}
use Rattle.std.specs.Set.{is_member}
use Rattle.std.proofs.lemmas.Bool.Decides.{nat_tests}
use Rattle.std.proofs.lemmas.List.Sums.{sum_by-append}
use Rattle.state_sums.specs.Networks.{Node}
use Rattle.graph_parts.proofs.PartLaws.{count_by_all}
use Rattle.list_lemmas.specs.Times.{times_in}
use Rattle.list_lemmas.proofs.Times.{times_of_member, times_in-append, times_none}
use Rattle.arc_pairing.specs.Gluing.{open_name_count}
use Rattle.frontier_laws.specs.Orders.{open_names}
use Rattle.frontier_laws.proofs.OpenNames.{AreOpen-open_names}

-- A name that is no member stands nowhere.

module _ (names ends : List ℕ) (once : (x : ℕ) → times_in names x ≤ 1) where
  kept : (x : ℕ) → is_member ◌==◌ names x ≡ true → (times_in (names ++ ends) x == 1) ≡ not (is_member ◌==◌ ends x)
  kept x member =
      let a = times_in-append names ends x in
      let o = once x in
      let s = times_of_member x names member in
      let yes = times_of_member x ends in
      let none = times_none ends x in
      grind (arith, nat_tests, a, o, s, yes, none)

  new : (x : ℕ) → is_member ◌==◌ ends x ≡ true → (times_in (names ++ ends) x == 1) ≡ (not (is_member ◌==◌ names x) && (times_in ends x == 1))
  new x member =
      let a = times_in-append names ends x in
      let s = times_of_member x ends member in
      let yes = times_of_member x names in
      let none = times_none names x in
      grind (arith, nat_tests, a, s, yes, none)

  -- THE COUNT: of names that stand once each, those that are no ends stay open, and the ends that are none of them and stand once are new
  pub open_name_count-once : open_name_count (names ++ ends) ≡ count_by (λ name. not (is_member ◌==◌ ends name)) names + count_by (λ end. not (is_member ◌==◌ names end) && (times_in ends end == 1)) ends
  open_name_count-once =
      let p : ℕ → Bool = λ x. times_in (names ++ ends) x == 1 in
      let both : count_by p (names ++ ends) ≡ count_by p names + count_by p ends = sum_by-append _ names ends in
      let one = count_by_all p (λ name. not (is_member ◌==◌ ends name)) names kept in
      let two = count_by_all p (λ end. not (is_member ◌==◌ names end) && (times_in ends end == 1)) ends new in
      omega (arith, both, one, two)

-- Open names stand once each.
pub once_open : (nodes : List Node) (names : List ℕ) → names ≡ open_names nodes → (x : ℕ) → times_in names x ≤ 1
once_open nodes names is x = let o = (AreOpen-open_names nodes).once x in let e = ap (λ (names : List ℕ). times_in names x) is in grind (arith, nat_tests, o, e)
