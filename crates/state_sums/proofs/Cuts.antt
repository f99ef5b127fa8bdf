-- Where no name stands three times, the names that stand once in the nodes cut them off from the rest.
use Rattle.std.proofs.Common.{◌≡◌, ℕ, ◌≤◌, Bool, true, cond, ◌==◌, List, ◌++◌, ap, arith}
use Rattle.std.specs.Set.{is_member}
use Rattle.std.proofs.lemmas.Bool.{eq-eqb, eqb-true}
use Rattle.std.proofs.lemmas.Cmp.{nat_eq_equiv}
use Rattle.std.proofs.lemmas.List.Elements.{All-filter}
use Rattle.std.proofs.lemmas.List.Sums.{sum_by-append}
use Rattle.std.proofs.lemmas.Map.Made.{is_member-filter}
use Rattle.graph_parts.proofs.Ends.{is_member-itself}
use Rattle.state_sums.specs.LocalSums.{IsCut, open_of}
use Rattle.state_sums.specs.Networks.{Node, names_of}
use Rattle.list_lemmas.specs.Times.{times_in}
use Rattle.list_lemmas.proofs.Times.{times_of_member}

-- NO NAME THREE TIMES
pub IsCut-from_times : (nodes rest : List Node) → ((x : ℕ) → times_in (names_of nodes ++ names_of rest) x ≤ 2) → IsCut nodes rest (open_of nodes)
IsCut-from_times nodes rest twice =
    let names = names_of nodes in
    let others = names_of rest in
    let once : ℕ → Bool = λ x. times_in names x == 1 in
    record {
      has_open = All-filter once (λ x. is_member ◌==◌ names x ≡ true) names (is_member-itself names);
      meets = λ x m n.
          let a = times_of_member x names n in
          let b = times_of_member x others m in
          let c = sum_by-append (λ z. cond (x == z) 1 0) names others in
          let t = twice x in
          let one : times_in names x ≡ 1 = omega (arith, a, b, c, t) in
          let f = is_member-filter nat_eq_equiv once x (λ z e. ap once (eqb-true x z e)) names in
          let o = eq-eqb (times_in names x) 1 one in
          grind (arith, f, o, n);
    }
