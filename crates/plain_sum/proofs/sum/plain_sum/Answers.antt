use Rattle.std.proofs.Common.{◌%◌, ℕ, List, [], ap, ◌∙◌}
use Rattle.state_sums.specs.Networks.{Node, names_of}
use Rattle.plain_sum.specs.Sums.{sum_behind}
use Rattle.plain_sum.proofs.Recursion.{whole}
use Rattle.plain_sum.proofs.sum.plain_sum.Goals as goal

pub returns-clause-value : goal.returns-clause-value
returns-clause-value c =
    let m = c.args.ring.now in
    let delta = c.args.delta in
    let names_are = c.deref.ensures.value ∙ c.in_ok-names.ensures.value in
    c.in_ok-sum.ensures.value
    ∙ ap (λ (names : List ℕ). sum_behind delta names c.free.result c.nodes.result.now [] % m) names_are
    ∙ ap (λ (free : ℕ). sum_behind delta (names_of c.args.network.now.nodes) free c.nodes.result.now [] % m) c.free.ensures.value
    ∙ ap (λ (nodes : List Node). sum_behind delta (names_of c.args.network.now.nodes) c.args.network.now.free_loops nodes [] % m) c.nodes.ensures.value
    ∙ whole m delta c.args.network.now.free_loops c.args.network.now.nodes
