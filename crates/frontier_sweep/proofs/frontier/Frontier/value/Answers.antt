use Rattle.std.proofs.Common.{ℕ, ◌<◌, List, sym, ap, subst}
use Rattle.std.specs.List.{All}
use Rattle.frontier_sweep.specs.Frontiers.{Frontier}
use Rattle.frontier_sweep.proofs.Entries.{coefficient_below}
use Rattle.frontier_sweep.proofs.frontier.Frontier.value.Goals as goal

pub with_free_loops-requires : goal.with_free_loops-requires
with_free_loops-requires c =
    let m = c.args.powers.now.modulus in
    let table = ap (λ (frontier : Frontier). frontier.table) c.self.view_is in
    subst (λ n. n < m) (sym c.coefficient.ensures) (coefficient_below m 0 c.self.inside.tables c.requires.some (subst (λ (table : List (ℕ × ℕ)). All (λ entry. entry.1 < m) table) (sym table) c.requires.below))
