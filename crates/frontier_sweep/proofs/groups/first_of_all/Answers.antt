use Rattle.std.proofs.Common.{◌≡◌, ◌==◌, ◌<◌, ◌≤◌, ◌%◌, ℕ, false, length, slice_index, subst}
use Rattle.std.specs.Set.{is_member}
use Rattle.frontier_sweep.specs.Groups.{IsFirstLeft}
use Rattle.frontier_sweep.proofs.GroupLemmas.{first_of_whole, none_left}
use Rattle.frontier_sweep.proofs.groups.first_of_all.Goals as goal

pub unreachable-requires : goal.unreachable-requires
unreachable-requires c =
    let view = c.args.view.now in
    let index = c.groups-index.result.now in
    none_left view c.left.ensures.view index c.groups-index.ensures.value
    (subst (λ left. (k : ℕ) → 0 ≤ k → k < length index → is_member ◌==◌ left (slice_index index k % 65536) ≡ false) c.left.ensures.value (c.first_left.ensures.none c.in-None.is)) c.requires

pub returns-clause-first : goal.returns-clause-first
returns-clause-first c =
    let view = c.args.view.now in
    let index = c.groups-index.result.now in
    first_of_whole view c.left.ensures.view index c.groups-index.ensures.value c.in-Some.place
    (subst (λ left. IsFirstLeft left index 0 (length index) c.in-Some.place) c.left.ensures.value c.in-Some.ensures.first)
