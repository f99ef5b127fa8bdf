use Rattle.std.proofs.Common.{◌≡◌, ◌==◌, ◌<◌, ◌≤◌, ◌%◌, ℕ, false, Option, Some, None, slice_index, subst, arith}
use Rattle.std.specs.Option.{IfSome}
use Rattle.std.specs.Set.{is_member}
use Rattle.frontier_sweep.specs.Groups.{IsFirstLeft, IsFirstOf}
use Rattle.frontier_sweep.proofs.GroupLemmas.{first_of, none_of}
use Rattle.frontier_sweep.proofs.groups.first_of_group.Goals as goal

if_some : (found : Option ℕ) (P Q : ℕ → Type 0) → ((place : ℕ) → P place → Q place) → IfSome found P → IfSome found Q
if_some (Some place) P Q gives p = gives place p
if_some None P Q gives p = p

pub returns-clause-first : goal.returns-clause-first
returns-clause-first c =
    let view = c.args.view.now in
    let index = c.groups-index.result.now in
    let low = c.first_from-low in
    let high = c.first_from-high in
    let key = c.place_key-first.ensures in
    if_some c.first_left.result (IsFirstLeft c.left.result.now index low.result high.result) (IsFirstOf view c.args.group)
    (λ place first. first_of view c.left.ensures.view index c.groups-index.ensures.value c.args.group low.result high.result high.ensures.bound
    (λ k less. let b = low.ensures.before k less in omega (arith, b, key))
    (λ k more within. let b = low.ensures.behind k more within in omega (arith, b, key))
    (λ k less. let b = high.ensures.before k less in omega (arith, b, key))
    (λ k more within. let b = high.ensures.behind k more within in omega (arith, b, key))
    place (subst (λ left. IsFirstLeft left index low.result high.result place) c.left.ensures.value first))
    c.first_left.ensures.first

pub returns-clause-none : goal.returns-clause-none
returns-clause-none c none =
    let view = c.args.view.now in
    let index = c.groups-index.result.now in
    let low = c.first_from-low in
    let high = c.first_from-high in
    let key = c.place_key-first.ensures in
    none_of view c.left.ensures.view index c.groups-index.ensures.value c.args.group low.result high.result high.ensures.bound
    (λ k less. let b = low.ensures.before k less in omega (arith, b, key))
    (λ k more within. let b = low.ensures.behind k more within in omega (arith, b, key))
    (λ k less. let b = high.ensures.before k less in omega (arith, b, key))
    (λ k more within. let b = high.ensures.behind k more within in omega (arith, b, key))
    (subst (λ left. (k : ℕ) → low.result ≤ k → k < high.result → is_member ◌==◌ left (slice_index index k % 65536) ≡ false) c.left.ensures.value (c.first_left.ensures.none none))
