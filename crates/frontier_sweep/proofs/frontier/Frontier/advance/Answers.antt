use Rattle.std.proofs.Common.{◌≡◌, ℕ, ◌<◌, ◌+◌, ◌*◌, List, [], ◌∷◌, ◌++◌, length, slice_index, sym, ap, subst, ◌∙◌}
use Rattle.std.specs.List.{remove}
use Rattle.std.proofs.lemmas.Result.{err_from_is_err_and}
use Rattle.state_sums.specs.Networks.{Node}
use Rattle.frontier_laws.specs.Tables.{contributions}
use Rattle.kept_tables.specs.KeptTables.{IsGathered}
use Rattle.arc_gluing.specs.Pairings.{AreOpen}
use Rattle.std.specs.Result.{IfErr}
use Rattle.frontier_sweep.specs.Frontiers.{Frontier, IsFrontier, IsLimitAfter}
use Rattle.frontier_sweep.specs.NotGluedNodes.{Explains}
use Rattle.frontier_sweep.specs.Rises.{IsRises, IsAfter}
use Rattle.frontier_sweep.specs.Steps.{IsReady, IsSeamOf}
use Rattle.frontier_sweep.proofs.FrontierLemmas.{place_in_network, taking, ready, limit, after_it, next_frontier}
use Rattle.frontier_sweep.proofs.frontier.Frontier.advance.Goals as goal

pub bounds-nodes-place : goal.bounds-nodes-place
bounds-nodes-place c =
    let f = c.requires.frontier in
    subst (λ (nodes : List Node). c.args.place < length nodes) (sym c.nodes.ensures.value) (place_in_network c.args.powers.now.modulus c.args.powers.now.delta c.args.network.now f.0 c.args.self.now c.args.turns.now f.1 c.args.place c.requires.left)

pub glue_node-requires : goal.glue_node-requires
glue_node-requires c =
    let m = c.args.powers.now.modulus in
    let delta = c.args.powers.now.delta in
    let network = c.args.network.now in
    let f = c.requires.frontier in
    let node = c.index-nodes-place.result in
    let taken = taking m delta network f.0 c.args.self.now c.args.turns.now f.1 c.nodes.ensures.network c.requires.weights c.requires.some c.args.place c.requires.left c.nodes.result.now node c.nodes.ensures.value c.index-nodes-place.is in
    let names = c.as_slice-names.ensures.value ∙ ap (λ (frontier : Frontier). frontier.places) c.self.view_is in
    let table = ap (λ (frontier : Frontier). frontier.table) c.self.view_is in
    subst (λ (names : List ℕ). IsReady m names node c.self.inside.tables c.args.turns.now) (sym names)
    (subst (λ (table : List (ℕ × ℕ)). IsReady m c.args.self.now.places node table c.args.turns.now) (sym table) (ready m delta network f.0 c.args.self.now c.args.turns.now f.1 c.args.place node taken))

pub returns-in_err-seam-clause-refused : goal.returns-in_err-seam-clause-refused
returns-in_err-seam-clause-refused c order h =
    let m = c.args.powers.now.modulus in
    let delta = c.args.powers.now.delta in
    let network = c.args.network.now in
    let node = c.index-nodes-place.result in
    let taken = taking m delta network order c.args.self.now c.args.turns.now h c.nodes.ensures.network c.requires.weights c.requires.some c.args.place c.requires.left c.nodes.result.now node c.nodes.ensures.value c.index-nodes-place.is in
    let names = c.as_slice-names.ensures.value ∙ ap (λ (frontier : Frontier). frontier.places) c.self.view_is in
    let table = ap (λ (frontier : Frontier). frontier.table) c.self.view_is in
    let p = err_from_is_err_and c.from_residual.result c.from_residual.ensures.1 in
    let explained = subst (λ (names : List ℕ). Explains m delta names node c.args.self.now.table c.in_err-seam.field-0.0) names
    (subst (λ (table : List (ℕ × ℕ)). Explains m delta c.as_slice-names.result.now node table c.in_err-seam.field-0.0) table (c.in_err-seam.ensures {u = tt}).refused) in
    subst (λ result. IfErr result (IsLimitAfter network (order ++ c.args.place ∷ []))) (sym p.1)
    (subst (IsLimitAfter network (order ++ c.args.place ∷ [])) (sym p.2)
    (limit m delta network order c.args.self.now c.args.turns.now h c.args.place node taken c.in_err-seam.field-0.0 explained))

pub returns-clause-after : goal.returns-clause-after
returns-clause-after c order h =
    let m = c.args.powers.now.modulus in
    let delta = c.args.powers.now.delta in
    let network = c.args.network.now in
    let node = c.index-nodes-place.result in
    let taken = taking m delta network order c.args.self.now c.args.turns.now h c.nodes.ensures.network c.requires.weights c.requires.some c.args.place c.requires.left c.nodes.result.now node c.nodes.ensures.value c.index-nodes-place.is in
    let names = c.as_slice-names.ensures.value ∙ ap (λ (frontier : Frontier). frontier.places) c.self.view_is in
    let table = ap (λ (frontier : Frontier). frontier.table) c.self.view_is in
    let left = ap (λ (frontier : Frontier). frontier.left) c.self.view_is in
    let glued = c.in_ok-seam.ensures {u = tt} in
    let seam = subst (λ (names : List ℕ). IsSeamOf names node.ends c.in_ok-seam.seam) names glued.seam in
    let at = c.index_of-index.result in
    let inside_left = c.deref.ensures.value in
    let in_range = subst (λ (left : List ℕ). at < length left) (inside_left ∙ left) c.index_of-index.ensures.within in
    let here = ap (λ (left : List ℕ). slice_index left at) (sym (inside_left ∙ left)) ∙ c.index_of-index.ensures.place in
    let next = c.glue_node.new.tables in
    let turns = glued.turns ∙ ap (λ (table : List (ℕ × ℕ)). c.args.turns.now + length table * length node.terms) table in
    let gathered = subst (λ (table : List (ℕ × ℕ)). IsGathered m (contributions delta c.in_ok-seam.seam node.terms table) next) table glued.gathered in
    let placed : c.as_slice.result.now ≡ c.in_ok-seam.seam.outer = c.as_slice.ensures.value ∙ c.into_names-self-inside.ensures in
    let was_open = subst (AreOpen (c.args.self.now.places ++ node.ends)) (sym placed) seam.outer in
    let names_open = c.increasing-self-inside.ensures.open (c.args.self.now.places ++ node.ends) was_open in
    let ascending = c.increasing-self-inside.ensures.ascending (c.args.self.now.places ++ node.ends) was_open in
    let open_now = c.as_slice-2.ensures.value in
    let ends = c.ends.ensures.value in
    let new_left = c.remove.ensures.items ∙ ap (λ (left : List ℕ). remove left at) left in
    let after_node = after_it m delta network order c.args.self.now c.args.turns.now h c.args.place node taken c.increasing-self-inside.result.items names_open at in_range here in
    let shown : IsAfter network.nodes c.args.place c.ends.result.now c.as_slice-2.result.now c.args.self.now.names c.args.self.now.left (remove c.args.self.now.left at) =
    subst (λ (ends : List ℕ). IsAfter network.nodes c.args.place ends c.as_slice-2.result.now c.args.self.now.names c.args.self.now.left (remove c.args.self.now.left at)) (sym ends)
    (subst (λ (names : List ℕ). IsAfter network.nodes c.args.place node.ends names c.args.self.now.names c.args.self.now.left (remove c.args.self.now.left at)) (sym open_now) after_node) in
    let was = subst (IsRises network c.args.self.now.left c.args.self.now.names) (ap (λ (frontier : Frontier). frontier.rises) (sym c.self.view_is)) h.rises_are in
    let rises : IsRises network (remove c.args.self.now.left at) c.as_slice-2.result.now c.refresh.new.self = c.refresh.ensures c.args.self.now.names c.args.self.now.left (remove c.args.self.now.left at) was shown in
    let rises_now = subst (λ (names : List ℕ). IsRises network (remove c.args.self.now.left at) names c.refresh.new.self) open_now rises in
    let groups = sym (ap (λ (frontier : Frontier). frontier.groups) c.self.view_is) in
    let after =
    next_frontier m delta network order c.args.self.now c.args.turns.now h c.args.place node taken c.in_ok-seam.seam seam glued.node at in_range here
    _ _ _ new_left names_open ascending c.into_names-self-inside.ensures _ (subst (λ (left : List ℕ). IsRises network left c.increasing-self-inside.result.items c.refresh.new.self) (sym new_left) rises_now) next gathered glued.below glued.few c.glue_node.new.turns turns in
    subst (λ (groups : List ℕ). IsFrontier m delta network (order ++ c.args.place ∷ []) record { left = c.remove.new.self.items; names = c.increasing-self-inside.result.items; places = c.into_names-self-inside.result.items; table = next; rises = c.refresh.new.self; groups = groups } c.glue_node.new.turns) groups after

kept_rises : (c : goal.After-ends) → IsRises c.args.network.now c.args.self.now.left c.args.self.now.names c.self.inside.rises
kept_rises c = subst (IsRises c.args.network.now c.args.self.now.left c.args.self.now.names) (ap (λ (frontier : Frontier). frontier.rises) (sym c.self.view_is)) (c.requires.frontier.1).rises_are

pub refresh-requires-clause-index : goal.refresh-requires-clause-index
refresh-requires-clause-index c = (kept_rises c).index

pub refresh-requires-clause-whole : goal.refresh-requires-clause-whole
refresh-requires-clause-whole c = (kept_rises c).are.whole
