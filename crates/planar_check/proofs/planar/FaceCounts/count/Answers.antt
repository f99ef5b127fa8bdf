use Rattle.std.proofs.Common.{◌≡◌, ℕ, ◌+◌, ◌-◌, ◌*◌, ◌<◌, List, length, refl, sym, subst, ap, ◌∙◌, All}
use Rattle.std.specs.List.{range_with_len}
use Rattle.graph_parts.specs.Parts.{part_count}
use Rattle.planar_check.specs.Places.{labels_by_place, owners, other_places}
use Rattle.planar_check.specs.Planar.{piece_edges, piece_count, count_edges, edge_count, wanted_faces}
use Rattle.planar_check.proofs.PlaceLists.{lists_are, owners_long, owners_in_range, others_in_range}
use Rattle.planar_check.proofs.planar.FaceCounts.count.Goals as goal
use Rattle.planar_check.proofs.FaceLists.{faces_counted}

pub count_pieces-requires-clause-same_length : goal.count_pieces-requires-clause-same_length
count_pieces-requires-clause-same_length c =
    let cs = c.requires.places.0 in
    let are = c.requires.places.1 in
    owners_long cs _ _ _ (lists_are cs c.args.places.now _ c.deref-2.result.now c.deref-3.result.now are refl c.deref-2.ensures.value c.deref-3.ensures.value)

pub count_pieces-requires-clause-owners_in_range : goal.count_pieces-requires-clause-owners_in_range
count_pieces-requires-clause-owners_in_range c =
    let cs = c.requires.places.0 in
    let are = c.requires.places.1 in
    let P : ℕ → Type 0 = λ n. All (λ o. o < n) c.deref-2.result.now in
    subst P (sym are.count_is) (owners_in_range cs _ _ _ (lists_are cs c.args.places.now _ c.deref-2.result.now c.deref-3.result.now are refl c.deref-2.ensures.value c.deref-3.ensures.value))

pub count_pieces-requires-clause-others_in_range : goal.count_pieces-requires-clause-others_in_range
count_pieces-requires-clause-others_in_range c =
    let cs = c.requires.places.0 in
    let are = c.requires.places.1 in
    others_in_range cs _ _ _ (lists_are cs c.args.places.now _ c.deref-2.result.now c.deref-3.result.now are refl c.deref-2.ensures.value c.deref-3.ensures.value)

pieces_counted : (cs : List (List ℕ)) (numbers others : List ℕ) (items count : ℕ) → numbers ≡ owners 0 cs → others ≡ other_places (labels_by_place cs)
    → items ≡ length cs → count ≡ part_count (range_with_len 0 items) (piece_edges numbers others) → count ≡ piece_count cs
unfolding piece_count
pieces_counted cs numbers others items count n o i e =
    e ∙ (ap (λ (ns : List ℕ). part_count (range_with_len 0 items) (piece_edges ns others)) n
    ∙ (ap (λ (os : List ℕ). part_count (range_with_len 0 items) (piece_edges (owners 0 cs) os)) o
    ∙ ap (λ (k : ℕ). part_count (range_with_len 0 k) (piece_edges (owners 0 cs) (other_places (labels_by_place cs)))) i))

wanted_counted : (cs : List (List ℕ)) (others : List ℕ) (edges pieces items wanted : ℕ) → others ≡ other_places (labels_by_place cs) → edges ≡ count_edges others
    → pieces ≡ piece_count cs → items ≡ length cs → wanted ≡ (edges + 2 * pieces) - items → wanted ≡ wanted_faces cs
unfolding wanted_faces edge_count
wanted_counted cs others edges pieces items wanted o e p i w =
    w ∙ (ap (λ k. (k + 2 * pieces) - items) (e ∙ ap count_edges o)
    ∙ (ap (λ k. (edge_count cs + 2 * k) - items) p ∙ ap (λ k. (edge_count cs + 2 * piece_count cs) - k) i))

pub returns-clause-found : goal.returns-clause-found
returns-clause-found c = λ cs are. faces_counted cs c.deref.result.now c.count_least-found.result (c.deref.ensures.value ∙ are.faces_are) c.count_least-found.ensures.count

pub returns-clause-wanted : goal.returns-clause-wanted
returns-clause-wanted c = λ cs are.
    let pieces = pieces_counted cs _ _ _ _ (c.deref-2.ensures.value ∙ are.owners_are) (c.deref-3.ensures.value ∙ are.others_are) are.count_is c.in_ok-pieces.ensures.count in
    wanted_counted cs _ _ _ _ _ (c.deref-4.ensures.value ∙ are.others_are) c.count_edges-edges.ensures.count pieces are.count_is c.saturating_sub-wanted.ensures
