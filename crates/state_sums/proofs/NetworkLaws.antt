-- The laws of state sums, of nodes that are such.
use Rattle.std.proofs.Common.{map, ◌%◌, refl, sym, ap, ◌∙◌, zero-add, arith}
use Rattle.std.proofs.lemmas.Nat.{mul-mod}
use Rattle.graph_parts.specs.Parts.{part_count}
use Rattle.state_sums.specs.Laws.{NoNodesLaw, AnyOrderLaw, AnyNamesLaw, DisjointNetworksLaw, CutAtOpenNamesLaw, GluedPieceLaw, ReplacementLaw, SameEverywhereLaw, AddedNodesLaw, LocalRenamingLaw, AnywhereLaw}
use Rattle.state_sums.specs.StateSums.{state_sum, value}
use Rattle.state_sums.proofs.Cuts.{IsCut-from_times}
use Rattle.state_sums.proofs.DisjointSums.{state_sum-disjoint}
use Rattle.state_sums.proofs.GluedSums.{pattern_sum-rest, kept_under_nodes}
use Rattle.state_sums.proofs.NodeNames.{state_sum-rename, SameEverywhere-rename}
use Rattle.state_sums.proofs.NodeOrder.{state_sum-permuted}
use Rattle.state_sums.proofs.Replacing.{replaced}
use Rattle.state_sums.proofs.StateEdges.{HavePlaces-from_nodes}
use Rattle.state_sums.proofs.WrittenNodes.{IsNode-rename}
use Rattle.state_sums.specs.LocalSums.{rename}

pub no_nodes : NoNodesLaw
unfolding value part_count
no_nodes m delta free = ap (λ n. n % m) (simp zero-add (omega arith))

pub any_order : AnyOrderLaw
unfolding value
any_order m delta free nodes permuted p h = ap (λ n. n % m) (state_sum-permuted delta free nodes permuted (HavePlaces-from_nodes nodes p) h)

pub any_names : AnyNamesLaw
unfolding value
any_names m delta free new_name nodes p h = ap (λ n. n % m) (state_sum-rename delta new_name nodes free (HavePlaces-from_nodes nodes p) h)

pub disjoint_networks : DisjointNetworksLaw
unfolding value
disjoint_networks m delta free more nodes others p q apart =
    ap (λ n. n % m) (state_sum-disjoint delta nodes others free more (HavePlaces-from_nodes nodes p) (HavePlaces-from_nodes others q) apart)
    ∙ mul-mod (state_sum delta record { nodes = nodes; free_loops = free }) (state_sum delta record { nodes = others; free_loops = more }) m

pub cut_at_open_names : CutAtOpenNamesLaw
cut_at_open_names nodes rest h = IsCut-from_times nodes rest h

pub glued_piece : GluedPieceLaw
glued_piece delta free more nodes rest inner outer worth p q cut left =
    pattern_sum-rest delta nodes rest inner outer free more worth (HavePlaces-from_nodes nodes p) (HavePlaces-from_nodes rest q) cut left

pub replacement : ReplacementLaw
replacement m delta more open_names old new rest p q r old_cut new_cut same =
    replaced m delta open_names old new rest more (HavePlaces-from_nodes old.nodes p) (HavePlaces-from_nodes new.nodes q) (HavePlaces-from_nodes rest r) old_cut new_cut same

pub same_everywhere : SameEverywhereLaw
same_everywhere m delta open_names = record {
  itself = λ piece. record { at = λ wanted. refl };
  back = λ old new h. record { at = λ wanted. sym (h.at wanted) };
  on = λ old between new h k. record { at = λ wanted. h.at wanted ∙ k.at wanted };
}

pub added_nodes : AddedNodesLaw
added_nodes m delta more inner outer old new rest p q r old_cut new_cut left same =
    kept_under_nodes m delta inner outer old new rest more (HavePlaces-from_nodes old.nodes p) (HavePlaces-from_nodes new.nodes q) (HavePlaces-from_nodes rest r) old_cut new_cut left same

pub local_renaming : LocalRenamingLaw
local_renaming m delta new_name open_names old new p q h k a b same =
    SameEverywhere-rename m delta new_name open_names old new (HavePlaces-from_nodes old.nodes p) (HavePlaces-from_nodes new.nodes q) h k a b same

pub anywhere : AnywhereLaw
anywhere m delta more new_name open_names old new rest p q r h k a b old_cut new_cut same =
    replacement m delta more (map new_name open_names)
    record { nodes = rename new_name old.nodes; free_loops = old.free_loops } record { nodes = rename new_name new.nodes; free_loops = new.free_loops } rest
    (IsNode-rename new_name old.nodes p) (IsNode-rename new_name new.nodes q) r old_cut new_cut
    (local_renaming m delta new_name open_names old new p q h k a b same)
