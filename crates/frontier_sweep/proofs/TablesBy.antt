-- A table of pairings of open names in their places: what its codes spell, and the table of one node more, which has as many entries
-- as there are pairings, so that an overfull one tells that these are too many.
use Rattle.std.proofs.Common.{◌≡◌, ℕ, ◌<◌, ◌≤◌, ◌==◌, true, List, [], ◌∷◌, ◌++◌, length, get_or, sym, ap, subst, ◌∙◌, arith}
use Rattle.std.specs.List.{All}
use Rattle.std.specs.Map.{keys_of}
use Rattle.std.specs.Set.{is_member}
use Rattle.std.proofs.lemmas.Bool.Decides.{nat_tests}
use Rattle.std.proofs.lemmas.List.Elements.{All-append, All-cons, All-nil}
use Rattle.std.proofs.lemmas.Map.Entries.{length-keys_of}
use Rattle.graph_parts.proofs.Ends.{is_member-get_or}
use Rattle.state_sums.specs.Networks.{Node, IsNode, names_of}
use Rattle.arc_gluing.specs.Laws.{AreFew}
use Rattle.arc_gluing.specs.Pairings.{AreOpen}
use Rattle.arc_pairing.specs.Codes.{code_of}
use Rattle.arc_pairing.specs.Gluing.{Seam}
use Rattle.arc_pairing.specs.Pairings.{IsShortPairing}
use Rattle.frontier_laws.specs.Tables.{decoded, contributions}
use Rattle.frontier_laws.specs.Turns.{pairing_count}
use Rattle.frontier_laws.proofs.Decoded.{decoded-code_of}
use Rattle.frontier_laws.proofs.ListTests.{found}
use Rattle.frontier_laws.proofs.Tables.{keys-at}
use Rattle.kept_seams.specs.AnyOrder.{pairings_by}
use Rattle.kept_tables.specs.KeptTables.{IsTableBy, IsGathered, seam_by}
use Rattle.kept_tables.proofs.Ends.{count}
use Rattle.kept_tables.proofs.OpenPairings.{IsOfPoints, of_points}
use Rattle.kept_tables.proofs.Steps.{step}
use Rattle.frontier_sweep.specs.Steps.{Spells, IsSeamOf, IsOverfull}

module _ (m delta : ℕ) (nodes : List Node) (names : List ℕ) (table : List (ℕ × ℕ)) (ok : All IsNode nodes) (few : AreFew nodes) (open_are : AreOpen (names_of nodes) names) (narrow : length names ≤ 24)
    (h : IsTableBy m delta nodes names table) where
  -- EACH CODE SPELLS A PAIRING OF THE OPEN NAMES
  pub spelled : (i : ℕ) → i < length table → Spells (length names) (get_or table i (0, 0)).0
  spelled i within =
      let code = (get_or table i (0, 0)).0 in
      let k = length-keys_of table in
      let member : is_member ◌==◌ (keys_of table) code ≡ true =
      sym (ap (is_member ◌==◌ (keys_of table)) (keys-at table i (0, 0) within)) ∙ is_member-get_or (keys_of table) i (omega (arith, within, k)) in
      let s = found (IsOfPoints (length names)) (λ partner. code == code_of partner) (pairings_by nodes names) (of_points nodes names ok few open_are narrow) (sym (h.codes code) ∙ member) in
      let test = s.2 in
      let is : code ≡ code_of s.0 = grind (arith, nat_tests, test) in
      let read : decoded code ≡ s.0 = ap decoded is ∙ decoded-code_of s.0 s.1.short in
      record { again = ap code_of read ∙ sym is; short = subst IsShortPairing (sym read) s.1.short; whole = ap (λ (partner : List ℕ). length partner) read ∙ s.1.whole }

  -- It has as many entries as there are pairings.
  pub counted : length table ≡ pairing_count nodes
  counted = count m delta nodes names table ok few open_are narrow h

module _ (m delta : ℕ) (nodes : List Node) (node : Node) (names : List ℕ) (table : List (ℕ × ℕ)) (ok : All IsNode nodes) (node_ok : IsNode node) (few : AreFew (nodes ++ node ∷ []))
    (open_in : AreOpen (names_of nodes) names) (narrow : length names ≤ 24) (h : IsTableBy m delta nodes names table)
    (seam : Seam) (is : IsSeamOf names node.ends seam) (open_out : AreOpen (names_of (nodes ++ node ∷ [])) seam.outer) where
  seam_is : seam ≡ seam_by names node seam.outer
  seam_is i = record { inner = is.inner i; ends = is.ends_are i; outer = seam.outer }

  -- WHAT IS GATHERED IS THE TABLE OF ONE NODE MORE
  pub gathered_by : (next : List (ℕ × ℕ)) → IsGathered m (contributions delta seam node.terms table) next → IsTableBy m delta (nodes ++ node ∷ []) seam.outer next
  gathered_by next gathered =
      step m delta nodes node names seam.outer table next ok node_ok few open_in open_out narrow h
      (subst (λ seam. IsGathered m (contributions delta seam node.terms table) next) seam_is gathered)

  -- It has as many entries as there are pairings.
  pub gathered_count : (next : List (ℕ × ℕ)) → IsGathered m (contributions delta seam node.terms table) next → length next ≡ pairing_count (nodes ++ node ∷ [])
  gathered_count next gathered =
      count m delta (nodes ++ node ∷ []) seam.outer next (All-append IsNode nodes (node ∷ []) ok (All-cons IsNode node [] node_ok (All-nil IsNode))) few open_out is.narrow (gathered_by next gathered)

  -- WHERE IT IS OVERFULL THERE ARE TOO MANY PAIRINGS
  pub overflowing : IsOverfull m (contributions delta seam node.terms table) → 262144 < pairing_count (nodes ++ node ∷ [])
  overflowing over = let c = gathered_count over.table over.gathered in let o = over.many in omega (arith, c, o)
