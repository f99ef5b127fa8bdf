-- The table of one node more, in any order of the open names and of the entries.
use Rattle.std.proofs.Common.{◌≡◌, ℕ, ◌*◌, ◌^◌, ◌%◌, ◌≤◌, ◌==◌, Bool, List, [], ◌∷◌, ◌++◌, map, length, refl, sym, ap, ◌∙◌, arith}
use Rattle.std.specs.List.{All, flat_map, list_any}
use Rattle.std.specs.Map.{keys_of}
use Rattle.std.specs.Set.{is_member}
use Rattle.std.proofs.lemmas.List.Folds.{flat_map-map}
use Rattle.graph_parts.specs.Patterns.{closed_parts}
use Rattle.graph_parts.proofs.Renaming.{map_map}
use Rattle.state_sums.specs.Networks.{Node, Term, IsNode, names_of}
use Rattle.state_sums.specs.StateSums.{states, state_edges, state_weight}
use Rattle.state_sums.proofs.StateEdges.{sum_by_all}
use Rattle.arc_gluing.specs.Laws.{AreFew, IsGluedTo}
use Rattle.arc_gluing.specs.Pairings.{AreOpen, IsPairedBy, partners_of}
use Rattle.arc_gluing.specs.Sums.{pairing_sum, worth_before}
use Rattle.arc_gluing.proofs.EachState.{AreFew-front}
use Rattle.arc_gluing.proofs.GluingLaws.{paired_states, one_more_node, glued_node}
use Rattle.arc_pairing.specs.Codes.{code_of}
use Rattle.arc_pairing.specs.Gluing.{Seam}
use Rattle.arc_pairing.specs.Pairings.{IsShortPairing}
use Rattle.frontier_laws.specs.Tables.{decoded, contribution, contributions}
use Rattle.frontier_laws.proofs.Decoded.{decoded-code_of}
use Rattle.frontier_laws.proofs.ListTests.{any_all, any_each, any-map, any-flat_map, same_tests, map_all, flat_map_all, map-flat_map}
use Rattle.frontier_laws.proofs.NextPairings.{glued_partner, states_after}
use Rattle.frontier_laws.proofs.TableSums.{contributions-sum}
use Rattle.kept_seams.specs.AnyOrder.{pairings_by}
use Rattle.kept_tables.specs.KeptTables.{IsTableBy, IsGathered, StepLaw, seam_by}
use Rattle.kept_tables.proofs.OpenPairings.{all_short}

-- The codes of the contributions: each code of the table, glued with each term.
contributions-codes : (delta : ℕ) (seam : Seam) (terms : List Term) (table : List (ℕ × ℕ)) →
    keys_of (contributions delta seam terms table) ≡ flat_map (λ code. map (λ term. code_of (glued_partner seam (decoded code) term)) terms) (keys_of table)
contributions-codes delta seam terms [] = refl
contributions-codes delta seam terms (entry ∷ table) =
    map-flat_map (λ (item : ℕ × ℕ). item.0) (λ entry. map (contribution delta seam entry) terms) (entry ∷ table)
    ∙ (let ih = sym (map-flat_map (λ (item : ℕ × ℕ). item.0) (λ entry. map (contribution delta seam entry) terms) table) ∙ contributions-codes delta seam terms table in
    let here = map_map (λ (item : ℕ × ℕ). item.0) (contribution delta seam entry) terms in
    cc)

module _ (nodes : List Node) (node : Node) (inner outer : List ℕ) (ok : All IsNode nodes) (node_ok : IsNode node) (few : AreFew (nodes ++ node ∷ [])) (narrow : length inner ≤ 24)
    (open_in : AreOpen (names_of nodes) inner) (open_out : AreOpen (names_of (nodes ++ node ∷ [])) outer) where
  short_before : All IsShortPairing (pairings_by nodes inner)
  short_before = all_short nodes inner ok (AreFew-front nodes (node ∷ []) few) open_in narrow

  pairings_after : pairings_by (nodes ++ node ∷ []) outer ≡ flat_map (λ partner. map (glued_partner (seam_by inner node outer) partner) node.terms) (pairings_by nodes inner)
  pairings_after =
      let before : List Term → List ℕ = λ state. partners_of (names_of nodes) (state_edges nodes state) inner in
      let after : List Term → List ℕ = λ state. partners_of (names_of (nodes ++ node ∷ [])) (state_edges (nodes ++ node ∷ []) state) outer in
      let glue : List ℕ → Term → List ℕ = glued_partner (seam_by inner node outer) in
      ap (map after) (states_after nodes node)
      ∙ map-flat_map after (λ state. map (λ term. state ++ term ∷ []) node.terms) (states nodes)
      ∙ flat_map_all (λ state. All (λ term. IsGluedTo nodes node inner outer state term) node.terms) (λ state. map after (map (λ term. state ++ term ∷ []) node.terms)) (λ state. map (glue (before state)) node.terms) (states nodes)
      (glued_node nodes node inner outer ok node_ok few open_in open_out)
      (λ state each.
      map_map after (λ term. state ++ term ∷ []) node.terms
      ∙ map_all (λ term. IsGluedTo nodes node inner outer state term) (λ term. after (state ++ term ∷ [])) (glue (before state)) node.terms each (λ term glued. glued.pairing))
      ∙ sym (flat_map-map (λ partner. map (glue partner) node.terms) before (states nodes))

  -- Whether a code is that of some pairing after the node, by the pairings before it.
  code_after : (code : ℕ) →
      list_any (λ partner. list_any (λ term. code == code_of (glued_partner (seam_by inner node outer) (decoded (code_of partner)) term)) node.terms) (pairings_by nodes inner)
      ≡ list_any (λ partner. code == code_of partner) (pairings_by (nodes ++ node ∷ []) outer)
  code_after code =
      let seam = seam_by inner node outer in
      any_all IsShortPairing
      (λ partner. list_any (λ term. code == code_of (glued_partner seam (decoded (code_of partner)) term)) node.terms)
      (λ partner. list_any (λ found. code == code_of found) (map (glued_partner seam partner) node.terms)) (pairings_by nodes inner) short_before
      (λ partner h.
      ap (λ p. list_any (λ term. code == code_of (glued_partner seam p term)) node.terms) (decoded-code_of partner h)
      ∙ sym (any-map (λ found. code == code_of found) (glued_partner seam partner) node.terms))
      ∙ sym (any-flat_map (λ found. code == code_of found) (λ partner. map (glued_partner seam partner) node.terms) (pairings_by nodes inner))
      ∙ sym (ap (list_any (λ found. code == code_of found)) pairings_after)

  -- What the states come to before the node, where each pairing is read back from its code.
  sums_read : (delta : ℕ) (worth : List ℕ → ℕ) → pairing_sum delta nodes inner (λ partner. worth (decoded (code_of partner))) ≡ pairing_sum delta nodes inner worth
  sums_read delta worth =
      let partner_of : List Term → List ℕ = λ state. partners_of (names_of nodes) (state_edges nodes state) inner in
      let factor : List Term → ℕ = λ state. delta ^ closed_parts (names_of nodes) (state_edges nodes state) inner in
      sum_by_all (λ state. IsPairedBy (state_edges nodes state) inner (partner_of state))
      (λ state. state_weight state * (factor state * worth (decoded (code_of (partner_of state))))) (λ state. state_weight state * (factor state * worth (partner_of state))) (states nodes)
      (paired_states nodes inner ok (AreFew-front nodes (node ∷ []) few) open_in)
      (λ state paired. let w = paired.whole in
      ap (λ p. state_weight state * (factor state * worth p)) (decoded-code_of (partner_of state) record { short = omega (arith, w, narrow); paired = paired.is_pairing }))

  -- THE TABLE AFTER ONE MORE NODE
  after_step : (m delta : ℕ) (table next : List (ℕ × ℕ)) → IsTableBy m delta nodes inner table → IsGathered m (contributions delta (seam_by inner node outer) node.terms table) next →
      IsTableBy m delta (nodes ++ node ∷ []) outer next
  after_step m delta table next h gathered =
      let seam = seam_by inner node outer in
      let items = contributions delta seam node.terms table in
      record {
        distinct = gathered.distinct;
        codes = λ code.
            let test : ℕ → Bool = λ other. list_any (λ term. code == code_of (glued_partner seam (decoded other) term)) node.terms in
            let glue : ℕ → List ℕ = λ other. map (λ term. code_of (glued_partner seam (decoded other) term)) node.terms in
            let ks = keys_of table in
            gathered.codes code
            ∙ ap (λ codes. is_member ◌==◌ codes code) (contributions-codes delta seam node.terms table)
            ∙ any-flat_map (◌==◌ code) glue ks
            ∙ any_each (λ other. list_any (◌==◌ code) (glue other)) test ks (λ other. any-map (◌==◌ code) (λ term. code_of (glued_partner seam (decoded other) term)) node.terms)
            ∙ same_tests test ks (map code_of (pairings_by nodes inner)) (λ other. h.codes other ∙ sym (any-map (◌==◌ other) code_of (pairings_by nodes inner)))
            ∙ any-map test code_of (pairings_by nodes inner)
            ∙ code_after code;
        sums = λ worth.
            let W : List ℕ → ℕ = λ partner. worth (code_of partner) in
            let before = worth_before delta node inner outer W in
            gathered.sums worth
            ∙ ap (λ n. n % m) (contributions-sum delta node inner outer worth table)
            ∙ h.sums (λ code. before (decoded code))
            ∙ ap (λ n. n % m) (sums_read delta before ∙ sym (one_more_node delta nodes node inner outer W ok node_ok few open_in open_out));
      }

pub step : StepLaw
step m delta nodes node inner outer table next ok node_ok few open_in open_out narrow h gathered =
    after_step nodes node inner outer ok node_ok few narrow open_in open_out m delta table next h gathered
