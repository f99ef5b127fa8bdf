-- A curl whose strands come in at a stub of a component of colour n from 2 on, beside any nodes that are the component's box, other nodes and the crossings of a
-- diagram by their stubs: its twist walks to the box, so it counts as mu_n to the power of the curl times the strands.
use Rattle.std.proofs.Common.{◌≡◌, ℕ, suc, ◌+◌, ◌-◌, ◌*◌, ◌%◌, ◌^◌, ◌<◌, ◌≤◌, ◌⊎◌, List, [], ◌∷◌, ◌++◌, map, length, reverse, slice_index, sym, ap, ◌∙◌, arith, ⊎_elim, All, subst}
use Rattle.std.specs.List.{range_with_len, zip}
use Rattle.std.proofs.lemmas.List.{get_or-reverse, length-reverse}
use Rattle.std.proofs.lemmas.List.Elements.{All-append}
use Rattle.graph_parts.specs.Walks.{Joined}
use Rattle.list_lemmas.specs.Times.{times_in}
use Rattle.state_sums.specs.Networks.{Node, Term, IsNode, names_of}
use Rattle.state_sums.specs.StateSums.{value}
use Rattle.root_quantum.specs.Parameters.{Parameters}
use Rattle.root_quantum.specs.QuantumNumbers.{inverse_root, loop_value}
use Rattle.strand_algebra.specs.Projectors.{IsProjector}
use Rattle.strand_words.specs.Words.{Letter}
use Rattle.piece_laws.specs.Arcs.{arcs_of}
use Rattle.pd_reader.specs.declared.item.Item.{Item}
use Rattle.planar_check.specs.Components.{strand_edges}
use Rattle.planar_check.specs.declared.sign.Sign.{Sign}
use Rattle.cables.specs.CableNodes.{box_node}
use Rattle.cables.specs.Strands.{Strands}
use Rattle.cables.proofs.NameCounts.{times_of-append, times-reverse}
use Rattle.diagram_moves.specs.Rewriting.{crossing_labels}
use Rattle.diagram_moves.proofs.Curling.{is_plus}
use Rattle.cable_crossings.proofs.ManyArcs.{arcs_ok}
use Rattle.coloured_moves.proofs.CurledStrands.{curl_twist}
use Rattle.coloured_moves.proofs.StubItems.{half, halved, at_stub, stub_nodes}
use Rattle.coloured_curls.specs.Boxes.{letter_nodes, names_behind}
use Rattle.coloured_curls.proofs.AbsorbedTwists.{count}
use Rattle.coloured_curls.proofs.EdgeLetters.{AreNumbered, IsHigh}
use Rattle.coloured_curls.proofs.LetterSteps.{AreStubs, weight}
use Rattle.coloured_curls.proofs.StubWords as words
use Rattle.coloured_curls.proofs.CurlTwists as curls
use Rattle.coloured_curls.proofs.GridCounts.{among}
use Rattle.coloured_curls.proofs.HighTwists.{renumbered}
use Rattle.coloured_curls.proofs.LetterCounts.{letter_counts}
use Rattle.coloured_curls.proofs.LetterNets.{AreAmong}
use Rattle.coloured_curls.proofs.LetterWords.{AreLetters, are_among}
use Rattle.coloured_curls.proofs.PieceCounts.{same_range}
use Rattle.coloured_curls.proofs.RenumberedLetters.{arcs_times, given_range, letters_ok}
use Rattle.coloured_curls.proofs.StubWords.{short_twist, twist_letters}
use Rattle.cable_crossings.proofs.ToldCrossings.{IsTold}
use Rattle.strand_words.specs.Grids.{crossed}
use Rattle.cables.proofs.LabelNames.{zero_or_some}
use Rattle.std.proofs.lemmas.List.FromFn.{length-map-range_with_len}

module _ (p : Parameters) (free k : ℕ) (sign : Sign) (into out M : List ℕ) (few_k : suc k ≤ 8) (long_into : length into ≡ suc k) (long_out : length out ≡ suc k) (long_M : length M ≡ suc k) (X1 CR : List Node)
    (is_told : IsTold p.modulus (loop_value p) X1 (crossed p.root (inverse_root p) (is_plus sign) 0).straight (crossed p.root (inverse_root p) (is_plus sign) 0).hook into out M (reverse M)) (ok_CR : All IsNode CR)
    (twice : (z : ℕ) → 1 ≤ times_in (names_of (X1 ++ CR)) z → times_in (names_of (X1 ++ CR)) z ≡ 2)
    (S : Strands) (D : List Item) (lg : ℕ) (numbered : AreNumbered S D) (l0 : ℕ) (f0 : List Term) (is : IsProjector p.modulus (loop_value p) (suc k) f0)
    (long : (x : ℕ) → half x ≡ l0 → length (at_stub S x) ≡ suc k) (OB : List Node) (w : ℕ) (stands : 1 ≤ times_in (crossing_labels D) w) (alone : (x : ℕ) → 1 ≤ times_in (crossing_labels D) x → half x ≡ half w → x ≡ w)
    (walk : Joined (strand_edges (halved D)) l0 (half w))
    (plain : (l : ℕ) → Joined (strand_edges (halved D)) l0 l → (l ≡ l0) ⊎ (at_stub S (2 * l + 1) ≡ reverse (at_stub S (2 * l)))) (into_is : into ≡ reverse (at_stub S w))
    (are : AreStubs p S (box_node 0 f0 (at_stub S (2 * l0)) (at_stub S (2 * l0 + 1)) ∷ (OB ++ arcs_of (zip (reverse (at_stub S w)) (reverse out)))) 1 1 0 lg D)
    (no_high : (z : ℕ) → IsHigh z → times_in (names_of ((box_node 0 f0 (at_stub S (2 * l0)) (at_stub S (2 * l0 + 1)) ∷ (OB ++ arcs_of (zip (reverse (at_stub S w)) (reverse out)))) ++ stub_nodes p S [] 1 1 0 lg D)) z ≡ 0)
    (clear : (z : ℕ) → IsHigh z → times_in into z + times_in out z + times_in (names_of CR) z ≡ 0) (low : (z : ℕ) → 1 ≤ times_in into z + times_in out z → z < 2 ^ 25)
    (front : (ns : List Node) → All IsNode ns → ((z : ℕ) → 1 ≤ times_in (names_of ns) z → z < 2 ^ 25) →
    value p.modulus (loop_value p) record { nodes = ns ++ CR; free_loops = free }
    ≡ value p.modulus (loop_value p) record { nodes = (box_node 0 f0 (at_stub S (2 * l0)) (at_stub S (2 * l0 + 1)) ∷ (OB ++ ns)) ++ stub_nodes p S [] 1 1 0 lg D; free_loops = free }) where
  abbrev A : List ℕ
  A = at_stub S w

  abbrev Ys : List ℕ
  Ys = reverse out

  abbrev N : List Node
  N = stub_nodes p S [] 1 1 0 lg D

  abbrev V : List Node → ℕ
  V ns = value p.modulus (loop_value p) record { nodes = ns; free_loops = free }

  abbrev box : Node
  box = box_node 0 f0 (at_stub S (2 * l0)) (at_stub S (2 * l0 + 1))

  long_A : length A ≡ suc k
  long_A = sym (length-reverse A) ∙ sym (ap length into_is) ∙ long_into

  long_Ys : length Ys ≡ suc k
  long_Ys = length-reverse out ∙ long_out

  -- ---- the twist, with new names that are low
  abbrev t : List Letter
  t = words.u p free sign S D lg numbered l0 k f0 is long OB w stands alone long_A walk plain Ys long_Ys are no_high

  abbrev tA : ℕ → ℕ
  tA j = slice_index A (length A - 1 - j)

  abbrev H : ℕ
  H = 16 * 2000001

  abbrev word : List Node
  word = letter_nodes t tA H ++ arcs_of (zip (map (names_behind t tA H) (range_with_len 0 (length A))) Ys)

  abbrev arcs : List Node
  arcs = arcs_of (zip (reverse A) Ys)

  abbrev v0 : ℕ → ℕ
  v0 = (curls.v p free k sign into out M few_k long_into long_out long_M X1 CR is_told ok_CR twice) 0

  abbrev big : ℕ
  big = (curls.big p free k sign into out M few_k long_into long_out long_M X1 CR is_told ok_CR twice)

  abbrev Z : ℕ
  Z = V (arcs_of (zip into Ys) ++ CR)

  strands_same : (j : ℕ) → j < length A → v0 j ≡ slice_index A (length A - 1 - j)
  strands_same j l = (curls.in_at p free k sign into out M few_k long_into long_out long_M X1 CR is_told ok_CR twice) j (let q = long_A in omega (arith, q, l)) ∙ ap (λ xs. slice_index xs j) into_is ∙ get_or-reverse A j 0 l

  into_among : (z : ℕ) → among v0 0 (length A) z ≡ times_in into z
  into_among z = ap (λ n. among v0 0 n z) long_A ∙ ap (λ xs. times_in xs z) (curls.into_list p free k sign into out M few_k long_into long_out long_M X1 CR is_told ok_CR twice)

  abbrev LA : List Node
  LA = letter_nodes t v0 big ++ arcs_of (zip (map (names_behind t v0 big) (range_with_len 0 (length A))) Ys)

  told : (curls.L p free k sign into out M few_k long_into long_out long_M X1 CR is_told ok_CR twice) ++ (curls.A p free k sign into out M few_k long_into long_out long_M X1 CR is_told ok_CR twice) ≡ LA
  told =
      ap (λ ns. letter_nodes t v0 big ++ ns)
      ((curls.A_is p free k sign into out M few_k long_into long_out long_M X1 CR is_told ok_CR twice)
      ∙ ap (λ ys. arcs_of (zip (map (names_behind t v0 big) (range_with_len 0 (suc k))) ys)) (curls.leaves_list p free k sign into out M few_k long_into long_out long_M X1 CR is_told ok_CR twice)
      ∙ ap (λ n. arcs_of (zip (map (names_behind t v0 big) (range_with_len 0 n)) Ys)) (sym long_A))

  letters_t : AreLetters p (is_plus sign) (length A) t
  letters_t = subst (λ n. AreLetters p (is_plus sign) n t) (sym long_A) (twist_letters p (is_plus sign) (suc k) 0 k (suc k) (omega arith))

  short_t : 2 * length t ≤ 112
  short_t = short_twist p (is_plus sign) k few_k

  ok_word : All IsNode word
  ok_word = All-append IsNode (letter_nodes t tA H) (arcs_of (zip (map (names_behind t tA H) (range_with_len 0 (length A))) Ys)) (letters_ok t tA H) (arcs_ok (zip (map (names_behind t tA H) (range_with_len 0 (length A))) Ys))

  among_t : AreAmong (length A) t
  among_t = are_among p (is_plus sign) (length A) t letters_t

  word_low : (z : ℕ) → 1 ≤ times_in (names_of word) z → z < 2 ^ 25
  word_low z one =
      let L1 : (ℕ → ℕ) → List ℕ = λ q. map q (range_with_len 0 (length A)) in
      let T = names_behind t tA H in
      let a = times_of-append z (letter_nodes t tA H) (arcs_of (zip (L1 T) Ys)) in
      let b = arcs_times (L1 T) Ys z (long_Ys ∙ sym (length-map-range_with_len T 0 (length A) ∙ long_A)) in
      let d = letter_counts (length A) t tA H z among_t in
      let e : among tA 0 (length A) z ≡ times_in into z = ap (λ ns. times_in ns z) (sym (same_range v0 tA 0 (length A) (λ j lo hi. strands_same j (omega (arith, hi))))) ∙ into_among z in
      let r = times-reverse z out in
      ⊎_elim
      (λ (n : times_in into z + times_in out z ≡ 0). (let g = given_range t H z (omega (arith, one, a, b, d, e, r, n)) in let g1 = g.1 in let q = short_t in omega (arith, g1, q)))
      (λ n. (let n1 = n.1 in low z (omega (arith, n1))))
      (zero_or_some (times_in into z + times_in out z))

  arcs_low : (z : ℕ) → 1 ≤ times_in (names_of arcs) z → z < 2 ^ 25
  arcs_low z one =
      let b = arcs_times (reverse A) Ys z (long_Ys ∙ sym (length-reverse A ∙ long_A)) in
      let d = ap (λ xs. times_in xs z) into_is in
      let r = times-reverse z out in
      low z (omega (arith, one, b, d, r))

  absorbed : V (LA ++ CR) ≡ weight p (is_plus sign) ^ count t * Z % p.modulus
  absorbed =
      renumbered p.modulus (loop_value p) free (length A) t among_t v0 tA strands_same Ys (long_Ys ∙ sym long_A) CR ok_CR big H
      (λ z one. (curls.low_name p free k sign into out M few_k long_into long_out long_M X1 CR is_told ok_CR twice) z (let q = into_among z in let r = times-reverse z out in omega (arith, q, r, one)))
      (λ z lo hi.
      let h : IsHigh z = (lo, (let q = short_t in omega (arith, hi, q))) in
      let q = into_among z in let r = times-reverse z out in let a = clear z h in
      omega (arith, q, r, a))
      ∙ front word ok_word word_low
      ∙ words.twist_counts p free sign S D lg numbered l0 k f0 is long OB w stands alone long_A walk plain Ys long_Ys are no_high
      ∙ ap (λ j. weight p (is_plus sign) ^ count t * j % p.modulus) (sym (front arcs (arcs_ok (zip (reverse A) Ys)) arcs_low) ∙ ap (λ xs. V (arcs_of (zip xs Ys) ++ CR)) (sym into_is))

  -- A CURL WHOSE STRANDS COME IN AT A STUB
  pub curl_at_stub : V (X1 ++ CR) ≡ curl_twist p (suc k) sign * V (arcs_of (zip into (reverse out)) ++ CR) % p.modulus
  curl_at_stub = (curls.curl_counts p free k sign into out M few_k long_into long_out long_M X1 CR is_told ok_CR twice) Z (ap (λ ns. V (ns ++ CR)) told ∙ absorbed)
