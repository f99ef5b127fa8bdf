-- How long a table is, the table of no node, and what a table comes to when no name is open: it has then one entry at most, at the code 0.
use Rattle.std.proofs.Common.{◌≡◌, ℕ, ◌+◌, ◌*◌, ◌^◌, ◌%◌, ◌==◌, true, false, cond, Some, None, List, [], ◌∷◌, map, refl, sym, ap, ◌∙◌, mul_comm, arith}
use Rattle.std.specs.List.{All, IsDistinct}
use Rattle.std.specs.Map.{keys_of, lookup}
use Rattle.std.specs.Option.{unwrap_or}
use Rattle.std.specs.Set.{is_member}
use Rattle.std.proofs.Math.Nat.{pow-zero}
use Rattle.std.proofs.lemmas.Bool.Decides.{nat_tests}
use Rattle.std.proofs.lemmas.Cmp.{nat_eq_equiv}
use Rattle.std.proofs.lemmas.List.Elements.{All-map}
use Rattle.std.proofs.lemmas.Map.Entries.{length-keys_of}
use Rattle.std.proofs.lemmas.Map.Keys.{IsDistinct-head}
use Rattle.std.proofs.lemmas.Map.Made.{length-from_keys}
use Rattle.graph_parts.specs.Parts as P
use Rattle.graph_parts.specs.Patterns.{closed_parts}
use Rattle.state_sums.specs.Networks.{Node, Term, names_of}
use Rattle.state_sums.specs.StateSums.{states, state_edges, value}
use Rattle.state_sums.proofs.Congruent.{mul_same_mod}
use Rattle.arc_gluing.specs.Pairings.{partners_of}
use Rattle.arc_gluing.specs.Sums.{pairing_sum}
use Rattle.arc_gluing.proofs.GluingLaws.{whole_network}
use Rattle.arc_pairing.specs.Codes.{code_of}
use Rattle.frontier_laws.specs.Orders.{open_names}
use Rattle.frontier_laws.specs.Tables.{table_sum}
use Rattle.frontier_laws.proofs.ListTests.{any-map, found}
use Rattle.frontier_laws.proofs.OpenNames.{AreOpen-open_names}
use Rattle.frontier_laws.proofs.TableCounts.{short_count}
use Rattle.kept_seams.specs.AnyOrder.{pairings_by}
use Rattle.kept_seams.proofs.Reordered.{same_count}
use Rattle.kept_tables.specs.KeptTables.{IsTableBy, CountLaw, EndLaw}
use Rattle.kept_tables.proofs.OpenPairings.{all_short}

-- AS LONG AS THERE ARE PAIRINGS
pub count : CountLaw
count m delta nodes names table ok few open_are narrow h =
    sym (length-keys_of table)
    ∙ length-from_keys nat_eq_equiv (keys_of table) (map code_of (pairings_by nodes names)) h.distinct (λ code. h.codes code ∙ sym (any-map (◌==◌ code) code_of (pairings_by nodes names)))
    ∙ short_count (pairings_by nodes names) (all_short nodes names ok few open_are narrow)
    ∙ same_count nodes names (open_names nodes) ok few open_are (AreOpen-open_names nodes)

one_code : (code : ℕ) → IsDistinct ◌==◌ (code ∷ [])
unfolding IsDistinct
one_code code = (tt, tt)

-- THE TABLE OF NO NODE
pub of_none : (m delta : ℕ) → IsTableBy m delta [] [] ((0, 1) ∷ [])
unfolding P.part_count
of_none m delta = record {
  distinct = one_code (code_of []);
  codes = λ code. refl;
  sums = λ worth. ap (λ n. n % m) (let e = pow-zero delta in let w = worth (code_of []) in let g : 0 + 1 * w ≡ 0 + 1 * (delta ^ closed_parts [] [] [] * w) = rw e (omega arith) in g);
}

-- Where no code but 0 is in the table, there is one entry at most.
only_zero : (table : List (ℕ × ℕ)) → IsDistinct ◌==◌ (keys_of table) → ((code : ℕ) → is_member ◌==◌ (keys_of table) code ≡ true → code ≡ 0) → table_sum (λ code. 1) table ≡ unwrap_or (lookup (◌==◌ 0) table) 0
only_zero [] d zeros = refl
only_zero (e ∷ []) d zeros =
    let is : e.0 ≡ 0 = zeros e.0 (grind (arith, nat_tests)) in
    let at : (0 == e.0) ≡ true = grind (arith, nat_tests, is) in
    let look = ap (λ b. unwrap_or (cond b (Some e.1) None) 0) at in
    omega (arith, look)
only_zero (e ∷ f ∷ table) d zeros =
    let first : e.0 ≡ 0 = zeros e.0 (grind (arith, nat_tests)) in
    let second : f.0 ≡ 0 = zeros f.0 (grind (arith, nat_tests)) in
    let apart : (e.0 == f.0) ≡ false = (IsDistinct-head ◌==◌ e.0 (f.0 ∷ keys_of table) d).0 in
    absurd (grind (arith, nat_tests, first, second, apart))

-- With no open name each pairing has no points, so that its code is 0.
no_points : (nodes : List Node) → All (λ partner. partner ≡ []) (pairings_by nodes [])
no_points nodes =
    let partner_of : List Term → List ℕ = λ state. partners_of (names_of nodes) (state_edges nodes state) [] in
    All-map (λ partner. partner ≡ []) partner_of (states nodes) (λ k d l. refl)

-- WITH NO OPEN NAME IT HAS THE VALUE OF THE NETWORK
pub end : EndLaw
unfolding value
end m delta free nodes table ok few open_are h =
    let zeros = λ (code : ℕ) (member : is_member ◌==◌ (keys_of table) code ≡ true).
    (let s = found (λ partner. partner ≡ []) (λ partner. code == code_of partner) (pairings_by nodes []) (no_points nodes) (sym (h.codes code) ∙ member) in
    let test = s.2 in
    let is : code ≡ code_of s.0 = grind (arith, nat_tests, test) in
    is ∙ ap code_of s.1) in
    let whole = pairing_sum delta nodes [] (λ partner. 1) in
    let sum = table_sum (λ code. 1) table in
    ap (λ n. (n * delta ^ free) % m) (sym (only_zero table h.distinct zeros))
    ∙ ap (λ n. n % m) (mul_comm sum (delta ^ free))
    ∙ mul_same_mod m (delta ^ free) sum whole (h.sums (λ code. 1))
    ∙ sym (ap (λ n. n % m) (whole_network delta free nodes))
