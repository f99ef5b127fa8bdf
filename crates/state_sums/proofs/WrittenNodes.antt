-- Nodes that are written out are nodes by computing a test.
use Rattle.std.proofs.Common.{ltb, ◌≡◌, ℕ, ◌+◌, ◌<◌, Bool, true, not, ◌&&◌, ◌==◌, List, map, length, slice_index, refl, sym, ap, ◌∙◌, subst, arith, All}
use Rattle.std.specs.List.{list_all, range_with_len}
use Rattle.std.proofs.lemmas.Bool.{ltb-true, eqb-true, eq-eqb, and_parts}
use Rattle.std.proofs.lemmas.List.{length-map}
use Rattle.std.proofs.lemmas.List.Elements.{All-map, All-weaker}
use Rattle.std.proofs.lemmas.List.FromFn.{length-range_with_len, get_or-range_with_len}
use Rattle.std.proofs.lemmas.List.Sums.{AllPass-from_list_all}
use Rattle.state_sums.specs.LocalSums.{rename, crossing, weighted_arc}
use Rattle.state_sums.specs.Networks.{Node, Term, IsPairing, IsNode}

-- whether place i has a partner within, which is another place and names it back
abbrev pub is_paired : List ℕ → ℕ → Bool
is_paired partner i =
    ltb (slice_index partner i) (length partner) && (not (slice_index partner i == i) && slice_index partner (slice_index partner i) == i)

abbrev pub is_pairing : List ℕ → Bool
is_pairing partner = list_all (is_paired partner) (range_with_len 0 (length partner))

paired_at : (partner : List ℕ) → is_pairing partner ≡ true → (i : ℕ) → i < length partner → is_paired partner i ≡ true
paired_at partner h i l =
    let n = length partner in
    let long = length-range_with_len 0 n in
    let e = get_or-range_with_len 0 n i 0 l in
    let same : 0 + i ≡ i = omega arith in
    ap (is_paired partner) (sym (e ∙ same)) ∙ AllPass-from_list_all (is_paired partner) (range_with_len 0 n) h i 0 (omega (arith, l, long))

pub IsPairing-from_test : (partner : List ℕ) → is_pairing partner ≡ true → IsPairing partner
IsPairing-from_test partner h = record {
  within = λ i l.
      let t = and_parts (ltb (slice_index partner i) (length partner)) _ (paired_at partner h i l) in ltb-true (slice_index partner i) (length partner) t.0;
  apart = λ i l e.
      let t = and_parts (ltb (slice_index partner i) (length partner)) _ (paired_at partner h i l) in
      let u = and_parts (not (slice_index partner i == i)) _ t.1 in
      let v = eq-eqb (slice_index partner i) i e in
      grind (arith, u.0, v);
  back = λ i l.
      let t = and_parts (ltb (slice_index partner i) (length partner)) _ (paired_at partner h i l) in
      let u = and_parts (not (slice_index partner i == i)) _ t.1 in
      eqb-true (slice_index partner (slice_index partner i)) i u.1;
}

-- whether a term pairs so many ends
abbrev pub pairs_all : ℕ → Term → Bool
pairs_all ends term = is_pairing term.partner && length term.partner == ends

pub IsNode-from_test : (node : Node) → list_all (pairs_all (length node.ends)) node.terms ≡ true → IsNode node
IsNode-from_test node h =
    All-weaker (λ term. pairs_all (length node.ends) term ≡ true) (λ term. IsPairing term.partner × (length term.partner ≡ length node.ends))
    (λ term t. let p = and_parts (is_pairing term.partner) _ t in (IsPairing-from_test term.partner p.0, eqb-true (length term.partner) (length node.ends) p.1)) node.terms
    (AllPass-from_list_all (pairs_all (length node.ends)) node.terms h)

pub IsNode-crossing : (a b w x y z : ℕ) → IsNode (crossing a b w x y z)
IsNode-crossing a b w x y z = IsNode-from_test (crossing a b w x y z) refl

pub IsNode-weighted_arc : (w x y : ℕ) → IsNode (weighted_arc w x y)
IsNode-weighted_arc w x y = IsNode-from_test (weighted_arc w x y) refl

-- A NODE WITH OTHER NAMES
pub IsNode-rename : (r : ℕ → ℕ) (nodes : List Node) → All IsNode nodes → All IsNode (rename r nodes)
IsNode-rename r nodes a =
    All-map IsNode (λ node. record { group = node.group; ends = map r node.ends; terms = node.terms }) nodes
    (All-weaker IsNode (λ node. IsNode record { group = node.group; ends = map r node.ends; terms = node.terms })
    (λ node h. subst (λ n. All (λ term. IsPairing term.partner × (length term.partner ≡ n)) node.terms) (sym (length-map node.ends r)) h) nodes a)
