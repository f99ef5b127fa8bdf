-- The cable of a net whose colours fit is a network: its nodes are nodes, each name stands twice, and it is within the limits of the types.
use Rattle.std.proofs.Common.{◌≡◌, ℕ, ◌<◌, ◌≤◌, ◌^◌, ◌==◌, true, length, arith, All}
use Rattle.std.specs.Set.{is_member}
use Rattle.std.proofs.lemmas.List.Elements.{All-weaker}
use Rattle.graph_parts.proofs.Ends.{is_member-itself}
use Rattle.state_sums.specs.Networks.{IsNode, names_of}
use Rattle.cables.specs.Strands.{Strands, strands_of}
use Rattle.cables.specs.Cables.{cable_nodes, start}
use Rattle.cables.specs.Laws.{CableIsNetworkLaw}
use Rattle.cables.proofs.CableCounts.{cable_length, loops_length}
use Rattle.cables.proofs.CableIsNodes.{IsGood, cable_good}
use Rattle.cables.proofs.CableTwice.{cable_twice, cable_short}
use Rattle.cables.proofs.NumberedStrands.{first_length, as_many_strands}

-- THE CABLE IS A NETWORK
pub cable_network : CableIsNetworkLaw
cable_network p colour boxed box items net few boxes fits =
    let strands : Strands = strands_of colour boxed box in
    let even = as_many_strands colour boxed box in
    let short : (label : ℕ) → length (strands.first label) ≤ 8 = λ label. (let e = first_length colour boxed box label in let f = few label in omega (arith, e, f)) in
    let nodes = cable_nodes p strands (start items) items in
    let good = cable_good p strands even short boxes items (start items) fits in
    let long = cable_length p strands even short items (start items) fits in
    let loops = loops_length strands items in
    let size = net.few in
    record {
      is_network = record {
        nodes = All-weaker (IsGood p.modulus) IsNode (λ node g. g.is_node) nodes good;
        twice = λ x m. cable_twice p colour boxed box items net few fits x m;
      };
      weights = All-weaker (IsGood p.modulus) (λ node. All (λ term. term.weight < p.modulus) node.terms) (λ node g. g.below) nodes good;
      few_ends = All-weaker (IsGood p.modulus) (λ node. length node.ends ≤ 24) (λ node g. g.few) nodes good;
      few_nodes = omega (arith, long, size);
      few_loops = omega (arith, loops, size);
      short_names = All-weaker (λ x. is_member ◌==◌ (names_of nodes) x ≡ true) (λ x. x < 2 ^ 32) (λ x m. cable_short p colour boxed box items net few fits x m) (names_of nodes) (is_member-itself (names_of nodes));
    }
