-- The curl of one strand is its factor times the strand, beside any other nodes; and the curl of no strand is nothing.
use Rattle.std.proofs.Common.{◌≡◌, ℕ, ◌+◌, ◌*◌, ◌%◌, ◌≤◌, ◌==◌, ◌||◌, Bool, true, false, cond, List, [], ◌∷◌, ◌++◌, reverse, refl, ap, ap₂, ◌∙◌, arith, All}
use Rattle.std.specs.Set.{is_member}
use Rattle.std.proofs.lemmas.Bool.Decides.{nat_tests}
use Rattle.state_sums.specs.LocalSums.{arc, rename}
use Rattle.state_sums.specs.Networks.{Node, IsNode, names_of}
use Rattle.state_sums.specs.StateSums.{value}
use Rattle.list_lemmas.specs.Times.{times_in}
use Rattle.list_lemmas.proofs.Times.{times_of_member}
use Rattle.graph_parts.specs.Renaming.{replaced}
use Rattle.planar_check.specs.declared.sign.Sign.{Sign}
use Rattle.planar_check.specs.declared.sign.Sign.TheVariants as signs
use Rattle.piece_laws.specs.Arcs.{arcs_of}
use Rattle.piece_laws.proofs.ArcEdges.{IsNode-arcs}
use Rattle.piece_laws.proofs.Closing.{arc_joins}
use Rattle.piece_laws.proofs.ParameterNumbers.{skein_numbers}
use Rattle.piece_laws.proofs.RenamedNodes.{rename_fixed}
use Rattle.piece_laws.proofs.Ungrouped.{groups}
use Rattle.root_quantum.specs.Parameters.{Parameters}
use Rattle.root_quantum.specs.QuantumNumbers.{inverse_root, loop_value, twist, twist_factor}
use Rattle.ring_identities.specs.Powers.{power, signed_power}
use Rattle.ring_identities.proofs.Congruences.{residue_small}
use Rattle.diagram_brackets.specs.Crossings.{crossing_node}
use Rattle.diagram_moves.specs.Moves.{curl_slots, curl_of}
use Rattle.diagram_moves.proofs.Curling.{first_open, second_open, is_plus, front_curl}
use Rattle.diagram_moves.proofs.Nodes.{node}
use Rattle.cables.specs.CableNodes.{crossing_cable}
use Rattle.cable_crossings.proofs.StepPieces.{member_of_one}

-- the crossing of a curl: the strands come in at E, leave at W, and M is the loop
abbrev pub curl_cable : Parameters → ℕ → ℕ → Sign → List ℕ → List ℕ → List ℕ → List Node
curl_cable p g k signs.Plus E W M = crossing_cable p g k E W M (reverse M)
curl_cable p g k signs.Minus E W M = crossing_cable p g k E M (reverse M) W

-- mu_n of a curl
abbrev pub curl_twist : Parameters → ℕ → Sign → ℕ
curl_twist p n sign = twist p n (curl_of sign).curl

pub no_twist : (p : Parameters) (sign : Sign) → curl_twist p 0 sign ≡ 1
unfolding twist twist_factor signed_power power
no_twist p signs.Plus = residue_small p.modulus 1 p.meets.modulus.0
no_twist p signs.Minus = residue_small p.modulus 1 p.meets.modulus.0

pub condition : (p : Parameters) (sign : Sign) → (let u = cond (is_plus sign) p.root (inverse_root p) in curl_twist p 1 sign + u * u * u) % p.modulus ≡ 0 % p.modulus
condition p signs.Plus = (skein_numbers p).positive_curl
condition p signs.Minus = (skein_numbers p).negative_curl

module _ (p : Parameters) (free g k x y z : ℕ) (sign : Sign) (rest : List Node) (ok : All IsNode rest)
    (twice : (u : ℕ) → 1 ≤ times_in (z ∷ z ∷ x ∷ y ∷ []) u + times_in (names_of rest) u → times_in (z ∷ z ∷ x ∷ y ∷ []) u + times_in (names_of rest) u ≡ 2)
    (other_x : (z == x) ≡ false) (other_y : (z == y) ≡ false) (apart : (x == y) ≡ false) where
  abbrev V : List Node → ℕ
  V ns = value p.modulus (loop_value p) record { nodes = ns; free_loops = free }

  abbrev first : ℕ
  first = first_open x y sign

  abbrev second : ℕ
  second = second_open x y sign

  as_node : (s : Sign) → V (curl_cable p g k s (x ∷ []) (y ∷ []) (z ∷ []) ++ rest) ≡ V (node p.root (inverse_root p) (curl_slots x y z s) ∷ rest)
  as_node signs.Plus = (groups (loop_value p) free (crossing_node p g (x ∷ y ∷ z ∷ z ∷ []) ∷ rest) (node p.root (inverse_root p) (x ∷ y ∷ z ∷ z ∷ []) ∷ rest) refl).values p.modulus
  as_node signs.Minus = (groups (loop_value p) free (crossing_node p g (x ∷ z ∷ z ∷ y ∷ []) ∷ rest) (node p.root (inverse_root p) (x ∷ z ∷ z ∷ y ∷ []) ∷ rest) refl).values p.modulus

  out_of_rest : times_in (names_of rest) z ≡ 0
  out_of_rest = let t = twice z (grind (arith, nat_tests)) in grind (arith, nat_tests, t, other_x, other_y)

  in_rest : (u : ℕ) → times_in (z ∷ z ∷ x ∷ y ∷ []) u ≡ 1 → is_member ◌==◌ (names_of rest) u ≡ true
  in_rest u one = let t = twice u (omega (arith, one)) in member_of_one u (names_of rest) (omega (arith, t, one))

  x_in : is_member ◌==◌ (names_of rest) x ≡ true
  x_in = in_rest x (grind (arith, nat_tests, other_x, apart))

  y_in : is_member ◌==◌ (names_of rest) y ≡ true
  y_in = in_rest y (grind (arith, nat_tests, other_y, apart))

  joined : (a b : ℕ) → (z == b) ≡ false → is_member ◌==◌ (names_of rest) a ≡ true → V (arcs_of ((z, a) ∷ (z, b) ∷ []) ++ rest) ≡ V (arc a b ∷ rest)
  joined a b d a_in =
      arc_joins p.modulus (loop_value p) free z a (arc z b ∷ rest) (IsNode-arcs ((z, b) ∷ []) rest ok) (plain z (z == b || is_member ◌==◌ (names_of rest) z)) (later (a == z) (a == b) (is_member ◌==◌ (names_of rest) a) a_in)
      ∙ ap V (ap₂ (λ (s t : ℕ). arc s t ∷ rename (replaced z a) rest) (here z a) (there z a b d) ∙ ap (λ ns. arc a b ∷ ns) (rename_fixed (replaced z a) rest still))
    where
      plain : (z : ℕ) (t : Bool) → ((z == z) || t) ≡ true
      plain z t = grind (arith, nat_tests)

      later : (s t u : Bool) → u ≡ true → (s || (t || u)) ≡ true
      later s t u h = grind (arith, h)

      here : (z a : ℕ) → replaced z a z ≡ a
      here z a = grind (arith, nat_tests)

      there : (z a b : ℕ) → (z == b) ≡ false → replaced z a b ≡ b
      there z a b d = grind (arith, nat_tests, d)

      differ : (x z : ℕ) → 1 ≤ times_in (names_of rest) x → times_in (names_of rest) z ≡ 0 → (x == z) ≡ false
      differ x z h o =
          elim (x == z) as (λ t. (x == z) ≡ t → (x == z) ≡ false) [
            | true ↦ (λ t. (let e : x ≡ z = grind (arith, nat_tests, t) in let s = ap (times_in (names_of rest)) e in absurd (omega (arith, s, h, o))))
            | false ↦ (λ t. t)
          ] refl

      still : (u : ℕ) → is_member ◌==◌ (names_of rest) u ≡ true → replaced z a u ≡ u
      still u m = ap (λ t. cond t a u) (differ u z (times_of_member u (names_of rest) m) out_of_rest)

  either : (s : Sign) → V (arcs_of ((z, first_open x y s) ∷ (z, second_open x y s) ∷ []) ++ rest) ≡ V (arc (first_open x y s) (second_open x y s) ∷ rest)
  either signs.Plus = joined x y other_y x_in
  either signs.Minus = joined y x other_x y_in

  -- THE CURL OF ONE STRAND
  pub one_strand : V (curl_cable p g k sign (x ∷ []) (y ∷ []) (z ∷ []) ++ rest) ≡ curl_twist p 1 sign * V (arc first second ∷ rest) % p.modulus
  one_strand =
      as_node sign
      ∙ front_curl p.modulus (loop_value p) p.root (inverse_root p) (skein_numbers p).skein free x y z sign rest ok (curl_twist p 1 sign) (condition p sign) twice
      ∙ ap (λ k. curl_twist p 1 sign * k % p.modulus) (either sign)
