-- From what a contraction gives to the value of a net, and to what the walk says of a face or a tetrahedron.
--
--     given_value, value_is        a value that was summed is the net's
--     theta_is                     so for the first net
--     no_theta_fault, theta_fault  its inverse is there, or shares a factor
--     tet_fault                    a limit of the second net
use Rattle.std.proofs.Common.{◌≡◌, ◌⊎◌, inl, inr, ℕ, ◌==◌, false, cond, Some, None, List, Result, Ok, Err, OnOk, IfOk, sym, ap, subst, ◌∙◌, arith}
use Rattle.std.specs.Int.{IsGcd}
use Rattle.std.proofs.lemmas.Bool.{eq-eqb}
use Rattle.std.proofs.lemmas.Bool.Decides.{nat_tests}
use Rattle.std.proofs.lemmas.Nat.Gcd.{same_from_IsGcd}
use Rattle.inertia_laws.specs.Fractions.{gcd}
use Rattle.inertia_laws.proofs.Values.{gcd_is}
use Rattle.root_quantum.specs.Parameters.{Parameters}
use Rattle.pd_reader.specs.declared.item.NetItem.{NetItem}
use Rattle.cables.specs.Nets.{cabled_net}
use Rattle.frontier_sweep.specs.Next.{next_of}
use Rattle.frontier_sweep.specs.SweepResults.{sweep}
use Rattle.frontier_sweep.specs.declared.fault.SweepFault.{SweepFault}
use Rattle.frontier_sweep.specs.declared.fault.SweepFault.TheVariants as sweeps
use Rattle.frontier_sweep.specs.declared.order.Order.TheVariants.{Listed}
use Rattle.skein_network.specs.Refusals.{net_colour}
use Rattle.tetra_sum.specs.declared.fault.TetraFault.{TetraFault}
use Rattle.tetra_sum.specs.declared.fault.TetraFault.TheVariants as faults
use Rattle.tetra_sum.specs.Nets.{by_turns, net_value, theta_net, theta}
use Rattle.tetra_sum.specs.Refusals.{limit_at, by_theta, by_tet}

pub given_value : (v : ℕ) (swept : Result ℕ SweepFault) (result : Result ℕ SweepFault) → IfOk result (λ sum. sum ≡ v) → OnOk result ((count : ℕ) × (swept ≡ Ok count)) →
    IfOk result (λ value. by_turns v swept ≡ Ok value)
given_value v swept (Ok sum) e h = ap (by_turns v) h.1 ∙ ap Ok (sym e)
given_value v swept (Err fault) e h = tt

pub value_is : (v x : ℕ) (swept : Result ℕ SweepFault) → by_turns v swept ≡ Ok x → x ≡ v
value_is v x (Ok turns) e = let same : v ≡ x = cc in sym same
value_is v x (Err fault) e = absurd cc

pub theta_is : (p : Parameters) (net : List NetItem) (colours : List ℕ) (x : ℕ) → net ≡ theta_net → net_value p net colours ≡ Ok x → x ≡ theta p colours
theta_is p net colours x is e =
    value_is (theta p colours) x (sweep (next_of Listed) (cabled_net p theta_net (net_colour theta_net colours))) (subst (λ n. net_value p n colours ≡ Ok x) is e)

pub no_theta_fault : (m number f : ℕ) (found : Result ℕ SweepFault) (x : ℕ) → found ≡ Ok x → IsGcd x m 1 → by_theta m number f found ≡ None
no_theta_fault m number f found x e coprime =
    let one : gcd x m ≡ 1 = same_from_IsGcd x m (gcd x m) 1 (gcd_is x m) coprime in
    ap (by_theta m number f) e ∙ ap (λ b. cond b None (Some (faults.Theta number f (gcd x m)))) (eq-eqb (gcd x m) 1 one)

pub theta_fault : (m number f : ℕ) (found : Result ℕ SweepFault) (x g : ℕ) → found ≡ Ok x → IsGcd x m g → (IsGcd x m 1 → ⊥) → by_theta m number f found ≡ Some (faults.Theta number f g)
theta_fault m number f found x g e divisor shared =
    let same : gcd x m ≡ g = same_from_IsGcd x m (gcd x m) g (gcd_is x m) divisor in
    let other : gcd x m ≡ 1 → ⊥ = λ one. shared (subst (λ k. IsGcd x m k) one (gcd_is x m)) in
    let test : (gcd x m == 1) ≡ false = grind (arith, nat_tests, other) in
    ap (by_theta m number f) e ∙ ap (λ b. cond b None (Some (faults.Theta number f (gcd x m)))) test ∙ ap (λ k. Some (faults.Theta number f k)) same

pub tet_fault : (number : ℕ) (found : Result ℕ SweepFault) (fault : SweepFault) (result : TetraFault) → result ≡ limit_at number fault → (fault ≡ sweeps.Memory) ⊎ (found ≡ Err fault) →
    (result ≡ faults.Memory) ⊎ (by_tet number found ≡ Some result)
tet_fault number found fault result is (inl e) = inl (is ∙ ap (limit_at number) e)
tet_fault number found fault result is (inr e) = inr (ap (by_tet number) e ∙ ap (λ (t : TetraFault). Some t) (sym is))
