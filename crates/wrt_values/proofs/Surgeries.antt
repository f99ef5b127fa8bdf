-- The stages of a surgery value, from what the calls say of them.
use Rattle.std.proofs.Common.{◌≡◌, ◌≢◌, ℕ, zero, suc, ◌+◌, ◌<◌, IfOk, IfErr, ◌≤◌, ◌==◌, nat_lt, Bool, true, false, cond, if◌then◌else◌, List, take, Option, Some, None, Result, Ok, Err, ℤ, refl, sym, ap, ap₂, subst, ◌∙◌, arith, eqb}
use Rattle.std.specs.Prelude.{OnOk}
use Rattle.std.specs.Int.{IsGcd}
use Rattle.std.specs.Result.{result_and}
use Rattle.std.proofs.lemmas.Bool.Decides.{nat_tests}
use Rattle.std.proofs.lemmas.Nat.Gcd.{same_from_IsGcd}
use Rattle.inertia_laws.specs.Fractions.{Fraction, gcd}
use Rattle.inertia_laws.specs.Range.{first_leaving}
use Rattle.inertia_laws.specs.Indices.{IsSameBelow, positive_index, negative_index}
use Rattle.inertia_laws.specs.Certificates.{IsCertificate, positives, negatives}
use Rattle.inertia_laws.proofs.Values.{gcd_is}
use Rattle.inertia_laws.proofs.SizeAlone.{size_alone_law}
use Rattle.inertia_laws.proofs.Indices.{certificate_indices_law}
use Rattle.inertia_cert.specs.SymmetricMatrices.{SquareMatrix, IsSymmetricMatrix, entry}
use Rattle.root_quantum.specs.Parameters.{Parameters}
use Rattle.root_quantum.specs.Colours.{greatest_colour}
use Rattle.planar_check.specs.Framings.{FramedDiagram, linking_entry}
use Rattle.planar_check.specs.declared.sign.Sign.{Sign}
use Rattle.planar_check.specs.declared.sign.Sign.TheVariants.{Plus, Minus}
use Rattle.state_sums.specs.Networks.{Node}
use Rattle.frontier_laws.specs.FunctionOrders.{nodes_by, is_wide, first_limit}
use Rattle.frontier_laws.specs.Orders.{View}
use Rattle.frontier_laws.specs.Turns.{open_count, turns_of}
use Rattle.frontier_sweep.specs.SweepResults.{by_step, limit_at}
use Rattle.frontier_sweep.specs.declared.fault.SweepFault.TheVariants as sweeps
use Rattle.wenzl_table.specs.Inverses.{IsFirstCommon}
use Rattle.coloured_values.specs.Surgery.{matrix_of, component_count, plus_count, minus_count, surgery}
use Rattle.kirby_terms.specs.Normalisations.{omega_of, IsMissing, IsRefused}
use Rattle.kirby_terms.specs.Terms.{network_at, colouring_total}
use Rattle.kirby_terms.specs.declared.normalisation.NormFault.{NormFault}
use Rattle.kirby_terms.specs.declared.normalisation.NormFault.TheVariants as norms
use Rattle.colour_share.specs.ResultSums.{result_plus, result_sum}
use Rattle.colour_share.specs.Turns as sums
use Rattle.colour_share.specs.Sums.{IsFirstLimit, IsNoInverse, IsTooMany}
use Rattle.colour_share.specs.Shares.{HasTooMany}
use Rattle.colour_share.specs.declared.fault.SumFault.{SumFault}
use Rattle.colour_share.specs.declared.fault.SumFault.TheVariants as faults
use Rattle.wrt_values.specs.Inverses.{inverses}
use Rattle.wrt_values.specs.Values.{refusal_at, Fails, Gives}
use Rattle.wrt_values.specs.Surgery.{colouring_count, against_step, inertia_range, delta_inverses, turns_by_limit, limited_turns, kirby_turns, omega_inverse, omega_inverses, valued, surgery_value}
use Rattle.wrt_values.specs.declared.fault.ValueFault.{ValueFault}
use Rattle.wrt_values.specs.declared.fault.ValueFault.TheVariants.{Refused, Memory}
use Rattle.wrt_values.specs.declared.fault.ValueRefusal.{ValueRefusal}
use Rattle.wrt_values.specs.declared.fault.ValueRefusal.TheVariants.{TooMany, Inertia, NoInverse, Wide, Table, NoOmegaInverse}
use Rattle.wrt_values.specs.declared.value.Value.{Value}
use Rattle.wrt_values.proofs.MissingInverses.{inverses_refused, inverses_exist}

-- ---- the turns of a sum, with the refusals of values
abbrev told : SumFault → ValueRefusal
told (faults.TooMany components limit) = TooMany components
told (faults.NoInverse index common) = NoInverse index common
told (faults.Wide colouring step ends) = Wide record { colouring = colouring; step = step } ends
told (faults.Table colouring step) = Table record { colouring = colouring; step = step }
told faults.Memory = Inertia 0

abbrev as_told : Result ℕ SumFault → Result ℕ ValueRefusal
as_told (Ok turns) = Ok turns
as_told (Err fault) = Err (told fault)

told_plus : (x y : Result ℕ SumFault) → as_told (result_plus x y) ≡ result_plus (as_told x) (as_told y)
told_plus (Ok x) (Ok y) = refl
told_plus (Ok x) (Err fault) = refl
told_plus (Err fault) y = refl

told_sum : (each : ℕ → Result ℕ SumFault) (n : ℕ) → as_told (result_sum each n) ≡ result_sum (λ index. as_told (each index)) n
told_sum each zero = refl
told_sum each (suc n) = told_plus (result_sum each n) (each (suc n)) ∙ ap (λ r. result_plus r (as_told (each (suc n)))) (told_sum each n)

told_step : (nodes : List Node) (index k : ℕ) (wide : Bool) → as_told (sums.numbered index (Err (if wide then sweeps.Wide k (open_count (take k nodes)) else sweeps.Table k)))
    ≡ Err (if wide then Wide record { colouring = index; step = k } (open_count (take k nodes)) else Table record { colouring = index; step = k })
told_step nodes index k true = refl
told_step nodes index k false = refl

told_limit : (nodes : List Node) (index : ℕ) (limit : Option ℕ) → as_told (sums.numbered index (by_step nodes limit)) ≡ turns_by_limit nodes index limit
told_limit nodes index None = refl
told_limit nodes index (Some k) = told_step nodes index k (is_wide nodes k)

same_sum : {E : Type 0} (a b : ℕ → Result ℕ E) (n : ℕ) → ((index : ℕ) → a index ≡ b index) → result_sum a n ≡ result_sum b n
same_sum a b zero same = refl
same_sum a b (suc n) same = ap₂ result_plus (same_sum a b n same) (same (suc n))

pub told_turns : (next : View → ℕ) (p : Parameters) (diagram : FramedDiagram) → as_told (sums.kirby_turns next p diagram) ≡ kirby_turns next p diagram
told_turns next p diagram =
    told_sum (sums.colouring_turns next p diagram) (colouring_total p diagram)
    ∙ same_sum _ _ (colouring_total p diagram) (λ index. told_limit (nodes_by next (network_at p diagram index)) index (first_limit (nodes_by next (network_at p diagram index))))

-- ---- the inverses of the Delta
pub deltas_refused : (p : Parameters) (diagram : FramedDiagram) (index common : ℕ) → IsNoInverse p diagram index common → delta_inverses p diagram ≡ Err (NoInverse index common)
deltas_refused p diagram index common h =
    let some : (component_count diagram == 0) ≡ false = (let s = h.some in grind (arith, nat_tests, s)) in
    ap (λ b. if b then Ok tt else inverses p (greatest_colour p)) some ∙ inverses_refused p (greatest_colour p) index common h.first

pub deltas_exist : (p : Parameters) (diagram : FramedDiagram) → (¬ HasTooMany p diagram) → ((index common : ℕ) → ¬ IsNoInverse p diagram index common) → delta_inverses p diagram ≡ Ok tt
deltas_exist p diagram few none = cases (component_count diagram == 0) refl
  where
    cases : (b : Bool) → (component_count diagram == 0) ≡ b → delta_inverses p diagram ≡ Ok tt
    cases true e = ap (λ b. if b then Ok tt else inverses p (greatest_colour p)) e
    cases false e =
        let some : 0 < component_count diagram = grind (arith, nat_tests, e) in
        ap (λ b. if b then Ok tt else inverses p (greatest_colour p)) e
        ∙ inverses_exist p (greatest_colour p) (λ index common first. none index common record { few = few; some = some; first = first })

-- ---- a sum, at parameters q that are p
module _ (next : View → ℕ) (q p : Parameters) (diagram : FramedDiagram) (same : q ≡ p) where
  abbrev swept : Parameters → Result ℕ ValueRefusal
  swept r = result_and (delta_inverses r diagram) (kirby_turns next r diagram)

  at_last : (¬ HasTooMany p diagram) → ((index common : ℕ) → ¬ IsNoInverse q diagram index common) → (found : Result ℕ SumFault) → sums.kirby_turns next q diagram ≡ found → swept p ≡ as_told found
  at_last few none found h =
      let P : Parameters → Type 0 = λ r. (¬ HasTooMany r diagram) → swept r ≡ as_told found in
      subst P same (λ few. ap₂ result_and (deltas_exist q diagram few none) (sym (told_turns next q diagram) ∙ ap as_told h)) few

  pub turns_are : (turns : ℕ) → (¬ HasTooMany p diagram) → ((index common : ℕ) → ¬ IsNoInverse q diagram index common) → sums.kirby_turns next q diagram ≡ Ok turns → swept p ≡ Ok turns
  turns_are turns few none = at_last few none (Ok turns)

  pub wide : (colouring step ends : ℕ) (fault : SumFault) → fault ≡ faults.Wide colouring step ends → (¬ HasTooMany p diagram) → ((index common : ℕ) → ¬ IsNoInverse q diagram index common)
      → IsFirstLimit next q diagram fault → swept p ≡ Err (Wide record { colouring = colouring; step = step } ends)
  wide colouring step ends fault is few none h = at_last few none (Err (faults.Wide colouring step ends)) (let F : SumFault → Type 0 = λ f. IsFirstLimit next q diagram f in subst F is h)

  pub full : (colouring step : ℕ) (fault : SumFault) → fault ≡ faults.Table colouring step → (¬ HasTooMany p diagram) → ((index common : ℕ) → ¬ IsNoInverse q diagram index common)
      → IsFirstLimit next q diagram fault → swept p ≡ Err (Table record { colouring = colouring; step = step })
  full colouring step fault is few none h = at_last few none (Err (faults.Table colouring step)) (let F : SumFault → Type 0 = λ f. IsFirstLimit next q diagram f in subst F is h)

  pub no_delta : (index common : ℕ) → IsNoInverse q diagram index common → swept p ≡ Err (NoInverse index common)
  no_delta index common h =
      let P : Parameters → Type 0 = λ r. swept r ≡ Err (NoInverse index common) in
      subst P same (ap (λ x. result_and x (kirby_turns next q diagram)) (deltas_refused q diagram index common h))

  pub not_too_many : (components limit : ℕ) → IsTooMany q diagram components limit → (¬ HasTooMany p diagram) → ⊥
  not_too_many components limit h few = let P : Parameters → Type 0 = λ r. HasTooMany r diagram in few (subst P same h.many)

-- ---- the linking matrix
module _ (diagram : FramedDiagram) (matrix : SquareMatrix) (size_is : matrix.size ≡ component_count diagram)
    (entries_are : (i j : ℕ) → i < matrix.size → j < matrix.size → entry matrix i j ≡ linking_entry diagram (i + 1) (j + 1)) where
  same_below : IsSameBelow (component_count diagram) (entry matrix) (matrix_of diagram)
  same_below i j low high = entries_are i j (omega (arith, low, size_is)) (omega (arith, high, size_is))

  pub range_is : (found : Option ℕ) → first_leaving matrix.size (entry matrix) ≡ found → inertia_range diagram ≡ against_step found
  range_is found h =
      ap against_step (sym (size_alone_law (component_count diagram) (entry matrix) (matrix_of diagram) same_below).leaving ∙ ap (λ n. first_leaving n (entry matrix)) (sym size_is) ∙ h)

  pub counts_are : IsSymmetricMatrix matrix → (p q : ℕ → ℕ → Fraction) (d : ℕ → Fraction) → IsCertificate matrix.size (entry matrix) p q d →
      (positives matrix.size d ≡ plus_count diagram) × (negatives matrix.size d ≡ minus_count diagram)
  counts_are symmetric p q d certifies =
      let found = certificate_indices_law matrix.size (entry matrix) p q d symmetric.symmetric certifies in
      let alike = (size_alone_law (component_count diagram) (entry matrix) (matrix_of diagram) same_below).indices in (
        found.positive ∙ ap (λ n. positive_index n (entry matrix)) size_is ∙ alike.positive,
        found.negative ∙ ap (λ n. negative_index n (entry matrix)) size_is ∙ alike.negative,
      )

-- ---- the inverses of the Omegas
module _ (p : Parameters) (sign : Sign) (count : ℕ) where
  pub omega_refused : (common : ℕ) → IsMissing p sign count common → omega_inverse p sign count ≡ Err (NoOmegaInverse sign common)
  omega_refused common h =
      let g = gcd (omega_of p sign) p.modulus in
      let same : g ≡ common = same_from_IsGcd (omega_of p sign) p.modulus g common (gcd_is (omega_of p sign) p.modulus) h.divisor in
      let counted : (count == 0) ≡ false = (let c = h.counted in grind (arith, nat_tests, c)) in
      let other : (g == 1) ≡ false = (let s = h.shared in grind (arith, nat_tests, s, same)) in
      ap (λ b. if b then Ok tt else if g == 1 then Ok tt else Err (NoOmegaInverse sign g)) counted ∙ ap (λ b. if b then Ok tt else Err (NoOmegaInverse sign g)) other ∙ ap (λ c. Err (NoOmegaInverse sign c)) same

  pub omega_exists : ((common : ℕ) → ¬ IsMissing p sign count common) → omega_inverse p sign count ≡ Ok tt
  omega_exists none = counts (count == 0) refl (gcd (omega_of p sign) p.modulus == 1) refl
    where
      g : ℕ
      g = gcd (omega_of p sign) p.modulus

      counts : (b : Bool) → (count == 0) ≡ b → (c : Bool) → (gcd (omega_of p sign) p.modulus == 1) ≡ c → omega_inverse p sign count ≡ Ok tt
      counts true e c f = ap (λ b. if b then Ok tt else if gcd (omega_of p sign) p.modulus == 1 then Ok tt else Err (NoOmegaInverse sign (gcd (omega_of p sign) p.modulus))) e
      counts false e true f =
          ap (λ b. if b then Ok tt else if gcd (omega_of p sign) p.modulus == 1 then Ok tt else Err (NoOmegaInverse sign (gcd (omega_of p sign) p.modulus))) e
          ∙ ap (λ b. if b then Ok tt else Err (NoOmegaInverse sign (gcd (omega_of p sign) p.modulus))) f
      counts false e false f =
          absurd (none (gcd (omega_of p sign) p.modulus) record { counted = grind (arith, nat_tests, e); divisor = gcd_is (omega_of p sign) p.modulus; shared = λ is. absurd (grind (arith, nat_tests, f, is)) })

pub omegas_exist : (p : Parameters) (diagram : FramedDiagram) (plus minus : ℕ) → plus ≡ plus_count diagram → minus ≡ minus_count diagram →
    ((common : ℕ) → ¬ IsMissing p Plus plus common) → ((common : ℕ) → ¬ IsMissing p Minus minus common) → omega_inverses p diagram ≡ Ok tt
omegas_exist p diagram plus minus plus_is minus_is none none_minus =
    ap₂ result_and (ap (omega_inverse p Plus) (sym plus_is) ∙ omega_exists p Plus plus none) (ap (omega_inverse p Minus) (sym minus_is) ∙ omega_exists p Minus minus none_minus)

pub omegas_refused : (p : Parameters) (diagram : FramedDiagram) (plus minus : ℕ) (sign : Sign) (common : ℕ) → plus ≡ plus_count diagram → minus ≡ minus_count diagram →
    IsRefused p plus minus (norms.NoInverse sign common) → omega_inverses p diagram ≡ Err (NoOmegaInverse sign common)
omegas_refused p diagram plus minus Plus common plus_is minus_is h =
    ap (λ r. result_and r (omega_inverse p Minus (minus_count diagram))) (ap (omega_inverse p Plus) (sym plus_is) ∙ omega_refused p Plus plus common h)
omegas_refused p diagram plus minus Minus common plus_is minus_is h =
    ap₂ result_and (ap (omega_inverse p Plus) (sym plus_is) ∙ omega_exists p Plus plus h.0) (ap (omega_inverse p Minus) (sym minus_is) ∙ omega_refused p Minus minus common h.1)

-- a fault of the normalisation has a sign and a divisor
pub norm_is : (fault : NormFault) → (sign : Sign) × (common : ℕ) × (fault ≡ norms.NoInverse sign common)
norm_is (norms.NoInverse sign common) = (sign, common, refl)

-- ---- stage by stage
fails_and : {A : Type 0} (x : Result (Unit {0}) ValueRefusal) (y : Result A ValueRefusal) (fault : ValueFault) → Fails x fault → Fails (result_and x y) fault
fails_and x y (Refused refusal) h = ap (λ z. result_and z y) h
fails_and x y Memory h = tt

fails_valued : (residue : ℕ) (turns : Result ℕ ValueRefusal) (exist : Result (Unit {0}) ValueRefusal) (fault : ValueFault) → Fails turns fault → Fails (valued residue turns exist) fault
fails_valued residue turns exist (Refused refusal) h = ap (λ t. valued residue t exist) h
fails_valued residue turns exist Memory h = tt

fails_same : {A : Type 0} (x y : Result A ValueRefusal) (fault : ValueFault) → x ≡ y → Fails y fault → Fails x fault
fails_same x y (Refused refusal) e h = e ∙ h
fails_same x y Memory e h = tt

and_valued : (first : Result (Unit {0}) ValueRefusal) (residue : ℕ) (turns : Result ℕ ValueRefusal) (exist : Result (Unit {0}) ValueRefusal) →
    result_and first (valued residue turns exist) ≡ valued residue (result_and first turns) exist
and_valued (Ok _) residue turns exist = refl
and_valued (Err refusal) residue turns exist = refl

module _ (next : View → ℕ) (p : Parameters) (diagram : FramedDiagram) where
  pub too_many : (components : ℕ) → components ≡ component_count diagram → HasTooMany p diagram → surgery_value next p diagram ≡ Err (TooMany components)
  too_many components is many =
      let test : nat_lt 65536 (colouring_total p diagram) ≡ true = grind (arith, nat_tests, many) in
      let refused : colouring_count p diagram ≡ Err (TooMany components) = ap (λ b. if b then Err (TooMany (component_count diagram)) else Ok tt) test ∙ ap (λ n. Err (TooMany n)) (sym is) in
      ap (λ z. result_and z (result_and (inertia_range diagram) (result_and (delta_inverses p diagram) (valued (surgery p diagram) (kirby_turns next p diagram) (omega_inverses p diagram))))) refused

  few_pass : (¬ HasTooMany p diagram) → colouring_count p diagram ≡ Ok tt
  few_pass few = cases (nat_lt 65536 (colouring_total p diagram)) refl
    where
      cases : (b : Bool) → nat_lt 65536 (colouring_total p diagram) ≡ b → colouring_count p diagram ≡ Ok tt
      cases true e = absurd (few (grind (arith, nat_tests, e)))
      cases false e = ap (λ b. if b then Err (TooMany (component_count diagram)) else Ok tt) e

  after_count : (¬ HasTooMany p diagram) →
      surgery_value next p diagram ≡ result_and (inertia_range diagram) (result_and (delta_inverses p diagram) (valued (surgery p diagram) (kirby_turns next p diagram) (omega_inverses p diagram)))
  after_count few =
      ap (λ z. result_and z (result_and (inertia_range diagram) (result_and (delta_inverses p diagram) (valued (surgery p diagram) (kirby_turns next p diagram) (omega_inverses p diagram))))) (few_pass few)

  pub no_inertia : (fault : ValueFault) → (¬ HasTooMany p diagram) → Fails (inertia_range diagram) fault → Fails (surgery_value next p diagram) fault
  no_inertia fault few h = fails_same _ _ fault (after_count few) (fails_and (inertia_range diagram) _ fault h)

  after_inertia : (¬ HasTooMany p diagram) → inertia_range diagram ≡ Ok tt →
      surgery_value next p diagram ≡ valued (surgery p diagram) (result_and (delta_inverses p diagram) (kirby_turns next p diagram)) (omega_inverses p diagram)
  after_inertia few range =
      after_count few
      ∙ ap (λ z. result_and z (result_and (delta_inverses p diagram) (valued (surgery p diagram) (kirby_turns next p diagram) (omega_inverses p diagram)))) range
      ∙ and_valued (delta_inverses p diagram) (surgery p diagram) (kirby_turns next p diagram) (omega_inverses p diagram)

  pub no_sum : (fault : ValueFault) → (¬ HasTooMany p diagram) → inertia_range diagram ≡ Ok tt → Fails (result_and (delta_inverses p diagram) (kirby_turns next p diagram)) fault →
      Fails (surgery_value next p diagram) fault
  no_sum fault few range h = fails_same _ _ fault (after_inertia few range) (fails_valued (surgery p diagram) _ (omega_inverses p diagram) fault h)

  after_sum : (turns : ℕ) → (¬ HasTooMany p diagram) → inertia_range diagram ≡ Ok tt → result_and (delta_inverses p diagram) (kirby_turns next p diagram) ≡ Ok turns →
      surgery_value next p diagram ≡ result_and (omega_inverses p diagram) (Ok (record { residue = surgery p diagram; turns = turns }))
  after_sum turns few range swept = after_inertia few range ∙ ap (λ t. valued (surgery p diagram) t (omega_inverses p diagram)) swept

  pub no_omega : (fault : ValueFault) (turns : ℕ) → (¬ HasTooMany p diagram) → inertia_range diagram ≡ Ok tt → result_and (delta_inverses p diagram) (kirby_turns next p diagram) ≡ Ok turns →
      Fails (omega_inverses p diagram) fault → Fails (surgery_value next p diagram) fault
  no_omega fault turns few range swept h = fails_same _ _ fault (after_sum turns few range swept) (fails_and (omega_inverses p diagram) _ fault h)

  pub is_value : (value : Value) (turns : ℕ) → (¬ HasTooMany p diagram) → inertia_range diagram ≡ Ok tt → result_and (delta_inverses p diagram) (kirby_turns next p diagram) ≡ Ok turns →
      omega_inverses p diagram ≡ Ok tt → value.residue ≡ surgery p diagram → value.turns ≡ turns → surgery_value next p diagram ≡ Ok value
  is_value value turns few range swept exist residue_is turns_is =
      after_sum turns few range swept
      ∙ ap (λ z. result_and z (Ok (record { residue = surgery p diagram; turns = turns }))) exist
      ∙ ap₂ (λ r t. Ok (record { residue = r; turns = t })) (sym residue_is) (sym turns_is)

  -- a result of the last call, as that of the whole
  pub gives : (result : Result Value ValueFault) (turns : ℕ) → (¬ HasTooMany p diagram) → inertia_range diagram ≡ Ok tt → result_and (delta_inverses p diagram) (kirby_turns next p diagram) ≡ Ok turns →
      IfOk result (λ value. value.residue ≡ surgery p diagram) → IfOk result (λ value. value.turns ≡ turns) → OnOk result (omega_inverses p diagram ≡ Ok tt) → IfErr result (Fails (omega_inverses p diagram)) →
      Gives (surgery_value next p diagram) result
  gives (Ok value) turns few range swept residue_is turns_is exist refused = is_value value turns few range swept exist residue_is turns_is
  gives (Err fault) turns few range swept residue_is turns_is exist refused = no_omega fault turns few range swept refused
