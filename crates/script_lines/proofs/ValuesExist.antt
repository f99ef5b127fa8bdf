-- Where the surgery value of a framed diagram is computed, it exists: the inverses that it wants are there.
use Rattle.std.proofs.Common.{◌≡◌, ◌∙◌, ℕ, zero, suc, ◌<◌, ◌≤◌, ◌==◌, Bool, true, false, if◌then◌else◌, List, [], ◌∷◌, Result, Ok, Err, All, refl, sym, ap, subst, arith, eqb}
use Rattle.std.specs.Int.{IsGcd}
use Rattle.std.specs.List.{AllByRecursion}
use Rattle.std.specs.Result.{result_and}
use Rattle.std.proofs.lemmas.Bool.Decides.{nat_tests}
use Rattle.std.proofs.lemmas.List.Elements.{All-head, All-tail}
use Rattle.inertia_laws.specs.Fractions.{gcd}
use Rattle.inertia_laws.proofs.Values.{gcd_is}
use Rattle.ring_identities.specs.Powers.{IsInverse}
use Rattle.root_quantum.specs.Parameters.{Parameters}
use Rattle.root_quantum.specs.Colours.{form_colours, greatest_colour}
use Rattle.root_quantum.specs.QuantumNumbers.{delta, loop_value}
use Rattle.root_quantum.proofs.GreatestColours.{greatest_of_colours_law}
use Rattle.strand_algebra.specs.Projectors.{found_projector, inverse_of, quantum_residue}
use Rattle.planar_check.specs.declared.sign.Sign.{Sign}
use Rattle.planar_check.specs.declared.sign.Sign.TheVariants.{Plus, Minus}
use Rattle.planar_check.specs.Framings.{FramedDiagram}
use Rattle.planar_check.specs.Tables.{sign_value}
use Rattle.frontier_laws.specs.Orders.{View}
use Rattle.cables.specs.Nets.{HasProjector}
use Rattle.coloured_values.specs.Surgery.{HasSurgeryValue, component_count, omega_inverse as inverse_in, plus_count, minus_count, surgery}
use Rattle.wenzl_table.specs.Inverses.{AreCoprime, IsFirstCommon}
use Rattle.wenzl_table.proofs.Steps.{delta_is}
use Rattle.kirby_terms.specs.Normalisations.{omega_of}
use Rattle.kirby_terms.proofs.CoprimeInverses.{coprime_inverse, gcd_one, one_gcd}
use Rattle.wrt_values.specs.Inverses.{inverses}
use Rattle.wrt_values.specs.Surgery.{colouring_count, inertia_range, delta_inverses, kirby_turns, omega_inverse, omega_inverses, valued, surgery_value}
use Rattle.wrt_values.specs.declared.fault.ValueRefusal.{ValueRefusal}
use Rattle.wrt_values.specs.declared.fault.ValueRefusal.TheVariants.{NoInverse, NoOmegaInverse}
use Rattle.wrt_values.specs.declared.value.Value.{Value}
use Rattle.wrt_values.proofs.MissingInverses.{inverses_refused}

many : (p : Parameters) → 1 < p.modulus
many p = let low = p.meets.modulus.0 in omega (arith, low)

-- ---- projectors
module _ (p : Parameters) (n : ℕ) (exist : inverses p n ≡ Ok tt) where
  no_first : (index common : ℕ) → IsFirstCommon p n index common → ⊥
  no_first index common first =
      let e : ◌≡◌ {A = Result (Unit {0}) ValueRefusal} (Err (NoInverse index common)) (Ok tt) = sym (inverses_refused p n index common first) ∙ exist in absurd (cc)

  -- the next Delta shares no factor either, else it is the first that does
  next_coprime : (k : ℕ) → k < n → AreCoprime p k → 0 < k → gcd (delta p k) p.modulus ≡ 1
  next_coprime k low before some = cases (gcd (delta p k) p.modulus == 1) refl
    where
      cases : (one : Bool) → (gcd (delta p k) p.modulus == 1) ≡ one → gcd (delta p k) p.modulus ≡ 1
      cases true e = grind (arith, nat_tests, e)
      cases false e =
          absurd
          (no_first k (gcd (delta p k) p.modulus) record { above = some; below = low; divisor = gcd_is (delta p k) p.modulus; shared = λ one. absurd (grind (arith, nat_tests, e, one)); before = before })

  one_more_coprime : (k : ℕ) → k < n → AreCoprime p k → (j : ℕ) → 0 < j → j < suc k → (same : Bool) → eqb j k ≡ same → IsGcd (delta p j) p.modulus 1
  one_more_coprime k low before j some below true e =
      let is : j ≡ k = grind (arith, nat_tests, e) in
      subst (λ (i : ℕ). IsGcd (delta p i) p.modulus 1) (sym is) (one_gcd (delta p k) p.modulus (next_coprime k low before (omega (arith, some, is))))
  one_more_coprime k low before j some below false e = before j some (grind (arith, nat_tests, e, below))

  coprime_up_to : (k : ℕ) → k ≤ n → AreCoprime p k
  coprime_up_to zero low = λ j a b. absurd (omega (arith, b))
  coprime_up_to (suc k) low = λ j some below. one_more_coprime k (omega (arith, low)) (coprime_up_to k (omega (arith, low))) j some below (eqb j k) refl

  pub has_projector : (k : ℕ) → k ≤ n → HasProjector p k
  unfolding found_projector
  has_projector k low = record {
    inverse = λ j. inverse_of p.modulus (quantum_residue p.modulus (loop_value p) j);
    are_inverses = λ j some below.
        let coprime = gcd_one (delta p j) p.modulus (coprime_up_to n (omega arith) j some (omega (arith, low, below))) in
        subst (λ (x : ℕ). IsInverse p.modulus x (inverse_of p.modulus x)) (delta_is p j) (coprime_inverse p.modulus (delta p j) (many p) coprime);
    is = refl;
  }

  pub have_projectors : (colours : List ℕ) → All (λ k. k ≤ n) colours → AllByRecursion (λ k. HasProjector p k) colours
  have_projectors [] low = tt
  have_projectors (k ∷ colours) low = (has_projector k (All-head (λ j. j ≤ n) k colours low), have_projectors colours (All-tail (λ j. j ≤ n) k colours low))

-- ---- the inverses of the Omegas
omega_exists : (p : Parameters) (sign : Sign) (count : ℕ) → omega_inverse p sign count ≡ Ok tt → 0 < count → IsInverse p.modulus (omega_of p sign) (inverse_in p (sign_value sign))
omega_exists p sign count exists some = coprime_inverse p.modulus (omega_of p sign) (many p) (cases (gcd (omega_of p sign) p.modulus == 1) refl)
  where
    g : ℕ
    g = gcd (omega_of p sign) p.modulus

    counted : (count == 0) ≡ false
    counted = grind (arith, nat_tests, some)

    cases : (one : Bool) → (gcd (omega_of p sign) p.modulus == 1) ≡ one → gcd (omega_of p sign) p.modulus ≡ 1
    cases true e = grind (arith, nat_tests, e)
    cases false e =
        let f : ◌≡◌ {A = Result (Unit {0}) ValueRefusal} (Err (NoOmegaInverse sign (gcd (omega_of p sign) p.modulus))) (Ok tt) =
        sym (ap (λ b. if b then Ok tt else Err (NoOmegaInverse sign (gcd (omega_of p sign) p.modulus))) e)
        ∙ sym (ap (λ b. if b then Ok tt else if gcd (omega_of p sign) p.modulus == 1 then Ok tt else Err (NoOmegaInverse sign (gcd (omega_of p sign) p.modulus))) counted)
        ∙ exists in absurd (cc)

-- ---- the stages of a value
pub and_Ok : {A : Type 0} (first : Result (Unit {0}) ValueRefusal) (next : Result A ValueRefusal) (value : A) → result_and first next ≡ Ok value → (first ≡ Ok tt) × (next ≡ Ok value)
and_Ok (Ok _) next value h = (refl, h)
and_Ok (Err refusal) next value h = absurd (cc)

valued_Ok : (residue : ℕ) (turns : Result ℕ ValueRefusal) (exist : Result (Unit {0}) ValueRefusal) (value : Value) → valued residue turns exist ≡ Ok value → (value.residue ≡ residue) × (exist ≡ Ok tt)
valued_Ok residue (Ok turns) (Ok _) value h = (cc, refl)
valued_Ok residue (Ok turns) (Err refusal) value h = absurd (cc)
valued_Ok residue (Err refusal) exist value h = absurd (cc)

deltas_exist : (p : Parameters) (diagram : FramedDiagram) → delta_inverses p diagram ≡ Ok tt → 0 < component_count diagram → inverses p (greatest_colour p) ≡ Ok tt
deltas_exist p diagram exist some =
    let counted : (component_count diagram == 0) ≡ false = grind (arith, nat_tests, some) in sym (ap (λ b. if b then Ok tt else inverses p (greatest_colour p)) counted) ∙ exist

-- A VALUE THAT IS COMPUTED EXISTS, AND IS THE SURGERY VALUE
pub value_exists : (next : View → ℕ) (p : Parameters) (diagram : FramedDiagram) (value : Value) → surgery_value next p diagram ≡ Ok value → (value.residue ≡ surgery p diagram) × HasSurgeryValue p diagram
value_exists next p diagram value h =
    let a = and_Ok (colouring_count p diagram) _ value h in
    let b = and_Ok (inertia_range diagram) _ value a.1 in
    let c = and_Ok (delta_inverses p diagram) _ value b.1 in
    let d = valued_Ok (surgery p diagram) (kirby_turns next p diagram) (omega_inverses p diagram) value c.1 in
    let e = and_Ok (omega_inverse p Plus (plus_count diagram)) (omega_inverse p Minus (minus_count diagram)) tt d.1 in (
      d.0,
      record {
        plus = λ some. omega_exists p Plus (plus_count diagram) e.0 some;
        minus = λ some. omega_exists p Minus (minus_count diagram) e.1 some;
        projectors = λ some. have_projectors p (greatest_colour p) (deltas_exist p diagram c.0 some) (form_colours p) (greatest_of_colours_law p).1;
      },
    )
