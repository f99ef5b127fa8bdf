-- What the numbers of a command come to, from what the making of parameters says.
use Rattle.std.proofs.Common.{◌≡◌, ◌<◌, ◌^◌, ◌-◌, ◌∙◌, ℕ, min, Option, Some, None, Result, Ok, Err, refl, ap, subst, arith}
use Rattle.std.specs.Result.{OkIff, result_unwrap_or}
use Rattle.root_quantum.specs.Parameters.{Parameters, IsParameters}
use Rattle.root_quantum.specs.Refusals.{IsRefused, refusal}
use Rattle.root_quantum.proofs.RefusalProofs.{accepted_law, refused_law}
use Rattle.root_quantum.proofs.EqualParameters.{equal_parameters_law}
use Rattle.root_quantum.specs.declared.form.Form.{Form}
use Rattle.root_quantum.specs.declared.fault.ParamFault.{ParamFault}
use Rattle.wrt_request.specs.declared.request.Numbers.{Numbers}
use Rattle.wrt_commands.specs.declared.parameters_refusal.ParametersRefusal.{ParametersRefusal}
use Rattle.wrt_commands.specs.Parameters.{level_of, against_parameters, judged, parameters_of}

-- the level that is read: R, and past 32 bits the greatest number of 32 bits
pub level_law : {E : Type 0} (t : Result ℕ E) (level : ℕ) → OkIff t (level < 4294967296) level → result_unwrap_or t 4294967295 ≡ min level (2 ^ 32 - 1)
level_law (Ok x) level h = h.1 ∙ omega (arith, h.0)
level_law (Err e) level h = omega (arith, h)

made_at : (form : Form) (p : Parameters) → p.form ≡ form → (judgement : Option ParamFault) (is : refusal form p.modulus p.root p.level ≡ judgement) → Ok p ≡ judged form p.modulus p.root p.level judgement is
made_at form p same None is =
    let q : Parameters = record { modulus = p.modulus; root = p.root; level = p.level; form = form; meets = (accepted_law form p.modulus p.root p.level).1 is } in
    ap Ok ((equal_parameters_law p q).1 (refl, refl, refl, same))
made_at form p same (Some fault) is =
    let none = (accepted_law form p.modulus p.root p.level).0 (subst (λ (k : Form). IsParameters k p.modulus p.root p.level) same p.meets) in absurd (cc)

module _ (form : Form) where
  abbrev at : ℕ → ℕ → ℕ → Result Parameters ParametersRefusal
  at m a r = judged form m a r (refusal form m a r) refl

  -- parameters of these numbers are what the numbers come to
  pub made_law : (numbers : Numbers) (p : Parameters) → p.modulus ≡ numbers.modulus → p.root ≡ numbers.root → p.level ≡ level_of numbers → p.form ≡ form → Ok p ≡ parameters_of form numbers
  unfolding parameters_of
  made_law numbers p m a r same =
      made_at form p same (refusal form p.modulus p.root p.level) refl
      ∙ ap (λ x. at x p.root p.level) m
      ∙ ap (λ x. at numbers.modulus x p.level) a
      ∙ ap (at numbers.modulus numbers.root) r

  refused_at : (m a r : ℕ) (fault : ParamFault) → IsRefused form m a r fault → (judgement : Option ParamFault) (is : refusal form m a r ≡ judgement)
      → Err (against_parameters form r fault) ≡ judged form m a r judgement is
  refused_at m a r fault h None is = let some = (refused_law form m a r fault).0 h in absurd (cc)
  refused_at m a r fault h (Some other) is =
      let some = (refused_law form m a r fault).0 h in
      let same : fault ≡ other = cc in
      ap (λ f. Err (against_parameters form r f)) same

  -- and refused ones come to their fault
  pub refused_parameters : (numbers : Numbers) (fault : ParamFault) → IsRefused form numbers.modulus numbers.root (level_of numbers) fault
      → Err (against_parameters form (level_of numbers) fault) ≡ parameters_of form numbers
  unfolding parameters_of
  refused_parameters numbers fault h =
      let m = numbers.modulus in let a = numbers.root in let r = level_of numbers in
      refused_at m a r fault h (refusal form m a r) refl
