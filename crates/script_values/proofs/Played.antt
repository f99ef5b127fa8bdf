-- Scripts as loops play them: what the first steps have given stands before what the others give.
use Rattle.std.proofs.Common.{◌≡◌, ◌∙◌, ℕ, ◌+◌, ◌<◌, ◌≤◌, get_or, length, drop, List, [], ◌∷◌, ◌++◌, ◌⊎◌, inl, inr, Result, Ok, Err, refl, sym, ap, subst, add-one, append-nil}
use Rattle.std.proofs.Math.ListN.{drop_of_length-le}
use Rattle.std.proofs.Math.Seq.{drop-cons}
use Rattle.std.proofs.lemmas.List.{append_assoc}
use Rattle.root_quantum.specs.Parameters.{Parameters}
use Rattle.script_reader.specs.declared.step.Step.{Step}
use Rattle.wrt_values.specs.declared.fault.ValueFault.{ValueFault}
use Rattle.wrt_values.specs.declared.fault.ValueFault.TheVariants as value_faults
use Rattle.wrt_values.specs.declared.fault.ValueRefusal.{ValueRefusal}
use Rattle.wrt_values.specs.declared.value.Value.{Value}
use Rattle.wrt_values.specs.Values.{Fails as ValueFails}
use Rattle.script_values.specs.declared.drawing.Drawing.{Drawing}
use Rattle.script_values.specs.declared.fault.ScriptFault.{ScriptFault}
use Rattle.script_values.specs.declared.fault.ScriptFault.TheVariants.{Refused, Memory}
use Rattle.script_values.specs.declared.fault.ScriptRefusal.{ScriptRefusal}
use Rattle.script_values.specs.declared.step_fault.StepFault.{StepFault}
use Rattle.script_values.specs.declared.step_fault.StepFault.TheVariants as faults
use Rattle.script_values.specs.Drawings.{made, value_in}
use Rattle.script_values.specs.Refusals.{fault_of_step, fault_at_line}
use Rattle.script_values.specs.Scripts.{after, behind, stepped, drawings, at_line, values, Fails}

-- what is there already, before the rest
abbrev pub before : {A : Type 0} → List A → Result (List A) ScriptRefusal → Result (List A) ScriptRefusal
before done (Ok rest) = Ok (done ++ rest)
before done (Err refusal) = Err refusal

before_more : {A : Type 0} (done : List A) (x : A) (rest : Result (List A) ScriptRefusal) → before done (behind x rest) ≡ before (done ++ x ∷ []) rest
before_more done x (Ok rest) = ap Ok (sym (append_assoc done (x ∷ []) rest))
before_more done x (Err refusal) = refl

nothing_before : {A : Type 0} (rest : Result (List A) ScriptRefusal) → before [] rest ≡ rest
nothing_before (Ok rest) = refl
nothing_before (Err refusal) = refl

fails_before : {A : Type 0} (done : List A) (refusal : ScriptRefusal) → before done (Err refusal) ≡ Err refusal
fails_before done refusal = refl

-- a fault of what comes first is one of all
fails_first : {A B : Type 0} (done : List B) (first : Result A ScriptRefusal) (next : A → Result (List B) ScriptRefusal) (fault : ScriptFault) → Fails first fault → Fails (before done (after first next)) fault
fails_first done first next (Refused refusal) h = ap (λ found. before done (after found next)) h
fails_first done first next Memory h = tt

-- a list from a place on
pub dropped : {A : Type 0} (all : List A) (k : ℕ) (other : A) → k < length all → drop k all ≡ get_or all k other ∷ drop (k + 1) all
dropped all k other h = drop-cons all k other h ∙ ap (λ j. get_or all k other ∷ drop j all) (sym (add-one k))

pub dropped_at : {A : Type 0} (all : List A) (k : ℕ) (x : A) → k < length all → x ≡ get_or all k x → drop k all ≡ x ∷ drop (k + 1) all
dropped_at all k x h is = dropped all k x h ∙ ap (λ y. y ∷ drop (k + 1) all) (sym is)

-- ---- steps
-- a step that is refused, or for which memory was wanting
step_fails : (k : ℕ) (last : Drawing) (fault : StepFault) → Fails (stepped k last (Err fault)) (fault_of_step k fault)
step_fails k last (faults.Refused reason) = refl
step_fails k last faults.Memory = tt

made_fails : (k : ℕ) (last : Drawing) (found : Result Drawing StepFault) (fault : StepFault) → (fault ≡ faults.Memory) ⊎ (found ≡ Err fault) → Fails (stepped k last found) (fault_of_step k fault)
made_fails k last found fault (inl memory) = let F : StepFault → Type 0 = λ f. Fails (stepped k last found) (fault_of_step k f) in subst F (sym memory) tt
made_fails k last found fault (inr is) = let F : Result Drawing StepFault → Type 0 = λ f. Fails (stepped k last f) (fault_of_step k fault) in subst F (sym is) (step_fails k last fault)

module _ (k : ℕ) (done : List Drawing) (last : Drawing) (steps rest : List Step) (step : Step) (is : steps ≡ step ∷ rest) where
  abbrev next_drawings : Drawing → Result (List Drawing) ScriptRefusal
  next_drawings next = behind last (drawings (k + 1) next rest)

  -- a step that is made
  pub one_more_step : (next : Drawing) → made last step ≡ Ok next → before done (drawings k last steps) ≡ before (done ++ last ∷ []) (drawings (k + 1) next rest)
  one_more_step next e =
      ap (λ all. before done (drawings k last all)) is ∙ ap (λ found. before done (after (stepped k last found) next_drawings)) e ∙ before_more done last (drawings (k + 1) next rest)

  -- one that is not
  pub no_more_steps : (all : Result (List Drawing) ScriptRefusal) → all ≡ before done (drawings k last steps) → (fault : StepFault) → (fault ≡ faults.Memory) ⊎ (made last step ≡ Err fault)
      → Fails all (fault_of_step k fault)
  no_more_steps all e fault h =
      let F : Result (List Drawing) ScriptRefusal → Type 0 = λ r. Fails r (fault_of_step k fault) in
      subst F (sym (e ∙ ap (λ all. before done (drawings k last all)) is)) (fails_first done (stepped k last (made last step)) next_drawings (fault_of_step k fault) (made_fails k last (made last step) fault h))

-- ---- values
value_fails : (d : ℕ) (found : Result Value ValueRefusal) (fault : ValueFault) → ValueFails found fault → Fails (at_line d found) (fault_at_line d fault)
value_fails d found (value_faults.Refused reason) h = ap (at_line d) h
value_fails d found value_faults.Memory h = tt

module _ (p : Parameters) (d : ℕ) (done : List ℕ) (all rest : List Drawing) (drawing : Drawing) (is : all ≡ drawing ∷ rest) where
  abbrev next_values : ℕ → Result (List ℕ) ScriptRefusal
  next_values residue = behind residue (values p (d + 1) rest)

  -- a diagram that has a value
  pub one_more_value : (value : Value) → value_in p drawing ≡ Ok value → before done (values p d all) ≡ before (done ++ value.residue ∷ []) (values p (d + 1) rest)
  one_more_value value e =
      ap (λ ds. before done (values p d ds)) is ∙ ap (λ found. before done (after (at_line d found) next_values)) e ∙ before_more done value.residue (values p (d + 1) rest)

  -- one that has none
  pub no_more_values : (whole : Result (List ℕ) ScriptRefusal) → whole ≡ before done (values p d all) → (fault : ValueFault) → ValueFails (value_in p drawing) fault → Fails whole (fault_at_line d fault)
  no_more_values whole e fault h =
      let F : Result (List ℕ) ScriptRefusal → Type 0 = λ r. Fails r (fault_at_line d fault) in
      subst F (sym (e ∙ ap (λ ds. before done (values p d ds)) is)) (fails_first done (at_line d (value_in p drawing)) next_values (fault_at_line d fault) (value_fails d (value_in p drawing) fault h))

-- ---- the ends of a loop
pub begins : {A : Type 0} (whole : Result (List A) ScriptRefusal) → whole ≡ before [] whole
begins whole = sym (nothing_before whole)

pub no_steps_left : (whole : Result (List Drawing) ScriptRefusal) (k i : ℕ) (done : List Drawing) (last : Drawing) (steps : List Step) → whole ≡ before done (drawings k last (drop i steps)) → length steps ≤ i
    → whole ≡ Ok (done ++ last ∷ [])
no_steps_left whole k i done last steps e h = e ∙ ap (λ rest. before done (drawings k last rest)) (drop_of_length-le steps h)

pub no_values_left : (whole : Result (List ℕ) ScriptRefusal) (p : Parameters) (d i : ℕ) (done : List ℕ) (all : List Drawing) → whole ≡ before done (values p d (drop i all)) → length all ≤ i → whole ≡ Ok done
no_values_left whole p d i done all e h = e ∙ ap (λ rest. before done (values p d rest)) (drop_of_length-le all h) ∙ ap Ok (append-nil done)
