-- The diagrams of a script, where it is known what each step makes of one: they follow from one another, and behind the first k steps
-- stands the k-th of them.
use Rattle.std.proofs.Common.{◌≡◌, ◌∙◌, ℕ, suc, ◌+◌, List, [], ◌∷◌, ◌++◌, length, map, slice_index_or, Result, Ok, refl, sym, ap, subst}
use Rattle.std.specs.List.{AllByRecursion}
use Rattle.script_reader.specs.declared.step.Step.{Step}
use Rattle.script_values.specs.declared.drawing.Drawing.{Drawing}
use Rattle.script_values.specs.declared.fault.ScriptRefusal.{ScriptRefusal}
use Rattle.script_values.specs.Drawings.{made}
use Rattle.script_values.specs.Scripts.{behind, stepped, drawings}
use Rattle.script_lines.proofs.Accepted.{after_Ok, behind_Ok}

module _ {D : Type 0} (IsStep : D → Step → D → Type 0) where
  abbrev pub Follow : D → List Step → List D → Type 0
  Follow first [] diagrams = diagrams ≡ first ∷ []
  Follow first (step ∷ steps) diagrams = (next : D) × (rest : List D) × IsStep first step next × (diagrams ≡ first ∷ rest) × Follow next steps rest

  follow_from : (first : D) (steps : List Step) (diagrams : List D) → Follow first steps diagrams → (rest : List D) × (diagrams ≡ first ∷ rest)
  follow_from first [] diagrams h = ([], h)
  follow_from first (step ∷ steps) diagrams h = (h.1, h.3)

  -- ---- the drawings of a script are such diagrams
  pub record AreFollowing (of : D → Drawing) (first : D) (steps : List Step) (all : List Drawing) : Type 0 where
    pub diagrams : List D
    pub are_all : all ≡ map of diagrams
    pub follow : Follow first steps diagrams

  pub are_following : (of : D → Drawing) → ((k : ℕ) (last : D) (step : Step) (next : Drawing) → stepped k (of last) (made (of last) step) ≡ Ok next → (after : D) × IsStep last step after × (next ≡ of after)) →
      (k : ℕ) (first : D) (steps : List Step) (all : List Drawing) → drawings k (of first) steps ≡ Ok all → AreFollowing of first steps all
  are_following of given k first [] all h =
      let e : ◌≡◌ {A = Result (List Drawing) ScriptRefusal} (Ok (of first ∷ [])) (Ok all) = h in record { diagrams = first ∷ []; are_all = cc; follow = refl }
  are_following of given k first (step ∷ steps) all h =
      let a = after_Ok (stepped k (of first) (made (of first) step)) (λ next. behind (of first) (drawings (k + 1) next steps)) all h in
      let b = given k first step a.0 a.1 in
      let c = behind_Ok (of first) (drawings (k + 1) a.0 steps) all a.2 in
      let rest = are_following of given (k + 1) b.0 steps c.0 (ap (λ drawing. drawings (k + 1) drawing steps) (sym b.2) ∙ c.1) in
      record {
        diagrams = first ∷ rest.diagrams;
        are_all = c.2 ∙ ap (λ others. of first ∷ others) rest.are_all;
        follow = (b.0, rest.diagrams, b.1, refl, rest.follow);
      }

  -- ---- at a step
  module _ (Starts : D → List Step → Type 0) (again : (last next : D) (step : Step) (steps : List Step) → Starts last (step ∷ steps) → IsStep last step next → Starts next steps)
      (value : D → ℕ) (Has : D → Type 0) where
    -- what stands before and after the step behind the first k
    pub record AtStep (k : ℕ) (step : Step) (behind : List Step) (diagrams : List D) : Type 0 where
      pub last : D
      pub next : D
      pub is_step : IsStep last step next
      pub starts : Starts last (step ∷ behind)
      pub last_is : (other : D) → slice_index_or diagrams k other ≡ last
      pub last_value : slice_index_or (map value diagrams) k 0 ≡ value last
      pub next_value : slice_index_or (map value diagrams) (suc k) 0 ≡ value next
      pub next_has : Has next

    pub at_step : (first : D) (before behind : List Step) (step : Step) (diagrams : List D) → Starts first (before ++ step ∷ behind) → Follow first (before ++ step ∷ behind) diagrams →
        AllByRecursion Has diagrams → AtStep (length before) step behind diagrams
    at_step first [] behind step diagrams starts h have =
        let more = follow_from h.0 behind h.1 h.4 in
        let all : diagrams ≡ first ∷ h.0 ∷ more.0 = h.3 ∙ ap (λ rest. first ∷ rest) more.1 in
        record {
          last = first;
          next = h.0;
          is_step = h.2;
          starts = starts;
          last_is = λ other. ap (λ ds. slice_index_or ds 0 other) all;
          last_value = ap (λ ds. slice_index_or (map value ds) 0 0) all;
          next_value = ap (λ ds. slice_index_or (map value ds) 1 0) all;
          next_has = (subst (AllByRecursion Has) all have).1.0;
        }
    at_step first (other ∷ before) behind step diagrams starts h have =
        let rest = at_step h.0 before behind step h.1 (again first h.0 other (before ++ step ∷ behind) starts h.2) h.4 (subst (AllByRecursion Has) h.3 have).1 in
        record {
          last = rest.last;
          next = rest.next;
          is_step = rest.is_step;
          starts = rest.starts;
          last_is = λ other. ap (λ ds. slice_index_or ds (suc (length before)) other) h.3 ∙ rest.last_is other;
          last_value = ap (λ ds. slice_index_or (map value ds) (suc (length before)) 0) h.3 ∙ rest.last_value;
          next_value = ap (λ ds. slice_index_or (map value ds) (suc (suc (length before))) 0) h.3 ∙ rest.next_value;
          next_has = rest.next_has;
        }
