-- A step stands where the call of its head does, and none with this head does where that is missed; so steps
-- are readable.
use Rattle.std.proofs.Common.{inl, inr, ℕ, max, codes, List, [], ◌∷◌, refl, arith}
use Rattle.text_shapes.specs.Tokens.{is_space}
use Rattle.text_shapes.specs.Reach.{AreTokens}
use Rattle.text_shapes.specs.Readers.{Found, IsReadable, Missed, OtherHeadsStop}
use Rattle.text_shapes.specs.Shapes.{AreOf, call}
use Rattle.text_shapes.proofs.Choice.{Among, Makes, all_missed, both_missed, choice_found, choice_missed}
use Rattle.text_shapes.proofs.Choosing.{IsHead, choice_readable}
use Rattle.text_shapes.proofs.TokenLists.{arguments-tokens}
use Rattle.text_shapes.proofs.Words.{IsWord-token}
use Rattle.script_reader.specs.declared.argument.StepArgument.{StepArgument}
use Rattle.script_reader.specs.declared.step.Step.{Step}
use Rattle.script_reader.specs.StepTexts.{IsArgumentOf, IsStepOf, IsTextArgument, IsTextStep, argument_tokens, arguments_of, head, step_tokens}
use Rattle.script_reader.proofs.SignArguments.{argument_are_tokens, argument_readable, has_some_argument}
use Rattle.script_reader.proofs.StepCalls.{all_heads, blow_up_word, curl_undo_word, curl_word, heads, makes_blow_up, makes_curl, makes_curl_undo, makes_r2, makes_r2_undo, makes_r3, makes_slide, r2_undo_word, r2_word, r3_word, slide_word, slots_of, step_calls, step_of}

abbrev StepsAmong : List (List ℕ) → Step → Type 0
StepsAmong = Among argument_tokens IsArgumentOf IsTextStep step_tokens slots_of step_of head

abbrev pub MakesStep : List ℕ → Type 0
MakesStep h = Makes argument_tokens IsArgumentOf IsTextStep step_tokens slots_of step_of head h

module _ (bytes : List ℕ) (at : ℕ) where
  pub step_found : (h : List ℕ) → MakesStep h → (all : List StepArgument) (next : ℕ)
      → Found (AreOf IsArgumentOf (slots_of h)) (call argument_tokens h) bytes at all next → OtherHeadsStop argument_tokens bytes at h next → Found IsTextStep step_tokens bytes at (step_of h all) next
  step_found h makes all next f stops = choice_found argument_tokens IsArgumentOf IsTextStep step_tokens slots_of step_of head arguments_of step_calls bytes at h makes all next f stops

  pub step_missed : (h : List ℕ) → MakesStep h → (p : ℕ)
      → Missed (AreOf IsArgumentOf (slots_of h)) (call argument_tokens h) bytes at p → Missed (IsStepOf h) step_tokens bytes at p
  step_missed h makes p m =
      let q = choice_missed argument_tokens IsArgumentOf IsTextStep step_tokens slots_of step_of head arguments_of step_calls bytes at h makes p m in
      record {
        within = q.within;
        furthest = q.furthest;
        fits_shape = (elim q.fits_shape.0 [ inl e ↦ e | inr none ↦ absurd none ], q.fits_shape.1);
        reached = q.reached;
        most = λ v more fits_v. q.most v more (inl fits_v.0, fits_v.1);
      }

  among_one : (h : List ℕ) (p : ℕ) → Missed (IsStepOf h) step_tokens bytes at p → Missed (StepsAmong (h ∷ [])) step_tokens bytes at p
  among_one h p m = record {
    within = m.within;
    furthest = m.furthest;
    fits_shape = (inl m.fits_shape.0, m.fits_shape.1);
    reached = m.reached;
    most = λ v more fits_v. elim fits_v.0 [ inl e ↦ m.most v more (e, fits_v.1) | inr none ↦ absurd none ];
  }

  one_more : (hs : List (List ℕ)) (h : List ℕ) (p q : ℕ) → Missed (StepsAmong hs) step_tokens bytes at p → Missed (IsStepOf h) step_tokens bytes at q → Missed (StepsAmong (h ∷ hs)) step_tokens bytes at (max p q)
  one_more hs h p q m n = both_missed argument_tokens IsArgumentOf IsTextStep step_tokens slots_of step_of head arguments_of step_calls bytes at hs h p q m (among_one h q n)

  -- WHERE NONE OF THE SEVEN STANDS, NO STEP DOES
  pub no_step : (a b c d e f g : ℕ) → Missed (IsStepOf (codes "R2")) step_tokens bytes at a → Missed (IsStepOf (codes "R2Undo")) step_tokens bytes at b → Missed (IsStepOf (codes "R3")) step_tokens bytes at c
      → Missed (IsStepOf (codes "Curl")) step_tokens bytes at d → Missed (IsStepOf (codes "CurlUndo")) step_tokens bytes at e → Missed (IsStepOf (codes "BlowUp")) step_tokens bytes at f
      → Missed (IsStepOf (codes "Slide")) step_tokens bytes at g → Missed IsTextStep step_tokens bytes at (max (max (max (max (max (max a b) c) d) e) f) g)
  no_step a b c d e f g ma mb mc md me mf mg =
      let one = among_one (codes "R2") a ma in
      let two = one_more (codes "R2" ∷ []) (codes "R2Undo") a b one mb in
      let three = one_more (codes "R2Undo" ∷ codes "R2" ∷ []) (codes "R3") (max a b) c two mc in
      let four = one_more (codes "R3" ∷ codes "R2Undo" ∷ codes "R2" ∷ []) (codes "Curl") (max (max a b) c) d three md in
      let five = one_more (codes "Curl" ∷ codes "R3" ∷ codes "R2Undo" ∷ codes "R2" ∷ []) (codes "CurlUndo") (max (max (max a b) c) d) e four me in
      let six = one_more (codes "CurlUndo" ∷ codes "Curl" ∷ codes "R3" ∷ codes "R2Undo" ∷ codes "R2" ∷ []) (codes "BlowUp") (max (max (max (max a b) c) d) e) f five mf in
      let seven = one_more (codes "BlowUp" ∷ codes "CurlUndo" ∷ codes "Curl" ∷ codes "R3" ∷ codes "R2Undo" ∷ codes "R2" ∷ []) (codes "Slide") (max (max (max (max (max a b) c) d) e) f) g six mg in
      all_missed argument_tokens IsArgumentOf IsTextStep step_tokens slots_of step_of head arguments_of step_calls bytes at heads (max (max (max (max (max (max a b) c) d) e) f) g) all_heads seven

abbrev StepHead : List ℕ → Type 0
StepHead = IsHead argument_tokens IsArgumentOf IsTextStep step_tokens slots_of step_of head arguments_of step_calls has_some_argument argument_readable

-- A STEP IS READABLE
pub step_readable : IsReadable IsTextStep step_tokens
step_readable =
    choice_readable argument_tokens IsArgumentOf IsTextStep step_tokens slots_of step_of head arguments_of step_calls has_some_argument argument_readable
    (codes "Slide") (codes "BlowUp" ∷ codes "CurlUndo" ∷ codes "Curl" ∷ codes "R3" ∷ codes "R2Undo" ∷ codes "R2" ∷ [])
    (record { word = slide_word; makes = makes_slide; some = omega arith }) (
      record { word = blow_up_word; makes = makes_blow_up; some = omega arith },
      (
        record { word = curl_undo_word; makes = makes_curl_undo; some = omega arith },
        (
          record { word = curl_word; makes = makes_curl; some = omega arith },
          (
            record { word = r3_word; makes = makes_r3; some = omega arith },
            (
              record { word = r2_undo_word; makes = makes_r2_undo; some = omega arith },
              (record { word = r2_word; makes = makes_r2; some = omega arith }, tt),
            ),
          ),
        ),
      ),
    )
    all_heads

-- AND OF TOKENS
pub step_are_tokens : (step : Step) → IsTextStep step → AreTokens (step_tokens step)
unfolding is_space
step_are_tokens step h = (IsWord-token (head step) (step_calls.word step), arguments-tokens argument_tokens IsTextArgument argument_are_tokens (codes "[") (arguments_of step) refl h)
