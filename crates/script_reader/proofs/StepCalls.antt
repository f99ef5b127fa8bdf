-- A step is one of seven calls, which its head tells apart.
use Rattle.std.proofs.Common.{inl, inr, ◌≡◌, ℕ, cond, codes, List, [], ◌∷◌, get_or, refl, sym, ap, ◌∙◌, subst, arith}
use Rattle.text_shapes.specs.Shapes.{AreOf, call}
use Rattle.text_shapes.specs.Reach.{is_word_byte, IsWord}
use Rattle.text_shapes.proofs.Choice.{AreCalls, Makes, OneOf, same_bytes}
use Rattle.planar_check.specs.declared.sign.Sign.{Sign}
use Rattle.planar_check.specs.declared.sign.Sign.TheVariants as signs
use Rattle.script_reader.specs.declared.argument.StepArgument.{StepArgument}
use Rattle.script_reader.specs.declared.argument.StepArgument.TheVariants as arguments
use Rattle.script_reader.specs.declared.step.Step.{Step}
use Rattle.script_reader.specs.declared.step.Step.TheVariants as steps
use Rattle.script_reader.specs.StepTexts.{IsArgumentOf, IsTextArgument, IsTextStep, argument_tokens, arguments_of, head, step_tokens}

-- the number, or the sign, that an argument is
abbrev pub number_in : StepArgument → ℕ
number_in (arguments.Number n) = n
number_in (arguments.Sign sign) = 0

abbrev pub sign_in : StepArgument → Sign
sign_in (arguments.Number n) = signs.Plus
sign_in (arguments.Sign sign) = sign

abbrev pub number : StepArgument
number = arguments.Number 1

abbrev pub sign : StepArgument
sign = arguments.Sign signs.Plus

-- the argument at i
abbrev pub at : List StepArgument → ℕ → StepArgument
at all i = get_or all i (arguments.Number 0)

-- the kinds of a head's arguments
abbrev pub slots_of : List ℕ → List StepArgument
slots_of h =
    cond (same_bytes h (codes "R2")) (number ∷ number ∷ [])
    (cond (same_bytes h (codes "R2Undo")) (number ∷ number ∷ [])
    (cond (same_bytes h (codes "R3")) (number ∷ number ∷ number ∷ [])
    (cond (same_bytes h (codes "Curl")) (number ∷ sign ∷ [])
    (cond (same_bytes h (codes "CurlUndo")) (number ∷ [])
    (cond (same_bytes h (codes "Slide")) (number ∷ number ∷ [])
    (sign ∷ []))))))

-- the step of a head and its arguments
abbrev pub step_of : List ℕ → List StepArgument → Step
step_of h all =
    cond (same_bytes h (codes "R2")) (steps.R2 (number_in (at all 0)) (number_in (at all 1)))
    (cond (same_bytes h (codes "R2Undo")) (steps.R2Undo (number_in (at all 0)) (number_in (at all 1)))
    (cond (same_bytes h (codes "R3")) (steps.R3 (number_in (at all 0)) (number_in (at all 1)) (number_in (at all 2)))
    (cond (same_bytes h (codes "Curl")) (steps.Curl (number_in (at all 0)) (sign_in (at all 1)))
    (cond (same_bytes h (codes "CurlUndo")) (steps.CurlUndo (number_in (at all 0)))
    (cond (same_bytes h (codes "Slide")) (steps.Slide (number_in (at all 0)) (number_in (at all 1)))
    (steps.BlowUp (sign_in (at all 0))))))))

abbrev pub heads : List (List ℕ)
heads = codes "Slide" ∷ codes "BlowUp" ∷ codes "CurlUndo" ∷ codes "Curl" ∷ codes "R3" ∷ codes "R2Undo" ∷ codes "R2" ∷ []

pub all_heads : (step : Step) → OneOf heads (head step)
all_heads (steps.Slide edge along) = inl refl
all_heads (steps.BlowUp s) = inr (inl refl)
all_heads (steps.CurlUndo crossing) = inr (inr (inl refl))
all_heads (steps.Curl edge s) = inr (inr (inr (inl refl)))
all_heads (steps.R3 first second third) = inr (inr (inr (inr (inl refl))))
all_heads (steps.R2Undo first second) = inr (inr (inr (inr (inr (inl refl)))))
all_heads (steps.R2 over under) = inr (inr (inr (inr (inr (inr (inl refl))))))

pub r2_word : IsWord (codes "R2")
unfolding is_word_byte
r2_word = (omega arith, (refl, (refl, tt)))

pub r2_undo_word : IsWord (codes "R2Undo")
unfolding is_word_byte
r2_undo_word = (omega arith, (refl, (refl, (refl, (refl, (refl, (refl, tt)))))))

pub r3_word : IsWord (codes "R3")
unfolding is_word_byte
r3_word = (omega arith, (refl, (refl, tt)))

pub curl_word : IsWord (codes "Curl")
unfolding is_word_byte
curl_word = (omega arith, (refl, (refl, (refl, (refl, tt)))))

pub curl_undo_word : IsWord (codes "CurlUndo")
unfolding is_word_byte
curl_undo_word = (omega arith, (refl, (refl, (refl, (refl, (refl, (refl, (refl, (refl, tt)))))))))

pub blow_up_word : IsWord (codes "BlowUp")
unfolding is_word_byte
blow_up_word = (omega arith, (refl, (refl, (refl, (refl, (refl, (refl, tt)))))))

pub slide_word : IsWord (codes "Slide")
unfolding is_word_byte
slide_word = (omega arith, (refl, (refl, (refl, (refl, (refl, tt))))))

pub step_calls : AreCalls argument_tokens IsArgumentOf IsTextStep step_tokens slots_of step_of head arguments_of
step_calls = record { word = word; tokens_are = λ _. refl; of_kinds = of_kinds; back_is = back_is }
  where
    word : (v : Step) → IsWord (head v)
    word (steps.R2 over under) = r2_word
    word (steps.R2Undo first second) = r2_undo_word
    word (steps.R3 first second third) = r3_word
    word (steps.Curl edge s) = curl_word
    word (steps.CurlUndo crossing) = curl_undo_word
    word (steps.BlowUp s) = blow_up_word
    word (steps.Slide edge along) = slide_word

    of_kinds : (v : Step) → IsTextStep v → AreOf IsArgumentOf (slots_of (head v)) (arguments_of v)
    of_kinds (steps.R2 over under) h = ((tt, h.0), ((tt, h.1.0), tt))
    of_kinds (steps.R2Undo first second) h = ((tt, h.0), ((tt, h.1.0), tt))
    of_kinds (steps.R3 first second third) h = ((tt, h.0), ((tt, h.1.0), ((tt, h.1.1.0), tt)))
    of_kinds (steps.Curl edge s) h = ((tt, h.0), ((tt, h.1.0), tt))
    of_kinds (steps.CurlUndo crossing) h = ((tt, h.0), tt)
    of_kinds (steps.BlowUp s) h = ((tt, h.0), tt)
    of_kinds (steps.Slide edge along) h = ((tt, h.0), ((tt, h.1.0), tt))

    back_is : (v : Step) → step_of (head v) (arguments_of v) ≡ v
    back_is (steps.R2 over under) = refl
    back_is (steps.R2Undo first second) = refl
    back_is (steps.R3 first second third) = refl
    back_is (steps.Curl edge s) = refl
    back_is (steps.CurlUndo crossing) = refl
    back_is (steps.BlowUp s) = refl
    back_is (steps.Slide edge along) = refl

-- ---- what the arguments of a head are
is_number : (a : StepArgument) → IsArgumentOf number a → arguments.Number (number_in a) ≡ a
is_number (arguments.Number n) h = refl
is_number (arguments.Sign s) h = absurd h.0

is_sign : (a : StepArgument) → IsArgumentOf sign a → arguments.Sign (sign_in a) ≡ a
is_sign (arguments.Number n) h = absurd h.0
is_sign (arguments.Sign s) h = refl

fits_text : (slot a : StepArgument) → IsArgumentOf slot a → IsTextArgument a
fits_text (arguments.Number n) a h = h.1
fits_text (arguments.Sign s) a h = h.1

-- one, two, three arguments
one_of : (k : StepArgument) (all : List StepArgument) → AreOf IsArgumentOf (k ∷ []) all → (a : StepArgument) × (all ≡ a ∷ []) × IsArgumentOf k a
one_of k [] h = absurd h
one_of k (a ∷ []) h = (a, refl, h.0)
one_of k (a ∷ b ∷ rest) h = absurd h.1

two_of : (k l : StepArgument) (all : List StepArgument) → AreOf IsArgumentOf (k ∷ l ∷ []) all → (a b : StepArgument) × (all ≡ a ∷ b ∷ []) × IsArgumentOf k a × IsArgumentOf l b
two_of k l [] h = absurd h
two_of k l (a ∷ rest) h = let r = one_of l rest h.1 in (a, r.0, ap (λ (xs : List StepArgument). a ∷ xs) r.1, h.0, r.2)

three_of : (k l m : StepArgument) (all : List StepArgument) → AreOf IsArgumentOf (k ∷ l ∷ m ∷ []) all → (a b d : StepArgument) × (all ≡ a ∷ b ∷ d ∷ []) × IsArgumentOf k a × IsArgumentOf l b × IsArgumentOf m d
three_of k l m [] h = absurd h
three_of k l m (a ∷ rest) h = let r = two_of l m rest h.1 in (a, r.0, r.1, ap (λ (xs : List StepArgument). a ∷ xs) r.2, h.0, r.3, r.4)

-- two numbers are told by their places
pub pair_is : (all : List StepArgument) (m n : ℕ) → AreOf IsArgumentOf (number ∷ number ∷ []) all → at all 0 ≡ arguments.Number m → at all 1 ≡ arguments.Number n → all ≡ arguments.Number m ∷ arguments.Number n ∷ []
pair_is [] m n h e f = absurd h
pair_is (a ∷ []) m n h e f = absurd h.1
pair_is (a ∷ b ∷ []) m n h e f = ap (λ (x : StepArgument). x ∷ b ∷ []) e ∙ ap (λ (x : StepArgument). arguments.Number m ∷ x ∷ []) f
pair_is (a ∷ b ∷ d ∷ rest) m n h e f = absurd h.1.1

-- the arguments of the step that they make are they
abbrev Back : List ℕ → List StepArgument → Type 0
Back h all = (arguments_of (step_of h all) ≡ all) × IsTextStep (step_of h all)

text_number : (a : StepArgument) → IsArgumentOf number a → IsTextArgument (arguments.Number (number_in a))
text_number a h = subst IsTextArgument (sym (is_number a h)) (fits_text number a h)

text_sign : (a : StepArgument) → IsArgumentOf sign a → IsTextArgument (arguments.Sign (sign_in a))
text_sign a h = subst IsTextArgument (sym (is_sign a h)) (fits_text sign a h)

two_numbers : (a b : StepArgument) → IsArgumentOf number a → IsArgumentOf number b → arguments.Number (number_in a) ∷ arguments.Number (number_in b) ∷ [] ≡ a ∷ b ∷ []
two_numbers a b h k = rw (is_number a h, is_number b k) refl

three_numbers : (a b d : StepArgument) → IsArgumentOf number a → IsArgumentOf number b → IsArgumentOf number d →
    arguments.Number (number_in a) ∷ arguments.Number (number_in b) ∷ arguments.Number (number_in d) ∷ [] ≡ a ∷ b ∷ d ∷ []
three_numbers a b d h k l = rw (is_number a h, is_number b k, is_number d l) refl

number_and_sign : (a b : StepArgument) → IsArgumentOf number a → IsArgumentOf sign b → arguments.Number (number_in a) ∷ arguments.Sign (sign_in b) ∷ [] ≡ a ∷ b ∷ []
number_and_sign a b h k = rw (is_number a h, is_sign b k) refl

back_r2 : (all : List StepArgument) → AreOf IsArgumentOf (number ∷ number ∷ []) all → Back (codes "R2") all
back_r2 all h = let r = two_of number number all h in rw r.2 ((two_numbers r.0 r.1 r.3 r.4, (text_number r.0 r.3, (text_number r.1 r.4, tt))))

back_r2_undo : (all : List StepArgument) → AreOf IsArgumentOf (number ∷ number ∷ []) all → Back (codes "R2Undo") all
back_r2_undo all h = let r = two_of number number all h in rw r.2 ((two_numbers r.0 r.1 r.3 r.4, (text_number r.0 r.3, (text_number r.1 r.4, tt))))

back_r3 : (all : List StepArgument) → AreOf IsArgumentOf (number ∷ number ∷ number ∷ []) all → Back (codes "R3") all
back_r3 all h =
    let r = three_of number number number all h in
    rw r.3 ((three_numbers r.0 r.1 r.2 r.4 r.5 r.6, (text_number r.0 r.4, (text_number r.1 r.5, (text_number r.2 r.6, tt)))))

back_curl : (all : List StepArgument) → AreOf IsArgumentOf (number ∷ sign ∷ []) all → Back (codes "Curl") all
back_curl all h = let r = two_of number sign all h in rw r.2 ((number_and_sign r.0 r.1 r.3 r.4, (text_number r.0 r.3, (text_sign r.1 r.4, tt))))

back_curl_undo : (all : List StepArgument) → AreOf IsArgumentOf (number ∷ []) all → Back (codes "CurlUndo") all
back_curl_undo all h = let r = one_of number all h in rw r.1 ((ap (λ (x : StepArgument). x ∷ []) (is_number r.0 r.2), (text_number r.0 r.2, tt)))

back_blow_up : (all : List StepArgument) → AreOf IsArgumentOf (sign ∷ []) all → Back (codes "BlowUp") all
back_blow_up all h = let r = one_of sign all h in rw r.1 ((ap (λ (x : StepArgument). x ∷ []) (is_sign r.0 r.2), (text_sign r.0 r.2, tt)))

back_slide : (all : List StepArgument) → AreOf IsArgumentOf (number ∷ number ∷ []) all → Back (codes "Slide") all
back_slide all h = let r = two_of number number all h in rw r.2 ((two_numbers r.0 r.1 r.3 r.4, (text_number r.0 r.3, (text_number r.1 r.4, tt))))

abbrev MakesStep : List ℕ → Type 0
MakesStep h = Makes argument_tokens IsArgumentOf IsTextStep step_tokens slots_of step_of head h

pub makes_r2 : MakesStep (codes "R2")
makes_r2 = record { head_is = λ all h. refl; fits_back = λ all h. (back_r2 all h).1; tokens_back = λ all h. ap (call argument_tokens (codes "R2")) (back_r2 all h).0 }

pub makes_r2_undo : MakesStep (codes "R2Undo")
makes_r2_undo = record { head_is = λ all h. refl; fits_back = λ all h. (back_r2_undo all h).1; tokens_back = λ all h. ap (call argument_tokens (codes "R2Undo")) (back_r2_undo all h).0 }

pub makes_r3 : MakesStep (codes "R3")
makes_r3 = record { head_is = λ all h. refl; fits_back = λ all h. (back_r3 all h).1; tokens_back = λ all h. ap (call argument_tokens (codes "R3")) (back_r3 all h).0 }

pub makes_curl : MakesStep (codes "Curl")
makes_curl = record { head_is = λ all h. refl; fits_back = λ all h. (back_curl all h).1; tokens_back = λ all h. ap (call argument_tokens (codes "Curl")) (back_curl all h).0 }

pub makes_curl_undo : MakesStep (codes "CurlUndo")
makes_curl_undo = record { head_is = λ all h. refl; fits_back = λ all h. (back_curl_undo all h).1; tokens_back = λ all h. ap (call argument_tokens (codes "CurlUndo")) (back_curl_undo all h).0 }

pub makes_blow_up : MakesStep (codes "BlowUp")
makes_blow_up = record { head_is = λ all h. refl; fits_back = λ all h. (back_blow_up all h).1; tokens_back = λ all h. ap (call argument_tokens (codes "BlowUp")) (back_blow_up all h).0 }

pub makes_slide : MakesStep (codes "Slide")
makes_slide = record { head_is = λ all h. refl; fits_back = λ all h. (back_slide all h).1; tokens_back = λ all h. ap (call argument_tokens (codes "Slide")) (back_slide all h).0 }
