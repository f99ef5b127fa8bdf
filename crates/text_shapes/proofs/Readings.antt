-- Readers put together: what is readable behind a part is readable with it, and what is readable from each
-- place is a text of one value, or of none. So a shape whose parts are readable has exactly one reading of
-- each input.
--
--     through                     behind a step
--     token_readable              a token before each value
--     then_readable               a mark behind each value
--     text_read                   all the bytes
--     read_unique                 so they are a text of at most one value
use Rattle.std.proofs.Common.{inl, inr, ◌≡◌, ℕ, false, List, [], ◌∷◌, ◌++◌, sym, ◌∙◌, arith}
use Rattle.text_shapes.specs.Tokens.{is_space}
use Rattle.text_shapes.specs.Reach.{AreTokens, IsToken, is_word_byte}
use Rattle.text_shapes.specs.Readers.{IsReadable, LeadsTo, TextRead, ValueRead}
use Rattle.text_shapes.specs.Shapes.{IsText}
use Rattle.text_shapes.proofs.Chain.{LeadsTo-found, LeadsTo-missed, found_accepts, found_refuses, missed_refuses, then_falls, then_found, then_missed, token_falls, token_stands}
use Rattle.text_shapes.proofs.Scanning.{end_read, word_read}
use Rattle.text_shapes.proofs.Whole.{accepted_only, refused_none}

pub through : {A W : Type 0} (fits_a : A → Type 0) (F : A → List (List ℕ)) (fits_w : W → Type 0) (G : W → List (List ℕ)) (e : W → A) (bytes : List ℕ) (a b : ℕ)
    → LeadsTo fits_a F fits_w G e bytes a b → ValueRead fits_w G bytes b → ValueRead fits_a F bytes a
through fits_a F fits_w G e bytes a b l read = elim read [
  | inl found ↦ inl (e found.0, found.1, LeadsTo-found fits_a F fits_w G e bytes a b found.1 found.0 l found.2)
  | inr missed ↦ inr (missed.0, LeadsTo-missed fits_a F fits_w G e bytes a b missed.0 l missed.1)
]

pub token_readable : {V : Type 0} (fits : V → Type 0) (t : List ℕ) (G : V → List (List ℕ)) → IsToken t → (v : V) → fits v → IsReadable fits G → IsReadable fits (λ v. t ∷ G v)
token_readable fits t G token v h reads bytes at le = elim (word_read bytes at t token le) [
  | inl s ↦ through fits (λ w. t ∷ G w) fits G (λ w. w) bytes at s.0 (token_stands fits t G bytes at s.0 token s.1) (reads bytes s.0 s.1.within)
  | inr falls ↦ inr (falls.0, token_falls fits t G bytes at falls.0 v h falls.1)
]

pub then_readable : {V : Type 0} (fits : V → Type 0) (F : V → List (List ℕ)) (c : ℕ) → is_space c ≡ false → is_word_byte c ≡ false → IsReadable fits F → IsReadable fits (λ v. F v ++ (c ∷ []) ∷ [])
then_readable fits F c no_space mark reads bytes at le = elim (reads bytes at le) [
  | inr missed ↦ inr (missed.0, then_missed fits F c no_space mark bytes at missed.0 missed.1)
  | inl found ↦ elim (word_read bytes found.1 (c ∷ []) no_space found.2.within) [
    | inl s ↦ inl (found.0, s.0, then_found fits F c no_space mark bytes at found.0 found.1 s.0 found.2 s.1)
    | inr falls ↦ inr (falls.0, then_falls fits F c no_space mark bytes at found.0 found.1 falls.0 found.2 falls.1)
  ]
]

-- what is readable from each place is, of all the bytes
pub text_read : {V : Type 0} (fits : V → Type 0) (tokens : V → List (List ℕ)) → IsReadable fits tokens → (bytes : List ℕ) → TextRead fits tokens bytes
text_read fits tokens reads bytes =
    elim (reads bytes 0 (omega arith)) [
      | inr missed ↦ inr (missed.0, missed_refuses fits tokens bytes missed.0 missed.1)
      | inl found ↦ elim (end_read bytes found.1 found.2.within) [
        | inl e ↦ inl (found.0, found_accepts fits tokens bytes found.0 found.1 found.2 e)
        | inr rest ↦ inr (rest.0, found_refuses fits tokens bytes found.0 found.1 rest.0 found.2 rest.1 rest.2)
      ]
    ]

-- EACH INPUT IS A TEXT OF AT MOST ONE VALUE
module _ {V : Type 0} (fits : V → Type 0) (tokens : V → List (List ℕ)) (good : (v : V) → fits v → AreTokens (tokens v)) (bytes : List ℕ) (read : TextRead fits tokens bytes) where
  pub read_unique : (x y : V) → IsText fits tokens bytes x → IsText fits tokens bytes y → x ≡ y
  read_unique x y s t = elim read [
    | inl text ↦ accepted_only fits tokens good bytes text.0 x text.1 s ∙ sym (accepted_only fits tokens good bytes text.0 y text.1 t)
    | inr stop ↦ absurd (refused_none fits tokens good bytes stop.0 x stop.1 s)
  ]
