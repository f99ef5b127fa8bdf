-- A value that is one of several calls is readable where the arguments are: each head is tried in turn, by the
-- lemmas of Choice.
use Rattle.std.proofs.Common.{inl, inr, ◌⊎◌, ℕ, ◌<◌, ◌≤◌, max, List, [], ◌∷◌, length}
use Rattle.std.specs.List.{AllByRecursion}
use Rattle.text_shapes.specs.Reach.{IsWord}
use Rattle.text_shapes.specs.Readers.{Found, IsReadable, Missed}
use Rattle.text_shapes.proofs.Arguments.{HasSome}
use Rattle.text_shapes.proofs.Calling.{call_read}
use Rattle.text_shapes.proofs.Choice.{Among, AreCalls, Makes, OneOf, all_missed, both_missed, choice_found, choice_missed}

module _ {V K A : Type 0} (argument : A → List (List ℕ)) (fits : K → A → Type 0) (fits_value : V → Type 0) (tokens : V → List (List ℕ)) (slots : List ℕ → List K) (back : List ℕ → List A → V)
    (head : V → List ℕ) (arguments_of : V → List A) (calls : AreCalls argument fits fits_value tokens slots back head arguments_of)
    (has_some : HasSome fits) (reads : (k : K) → IsReadable (fits k) argument) where
  -- what is to be known of each head
  pub record IsHead (h : List ℕ) : Type 0 where
    pub word : IsWord h
    pub makes : Makes argument fits fits_value tokens slots back head h
    pub some : 0 < length (slots h)

  -- one of the heads stands, or none does
  abbrev Chosen : List ℕ → ℕ → List (List ℕ) → Type 0
  Chosen bytes at hs = ((v : V) × (next : ℕ) × Found fits_value tokens bytes at v next) ⊎ ((p : ℕ) × Missed (Among argument fits fits_value tokens slots back head hs) tokens bytes at p)

  one_read : (bytes : List ℕ) (at : ℕ) → at ≤ length bytes → (h : List ℕ) → IsHead h → Chosen bytes at (h ∷ [])
  one_read bytes at le h is = elim (call_read argument fits has_some reads bytes at h is.word (slots h) is.some le) [
    | inl found ↦ inl (back h found.0, found.1, choice_found argument fits fits_value tokens slots back head arguments_of calls bytes at h is.makes found.0 found.1 found.2 found.3)
    | inr missed ↦ inr (missed.0, choice_missed argument fits fits_value tokens slots back head arguments_of calls bytes at h is.makes missed.0 missed.1)
  ]

  each_read : (bytes : List ℕ) (at : ℕ) → at ≤ length bytes → (h : List ℕ) (hs : List (List ℕ)) → IsHead h → AllByRecursion IsHead hs → Chosen bytes at (h ∷ hs)
  each_read bytes at le h [] is are = one_read bytes at le h is
  each_read bytes at le h (g ∷ hs) is are = elim (one_read bytes at le h is) [
    | inl found ↦ inl found
    | inr missed ↦ elim (each_read bytes at le g hs are.0 are.1) [
      | inl found ↦ inl found
      | inr others ↦ inr (max others.0 missed.0, both_missed argument fits fits_value tokens slots back head arguments_of calls bytes at (g ∷ hs) h others.0 missed.0 others.1 missed.1)
    ]
  ]

  -- THE CHOICE IS READABLE
  pub choice_readable : (h : List ℕ) (hs : List (List ℕ)) → IsHead h → AllByRecursion IsHead hs → ((v : V) → OneOf (h ∷ hs) (head v)) → IsReadable fits_value tokens
  choice_readable h hs is are all bytes at le = elim (each_read bytes at le h hs is are) [
    | inl found ↦ inl found
    | inr missed ↦ inr (missed.0, all_missed argument fits fits_value tokens slots back head arguments_of calls bytes at (h ∷ hs) missed.0 all missed.1)
  ]
