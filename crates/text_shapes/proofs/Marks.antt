-- The marks of a call: the bracket that opens stands before the first argument, and a comma before each
-- other. A mark is no letter and no digit.
use Rattle.std.proofs.Common.{◌≡◌, ℕ, true, false, cond, eqb, codes, List, [], ◌∷◌, ◌++◌, refl, sym, ap, ◌∙◌}
use Rattle.std.specs.List.{AllByRecursion}
use Rattle.text_shapes.specs.Reach.{IsMarked, IsToken, is_word_byte}
use Rattle.text_shapes.specs.Readers.{separator_of}
use Rattle.text_shapes.specs.Shapes.{arguments}
use Rattle.text_shapes.specs.Tokens.{IsSpace, is_space}
use Rattle.text_shapes.proofs.Words.{word_byte_no_space}

-- the mark before the number i
abbrev pub mark_before : ℕ → List ℕ
mark_before i = separator_of i ∷ []

pub mark_is_token : (i : ℕ) → IsToken (mark_before i)
unfolding is_space
mark_is_token i = elim (eqb i 0) as (λ b. IsToken (cond b 91 44 ∷ [])) [ true ↦ refl | false ↦ refl ]

mark_parts : (i : ℕ) → (b : ℕ) × (mark_before i ≡ b ∷ []) × (is_word_byte b ≡ false)
unfolding is_word_byte
mark_parts i = elim (eqb i 0) as (λ t. (b : ℕ) × (cond t 91 44 ∷ [] ≡ b ∷ []) × (is_word_byte b ≡ false)) [ true ↦ (91, refl, refl) | false ↦ (44, refl, refl) ]

-- what is left of the word that another has in front
pub last_byte : (xs : List ℕ) (c : ℕ) (ys : List ℕ) → AllByRecursion (λ b. is_word_byte b ≡ true) (xs ++ c ∷ ys) → is_word_byte c ≡ true
last_byte [] c ys h = h.0
last_byte (x ∷ xs) c ys h = last_byte xs c ys h.1

-- behind white space stands a mark, so no letter does
pub no_letter : (space : List ℕ) (i : ℕ) (rest : List ℕ) (c : ℕ) (y : List ℕ) → AllByRecursion IsSpace space → is_word_byte c ≡ true → space ++ (mark_before i ++ rest) ≡ c ∷ y → ⊥
no_letter [] i rest c y blank letter e =
    let m = mark_parts i in
    let e' : m.0 ∷ rest ≡ c ∷ y = ap (λ (x : List ℕ). x ++ rest) (sym m.1) ∙ e in
    let is : m.0 ≡ c = cc in
    let bad : false ≡ true = sym m.2 ∙ (ap is_word_byte is ∙ letter) in
    absurd cc
no_letter (b ∷ space) i rest c y blank letter e = let is : b ≡ c = cc in let bad : true ≡ false = sym blank.0 ∙ (ap is_space is ∙ word_byte_no_space c letter) in absurd cc

-- behind an argument stands a mark, and so behind the head
module _ {A : Type 0} (tokens : A → List (List ℕ)) where
  pub comma_marked : (ys : List A) (more : List (List ℕ)) → IsMarked (arguments tokens (codes ",") ys ++ more)
  unfolding is_word_byte
  comma_marked [] more = refl
  comma_marked (y ∷ ys) more = refl

  pub open_marked : (ys : List A) (more : List (List ℕ)) → IsMarked (arguments tokens (codes "[") ys ++ more)
  unfolding is_word_byte
  open_marked [] more = refl
  open_marked (y ∷ ys) more = refl
