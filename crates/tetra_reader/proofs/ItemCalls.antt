-- An item is one of two calls, of F or of T; so a text of items is of tokens, and can be read.
use Rattle.std.proofs.Common.{inl, inr, ℕ, cond, codes, List, [], ◌∷◌, ◌≡◌, refl, arith}
use Rattle.std.specs.List.{AllByRecursion}
use Rattle.text_shapes.specs.Tokens.{is_space, IsNumber, number_tokens, one_is_a_number}
use Rattle.text_shapes.specs.Shapes.{AreOf, call}
use Rattle.text_shapes.specs.Reach.{AreTokens, BeginsUnclosed, is_word_byte, IsWord}
use Rattle.text_shapes.specs.Readers.{IsReadable, TextRead}
use Rattle.text_shapes.proofs.Arguments.{HasSome}
use Rattle.text_shapes.proofs.Choice.{AreCalls, Makes, OneOf, same_bytes}
use Rattle.text_shapes.proofs.Choosing.{choice_readable}
use Rattle.text_shapes.proofs.Listing.{list_readable}
use Rattle.text_shapes.proofs.Readings.{text_read}
use Rattle.text_shapes.proofs.Scanning.{number_readable}
use Rattle.text_shapes.proofs.TokenLists.{listed-tokens, arguments-tokens}
use Rattle.pd_reader.specs.Texts.{IsOfKind}
use Rattle.pd_reader.proofs.ItemCalls.{numbers_of_kinds, kinds_of_numbers}
use Rattle.pd_reader.proofs.TextTokens.{numbers_are_tokens}
use Rattle.tetra_reader.specs.declared.item.TetraItem.{TetraItem}
use Rattle.tetra_reader.specs.declared.item.TetraItem.TheVariants as items
use Rattle.tetra_reader.specs.Tetras.{IsTextTetraItem, tetra_item_tokens, tetra_tokens}

pub f_word : IsWord (codes "F")
unfolding is_word_byte
f_word = (omega arith, (refl, tt))

pub t_word : IsWord (codes "T")
unfolding is_word_byte
t_word = (omega arith, (refl, tt))

abbrev pub head : TetraItem → List ℕ
head (items.F labels) = codes "F"
head (items.T labels) = codes "T"

abbrev pub numbers : TetraItem → List ℕ
numbers (items.F labels) = labels
numbers (items.T labels) = labels

abbrev pub slots_of : List ℕ → List ℕ
slots_of h = cond (same_bytes h (codes "F")) (0 ∷ 0 ∷ 0 ∷ []) (0 ∷ 0 ∷ 0 ∷ 0 ∷ 0 ∷ 0 ∷ [])

abbrev pub item_of : List ℕ → List ℕ → TetraItem
item_of h ns = cond (same_bytes h (codes "F")) (items.F ns) (items.T ns)

pub item_calls : AreCalls number_tokens IsOfKind IsTextTetraItem tetra_item_tokens slots_of item_of head numbers
item_calls = record { word = word; tokens_are = tokens_are; of_kinds = of_kinds; back_is = back_is }
  where
    word : (v : TetraItem) → IsWord (head v)
    word (items.F labels) = f_word
    word (items.T labels) = t_word

    tokens_are : (v : TetraItem) → tetra_item_tokens v ≡ call number_tokens (head v) (numbers v)
    tokens_are (items.F labels) = refl
    tokens_are (items.T labels) = refl

    of_kinds : (v : TetraItem) → IsTextTetraItem v → AreOf IsOfKind (slots_of (head v)) (numbers v)
    of_kinds (items.F labels) h = kinds_of_numbers (0 ∷ 0 ∷ 0 ∷ []) labels h
    of_kinds (items.T labels) h = kinds_of_numbers (0 ∷ 0 ∷ 0 ∷ 0 ∷ 0 ∷ 0 ∷ []) labels h

    back_is : (v : TetraItem) → item_of (head v) (numbers v) ≡ v
    back_is (items.F labels) = refl
    back_is (items.T labels) = refl

pub makes_f : Makes number_tokens IsOfKind IsTextTetraItem tetra_item_tokens slots_of item_of head (codes "F")
makes_f = record {
  head_is = λ ns h. refl;
  fits_back = λ ns h. numbers_of_kinds (0 ∷ 0 ∷ 0 ∷ []) ns h;
  tokens_back = λ ns h. refl;
}

pub makes_t : Makes number_tokens IsOfKind IsTextTetraItem tetra_item_tokens slots_of item_of head (codes "T")
makes_t = record {
  head_is = λ ns h. refl;
  fits_back = λ ns h. numbers_of_kinds (0 ∷ 0 ∷ 0 ∷ 0 ∷ 0 ∷ 0 ∷ []) ns h;
  tokens_back = λ ns h. refl;
}

abbrev pub heads : List (List ℕ)
heads = codes "T" ∷ codes "F" ∷ []

pub all_heads : (v : TetraItem) → OneOf heads (head v)
all_heads (items.T labels) = inl refl
all_heads (items.F labels) = inr (inl refl)

-- ---- a text is of tokens

item_are_tokens : (v : TetraItem) → IsTextTetraItem v → AreTokens (tetra_item_tokens v)
unfolding is_space
item_are_tokens (items.F labels) h = (refl, arguments-tokens number_tokens IsNumber numbers_are_tokens (codes "[") labels refl h.are_numbers)
item_are_tokens (items.T labels) h = (refl, arguments-tokens number_tokens IsNumber numbers_are_tokens (codes "[") labels refl h.are_numbers)

pub tetra_are_tokens : (vs : List TetraItem) → AllByRecursion IsTextTetraItem vs → AreTokens (tetra_tokens vs)
unfolding is_space
tetra_are_tokens vs h = listed-tokens IsTextTetraItem tetra_item_tokens item_are_tokens (codes "TV") refl vs h

-- ---- and can be read

some_number : HasSome IsOfKind
some_number = record { some = λ _. 1; some_fits = λ _. one_is_a_number }

item_readable : IsReadable IsTextTetraItem tetra_item_tokens
item_readable =
    choice_readable number_tokens IsOfKind IsTextTetraItem tetra_item_tokens slots_of item_of head numbers item_calls some_number (λ _. number_readable) (codes "T") (codes "F" ∷ [])
    (record { word = t_word; makes = makes_t; some = omega arith }) (record { word = f_word; makes = makes_f; some = omega arith }, tt) all_heads

item_begins : (v : TetraItem) → IsTextTetraItem v → BeginsUnclosed (tetra_item_tokens v)
item_begins (items.F labels) h = refl
item_begins (items.T labels) h = refl

pub tetra_read : (bytes : List ℕ) → TextRead (AllByRecursion IsTextTetraItem) tetra_tokens bytes
unfolding is_space
tetra_read bytes =
    text_read (AllByRecursion IsTextTetraItem) tetra_tokens (list_readable IsTextTetraItem tetra_item_tokens item_begins item_readable (codes "TV") refl) bytes
