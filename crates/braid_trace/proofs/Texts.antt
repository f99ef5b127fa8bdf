-- The parts of a braid's text: BR[n, then ,{e,..,e}].
--
--     number_leads, number_lacks         the number of strands stands, or none does
--     opened, inside_opened, closed_found ..    the tokens before it and behind it
--     braid_readable                     so a braid's text can be read for sure
--     braid_are_tokens                   and it is of tokens
use Rattle.std.proofs.Common.{inl, inr, ◌≡◌, false, ℕ, codes, ℤ, List, [], ◌∷◌, ◌++◌, refl, sym, arith}
use Rattle.std.specs.List.{AllByRecursion}
use Rattle.text_shapes.specs.Tokens.{is_space, IsNumber, number_tokens, one_is_a_number}
use Rattle.text_shapes.specs.Reach.{IsToken, AreTokens, IsMarked, is_word_byte}
use Rattle.text_shapes.specs.Readers.{Found, IsReadable, LeadsTo, Missed, Stands}
use Rattle.text_shapes.specs.Shapes.{items_inside}
use Rattle.text_shapes.proofs.Chain.{LeadsTo-then, then_missed, token_stands}
use Rattle.text_shapes.proofs.Elements.{All-append}
use Rattle.text_shapes.proofs.Listing.{inside_readable}
use Rattle.text_shapes.proofs.Readings.{through, token_readable, then_readable}
use Rattle.text_shapes.proofs.Scanning.{number_readable}
use Rattle.text_shapes.proofs.TokenLists.{inside-tokens}
use Rattle.pd_reader.specs.declared.fault.Stop.{Stop}
use Rattle.pd_reader.specs.declared.fault.Stop.TheVariants as stops
use Rattle.pd_reader.specs.Stops.{MissesAt}
use Rattle.pd_reader.specs.Signed.{IsSigned, signed_tokens, signed_begins_unclosed}
use Rattle.pd_reader.proofs.SignedItems.{signed_readable, signed_are_tokens}
use Rattle.pd_reader.proofs.TextTokens.{numbers_are_tokens}
use Rattle.braid_trace.specs.Braids.{BraidWord, IsTextBraid, entries_tokens, braid_tokens}

abbrev pub Fit : List ℤ → Type 0
Fit = AllByRecursion IsSigned

-- e,..,e} and the same with the last bracket
abbrev pub inside : List ℤ → List (List ℕ)
inside = items_inside 125 signed_tokens

abbrev pub closed : List ℤ → List (List ℕ)
closed word = inside word ++ codes "]" ∷ []

abbrev pub braced : List ℤ → List (List ℕ)
braced word = codes "{" ∷ closed word

-- n,{e,..,e}] and the same behind a bracket
abbrev pub numbered : BraidWord → List (List ℕ)
numbered braid = number_tokens braid.strands ++ entries_tokens braid.word

abbrev pub bracketed : BraidWord → List (List ℕ)
bracketed braid = codes "[" ∷ numbered braid

-- some text: BR[1,{}]
pub least_text : BraidWord
least_text = record { strands = 1; word = [] }

pub least_fits : IsTextBraid least_text
unfolding least_text
least_fits = record { is_number = one_is_a_number; are_signed = tt }

pub bracket_is_token : IsToken (codes "[")
unfolding is_space
bracket_is_token = refl

pub comma_is_token : IsToken (codes ",")
unfolding is_space
comma_is_token = refl

pub brace_is_token : IsToken (codes "{")
unfolding is_space
brace_is_token = refl

pub head_is_token : IsToken (codes "BR")
unfolding is_space
head_is_token = refl

comma_marks : (word : List ℤ) (more : List (List ℕ)) → IsMarked (entries_tokens word ++ more)
unfolding is_word_byte
comma_marks word more = refl

pub number_leads : (bytes : List ℕ) (at n next : ℕ) → Found IsNumber number_tokens bytes at n next → LeadsTo IsTextBraid numbered Fit entries_tokens (λ word. record { strands = n; word = word }) bytes at next
number_leads bytes at n next f = record {
  from = omega (arith, f.from);
  within = f.within;
  onto = λ word h. record { is_number = f.fits_shape; are_signed = h };
  same = λ word more. f.same (entries_tokens word ++ more);
  others = λ braid more h. elim (f.others braid.strands (entries_tokens braid.word ++ more) h.is_number (comma_marks braid.word more)) [
    | inl e ↦ inl (braid.word, rw (sym e) refl, h.are_signed)
    | inr le ↦ inr le
  ];
}

pub number_lacks : (bytes : List ℕ) (at p : ℕ) → Missed IsNumber number_tokens bytes at p → Missed IsTextBraid numbered bytes at p
number_lacks bytes at p m = record {
  within = m.within;
  furthest = record { strands = m.furthest; word = [] };
  fits_shape = record { is_number = m.fits_shape; are_signed = tt };
  reached = λ more. m.reached (entries_tokens [] ++ more);
  most = λ braid more h. m.most braid.strands (entries_tokens braid.word ++ more) h.is_number;
}

-- behind BR[ stands what is numbered
pub opened : (bytes : List ℕ) (head next : ℕ) → Stands bytes 0 (codes "BR") head → Stands bytes head (codes "[") next → LeadsTo IsTextBraid braid_tokens IsTextBraid numbered (λ braid. braid) bytes 0 next
opened bytes head next s o =
    LeadsTo-then IsTextBraid braid_tokens IsTextBraid bracketed IsTextBraid numbered (λ braid. braid) (λ braid. braid) bytes 0 head next
    (token_stands IsTextBraid (codes "BR") bracketed bytes 0 head head_is_token s) (token_stands IsTextBraid (codes "[") numbered bytes head next bracket_is_token o)

-- behind ,{ stand the entries
pub inside_opened : (bytes : List ℕ) (at comma next : ℕ) → Stands bytes at (codes ",") comma → Stands bytes comma (codes "{") next → LeadsTo Fit entries_tokens Fit closed (λ word. word) bytes at next
inside_opened bytes at comma next s o =
    LeadsTo-then Fit entries_tokens Fit braced Fit closed (λ word. word) (λ word. word) bytes at comma next
    (token_stands Fit (codes ",") braced bytes at comma comma_is_token s) (token_stands Fit (codes "{") closed bytes comma next brace_is_token o)

-- a stop before a mark is one of what ends with it, want of memory among it
pub then_stops : {V : Type 0} (fits : V → Type 0) (F : V → List (List ℕ)) (c : ℕ) → is_space c ≡ false → is_word_byte c ≡ false → (bytes : List ℕ) (at : ℕ) (stop : Stop) → MissesAt fits F bytes at stop → MissesAt fits (λ v. F v ++ (c ∷ []) ∷ []) bytes at stop
then_stops fits F c no_space mark bytes at (stops.At p) m = then_missed fits F c no_space mark bytes at p m
then_stops fits F c no_space mark bytes at stops.Memory m = tt

-- ---- for sure

closed_readable : IsReadable Fit closed
unfolding is_space is_word_byte
closed_readable = then_readable Fit inside 93 refl refl (inside_readable 125 refl IsSigned signed_tokens signed_begins_unclosed signed_readable)

entries_readable : IsReadable Fit entries_tokens
entries_readable = token_readable Fit (codes ",") braced comma_is_token [] tt (token_readable Fit (codes "{") closed brace_is_token [] tt closed_readable)

numbered_readable : IsReadable IsTextBraid numbered
numbered_readable bytes at le = elim (number_readable bytes at le) [
  | inl n ↦ through IsTextBraid numbered Fit entries_tokens (λ word. record { strands = n.0; word = word }) bytes at n.1 (number_leads bytes at n.0 n.1 n.2) (entries_readable bytes n.1 n.2.within)
  | inr missed ↦ inr (missed.0, number_lacks bytes at missed.0 missed.1)
]

-- A BRAID'S TEXT CAN BE READ
pub braid_readable : IsReadable IsTextBraid braid_tokens
braid_readable = token_readable IsTextBraid (codes "BR") bracketed head_is_token least_text least_fits (token_readable IsTextBraid (codes "[") numbered bracket_is_token least_text least_fits numbered_readable)

-- AND IS OF TOKENS
pub braid_are_tokens : (braid : BraidWord) → IsTextBraid braid → AreTokens (braid_tokens braid)
unfolding is_space
braid_are_tokens braid h =
    (refl, (refl, ((numbers_are_tokens braid.strands h.is_number).0, (refl, (refl, All-append IsToken (inside braid.word) (codes "]" ∷ []) (inside-tokens 125 refl IsSigned signed_tokens signed_are_tokens braid.word h.are_signed) (refl, tt))))))
