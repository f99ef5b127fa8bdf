-- A text writes a list exactly where it is the members' spellings with commas between them. The pieces between the commas
-- of a text are one list; joined again they give the text, and spellings have no comma to be cut at.
use Rattle.std.proofs.Common.{◌≡◌, ◌∙◌, refl, arith, ap, sym, ◌<◌, ◌^◌, ◌++◌, ℕ, Bool, true, false, List, [], ◌∷◌, length, length-append, map, nat_lt, Option, Some, None}
use Rattle.std.specs.Prelude.{◌==◌, All, decimal, option_map, option_and_then}
use Rattle.std.specs.Prelude.{◌&&◌, if◌then◌else◌}
use Rattle.std.specs.List.{join_with_byte, slice_split, onto_first}
use Rattle.std.specs.Str.{all_ascii_digits}
use Rattle.std.specs.Char.{is_ascii_digit}
use Rattle.std.proofs.lemmas.Bool.Decides.{nat_tests}
use Rattle.std.proofs.lemmas.Fmt.{decimal_nonempty, digits_decimal, length-decimal-le}
use Rattle.std.proofs.lemmas.List.Elements.{All-cons, All-head, All-nil, All-tail}
use Rattle.std.proofs.lemmas.List.Splits.{join_with_byte-slice_split, slice_split-cons_no, slice_split-cons_yes}
use Rattle.wrt_request.specs.Decimals.{decimal_value}
use Rattle.wrt_request.specs.Lists.{list_value, member_value, members_of}
use Rattle.wrt_request.specs.Laws.{ListsBySpelling}
use Rattle.wrt_request.proofs.Numerals.{own}
use Rattle.wrt_request.proofs.Members.{member_value-short, member-small}
use Rattle.wrt_request.proofs.Spellings.{spelled, spelling}

abbrev is_comma : ℕ → Bool
is_comma b = b == 44

both : (s t : Bool) → (s && t) ≡ true → (s ≡ true) × (t ≡ true)
both true true e = (refl, refl)
both true false e = absurd (grind (arith, e))
both false t e = absurd (grind (arith, e))

no_comma : (c : ℕ) → is_ascii_digit c ≡ true → is_comma c ≡ false
no_comma c digit = grind (arith, nat_tests)

-- Digits are one piece, and a comma behind them ends it.
digits-alone : (ds : List ℕ) → all_ascii_digits ds ≡ true → slice_split is_comma ds ≡ ds ∷ []
digits-alone [] e = refl
digits-alone (c ∷ cs) e =
    let k = both (is_ascii_digit c) (all_ascii_digits cs) e in
    slice_split-cons_no is_comma c cs (no_comma c k.0) ∙ ap (onto_first c) (digits-alone cs k.1)

digits-first : (ds more : List ℕ) → all_ascii_digits ds ≡ true → slice_split is_comma (ds ++ 44 ∷ more) ≡ ds ∷ slice_split is_comma more
digits-first [] more e = slice_split-cons_yes is_comma 44 more refl
digits-first (c ∷ cs) more e =
    let k = both (is_ascii_digit c) (all_ascii_digits cs) e in
    slice_split-cons_no is_comma c (cs ++ 44 ∷ more) (no_comma c k.0) ∙ ap (onto_first c) (digits-first cs more k.1)

abbrev IsMember : ℕ → Type 0
IsMember n = n < 10 ^ 9

-- The pieces of a joined list of spellings are the spellings.
pieces : (n : ℕ) (ns : List ℕ) → All IsMember (n ∷ ns) → slice_split is_comma (join_with_byte 44 (map decimal (n ∷ ns))) ≡ map decimal (n ∷ ns)
pieces n [] small = digits-alone (decimal n) (digits_decimal own n (omega (arith, All-head IsMember n [] small)))
pieces n (next ∷ ns) small =
    digits-first (decimal n) (join_with_byte 44 (map decimal (next ∷ ns))) (digits_decimal own n (omega (arith, All-head IsMember n (next ∷ ns) small)))
    ∙ ap (λ (rest : List (List ℕ)). decimal n ∷ rest) (pieces next ns (All-tail IsMember n (next ∷ ns) small))

-- A member's text is its spelling, and the other way round.
member-spelling : (text : List ℕ) (n : ℕ) → member_value text ≡ Some n → IsMember n × (text ≡ decimal n)
unfolding member_value
member-spelling text n is = go (nat_lt 9 (length text)) refl is
  where
    go : (b : Bool) → nat_lt 9 (length text) ≡ b → (if b then None else decimal_value text) ≡ Some n → IsMember n × (text ≡ decimal n)
    go true e none = absurd (grind (arith, none))
    go false e some = (member-small text n (grind (arith, nat_tests)) (sym some), (spelling text n some).1)

member-spelled : (n : ℕ) → IsMember n → member_value (decimal n) ≡ Some n
member-spelled n small =
    sym (member_value-short (decimal n) (length-decimal-le 9 n (omega arith) small (omega (arith, small)))) ∙ spelled n (omega (arith, small))

members-spelled : (ns : List ℕ) → All IsMember ns → members_of (map decimal ns) ≡ Some ns
members-spelled [] small = refl
members-spelled (n ∷ ns) small =
    rw (member-spelled n (All-head IsMember n ns small), members-spelled ns (All-tail IsMember n ns small)) refl

members-spelling : (texts : List (List ℕ)) (ns : List ℕ) → members_of texts ≡ Some ns → All IsMember ns × (texts ≡ map decimal ns)
members-spelling [] [] is = (All-nil IsMember, refl)
members-spelling [] (n ∷ ns) is = absurd (grind (arith, is))
members-spelling (text ∷ texts) ns is = go (members-spelling texts) (member_value text) refl (members_of texts) refl is
  where
    go : ((more : List ℕ) → members_of texts ≡ Some more → All IsMember more × (texts ≡ map decimal more)) → (member : Option ℕ) → member_value text ≡ member → (others : Option (List ℕ)) → members_of texts ≡ others
        → option_and_then (λ n. option_map (λ ns. n ∷ ns) others) member ≡ Some ns → All IsMember ns × (text ∷ texts ≡ map decimal ns)
    go others-spelling None e others f none = absurd (grind (arith, none))
    go others-spelling (Some n) e None f none = absurd (grind (arith, none))
    go others-spelling (Some n) e (Some more) f some =
        let first = member-spelling text n e in
        let rest = others-spelling more f in
        let all : n ∷ more ≡ ns = grind (arith, some) in
        rw (← all) (All-cons IsMember n more first.0 rest.0, rw (← first.1, ← rest.1) refl)

-- A text that isn't empty is cut into its pieces.
cut : (text : List ℕ) → 0 < length text → list_value text ≡ members_of (slice_split is_comma text)
cut [] some = absurd (omega (arith, some))
cut (b ∷ bs) some = refl

nonempty : (n : ℕ) (ns : List ℕ) → IsMember n → 0 < length (join_with_byte 44 (map decimal (n ∷ ns)))
nonempty n [] small = decimal_nonempty n (omega (arith, small))
nonempty n (next ∷ ns) small = omega (arith, length-append (decimal n) (44 ∷ join_with_byte 44 (map decimal (next ∷ ns))))

there : (text ns : List ℕ) → list_value text ≡ Some ns → All IsMember ns × (text ≡ join_with_byte 44 (map decimal ns))
there [] [] is = (All-nil IsMember, refl)
there [] (n ∷ ns) is = absurd (grind (arith, is))
there (b ∷ bs) ns is =
    let p = members-spelling (slice_split is_comma (b ∷ bs)) ns is in
    (p.0, sym (join_with_byte-slice_split 44 (b ∷ bs)) ∙ ap (join_with_byte 44) p.1)

back : (ns : List ℕ) → All IsMember ns → list_value (join_with_byte 44 (map decimal ns)) ≡ Some ns
back [] small = refl
back (n ∷ ns) small =
    cut (join_with_byte 44 (map decimal (n ∷ ns))) (nonempty n ns (All-head IsMember n ns small))
    ∙ ap members_of (pieces n ns small) ∙ members-spelled (n ∷ ns) small

pub lists_law : ListsBySpelling
lists_law text ns = (there text ns, λ h. ap list_value h.1 ∙ back ns h.0)
