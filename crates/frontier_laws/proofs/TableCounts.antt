-- Short pairings have as many different codes as they are different ones.
use Rattle.std.proofs.Common.{◌≡◌, ℕ, ◌==◌, true, List, [], ◌∷◌, map, length, refl, ap, ◌∙◌, arith}
use Rattle.std.specs.List.{All}
use Rattle.std.specs.Set.{is_member, distinct_count, unique_keys}
use Rattle.std.specs.Str.{bytes_eq}
use Rattle.std.proofs.lemmas.Bool.Decides.{nat_tests}
use Rattle.std.proofs.lemmas.List.{length-map}
use Rattle.std.proofs.lemmas.List.Elements.{All-head, All-tail}
use Rattle.std.proofs.lemmas.Slice.Eq.{bytes_eq-Decides}
use Rattle.arc_pairing.specs.Codes.{code_of}
use Rattle.arc_pairing.specs.Pairings.{IsShortPairing}
use Rattle.arc_pairing.proofs.CodeDigits.{same_code}
use Rattle.frontier_laws.proofs.ListTests.{any_all, any-map}

-- Short pairings have one code where they are one.
same_by_code : (p q : List ℕ) → IsShortPairing p → IsShortPairing q → (code_of p == code_of q) ≡ bytes_eq p q
same_by_code p q hp hq =
    let d = bytes_eq-Decides p q in
    let yes = λ (t : bytes_eq p q ≡ true). ap code_of (d.0 t) in
    let no = λ (e : code_of p ≡ code_of q). d.1 (same_code p q hp hq e) in
    grind (arith, nat_tests, yes, no)

-- Among short pairings a code is found where its pairing is.
code_found : (p : List ℕ) (ps : List (List ℕ)) → IsShortPairing p → All IsShortPairing ps → is_member ◌==◌ (map code_of ps) (code_of p) ≡ is_member bytes_eq ps p
code_found p ps h all = any-map (◌==◌ (code_of p)) code_of ps ∙ any_all IsShortPairing (λ q. code_of p == code_of q) (bytes_eq p) ps all (λ q k. same_by_code p q h k)

unique_codes : (ps : List (List ℕ)) → All IsShortPairing ps → unique_keys ◌==◌ (map code_of ps) ≡ map code_of (unique_keys bytes_eq ps)
unique_codes [] all = refl
unique_codes (p ∷ ps) all =
    let found = code_found p ps (All-head IsShortPairing p ps all) (All-tail IsShortPairing p ps all) in
    let ih = unique_codes ps (All-tail IsShortPairing p ps all) in
    grind (arith, found, ih)

-- AS MANY DIFFERENT CODES AS DIFFERENT PAIRINGS
pub short_count : (ps : List (List ℕ)) → All IsShortPairing ps → distinct_count ◌==◌ (map code_of ps) ≡ distinct_count bytes_eq ps
short_count ps all = ap length (unique_codes ps all) ∙ length-map (unique_keys bytes_eq ps) code_of
