-- The byte before the end of a token is no white space: it is the token's last one.
--
--     word_ends    of a word that stands
--     mark_ends    of a mark
use Rattle.std.proofs.Common.{◌≡◌, ℕ, ◌+◌, ◌-◌, ◌<◌, true, false, List, [], ◌∷◌, ◌++◌, length, drop, get_or, sym, ap, subst, ◌∙◌, arith, get_or-drop}
use Rattle.std.specs.List.{AllByRecursion}
use Rattle.std.proofs.lemmas.List.{get_or-append-add}
use Rattle.text_shapes.specs.Reach.{IsWord, is_word_byte}
use Rattle.text_shapes.specs.Readers.{Stands}
use Rattle.text_shapes.specs.Tokens.{is_space}
use Rattle.text_shapes.proofs.Words.{word_byte_no_space}

-- the last byte of a token, whatever comes behind it
last_from : (P : ℕ → Type 0) (c : ℕ) (t rest : List ℕ) → AllByRecursion P (c ∷ t) → P (get_or (c ∷ (t ++ rest)) (length t) 0)
last_from P c [] rest h = h.0
last_from P c (d ∷ t) rest h = last_from P d t rest h.1

last_is : (P : ℕ → Type 0) (t rest : List ℕ) → 0 < length t → AllByRecursion P t → P (get_or (t ++ rest) (length t - 1) 0)
last_is P [] rest lt h = absurd (omega arith)
last_is P (c ∷ t) rest lt h = let e : length t ≡ length (c ∷ t) - 1 = omega arith in subst (λ (i : ℕ). P (get_or (c ∷ (t ++ rest)) i 0)) e (last_from P c t rest h)

-- the byte before the end
before_end : (bytes : List ℕ) (at : ℕ) (token : List ℕ) (next : ℕ) → Stands bytes at token next → 0 < length token → get_or bytes (next - 1) 0 ≡ get_or (token ++ drop next bytes) (length token - 1) 0
before_end bytes at token next s some =
    let there : next - 1 ≡ at + (length s.space + (length token - 1)) = omega (arith, s.sum, some) in
    let from_at : get_or (drop at bytes) (length s.space + (length token - 1)) 0 ≡ get_or bytes (at + (length s.space + (length token - 1))) 0 = get_or-drop at bytes (length s.space + (length token - 1)) 0 in
    ap (λ (i : ℕ). get_or bytes i 0) there
    ∙ (sym from_at ∙ (ap (λ (xs : List ℕ). get_or xs (length s.space + (length token - 1)) 0) s.split ∙ get_or-append-add s.space (token ++ drop next bytes) (length token - 1) 0))

pub word_ends : (bytes : List ℕ) (at : ℕ) (word : List ℕ) (next : ℕ) → IsWord word → Stands bytes at word next → is_space (get_or bytes (next - 1) 0) ≡ false
word_ends bytes at word next h s =
    ap is_space (before_end bytes at word next s h.0) ∙ word_byte_no_space (get_or (word ++ drop next bytes) (length word - 1) 0) (last_is (λ b. is_word_byte b ≡ true) word (drop next bytes) h.0 h.1)

pub mark_ends : (bytes : List ℕ) (at c next : ℕ) → is_space c ≡ false → Stands bytes at (c ∷ []) next → is_space (get_or bytes (next - 1) 0) ≡ false
mark_ends bytes at c next no_space s = ap is_space (before_end bytes at (c ∷ []) next s (omega arith)) ∙ no_space
