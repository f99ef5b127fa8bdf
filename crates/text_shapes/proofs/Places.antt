-- How far bytes go on from a place that holds no white space, by the byte that stands there.
--
--     place-skips                   white space is passed over
--     place-mark, place-no_mark     a mark stands there, or doesn't
--     place-end, place-rest         the end does, or something else
use Rattle.std.proofs.Common.{inl, inr, ◌≡◌, ℕ, suc, ◌+◌, ◌<◌, ◌≤◌, false, List, [], ◌∷◌, length, drop, get_or, refl, ap, ◌∙◌, arith}
use Rattle.std.proofs.lemmas.Bool.{cases_lt, ne_eqb, eq-eqb}
use Rattle.std.proofs.lemmas.List.{drop_more, drop_all}
use Rattle.text_shapes.specs.Reach.{place, reach}
use Rattle.text_shapes.specs.Readers.{Skips}
use Rattle.text_shapes.specs.Tokens.{is_space}
use Rattle.text_shapes.proofs.ReachLemmas.{over_space, reach-cons}

-- white space may be passed over
pub place-skips : (bytes : List ℕ) (at next : ℕ) (ts : List (List ℕ)) → Skips bytes at next → place bytes at ts ≡ place bytes next ts
place-skips bytes at next ts s =
    let one : reach [] ts (drop at bytes) ≡ length s.space + reach [] ts (drop next bytes) = ap (reach [] ts) s.split ∙ over_space s.space ts (drop next bytes) s.blank in
    omega (arith, one, s.sum)

reach-mark : (c : ℕ) (ts : List (List ℕ)) (b : ℕ) (bs : List ℕ) → is_space b ≡ false → b ≡ c → reach [] ((c ∷ []) ∷ ts) (b ∷ bs) ≡ suc (reach [] ts bs)
reach-mark c ts b bs s e = reach-cons [] ((c ∷ []) ∷ ts) b bs ∙ rw (s, eq-eqb b c e) refl

reach-no_mark : (c : ℕ) (w : List ℕ) (ts : List (List ℕ)) (b : ℕ) (bs : List ℕ) → is_space b ≡ false → (b ≡ c → ⊥) → reach [] ((c ∷ w) ∷ ts) (b ∷ bs) ≡ 0
reach-no_mark c w ts b bs s ne = reach-cons [] ((c ∷ w) ∷ ts) b bs ∙ rw (s, ne_eqb b c ne) refl

reach-at_end : (t : List ℕ) (ts : List (List ℕ)) → reach [] (t ∷ ts) [] ≡ 0
unfolding reach
reach-at_end t ts = refl

-- the place holds no white space
abbrev pub IsStop : List ℕ → ℕ → Type 0
IsStop bytes at = (at ≤ length bytes) × (at < length bytes → is_space (get_or bytes at 0) ≡ false)

-- where a mark is
pub place-mark : (bytes : List ℕ) (at c : ℕ) (ts : List (List ℕ)) → IsStop bytes at → at < length bytes → get_or bytes at 0 ≡ c → place bytes at ((c ∷ []) ∷ ts) ≡ place bytes (at + 1) ts
place-mark bytes at c ts stop lt e =
    let one : reach [] ((c ∷ []) ∷ ts) (drop at bytes) ≡ suc (reach [] ts (drop (at + 1) bytes)) = rw (drop_more bytes at 0 lt) (reach-mark c ts (get_or bytes at 0) (drop (at + 1) bytes) (stop.1 lt) e) in
    omega (arith, one)

-- where it isn't
pub place-no_mark : (bytes : List ℕ) (at c : ℕ) (w : List ℕ) (ts : List (List ℕ)) → IsStop bytes at → (at < length bytes → get_or bytes at 0 ≡ c → ⊥) → place bytes at ((c ∷ w) ∷ ts) ≡ at
place-no_mark bytes at c w ts stop ne =
    elim (cases_lt at (length bytes)) [
      | inl lt ↦ (let one : reach [] ((c ∷ w) ∷ ts) (drop at bytes) ≡ 0 = rw (drop_more bytes at 0 lt) (reach-no_mark c w ts (get_or bytes at 0) (drop (at + 1) bytes) (stop.1 lt) (ne lt)) in omega (arith, one))
      | inr le ↦ (let one : reach [] ((c ∷ w) ∷ ts) (drop at bytes) ≡ 0 = rw (drop_all at bytes le) (reach-at_end (c ∷ w) ts) in omega (arith, one))
    ]

reach-end : (bs : List ℕ) → bs ≡ [] → reach [] [] bs ≡ 1
unfolding reach
reach-end [] e = refl
reach-end (b ∷ bs) e = absurd cc

pub place-end : (bytes : List ℕ) (at : ℕ) → at ≡ length bytes → place bytes at [] ≡ suc (length bytes)
place-end bytes at e = omega (arith, reach-end (drop at bytes) (drop_all at bytes (omega arith)))

reach-rest : (b : ℕ) (bs : List ℕ) → is_space b ≡ false → reach [] [] (b ∷ bs) ≡ 0
reach-rest b bs s = reach-cons [] [] b bs ∙ rw s refl

pub place-rest : (bytes : List ℕ) (at : ℕ) → at < length bytes → is_space (get_or bytes at 0) ≡ false → place bytes at [] ≡ at
place-rest bytes at lt s =
    let one : reach [] [] (drop at bytes) ≡ 0 = rw (drop_more bytes at 0 lt) (reach-rest (get_or bytes at 0) (drop (at + 1) bytes) s) in
    omega (arith, one)
