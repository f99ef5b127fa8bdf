-- Codes beside their pairings: with one pairing more behind them, or another coefficient, each code is still that of the pairing at its place.
use Rattle.std.proofs.Common.{◌≡◌, ℕ, zero, suc, ◌+◌, ◌<◌, List, [], ◌∷◌, ◌++◌, length, take, refl, sym, ap, subst, ◌∙◌, arith}
use Rattle.std.specs.Map.{keys_of}
use Rattle.std.proofs.lemmas.List.{length-append, length-take-le, get_or-take, get_or_append_left, get_or_push}
use Rattle.arc_gluing.proofs.OneEdge.{same_or_not}
use Rattle.arc_pairing.specs.Codes.{code_of}
use Rattle.indexmap.specs.Layout.{set_value_at}
use Rattle.frontier_sweep.specs.Coded.{AreCoded}

-- ONE PAIRING MORE
pub coded_more : (codes : List ℕ) (pairings : List (List ℕ)) (partner : List ℕ) → AreCoded codes pairings → AreCoded (codes ++ code_of partner ∷ []) (take (length codes) pairings ++ partner ∷ [])
coded_more codes pairings partner h =
    let front = take (length codes) pairings in
    let long = length-take-le (length codes) pairings h.whole in
    record {
      whole = (let a = length-append codes (code_of partner ∷ []) in let b = length-append front (partner ∷ []) in omega (arith, a, b, long));
      each = λ i l.
          let within : i < length codes + 1 = (let a = length-append codes (code_of partner ∷ []) in omega (arith, a, l)) in
          same_or_not i (length codes)
          (λ last. ap code_of (get_or_push front partner [] i (long ∙ sym last)) ∙ sym (get_or_push codes (code_of partner) 0 i (sym last)))
          (λ other.
          let small : i < length codes = omega (arith, within, other) in
          ap code_of (get_or_append_left front (partner ∷ []) [] i (omega (arith, small, long)) ∙ get_or-take (length codes) pairings i [] small) ∙ h.each i small ∙ sym (get_or_append_left codes (code_of partner ∷ []) 0 i small));
    }

-- ANOTHER COEFFICIENT
pub coded_set : (table : List (ℕ × ℕ)) (pairings : List (List ℕ)) (at coefficient : ℕ) → AreCoded (keys_of table) pairings → AreCoded (keys_of (set_value_at table at coefficient)) pairings
coded_set table pairings at coefficient h = subst (λ codes. AreCoded codes pairings) (sym (keys-set table at coefficient)) h
  where
    keys-set : (table : List (ℕ × ℕ)) (at coefficient : ℕ) → keys_of (set_value_at table at coefficient) ≡ keys_of table
    keys-set [] at coefficient = refl
    keys-set (entry ∷ table) zero coefficient = refl
    keys-set (entry ∷ table) (suc at) coefficient = ap (λ codes. entry.0 ∷ codes) (keys-set table at coefficient)
