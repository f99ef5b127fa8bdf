-- What the scans find in bytes, as functions of the logic: each ends, since it goes on one byte at a time,
-- and none fails for want of memory, as code may.
--
--     skipped            where white space ends
--     byte_at            a byte stands at a place, or doesn't
--     word_read          a token stands, or falls
--     number_readable    a number stands behind white space, or none does
--     end_read           nothing but white space is left, or something is
use Rattle.std.proofs.Common.{inl, inr, ◌≡◌, ◌⊎◌, ℕ, zero, suc, ◌+◌, ◌-◌, ◌*◌, ◌<◌, ◌≤◌, false, List, [], length, drop, get_or, ◌∙◌, arith}
use Rattle.std.proofs.lemmas.Bool.{cases_lt, cases_eq, cases_Bool}
use Rattle.text_shapes.specs.Tokens.{is_space, IsNumber, number_tokens}
use Rattle.text_shapes.specs.Reach.{IsToken, common, is_digit, place}
use Rattle.text_shapes.specs.Readers.{Skips, Stands, Falls, LongestNumber, BeginsNoNumber, IsReadable}
use Rattle.text_shapes.proofs.Scans.{Spaces, Spaces-none, Spaces-more, Digits, Digits-first, Digits-more, digit_bounds, word_stands, word_falls}
use Rattle.text_shapes.proofs.Numbers.{number_found, number_missed}
use Rattle.text_shapes.proofs.Places.{place-skips, place-end, place-rest}

skips_of : (bytes : List ℕ) (at next : ℕ) → Spaces bytes at next → (next < length bytes → is_space (get_or bytes next 0) ≡ false) → Skips bytes at next
skips_of bytes at next s stops = record { space = s.space; blank = s.blank; split = s.split; within = s.within; sum = s.sum; stops = stops }

skipped_from : (bytes : List ℕ) (fuel at next : ℕ) → Spaces bytes at next → length bytes ≤ next + fuel → (end : ℕ) × Skips bytes at end
skipped_from bytes zero at next s le = (next, skips_of bytes at next s (λ lt. absurd (omega arith)))
skipped_from bytes (suc fuel) at next s le =
    elim (cases_lt next (length bytes)) [
      | inr past ↦ (next, skips_of bytes at next s (λ lt. absurd (omega arith)))
      | inl lt ↦ elim (cases_Bool (is_space (get_or bytes next 0))) [
        | inl white ↦ skipped_from bytes fuel at (next + 1) (Spaces-more bytes at next s lt white) (omega arith)
        | inr other ↦ (next, skips_of bytes at next s (λ _. other))
      ]
    ]

pub skipped : (bytes : List ℕ) (at : ℕ) → at ≤ length bytes → (next : ℕ) × Skips bytes at next
skipped bytes at le = skipped_from bytes (length bytes) at at (Spaces-none bytes at le) (omega arith)

pub byte_at : (bytes : List ℕ) (at c : ℕ) → ((at < length bytes) × (get_or bytes at 0 ≡ c)) ⊎ (at < length bytes → get_or bytes at 0 ≡ c → ⊥)
byte_at bytes at c =
    elim (cases_lt at (length bytes)) [
      | inr past ↦ inr (λ lt e. omega arith)
      | inl lt ↦ elim (cases_eq (get_or bytes at 0) c) [ inl e ↦ inl (lt, e) | inr ne ↦ inr (λ _ e. ne e) ]
    ]

pub word_read : (bytes : List ℕ) (at : ℕ) (word : List ℕ) → IsToken word → at ≤ length bytes → ((next : ℕ) × Stands bytes at word next) ⊎ ((p : ℕ) × Falls bytes at word p)
word_read bytes at word token le =
    let s = skipped bytes at le in
    elim (cases_eq (common word (drop s.0 bytes)) (length word)) [
      | inl e ↦ inl (s.0 + length word, word_stands bytes at s.0 word s.1 e)
      | inr ne ↦ inr (s.0 + common word (drop s.0 bytes), word_falls bytes at s.0 word token s.1 ne)
    ]

longest_of : (bytes : List ℕ) (at n next : ℕ) → Digits bytes at n next → (100000 ≤ n) ⊎ (next < length bytes → is_digit (get_or bytes next 0) ≡ false) → LongestNumber bytes at n next
longest_of bytes at n next d longest = record { fits = d.fits; within = d.within; split = d.split; sum = d.sum; longest = longest }

digits_from : (bytes : List ℕ) (fuel at n next : ℕ) → Digits bytes at n next → length bytes ≤ next + fuel → (m : ℕ) × (end : ℕ) × LongestNumber bytes at m end
digits_from bytes zero at n next d le = (n, next, longest_of bytes at n next d (inr (λ lt. absurd (omega arith))))
digits_from bytes (suc fuel) at n next d le =
    elim (cases_lt n 100000) [
      | inr long ↦ (n, next, longest_of bytes at n next d (inl long))
      | inl short ↦ elim (cases_lt next (length bytes)) [
        | inr past ↦ (n, next, longest_of bytes at n next d (inr (λ lt. absurd (omega arith))))
        | inl lt ↦ elim (cases_Bool (is_digit (get_or bytes next 0))) [
          | inr other ↦ (n, next, longest_of bytes at n next d (inr (λ _. other)))
          | inl digit ↦
              let b = digit_bounds (get_or bytes next 0) digit in
              digits_from bytes fuel at (n * 10 + (get_or bytes next 0 - 48)) (next + 1) (Digits-more bytes at n next (get_or bytes next 0 - 48) d short lt (omega (arith, b.0)) (omega (arith, b.1))) (omega arith)
        ]
      ]
    ]

pub number_at : (bytes : List ℕ) (at : ℕ) → ((m : ℕ) × (end : ℕ) × LongestNumber bytes at m end) ⊎ BeginsNoNumber bytes at
number_at bytes at =
    elim (cases_lt at (length bytes)) [
      | inr past ↦ inr (λ lt. absurd (omega arith))
      | inl lt ↦ elim (cases_Bool (is_digit (get_or bytes at 0))) [
        | inr other ↦ inr (λ _. inl other)
        | inl digit ↦ elim (cases_eq (get_or bytes at 0) 48) [
          | inl zero_digit ↦ inr (λ _. inr zero_digit)
          | inr ne ↦
              let b = digit_bounds (get_or bytes at 0) digit in
              inl (digits_from bytes (length bytes) at (get_or bytes at 0 - 48) (at + 1) (Digits-first bytes at (get_or bytes at 0 - 48) lt (omega (arith, b.0)) (omega (arith, b.0, ne)) (omega (arith, b.1))) (omega arith))
        ]
      ]
    ]

pub number_readable : IsReadable IsNumber number_tokens
number_readable bytes at le =
    let s = skipped bytes at le in
    elim (number_at bytes s.0) [
      | inl n ↦ inl (n.0, n.1, number_found bytes at s.0 n.0 n.1 s.1 n.2)
      | inr none ↦ inr (s.0, number_missed bytes at s.0 s.1 none)
    ]

pub end_read : (bytes : List ℕ) (at : ℕ) → at ≤ length bytes → (place bytes at [] ≡ suc (length bytes)) ⊎ ((p : ℕ) × (place bytes at [] ≡ p) × (p ≤ length bytes))
end_read bytes at le =
    let s = skipped bytes at le in
    elim (cases_lt s.0 (length bytes)) [
      | inl lt ↦ inr (s.0, place-skips bytes at s.0 [] s.1 ∙ place-rest bytes s.0 lt (s.1.stops lt), s.1.within)
      | inr past ↦ inl (place-skips bytes at s.0 [] s.1 ∙ place-end bytes s.0 (omega (arith, s.1.within, past)))
    ]
