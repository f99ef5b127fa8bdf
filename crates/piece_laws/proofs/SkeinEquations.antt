-- Equations modulo m of skein numbers, which the moves rest on.
use Rattle.std.proofs.Common.{◌≡◌, ℕ, ◌+◌, ◌*◌, ◌%◌, sym, ap, ◌∙◌, arith}
use Rattle.state_sums.specs.LocalSums.{AreSkeinNumbers}
use Rattle.state_sums.proofs.Congruent.{congruent_by}

-- the weights change places
pub exchanged_numbers : {m a b delta : ℕ} → AreSkeinNumbers m a b delta → AreSkeinNumbers m b a delta
exchanged_numbers {m} {a} {b} {delta} numbers = record {
  inverse = ap (λ n. n % m) (let e : b * a ≡ a * b = omega arith in e) ∙ numbers.inverse;
  loop = ap (λ n. n % m) (let e : delta + b * b + a * a ≡ delta + a * a + b * b = omega arith in e) ∙ numbers.loop;
}

-- what a curl comes to, and -a^3, cancel
pub curl_equation : (m a b delta : ℕ) → AreSkeinNumbers m a b delta → (a * delta + b + a * a * a) % m ≡ 0 % m
curl_equation m a b delta numbers = congruent_by m _ _ 1 (a * b) (delta + a * a + b * b) 0 b a (sym numbers.inverse) numbers.loop (omega arith)

-- of two crossings one on the other, the smoothings with a hook at one or both of them cancel
pub smoothings_cancel : (m a b delta : ℕ) → AreSkeinNumbers m a b delta → (a * a + b * b + a * b * delta) % m ≡ 0 % m
smoothings_cancel m a b delta numbers = congruent_by m _ _ (a * b) 1 (delta + a * a + b * b) 0 delta 1 numbers.inverse numbers.loop (omega arith)
