use Rattle.std.proofs.Common.{◌≡◌, ℕ, ◌%◌, List, drop, take, length}
use Rattle.arc_pairing.specs.Codes.{code_of, digits_of}
use Rattle.arc_pairing.specs.Pairings.{IsShortPairing}
use Rattle.arc_pairing.proofs.CodeDigits.{digits_then}
use Rattle.arc_pairing.proofs.pairing.Pairing.from_code.Given as goal

abbrev pub invariant-loop-at : goal.invariant-loop-at
invariant-loop-at l = record {
  long : length l.partner ≡ 24;
  so_far : (p : List ℕ) → IsShortPairing p → l.fn.code ≡ code_of p → (l.rest ≡ digits_of (drop l.at p)) × (take l.at l.partner ≡ take l.at p);
  taken : digits_then (take l.at l.partner) l.rest ≡ l.fn.code % 1329227995784915872903807060280344576;
}
