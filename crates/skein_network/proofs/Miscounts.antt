-- No name is miscounted where each stands twice.
use Rattle.std.proofs.Common.{ℕ, List, sym, ◌∙◌, arith}
use Rattle.list_lemmas.proofs.Times.{member_of_times}
use Rattle.arc_pairing.specs.Counts.{StandsTwice, IsLeastMiscount}

pub never_miscounted : (names : List ℕ) (name count : ℕ) → ((x : ℕ) → StandsTwice names x) → IsLeastMiscount names name count → ⊥
never_miscounted names name count twice h =
    let stands = h.stands in let times = h.times in
    h.not_twice (sym times ∙ twice name (member_of_times name names (omega (arith, stands, times))))
