-- What an item adds: the nodes of a crossing or a vertex don't depend on the group that a loop would have, and a loop adds a free
-- loop exactly where its colour is 1.
use Rattle.std.proofs.Common.{◌≡◌, ◌≢◌, ℕ, zero, suc, ◌+◌, List, [], ◌∷◌, refl, ap}
use Rattle.root_quantum.specs.Parameters.{Parameters}
use Rattle.pd_reader.specs.declared.item.NetItem.TheVariants.{X, Y}
use Rattle.cables.specs.Strands.{Strands, first_names}
use Rattle.cables.specs.Cables.{item_nodes, loops_at}
use Rattle.skein_network.specs.Standings.{standing_at}

module _ (p : Parameters) (strands : Strands) (seen : List ℕ) (index group loop_group : ℕ) where
  pub crossing_anywhere : (slots : List ℕ) → item_nodes p strands (standing_at seen index group) (X slots) ≡ item_nodes p strands record { seen = seen; index = index; group = group; loop_group = loop_group } (X slots)
  crossing_anywhere [] = refl
  crossing_anywhere (a ∷ []) = refl
  crossing_anywhere (a ∷ b ∷ []) = refl
  crossing_anywhere (a ∷ b ∷ c ∷ []) = refl
  crossing_anywhere (a ∷ b ∷ c ∷ d ∷ []) = refl
  crossing_anywhere (a ∷ b ∷ c ∷ d ∷ e ∷ slots) = refl

  pub vertex_anywhere : (slots : List ℕ) → item_nodes p strands (standing_at seen index group) (Y slots) ≡ item_nodes p strands record { seen = seen; index = index; group = group; loop_group = loop_group } (Y slots)
  vertex_anywhere [] = refl
  vertex_anywhere (a ∷ []) = refl
  vertex_anywhere (a ∷ b ∷ []) = refl
  vertex_anywhere (a ∷ b ∷ c ∷ []) = refl
  vertex_anywhere (a ∷ b ∷ c ∷ d ∷ slots) = refl

pub one_loop : (n label : ℕ) → n ≡ 1 → loops_at (first_names n label) + 0 ≡ 1
one_loop n label h = ap (λ k. loops_at (first_names k label) + 0) h

pub no_free_loop : (n label : ℕ) → n ≢ 1 → loops_at (first_names n label) + 0 ≡ 0
no_free_loop zero label h = refl
no_free_loop (suc zero) label h = absurd (h refl)
no_free_loop (suc (suc n)) label h = refl
