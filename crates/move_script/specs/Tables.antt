-- What the code of moves keeps in tables.
--
--     IsMade wanted result        the result is the wanted one, or want of memory
--     cut_by cuts place label     the label that the first cut at the place gives, or else the label
--     anew new number slots       the slots that the first entry with the number gives, or else the slots
--     joined joins label          the label after each join, of a and b, by which both become the lesser one
use Rattle.std.specs.Prelude.{◌≡◌, ◌⊎◌, ℕ, ◌==◌, ◌||◌, min, if◌then◌else◌, List, [], ◌∷◌, Err}
use Rattle.std.specs.List.{fold}
use Rattle.diagram_moves.specs.Steps.{Answer}
use Rattle.diagram_moves.specs.declared.fault.MoveFault.TheVariants as faults

abbrev pub IsMade : Answer → Answer → Type 0
IsMade wanted result = (result ≡ Err faults.Memory) ⊎ (result ≡ wanted)

abbrev pub cut_by : List (ℕ × ℕ) → ℕ → ℕ → ℕ
cut_by [] place label = label
cut_by (cut ∷ cuts) place label = if place == cut.0 then cut.1 else cut_by cuts place label

abbrev pub anew : List (ℕ × List ℕ) → ℕ → List ℕ → List ℕ
anew [] number slots = slots
anew (new ∷ more) number slots = if number == new.0 then new.1 else anew more number slots

abbrev pub join_one : ℕ → ℕ × ℕ → ℕ
join_one label join = if label == join.0 || label == join.1 then min join.0 join.1 else label

abbrev pub joined : List (ℕ × ℕ) → ℕ → ℕ
joined joins label = fold join_one label joins
