-- A product whose factors calls give one after the other, each from a member of a list. So far the notes are the table's, the store
-- keeps the net's values, the product is that of the factors, and no member was refused; so it is before the first member, and
-- after one more. A member that is refused is the first one.
--
--     IsAlong table of_net factor refusal items before notes kept_store i product      so it is after i members
use Rattle.std.proofs.Common.{◌≡◌, ℕ, ◌+◌, ◌<◌, ℤ, pos, ◌*ℤ◌, List, [], length, take, drop, get_or, Option, Some, None, refl, ap, ◌∙◌, arith}
use Rattle.std.proofs.lemmas.List.{drop_more}
use Rattle.ring_identities.specs.Residues.{residue}
use Rattle.pd_reader.specs.declared.item.NetItem.{NetItem}
use Rattle.wenzl_table.specs.Tables.{Table, Notes, IsOf, Keeps}
use Rattle.tetra_sum.specs.declared.fault.TetraFault.{TetraFault}
use Rattle.tetra_sum.specs.declared.known.Store.{Store}
use Rattle.tetra_sum.specs.Known.{IsStore}
use Rattle.tetra_sum.specs.Refusals.{first_of}
use Rattle.tetra_sum.specs.Sums.{product_over}
use Rattle.tetra_sum.proofs.KeptNotes.{keeps_itself, keeps_twice}
use Rattle.tetra_sum.proofs.ProductSteps.{no_product, product_more}
use Rattle.tetra_sum.proofs.Walks.{passed_one, stopped_at}

pub record IsAlong (table : Table) (of_net : List NetItem) (factor : List ℕ → ℤ) (refusal : ℕ → List ℕ → Option TetraFault) (items : List (List ℕ)) (before notes : Notes) (kept_store : Store)
    (i product : ℕ) : Type 0 where
  pub of : IsOf notes table
  pub kept : Keeps before notes
  pub net : kept_store.net ≡ of_net
  pub store : IsStore table.params kept_store
  pub value : product ≡ residue table.params.modulus (product_over factor (take i items))
  pub below : product < table.params.modulus
  pub left : first_of refusal 1 items ≡ first_of refusal (i + 1) (drop i items)

module _ (table : Table) (of_net : List NetItem) (factor : List ℕ → ℤ) (refusal : ℕ → List ℕ → Option TetraFault) (items : List (List ℕ)) (before : Notes) where
  pub along_start : (kept_store : Store) → IsOf before table → kept_store.net ≡ of_net → IsStore table.params kept_store → IsAlong table of_net factor refusal items before before kept_store 0 1
  along_start kept_store of net store =
      let low = table.params.meets.modulus.0 in
      record {
        of = of;
        kept = keeps_itself before;
        net = net;
        store = store;
        value = no_product table.params.modulus factor (omega (arith, low));
        below = omega (arith, low);
        left = refl;
      }

  module _ (notes : Notes) (kept_store : Store) (i product : ℕ) (within : i < length items) (along : IsAlong table of_net factor refusal items before notes kept_store i product) where
    -- one member more
    pub along_next : (after : Notes) (next_store : Store) (value next : ℕ) → IsOf after table → Keeps notes after → next_store.net ≡ of_net → IsStore table.params next_store →
        pos value ≡ factor (get_or items i []) → refusal (i + 1) (get_or items i []) ≡ None → next ≡ residue table.params.modulus (pos product *ℤ pos value) → next < table.params.modulus →
        IsAlong table of_net factor refusal items before after next_store (i + 1) next
    along_next after next_store value next of kept net store value_is passed next_is below =
        let low = table.params.meets.modulus.0 in
        record {
          of = of;
          kept = keeps_twice before notes after along.kept kept;
          net = net;
          store = store;
          value = product_more table.params.modulus factor items i [] product value next (omega (arith, low)) within along.value value_is next_is;
          below = below;
          left = along.left ∙ ap (first_of refusal (i + 1)) (drop_more items i [] within) ∙ passed_one refusal (i + 1) (get_or items i []) (drop (i + 1) items) passed;
        }

    -- the first that is refused
    pub along_refused : (fault : TetraFault) → refusal (i + 1) (get_or items i []) ≡ Some fault → first_of refusal 1 items ≡ Some fault
    along_refused fault refused = along.left ∙ ap (first_of refusal (i + 1)) (drop_more items i [] within) ∙ stopped_at refusal (i + 1) (get_or items i []) (drop (i + 1) items) fault refused
