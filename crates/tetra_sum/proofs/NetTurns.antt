-- In a colouring that is ready the colours of a face, and of a tetrahedron, fit their net and have projectors.
use Rattle.std.proofs.Common.{ℕ, ◌-◌, ◌<◌, List, [], length, get_or, arith}
use Rattle.pd_reader.specs.declared.item.NetItem.{NetItem}
use Rattle.planar_check.specs.Components.{greatest}
use Rattle.wenzl_table.specs.Inverses.{IsFirstCommon}
use Rattle.wenzl_table.specs.Tables.{Table}
use Rattle.wenzl_table.proofs.FirstCommons.{none_first}
use Rattle.tetra_reader.specs.declared.item.TetraItem.{TetraItem}
use Rattle.tetra_reader.specs.Tetras.{IsTetra, faces_of, tetrahedra_of}
use Rattle.tetra_sum.specs.Nets.{theta_net, tetrahedron_net}
use Rattle.tetra_sum.specs.Ready.{IsReady}
use Rattle.tetra_sum.specs.Sums.{text_labels, colours_at}
use Rattle.tetra_sum.proofs.ReadyNets.{Fits, face_fits, tetrahedron_fits_at}

module _ (table : Table) (items : List TetraItem) (colours : List ℕ) (ready : IsReady table items colours) where
  pub ready_face : IsTetra items → (i : ℕ) → i < length (faces_of items) →
      Fits table.top (table.params.level - 2) theta_net (text_labels items) (colours_at (text_labels items) colours (get_or (faces_of items) i []))
  ready_face tetra = face_fits table.params.level table.top items tetra colours ready.top ready.count ready.few ready.allowed

  pub ready_tetrahedron : IsTetra items → (i : ℕ) → i < length (tetrahedra_of items) →
      Fits table.top (table.params.level - 2) tetrahedron_net (text_labels items) (colours_at (text_labels items) colours (get_or (tetrahedra_of items) i []))
  ready_tetrahedron tetra = tetrahedron_fits_at table.params.level table.top items tetra colours ready.top ready.count ready.few ready.allowed

  pub no_common : (net : List NetItem) (list : List ℕ) → Fits table.top (table.params.level - 2) net (text_labels items) list → (index common : ℕ) →
      IsFirstCommon table.params (greatest list) index common → ⊥
  no_common net list fits index common h =
      let low = fits.low in
      none_first table.params (greatest list) index common (λ k a b. ready.projectors fits.some k a (omega (arith, b, low))) h
