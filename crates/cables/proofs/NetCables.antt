-- A net at which nothing is refused has fitting colours, so its cable is a network.
use Rattle.std.proofs.Common.{◌≡◌, ℕ, ◌+◌, ◌%◌, ◌≤◌, ◌==◌, ◌&&◌, nat_le, true, if◌then◌else◌, List, [], ◌∷◌, length, Some, None, sym, ap, ap₂, ◌∙◌, arith, ⊎_elim}
use Rattle.std.specs.List.{AllByRecursion}
use Rattle.std.proofs.lemmas.Bool.{cases_Bool, eqb-true, and_parts}
use Rattle.std.proofs.lemmas.Bool.Decides.{nat_tests}
use Rattle.root_quantum.specs.Parameters.{Parameters}
use Rattle.pd_reader.specs.declared.item.NetItem.{NetItem}
use Rattle.pd_reader.specs.declared.item.NetItem.TheVariants.{X, Y, Loop}
use Rattle.pd_reader.specs.Items.{HasItsEdges}
use Rattle.cables.specs.Cables.{Fits, IsAdmissible}
use Rattle.cables.specs.Nets.{projector_of, net_strands, is_admissible, first_unequal, first_inadmissible}
use Rattle.cables.specs.Laws.{NetCableIsNetworkLaw}
use Rattle.cables.proofs.CableLaws.{cable_network}
use Rattle.cables.proofs.NumberedStrands.{first_length}
use Rattle.cables.proofs.ProjectorBoxes.{projector_boxes}

admissible : (a b c : ℕ) → is_admissible a b c ≡ true → IsAdmissible a b c
admissible a b c h =
    let t = and_parts ((a + b + c) % 2 == 0) (nat_le a (b + c) && (nat_le b (c + a) && nat_le c (a + b))) h in
    let u = and_parts (nat_le a (b + c)) (nat_le b (c + a) && nat_le c (a + b)) t.1 in
    let v = and_parts (nat_le b (c + a)) (nat_le c (a + b)) u.1 in
    record { even = eqb-true ((a + b + c) % 2) 0 t.0; first = le a (b + c) u.0; second = le b (c + a) v.0; third = le c (a + b) v.1 }
  where
    le : (x y : ℕ) → nat_le x y ≡ true → x ≤ y
    le x y t = grind (arith, nat_tests, t)

module _ (p : Parameters) (colour : ℕ → ℕ) where
  long : (label : ℕ) → length ((net_strands p colour).first label) ≡ colour label
  long = first_length colour (λ label. nat_le 2 (colour label)) (projector_of p)

  pub net_fits : (items : List NetItem) (number : ℕ) → AllByRecursion HasItsEdges items → first_unequal colour items ≡ None → first_inadmissible colour number items ≡ None → AllByRecursion (Fits (net_strands p colour)) items
  net_fits [] number sizes u v = tt
  net_fits (X (a ∷ b ∷ c ∷ d ∷ []) ∷ items) number sizes u v =
      ⊎_elim
      (λ s.
      ⊎_elim
      (λ t.
      let rest : first_unequal colour items ≡ None =
      sym (ap₂ (λ x y. if x then (if y then first_unequal colour items else Some d) else Some c) s t) ∙ u in
      ((long a ∙ eqb-true (colour a) (colour c) s ∙ sym (long c), long b ∙ eqb-true (colour b) (colour d) t ∙ sym (long d)), net_fits items number sizes.1 rest v))
      (λ t. let some : Some d ≡ None = sym (ap₂ (λ x y. if x then (if y then first_unequal colour items else Some d) else Some c) s t) ∙ u in absurd (cc some))
      (cases_Bool (colour b == colour d)))
      (λ s. let some : Some c ≡ None = sym (ap (λ x. if x then (if colour b == colour d then first_unequal colour items else Some d) else Some c) s) ∙ u in absurd (cc some))
      (cases_Bool (colour a == colour c))
  net_fits (X [] ∷ items) number sizes u v = absurd (let k = sizes.0 in omega (arith, k))
  net_fits (X (a ∷ []) ∷ items) number sizes u v = absurd (let k = sizes.0 in omega (arith, k))
  net_fits (X (a ∷ b ∷ []) ∷ items) number sizes u v = absurd (let k = sizes.0 in omega (arith, k))
  net_fits (X (a ∷ b ∷ c ∷ []) ∷ items) number sizes u v = absurd (let k = sizes.0 in omega (arith, k))
  net_fits (X (a ∷ b ∷ c ∷ d ∷ e ∷ slots) ∷ items) number sizes u v = absurd (let k = sizes.0 in omega (arith, k))
  net_fits (Y (x ∷ y ∷ z ∷ []) ∷ items) number sizes u v =
      ⊎_elim
      (λ s.
      let rest : first_inadmissible colour (number + 1) items ≡ None = sym (ap (λ t. if t then first_inadmissible colour (number + 1) items else Some number) s) ∙ v in
      let fit = admissible (colour x) (colour y) (colour z) s in
      let e = fit.even in let i = fit.first in let j = fit.second in let k = fit.third in
      let lx = long x in let ly = long y in let lz = long z in (
        record { even = ap (λ n. n % 2) (ap₂ (λ a b. a + b) (ap₂ (λ a b. a + b) lx ly) lz) ∙ e; first = omega (arith, lx, ly, lz, i); second = omega (arith, lx, ly, lz, j); third = omega (arith, lx, ly, lz, k) },
        net_fits items (number + 1) sizes.1 u rest,
      ))
      (λ s. let some : Some number ≡ None = sym (ap (λ t. if t then first_inadmissible colour (number + 1) items else Some number) s) ∙ v in absurd (cc some))
      (cases_Bool (is_admissible (colour x) (colour y) (colour z)))
  net_fits (Y [] ∷ items) number sizes u v = absurd (let k = sizes.0 in omega (arith, k))
  net_fits (Y (a ∷ []) ∷ items) number sizes u v = absurd (let k = sizes.0 in omega (arith, k))
  net_fits (Y (a ∷ b ∷ []) ∷ items) number sizes u v = absurd (let k = sizes.0 in omega (arith, k))
  net_fits (Y (a ∷ b ∷ c ∷ d ∷ edges) ∷ items) number sizes u v = absurd (let k = sizes.0 in omega (arith, k))
  net_fits (Loop label ∷ items) number sizes u v = (tt, net_fits items number sizes.1 u v)

-- THE CABLE OF A NET
pub net_network : NetCableIsNetworkLaw
net_network p items colour net few u v =
    cable_network p colour (λ label. nat_le 2 (colour label)) (projector_of p) items net few (projector_boxes p) (net_fits p colour items 1 net.sizes u v)
