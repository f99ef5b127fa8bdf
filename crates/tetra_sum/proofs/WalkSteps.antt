-- The walk over the admissible colourings finds what one over all colourings does.
use Rattle.std.proofs.Common.{◌≡◌, ℕ, ◌+◌, ◌-◌, ◌^◌, ◌<◌, ◌≤◌, Bool, true, false, if◌then◌else◌, pos, ◌*ℤ◌, List, [], length, get_or, filter, Option, None, sym, ap, ap₂, subst, subst₂, ◌∙◌, arith, All}
use Rattle.std.specs.Option.{option_or}
use Rattle.ring_identities.specs.Residues.{residue}
use Rattle.root_quantum.specs.Parameters.{Parameters}
use Rattle.coloured_values.specs.Surgery.{colour_lists, deltas, sum_over}
use Rattle.kirby_terms.specs.Colourings.{colouring_at}
use Rattle.wenzl_table.specs.Tables.{Table}
use Rattle.tetra_reader.specs.declared.item.TetraItem.{TetraItem}
use Rattle.tetra_reader.specs.Tetras.{faces_of, tetrahedra_of}
use Rattle.tetra_sum.specs.declared.fault.TetraFault.{TetraFault}
use Rattle.tetra_sum.specs.Colourings.{colours_below, are_allowed}
use Rattle.tetra_sum.specs.Ready.{HasProjectors, IsReady}
use Rattle.tetra_sum.specs.Refusals.{first_of, faces_refusal, tetrahedra_refusal, colouring_refusal, walk_refusal}
use Rattle.tetra_sum.specs.Sums.{text_labels, weight, tets, theta_inverses, colourings, weight_sum}
use Rattle.tetra_sum.proofs.Walks.{sum_kept, first_kept, digits_from, digits_at, IsColouring, is_colouring, kept_at}

module _ (p : Parameters) (items : List TetraItem) where
  abbrev pub admitted : List ℕ → Bool
  admitted colours = are_allowed p.level (text_labels items) colours (faces_of items)

  -- the number of a colouring
  abbrev pub number : List ℕ → ℕ
  number colours = digits_from (p.level - 1) 0 colours + 1

  -- the first refusal of these colourings, each by its own number
  abbrev pub walked : List (List ℕ) → Option TetraFault
  walked = first_of (λ _ colours. colouring_refusal p items (number colours) colours) 0

  not_admitted : (n : ℕ) (colours : List ℕ) → admitted colours ≡ false → colouring_refusal p items n colours ≡ None
  not_admitted n colours e =
      ap
      (λ (b : Bool). if b
      then option_or (faces_refusal p (text_labels items) n colours (faces_of items)) (tetrahedra_refusal p (text_labels items) n colours (tetrahedra_of items))
      else None)
      e

  no_weight : (colours : List ℕ) → admitted colours ≡ false → weight p items colours ≡ pos 0
  no_weight colours e =
      ap
      (λ (b : Bool). if b
      then deltas p colours *ℤ tets p (text_labels items) colours (tetrahedra_of items) *ℤ theta_inverses p (text_labels items) colours (faces_of items)
      else pos 0)
      e

  -- what an admitted colouring gives
  pub admitted_weight : (colours : List ℕ) → admitted colours ≡ true →
      weight p items colours ≡ deltas p colours *ℤ tets p (text_labels items) colours (tetrahedra_of items) *ℤ theta_inverses p (text_labels items) colours (faces_of items)
  admitted_weight colours e =
      ap
      (λ (b : Bool). if b
      then deltas p colours *ℤ tets p (text_labels items) colours (tetrahedra_of items) *ℤ theta_inverses p (text_labels items) colours (faces_of items)
      else pos 0)
      e

  pub admitted_refusal : (n : ℕ) (colours : List ℕ) → admitted colours ≡ true →
      colouring_refusal p items n colours
      ≡ option_or (faces_refusal p (text_labels items) n colours (faces_of items)) (tetrahedra_refusal p (text_labels items) n colours (tetrahedra_of items))
  admitted_refusal n colours e =
      ap
      (λ (b : Bool). if b
      then option_or (faces_refusal p (text_labels items) n colours (faces_of items)) (tetrahedra_refusal p (text_labels items) n colours (tetrahedra_of items))
      else None)
      e

  some_colours : 0 < p.level - 1
  some_colours = let low = p.meets.level.0 in omega (arith, low)

  -- THE WALK
  pub walk_is : (list : List (List ℕ)) → list ≡ filter admitted (colourings p items) → walk_refusal p items ≡ walked list
  walk_is list is =
      sym
      (ap walked is
      ∙ first_kept admitted (colouring_refusal p items) number not_admitted 1 [] (colourings p items)
      (λ k h e. (let d = digits_at (p.level - 1) (length (text_labels items)) k some_colours h in omega (arith, d))))

  -- THE SUM
  pub sum_is : (list : List (List ℕ)) → list ≡ filter admitted (colourings p items) → residue p.modulus (sum_over (weight p items) list) ≡ weight_sum p items
  unfolding weight_sum
  sum_is list is = ap (λ xs. residue p.modulus (sum_over (weight p items) xs)) is ∙ ap (residue p.modulus) (sum_kept admitted (weight p items) no_weight (colourings p items))

  -- A COLOURING OF THE LIST
  pub record IsListed (colours : List ℕ) : Type 0 where
    pub colouring : IsColouring (p.level - 1) (length (text_labels items)) colours
    pub passes : admitted colours ≡ true

  pub listed_at : (list : List (List ℕ)) (i : ℕ) → list ≡ filter admitted (colourings p items) → i < length list → IsListed (get_or list i [])
  listed_at list i is h =
      let P : List (List ℕ) → Type 0 = λ xs. i < length xs → IsListed (get_or xs i []) in
      subst P (sym is)
      (λ l.
      let k = kept_at admitted (colourings p items) i [] l in
      record { colouring = is_colouring (p.level - 1) (length (text_labels items)) k.place (get_or (filter admitted (colourings p items)) i []) some_colours k.below k.there; passes = k.passes })
      h

  -- its colours are low, and they are few
  low_at : (colours : List ℕ) → IsListed colours → All (λ colour. colour ≤ p.level - 2) colours
  low_at colours h = λ i d l. (let low = h.colouring.few i d l in omega (arith, low))

  pub low_colours : (colours : List ℕ) → IsListed colours → (r : ℕ) (seen : List ℕ) → r ≡ p.level → seen ≡ colours → All (λ colour. colour ≤ r - 2) seen
  low_colours colours h r seen r_is seen_is = subst₂ (λ (q : ℕ) (list : List ℕ). All (λ colour. colour ≤ q - 2) list) (sym r_is) (sym seen_is) (low_at colours h)

  pub small_power : (colours : List ℕ) → IsListed colours → (r : ℕ) (seen : List ℕ) → r ≡ p.level → seen ≡ colours → (p.level - 1) ^ length (text_labels items) ≤ 65536 →
      (r - 1) ^ length seen ≤ 65536
  small_power colours h r seen r_is seen_is small =
      let few : (p.level - 1) ^ length colours ≤ 65536 = subst (λ (n : ℕ). (p.level - 1) ^ n ≤ 65536) (sym h.colouring.count) small in
      subst₂ (λ (q : ℕ) (list : List ℕ). (q - 1) ^ length list ≤ 65536) (sym r_is) (sym seen_is) few

  -- what tells its number tells its own
  pub own_number : (colours : List ℕ) → IsListed colours → (r : ℕ) (seen : List ℕ) → r ≡ p.level → seen ≡ colours → (n : ℕ) →
      ((k : ℕ) → 1 ≤ k → k ≤ (r - 1) ^ length seen → colouring_at (colours_below r) (length seen) k ≡ seen → n ≡ k) → n ≡ number colours
  own_number colours h r seen r_is seen_is n =
      subst₂ (λ (q : ℕ) (list : List ℕ). ((k : ℕ) → 1 ≤ k → k ≤ (q - 1) ^ length list → colouring_at (colours_below q) (length list) k ≡ list → n ≡ k) → n ≡ number colours) (sym r_is) (sym seen_is)
      (λ tells.
      let c = h.colouring in
      let low = c.below in
      let same = c.digits in
      let power : (p.level - 1) ^ length colours ≡ (p.level - 1) ^ length (text_labels items) = ap (λ m. (p.level - 1) ^ m) c.count in
      let less : c.place + 1 - 1 ≡ c.place = omega arith in
      let there : colouring_at (colours_below p.level) (length colours) (c.place + 1) ≡ colours =
      ap₂ (λ m k. get_or (colour_lists (colours_below p.level) m) k []) c.count less ∙ c.there in
      tells (c.place + 1) (omega arith) (omega (arith, low, power)) there ∙ omega (arith, same))

  -- A COLOURING OF THE LIST IS READY
  pub ready_at : (table : Table) → table.params ≡ p → (colours : List ℕ) → IsListed colours → p.level - 2 ≤ table.top → HasProjectors p items → (seen : List ℕ) → seen ≡ colours →
      IsReady table items seen
  ready_at table table_is colours h top projectors seen seen_is =
      let level : table.params.level ≡ p.level = ap (λ q. q.level) table_is in
      subst (λ (list : List ℕ). IsReady table items list) (sym seen_is)
      (record {
        top = omega (arith, level, top);
        projectors = subst (λ (q : Parameters). HasProjectors q items) (sym table_is) projectors;
        count = h.colouring.count;
        few = λ i d l. (let low = h.colouring.few i d l in omega (arith, low, level));
        allowed = ap (λ q. are_allowed q (text_labels items) colours (faces_of items)) level ∙ h.passes;
      })
