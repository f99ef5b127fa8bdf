-- The product of the factors of all components is the product of the Delta times the twists, and with the coloured value it is the
-- colouring's term.
use Rattle.std.proofs.Common.{◌≡◌, ℕ, ◌+◌, ◌<◌, ◌≤◌, ℤ, pos, ◌*ℤ◌, ◌-ℤ◌, List, [], ◌∷◌, length, drop, get_or, drop-cons, refl, sym, ap, ap₂, subst, ◌∙◌, arith, add-one, mod-lt}
use Rattle.std.proofs.lemmas.List.{drop_all}
use Rattle.ring_identities.specs.Residues.{residue, Congruent}
use Rattle.ring_identities.proofs.Congruences.{congruent_refl, congruent_eq, congruent_sym, congruent_trans, congruent_times, residue_congruent, same_residue, residue_small}
use Rattle.ring_identities.proofs.Identities.{reads, by_ring}
use Rattle.ring_identities.proofs.Integers.{one_times, times_one}
use Rattle.state_sums.specs.StateSums.{value, state_sum}
use Rattle.state_sums.specs.Networks.{Network}
use Rattle.root_quantum.specs.Colours.{form_colours}
use Rattle.planar_check.specs.Components.{least_labels}
use Rattle.kirby_terms.specs.Colourings.{colouring_at}
use Rattle.root_quantum.specs.Parameters.{Parameters}
use Rattle.root_quantum.specs.QuantumNumbers.{loop_value, delta, twist}
use Rattle.pd_reader.specs.declared.item.Item.{Item}
use Rattle.planar_check.specs.Framings.{FramedDiagram}
use Rattle.planar_check.specs.Signs.{writhe}
use Rattle.coloured_values.specs.Coloured.{coloured, twists, framed}
use Rattle.coloured_values.specs.Surgery.{deltas}
use Rattle.kirby_terms.specs.Terms.{kirby_term, network_of, chosen_colours}

-- what the components behind the first k multiply by
abbrev pub rest : Parameters → List Item → ℕ → List ℤ → List ℕ → ℤ
rest p items k framings colours = deltas p (drop k colours) *ℤ twists p items (k + 1) (drop k framings) (drop k colours)

abbrev pub factor_of : Parameters → List Item → ℕ → List ℤ → ℕ → ℤ
factor_of p items k framings n = pos (delta p n) *ℤ pos (twist p n (get_or framings k (pos 0) -ℤ writhe items (k + 1)))

rest_more : (p : Parameters) (items : List Item) (k : ℕ) (framings : List ℤ) (colours : List ℕ) → k < length framings → k < length colours →
    rest p items k framings colours ≡ factor_of p items k framings (get_or colours k 0) *ℤ rest p items (k + 1) framings colours
rest_more p items k framings colours h g =
    let n = get_or colours k 0 in
    let t = get_or framings k (pos 0) in
    let cs = drop (k + 1) colours in
    let ts = drop (k + 1) framings in
    let colours_are : drop k colours ≡ n ∷ cs = drop-cons colours k 0 g ∙ ap (λ j. n ∷ drop j colours) (sym (add-one k)) in
    let framings_are : drop k framings ≡ t ∷ ts = drop-cons framings k (pos 0) h ∙ ap (λ j. t ∷ drop j framings) (sym (add-one k)) in
    ap₂ (λ xs ys. deltas p xs *ℤ twists p items (k + 1) ys xs) colours_are framings_are
    ∙ by_ring (pos (delta p n) ∷ deltas p cs ∷ pos (twist p n (t -ℤ writhe items (k + 1))) ∷ twists p items (k + 1 + 1) ts cs ∷ []) (search reads depth 30) (search reads depth 30) refl

-- ONE TURN
pub one_factor : (p : Parameters) (items : List Item) (k product term next : ℕ) (framings : List ℤ) (colours : List ℕ) → k < length framings → k < length colours →
    Congruent p.modulus (pos product *ℤ rest p items k framings colours) (rest p items 0 framings colours) → term ≡ residue p.modulus (factor_of p items k framings (get_or colours k 0)) →
    next ≡ residue p.modulus (pos product *ℤ pos term) → Congruent p.modulus (pos next *ℤ rest p items (k + 1) framings colours) (rest p items 0 framings colours)
one_factor p items k product term next framings colours h g before term_is next_is =
    let m = p.modulus in
    let low = p.meets.modulus.0 in
    let some : 0 < m = omega (arith, low) in
    let f = factor_of p items k framings (get_or colours k 0) in
    let r = rest p items (k + 1) framings colours in
    let new : Congruent m (pos term) f = congruent_trans (congruent_eq (ap pos term_is)) (congruent_sym (residue_congruent m f some)) in
    let both : Congruent m (pos next) (pos product *ℤ f) =
    congruent_trans (congruent_eq (ap pos next_is)) (congruent_trans (congruent_sym (residue_congruent m (pos product *ℤ pos term) some)) (congruent_times (congruent_refl m (pos product)) new)) in
    congruent_trans (congruent_times both (congruent_refl m r))
    (congruent_trans (congruent_eq (by_ring (pos product ∷ f ∷ r ∷ []) (search reads depth 30) (search reads depth 30) refl))
    (congruent_trans (congruent_times (congruent_refl m (pos product)) (congruent_eq (sym (rest_more p items k framings colours h g)))) before))

-- at the beginning
pub no_factor : (p : Parameters) (items : List Item) (framings : List ℤ) (colours : List ℕ) → Congruent p.modulus (pos 1 *ℤ rest p items 0 framings colours) (rest p items 0 framings colours)
no_factor p items framings colours = congruent_eq (one_times (rest p items 0 framings colours))

-- at the end
pub all_factors : (p : Parameters) (items : List Item) (k product : ℕ) (framings : List ℤ) (colours : List ℕ) → length framings ≤ k → length colours ≤ k → product < p.modulus →
    Congruent p.modulus (pos product *ℤ rest p items k framings colours) (rest p items 0 framings colours) → product ≡ residue p.modulus (deltas p colours *ℤ twists p items 1 framings colours)
all_factors p items k product framings colours h g below before =
    let m = p.modulus in
    let low = p.meets.modulus.0 in
    let some : 0 < m = omega (arith, low) in
    let none : rest p items k framings colours ≡ pos 1 = ap₂ (λ xs ys. deltas p xs *ℤ twists p items (k + 1) ys xs) (drop_all k colours g) (drop_all k framings h) in
    sym (residue_small m product below) ∙ same_residue some (congruent_trans (congruent_eq (sym (ap (λ z. pos product *ℤ z) none ∙ times_one (pos product)))) before)

-- THE TERM OF A COLOURING
pub term_is : (p : Parameters) (diagram : FramedDiagram) (colours : List ℕ) (m value weight result : ℕ) → m ≡ p.modulus → value ≡ coloured p diagram.items colours →
    weight ≡ residue p.modulus (deltas p colours *ℤ twists p diagram.items 1 diagram.framings colours) → result ≡ residue m (pos value *ℤ pos weight) →
    result ≡ residue p.modulus (kirby_term p diagram colours)
unfolding framed
term_is p diagram colours m value weight result m_is value_is weight_is result_is =
    let low = p.meets.modulus.0 in
    let some : 0 < p.modulus = omega (arith, low) in
    let d = deltas p colours in
    let t = twists p diagram.items 1 diagram.framings colours in
    let w : Congruent p.modulus (pos weight) (d *ℤ t) = congruent_trans (congruent_eq (ap pos weight_is)) (congruent_sym (residue_congruent p.modulus (d *ℤ t) some)) in
    result_is ∙ ap (λ k. residue k (pos value *ℤ pos weight)) m_is
    ∙ same_residue some
    (congruent_trans (congruent_times (congruent_eq (ap pos value_is)) w)
    (congruent_trans (congruent_eq (by_ring (pos (coloured p diagram.items colours) ∷ d ∷ t ∷ []) (search reads depth 30) (search reads depth 30) refl))
    (congruent_times (congruent_refl p.modulus d) (residue_congruent p.modulus (pos (coloured p diagram.items colours) *ℤ t) some))))

pub contracted : (p : Parameters) (diagram : FramedDiagram) (colours : List ℕ) (sum : ℕ) → sum ≡ value p.modulus (loop_value p) (network_of p diagram colours) → sum ≡ coloured p diagram.items colours
unfolding coloured
contracted p diagram colours sum e = e

-- a value is a residue
pub value_below : (m delta : ℕ) (network : Network) (sum : ℕ) → 0 < m → sum ≡ value m delta network → sum < m
unfolding value
value_below m delta network sum some e = subst (λ n. n < m) (sym e) (mod-lt (state_sum delta network) some)

-- the colours that were chosen
pub chosen : (p q : Parameters) (diagram : FramedDiagram) (items : List Item) (n index : ℕ) (colours : List ℕ) → q ≡ p → n ≡ length (least_labels items) → items ≡ diagram.items →
    colours ≡ colouring_at (form_colours q) n index → colours ≡ chosen_colours p diagram index
chosen p q diagram items n index colours q_is n_is items_is e =
    e ∙ ap₂ (λ r k. colouring_at (form_colours r) k index) q_is (n_is ∙ ap (λ xs. length (least_labels xs)) items_is)
