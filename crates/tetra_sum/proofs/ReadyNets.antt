-- In a colouring that all faces allow the colours of each face and of each tetrahedron fit their nets.
--
--     faces_three, tetrahedra_six     a face has three labels, a tetrahedron six
--     listed_at                       the faces of each tetrahedron are listed
--     Fits, face_fits, tetrahedron_fits      the colours there fit the net, and none is above r-2
use Rattle.std.proofs.Common.{◌≡◌, ℕ, zero, suc, ◌-◌, ◌<◌, ◌≤◌, ◌==◌, Bool, true, false, cond, nat_lt, List, [], ◌∷◌, ◌++◌, length, get_or, Option, Some, None, option_map, unwrap_or, refl, sym, ap, subst, ◌∙◌, arith, All}
use Rattle.std.specs.List.{AllByRecursion}
use Rattle.std.specs.Set.{is_member}
use Rattle.std.proofs.lemmas.Bool.{eq-eqb, or_left, or_right, and_parts}
use Rattle.std.proofs.lemmas.Bool.Decides.{nat_tests}
use Rattle.planar_check.specs.Components.{greatest}
use Rattle.planar_check.proofs.ComponentLists.{distinct-member}
use Rattle.cables.specs.Nets.{is_admissible}
use Rattle.pd_reader.specs.declared.item.NetItem.{NetItem}
use Rattle.skein_network.specs.Refusals.{net_refusal}
use Rattle.tetra_reader.specs.declared.item.TetraItem.{TetraItem}
use Rattle.tetra_reader.specs.declared.item.TetraItem.TheVariants as items
use Rattle.tetra_reader.specs.declared.fault.TetraText.TheVariants as faults
use Rattle.tetra_reader.specs.declared.tetra.TheConstants.{MOST_ITEMS}
use Rattle.tetra_reader.specs.Tetras.{IsTextTetraItem, IsTetra, faces_of, tetrahedra_of, is_listed, has_faces, first_unlisted}
use Rattle.tetra_sum.specs.Colourings.{colour_of, allows, are_allowed}
use Rattle.tetra_sum.specs.Nets.{theta_net, tetrahedron_net}
use Rattle.tetra_sum.specs.Sums.{all_labels, text_labels, colours_at}
use Rattle.tetra_sum.proofs.FitNets.{theta_fits, tetrahedron_fits}
use Rattle.tetra_sum.proofs.ListedFaces.{allowed_at, at_face, at_listed}
use Rattle.tetra_sum.proofs.Presence.{HasColour, found_colour, member_first, member_back, member_at, three, six}

-- ---- what the text keeps
pub faces_three : (vs : List TetraItem) → AllByRecursion IsTextTetraItem vs → (i : ℕ) → i < length (faces_of vs) → length (get_or (faces_of vs) i []) ≡ 3
faces_three [] spelled i h = absurd (omega (arith, h))
faces_three (items.F labels ∷ vs) spelled zero h = spelled.0.count_is
faces_three (items.F labels ∷ vs) spelled (suc i) h = faces_three vs spelled.1 i (omega (arith, h))
faces_three (items.T labels ∷ vs) spelled i h = faces_three vs spelled.1 i h

pub tetrahedra_six : (vs : List TetraItem) → AllByRecursion IsTextTetraItem vs → (i : ℕ) → i < length (tetrahedra_of vs) → length (get_or (tetrahedra_of vs) i []) ≡ 6
tetrahedra_six [] spelled i h = absurd (omega (arith, h))
tetrahedra_six (items.T labels ∷ vs) spelled zero h = spelled.0.count_is
tetrahedra_six (items.T labels ∷ vs) spelled (suc i) h = tetrahedra_six vs spelled.1 i (omega (arith, h))
tetrahedra_six (items.F labels ∷ vs) spelled i h = tetrahedra_six vs spelled.1 i h

pub few_faces : (vs : List TetraItem) → length (faces_of vs) ≤ length vs
few_faces [] = omega arith
few_faces (items.F labels ∷ vs) = let rest = few_faces vs in omega (arith, rest)
few_faces (items.T labels ∷ vs) = let rest = few_faces vs in omega (arith, rest)

none_map : (o : Option ℕ) → option_map (λ tetrahedron. faults.Face tetrahedron) o ≡ None → o ≡ None
none_map None e = refl
none_map (Some n) e = absurd (cc)

none_of : (many : Bool) (o : Option ℕ) → cond many (Some (faults.TooMany MOST_ITEMS)) (option_map (λ tetrahedron. faults.Face tetrahedron) o) ≡ None → (many ≡ false) × (o ≡ None)
none_of true o e = absurd (cc)
none_of false o e = (refl, none_map o e)

later : (o : Option ℕ) → option_map suc o ≡ None → o ≡ None
later None e = refl
later (Some n) e = absurd (cc)

listed_at : (faces ts : List (List ℕ)) (i : ℕ) → i < length ts → first_unlisted faces ts ≡ None → has_faces faces (get_or ts i []) ≡ true
listed_at faces [] i h e = absurd (omega (arith, h))
listed_at faces (t ∷ ts) i h e = by_test (has_faces faces t) refl i h (λ k l d. listed_at faces ts k l d)
  where
    by_test : (b : Bool) → has_faces faces t ≡ b → (i : ℕ) → i < length (t ∷ ts) → ((k : ℕ) → k < length ts → first_unlisted faces ts ≡ None → has_faces faces (get_or ts k []) ≡ true)
        → has_faces faces (get_or (t ∷ ts) i []) ≡ true
    by_test false f i h rest = let wrong : Some 1 ≡ None = sym (ap (λ (b : Bool). cond b (option_map suc (first_unlisted faces ts)) (Some 1)) f) ∙ e in absurd (cc)
    by_test true f zero h rest = f
    by_test true f (suc i) h rest =
        let none : option_map suc (first_unlisted faces ts) ≡ None = sym (ap (λ (b : Bool). cond b (option_map suc (first_unlisted faces ts)) (Some 1)) f) ∙ e in
        rest i (omega (arith, h)) (later (first_unlisted faces ts) none)

pub has_faces_at : (vs : List TetraItem) → IsTetra vs → (i : ℕ) → i < length (tetrahedra_of vs) → has_faces (faces_of vs) (get_or (tetrahedra_of vs) i []) ≡ true
has_faces_at vs tetra i h =
    listed_at (faces_of vs) (tetrahedra_of vs) i h (none_of (nat_lt MOST_ITEMS (length vs)) (first_unlisted (faces_of vs) (tetrahedra_of vs)) tetra.unrefused).1

pub faces_at_most : (vs : List TetraItem) → IsTetra vs → length (faces_of vs) ≤ 256
faces_at_most vs tetra =
    let test = (none_of (nat_lt MOST_ITEMS (length vs)) (first_unlisted (faces_of vs) (tetrahedra_of vs)) tetra.unrefused).0 in
    let few = few_faces vs in
    let low : length vs ≤ 256 = grind (arith, nat_tests, test) in
    omega (arith, few, low)

-- ---- labels of a list
here : (x : ℕ) (xs : List ℕ) → is_member ◌==◌ (x ∷ xs) x ≡ true
here x xs = or_left (x == x) (is_member ◌==◌ xs x) (eq-eqb x x refl)

behind : (x y : ℕ) (xs : List ℕ) → is_member ◌==◌ xs x ≡ true → is_member ◌==◌ (y ∷ xs) x ≡ true
behind x y xs m = or_right (x == y) (is_member ◌==◌ xs x) m

some_label : (labels : List ℕ) (x : ℕ) → is_member ◌==◌ labels x ≡ true → 0 < length labels
some_label [] x m = absurd (cc)
some_label (l ∷ labels) x m = omega arith

-- ---- what is coloured
-- colours fit a net, and none is above a bound; and there is a label
pub record Fits (top most : ℕ) (net : List NetItem) (labels colours : List ℕ) : Type 0 where
  pub none : net_refusal top net colours ≡ None
  pub low : greatest colours ≤ most
  pub some : 0 < length labels

module _ (r top : ℕ) (vs : List TetraItem) (tetra : IsTetra vs) (colours : List ℕ) (high : r - 2 ≤ top) (count : length colours ≡ length (text_labels vs))
    (few : All (λ colour. colour ≤ r - 2) colours) (allowed : are_allowed r (text_labels vs) colours (faces_of vs) ≡ true) where
  abbrev Low : ℕ → Type 0
  Low colour = colour ≤ r - 2

  abbrev Coloured : ℕ → Type 0
  Coloured = HasColour Low (text_labels vs) colours

  coloured : (x : ℕ) → is_member ◌==◌ (text_labels vs) x ≡ true → Coloured x
  coloured x m = found_colour Low (text_labels vs) colours x count few m

  of_face : (i x : ℕ) → i < length (faces_of vs) → is_member ◌==◌ (get_or (faces_of vs) i []) x ≡ true → is_member ◌==◌ (text_labels vs) x ≡ true
  of_face i x h m =
      distinct-member (all_labels (faces_of vs) ++ all_labels (tetrahedra_of vs)) x
      ∙ member_first (all_labels (faces_of vs)) (all_labels (tetrahedra_of vs)) x (member_at (faces_of vs) i x h m)

  of_tetrahedron : (i x : ℕ) → i < length (tetrahedra_of vs) → is_member ◌==◌ (get_or (tetrahedra_of vs) i []) x ≡ true → is_member ◌==◌ (text_labels vs) x ≡ true
  of_tetrahedron i x h m =
      distinct-member (all_labels (faces_of vs) ++ all_labels (tetrahedra_of vs)) x
      ∙ member_back (all_labels (faces_of vs)) (all_labels (tetrahedra_of vs)) x (member_at (tetrahedra_of vs) i x h m)

  at_label : (x : ℕ) → (h : Coloured x) → unwrap_or (colour_of (text_labels vs) colours x) 0 ≡ h.colour
  at_label x h = ap (λ o. unwrap_or o 0) h.found

  three_colours : (x y z : ℕ) (a : Coloured x) (b : Coloured y) (c : Coloured z) → colours_at (text_labels vs) colours (x ∷ y ∷ z ∷ []) ≡ a.colour ∷ b.colour ∷ c.colour ∷ []
  three_colours x y z a b c = rw (a.found, b.found, c.found) refl

  -- A FACE
  pub face_fits : (i : ℕ) → i < length (faces_of vs) → Fits top (r - 2) theta_net (text_labels vs) (colours_at (text_labels vs) colours (get_or (faces_of vs) i []))
  face_fits i h =
      let face = get_or (faces_of vs) i [] in
      let t = three face (faces_three vs tetra.spelled i h) in
      let member : (x : ℕ) → is_member ◌==◌ (t.x ∷ t.y ∷ t.z ∷ []) x ≡ true → is_member ◌==◌ (text_labels vs) x ≡ true = λ x m. of_face i x h (ap (λ l. is_member ◌==◌ l x) t.is ∙ m) in
      let mx = member t.x (here t.x (t.y ∷ t.z ∷ [])) in
      let a = coloured t.x mx in
      let b = coloured t.y (member t.y (behind t.y t.x (t.y ∷ t.z ∷ []) (here t.y (t.z ∷ [])))) in
      let c = coloured t.z (member t.z (behind t.z t.x (t.y ∷ t.z ∷ []) (behind t.z t.y (t.z ∷ []) (here t.z [])))) in
      let admissible = at_face r (text_labels vs) colours t.x t.y t.z a.colour b.colour c.colour a.found b.found c.found
      (ap (allows r (text_labels vs) colours) (sym t.is) ∙ allowed_at r (text_labels vs) colours (faces_of vs) i h allowed) in
      let la = a.among in
      let lb = b.among in
      let lc = c.among in
      let P : List ℕ → Type 0 = λ list. Fits top (r - 2) theta_net (text_labels vs) list in
      subst P (sym (ap (colours_at (text_labels vs) colours) t.is ∙ three_colours t.x t.y t.z a b c))
      (record {
        none = theta_fits top a.colour b.colour c.colour (omega (arith, la, high)) (omega (arith, lb, high)) (omega (arith, lc, high)) admissible;
        low = omega (arith, la, lb, lc);
        some = some_label (text_labels vs) t.x mx;
      })

  six_colours : (k l m n o q : ℕ) (a : Coloured k) (b : Coloured l) (c : Coloured m) (d : Coloured n) (e : Coloured o) (f : Coloured q) →
      colours_at (text_labels vs) colours (k ∷ l ∷ m ∷ n ∷ o ∷ q ∷ []) ≡ a.colour ∷ b.colour ∷ c.colour ∷ d.colour ∷ e.colour ∷ f.colour ∷ []
  six_colours k l m n o q a b c d e f = rw (a.found, b.found, c.found, d.found, e.found, f.found) refl

  -- a listed face of coloured labels
  admissible_at : (x y z : ℕ) (a : Coloured x) (b : Coloured y) (c : Coloured z) → is_listed (faces_of vs) x y z ≡ true → is_admissible a.colour b.colour c.colour ≡ true
  admissible_at x y z a b c listed = at_listed r (text_labels vs) colours x y z a.colour b.colour c.colour a.found b.found c.found (faces_of vs) listed allowed

  -- A TETRAHEDRON
  pub tetrahedron_fits_at : (i : ℕ) → i < length (tetrahedra_of vs) →
      Fits top (r - 2) tetrahedron_net (text_labels vs) (colours_at (text_labels vs) colours (get_or (tetrahedra_of vs) i []))
  tetrahedron_fits_at i h =
      let ts = get_or (tetrahedra_of vs) i [] in
      let t = six ts (tetrahedra_six vs tetra.spelled i h) in
      let member : (x : ℕ) → is_member ◌==◌ (t.a ∷ t.b ∷ t.c ∷ t.d ∷ t.e ∷ t.f ∷ []) x ≡ true → is_member ◌==◌ (text_labels vs) x ≡ true =
      λ x m. of_tetrahedron i x h (ap (λ l. is_member ◌==◌ l x) t.is ∙ m) in
      let mf : is_member ◌==◌ (t.f ∷ []) t.f ≡ true = here t.f [] in
      let me : is_member ◌==◌ (t.e ∷ t.f ∷ []) t.e ≡ true = here t.e (t.f ∷ []) in
      let md : is_member ◌==◌ (t.d ∷ t.e ∷ t.f ∷ []) t.d ≡ true = here t.d (t.e ∷ t.f ∷ []) in
      let mc : is_member ◌==◌ (t.c ∷ t.d ∷ t.e ∷ t.f ∷ []) t.c ≡ true = here t.c (t.d ∷ t.e ∷ t.f ∷ []) in
      let mb : is_member ◌==◌ (t.b ∷ t.c ∷ t.d ∷ t.e ∷ t.f ∷ []) t.b ≡ true = here t.b (t.c ∷ t.d ∷ t.e ∷ t.f ∷ []) in
      let ma = member t.a (here t.a (t.b ∷ t.c ∷ t.d ∷ t.e ∷ t.f ∷ [])) in
      let a = coloured t.a ma in
      let b = coloured t.b (member t.b (behind t.b t.a (t.b ∷ t.c ∷ t.d ∷ t.e ∷ t.f ∷ []) mb)) in
      let c = coloured t.c (member t.c (behind t.c t.a (t.b ∷ t.c ∷ t.d ∷ t.e ∷ t.f ∷ []) (behind t.c t.b (t.c ∷ t.d ∷ t.e ∷ t.f ∷ []) mc))) in
      let d = coloured t.d (member t.d (behind t.d t.a (t.b ∷ t.c ∷ t.d ∷ t.e ∷ t.f ∷ []) (behind t.d t.b (t.c ∷ t.d ∷ t.e ∷ t.f ∷ []) (behind t.d t.c (t.d ∷ t.e ∷ t.f ∷ []) md)))) in
      let e = coloured t.e (member t.e (behind t.e t.a (t.b ∷ t.c ∷ t.d ∷ t.e ∷ t.f ∷ []) (behind t.e t.b (t.c ∷ t.d ∷ t.e ∷ t.f ∷ []) (behind t.e t.c (t.d ∷ t.e ∷ t.f ∷ []) (behind t.e t.d (t.e ∷ t.f ∷ []) me))))) in
      let f = coloured t.f (member t.f (behind t.f t.a (t.b ∷ t.c ∷ t.d ∷ t.e ∷ t.f ∷ []) (behind t.f t.b (t.c ∷ t.d ∷ t.e ∷ t.f ∷ []) (behind t.f t.c (t.d ∷ t.e ∷ t.f ∷ []) (behind t.f t.d (t.e ∷ t.f ∷ []) (behind t.f t.e (t.f ∷ []) mf)))))) in
      let whole : has_faces (faces_of vs) (t.a ∷ t.b ∷ t.c ∷ t.d ∷ t.e ∷ t.f ∷ []) ≡ true = ap (has_faces (faces_of vs)) (sym t.is) ∙ has_faces_at vs tetra i h in
      let abc = and_parts (is_listed (faces_of vs) t.a t.b t.c) _ whole in
      let aef = and_parts (is_listed (faces_of vs) t.a t.e t.f) _ abc.1 in
      let bfd = and_parts (is_listed (faces_of vs) t.b t.f t.d) (is_listed (faces_of vs) t.c t.d t.e) aef.1 in
      let la = a.among in
      let lb = b.among in
      let lc = c.among in
      let ld = d.among in
      let le = e.among in
      let lf = f.among in
      let P : List ℕ → Type 0 = λ list. Fits top (r - 2) tetrahedron_net (text_labels vs) list in
      subst P (sym (ap (colours_at (text_labels vs) colours) t.is ∙ six_colours t.a t.b t.c t.d t.e t.f a b c d e f))
      (record {
        none =
            tetrahedron_fits top a.colour b.colour c.colour d.colour e.colour f.colour (omega (arith, la, high)) (omega (arith, lb, high)) (omega (arith, lc, high)) (omega (arith, ld, high)) (omega (arith, le, high))
            (omega (arith, lf, high)) (admissible_at t.a t.b t.c a b c abc.0) (admissible_at t.a t.e t.f a e f aef.0) (admissible_at t.b t.f t.d b f d bfd.0) (admissible_at t.c t.d t.e c d e bfd.1);
        low = omega (arith, la, lb, lc, ld, le, lf);
        some = some_label (text_labels vs) t.a ma;
      })
