use Rattle.std.proofs.Common.{◌≡◌, ◌∙◌, ℕ, ◌||◌, Bool, true, cond, List, inr, sym, ap}
use Rattle.std.proofs.lemmas.Bool.{ne_eqb, or_left, or_right}
use Rattle.pd_reader.specs.declared.item.Item.{Item}
use Rattle.planar_check.specs.Places.{place_labels}
use Rattle.diagram_moves.specs.Moves.{first_place_of, pushed, same_face, second_place}
use Rattle.move_script.proofs.MadeMoves.{push_is}
use Rattle.move_script.proofs.push.push.Goals as goal
use Rattle.move_script.proofs.push.push.Goals.{else-not-from_first-via-then-not-from_first+else-not-meets, else-not-from_first-via-else-not-from_first, then-from_first, else-from_first}

pub returns : goal.returns
returns c =
    let items = c.args.diagram.now in
    let e = c.args.over in let f = c.args.under in
    let e_first = first_place_of (place_labels items) e in
    let f_first = first_place_of (place_labels items) f in
    let e_second = second_place items e in
    let meeting : ℕ → Bool = λ p. same_face items p f_first || same_face items p (second_place items f) in
    let same : c.items-items.result.now ≡ items = c.items-items.ensures.items ∙ c.diagram.ensures.diagram in
    let of_e : c.meets-from_first.result ≡ meeting e_first = rw (c.in_ok-e.ensures.first.0, c.in_ok-f.ensures.first.0, c.in_ok-f.ensures.second.0) at c.meets-from_first.ensures in
    let meets : (meeting e_first || meeting e_second) ≡ true = elim c.else-not-from_first.branch [
      | else-not-from_first-via-then-not-from_first+else-not-meets w ↦
          (let of_second : w.meets.result ≡ meeting e_second = rw (c.in_ok-e.ensures.second.0, c.in_ok-f.ensures.first.0, c.in_ok-f.ensures.second.0) at w.meets.ensures in
          or_right (meeting e_first) (meeting e_second) (sym of_second ∙ w.if-not-meets.false))
      | else-not-from_first-via-else-not-from_first w ↦ or_left (meeting e_first) (meeting e_second) (sym of_e ∙ w.if-not-from_first.false)
    ] in
    let from = cond (meeting e_first) e_first e_second in
    let place : c.if-from_first.place ≡ from = elim c.if-from_first.branch [
      | then-from_first w ↦ w.place-is ∙ c.in_ok-e.ensures.first.0 ∙ sym (ap (λ (b : Bool). cond b e_first e_second) (sym of_e ∙ w.if-from_first.true))
      | else-from_first w ↦ w.place-is ∙ c.in_ok-e.ensures.second.0 ∙ sym (ap (λ (b : Bool). cond b e_first e_second) (sym of_e ∙ w.if-from_first.false))
    ] in
    let of_f = c.same_face.ensures ∙ ap (λ (p : ℕ). same_face items p c.in_ok-f.f.first) place ∙ ap (same_face items from) c.in_ok-f.ensures.first.0 in
    let all = c.in_ok-all.ensures ∙ ap (λ (its : List Item). pushed its e f c.meets-from_first.result c.same_face.result) same in
    inr
    (c.finished.ensures
    ∙ push_is items e f c.in_ok-check_edge.ensures.ok c.in_ok-check_edge-2.ensures.ok (ne_eqb e f c.if-over-under.false) c.in_ok-e.ensures.on c.in_ok-f.ensures.on c.in_ok-all.all.items c.meets-from_first.result c.same_face.result of_e meets of_f all)
