use Rattle.std.proofs.Common.{◌≡◌, ◌∙◌, ℕ, ◌+◌, List, [], ◌∷◌, ◌++◌, inr, sym, ap}
use Rattle.pd_reader.specs.declared.item.Item.{Item}
use Rattle.pd_reader.specs.declared.item.Item.TheVariants as item
use Rattle.diagram_moves.specs.declared.factor.Factor.{Factor}
use Rattle.diagram_moves.specs.Moves.{curled_loop, finished}
use Rattle.diagram_moves.specs.Rewriting.{at_places, fresh}
use Rattle.move_script.specs.Tables.{cut_by}
use Rattle.move_script.proofs.MadeMoves.{curled_is, edge_curled, loop_curled}
use Rattle.move_script.proofs.curl.add_curl.Goals as goal
use Rattle.move_script.proofs.curl.add_curl.Goals.{in-Some+in_ok-all-in-Some+in_ok-push-in-Some, in-None+in_ok-all-in-None}

pub returns : goal.returns
returns c =
    let items = c.args.diagram.now in
    let same : c.items-items.result.now ≡ items = c.items-items.ensures.items ∙ c.diagram.ensures.diagram in
    let n = c.in_ok-n.n in
    let n_is : n ≡ fresh items = c.in_ok-n.ensures.new ∙ ap fresh same in
    inr
    (c.finished.ensures
    ∙ ap (λ (f : Factor). finished f c.match-first_place.all.items) c.curl_factor.ensures
    ∙ curled_is items c.match-first_place.all.items c.args.edge c.args.sign c.in_ok-check_edge.ensures.ok
    (elim c.match-first_place.branch [
      | in-Some+in_ok-all-in-Some+in_ok-push-in-Some w ↦ rw w.all-is
          (edge_curled items w.push.new.self.items c.args.edge w.in-Some.first w.other_place.result n c.args.sign (sym c.first_place.ensures.place ∙ w.in-Some.is) w.other_place.ensures.place n_is
          (w.in_ok-push-in-Some.ensures.items
          ∙ ap (λ (its : List Item). its ++ item.X w.curl_slots.result ∷ []) (w.in_ok-all-in-Some.ensures ∙ ap (at_places (cut_by ((w.other_place.result, n + 1) ∷ [])) 0) same)
          ∙ ap (λ (slots : List ℕ). at_places (cut_by ((w.other_place.result, n + 1) ∷ [])) 0 items ++ item.X slots ∷ []) w.curl_slots.ensures))
      | in-None+in_ok-all-in-None w ↦ rw w.all-is
          (loop_curled items w.in_ok-all-in-None.all.items c.args.edge n c.args.sign (sym c.first_place.ensures.place ∙ w.in-None.is) n_is
          (w.in_ok-all-in-None.ensures ∙ ap (λ (slots : List ℕ). curled_loop c.args.edge slots c.items-items.result.now) w.curl_slots-in-None.ensures ∙ ap (curled_loop c.args.edge _) same))
    ]))
