use Rattle.std.proofs.Common.{◌∙◌, ◌<◌, List, length, inl, ap, subst, ⊎_elim}
use Rattle.std.proofs.lemmas.Result.{IfErr-weaker, IfOk-weaker}
use Rattle.pd_reader.specs.declared.item.Item.{Item}
use Rattle.pd_reader.specs.Diagrams.{IsDiagram}
use Rattle.planar_check.specs.Places.{item_slots}
use Rattle.planar_check.specs.Planar.{IsPlanar}
use Rattle.coloured_values.specs.Surgery.{HasSurgeryValue, surgery}
use Rattle.move_script.proofs.BlownUp.{blown_only, never_refused, surgery_kept}
use Rattle.move_script.proofs.framed.blow_up.Goals as goal

pub returns-clause-refused : goal.returns-clause-refused
returns-clause-refused c =
    let same = c.items-items.ensures.items ∙ c.diagram.ensures.diagram ∙ c.planar.ensures.planar in
    let room = subst (λ (its : List Item). length its < 256) same c.if-items.false in
    let planar = subst (IsPlanar item_slots) c.planar.ensures.planar c.diagram.ensures.planar in
    IfErr-weaker c.apply_framed.result _ _ (λ fault h. ⊎_elim (λ memory. inl memory) (λ refused. absurd (never_refused c.args.framed.now c.args.sign room planar fault refused)) h) c.apply_framed.ensures.refused

pub returns-clause-surgery : goal.returns-clause-surgery
returns-clause-surgery c =
    let same = c.items-items.ensures.items ∙ c.diagram.ensures.diagram ∙ c.planar.ensures.planar in
    let room = subst (λ (its : List Item). length its < 256) same c.if-items.false in
    let planar = subst (IsPlanar item_slots) c.planar.ensures.planar c.diagram.ensures.planar in
    let diagram = subst IsDiagram (c.diagram.ensures.diagram ∙ c.planar.ensures.planar) c.items-items.ensures.diagram in
    IfOk-weaker c.apply_framed.result _ _
    (λ blown h p has.
    let is = blown_only c.args.framed.now c.args.sign room planar blown h in
    ap (surgery p) is ∙ surgery_kept p c.args.framed.now c.args.sign diagram c.planar.ensures.framed c.requires (subst (HasSurgeryValue p) is has))
    c.apply_framed.ensures.made
