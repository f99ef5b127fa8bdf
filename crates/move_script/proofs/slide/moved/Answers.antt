use Rattle.move_script.proofs.slide.moved.Goals as goal

pub returns : goal.returns
returns c =
    rw (c.moved_slots-new_first.ensures, c.moved_slots-new_second.ensures, c.moved_slots-new_third.ensures, c.slot.ensures, c.slot-2.ensures, c.slot-3.ensures, c.slot-4.ensures, c.slot-5.ensures, c.slot-6.ensures) at c.with_slots.ensures
