use Rattle.std.proofs.Common.{◌∙◌, refl, ap, append-nil, sym}
use Rattle.npf_reass.{specs.{declared.offer.ReassSize.ReassSize, Class.class_of}, proofs.EndLemmas.may_end}
use Rattle.npf_reass.proofs.reass.Reass.offer.Goals as goal

pub slot_mut-slot-requires : goal.slot_mut-slot-requires
slot_mut-slot-requires g c = (c.take.ensures.of.same, (c.take.ensures.taken.slot, rw c.take.ensures.taken.is refl))

pub end-requires-clause-may : goal.end-requires-clause-may
end-requires-clause-may g c =
    may_end _ c.class_of-class.result _ _ c.take.new.seat.me c.slot_mut-slot.result.now _ c.take.ensures.taken c.slot_mut-slot.ensures.value c.in-Ok.ensures.items
    (ap (λ (size : ReassSize). class_of size.classes c.args.piece.key) c.args.self.now.sized ∙ sym c.class_of-class.ensures.value)

pub end-requires-in-Err-clause-may : goal.end-requires-in-Err-clause-may
end-requires-in-Err-clause-may g c =
    may_end _ c.class_of-class.result _ _ c.take.new.seat.me c.slot_mut-slot.result.now _ c.take.ensures.taken c.slot_mut-slot.ensures.value
    (c.in-Err.ensures.items ∙ sym (append-nil _)) tt
