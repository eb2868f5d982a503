use Rattle.std.proofs.{Common.{◌≡◌, true, ◌==◌, refl}, lemmas.Bool.Decides.Decides-eqb}
use Rattle.npf_oneturn_store.{specs.{declared.phase.SlotPhase.SlotPhase, Store.phase_of}, proofs.RepresentLemmas.{kill_is_act, shows_dead}}
use Rattle.npf_oneturn.proofs.WorkLemmas.{ends_connection, kill_alive, dead_after}
use Rattle.npf_oneturn.proofs.work.end_connection.Goals as goal

pub returns-clause-ends : goal.returns-clause-ends
returns-clause-ends g c = λ slots k seat why r allowed.
    let m = g.L.Law.meaning in
    let id = c.args.id in
    let killed = kill_is_act m slots _ _ k id r (kill_alive m slots seat k id why allowed) c.kill.ensures seat why in
    let here : (id.inc == id.inc) ≡ true = (Decides-eqb id.inc id.inc).1 refl in
    let phase : phase_of c.kill.new.self id ≡ SlotPhase.Dead = rw (c.kill.ensures.put, here) refl in
    let dead = (shows_dead _ slots _ _ id killed).1 phase in
    let one = c.give_up.ensures.gives slots _ seat killed dead in
    let later = dead_after m slots seat _ id _ c.give_up.result dead in
    let two = c.give_up-2.ensures.gives slots _ seat one.works.represents later in
    let last = dead_after m slots seat _ id _ c.give_up-2.result later in
    let three = c.give_up-3.ensures.gives slots _ seat two.works.represents last in
    ends_connection m slots seat k id why _ _ _ _ _ _ _ allowed killed one two three
