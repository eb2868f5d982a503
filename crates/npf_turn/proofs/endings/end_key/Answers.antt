use Rattle.std.proofs.Common.{◌≡◌, ◌+◌, ◌*◌, ◌<◌, sym, subst}
use Rattle.npf_paths.specs.declared.place.Lock.{Lock}
use Rattle.npf_cells_words.specs.declared.layout.Layout.{Layout}
use Rattle.npf_turn.proofs.EndingLemmas.{names_within, told_so, tells_keys, holding, holds_lock, may_unlink, emptied, protected_still, gives_up, has_none}
use Rattle.npf_turn.proofs.MarkLemmas.{none_marked}
use Rattle.npf_turn.proofs.endings.end_key.Goals as goal

pub returns-then-note-eq-NO_PLACE-clause-ends : goal.returns-then-note-eq-NO_PLACE-clause-ends
returns-then-note-eq-NO_PLACE-clause-ends g c =
    let m = g.L.Law.meaning in
    let layout = c.args.cells.now.table.shared.key in
    let taken = c.wait_turn.ensures.takes in
    has_none m layout c.args.pass.now.seat.me c.args.id c.args.way taken.was c.load_note-note.result _ _
    (told_so m layout c.args.pass.now.seat.me c.args.id c.args.way taken.was c.load_note-note.result _ _ taken.is c.load_note-note.ensures.next)
    (tells_keys m layout c.args.pass.now.seat.me c.args.id c.args.way taken.was c.load_note-note.result _ taken.is c.requires.killed c.requires.held c.load_note-note.ensures.by_kill)
    c.if-note-eq-NO_PLACE.true c.end_turn.ensures.tells

pub place_of-place-requires-clause-within : goal.place_of-place-requires-clause-within
place_of-place-requires-clause-within g c =
    let m = g.L.Law.meaning in
    let layout = c.args.cells.now.table.shared.key in
    let taken = c.wait_turn.ensures.takes in
    subst (λ (l : Layout). c.load_note-note.result < 65 + 16 * l.nodes) (sym c.layout.ensures)
    (names_within m layout c.args.pass.now.seat.me.0 c.args.id c.args.way c.load_note-note.result
    (tells_keys m layout c.args.pass.now.seat.me c.args.id c.args.way taken.was c.load_note-note.result _ taken.is c.requires.killed c.requires.held c.load_note-note.ensures.by_kill)
    c.if-note-eq-NO_PLACE.false).1

pub unlink-requires-clause-may : goal.unlink-requires-clause-may
unlink-requires-clause-may g c =
    let m = g.L.Law.meaning in
    let layout = c.args.cells.now.table.shared.key in
    let old = c.args.pass.now.seat.me in
    let taken = c.wait_turn.ensures.takes in
    let note = c.load_note-note.result in
    let told' = told_so m layout old c.args.id c.args.way taken.was note _ _ taken.is c.load_note-note.ensures.next in
    let held = holds_lock m layout old c.args.id c.args.way taken.was note _ _ c.lock.result told' c.lock-2.ensures.gets in
    may_unlink m layout old c.args.id c.args.way taken.was note _ c.place_of-place.result
    (subst (λ (lock : Lock). c.lock-2.new.pass.seat.me ≡ holding m layout old c.args.id c.args.way taken.was note lock) c.lock.ensures held)
    c.place_of-place.ensures.is c.requires.killed c.requires.held

pub take_off-requires-clause-emptied : goal.take_off-requires-clause-emptied
take_off-requires-clause-emptied g c =
    let m = g.L.Law.meaning in
    let layout = c.args.cells.now.table.shared.key in
    let old = c.args.pass.now.seat.me in
    let taken = c.wait_turn.ensures.takes in
    let note = c.load_note-note.result in
    let told' = told_so m layout old c.args.id c.args.way taken.was note _ _ taken.is c.load_note-note.ensures.next in
    let held = holds_lock m layout old c.args.id c.args.way taken.was note _ _ c.lock.result told' c.lock-2.ensures.gets in
    emptied m layout old c.args.id c.args.way taken.was note c.place_of-place.result _ _
    (subst (λ (lock : Lock). c.lock-2.new.pass.seat.me ≡ holding m layout old c.args.id c.args.way taken.was note lock) c.lock.ensures held) c.unlink.ensures.unlinked c.requires.unlocked
    (none_marked c.requires.own c.requires.unlocked)

pub take_off-requires-clause-protected : goal.take_off-requires-clause-protected
take_off-requires-clause-protected g c =
    let m = g.L.Law.meaning in
    let layout = c.args.cells.now.table.shared.key in
    let old = c.args.pass.now.seat.me in
    let taken = c.wait_turn.ensures.takes in
    let note = c.load_note-note.result in
    let told' = told_so m layout old c.args.id c.args.way taken.was note _ _ taken.is c.load_note-note.ensures.next in
    let held = holds_lock m layout old c.args.id c.args.way taken.was note _ _ c.lock.result told' c.lock-2.ensures.gets in
    protected_still m layout old c.args.id c.args.way taken.was note c.place_of-place.result _ _
    (subst (λ (lock : Lock). c.lock-2.new.pass.seat.me ≡ holding m layout old c.args.id c.args.way taken.was note lock) c.lock.ensures held)
    c.unlink.ensures.unlinked c.requires.unlocked c.requires.protected

pub returns-clause-ends : goal.returns-clause-ends
returns-clause-ends g c =
    let m = g.L.Law.meaning in
    let layout = c.args.cells.now.table.shared.key in
    let old = c.args.pass.now.seat.me in
    let taken = c.wait_turn.ensures.takes in
    let note = c.load_note-note.result in
    let told' = told_so m layout old c.args.id c.args.way taken.was note _ _ taken.is c.load_note-note.ensures.next in
    let held = holds_lock m layout old c.args.id c.args.way taken.was note _ _ c.lock.result told' c.lock-2.ensures.gets in
    gives_up m layout old c.args.id c.args.way taken.was note c.place_of-place.result _ _
    (subst (λ (lock : Lock). c.lock-2.new.pass.seat.me ≡ holding m layout old c.args.id c.args.way taken.was note lock) c.lock.ensures held)
    c.unlink.ensures.unlinked c.requires.unlocked _ c.take_off.ensures.leaves _ c.end_turn-2.ensures.tells
