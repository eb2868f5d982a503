use Rattle.std.proofs.Common.{inr, arith}
use Rattle.npf_cells_words.proofs.WordLemmas.{note_late, note_soon}
use Rattle.npf_conndb.proofs.CopyLemmas.{read_none, read_word, read_more, live_still, same_seats, none_held, some_held, word_is, key_is}
use Rattle.npf_conndb.proofs.copy.copy_key.Goals as goal

pub load_word-requires-clause-field : goal.load_word-requires-clause-field
load_word-requires-clause-field g c =
    let late = note_late c.args.way in
    let soon = note_soon c.args.way in
    inr (omega (arith, late, c.note_field.ensures), omega (arith, soon, c.note_field.ensures))

pub returns-then-load_word-eq-NO_PLACE-clause-copies : goal.returns-then-load_word-eq-NO_PLACE-clause-copies
returns-then-load_word-eq-NO_PLACE-clause-copies g c = record {
  held = none_held g.L.Law.meaning g.H.KeyHash.digest c.args.cells.now.table.shared.key c.args.slot c.args.way c.args.pass.now.seat.me.0 c.requires.own.lives c.requires.own.theirs c.requires.sole
      c.requires.live c.note_field.result c.load_word.result c.note_field.ensures c.load_word.ensures.by_turn c.if-load_word-eq-NO_PLACE.true;
  is = read_none c.args.pass.now.seat.me c.load_word.new.pass.seat.me c.load_word.ensures.same;
}

pub load_key-requires-clause-fixed : goal.load_key-requires-clause-fixed
load_key-requires-clause-fixed g c =
    inr (inr (live_still c.args.pass.now.seat.me _ c.args.slot (read_none c.args.pass.now.seat.me c.load_word.new.pass.seat.me c.load_word.ensures.same) c.requires.live))

pub load_key-requires-2-clause-fixed : goal.load_key-requires-2-clause-fixed
load_key-requires-2-clause-fixed g c =
    let old = c.args.pass.now.seat.me in
    let none = read_none old c.load_word.new.pass.seat.me c.load_word.ensures.same in
    let one = read_more old c.load_word.new.pass.seat.me c.load_key.new.pass.seat.me none (read_word _ _ c.load_key.ensures.next) in
    inr (inr (live_still old _ c.args.slot one c.requires.live))

pub load_key-requires-3-clause-fixed : goal.load_key-requires-3-clause-fixed
load_key-requires-3-clause-fixed g c =
    let old = c.args.pass.now.seat.me in
    let none = read_none old c.load_word.new.pass.seat.me c.load_word.ensures.same in
    let one = read_more old c.load_word.new.pass.seat.me c.load_key.new.pass.seat.me none (read_word _ _ c.load_key.ensures.next) in
    let two = read_more old c.load_key.new.pass.seat.me c.load_key-2.new.pass.seat.me one (read_word _ _ c.load_key-2.ensures.next) in
    inr (inr (live_still old _ c.args.slot two c.requires.live))

pub load_key-requires-4-clause-fixed : goal.load_key-requires-4-clause-fixed
load_key-requires-4-clause-fixed g c =
    let old = c.args.pass.now.seat.me in
    let none = read_none old c.load_word.new.pass.seat.me c.load_word.ensures.same in
    let one = read_more old c.load_word.new.pass.seat.me c.load_key.new.pass.seat.me none (read_word _ _ c.load_key.ensures.next) in
    let two = read_more old c.load_key.new.pass.seat.me c.load_key-2.new.pass.seat.me one (read_word _ _ c.load_key-2.ensures.next) in
    let three = read_more old c.load_key-2.new.pass.seat.me c.load_key-3.new.pass.seat.me two (read_word _ _ c.load_key-3.ensures.next) in
    inr (inr (live_still old _ c.args.slot three c.requires.live))

pub load_key-requires-5-clause-fixed : goal.load_key-requires-5-clause-fixed
load_key-requires-5-clause-fixed g c =
    let old = c.args.pass.now.seat.me in
    let none = read_none old c.load_word.new.pass.seat.me c.load_word.ensures.same in
    let one = read_more old c.load_word.new.pass.seat.me c.load_key.new.pass.seat.me none (read_word _ _ c.load_key.ensures.next) in
    let two = read_more old c.load_key.new.pass.seat.me c.load_key-2.new.pass.seat.me one (read_word _ _ c.load_key-2.ensures.next) in
    let three = read_more old c.load_key-2.new.pass.seat.me c.load_key-3.new.pass.seat.me two (read_word _ _ c.load_key-3.ensures.next) in
    let four = read_more old c.load_key-3.new.pass.seat.me c.load_key-4.new.pass.seat.me three (read_word _ _ c.load_key-4.ensures.next) in
    inr (inr (live_still old _ c.args.slot four c.requires.live))

pub returns-clause-copies : goal.returns-clause-copies
returns-clause-copies g c =
    let m = g.L.Law.meaning in
    let digest = g.H.KeyHash.digest in
    let layout = c.args.cells.now.table.shared.key in
    let old = c.args.pass.now.seat.me in
    let own = c.requires.own in
    let none = read_none old c.load_word.new.pass.seat.me c.load_word.ensures.same in
    let one = read_more old c.load_word.new.pass.seat.me c.load_key.new.pass.seat.me none (read_word _ _ c.load_key.ensures.next) in
    let two = read_more old c.load_key.new.pass.seat.me c.load_key-2.new.pass.seat.me one (read_word _ _ c.load_key-2.ensures.next) in
    let three = read_more old c.load_key-2.new.pass.seat.me c.load_key-3.new.pass.seat.me two (read_word _ _ c.load_key-3.ensures.next) in
    let four = read_more old c.load_key-3.new.pass.seat.me c.load_key-4.new.pass.seat.me three (read_word _ _ c.load_key-4.ensures.next) in
    let five = read_more old c.load_key-4.new.pass.seat.me c.load_key-5.new.pass.seat.me four (read_word _ _ c.load_key-5.ensures.next) in
    let some = some_held m digest layout c.args.slot c.args.way old.0 own.lives own.theirs c.requires.sole c.requires.live c.note_field.result
    c.load_word.result c.note_field.ensures c.load_word.ensures.by_turn c.if-load_word-eq-NO_PLACE.false in
    let word = word_is m digest layout c.args.slot c.args.way old.0 own.lives own.theirs c.requires.sole some.0 some.1 in
    let first = word c.load_word.new.pass.seat.me.0 0 c.load_key.result (same_seats old _ none) c.load_key.ensures.tells in
    record {
      held = key_is m digest layout c.args.slot c.args.way old.0 own.lives own.theirs c.requires.sole some.0 some.1 _ _ _ _ _ first.0
          first.1
          (word c.load_key.new.pass.seat.me.0 1 c.load_key-2.result (same_seats old _ one) c.load_key-2.ensures.tells).1
          (word c.load_key-2.new.pass.seat.me.0 2 c.load_key-3.result (same_seats old _ two) c.load_key-3.ensures.tells).1
          (word c.load_key-3.new.pass.seat.me.0 3 c.load_key-4.result (same_seats old _ three) c.load_key-4.ensures.tells).1
          (word c.load_key-4.new.pass.seat.me.0 4 c.load_key-5.result (same_seats old _ four) c.load_key-5.ensures.tells).1;
      is = five;
    }
