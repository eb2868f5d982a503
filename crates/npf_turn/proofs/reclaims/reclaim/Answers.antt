use Rattle.std.proofs.Common.{◌≡◌, ◌-◌, ◌^◌, true, false, None, [], refl, sym, ap, ◌∙◌, subst, ⊎_elim}
use Rattle.npf_cells_words.specs.{declared.layout.Pool.TheVariants.Slots, Layout.{phase_field, notes_field, field_at}}
use Rattle.npf_cells_rule.specs.Stood.{StoodSo}
use Rattle.npf_cells_takes.specs.PrivateKinds.{stored_in}
use Rattle.npf_turn.{specs.Reclaims.{IsLongLeft, was_alive, was_early, was_last}, proofs.ReclaimLemmas.{told_so, phase_shown, inc_is, may_reclaim}}
use Rattle.npf_turn.proofs.reclaims.reclaim.Goals as goal

pub returns-then-load_word-ne-DEAD-clause-reclaims : goal.returns-then-load_word-ne-DEAD-clause-reclaims
returns-then-load_word-ne-DEAD-clause-reclaims g c =
    let taken = c.try_turn.ensures.takes c.if-not-try_turn.false in
    let found = c.load_word.ensures.same ∙ taken.is in
    record {
      why = was_alive taken.was c.load_word.result (subst (λ y. StoodSo g.L.Law.meaning g.H.KeyHash.digest c.args.cells.now.table.shared.key y.0
          (field_at c.args.cells.now.table.shared.key Slots c.args.slot phase_field) c.load_word.result) taken.is c.load_word.ensures.stood) c.if-load_word-ne-DEAD.true;
      is = c.end_turn.ensures.tells ∙ ap (λ y. (record y.0 { turn = None }, [])) found;
    }

pub returns-then-not-is_long_left-clause-reclaims : goal.returns-then-not-is_long_left-clause-reclaims
returns-then-not-is_long_left-clause-reclaims g c =
    let taken = c.try_turn.ensures.takes c.if-not-try_turn.false in
    let found = c.load_word.ensures.same ∙ taken.is in
    let m = g.L.Law.meaning in
    let layout = c.args.cells.now.table.shared.key in
    let old = c.args.pass.now.seat.me in
    let note = c.load_note-note.result in
    let told = told_so m g.H.KeyHash.digest layout old c.args.slot taken.was _ _ note found c.load_note-note.ensures.next in
    let dead = sym (phase_shown m g.H.KeyHash.digest layout old c.args.slot taken.was _ c.load_word.result taken.is c.load_word.ensures.phase) ∙ c.if-load_word-ne-DEAD.false in
    let stood = subst (λ y. StoodSo m g.H.KeyHash.digest layout y.0 (field_at layout Slots c.args.slot notes_field) note) found c.load_note-note.ensures.stood in
    record {
      why = ⊎_elim
          (λ (early : c.is_long_left.result ≡ false). was_early taken.was note stood (λ long. let no : true ≡ false = sym (c.is_long_left.ensures.1 long) ∙ early in absurd cc))
          (λ (last : (c.is_long_left.result ≡ true) × (c.load_inc-inc.result ≡ 2 ^ 64 - 1)). was_last taken.was note stood
          (sym (inc_is m g.H.KeyHash.digest layout old c.args.slot taken.was _ note c.load_inc-inc.result told dead c.load_inc-inc.ensures.turn) ∙ last.1))
          c.then-not-is_long_left.either;
      is = c.end_turn-then-not-is_long_left.ensures.tells ∙ ap (λ y. (record y.0 { turn = None }, [])) (c.load_inc-inc.ensures.same ∙ told);
    }

pub end_turn-requires-2-clause-may : goal.end_turn-requires-2-clause-may
end_turn-requires-2-clause-may g c =
    let taken = c.try_turn.ensures.takes c.if-not-try_turn.false in
    let found = c.load_word.ensures.same ∙ taken.is in
    let m = g.L.Law.meaning in
    let layout = c.args.cells.now.table.shared.key in
    let old = c.args.pass.now.seat.me in
    let note = c.load_note-note.result in
    let told = told_so m g.H.KeyHash.digest layout old c.args.slot taken.was _ _ note found c.load_note-note.ensures.next in
    let dead = sym (phase_shown m g.H.KeyHash.digest layout old c.args.slot taken.was _ c.load_word.result taken.is c.load_word.ensures.phase) ∙ c.if-load_word-ne-DEAD.false in
    let inc = inc_is m g.H.KeyHash.digest layout old c.args.slot taken.was _ note c.load_inc-inc.result told dead c.load_inc-inc.ensures.turn in
    may_reclaim m g.H.KeyHash.digest layout old c.args.slot taken.was (record { slot = c.args.slot; inc = c.load_inc-inc.result }) refl (sym inc) note dead _ _ told
    (c.store_private.ensures.next ∙ ap (stored_in Slots c.args.slot phase_field 0) c.load_inc-inc.ensures.same)
    (subst (λ n. IsLongLeft note n) c.requires.epoch (c.is_long_left.ensures.0 c.if-not-is_long_left.false))
