use Rattle.std.proofs.Common.{◌+◌, refl, ap, arith}
use Rattle.npf_cells_rule.specs.Passes.{cell_pass}
use Rattle.npf_conndb.proofs.SeenLemmas.{seen_stays, vacant_expires, seen_expires}
use Rattle.npf_conndb.proofs.VisitLemmas.{stays_here, expires_none, stays_more, expires_next, expires_past}
use Rattle.npf_conndb.proofs.expire.expire_all.Goals as goal

pub loop-slot-init : goal.loop-slot-init
loop-slot-init g c = record {
  own = c.requires.own;
  sized = ap (λ l. l.slots) c.layout-slots.ensures;
  within = omega arith;
  few = omega arith;
  stays = stays_here g.L.Law.meaning c.args.pass.now.seat.me.0 c.requires.legal c.requires.between;
  expires = expires_none g.L.Law.meaning c.args.now (cell_pass c.args.pass.now.seat.me.0);
}

pub loop-slot-preserved-then-vacant-gt0 : goal.loop-slot-preserved-then-vacant-gt0
loop-slot-preserved-then-vacant-gt0 g c =
    let m = g.L.Law.meaning in
    let so = c.loop-slot.invariant in
    let shown = c.vacant_slots-vacant.ensures in
    let end = c.loop-slot.slot + c.vacant_slots-vacant.result in
    let stays = seen_stays m _ _ shown.sees so.stays.legal so.stays.between in
    record {
      own = shown.own;
      sized = so.sized;
      within = omega (arith, so.sized, shown.within);
      few = omega (arith, so.few);
      stays = stays_more m 0 0 0 0 _ _ _ so.stays stays;
      expires = expires_past m c.args.now c.loop-slot.slot c.loop-slot.count 0 _ _ _ so.stays stays end refl so.expires
          (vacant_expires m _ _ shown.sees so.stays.legal so.stays.between c.args.now c.loop-slot.slot end shown.vacant);
    }

pub expire_slot-count-requires-clause-between : goal.expire_slot-count-requires-clause-between
expire_slot-count-requires-clause-between g c =
    let so = c.loop-slot.invariant in
    (seen_stays g.L.Law.meaning _ _ c.vacant_slots-vacant.ensures.sees so.stays.legal so.stays.between).between

pub loop-slot-preserved : goal.loop-slot-preserved
loop-slot-preserved g c =
    let m = g.L.Law.meaning in
    let so = c.loop-slot.invariant in
    let sees = c.vacant_slots-vacant.ensures.sees in
    let one = c.expire_slot-count.ensures in
    let stays = stays_more m 0 0 0 0 _ _ _ (seen_stays m _ _ sees so.stays.legal so.stays.between) one.stays in
    record {
      own = one.own;
      sized = so.sized;
      within = omega (arith, c.loop-slot-test.true);
      few = omega (arith, so.few, one.few);
      stays = stays_more m 0 0 0 0 _ _ _ so.stays stays;
      expires = expires_next m c.args.now c.loop-slot.slot c.loop-slot.count c.expire_slot-count.result _ _ _ so.stays stays so.expires
          (seen_expires m _ _ sees so.stays.legal so.stays.between c.args.now c.loop-slot.slot _ _ one.stays one.expires);
    }
