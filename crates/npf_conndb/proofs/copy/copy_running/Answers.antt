use Rattle.std.proofs.Common.{subst}
use Rattle.npf_types.specs.declared.key.Way.TheVariants.{Forward, Backward, Port}
use Rattle.npf_conndb.{specs.Copy.FoundInSlot, proofs.CopyLemmas.{read_none, read_more, key_so, kept_so}}
use Rattle.npf_conndb.proofs.copy.copy_running.Goals as goal

pub returns-clause-copied : goal.returns-clause-copied
returns-clause-copied g c =
    let m = g.L.Law.meaning in
    let slot = c.args.slot in
    let old = c.args.pass.now.seat.me in
    let forward = c.copy_key-forward.ensures.copies in
    let port = c.copy_key-port.ensures.copies in
    let backward = c.copy_key-backward.ensures.copies in
    let none = read_none old c.load_inc-inc.new.pass.seat.me c.load_inc-inc.ensures.same in
    let one = read_more old c.load_inc-inc.new.pass.seat.me c.copy_key-forward.new.pass.seat.me none forward.is in
    let two = read_more old c.copy_key-forward.new.pass.seat.me c.copy_key-port.new.pass.seat.me one port.is in
    record {
      copies = kept_so m slot old.0 _ _ (subst (λ found. FoundInSlot m slot found old.0) c.in-Some.is c.requires.found) c.load_inc-inc.result _ _ _ c.load_inc-inc.ensures.turn
          (key_so m slot Forward _ old c.load_inc-inc.new.pass.seat.me c.copy_key-forward.new.pass.seat.me none forward)
          (key_so m slot Port _ old c.copy_key-forward.new.pass.seat.me c.copy_key-port.new.pass.seat.me one port)
          (key_so m slot Backward _ old c.copy_key-port.new.pass.seat.me c.copy_key-backward.new.pass.seat.me two backward);
      is = read_more old c.copy_key-port.new.pass.seat.me c.copy_key-backward.new.pass.seat.me two backward.is;
    }
