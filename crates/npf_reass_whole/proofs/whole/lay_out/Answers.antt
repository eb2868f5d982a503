use Rattle.std.proofs.Common.{sym, subst}
use Rattle.npf_reass_whole.{specs.Run.CanLayOut, proofs.LayLemmas.{lays_class, lays_none}}
use Rattle.npf_reass_whole.proofs.whole.lay_out.Goals as goal

pub loop-class-init : goal.loop-class-init
loop-class-init c = rw c.new-datagrams.ensures (lays_none c.args.packets.now)

pub loop-class-preserved : goal.loop-class-preserved
loop-class-preserved c =
    lays_class c.args.packets.now c.args.classes.now c.loop-class.class-index c.class-item.result c.class-item.result _ _ c.loop-class-test.true c.class-item.is
    c.loop-class.invariant c.in_ok-lay_out_class.ensures

pub lay_out_class-requires : goal.lay_out_class-requires
lay_out_class-requires c =
    subst (CanLayOut c.args.packets.now) (sym c.class-item.is) (c.requires c.loop-class.class-index c.class-item.result c.loop-class-test.true)
