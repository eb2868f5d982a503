use Rattle.std.{proofs.Common.{◌∙◌, ◌<◌, ℕ, refl, sym, subst, ap, length}, specs.Prelude.All}
use Rattle.npf_pieces.specs.{DatagramAt.PutTogether, Datagrams.laid_out}
use Rattle.npf_reass_whole.{specs.Run.{HasPlacesBelow, all_sets}, proofs.HoldLemmas.length-sets_held}
use Rattle.npf_reass_whole.proofs.whole.put_all.Goals as goal

pub hold_classes-requires : goal.hold_classes-requires
hold_classes-requires c = subst (λ (n : ℕ). All (HasPlacesBelow n) c.args.classes.now) (sym c.hold_bad.ensures.count) c.requires.places

pub put_into-requires : goal.put_into-requires
put_into-requires c =
    let count = ap length c.hold_classes.ensures ∙ length-sets_held (all_sets c.args.classes.now) c.hold_bad.new.packets ∙ c.hold_bad.ensures.count in
    subst (λ (n : ℕ). All (λ (d : PutTogether). d.place < n) (laid_out c.args.datagrams)) (sym count) c.requires.here

pub returns : goal.returns
returns c = record {
  bad = c.hold_bad.new.packets;
  holds = c.hold_bad.ensures;
  is = rw c.put_into.ensures (rw c.hold_classes.ensures refl);
}
