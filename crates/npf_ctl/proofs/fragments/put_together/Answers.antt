use Rattle.std.proofs.Common.{◌∙◌, refl, sym, length, arith}
use Rattle.npf_reass_whole.proofs.LawLemmas.{whole_alike}
use Rattle.npf_ctl.proofs.FragmentLemmas.{whole_crosses, whole_timed}
use Rattle.npf_ctl.proofs.fragments.put_together.Goals as goal

pub returns-clause-whole : goal.returns-clause-whole
returns-clause-whole g c = record { whole = c.in_ok-packets.ensures.whole; same = refl }

pub returns-clause-playable : goal.returns-clause-playable
returns-clause-playable g c =
    let is = c.in_ok-packets.ensures.whole in
    let was = c.requires.playable in
    record {
      short = c.in_ok-packets.ensures.short;
      phased = was.phased ∙ sym is.count;
      published = was.published;
      crosses = whole_crosses whole_alike _ _ is (length c.args.prepared.ifaces.list) was.crosses;
      timed = whole_timed whole_alike _ _ is was.timed;
      count = omega (arith, is.count, was.count);
    }
