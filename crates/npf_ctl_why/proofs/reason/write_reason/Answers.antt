use Rattle.std.proofs.Common.{sym, subst}
use Rattle.npf_shelf.proofs.OptionLemmas.{OnOk-weaker}
use Rattle.npf_faults.specs.declared.fault.Fault.{Fault}
use Rattle.npf_ctl_why.specs.Reason.{ExplainsBy}
use Rattle.npf_ctl_why.proofs.reason.write_reason.Goals as goal

pub returns-in-Expected : goal.returns-in-Expected
returns-in-Expected c = OnOk-weaker _ _ c.write_expected.result
    (λ adds. (adds.0, adds.1, subst (λ (f : Fault). ExplainsBy f c.args.ifaces.now.list c.args.text.now c.args.fault.now adds.0) (sym c.in-Expected.is) adds.2)) c.write_expected.ensures

pub returns-in-BadMap : goal.returns-in-BadMap
returns-in-BadMap c = OnOk-weaker _ _ c.write_map.result
    (λ adds. (adds.0, adds.1, subst (λ (f : Fault). ExplainsBy f c.args.ifaces.now.list c.args.text.now c.args.fault.now adds.0) (sym c.in-BadMap.is) adds.2)) c.write_map.ensures
