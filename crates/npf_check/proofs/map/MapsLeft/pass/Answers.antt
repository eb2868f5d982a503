use Rattle.std.{proofs.Common.{zip, sym, ap}, specs.List.flat_map}
use mathlib.Core.Path.{fun_ext}
use Rattle.npf_shelf.proofs.OptionLemmas.{OnOk-weaker}
use Rattle.npf_faults.specs.First.{earlier, first_fault}
use Rattle.npf_check.specs.{Map.bad_map, WrittenMap.written_maps}
use Rattle.npf_check.proofs.map.MapsLeft.pass.Goals as goal

pub returns-in-Define : goal.returns-in-Define
returns-in-Define c =
    let was = c.args.self.now in
    rw c.in-Define.is (OnOk-weaker _ _ c.define.result (λ more stmts.
    ap (λ known. earlier was.first (first_fault (flat_map bad_map (zip (written_maps known stmts) was.rest.now)))) (sym (fun_ext more))) c.define.ensures)
