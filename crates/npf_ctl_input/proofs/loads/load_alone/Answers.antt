use Rattle.std.proofs.Common.{◌≡◌, Err, option_map, rules}
use Rattle.npf_ruleset.specs.Configuration.{configuration}
use Rattle.npf_ctl_input.{specs.{Interfaces.ReadsInterfaces, Loads.LoadsFile}, proofs.AroundLemmas.{around_first, around_next}}
use Rattle.npf_ctl_input.proofs.UnlessLemmas.{goes_on_unless, stops_unless}
use Rattle.npf_ctl_input.proofs.loads.load_alone.Goals as goal

pub returns-in_err-ifaces-clause-comes : goal.returns-in_err-ifaces-clause-comes
returns-in_err-ifaces-clause-comes g c = λ before after around.
    let fault = c.in_err-ifaces.field-0.0 in
    let same : c.from_residual.result ≡ Err fault = search rules in
    rw same
    (stops_unless (ReadsInterfaces before after (option_map (λ name. name.now) c.args.ifaces)) (λ given. LoadsFile before after given c.args.conf.now) fault
    (c.in_err-ifaces.ensures.comes before after around))

pub returns-clause-comes : goal.returns-clause-comes
returns-clause-comes g c = λ before after around.
    let old = g.F.Files.moment c.args.files.now in
    let middle = g.F.Files.moment c.read_interfaces.new.files in
    let new = g.F.Files.moment c.load_file.new.files in
    let read = c.in_ok-ifaces.ensures.comes before after (around_first before old middle new after around c.load_file.ensures.reads) in
    goes_on_unless (ReadsInterfaces before after (option_map (λ name. name.now) c.args.ifaces)) (λ given. LoadsFile before after given c.args.conf.now)
    c.in_ok-ifaces.ifaces.list read configuration c.load_file.result
    (c.load_file.ensures.comes before after (around_next before old middle new after around c.in_ok-ifaces.ensures.reads))
