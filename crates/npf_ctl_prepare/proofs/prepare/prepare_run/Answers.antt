use Rattle.std.proofs.Common.{◌≡◌, Err, rules}
use Rattle.npf_ctl_input.proofs.AroundLemmas.{around_first, around_next}
use Rattle.npf_ruleset.specs.Configuration.{configuration}
use Rattle.npf_ctl_prepare.{specs.View.{names_of, run_plan_of, source_ordered}, proofs.AroundLemmas.reads_on}
use Rattle.npf_ctl_prepare.proofs.PrepareLemmas.{file_ends, interfaces_end, loading_end, run_goes_on, source_ends}
use Rattle.npf_ctl_prepare.proofs.prepare.prepare_run.Goals as goal

pub returns-in_err-given-clause-comes : goal.returns-in_err-given-clause-comes
returns-in_err-given-clause-comes g c =
    let fault = c.in_err-given.field-0.0 in
    let same : c.from_residual.result ≡ Err fault = search rules in
    rw same (λ before after around. interfaces_end before after (names_of c.args.names) fault (c.in_err-given.ensures.comes before after around))

pub returns-in_err-first-clause-comes : goal.returns-in_err-first-clause-comes
returns-in_err-first-clause-comes g c =
    let fault = c.in_err-first.field-0.0 in
    let same : c.from_residual-in_err-first.result ≡ Err fault = search rules in
    let start = g.F.Files.moment c.args.files.now in
    let one = g.F.Files.moment c.read_interfaces.new.files in
    let two = g.F.Files.moment c.load_file.new.files in
    rw same (λ before after around.
    loading_end before after (names_of c.args.names) c.in_ok-given.given.list
    (c.in_ok-given.ensures.comes before after (around_first before start one two after around c.load_file.ensures.reads))
    fault (c.in_err-first.ensures.comes before after (around_next before start one two after around c.read_interfaces.ensures.reads)))

pub returns-in_err-first-clause-reads : goal.returns-in_err-first-clause-reads
returns-in_err-first-clause-reads g c =
    let moment = g.F.Files.moment in
    reads_on (moment c.args.files.now) (moment c.read_interfaces.new.files) (moment c.load_file.new.files) c.read_interfaces.ensures.reads c.load_file.ensures.reads

pub returns-in_err-bytes-clause-comes : goal.returns-in_err-bytes-clause-comes
returns-in_err-bytes-clause-comes g c =
    let fault = c.in_err-bytes.field-0.0 in
    let same : c.from_residual-in_err-bytes.result ≡ Err fault = search rules in
    let start = g.F.Files.moment c.args.files.now in
    let one = g.F.Files.moment c.read_interfaces.new.files in
    let two = g.F.Files.moment c.load_file.new.files in
    let three = g.F.Files.moment c.read_file.new.files in
    rw same (λ before after around.
    let behind = around_next before start one three after around c.read_interfaces.ensures.reads in
    file_ends before after (names_of c.args.names) c.in_ok-given.given.list
    (c.in_ok-given.ensures.comes before after
    (around_first before start one three after around (reads_on one two three c.load_file.ensures.reads c.read_file.ensures.reads)))
    (configuration c.in_ok-first.first) (c.in_ok-first.ensures.comes before after (around_first before one two three after behind c.read_file.ensures.reads))
    fault (c.in_err-bytes.ensures.comes before after (around_next before one two three after behind c.load_file.ensures.reads)))

pub returns-in_err-bytes-clause-reads : goal.returns-in_err-bytes-clause-reads
returns-in_err-bytes-clause-reads g c =
    let moment = g.F.Files.moment in
    let start = moment c.args.files.now in
    let one = moment c.read_interfaces.new.files in
    let two = moment c.load_file.new.files in
    reads_on start two (moment c.read_file.new.files) (reads_on start one two c.read_interfaces.ensures.reads c.load_file.ensures.reads) c.read_file.ensures.reads

pub returns-in_err-orders-clause-comes : goal.returns-in_err-orders-clause-comes
returns-in_err-orders-clause-comes g c =
    let fault = c.in_err-orders.field-0.0 in
    let same : c.from_residual-in_err-orders.result ≡ Err fault = search rules in
    let start = g.F.Files.moment c.args.files.now in
    let one = g.F.Files.moment c.read_interfaces.new.files in
    let two = g.F.Files.moment c.load_file.new.files in
    let three = g.F.Files.moment c.read_file.new.files in
    rw same (λ before after around.
    let behind = around_next before start one three after around c.read_interfaces.ensures.reads in
    source_ends before after (names_of c.args.names) c.in_ok-given.given.list
    (c.in_ok-given.ensures.comes before after
    (around_first before start one three after around (reads_on one two three c.load_file.ensures.reads c.read_file.ensures.reads)))
    (configuration c.in_ok-first.first) (c.in_ok-first.ensures.comes before after (around_first before one two three after behind c.read_file.ensures.reads))
    c.in_ok-bytes.bytes.items (c.in_ok-bytes.ensures.comes before after (around_next before one two three after behind c.load_file.ensures.reads))
    fault c.in_err-orders.ensures.comes)

pub returns-in_err-orders-clause-reads : goal.returns-in_err-orders-clause-reads
returns-in_err-orders-clause-reads g c =
    let moment = g.F.Files.moment in
    let start = moment c.args.files.now in
    let one = moment c.read_interfaces.new.files in
    let two = moment c.load_file.new.files in
    reads_on start two (moment c.read_file.new.files) (reads_on start one two c.read_interfaces.ensures.reads c.load_file.ensures.reads) c.read_file.ensures.reads

pub returns-clause-comes : goal.returns-clause-comes
returns-clause-comes g c =
    let start = g.F.Files.moment c.args.files.now in
    let one = g.F.Files.moment c.read_interfaces.new.files in
    let two = g.F.Files.moment c.load_file.new.files in
    let three = g.F.Files.moment c.read_file.new.files in
    let last = g.F.Files.moment c.prepare_orders.new.files in
    let two_on = reads_on two three last c.read_file.ensures.reads c.prepare_orders.ensures.reads in
    λ before after around.
    let behind_one = around_next before start one last after around c.read_interfaces.ensures.reads in
    let behind_two = around_next before one two last after behind_one c.load_file.ensures.reads in
    run_goes_on before after (names_of c.args.names) c.in_ok-given.given.list
    (c.in_ok-given.ensures.comes before after (around_first before start one last after around (reads_on one two last c.load_file.ensures.reads two_on)))
    (configuration c.in_ok-first.first) (c.in_ok-first.ensures.comes before after (around_first before one two last after behind_one two_on))
    c.in_ok-bytes.bytes.items (c.in_ok-bytes.ensures.comes before after (around_first before two three last after behind_two c.prepare_orders.ensures.reads))
    run_plan_of c.prepare_orders.result (source_ordered c.in_ok-orders.orders) c.in_ok-orders.ensures.comes
    (rw (c.in_ok-orders.ensures.tap, c.in_ok-orders.ensures.every) at (c.prepare_orders.ensures.comes before after (around_next before two three last after behind_two c.read_file.ensures.reads)))

pub returns-clause-reads : goal.returns-clause-reads
returns-clause-reads g c =
    let moment = g.F.Files.moment in
    let start = moment c.args.files.now in
    let one = moment c.read_interfaces.new.files in
    let two = moment c.load_file.new.files in
    let three = moment c.read_file.new.files in
    reads_on start three (moment c.prepare_orders.new.files)
    (reads_on start two three (reads_on start one two c.read_interfaces.ensures.reads c.load_file.ensures.reads) c.read_file.ensures.reads)
    c.prepare_orders.ensures.reads
