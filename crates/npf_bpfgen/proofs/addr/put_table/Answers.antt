use Rattle.std.proofs.Common.{◌≡◌, ◌++◌, refl}
use Rattle.npf_bpfgen.{proofs.{AddrLemmas.{table_branches, table_test}, TailLemmas.extended}, specs.Endpoint.asked_table}
use Rattle.npf_bpfgen.proofs.addr.put_table.Goals as goal

pub returns-clause-front : goal.returns-clause-front
returns-clause-front c =
    let is : c.put.new.self ≡ table_test (asked_table c.args.endpoint c.args.table) ++ c.args.tail.now = rw (c.in_ok-put.ensures, c.asked_table.ensures, c.if_equal.ensures) in
    extended (table_test (asked_table c.args.endpoint c.args.table)) c.args.tail.now c.put.new.self 3 2 is refl refl

pub returns-clause-value : goal.returns-clause-value
returns-clause-value c =
    let is : c.put.new.self ≡ table_test (asked_table c.args.endpoint c.args.table) ++ c.args.tail.now = rw (c.in_ok-put.ensures, c.asked_table.ensures, c.if_equal.ensures) in
    table_branches c.args.endpoint c.args.table c.args.tail.now c.put.new.self c.requires is
