use Rattle.std.{proofs.Common.{◌≡◌, ◌≢◌, ◌+◌, ◌++◌, [], ◌∷◌, Err, List, length, take, drop, rules, sym, subst}, specs.{List.AllPairs, Arc.arc_value}}
use Rattle.npf_model.specs.declared.table.TableDecl.{TableDecl}
use Rattle.npf_table.specs.{declared.table.Table.Table, Table.prefixes}
use Rattle.npf_config.specs.TableSteps.{IsReadTable, StopsAtTables}
use Rattle.npf_config.proofs.TableLemmas.{ReadSoFar, front_and_here, one_more, past_limit, reads_after, split_here, stops_there}
use Rattle.npf_config.proofs.tables.read_tables.Goals as goal

pub returns-in_err-table-clause-refuses : goal.returns-in_err-table-clause-refuses
returns-in_err-table-clause-refuses g c =
    let moment = g.F.Files.moment in
    let decls = c.args.decls.now in
    let i = c.loop-decl.decl-index in
    let decl = c.decl-item.result in
    let fault = c.in_err-table.field-0.0 in
    let same : c.from_residual.result ≡ Err fault = search rules in
    rw same (stops_there (moment c.args.files.now) (moment c.loop-decl.files) (moment c.read_table.new.files)
    (take i decls) decl c.loop-decl.tables.items c.loop-decl.count c.loop-decl.invariant.so_far
    decls (drop (i + 1) decls) (split_here decls i decl c.loop-decl-test.true c.decl-item.is) fault c.in_err-table.ensures.refuses)

pub returns-in_err-count-clause-refuses : goal.returns-in_err-count-clause-refuses
returns-in_err-count-clause-refuses g c =
    let moment = g.F.Files.moment in
    let decls = c.args.decls.now in
    let i = c.loop-decl.decl-index in
    let decl = c.decl-item.result in
    let fault = c.in_err-count.field-0.0 in
    let same : c.from_residual-in_err-count.result ≡ Err fault = search rules in
    rw same (past_limit (moment c.args.files.now) (moment c.loop-decl.files) (moment c.read_table.new.files) (take i decls) decl c.loop-decl.tables.items c.loop-decl.count c.loop-decl.invariant.so_far
    decls (drop (i + 1) decls) (split_here decls i decl c.loop-decl-test.true c.decl-item.is) c.in_ok-table.table fault
    c.in_ok-table.ensures.ok c.count_with.ensures.once c.in_ok-table.ensures.faultless c.in_err-count.ensures.refuses)

pub returns-in_err-new-clause-reads : goal.returns-in_err-new-clause-reads
returns-in_err-new-clause-reads g c =
    let moment = g.F.Files.moment in
    reads_after (moment c.args.files.now) (moment c.loop-decl.files) (moment c.read_table.new.files) c.loop-decl.invariant.so_far.reads c.read_table.ensures.reads

pub returns-in_err-push-clause-reads : goal.returns-in_err-push-clause-reads
returns-in_err-push-clause-reads g c =
    let moment = g.F.Files.moment in
    reads_after (moment c.args.files.now) (moment c.loop-decl.files) (moment c.read_table.new.files) c.loop-decl.invariant.so_far.reads c.read_table.ensures.reads

pub loop-decl-preserved : goal.loop-decl-preserved
loop-decl-preserved g c =
    let moment = g.F.Files.moment in
    let decls = c.args.decls.now in
    let i = c.loop-decl.decl-index in
    let decl = c.decl-item.result in
    let first = moment c.args.files.now in
    let now = moment c.loop-decl.files in
    let next = moment c.read_table.new.files in
    let table = c.in_ok-table.table in
    let more = c.in_ok-new.field-0 in
    let value : arc_value more ≡ table = c.in_ok-new.ensures.ok in
    let so_far = one_more first now next (take i decls) decl c.loop-decl.tables.items c.loop-decl.count c.loop-decl.invariant.so_far more c.in_ok-count.count
    c.read_table.ensures.reads c.in_ok-table.ensures.faultless (subst (IsReadTable now.contents decl) (sym value) c.in_ok-table.ensures.ok)
    (subst (λ (t : Table). AllPairs (λ p q. p ≢ q) (prefixes t)) (sym value) c.count_with.ensures.once)
    (subst (λ (t : Table). c.in_ok-count.count ≡ c.loop-decl.count + length (prefixes t)) (sym value) c.in_ok-count.ensures.sum) c.in_ok-count.ensures.few in
    record {
      so_far = rw (front_and_here decls i decl c.loop-decl-test.true c.decl-item.is) (rw (c.in_ok-push.ensures.items) so_far);
    }
