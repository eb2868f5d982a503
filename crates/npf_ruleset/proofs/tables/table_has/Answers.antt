use Rattle.std.proofs.Common.{◌↔◌, IsTrue, subst}
use Rattle.npf_types.specs.Prefix.{Covers}
use Rattle.npf_table.specs.Table.{prefixes}
use Rattle.npf_ruleset.proofs.TableLemmas.{found_in_table, found_nowhere}
use Rattle.npf_ruleset.proofs.tables.table_has.Goals as goal

pub returns-in-Some : goal.returns-in-Some
returns-in-Some c =
    let found = (c.in-Some.ensures).lookup in
    found_in_table c.args.tables.now c.args.number c.args.addr c.in-Some.table.now c.contains.result found.3.0 found.1
    (subst (λ table. IsTrue c.contains.result ↔ Covers (prefixes table) c.args.addr) c.deref.ensures c.contains.ensures)

pub returns-in-None : goal.returns-in-None
returns-in-None c = found_nowhere c.args.tables.now c.args.number c.args.addr (c.in-None.ensures).lookup.3
