use Rattle.std.{proofs.{Common.{Some, if◌then◌else◌, unwrap_or, false, ap, ◌∙◌}, lemmas.Map.Text.hash_map_updates_str}, specs.{HashMap.get_by, Str.bytes_eq}}
use Rattle.npf_check.{specs.WrittenMap.stands_for_table, proofs.MapLemmas.value_from_cond}
use Rattle.npf_check.proofs.written_map.TableVariables.define.Goals as goal

pub returns : goal.returns
returns c = λ name.
    let key = c.as_slice.result.now in
    let table = c.is_one_table-table.result in
    let was = c.args.self.now in
    ap (λ found. unwrap_or found false) (hash_map_updates_str key was.tables c.insert.new.self (Some table) c.in_ok-insert.ensures.updates name)
    ∙ value_from_cond (bytes_eq key name) table (get_by (λ var. bytes_eq name var.now) was.tables)
    ∙ ap (λ var. if bytes_eq var name then table else stands_for_table was name) c.as_slice.ensures
    ∙ ap (λ answer. if bytes_eq c.args.var.now.name name then answer else stands_for_table was name) c.is_one_table-table.ensures
