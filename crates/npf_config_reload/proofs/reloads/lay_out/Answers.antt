use Rattle.std.{proofs.Common.{map, ap, ◌∙◌}, specs.{Arc.arc_value, Global.{Global, Vec}, declared.sync.Arc.Arc}}
use Rattle.npf_table.specs.declared.table.Table.{Table}
use Rattle.npf_config_changes.proofs.{AdditionLemmas.counts_kept, NextLemmas.{next_is, next_loaded}}
use Rattle.npf_ruleset.specs.Configuration.{programs}
use Rattle.npf_config_reload.proofs.LayoutLemmas.{instructions_over, none_heavy}
use Rattle.npf_config_reload.proofs.reloads.lay_out.Goals as goal

pub unreachable-requires : goal.unreachable-requires
unreachable-requires c = none_heavy _ _ _ c.requires.light (rw c.in-Err-TooLong.field-0-is at c.in-Err-TooLong.ensures.refuses)

pub returns-in-Ok-clause-is : goal.returns-in-Ok-clause-is
returns-in-Ok-clause-is c =
    let shared = c.in_ok-tables.ensures ∙ ap (map arc_value) c.tables.ensures in
    next_is c.args.own.now c.in-Ok.config c.args.model c.in-Ok.ensures.model (ap (λ (v : Vec (Arc Table Global)). map arc_value v.items) c.in-Ok.ensures.tables ∙ shared)

pub returns-in-Ok-clause-kept : goal.returns-in-Ok-clause-kept
returns-in-Ok-clause-kept c =
    counts_kept c.args.end c.args.model c.in_ok-keep_counts.ensures.rules c.in_ok-keep_counts.ensures.elements (programs c.in-Ok.config)
    c.in-Ok.ensures.accepts.compiled c.in-Ok.ensures.accepts.few

pub returns-in-Ok-clause-loaded : goal.returns-in-Ok-clause-loaded
returns-in-Ok-clause-loaded c = λ loaded.
    let shared = c.in_ok-tables.ensures ∙ ap (map arc_value) c.tables.ensures in
    next_loaded c.args.own.now c.in-Ok.config c.args.model c.in-Ok.ensures.model (ap (λ (v : Vec (Arc Table Global)). map arc_value v.items) c.in-Ok.ensures.tables ∙ shared)
    c.requires.tables loaded

pub returns-in-Err-TooMuch-clause-passed : goal.returns-in-Err-TooMuch-clause-passed
returns-in-Err-TooMuch-clause-passed c =
    let much = rw c.in-Err-TooMuch.field-0-is at c.in-Err-TooMuch.ensures.refuses in
    rw c.past.ensures (instructions_over c.args.end c.args.model c.in_ok-keep_counts.ensures.rules c.in_ok-keep_counts.ensures.elements c.in-Err-TooMuch.count much)
