use Rattle.std.proofs.Common.{sym, ap, ◌∙◌}
use Rattle.npf_model.specs.MapOf.{map_applies}
use Rattle.npf_ruleset.{specs.Tables.entries, proofs.PlaceLemmas.{first_here, first_behind}}
use Rattle.npf_ruleset.proofs.map_choice.map_for.Goals as goal

pub returns-then-applies : goal.returns-then-applies
returns-then-applies c =
    let test = map_applies (entries c.args.config.now.tables.items) c.args.facts.now c.args.ifid c.args.dir in
    first_here test c.loop-at.at c.as_slice-map-items.result.now c.map-item.result c.loop-at-test.true c.map-item.is
    (sym (c.applies.ensures ∙ ap (λ tables. map_applies (entries tables) c.args.facts.now c.args.ifid c.args.dir c.map-item.result) c.tables.ensures) ∙ c.if-applies.true)
    ∙ sym c.loop-at.invariant

pub loop-at-preserved : goal.loop-at-preserved
loop-at-preserved c =
    let test = map_applies (entries c.args.config.now.tables.items) c.args.facts.now c.args.ifid c.args.dir in
    c.loop-at.invariant
    ∙ first_behind test c.loop-at.at c.as_slice-map-items.result.now c.map-item.result c.loop-at-test.true c.map-item.is
    (sym (c.applies.ensures ∙ ap (λ tables. map_applies (entries tables) c.args.facts.now c.args.ifid c.args.dir c.map-item.result) c.tables.ensures) ∙ c.if-applies.false)
