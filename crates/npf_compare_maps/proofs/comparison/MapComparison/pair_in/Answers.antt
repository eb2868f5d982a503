use Rattle.std.proofs.Common.{Ok, not, sym, ap, ◌∙◌}
use Rattle.npf_compare_maps.specs.Side.{IsAlikeAmong, config_after, config_before}
use Rattle.npf_compare_maps.proofs.PairLemmas.{none_differ, pair_found, pair_none}
use Rattle.npf_compare_maps.proofs.PassedLemmas.{no_packets_alike, nothing_found}
use Rattle.npf_compare_maps.proofs.comparison.MapComparison.pair_in.Goals as goal

pub returns-then-writes_same-clause-none : goal.returns-then-writes_same-clause-none
returns-then-writes_same-clause-none c = λ none.
    none_differ c.args.self.now c.args.asked c.args.old c.args.new
    (sym c.written-written.ensures ∙ c.writes_same.ensures.same c.if-writes_same.true ∙ c.written.ensures)

pub returns-then-is_none-clause-none : goal.returns-then-is_none-clause-none
returns-then-is_none-clause-none c = λ none.
    let comparison = c.args.self.now in
    let P = IsAlikeAmong (config_before comparison) (config_after comparison) c.in_ok-by_both.by_both in
    pair_none comparison c.args.asked c.args.old c.args.new c.in_ok-by_old.by_old c.in_ok-by_both.by_both c.requires.is
    (λ same. c.writes_same.ensures.other c.if-writes_same.false (c.written-written.ensures ∙ same ∙ sym c.written.ensures))
    c.in_ok-by_old.ensures.translated c.in_ok-by_both.ensures.translated c.requires.old c.requires.new
    (no_packets_alike comparison c.requires.is.before.ranked c.in_ok-by_both.by_both
    (c.in_ok-packet.ensures.none (ap Ok (nothing_found comparison.before.config P c.in_ok-packet.field-0 (c.is_none.ensures ∙ ap not c.if-is_none.true)))))

pub returns-clause-none : goal.returns-clause-none
returns-clause-none c = λ none.
    pair_none c.args.self.now c.args.asked c.args.old c.args.new c.in_ok-by_old.by_old c.in_ok-by_both.by_both c.requires.is
    (λ same. c.writes_same.ensures.other c.if-writes_same.false (c.written-written.ensures ∙ same ∙ sym c.written.ensures))
    c.in_ok-by_old.ensures.translated c.in_ok-by_both.ensures.translated c.requires.old c.requires.new (c.passed_alike.ensures.none none)

pub returns-clause-found : goal.returns-clause-found
returns-clause-found c =
    pair_found c.args.self.now c.args.asked c.args.old c.args.new c.in_ok-by_old.by_old c.in_ok-by_both.by_both c.requires.is
    (λ same. c.writes_same.ensures.other c.if-writes_same.false (c.written-written.ensures ∙ same ∙ sym c.written.ensures))
    c.in_ok-by_old.ensures.translated c.in_ok-by_both.ensures.translated c.passed_alike.result c.passed_alike.ensures.found
