use Rattle.std.proofs.Common.{sym, ap, subst, ◌∙◌}
use Rattle.npf_parser_values.specs.Answer.{Answers}
use Rattle.npf_parser.specs.{Stmt.map_rest, Parse.map_behind}
use Rattle.npf_parser.proofs.MapLemmas.{map_reads}
use Rattle.npf_parser.proofs.map.read_map.Goals as goal

pub returns : goal.returns
returns c =
    let ts = c.args.tokens.now in
    let same = map_reads ts c.in_ok-rest.rest.now c.in_ok-iface.rest.now c.in_ok-iface.iface c.in_ok-rest.ensures c.in_ok-iface.ensures in
    subst (λ reading. Answers reading c.read_map_rest.result) (ap (λ i. map_behind map_rest ts i c.in_ok-iface.rest.now) c.in_ok-new.ensures ∙ sym same) c.read_map_rest.ensures
