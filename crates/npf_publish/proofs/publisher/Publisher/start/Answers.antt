use Rattle.std.proofs.Common.{rules, drop}
use Rattle.npf_publish.proofs.ProtocolLemmas.{first_look}
use Rattle.npf_publish.proofs.publisher.Publisher.start.Goals as goal

pub publish_as-writer-requires : goal.publish_as-writer-requires
publish_as-writer-requires g c next is =
    let w = c.in_ok-writer.writer in
    first_look _ _ w.desk.shown.value next (drop w.behind w.log.items) (search rules) is
