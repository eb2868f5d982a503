use Rattle.std.proofs.Common.{rules, ◌+◌, drop}
use Rattle.npf_publish.proofs.ProtocolLemmas.{next_look}
use Rattle.npf_publish.proofs.publisher.Publisher.published_next.Goals as goal

pub publish_as-writer-requires : goal.publish_as-writer-requires
publish_as-writer-requires g c next is =
    let w = c.append.new.self in
    next_look _ _ w.desk.shown.value next (drop w.behind w.log.items) (c.args.self.number + 1) (search rules) (search rules) (search rules) is
