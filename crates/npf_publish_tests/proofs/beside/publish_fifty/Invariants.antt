use Rattle.std.proofs.Common.{◌≡◌, ◌+◌}
use Rattle.npf_publish.specs.Publisher.{published_number, publisher_range}
use Rattle.npf_publish_tests.proofs.beside.publish_fifty.Given as goal

abbrev pub invariant-loop : goal.invariant-loop
invariant-loop g l =
    (publisher_range l.publisher ≡ publisher_range l.fn.publisher)
    × (published_number l.publisher ≡ published_number l.fn.publisher + l.counter)
