use Rattle.std.proofs.Common.{sym, ◌∙◌}
use Rattle.npf_trie.proofs.MeetLemmas.{five_read, holder_read, keys_differ, keys_agree}
use Rattle.npf_trie.proofs.meet.meet.Goals as goal

pub returns-then-ne-clause-met : goal.returns-then-ne-clause-met
returns-then-ne-clause-met g c = λ leaf known five.
    let read = five_read _ _ _ _ _ _ _ _ _ _ _ _ _ leaf c.load_key.ensures.next c.load_key-2.ensures.next c.load_key-3.ensures.next c.load_key-4.ensures.next
    c.load_key-5.ensures.next c.load_key.ensures.shows c.load_key-2.ensures.shows c.load_key-3.ensures.shows c.load_key-4.ensures.shows c.load_key-5.ensures.shows c.requires.leaf known five in
    (λ same. keys_differ _ _ _ c.if-ne.true c.ne.ensures (read.key_is ∙ same), read.key_is)

pub returns-clause-met : goal.returns-clause-met
returns-clause-met g c = λ leaf known five.
    let read = five_read _ _ _ _ _ _ _ _ _ _ _ _ _ leaf c.load_key.ensures.next c.load_key-2.ensures.next c.load_key-3.ensures.next c.load_key-4.ensures.next
    c.load_key-5.ensures.next c.load_key.ensures.shows c.load_key-2.ensures.shows c.load_key-3.ensures.shows c.load_key-4.ensures.shows c.load_key-5.ensures.shows c.requires.leaf known five in
    (sym read.key_is ∙ keys_agree _ _ _ c.if-ne.false c.ne.ensures, holder_read _ _ _ leaf _ _ read c.load_inc-inc.ensures.leaf)
