use Rattle.std.proofs.{Common.arith, lemmas.Grind.common_steps}
use Rattle.npf_trie.proofs.LookUpLemmas.{same_words}
use Rattle.npf_trie.proofs.looks.holder_of.Goals as goal

pub returns-clause-holder : goal.returns-clause-holder
returns-clause-holder g c = λ leaf known five.
    let same = same_words leaf c.args.key.now five (omega arith) (λ k h. c.loop-word.invariant.same leaf known k (omega arith)) in
    grind (arith, common_steps, same)
