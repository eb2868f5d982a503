use Rattle.npf_conndb.proofs.LettingLemmas.{gone_dead, gone_bare, lets_go, gone_pass}
use Rattle.npf_conndb.proofs.endings.end_killed.Goals as goal

pub let_go-requires-clause-bare : goal.let_go-requires-clause-bare
let_go-requires-clause-bare g c = record {
  dead = gone_dead g.L.Law.meaning c.args.id _ _ _ _ c.end_key.result c.end_key-2.result c.end_key-3.result c.requires.legal
      c.requires.dead c.requires.killed c.end_key.ensures.ends c.end_key-2.ensures.ends c.end_key-3.ensures.ends;
  keyless = gone_bare g.L.Law.meaning c.args.id _ _ _ _ c.end_key.result c.end_key-2.result c.end_key-3.result c.requires.legal
      c.requires.dead c.requires.killed c.end_key.ensures.ends c.end_key-2.ensures.ends c.end_key-3.ensures.ends;
}

pub returns-clause-ends : goal.returns-clause-ends
returns-clause-ends g c =
    let legal = gone_pass g.L.Law.meaning c.args.id _ _ _ _ c.end_key.result c.end_key-2.result c.end_key-3.result c.requires.legal c.requires.dead
    c.requires.killed c.end_key.ensures.ends c.end_key-2.ensures.ends c.end_key-3.ensures.ends _ c.let_go.ensures.gone in
    lets_go g.L.Law.meaning c.args.id _ _ _ _ c.end_key.result c.end_key-2.result c.end_key-3.result c.requires.legal c.requires.dead
    c.requires.killed c.end_key.ensures.ends c.end_key-2.ensures.ends c.end_key-3.ensures.ends _ c.let_go.ensures.gone legal
