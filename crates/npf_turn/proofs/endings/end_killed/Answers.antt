use Rattle.npf_turn.proofs.KeysLemmas.{no_kills, same_hands, still_killed}
use Rattle.npf_turn.proofs.endings.end_killed.Goals as goal

pub let_go-requires-clause-killed : goal.let_go-requires-clause-killed
let_go-requires-clause-killed g c = still_killed c.args.id g.L.Law.meaning _ _ c.end_keys.ensures.ends c.requires.killed

pub returns-clause-ends : goal.returns-clause-ends
returns-clause-ends g c = record {
  between = c.end_keys.new.pass.seat.me;
  keys = c.end_keys.ensures.ends;
  gone = c.let_go.ensures.gone;
  same = same_hands c.args.id g.L.Law.meaning _ _ c.end_keys.ensures.ends _ c.let_go.ensures.gone c.requires.turnless c.requires.unlocked;
  leaves = no_kills c.args.id g.L.Law.meaning _ _ c.end_keys.ensures.ends _ c.let_go.ensures.gone;
}
