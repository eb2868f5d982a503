use Rattle.std.proofs.Common.{refl, arith}
use Rattle.npf_trie.proofs.{HoldLemmas.{at_root, at_next}, AnewLemmas.{anew_self, anew_on, anew_after, can_anew, nodeless}}
use Rattle.npf_trie.proofs.holds.hold.Goals as goal

pub loop-init : goal.loop-init
loop-init g c = record {
  next = tt;
  finite = tt;
  own = c.requires.own;
  anew = anew_self _ c.requires.protected;
  at = at_root _ _ _ _ _ _ c.hash-hash.ensures c.digit.ensures.value (c.digit.ensures.root refl);
}

pub loop-preserved-in-Again : goal.loop-preserved-in-Again
loop-preserved-in-Again g c = record {
  next = tt;
  finite = tt;
  own = c.in-Again.ensures.own;
  anew = anew_on _ _ _ c.loop.invariant.anew c.in-Again.ensures.steps.0 c.in-Again.ensures.loaded;
  at = c.in-Again.ensures.steps.1;
}

pub loop-preserved-in-Leads : goal.loop-preserved-in-Leads
loop-preserved-in-Leads g c = record {
  next = tt;
  finite = tt;
  own = c.in-Leads.ensures.own;
  anew = anew_on _ _ _ c.loop.invariant.anew c.in-Leads.ensures.steps.0 c.in-Leads.ensures.loaded;
  at = at_next _ _ _ _ _ _ _ _ c.hash-hash.ensures c.further-point.ensures c.in-Leads.ensures.steps.1;
}

pub loop-preserved : goal.loop-preserved
loop-preserved g c = record {
  next = tt;
  finite = tt;
  own = c.stay_anew.ensures.own;
  anew = anew_after _ _ _ (anew_on _ _ _ c.loop.invariant.anew c.in-Anew.ensures.steps c.in-Anew.ensures.loaded) c.stay_anew.ensures.anew;
  at = at_root _ _ _ _ _ _ c.hash-hash.ensures c.digit.ensures.value (c.digit.ensures.root refl);
}

pub step-requires-clause-protected : goal.step-requires-clause-protected
step-requires-clause-protected g c = c.loop.invariant.anew.protected

pub step-requires-clause-can : goal.step-requires-clause-can
step-requires-clause-can g c = can_anew _ _ _ _ _ _ c.loop.invariant.anew c.requires.can

pub stay_anew-requires-clause-protected : goal.stay_anew-requires-clause-protected
stay_anew-requires-clause-protected g c = (anew_on _ _ _ c.loop.invariant.anew c.in-Anew.ensures.steps c.in-Anew.ensures.loaded).protected

pub stay_anew-requires-clause-unlocked : goal.stay_anew-requires-clause-unlocked
stay_anew-requires-clause-unlocked g c = (can_anew _ _ _ _ _ _ (anew_on _ _ _ c.loop.invariant.anew c.in-Anew.ensures.steps c.in-Anew.ensures.loaded) c.requires.can).locks

pub stay_anew-requires-clause-nodes : goal.stay_anew-requires-clause-nodes
stay_anew-requires-clause-nodes g c = nodeless (can_anew _ _ _ _ _ _ (anew_on _ _ _ c.loop.invariant.anew c.in-Anew.ensures.steps c.in-Anew.ensures.loaded) c.requires.can)

pub returns-in-Ends-clause-answers : goal.returns-in-Ends-clause-answers
returns-in-Ends-clause-answers g c = record { between = _; anew = c.loop.invariant.anew; settles = c.in-Ends.ensures.steps }

pub returns-in-Ends-clause-loaded : goal.returns-in-Ends-clause-loaded
returns-in-Ends-clause-loaded g c = omega (arith, c.loop.invariant.anew.places, c.in-Ends.ensures.loaded)
