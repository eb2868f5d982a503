use Rattle.npf_reass.specs.Passes.{sight}
use Rattle.npf_reass_run.proofs.OfferLemmas.{split_none}
use Rattle.npf_reass_run.proofs.offer.new_pass.Goals as goal

pub returns-clause-none : goal.returns-clause-none
returns-clause-none c = (split_none (sight c.args.pass.now) (sight c.split.new.pass) (sight c.split.result) c.split.ensures.splits c.requires.none).0

pub returns-clause-empty : goal.returns-clause-empty
returns-clause-empty c = (split_none (sight c.args.pass.now) (sight c.split.new.pass) (sight c.split.result) c.split.ensures.splits c.requires.none).1
