use Rattle.npf_ctl_prepare_law.proofs.{InputLemmas.loads_agree, RunLemmas.runs_agree}
use Rattle.npf_ctl_prepare_law.proofs.one_run.Goals as goal

pub returns-clause-run : goal.returns-clause-run
returns-clause-run c = λ tree names.
    runs_agree c.one_tree.ensures c.tree_or_halt.ensures c.one_place.ensures c.text_is_decided.ensures.one_meaning c.text_is_decided.ensures.never_both
    c.one_addition.ensures c.one_removal.ensures.one_removal c.one_removal.ensures.one_flush c.one_script.ensures c.no_script_is_refused.ensures
    c.capture_law.ensures.one c.capture_law.ensures.fine c.capture_law.ensures.fault tree names

pub returns-clause-load : goal.returns-clause-load
returns-clause-load c = λ tree ifaces conf.
    loads_agree c.one_tree.ensures c.tree_or_halt.ensures c.one_place.ensures c.text_is_decided.ensures.one_meaning c.text_is_decided.ensures.never_both tree ifaces conf
