use Rattle.npf_expand.proofs.group.ruleset_of.Goals as goal

pub returns : goal.returns
returns c = cc (c.name_of.ensures, c.as_slice.ensures, c.dir_of.ensures, c.on_of.ensures, c.of_vec.ensures, c.new.ensures.items)
