use Rattle.std.proofs.{Common.{sym, ◌∙◌, true≢false}, lemmas.Bool.false_from_ne_true}
use Rattle.npf_types.specs.NameText.{is_name}
use Rattle.npf_expand_values.proofs.NameLemmas.{no_name}
use Rattle.npf_expand_values.proofs.name.name_of.Goals as goal

pub returns-in-None : goal.returns-in-None
returns-in-None c = c.stand_in.ensures ∙ sym (no_name c.args.text.now (false_from_ne_true (is_name c.args.text.now) (λ is. true≢false (sym (c.in-None.ensures.named.1 is)))))
