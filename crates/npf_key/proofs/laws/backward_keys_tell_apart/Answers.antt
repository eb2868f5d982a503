use Rattle.npf_key.{specs.Translated.{about, facts_there}, proofs.TranslatedLemmas.{keeps_family, about_family}}
use Rattle.npf_key.proofs.laws.backward_keys_tell_apart.Goals as goal

pub returns-clause-family : goal.returns-clause-family
returns-clause-family c = keeps_family

pub returns-clause-told : goal.returns-clause-told
returns-clause-told c = λ facts ifid there other other_ifid fits other_fits one other_one.
    c.keys_tell_apart.ensures (about (facts_there there facts)) ifid other other_ifid fits other_fits
    (about_family (facts_there there facts) (keeps_family facts there one)) other_one
