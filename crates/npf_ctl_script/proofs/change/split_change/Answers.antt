use Rattle.std.proofs.Common.{List, ℕ, IsTrue, refl, subst, sym, ap, ◌∙◌}
use Rattle.npf_types.specs.{Named.named, NameText.is_name}
use Rattle.npf_ctl_script.specs.Words.{behind_word, leading_word}
use Rattle.npf_ctl_script.proofs.change.split_change.Goals as goal

pub returns : goal.returns
returns c = (
  record {
    named = record {
      proper = subst (λ (word : List ℕ). IsTrue (is_name word)) c.split_word.ensures.word (c.in-Some.ensures.named.0 refl);
      value = c.in-Some.ensures.value ∙ ap named c.split_word.ensures.word;
    };
    does = ap leading_word (sym c.split_word.ensures.behind) ∙ sym c.split_word-2.ensures.word ∙ c.in-Some-verb_of.ensures;
  },
  c.split_word-2.ensures.behind ∙ ap behind_word c.split_word.ensures.behind,
)
