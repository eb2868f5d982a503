use Rattle.std.proofs.Common.{List, ℕ, Option, MatchOption, IsTrue, subst, refl, sym, ap, ◌∙◌}
use Rattle.npf_types.specs.{Named.named, NameText.is_name}
use Rattle.npf_ctl_script.specs.{Arguments.IsFileName, Words.{behind_word, leading_word}}
use Rattle.npf_ctl_script.proofs.arguments.read_capture.Goals as goal

pub returns : goal.returns
returns c =
    let left = c.split_word-2.result.1.now in
    let found : IsFileName left c.in-Some-2.file =
    subst (λ (answer : Option (List ℕ)). MatchOption answer ((file : List ℕ) → ¬ IsFileName left file) (λ file. IsFileName left file)) c.in-Some-2.is c.in_ok-file.ensures in (
      refl,
      record {
        interface = record {
          proper = subst (λ (word : List ℕ). IsTrue (is_name word)) c.split_word.ensures.word (c.in-Some.ensures.named.0 refl);
          value = c.in-Some.ensures.value ∙ ap named c.split_word.ensures.word;
        };
        direction = ap leading_word (sym c.split_word.ensures.behind) ∙ sym c.split_word-2.ensures.word ∙ c.in-Some-direction_of.ensures;
        quoted = subst (λ (rest : List ℕ). IsFileName rest c.in-Some-2.file) (c.split_word-2.ensures.behind ∙ ap behind_word c.split_word.ensures.behind) found;
      },
    )
