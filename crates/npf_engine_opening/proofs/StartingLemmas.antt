-- Whether the backward key is the forward one.
use Rattle.std.proofs.Common.{◌≡◌, ◌≢◌, true, false, sym, ◌∙◌}
use Rattle.npf_types.specs.declared.{change.Change.Change, key.Key.Key}
use Rattle.npf_core.{specs.Machine.is_key, proofs.EqualityLemmas.is_key-Decides}
use Rattle.npf_engine_opening.specs.{declared.attempt.Attempt.Attempt, Start.{packet_key, answer_key}}

module _ (attempt : Attempt) (there : Change) (forward backward : Key) (f : forward ≡ packet_key attempt) (b : backward ≡ answer_key attempt there) where
  pub is_one : is_key backward forward ≡ true → answer_key attempt there ≡ packet_key attempt
  is_one test = sym b ∙ ((is_key-Decides backward forward).0 test ∙ f)

  pub are_two : is_key backward forward ≡ false → answer_key attempt there ≢ packet_key attempt
  are_two test same = absurd (let one = (is_key-Decides backward forward).1 (b ∙ (same ∙ sym f)) in cc)
