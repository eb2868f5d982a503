use Rattle.std.proofs.Common.{◌≡◌}
use Rattle.npf_ruleset.specs.Configuration.{programs}
use Rattle.npf_ctl.{specs.Texts.programs_text, proofs.ListingLemmas.with_rest}
use Rattle.npf_ctl.proofs.programs.programs_text.Given as goal

abbrev pub invariant-loop-place : goal.invariant-loop-place
invariant-loop-place l = with_rest l.text.items l.config.rules l.place ≡ programs_text 1 (programs l.config)
