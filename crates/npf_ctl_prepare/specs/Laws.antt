-- Where contents are told and no read of any file fails, what is prepared doesn't hang on the moments.
use Rattle.npf_ctl_input.specs.Laws.{IsOfContents}
use Rattle.npf_ctl_prepare.specs.Prepares.{PreparesRun, RunNames}

abbrev pub RunsAreOfContents : Type 0
RunsAreOfContents = (names : RunNames) → IsOfContents (λ before after. PreparesRun before after names)
