-- Each of the ten definitions is sound, and `clap` says of each where it refuses words.
use Rattle.std.proofs.Common.{◌≡◌, refl, true}
use Rattle.clap.{specs.Words.is_simple_and_free, proofs.OnLiterals.clap_on_literals}
use Rattle.npf_ctl_words.{specs.{Definitions.definition_of, declared.command.CommandName.CommandName}, proofs.ValueLemmas.IsSound}
use Rattle.npf_ctl_words.specs.declared.command.CommandName.TheVariants as name

pub all_free : (n : CommandName) → is_simple_and_free (definition_of n) ≡ true
unfolding clap_on_literals
all_free name.Run = refl
all_free name.Validate = refl
all_free name.Show = refl
all_free name.Debug = refl
all_free name.Why = refl
all_free name.Explain = refl
all_free name.Query = refl
all_free name.Check = refl
all_free name.Lint = refl
all_free name.Compare = refl
all_free name.Gen = refl

pub all_sound : (n : CommandName) → IsSound (definition_of n)
all_sound name.Run = record { plain = refl; negates = refl; rules = refl; differ = refl; sets = refl }
all_sound name.Validate = record { plain = refl; negates = refl; rules = refl; differ = refl; sets = refl }
all_sound name.Show = record { plain = refl; negates = refl; rules = refl; differ = refl; sets = refl }
all_sound name.Debug = record { plain = refl; negates = refl; rules = refl; differ = refl; sets = refl }
all_sound name.Why = record { plain = refl; negates = refl; rules = refl; differ = refl; sets = refl }
all_sound name.Explain = record { plain = refl; negates = refl; rules = refl; differ = refl; sets = refl }
all_sound name.Query = record { plain = refl; negates = refl; rules = refl; differ = refl; sets = refl }
all_sound name.Check = record { plain = refl; negates = refl; rules = refl; differ = refl; sets = refl }
all_sound name.Lint = record { plain = refl; negates = refl; rules = refl; differ = refl; sets = refl }
all_sound name.Compare = record { plain = refl; negates = refl; rules = refl; differ = refl; sets = refl }
all_sound name.Gen = record { plain = refl; negates = refl; rules = refl; differ = refl; sets = refl }
