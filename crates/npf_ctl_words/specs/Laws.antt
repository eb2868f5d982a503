-- What follows of the words of a command line.
use Rattle.std.specs.Prelude.{◌≡◌, List}
use Rattle.clap.specs.Words.{Text}
use Rattle.npf_ctl_words.specs.CommandLine.{SaysCommand, given_text}
use Rattle.npf_ctl_words.specs.declared.command.Invocation.{Invocation}
use Rattle.npf_ctl_words.specs.declared.command.Invocation.TheVariants as command
use Rattle.npf_ctl_words.specs.declared.command.CheckWords.{CheckWords}
use Rattle.npf_ctl_words.specs.declared.command.CompareWords.{CompareWords}
use Rattle.npf_ctl_words.specs.declared.command.ExplainWords.{ExplainWords}
use Rattle.npf_ctl_words.specs.declared.command.LintWords.{LintWords}
use Rattle.npf_ctl_words.specs.declared.command.Load.{Load}
use Rattle.npf_ctl_words.specs.declared.command.QueryWords.{QueryWords}
use Rattle.npf_ctl_words.specs.declared.command.RunWords.{RunWords}

-- the same but for where in memory the names of files lie
pub record IsSameRun (a b : RunWords) : Type 0 where
  pub conf : a.conf.now ≡ b.conf.now
  pub script : a.script.now ≡ b.script.now
  pub ifaces : given_text a.ifaces ≡ given_text b.ifaces
  pub workers : a.workers ≡ b.workers
  pub spread : a.spread ≡ b.spread
  pub on : a.on ≡ b.on
  pub dir : a.dir ≡ b.dir
  pub expire : a.expire ≡ b.expire
  pub output : given_text a.output ≡ given_text b.output
  pub load : given_text a.load ≡ given_text b.load
  pub save : given_text a.save ≡ given_text b.save

pub record IsSameLoad (a b : Load) : Type 0 where
  pub conf : a.conf.now ≡ b.conf.now
  pub ifaces : given_text a.ifaces ≡ given_text b.ifaces

pub record IsSameExplain (a b : ExplainWords) : Type 0 where
  pub conf : a.conf.now ≡ b.conf.now
  pub iface : a.iface ≡ b.iface
  pub dir : a.dir ≡ b.dir
  pub class : a.class.now ≡ b.class.now
  pub ifaces : given_text a.ifaces ≡ given_text b.ifaces

pub record IsSameQuery (a b : QueryWords) : Type 0 where
  pub conf : a.conf.now ≡ b.conf.now
  pub class : a.class.now ≡ b.class.now
  pub ifaces : given_text a.ifaces ≡ given_text b.ifaces
  pub steps : a.steps ≡ b.steps

pub record IsSameCheck (a b : CheckWords) : Type 0 where
  pub conf : a.conf.now ≡ b.conf.now
  pub expectations : a.expectations.now ≡ b.expectations.now
  pub ifaces : given_text a.ifaces ≡ given_text b.ifaces
  pub steps : a.steps ≡ b.steps

pub record IsSameLint (a b : LintWords) : Type 0 where
  pub conf : a.conf.now ≡ b.conf.now
  pub ifaces : given_text a.ifaces ≡ given_text b.ifaces
  pub steps : a.steps ≡ b.steps

pub record IsSameCompare (a b : CompareWords) : Type 0 where
  pub old : a.old.now ≡ b.old.now
  pub new : a.new.now ≡ b.new.now
  pub ifaces : given_text a.ifaces ≡ given_text b.ifaces
  pub steps : a.steps ≡ b.steps

abbrev pub IsSameCommand : Invocation → Invocation → Type 0
IsSameCommand (command.Run a) (command.Run b) = IsSameRun a b
IsSameCommand (command.Validate a) (command.Validate b) = IsSameLoad a b
IsSameCommand (command.Show a) (command.Show b) = IsSameLoad a b
IsSameCommand (command.Debug a) (command.Debug b) = IsSameLoad a b
IsSameCommand (command.Why a) (command.Why b) = IsSameLoad a b
IsSameCommand (command.WhyAll a) (command.WhyAll b) = IsSameLoad a b
IsSameCommand (command.Explain a) (command.Explain b) = IsSameExplain a b
IsSameCommand (command.Query a) (command.Query b) = IsSameQuery a b
IsSameCommand (command.Check a) (command.Check b) = IsSameCheck a b
IsSameCommand (command.Lint a) (command.Lint b) = IsSameLint a b
IsSameCommand (command.Compare a) (command.Compare b) = IsSameCompare a b
IsSameCommand (command.Gen a) (command.Gen b) = a ≡ b
IsSameCommand _ _ = ⊥

-- words say one command at most
abbrev pub OneCommand : Type 0
OneCommand = (words : List Text) (a b : Invocation) → SaysCommand words a → SaysCommand words b → IsSameCommand a b
