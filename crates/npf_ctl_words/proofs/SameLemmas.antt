-- Words say one command at most.
use Rattle.std.proofs.Common.{◌≡◌, ◌∙◌, Bool, false, true, List, sym, subst}
use Rattle.clap.specs.Words.{Row, Text}
use Rattle.npf_shelf.proofs.OptionLemmas.{Some-injective}
use Rattle.npf_ctl_words.specs.CommandLine.{SaysCommand, TellsCheck, TellsCommand, TellsCompare, TellsExplain, TellsLint, TellsLoad, TellsQuery, TellsRun, command_name, rows_in}
use Rattle.npf_ctl_words.specs.Laws.{IsSameCheck, IsSameCommand, IsSameCompare, IsSameExplain, IsSameLint, IsSameLoad, IsSameQuery, IsSameRun}
use Rattle.npf_ctl_words.specs.declared.command.{CheckWords.CheckWords, CompareWords.CompareWords, ExplainWords.ExplainWords, Invocation.Invocation}
use Rattle.npf_ctl_words.specs.declared.command.{LintWords.LintWords, Load.Load, QueryWords.QueryWords, RunWords.RunWords}
use Rattle.npf_ctl_words.specs.declared.command.Invocation.TheVariants as command

same_run : (rows : List Row) (a b : RunWords) → TellsRun rows a → TellsRun rows b → IsSameRun a b
same_run rows a b p q = record {
  conf = Some-injective _ _ (sym p.conf ∙ q.conf);
  script = Some-injective _ _ (sym p.script ∙ q.script);
  ifaces = sym p.ifaces ∙ q.ifaces;
  workers = Some-injective _ _ (sym p.workers ∙ q.workers);
  spread = Some-injective _ _ (sym p.spread ∙ q.spread);
  on = Some-injective _ _ (sym p.on ∙ q.on);
  dir = Some-injective _ _ (sym p.dir ∙ q.dir);
  expire = Some-injective _ _ (sym p.expire ∙ q.expire);
  output = sym p.output ∙ q.output;
  load = sym p.load ∙ q.load;
  save = sym p.save ∙ q.save;
}

same_load : (rows : List Row) (a b : Load) → TellsLoad rows a → TellsLoad rows b → IsSameLoad a b
same_load rows a b p q = record { conf = Some-injective _ _ (sym p.conf ∙ q.conf); ifaces = sym p.ifaces ∙ q.ifaces }

all_or_not : (is_all : Bool) → is_all ≡ false → is_all ≡ true → ⊥
all_or_not is_all left given = cc

same_explain : (rows : List Row) (a b : ExplainWords) → TellsExplain rows a → TellsExplain rows b → IsSameExplain a b
same_explain rows a b p q = record {
  conf = Some-injective _ _ (sym p.conf ∙ q.conf);
  iface = Some-injective _ _ (sym p.iface ∙ q.iface);
  dir = Some-injective _ _ (sym p.dir ∙ q.dir);
  class = Some-injective _ _ (sym p.class ∙ q.class);
  ifaces = sym p.ifaces ∙ q.ifaces;
}

same_query : (rows : List Row) (a b : QueryWords) → TellsQuery rows a → TellsQuery rows b → IsSameQuery a b
same_query rows a b p q = record {
  conf = Some-injective _ _ (sym p.conf ∙ q.conf);
  class = Some-injective _ _ (sym p.class ∙ q.class);
  ifaces = sym p.ifaces ∙ q.ifaces;
  steps = Some-injective _ _ (sym p.steps ∙ q.steps);
}

same_check : (rows : List Row) (a b : CheckWords) → TellsCheck rows a → TellsCheck rows b → IsSameCheck a b
same_check rows a b p q = record {
  conf = Some-injective _ _ (sym p.conf ∙ q.conf);
  expectations = Some-injective _ _ (sym p.expectations ∙ q.expectations);
  ifaces = sym p.ifaces ∙ q.ifaces;
  steps = Some-injective _ _ (sym p.steps ∙ q.steps);
}

same_lint : (rows : List Row) (a b : LintWords) → TellsLint rows a → TellsLint rows b → IsSameLint a b
same_lint rows a b p q = record {
  conf = Some-injective _ _ (sym p.conf ∙ q.conf);
  ifaces = sym p.ifaces ∙ q.ifaces;
  steps = Some-injective _ _ (sym p.steps ∙ q.steps);
}

same_compare : (rows : List Row) (a b : CompareWords) → TellsCompare rows a → TellsCompare rows b → IsSameCompare a b
same_compare rows a b p q = record {
  old = Some-injective _ _ (sym p.old ∙ q.old);
  new = Some-injective _ _ (sym p.new ∙ q.new);
  ifaces = sym p.ifaces ∙ q.ifaces;
  steps = Some-injective _ _ (sym p.steps ∙ q.steps);
}

same_command : (rows : List Row) (a b : Invocation) → command_name a ≡ command_name b → TellsCommand rows a → TellsCommand rows b → IsSameCommand a b
same_command rows (command.Run a) (command.Run b) e p q = same_run rows a b p q
same_command rows (command.Validate a) (command.Validate b) e p q = same_load rows a b p q
same_command rows (command.Show a) (command.Show b) e p q = same_load rows a b p q
same_command rows (command.Debug a) (command.Debug b) e p q = same_load rows a b p q
same_command rows (command.Why a) (command.Why b) e p q = same_load rows a b p.load q.load
same_command rows (command.WhyAll a) (command.WhyAll b) e p q = same_load rows a b p.load q.load
same_command rows (command.Why a) (command.WhyAll b) e p q = absurd (all_or_not _ p.all q.all)
same_command rows (command.WhyAll a) (command.Why b) e p q = absurd (all_or_not _ q.all p.all)
same_command rows (command.Explain a) (command.Explain b) e p q = same_explain rows a b p q
same_command rows (command.Query a) (command.Query b) e p q = same_query rows a b p q
same_command rows (command.Check a) (command.Check b) e p q = same_check rows a b p q
same_command rows (command.Lint a) (command.Lint b) e p q = same_lint rows a b p q
same_command rows (command.Compare a) (command.Compare b) e p q = same_compare rows a b p q
same_command rows (command.Gen a) (command.Gen b) e p q = Some-injective _ _ (sym p ∙ q)
same_command rows _ _ e p q = cc

pub one_command : (words : List Text) (a b : Invocation) → SaysCommand words a → SaysCommand words b → IsSameCommand a b
one_command words a b p q =
    let name = Some-injective _ _ (sym p.name ∙ q.name) in
    same_command (rows_in (command_name a) words) a b name p.told
    (subst (λ n. TellsCommand (rows_in n words) b) (sym name) q.told)
