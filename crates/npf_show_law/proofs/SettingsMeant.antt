-- What the statements of a text set is of each parameter's own values.
use Rattle.std.proofs.Common.{◌≡◌, ℕ, Bool, true, false, if◌then◌else◌, Option, Some, None, IfSome, option_and_then, option_map, option_to_list, List, [], ◌∷◌, ◌++◌, flat_map, refl}
use Rattle.std.proofs.{Common.arith, lemmas.Bool.{Decides.nat_tests}}
use Rattle.npf_syntax.specs.declared.stmt.{Setting.Setting, Stmt.Stmt}
use Rattle.npf_timeouts.{specs.{declared.timeouts.Timeout.TheVariants.TcpNew, Timeouts.{AreTimeouts, is_timeout}}, proofs.TimeoutsLemmas.{default_can_be_set, set_can_be_set}}
use Rattle.npf_model.specs.declared.settings.{Choice.Choice, Parameter.Parameter, PortBound.TheVariants.{Least, Greatest}, Settings.Settings, Switch.TheVariants.{StrictRst, KeyInterface}}
use Rattle.npf_model.specs.Settings.{choice_in, chosen_number, chosen_word, default_settings, is_port, parameter_named, set_in, switch_number, switch_word, with_settings}
use Rattle.npf_expand.specs.Settings.{choice_of, settings_in, settings_of}
use Rattle.npf_show_tokens.specs.Showable.{IsShowableChoice}
use Rattle.npf_show_meaning.specs.Regular.{IsRegularChoice}

-- settings of which each parameter has a value of its own
record AreOwn (settings : Settings) : Type 0 where
  min_port : is_port settings.min_port ≡ true
  max_port : is_port settings.max_port ≡ true
  timeouts : AreTimeouts settings.timeouts

own_set : (choice : Choice) → IsRegularChoice choice → (settings : Settings) → AreOwn settings → AreOwn (set_in choice settings)
own_set (Choice.Switch StrictRst on) regular settings own = record { min_port = own.min_port; max_port = own.max_port; timeouts = own.timeouts }
own_set (Choice.Switch KeyInterface on) regular settings own = record { min_port = own.min_port; max_port = own.max_port; timeouts = own.timeouts }
own_set (Choice.Port Least port) regular settings own = record { min_port = regular; max_port = own.max_port; timeouts = own.timeouts }
own_set (Choice.Port Greatest port) regular settings own = record { min_port = own.min_port; max_port = regular; timeouts = own.timeouts }
own_set (Choice.Timeout timeout seconds) regular settings own =
    record { min_port = own.min_port; max_port = own.max_port; timeouts = set_can_be_set timeout seconds regular settings.timeouts own.timeouts }

-- what a statement sets is a value of its own
switched : (make : Bool → Choice) → ((on : Bool) → IsRegularChoice (make on)) → (o : Option Bool) → IfSome (option_map make o) IsRegularChoice
switched make is None = tt
switched make is (Some on) = is on

drawn : (b : Bool) (choice : Choice) → (b ≡ true → IsRegularChoice choice) → IfSome (if b then Some choice else None) IsRegularChoice
drawn true choice is = is refl
drawn false choice is = tt

by_word : (o : Option Parameter) (text : List ℕ) → IfSome (option_and_then (λ parameter. chosen_word parameter text) o) IsRegularChoice
by_word None text = tt
by_word (Some (Parameter.Switch switch)) text = switched (Choice.Switch switch) (λ on. tt) (switch_word text)
by_word (Some (Parameter.Port bound)) text = tt
by_word (Some (Parameter.Timeout timeout)) text = tt

by_number : (o : Option Parameter) (n : ℕ) → IfSome (option_and_then (λ parameter. chosen_number parameter n) o) IsRegularChoice
by_number None n = tt
by_number (Some (Parameter.Switch switch)) n = switched (Choice.Switch switch) (λ on. tt) (switch_number n)
by_number (Some (Parameter.Port bound)) n = drawn (is_port n) (Choice.Port bound n) (λ is. is)
by_number (Some (Parameter.Timeout timeout)) n = drawn (is_timeout n) (Choice.Timeout timeout n) (λ is. is)

chosen : (name : List ℕ) (value : Setting) → IfSome (choice_of name value) IsRegularChoice
chosen name (Setting.Word word span) = by_word (parameter_named name) word.text
chosen name (Setting.Number number span) = by_number (parameter_named name) number.value

own_chosen : (o : Option Choice) → IfSome o IsRegularChoice → (rest : List Choice) (P : Settings → Type 0)
    → ((settings : Settings) → AreOwn settings → P (with_settings settings rest)) → (settings : Settings) → AreOwn settings
    → P (with_settings settings (option_to_list o ++ rest))
own_chosen None regular rest P onward settings own = onward settings own
own_chosen (Some choice) regular rest P onward settings own = onward (set_in choice settings) (own_set choice regular settings own)

own_behind : (stmts : List Stmt) (settings : Settings) → AreOwn settings → AreOwn (with_settings settings (flat_map settings_in stmts))
own_behind [] settings own = own
own_behind (Stmt.Set name value span ∷ stmts) settings own =
    own_chosen (choice_of name.text value) (chosen name.text value) (flat_map settings_in stmts) AreOwn (λ s is. own_behind stmts s is) settings own
own_behind (Stmt.Define var values span ∷ stmts) settings own = own_behind stmts settings own
own_behind (Stmt.Alg name span ∷ stmts) settings own = own_behind stmts settings own
own_behind (Stmt.MapRuleset iface span ∷ stmts) settings own = own_behind stmts settings own
own_behind (Stmt.Table name kind file span ∷ stmts) settings own = own_behind stmts settings own
own_behind (Stmt.Map iface kind proto left arrow right pass span ∷ stmts) settings own = own_behind stmts settings own
own_behind (Stmt.Group head items span ∷ stmts) settings own = own_behind stmts settings own
own_behind (Stmt.Procedure name calls span ∷ stmts) settings own = own_behind stmts settings own

regular_in : (settings : Settings) → AreOwn settings → (parameter : Parameter) → IsRegularChoice (choice_in settings parameter)
regular_in settings own (Parameter.Switch StrictRst) = tt
regular_in settings own (Parameter.Switch KeyInterface) = tt
regular_in settings own (Parameter.Port Least) = own.min_port
regular_in settings own (Parameter.Port Greatest) = own.max_port
regular_in settings own (Parameter.Timeout timeout) = own.timeouts timeout

small_port : (n : ℕ) → is_port n ≡ true → IsShowableChoice (Choice.Port Least n)
small_port n is = grind (arith, nat_tests)

small_time : (n : ℕ) → is_timeout n ≡ true → IsShowableChoice (Choice.Timeout TcpNew n)
small_time n is = grind (arith, nat_tests)

showable : (choice : Choice) → IsRegularChoice choice → IsShowableChoice choice
showable (Choice.Switch switch on) is = tt
showable (Choice.Port bound port) is = small_port port is
showable (Choice.Timeout timeout seconds) is = small_time seconds is

module _ (stmts : List Stmt) where
  own : AreOwn (settings_of stmts)
  own = own_behind stmts default_settings (record { min_port = refl; max_port = refl; timeouts = default_can_be_set })

  pub settings_regular : (parameter : Parameter) → IsRegularChoice (choice_in (settings_of stmts) parameter)
  settings_regular = regular_in (settings_of stmts) own

  pub settings_showable : (parameter : Parameter) → IsShowableChoice (choice_in (settings_of stmts) parameter)
  settings_showable parameter = showable (choice_in (settings_of stmts) parameter) (settings_regular parameter)
