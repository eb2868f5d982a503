-- What the `set` statements of a configuration choose (npf.conf(5), "Settings"): whether a reset has to stand in order, which it
-- needn't without a statement; whether keys are bound to an interface, which they are without one; and from which ports a dynamic map
-- draws whose right side has none, without a statement from all that aren't well-known; and how long connections may be idle.
use Rattle.std.specs.Prelude.{ℕ, nat_le, Bool, true, false, ◌&&◌, ◌==◌, if◌then◌else◌, Option, Some, None, option_and_then, List, [], ◌∷◌, codes, find}
use Rattle.std.specs.Option.{option_map}
use Rattle.std.specs.Str.{bytes_eq}
use Rattle.npf_timeouts.specs.Timeouts.{default_timeouts, is_timeout, timeout_of, with_timeout}
use Rattle.npf_timeouts.specs.declared.timeouts.Timeout.TheVariants.{TcpNew, TcpEstablished, TcpHalfClose, TcpTimeWait, TcpClose, OtherNew, OtherEstablished}
use Rattle.npf_model.specs.declared.settings.Choice.{Choice}
use Rattle.npf_model.specs.declared.settings.Parameter.{Parameter}
use Rattle.npf_model.specs.declared.settings.PortBound.{PortBound}
use Rattle.npf_model.specs.declared.settings.PortBound.TheVariants.{Least, Greatest}
use Rattle.npf_model.specs.declared.settings.Settings.{Settings}
use Rattle.npf_model.specs.declared.settings.Switch.{Switch}
use Rattle.npf_model.specs.declared.settings.Switch.TheVariants.{StrictRst, KeyInterface}

abbrev pub default_settings : Settings
default_settings = record { strict_rst = false; key_interface = true; min_port = 1024; max_port = 65535; timeouts = default_timeouts }

-- the parameters with an effect, in the order of a canonical text
abbrev pub parameters : List Parameter
parameters =
    Parameter.Switch StrictRst
    ∷ Parameter.Switch KeyInterface
    ∷ Parameter.Port Least
    ∷ Parameter.Port Greatest
    ∷ Parameter.Timeout TcpNew
    ∷ Parameter.Timeout TcpEstablished
    ∷ Parameter.Timeout TcpHalfClose
    ∷ Parameter.Timeout TcpTimeWait
    ∷ Parameter.Timeout TcpClose
    ∷ Parameter.Timeout OtherNew
    ∷ Parameter.Timeout OtherEstablished
    ∷ []

abbrev pub parameter_name : Parameter → List ℕ
parameter_name (Parameter.Switch StrictRst) = codes "state.tcp.strict_order_rst"
parameter_name (Parameter.Switch KeyInterface) = codes "state.key.interface"
parameter_name (Parameter.Port Least) = codes "portmap.min_port"
parameter_name (Parameter.Port Greatest) = codes "portmap.max_port"
parameter_name (Parameter.Timeout TcpNew) = codes "state.tcp.timeout.new"
parameter_name (Parameter.Timeout TcpEstablished) = codes "state.tcp.timeout.established"
parameter_name (Parameter.Timeout TcpHalfClose) = codes "state.tcp.timeout.half_close"
parameter_name (Parameter.Timeout TcpTimeWait) = codes "state.tcp.timeout.time_wait"
parameter_name (Parameter.Timeout TcpClose) = codes "state.tcp.timeout.close"
parameter_name (Parameter.Timeout OtherNew) = codes "state.generic.timeout.new"
parameter_name (Parameter.Timeout OtherEstablished) = codes "state.generic.timeout.established"

abbrev pub parameter_named : List ℕ → Option Parameter
parameter_named name = find (λ parameter. bytes_eq (parameter_name parameter) name) parameters

-- what a word, or a number, sets a switch to
abbrev pub switch_word : List ℕ → Option Bool
switch_word text = if bytes_eq text (codes "on") then Some true else if bytes_eq text (codes "off") then Some false else None

abbrev pub switch_number : ℕ → Option Bool
switch_number number = if number == 1 then Some true else if number == 0 then Some false else None

-- a port that may be drawn: one that isn't well-known
abbrev pub is_port : ℕ → Bool
is_port number = nat_le 1024 number && nat_le number 65535

-- what a word sets a parameter to: a switch alone
abbrev pub chosen_word : Parameter → List ℕ → Option Choice
chosen_word (Parameter.Switch switch) text = option_map (Choice.Switch switch) (switch_word text)
chosen_word (Parameter.Port bound) text = None
chosen_word (Parameter.Timeout timeout) text = None

-- and what a number does
abbrev pub chosen_number : Parameter → ℕ → Option Choice
chosen_number (Parameter.Switch switch) number = option_map (Choice.Switch switch) (switch_number number)
chosen_number (Parameter.Port bound) number = if is_port number then Some (Choice.Port bound number) else None
chosen_number (Parameter.Timeout timeout) number = if is_timeout number then Some (Choice.Timeout timeout number) else None

-- the same for the parameter of a name
abbrev pub choice_by_word : List ℕ → List ℕ → Option Choice
choice_by_word name text = option_and_then (λ parameter. chosen_word parameter text) (parameter_named name)

abbrev pub choice_by_number : List ℕ → ℕ → Option Choice
choice_by_number name number = option_and_then (λ parameter. chosen_number parameter number) (parameter_named name)

abbrev pub parameter_of : Choice → Parameter
parameter_of (Choice.Switch switch on) = Parameter.Switch switch
parameter_of (Choice.Port bound port) = Parameter.Port bound
parameter_of (Choice.Timeout timeout seconds) = Parameter.Timeout timeout

-- a parameter with what settings have for it
abbrev pub choice_in : Settings → Parameter → Choice
choice_in settings (Parameter.Switch StrictRst) = Choice.Switch StrictRst settings.strict_rst
choice_in settings (Parameter.Switch KeyInterface) = Choice.Switch KeyInterface settings.key_interface
choice_in settings (Parameter.Port Least) = Choice.Port Least settings.min_port
choice_in settings (Parameter.Port Greatest) = Choice.Port Greatest settings.max_port
choice_in settings (Parameter.Timeout timeout) = Choice.Timeout timeout (timeout_of settings.timeouts timeout)

-- settings with one parameter set
abbrev pub set_in : Choice → Settings → Settings
set_in (Choice.Switch StrictRst on) settings = record settings { strict_rst = on }
set_in (Choice.Switch KeyInterface on) settings = record settings { key_interface = on }
set_in (Choice.Port Least port) settings = record settings { min_port = port }
set_in (Choice.Port Greatest port) settings = record settings { max_port = port }
set_in (Choice.Timeout timeout seconds) settings = record settings { timeouts = with_timeout timeout seconds settings.timeouts }

-- of several statements the last that sets a parameter counts
abbrev pub with_settings : Settings → List Choice → Settings
with_settings settings [] = settings
with_settings settings (one ∷ more) = with_settings (set_in one settings) more

-- the first and the last port to draw from
abbrev pub drawn_ports : Settings → ℕ × ℕ
drawn_ports settings = (settings.min_port, settings.max_port)
