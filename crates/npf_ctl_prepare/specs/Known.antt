-- What is known of the lines of a script before they are followed.
use Rattle.std.specs.Prelude.{List, length}
use Rattle.std.specs.Str.{IsUtf8}
use Rattle.npf_model.specs.declared.iface.Iface.{Iface}
use Rattle.npf_ctl_script.specs.declared.script.ScriptLine.{ScriptLine}
use Rattle.npf_ctl_script.specs.declared.script.ScriptLine.TheVariants.{Capture, Reload}
use Rattle.npf_ctl_arrivals.specs.Within.{IsInterfaceNumber}
use Rattle.npf_ctl_prepare.specs.Captures.{interface_id}

-- the name of a file that the line names is text
abbrev pub NamesTextFile : ScriptLine → Type 0
NamesTextFile (Capture name dir file) = IsUtf8 file
NamesTextFile (Reload file) = IsUtf8 file
NamesTextFile _ = Unit {0}

-- the interface that a capture names is one of these
abbrev pub NamesKnownInterface : List Iface → ScriptLine → Type 0
NamesKnownInterface ifaces (Capture name dir file) = IsInterfaceNumber (length ifaces) (interface_id ifaces name)
NamesKnownInterface ifaces _ = Unit {0}
