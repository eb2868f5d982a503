-- The procedures of a configuration: of calls and options that stand there more than once the last in the text counts. What isn't
-- built changes nothing: a check refuses it by the tree.
use Rattle.std.specs.Prelude.{ℕ, true, false, Some, None, List, [], ◌∷◌, min}
use Rattle.npf_types.specs.declared.name.Name.{Name}
use Rattle.npf_types.specs.Named.{named}
use Rattle.npf_syntax.specs.declared.procedure.Call.{Call}
use Rattle.npf_syntax.specs.declared.procedure.LogName.{LogName}
use Rattle.npf_syntax.specs.declared.procedure.Opt.{Opt}
use Rattle.npf_model.specs.declared.procedure.Procedure.{Procedure}

abbrev pub log_name : LogName → Name
log_name (LogName.Word word span) = named word.text
log_name (LogName.Str string span) = named string.text

-- numbers past what an option may have, which no grammar accepts there, are taken for the greatest that it may
abbrev pub with_option : Procedure → Opt → Procedure
with_option procedure (Opt.MinTtl number span) = record procedure { min_ttl = Some (min number.value 255) }
with_option procedure (Opt.MaxMss number span) = record procedure { max_mss = Some (min number.value 65535) }
with_option procedure (Opt.NoDf span) = record procedure { no_df = true }
with_option procedure (Opt.RandomId span) = procedure

abbrev pub with_options : Procedure → List Opt → Procedure
with_options procedure [] = procedure
with_options procedure (option ∷ options) = with_options (with_option procedure option) options

abbrev pub with_call : Procedure → Call → Procedure
with_call procedure (Call.Log name span) = record procedure { log = Some (log_name name) }
with_call procedure (Call.Normalize options span) = with_options procedure options
with_call procedure (Call.Route span) = procedure

abbrev pub with_calls : Procedure → List Call → Procedure
with_calls procedure [] = procedure
with_calls procedure (call ∷ calls) = with_calls (with_call procedure call) calls

-- a procedure that does nothing yet, with the calls in their order
abbrev pub procedure_of : List ℕ → List Call → Procedure
procedure_of name calls = with_calls (record { name = name; min_ttl = None; max_mss = None; no_df = false; log = None }) calls
