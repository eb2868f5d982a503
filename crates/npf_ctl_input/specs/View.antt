-- The second file of a run as contracts see it.
use Rattle.npf_ctl_input.specs.declared.source.RunSource.{RunSource as SourceRead}
use Rattle.npf_ctl_input.specs.declared.source.RunSource.TheVariants as Read
use Rattle.npf_ctl_input.specs.Source.{Source, Alone, Scripted}

abbrev pub source_view : SourceRead → Source
source_view (Read.Alone bytes) = Alone bytes.items
source_view (Read.Scripted script) = Scripted script.lines
