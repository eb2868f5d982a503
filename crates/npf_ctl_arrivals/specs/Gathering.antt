-- What a reader of captures has gathered.
use Rattle.npf_ctl_arrivals.specs.declared.arrivals.Arrivals.{Arrivals}
use Rattle.npf_ctl_arrivals.specs.Arrivals.{Gathered}
use Rattle.npf_ctl_arrivals.specs.Traces.{packets_in_traces}

abbrev pub gathered_so_far : Arrivals → Gathered
gathered_so_far arrivals = record { bytes = arrivals.bytes; packets = packets_in_traces arrivals.traces.items }
