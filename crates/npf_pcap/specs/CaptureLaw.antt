-- What the definitions of captures and of their faults imply: bytes are one capture, or have one fault, and never both.
use Rattle.std.specs.Prelude.{◌≡◌, ◌≢◌, ◌⊎◌, ℕ, List}
use Rattle.npf_types.specs.declared.link.Link.{Link}
use Rattle.npf_pcap.specs.declared.capture.Record.{Record}
use Rattle.npf_pcap.specs.declared.fault.CaptureFault.{CaptureFault}
use Rattle.npf_pcap.specs.declared.fault.CaptureFault.TheVariants.{NoMemory}
use Rattle.npf_pcap.specs.Capture.{IsCapture, HasCaptureFault}

-- no bytes are two captures
abbrev pub OneCapture : Type 0
OneCapture = (bytes : List ℕ) (one other : Link) (records others : List Record) → IsCapture bytes one records → IsCapture bytes other others
    → (one ≡ other) × (records ≡ others)

-- no capture has a fault
abbrev pub CapturesHaveNoFault : Type 0
CapturesHaveNoFault = (bytes : List ℕ) (link : Link) (records : List Record) (fault : CaptureFault) → IsCapture bytes link records
    → HasCaptureFault bytes fault → fault ≡ NoMemory

-- no bytes have two faults
abbrev pub OneFault : Type 0
OneFault = (bytes : List ℕ) (one other : CaptureFault) → one ≢ NoMemory → other ≢ NoMemory → HasCaptureFault bytes one
    → HasCaptureFault bytes other → other ≡ one

-- and all bytes are one or have one
abbrev pub CaptureOrFault : Type 0
CaptureOrFault = (bytes : List ℕ) → ((link : Link) × ((records : List Record) × IsCapture bytes link records))
    ⊎ ((fault : CaptureFault) × ((fault ≢ NoMemory) × HasCaptureFault bytes fault))
