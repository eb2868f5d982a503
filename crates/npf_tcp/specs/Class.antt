use Rattle.std.specs.Prelude.{ℕ, Bool, true, false, if◌then◌else◌, ◌&&◌}
use Rattle.npf_tcp.specs.Flag.{has_fin, has_syn, has_rst, has_ack}
use Rattle.npf_tcp.specs.declared.class.SegmentClass.{SegmentClass}
use Rattle.npf_tcp.specs.declared.class.SegmentClass.TheVariants.{Rst, Syn, SynAck, Ack, Fin, Invalid}

-- the class of a segment with these flags: the first that fits
unfoldable pub segment_class : ℕ → SegmentClass
segment_class flags =
    if has_rst flags then Rst
    else (if has_syn flags && has_fin flags then Invalid
    else (if has_syn flags && has_ack flags then SynAck
    else (if has_syn flags then Syn
    else (if has_fin flags then Fin
    else (if has_ack flags then Ack
    else Invalid)))))

-- the segment is a reset
abbrev pub is_reset : SegmentClass → Bool
is_reset Rst = true
is_reset Syn = false
is_reset SynAck = false
is_reset Ack = false
is_reset Fin = false
is_reset Invalid = false
