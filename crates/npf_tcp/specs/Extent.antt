use Rattle.std.specs.Prelude.{ℕ, Option, Some, ◌+◌, ◌*◌, ◌%◌, ◌^◌, max, min, if◌then◌else◌}
use Rattle.npf_types.specs.declared.facts.Segment.{Segment}
use Rattle.npf_tcp.specs.Flag.{has_fin, has_syn}

-- the sequence number after a segment: its payload counts, and so do SYN and FIN, each as one byte (RFC 9293 section 3.4)
unfoldable pub segment_end : Segment → ℕ
segment_end seg = (seg.seq + seg.len + (if has_syn seg.flags then 1 else 0) + (if has_fin seg.flags then 1 else 0)) % 2 ^ 32

-- the window that a segment offers, in bytes and at least 1, where the sender and the receiver have these scales. It is
-- shifted by the sender's where both have one, but not with SYN, and by 14 where the scale is greater
-- (RFC 7323 sections 2.2 and 2.3)
unfoldable pub window : Segment → Option ℕ → Option ℕ → ℕ
window seg (Some shift) (Some _) = max 1 (if has_syn seg.flags then seg.win else seg.win * 2 ^ min shift 14)
window seg _ _ = max 1 seg.win
