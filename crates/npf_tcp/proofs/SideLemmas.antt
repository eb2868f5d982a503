use Rattle.std.proofs.Common.{◌≡◌, ◌≤◌, ℕ, Bool, true, false, if◌then◌else◌, Option, None, refl, sym, arith}
use Rattle.npf_types.specs.declared.facts.Segment.{Segment}
use Rattle.npf_tcp.specs.{declared.state.{Known.{Known, TheVariants.{Nothing, Expected, Seen}}, TcpSide.TcpSide}, Extent.{segment_end, window}, Flag.has_ack}
use Rattle.npf_tcp.specs.Laws.{BothSides, StaysSeen, KeepsMaxwin, IsQuietUnseen}
use Rattle.npf_tcp.specs.Opening.{opening_state, opening_forward, opening_backward, expected_side, unknown_side}
use Rattle.npf_tcp.specs.Segment.{side_after_sending_by, side_after_sending, side_after_ack_by, side_after_ack, sender_after, receiver_after, receiver_scale}

-- a sender is seen afterwards, and if it was before, its greatest window doesn't fall
side_after_sending_by-known : (k : Known) (s : TcpSide) (e w : ℕ) → k ≡ s.known → (side_after_sending_by k s e w).known ≡ Seen
side_after_sending_by-known Seen s e w h = sym h
side_after_sending_by-known Expected s e w h = refl
side_after_sending_by-known Nothing s e w h = refl

side_after_sending_by-maxwin : (k : Known) (s : TcpSide) (e w : ℕ) → k ≡ s.known → s.known ≡ Seen → s.maxwin ≤ (side_after_sending_by k s e w).maxwin
side_after_sending_by-maxwin Seen s e w h seen = omega arith
side_after_sending_by-maxwin Expected s e w h seen = absurd (cc)
side_after_sending_by-maxwin Nothing s e w h seen = absurd (cc)

quiet_side_after_sending : (k : Known) (s : TcpSide) (e w : ℕ) → k ≡ s.known → IsQuietUnseen s → s.maxwin ≤ (side_after_sending_by k s e w).maxwin
quiet_side_after_sending Seen s e w h quiet = omega arith
quiet_side_after_sending Expected s e w h quiet = let none : s.maxwin ≡ 0 = quiet (λ seen. cc) in omega arith
quiet_side_after_sending Nothing s e w h quiet = let none : s.maxwin ≡ 0 = quiet (λ seen. cc) in omega arith

pub sender_after-known : (s r : TcpSide) (seg : Segment) → (sender_after s r seg).known ≡ Seen
unfolding sender_after side_after_sending
sender_after-known s r seg = side_after_sending_by-known s.known s (segment_end seg) (window seg s.scale r.scale) refl

pub sender_after-maxwin : (s r : TcpSide) (seg : Segment) → KeepsMaxwin s (sender_after s r seg)
unfolding sender_after side_after_sending
sender_after-maxwin s r seg = side_after_sending_by-maxwin s.known s (segment_end seg) (window seg s.scale r.scale) refl

pub quiet_sender_after : (s r : TcpSide) (seg : Segment) → IsQuietUnseen s → s.maxwin ≤ (sender_after s r seg).maxwin
unfolding sender_after side_after_sending
quiet_sender_after s r seg = quiet_side_after_sending s.known s (segment_end seg) (window seg s.scale r.scale) refl

-- an acknowledgment leaves a receiver seen that was, and its greatest window as it was, unless nothing was known of it
pub record IsAcked (old new : TcpSide) : Type 0 where
  pub seen : StaysSeen old new
  pub maxwin : KeepsMaxwin old new
  pub quiet : IsQuietUnseen old → IsQuietUnseen new
  pub rises : IsQuietUnseen old → old.maxwin ≤ new.maxwin

same_side : (r : TcpSide) (scale : Option ℕ) → IsAcked r (record r { scale = scale })
same_side r scale = record { seen = λ h. h; maxwin = λ h. omega arith; quiet = λ h. h; rises = λ h. omega arith }

side_after_ack_is_acked : (k : Known) (r : TcpSide) (a w : ℕ) → k ≡ r.known → IsAcked r (side_after_ack_by k r a w)
side_after_ack_is_acked Seen r a w h = record { seen = λ s. s; maxwin = λ s. omega arith; quiet = λ q. q; rises = λ q. omega arith }
side_after_ack_is_acked Expected r a w h = record { seen = λ s. s; maxwin = λ s. omega arith; quiet = λ q. q; rises = λ q. omega arith }
side_after_ack_is_acked Nothing r a w h = record {
  seen = λ seen. absurd (cc);
  maxwin = λ seen. absurd (cc);
  quiet = λ q. λ unseen. refl;
  rises = λ q. let none : r.maxwin ≡ 0 = q (λ seen. cc) in omega arith;
}

receiver_cases : (b : Bool) (r : TcpSide) (scale : Option ℕ) (a w : ℕ) → IsAcked r (if b then side_after_ack (record r { scale = scale }) a w else record r { scale = scale })
unfolding side_after_ack
receiver_cases true r scale a w =
    let i = side_after_ack_is_acked r.known (record r { scale = scale }) a w refl in
    record { seen = i.seen; maxwin = i.maxwin; quiet = i.quiet; rises = i.rises }
receiver_cases false r scale a w = same_side r scale

pub receiver_after-is_acked : (s r : TcpSide) (seg : Segment) → IsAcked r (receiver_after s r seg)
unfolding receiver_after
receiver_after-is_acked s r seg = receiver_cases (has_ack seg.flags) r (receiver_scale r seg) seg.ack (window seg s.scale r.scale)

-- the side that opens is seen, and the other offered no window
opening_backward-quiet : (b : Bool) (ack w : ℕ) → IsQuietUnseen (if b then expected_side ack w else unknown_side)
opening_backward-quiet true ack w = λ unseen. refl
opening_backward-quiet false ack w = λ unseen. refl

pub opening_is_quiet : (seg : Segment) (strict : Bool) → BothSides IsQuietUnseen (opening_state seg strict)
unfolding opening_state opening_forward opening_backward
opening_is_quiet seg strict =
    (λ unseen. absurd (unseen refl), opening_backward-quiet (has_ack seg.flags) seg.ack (window seg None None))
