-- A run whose fragments are put together is one that can be played.
use Rattle.std.{proofs.{Common.{◌≡◌, ◌<◌, ℕ, List, length, get_or, sym, subst, arith}, lemmas.List.Elements.All-get_or}, specs.Prelude.All}
use Rattle.std.proofs.lemmas.Option.{slice_get-get_or}
use Rattle.npf_types.specs.declared.interface.IfId.{IfId}
use Rattle.npf_pcap.specs.Spelling.{IsCaptureTime}
use Rattle.npf_traffic.specs.declared.packet.Packet.{Packet}
use Rattle.npf_reass_whole.specs.Whole.{CrossesAlike, Whole, WholeKeeps}
use Rattle.npf_ctl_arrivals.specs.Within.{CrossesOneOf, HasCaptureTime, IsInterfaceNumber}

module _ (keeps : WholeKeeps) (packets whole : List Packet) (is : Whole packets whole) where
  alike : (place : ℕ) (packet : Packet) → place < length packets → CrossesAlike (get_or packets place packet) (get_or whole place packet)
  alike place packet here =
      keeps packets whole is place _ _ (slice_get-get_or packets place packet here)
      (slice_get-get_or whole place packet (omega (arith, here, is.count)))

  pub whole_crosses : (count : ℕ) → All (CrossesOneOf count) packets → All (CrossesOneOf count) whole
  whole_crosses count all k d h =
      let here : k < length packets = omega (arith, h, is.count) in
      subst (λ (ifid : IfId). IsInterfaceNumber count ifid) (sym (alike k d here).ifid) (All-get_or (CrossesOneOf count) packets k d here all)

  pub whole_timed : All HasCaptureTime packets → All HasCaptureTime whole
  whole_timed all k d h =
      let here : k < length packets = omega (arith, h, is.count) in
      subst (λ (time : ℕ). IsCaptureTime time) (sym (alike k d here).time) (All-get_or HasCaptureTime packets k d here all)
