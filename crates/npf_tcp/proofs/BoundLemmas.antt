-- The bound on resets.
use Rattle.std.proofs.{Common.{◌≡◌, ◌≢◌, ◌≤◌, ◌&&◌, ℕ, Bool, true, false, not, if◌then◌else◌, refl, ap, arith}, lemmas.Bool.{and_parts, Decides.nat_tests}}
use Rattle.std.specs.Prelude.{nat_le}
use Rattle.npf_types.specs.declared.facts.Segment.{Segment}
use Rattle.npf_tcp.specs.declared.{class.SegmentClass.TheVariants.Rst, state.{Known.{Known, TheVariants.{Nothing, Expected, Seen}}, TcpSide.TcpSide}}
use Rattle.npf_tcp.specs.{Window.{is_unknown, is_in_bounds_by, is_reset_in_bounds, is_in_bounds}, Class.{segment_class, is_reset}, Sequence.minus}

known : (k : Known) → k ≢ Nothing → is_unknown k ≡ false
known Nothing h = absurd (h refl)
known Expected h = refl
known Seen h = refl

held : (strict reset unknown : Bool) (bytes : ℕ) → strict ≡ true → reset ≡ true → unknown ≡ false →
    (if strict && reset && not unknown then nat_le bytes 1 else true) ≡ true → bytes ≤ 1
held true true false bytes s r u h = grind (arith, nat_tests)
held true true true bytes s r u h = absurd cc
held true false unknown bytes s r u h = absurd cc
held false reset unknown bytes s r u h = absurd cc

-- a reset within the bounds of a strict connection stands where its known sender ended, or one byte before
pub reset_in_order : (strict : Bool) (sender receiver : TcpSide) (seg : Segment) → strict ≡ true → segment_class seg.flags ≡ Rst →
    sender.known ≢ Nothing → is_in_bounds strict sender receiver seg ≡ true → minus sender.end seg.seq ≤ 1
unfolding is_in_bounds is_reset_in_bounds
reset_in_order strict sender receiver seg s rst k h =
    let bounded = and_parts (is_in_bounds_by sender.known receiver.known sender receiver seg) (is_reset_in_bounds strict sender seg) h in
    held strict (is_reset (segment_class seg.flags)) (is_unknown sender.known) (minus sender.end seg.seq)
    s (ap is_reset rst) (known sender.known k) bounded.1
