use Rattle.std.proofs.Common.{◌≡◌, ◌+◌, ◌*◌, ◌^◌, ◌∙◌, ap, refl, arith}
use Rattle.npf_gen.{specs.{Draw.drawn_state, Workload.{generated_records, sent_at}}, proofs.DrawLemmas.{after_third, tells_packet}}
use Rattle.npf_gen.proofs.WorkloadLemmas.{capture_more}
use Rattle.npf_gen.proofs.workload.capture_of.Goals as goal

pub loop-i-init : goal.loop-i-init
unfolding generated_records drawn_state
loop-i-init c = record { written = c.reserve_exact.ensures.items ∙ c.in_ok-capture.ensures.spelling; drawn = refl }

pub loop-i-preserved : goal.loop-i-preserved
loop-i-preserved c =
    let n = c.args.number in
    let i = c.loop-i.i in
    let s = c.loop-i.draws.state in
    let t = c.draw-host.new.self.state in
    let u = c.draw-port.new.self.state in
    let v = c.draw-server.new.self.state in
    let d = c.of_draws-datagram.result in
    let before = c.loop-i.invariant.drawn in
    let is =
    c.of_draws-datagram.ensures
    ∙ tells_packet n i s t u v before c.draw-host.ensures.state c.draw-port.ensures.state c.draw-server.ensures.state c.draw-host.result
    c.draw-port.result c.draw-server.result c.draw-host.ensures.value c.draw-port.ensures.value c.draw-server.ensures.value in record {
      written = capture_more n i (sent_at ((i + 1) * 10 ^ 6) d) c.loop-i.capture.items c.write_record.new.out.items c.loop-i.invariant.written
          (ap (sent_at ((i + 1) * 10 ^ 6)) is) c.in_ok-write_record.ensures;
      drawn = after_third n i s t u v before c.draw-host.ensures.state c.draw-port.ensures.state c.draw-server.ensures.state;
    }

pub returns : goal.returns
returns c = let all : c.loop-i.i ≡ 20000 = omega arith in rw all at c.loop-i.invariant.written
