use Rattle.std.{proofs.Common.{rules, ◌≡◌, ◌+◌, [], ◌∷◌, ◌++◌, All, map, length, refl, ap, sym, subst, ◌∙◌, arith, Some}, specs.List.Contains}
use Rattle.std.{specs.Vec.Iter.into_iter_items, proofs.lemmas.List.Elements.{All-push, All-pop, All-contains_itself, All-nil}}
use Rattle.npf_runner_dealing.specs.Lanes.{vec_items}
use Rattle.npf_publish.specs.declared.conf_reader.ConfReader.{ConfReader}
use Rattle.npf_runner.specs.{declared.worker.Worker.Worker, Crew.{IsEquipped, numbers_of_worker, packets_of_worker}, Numbers.packet_numbers}
use Rattle.npf_runner.proofs.JobLemmas.{mapped_more}
use Rattle.npf_runner.proofs.crew.workers_with.Goals as goal

pub loop-packets-init : goal.loop-packets-init
loop-packets-init c =
    let items : into_iter_items c.into_iter-packets-iterator.result ≡ c.args.packets.items = search rules in
    let numbers : c.from-left.result.items ≡ c.args.numbers.items = search rules in
    let none : c.in_ok-workers.workers.items ≡ [] = search rules in (
      tt,
      tt,
      search rules,
      search rules,
      search rules,
      search rules,
      ap (map vec_items) (sym numbers) ∙ ap (λ z. map numbers_of_worker z ++ map vec_items c.from-left.result.items) (sym none),
      ap (map vec_items) (sym items) ∙ ap (λ z. map packets_of_worker z ++ map vec_items (into_iter_items c.into_iter-packets-iterator.result)) (sym none),
      All-contains_itself c.args.readers.items,
      subst (λ z. All IsEquipped z) (sym none) (All-nil IsEquipped),
      subst (λ z. All (λ (worker : Worker). Contains c.args.readers.items worker.reader) z) (sym none) (All-nil (λ (worker : Worker). Contains c.args.readers.items worker.reader)),
    )

pub loop-packets-preserved : goal.loop-packets-preserved
loop-packets-preserved c =
    let packets = c.in-Some.packets in
    let numbers = c.unwrap.result in
    let reader = c.unwrap-reader.result in
    let before = into_iter_items c.loop-packets.packets-iterator in
    let after = into_iter_items c.next.new.self in
    let inv = c.loop-packets.invariant in
    let workers = c.loop-packets.workers.items in
    let worker : Worker = c.in_ok-worker.worker in
    let made = c.in_ok-worker.ensures in
    let items : before ≡ packets ∷ after = c.in-Some.ensures.steps.0 in
    let fewer : length before ≡ length after + 1 = ap length items ∙ omega arith in
    let popped : c.loop-packets.readers.items ≡ c.pop.new.self.items ++ reader ∷ [] = search rules in
    let pushed : c.push_reserved.new.self.items ≡ workers ++ worker ∷ [] = search rules in
    let first : c.loop-packets.left.items ≡ numbers ∷ c.pop_front.new.self.items = search rules in
    let P : ConfReader → Type 0 = λ reader. Contains c.args.readers.items reader in
    let both = All-pop P c.loop-packets.readers.items c.pop.new.self.items (Some reader) popped inv.8 in (
      tt,
      tt,
      search rules,
      search rules,
      search rules,
      search rules,
      inv.6 ∙ mapped_more vec_items numbers_of_worker workers c.push_reserved.new.self.items c.loop-packets.left.items c.pop_front.new.self.items numbers worker first
          (ap (λ ns. packet_numbers ns (length worker.packets.items)) made.numbers) pushed,
      inv.7 ∙ mapped_more vec_items packets_of_worker workers c.push_reserved.new.self.items before after packets worker items (ap vec_items made.packets) pushed,
      both.0,
      subst (λ z. All IsEquipped z) (sym pushed) (All-push IsEquipped workers worker inv.9 made.ready),
      subst (λ z. All (λ worker. P worker.reader) z) (sym pushed) (All-push (λ worker. P worker.reader) workers worker inv.10 (subst P (sym made.reader) both.1)),
    )
