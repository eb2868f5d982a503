use Rattle.std.{proofs.{Common.{rules, ◌≡◌, ◌∙◌, false, is_err, length, refl}, lemmas.Result.IfOk-weaker}, specs.List.AllZip}
use Rattle.npf_reass.specs.Passes.{classes_of, sight}
use Rattle.npf_reass_run.{specs.Gathering.GathersPieces, proofs.GatherLemmas.{ClassVec, all_packets, lists_among, made_count, made_gathers}}
use Rattle.npf_reass_run.proofs.{ListLemmas.IsClassOf, OfferLemmas.was_ok}
use Rattle.npf_reass_run.proofs.gather.gather.Goals as goal

pub arrived_lists-requires : goal.arrived_lists-requires
arrived_lists-requires g c =
    let packets = c.args.packets.now in
    let pass = c.offer_all-pass.result.0 in
    let ok : is_err c.offer_all-pass.result.1 ≡ false = search rules in
    let has = all_packets packets (sight pass)
    (was_ok c.offer_all-pass.result.1 ok c.offer_all-pass.ensures.offers) in
    record {
      among = lists_among packets (sight pass) has (c.in_ok-lists.ensures.alone refl)
          (classes_of c.in_ok-reass.reass) c.in_ok-lists.lists.items c.in_ok-lists.ensures.lists;
    }

pub returns-clause-count : goal.returns-clause-count
returns-clause-count g c =
    let packets = c.args.packets.now in
    let pass = c.offer_all-pass.result.0 in
    let lists = c.in_ok-lists.lists.items in
    let ok : is_err c.offer_all-pass.result.1 ≡ false = search rules in
    let has = all_packets packets (sight pass)
    (was_ok c.offer_all-pass.result.1 ok c.offer_all-pass.ensures.offers) in
    IfOk-weaker c.arrived_lists.result
    (λ (made : ClassVec). AllZip (IsClassOf packets) lists made.items)
    (λ (made : ClassVec). length made.items ≡ c.args.count)
    (λ made all. made_count packets (sight pass) has (c.in_ok-lists.ensures.alone refl)
    (classes_of c.in_ok-reass.reass) lists c.in_ok-lists.ensures.lists made.items all
    ∙ c.in_ok-reass.ensures.classes)
    c.arrived_lists.ensures

pub returns-clause-gathers : goal.returns-clause-gathers
returns-clause-gathers g c =
    let packets = c.args.packets.now in
    let pass = c.offer_all-pass.result.0 in
    let lists = c.in_ok-lists.lists.items in
    let ok : is_err c.offer_all-pass.result.1 ≡ false = search rules in
    let has = all_packets packets (sight pass)
    (was_ok c.offer_all-pass.result.1 ok c.offer_all-pass.ensures.offers) in
    IfOk-weaker c.arrived_lists.result
    (λ (made : ClassVec). AllZip (IsClassOf packets) lists made.items)
    (λ (made : ClassVec). GathersPieces packets made.items)
    (λ made all. made_gathers packets (sight pass) has (c.in_ok-lists.ensures.alone refl)
    (classes_of c.in_ok-reass.reass) lists c.in_ok-lists.ensures.lists made.items all)
    c.arrived_lists.ensures
