use Rattle.std.proofs.Common.{◌≡◌, ◌<◌, ◌^◌, ◌∙◌, Some, None, Ok, length, sym, ap, arith}
use Rattle.npf_ruleset.specs.Configuration.{configuration}
use Rattle.npf_ctl_explain.proofs.ClassLemmas.{all_there, found_there, none_there}
use Rattle.npf_ctl_explain.proofs.class.packet_of_class.Goals as goal

pub returns-in-Some-clause-found : goal.returns-in-Some-clause-found
returns-in-Some-clause-found c =
    let config = configuration c.args.config.now in
    let passage = c.args.passage in
    let tables = c.as_slice.result.now in
    let packet = c.in-Some.packet in
    let count : c.len.result ≡ length tables = cc (c.len.ensures, c.in_ok-tables.tables.ok.0, ap length c.as_slice.ensures.value) in
    let are : tables ≡ config.tables = cc (c.as_slice.ensures.value, c.in_ok-tables.ensures, c.tables.ensures) in
    let possible = rw c.in-Some.is at c.in_ok-packet.ensures.possible in
    let holds = rw c.in-Some.is at c.in_ok-packet.ensures.holds in
    found_there config c.args.class.now passage.on passage.dir packet.facts packet.ifid packet.dir possible
    (sym (all_there config c.args.class.now passage.on passage.dir tables c.len.result count are packet.facts packet.ifid packet.dir)
    ∙ sym (c.class_there-product.ensures tables packet.facts packet.ifid packet.dir) ∙ holds)

pub returns-clause-none : goal.returns-clause-none
returns-clause-none c = λ none facts.
    let config = configuration c.args.config.now in
    let passage = c.args.passage in
    let tables = c.as_slice.result.now in
    let count : c.len.result ≡ length tables = cc (c.len.ensures, c.in_ok-tables.tables.ok.0, ap length c.as_slice.ensures.value) in
    let are : tables ≡ config.tables = cc (c.as_slice.ensures.value, c.in_ok-tables.ensures, c.tables.ensures) in
    none_there config c.args.class.now passage.on passage.dir facts (omega arith)
    (λ ifid way packet. sym (all_there config c.args.class.now passage.on passage.dir tables c.len.result count are facts ifid way)
    ∙ sym (c.class_there-product.ensures tables facts ifid way) ∙ c.in_ok-packet.ensures.none (ap Ok c.in-None.is) facts ifid way packet)
