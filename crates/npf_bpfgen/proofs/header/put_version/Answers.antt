use Rattle.std.proofs.Common.{◌≡◌, ◌++◌, refl}
use Rattle.npf_bpfgen.proofs.{HeaderLemmas.{family_guards, family_test, version_allows}, TailLemmas.extended}
use Rattle.npf_bpfgen.proofs.header.put_version.Goals as goal

pub returns-clause-front : goal.returns-clause-front
returns-clause-front c =
    let is : c.put.new.self ≡ family_test c.version_of.result ++ c.args.tail.now = rw (c.in_ok-put.ensures, c.if_equal.ensures) in
    extended (family_test c.version_of.result) c.args.tail.now c.put.new.self 3 1 is refl refl

pub returns-clause-value : goal.returns-clause-value
returns-clause-value c =
    let is : c.put.new.self ≡ family_test c.version_of.result ++ c.args.tail.now = rw (c.in_ok-put.ensures, c.if_equal.ensures) in
    family_guards c.args.v6 c.version_of.result c.args.tail.now c.put.new.self c.version_of.ensures is

pub returns-clause-one : goal.returns-clause-one
returns-clause-one c = version_allows c.args.v6 c.args.tail.now c.put.new.self (returns-clause-value c)
