-- What holds of a work that is done in two parts.
use Rattle.std.proofs.Common.{◌∙◌, refl, arith}
use Rattle.npf_outside.specs.Files.{FilesMoment, SameReadFaults}
use Rattle.npf_config.specs.Reading.{OnlyReads}

pub faultless_none : (moment : FilesMoment) → SameReadFaults moment moment
faultless_none moment = record { all = refl; each = λ name. refl }

module _ (first middle last : FilesMoment) where
  pub reads_on : OnlyReads first middle → OnlyReads middle last → OnlyReads first last
  reads_on one two = record {
    contents = two.contents ∙ one.contents;
    write_faults = two.write_faults ∙ one.write_faults;
    read_faults = omega (arith, one.read_faults, two.read_faults);
    read_faults_of = λ name. omega (arith, one.read_faults_of name, two.read_faults_of name);
    taken = omega (arith, one.taken, two.taken);
  }

  pub faultless_on : SameReadFaults first middle → SameReadFaults middle last → SameReadFaults first last
  faultless_on one two = record { all = two.all ∙ one.all; each = λ name. two.each name ∙ one.each name }
