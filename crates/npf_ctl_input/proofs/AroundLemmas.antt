-- Of two calls in a work, one behind the other, each is part of the work.
use Rattle.std.proofs.Common.{◌∙◌, refl, arith}
use Rattle.npf_outside.specs.Files.{FilesMoment}
use Rattle.npf_config.specs.Reading.{OnlyReads}
use Rattle.npf_ctl_input.specs.Around.{Around, CountsOn}

pub counts_between : (one two three : FilesMoment) → CountsOn one two → CountsOn two three → CountsOn one three
counts_between one two three first next = record {
  read_faults = omega arith;
  read_faults_of = λ name. omega (arith, first.read_faults_of name, next.read_faults_of name);
  taken = omega arith;
}

pub counts_read : (old new : FilesMoment) → OnlyReads old new → CountsOn old new
counts_read old new reads = record { read_faults = reads.read_faults; read_faults_of = reads.read_faults_of; taken = reads.taken }

module _ (before old middle new after : FilesMoment) (around : Around before old new after) where
  -- the first one leads from `old` to `middle`, and the next one only reads
  pub around_first : OnlyReads middle new → Around before old middle after
  around_first reads = record { contents = around.contents; begun = around.begun; ended = counts_between middle new after (counts_read middle new reads) around.ended }

  -- the first one only reads, and the next one leads from `middle` to `new`
  pub around_next : OnlyReads old middle → Around before middle new after
  around_next reads = record { contents = reads.contents ∙ around.contents; begun = counts_between before old middle around.begun (counts_read old middle reads); ended = around.ended }

-- a call is a work by itself
pub around_itself : (old new : FilesMoment) → Around old old new new
around_itself old new = record {
  contents = refl;
  begun = record { read_faults = omega arith; read_faults_of = λ name. omega arith; taken = omega arith };
  ended = record { read_faults = omega arith; read_faults_of = λ name. omega arith; taken = omega arith };
}
