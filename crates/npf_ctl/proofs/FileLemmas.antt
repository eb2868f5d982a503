-- Files that were only read, or of which one was written.
use Rattle.std.proofs.Common.{◌≡◌, ◌≢◌, ◌∙◌, ℕ, List, [], Option, Some, None, refl, sym, ap, subst, arith, append-nil}
use Rattle.npf_config.specs.Reading.{OnlyReads}
use Rattle.npf_ctl_input.specs.Around.{Around}
use Rattle.npf_outside.specs.{Files.{FilesMoment, Has, SameFiles, SameOthers, Tree}, Sink.{Appends, AppendsFront, SinkMoment}}
use Rattle.npf_packet.specs.declared.extent.IpExtent.{IpExtent}
use Rattle.npf_ctl_output.specs.{Extents.AreExtentsOf, File.{HasReadOn, KeepsUnnamed}}
use Rattle.npf_traffic.specs.declared.packet.Packet.{Packet}
use Rattle.npf_outside.proofs.SinkLemmas.{Appends-nothing, IsPutTo-stops}
use Rattle.npf_ctl.specs.{Faults.IsUntouched, Run.Moment, Top.{KeepsOtherFiles, NamesOutput}}

pub same_as_itself : (contents : Option Tree) → SameFiles contents contents
same_as_itself None = tt
same_as_itself (Some tree) = λ name. refl

pub only_read : (before now : FilesMoment) → OnlyReads before now → SameFiles before.contents now.contents
only_read before now reads = subst (λ contents. SameFiles before.contents contents) (sym reads.contents) (same_as_itself before.contents)

pub read_on : (now : FilesMoment) → HasReadOn now now
read_on now = record { faults = record { all = refl; each = λ name. refl }; taken = refl }

pub read_on_through : (one two three : FilesMoment) → HasReadOn one two → HasReadOn two three → HasReadOn one three
read_on_through one two three first next = record {
  faults = record { all = next.faults.all ∙ first.faults.all; each = λ name. next.faults.each name ∙ first.faults.each name };
  taken = next.taken ∙ first.taken;
}

-- a call at the front of a work, behind which no read is made
pub around_work : (before now after : FilesMoment) → HasReadOn now after → Around before before now after
around_work before now after on = record {
  contents = refl;
  begun = record { read_faults = omega arith; read_faults_of = λ name. omega arith; taken = omega arith };
  ended = record { read_faults = omega (arith, on.faults.all); read_faults_of = λ name. omega (arith, on.faults.each name); taken = omega (arith, on.taken) };
}

-- text that was put whole is a front of itself
pub front_of_whole : (old new : Option (List ℕ)) (text : List ℕ) → Appends old new text → AppendsFront old new text
front_of_whole old new text put = IsPutTo-stops old new text [] (record { said = text; parts = sym (append-nil text); appends = put })

module _ (words : List (List ℕ)) where
  pub same_keeps : (old new : Option Tree) → SameFiles old new → KeepsOtherFiles words old new
  same_keeps None None same = tt
  same_keeps (Some old) (Some new) same = λ name others. same name
  same_keeps None (Some new) same = absurd same
  same_keeps (Some old) None same = absurd same

  -- files of which the one that is written, if any is, was named
  pub keeps_by : (given : Option (List ℕ)) → ((name : List ℕ) → given ≡ Some name → NamesOutput words name) → (old new : Option Tree) → KeepsUnnamed given old new →
      KeepsOtherFiles words old new
  keeps_by None names old new same = same_keeps old new same
  keeps_by (Some file) names None None others = tt
  keeps_by (Some file) names (Some old) (Some new) others = λ name not. others name (λ e. not (names name (ap Some (sym e))))
  keeps_by (Some file) names None (Some new) others = absurd others
  keeps_by (Some file) names (Some old) None others = absurd others

  pub keeps_on : (old now new : Option Tree) → KeepsOtherFiles words old now → KeepsOtherFiles words now new → KeepsOtherFiles words old new
  keeps_on None None None one two = tt
  keeps_on (Some old) (Some now) (Some new) one two = λ name not. two name not ∙ one name not
  keeps_on None None (Some new) one two = absurd two
  keeps_on None (Some now) new one two = absurd one
  keeps_on (Some old) None new one two = absurd one
  keeps_on (Some old) (Some now) None one two = absurd two

-- files of which none was written stay as they are while another is written
pub same_through : (old now new : Option Tree) → SameFiles old now → SameFiles now new → SameFiles old new
same_through None None None one two = tt
same_through (Some old) (Some now) (Some new) one two = λ name. two name ∙ one name
same_through None None (Some new) one two = absurd two
same_through None (Some now) new one two = absurd one
same_through (Some old) None new one two = absurd one
same_through (Some old) (Some now) None one two = absurd two

-- the others stay while no file is written
pub others_on : (name : List ℕ) (old now new : Option Tree) → SameOthers old now name → SameFiles now new → SameOthers old new name
others_on name None None None one two = tt
others_on name (Some old) (Some now) (Some new) one two = λ other not. two other ∙ one other not
others_on name None None (Some new) one two = absurd two
others_on name None (Some now) new one two = absurd one
others_on name (Some old) None new one two = absurd one
others_on name (Some old) (Some now) None one two = absurd two

pub others_itself : (contents : Option Tree) (file : List ℕ) → SameOthers contents contents file
others_itself None file = tt
others_itself (Some tree) file = λ other not. refl

pub keeps_itself : (given : Option (List ℕ)) (contents : Option Tree) → KeepsUnnamed given contents contents
keeps_itself None contents = same_as_itself contents
keeps_itself (Some file) contents = others_itself contents file

-- a file has its bytes while another is written
pub has_on : (given : Option (List ℕ)) (now new : Option Tree) (name bytes : List ℕ) → KeepsUnnamed given now new → given ≢ Some name → Has now name bytes → Has new name bytes
has_on given now None name bytes others not has = tt
has_on None (Some now) (Some new) name bytes others not has = others name ∙ has
has_on (Some file) (Some now) (Some new) name bytes others not has = others name (λ e. not (ap Some (sym e))) ∙ has
has_on None None (Some new) name bytes others not has = absurd others
has_on (Some file) None (Some new) name bytes others not has = absurd others

-- nothing is put where nothing changed
pub nothing_put : (sink : SinkMoment) → Appends sink.held sink.held []
nothing_put sink = Appends-nothing sink.held

pub not_touched : (moment : Moment) → IsUntouched moment moment
not_touched moment = record { put = nothing_put moment.out; files = same_as_itself moment.files.contents; idle = refl }

-- extents stay those of packets where both are named otherwise
pub extents_named : (packets sliced : List Packet) (extents lent : List IpExtent) → sliced ≡ packets → lent ≡ extents → AreExtentsOf sliced extents →
    AreExtentsOf packets lent
extents_named packets sliced extents lent same_packets same_extents are =
    subst (λ (e : List IpExtent). AreExtentsOf packets e) (sym same_extents) (subst (λ (p : List Packet). AreExtentsOf p extents) same_packets are)

-- files were read, and read again
pub read_twice : (first middle last : FilesMoment) → OnlyReads first middle → OnlyReads middle last → SameFiles first.contents last.contents
read_twice first middle last one two = same_through first.contents middle.contents last.contents (only_read first middle one) (only_read middle last two)
