-- The conditions of a rule one behind the other, and the program that they make.
use Rattle.std.{proofs.Common.{◌≡◌, ℕ, Bool, true, false, List, [], ◌∷◌, None, refl, sym, ap, subst, ◌∙◌}, specs.Prelude.{◌&&◌, if◌then◌else◌}}
use Rattle.npf_types.specs.declared.facts.Facts.{Facts}
use Rattle.npf_model.specs.declared.rule.Rule.{Rule}
use Rattle.npf_model.specs.Describes.{Tables, fits_ends, fits_family, fits_flags, fits_icmp, fits_protocol, source_of, destination_of}
use Rattle.npf_bpf.specs.{declared.insn.Insn.Insn, Value.program_value}
use Rattle.npf_bpfgen.specs.{Instruction.{ask_header, return_number}, Premise.{GuardsPacket, header_words}, Program.IsProgramOf, Tail.Yields}
use Rattle.npf_bpfgen.proofs.StepLemmas.{begins, returns}

two_guards : (a b : Bool) (x : ℕ) → (if a then (if b then x else 0) else 0) ≡ (if a && b then x else 0)
two_guards true b x = refl
two_guards false b x = refl

-- one condition in front of another
pub guards_both : (first second : Tables → Facts → Bool) (old mid new : List Insn)
    → GuardsPacket second old mid → GuardsPacket first mid new
    → GuardsPacket (λ tables facts. first tables facts && second tables facts) old new
guards_both first second old mid new behind front = λ p cop tables facts seen x y.
    subst (Yields p cop (header_words facts) None new 0) (two_guards (first tables facts) (second tables facts) x)
    (front p cop tables facts seen (if second tables facts then x else 0) (behind p cop tables facts seen x y))

-- a test by another name
pub guards_alike : (first second : Tables → Facts → Bool) (old new : List Insn)
    → ((tables : Tables) (facts : Facts) → first tables facts ≡ second tables facts)
    → GuardsPacket first old new → GuardsPacket second old new
guards_alike first second old new alike guards = λ p cop tables facts seen x y.
    subst (λ (t : Bool). Yields p cop (header_words facts) None new 0 (if t then x else 0)) (alike tables facts) (guards p cop tables facts seen x y)

pub no_guard : (test : Tables → Facts → Bool) (old : List Insn)
    → ((tables : Tables) (facts : Facts) → test tables facts ≡ true) → GuardsPacket test old old
no_guard test old always = λ p cop tables facts seen x y.
    subst (λ (t : Bool). Yields p cop (header_words facts) None old 0 (if t then x else 0)) (sym (always tables facts)) y

six_guards : (a b c d e f : Bool) (x : ℕ)
    → (if a then (if b then (if c then (if d then (if e then (if f then x else 0) else 0) else 0) else 0) else 0) else 0)
    ≡ (if a && b && c && d && e && f then x else 0)
six_guards true true true true true f x = refl
six_guards true true true true false f x = refl
six_guards true true true false e f x = refl
six_guards true true false d e f x = refl
six_guards true false c d e f x = refl
six_guards false b c d e f x = refl

module _ (rule : Rule) (end to from icmp flags protos family code : List Insn) where
  pub program_is :
      end ≡ return_number 4294967295 ∷ []
      → GuardsPacket (λ tables facts. fits_ends rule.to tables facts.dst (destination_of facts.l4)) end to
      → GuardsPacket (λ tables facts. fits_ends rule.from tables facts.src (source_of facts.l4)) to from
      → GuardsPacket (λ tables facts. fits_icmp rule.icmp facts.l4) from icmp
      → GuardsPacket (λ tables facts. fits_flags rule.flags rule.decision rule.state facts.l4) icmp flags
      → GuardsPacket (λ tables facts. fits_protocol rule.protos facts.proto) flags protos
      → GuardsPacket (λ tables facts. fits_family rule.v6 facts.src) protos family
      → code ≡ ask_header ∷ family
      → IsProgramOf rule code
  program_is ends at_to at_from at_icmp at_flags at_protos at_family is = λ p cop tables facts seen.
      let h : ℕ × ℕ × ℕ = header_words facts in
      let a : Bool = fits_family rule.v6 facts.src in
      let b : Bool = fits_protocol rule.protos facts.proto in
      let c : Bool = fits_flags rule.flags rule.decision rule.state facts.l4 in
      let d : Bool = fits_icmp rule.icmp facts.l4 in
      let e : Bool = fits_ends rule.from tables facts.src (source_of facts.l4) in
      let f : Bool = fits_ends rule.to tables facts.dst (destination_of facts.l4) in
      let x : ℕ = 4294967295 in
      let x5 : ℕ = if f then x else 0 in
      let x4 : ℕ = if e then x5 else 0 in
      let x3 : ℕ = if d then x4 else 0 in
      let x2 : ℕ = if c then x3 else 0 in
      let x1 : ℕ = if b then x2 else 0 in
      let y : Yields p cop h None end 0 x = subst (λ (t : List Insn). Yields p cop h None t 0 x) (sym ends) (returns p cop h [] 0 None x) in
      ap (λ (t : List Insn). program_value t p cop) is
      ∙ begins p cop h family (if a then x1 else 0) seen.told.header
      (at_family p cop tables facts seen x1 (at_protos p cop tables facts seen x2 (at_flags p cop tables facts seen x3
      (at_icmp p cop tables facts seen x4 (at_from p cop tables facts seen x5 (at_to p cop tables facts seen x y))))))
      ∙ six_guards a b c d e f x
