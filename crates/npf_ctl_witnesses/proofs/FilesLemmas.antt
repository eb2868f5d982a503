-- Each packet is in the files.
use Rattle.std.proofs.Common.{◌≡◌, ◌≤◌, ℕ, ◌+◌, ◌-◌, ◌++◌, true, Some, List, [], ◌∷◌, codes, length, map, refl, ap, ◌∙◌, subst, arith}
use Rattle.std.{specs.{List.{enumerate_from, filter, flat_map}, Prelude.slice_get}, proofs.lemmas.{List.length-append, Option.slice_get_within}}
use Rattle.npf_types.specs.declared.direction.Dir.{Dir}
use Rattle.npf_model.specs.declared.iface.Iface.{Iface}
use Rattle.npf_possible.specs.PossibleLaw.{PossibleHasWitness}
use Rattle.npf_products.specs.declared.packet.CellPacket.{CellPacket}
use Rattle.npf_witness.specs.WitnessText.{interface_text}
use Rattle.npf_ctl_witnesses.specs.declared.files.WitnessFile.{WitnessFile}
use Rattle.npf_ctl_witnesses.specs.Alike.{leaders, pass_alike}
use Rattle.npf_ctl_witnesses.specs.{FilesLaw.{IsInFiles, IsTextWithin, WitnessesAreInFiles}, WitnessFiles.{capture_file, capture_line, capture_name, direction_part}}
use Rattle.npf_ctl_witnesses.specs.WitnessFiles.{passes_with, records_of, script_file, step_text, witness_files, witness_record}
use Rattle.npf_ctl_witnesses.proofs.{AlikeLemmas.{same_direction, same_name}, FitsLemmas.records_read, LeaderLemmas.{Leading, led}}
use Rattle.npf_ctl_witnesses.proofs.GotLemmas.{got-append, got-enumerate, got-filter, got-last, got-map, text-within}

module _ (ifaces : List Iface) (prefix : List ℕ) (number : ℕ) (one other : CellPacket) (alike : pass_alike ifaces one other ≡ true) where
  -- packets that pass alike have one line
  same_line : capture_line ifaces prefix (number, one) ≡ capture_line ifaces prefix (number, other)
  same_line =
      let behind = capture_name prefix number ++ codes "\"\n" in
      ap (λ name. codes "capture " ++ (name ++ (direction_part one.dir ++ behind))) (same_name ifaces one other alike)
      ∙ ap (λ (dir : Dir). codes "capture " ++ (interface_text ifaces other.ifid ++ (direction_part dir ++ behind))) (same_direction ifaces one other alike)

module _ (law : PossibleHasWitness) (ifaces : List Iface) (packets : List CellPacket) (prefix : List ℕ) (few : length packets ≤ 256) where
  last_of : (front : List WitnessFile) (script : WitnessFile) → slice_get (front ++ script ∷ []) (length (front ++ script ∷ []) - 1) ≡ Some script
  last_of front script =
      let size : length (front ++ script ∷ []) - 1 ≡ length front = omega (arith, length-append front (script ∷ [])) in
      ap (slice_get (front ++ script ∷ [])) size ∙ got-last front script

  in_files : (place : ℕ) (packet : CellPacket) → slice_get packets place ≡ Some packet → Leading ifaces packets packet
      → IsInFiles ifaces prefix (witness_files ifaces packets prefix) (1 + place) packet
  in_files place packet there lead =
      let all = leaders ifaces packets in
      let file_of = capture_file ifaces packets prefix in
      let captures = map file_of (enumerate_from 1 all) in
      let script = script_file ifaces all packets prefix in
      let led_there = got-enumerate 1 all lead.place lead.one lead.there in
      let found = got-filter (passes_with ifaces lead.one) (enumerate_from 1 packets) place (1 + place, packet) (got-enumerate 1 packets place packet there) lead.alike in
      let sent_there = got-map witness_record (filter (passes_with ifaces lead.one) (enumerate_from 1 packets)) found.place (1 + place, packet) found.there in
      let line = text-within (capture_line ifaces prefix) (enumerate_from 1 all) lead.place (1 + lead.place, lead.one) (flat_map step_text packets) led_there in record {
        place = lead.place;
        capture = file_of (1 + lead.place, lead.one);
        there = got-append captures (script ∷ []) lead.place (file_of (1 + lead.place, lead.one)) (got-map file_of (enumerate_from 1 all) lead.place (1 + lead.place, lead.one) led_there);
        named = refl;
        records = records_of ifaces packets lead.one;
        reads = records_read ifaces packets few lead.one;
        shows = record {
          place = found.place;
          sent = witness_record (1 + place, packet);
          there = sent_there;
          time = refl;
          told = law packet.facts;
        };
        script = script;
        last = last_of captures script;
        comes =
            subst (λ (text : List ℕ). IsTextWithin text script.contents) (same_line ifaces prefix (1 + lead.place) lead.one packet lead.alike) line;
      }

pub are_in_files : PossibleHasWitness → WitnessesAreInFiles
are_in_files law ifaces packets prefix few place packet there =
    in_files law ifaces packets prefix few place packet there (led ifaces packets (length packets) place packet (slice_get_within packets place packet there) there)
