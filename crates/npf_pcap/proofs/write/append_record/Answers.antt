use Rattle.std.proofs.Common.{◌/◌, ◌%◌, ◌^◌, length, rules}
use Rattle.byteorder.specs.Endian.{little_bytes}
use Rattle.npf_pcap.proofs.SpellingLemmas.{five_appended}
use Rattle.npf_pcap.proofs.write.append_record.Goals as goal

pub returns-clause-spelling : goal.returns-clause-spelling
returns-clause-spelling c =
    let bytes = c.args.bytes.now in
    five_appended c.args.out.now.items (little_bytes 4 (c.args.time / 10 ^ 9)) (little_bytes 4 (c.args.time % 10 ^ 9)) (little_bytes 4 (length bytes))
    (little_bytes 4 (length bytes)) bytes c.write_u32.new.out.items c.write_u32-2.new.out.items c.write_u32-3.new.out.items
    c.write_u32-4.new.out.items c.extend_from_slice.new.self.items (search rules) (search rules) (search rules) (search rules) (search rules)
