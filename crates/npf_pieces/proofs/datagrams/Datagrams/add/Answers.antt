use Rattle.std.proofs.Common.{◌≡◌, ℕ, ◌+◌, ◌-◌, ◌∙◌, List, ◌++◌, length, length-append, length-drop, drop, take, arith}
use Rattle.std.proofs.lemmas.List.{length-take, with_items_is}
use borrow.Rule.Slice.PartMut.{post_of}
use Rattle.npf_pieces.proofs.DatagramsLemmas.{adds_so, took}
use Rattle.npf_pieces.proofs.datagrams.Datagrams.add.Goals as goal

pub returns-clause-adds : goal.returns-clause-adds
returns-clause-adds c =
    let old = c.args.self.now in
    let at = c.len-at.result in
    let cur = c.deref_mut.result.now in
    let more = c.lay_out.new.bytes in
    let post : List ℕ = post_of at (length cur - at) cur in
    let begins : take at cur ≡ old.bytes.items = took old.bytes.items cur _ at (at + c.datagram_len-len.result)
    (c.deref_mut.ensures.value ∙ c.in_ok-resize.ensures.items) (omega (arith, c.len-at.ensures, old.bytes.ok)) (omega arith) in
    let behind = length-drop at cur in
    let long : c.datagram_len-len.result ≡ length more = omega (arith, c.lay_out.auto.bytes, behind, c.deref_mut.ensures.len, c.in_ok-resize.ensures.len) in
    let whole : length (take at cur ++ (more ++ post)) ≡ c.resize.new.self.len =
    omega (
      arith,
      length-append (take at cur) (more ++ post),
      length-append more post,
      length-take at cur,
      length-drop (length cur - at) (drop at cur),
      c.lay_out.auto.bytes,
      behind,
      c.deref_mut.ensures.len,
      c.in_ok-resize.ensures.len,
    ) in
    adds_so c.args.packets.now c.args.set.now old.extents.items _ _ _ old.bytes.items cur more _ at
    c.push_reserved.ensures.items c.reserve.ensures.items
    (with_items_is c.resize.new.self (take at cur ++ (more ++ post)) whole)
    old.sized begins long c.last_place.ensures c.lay_out.ensures
