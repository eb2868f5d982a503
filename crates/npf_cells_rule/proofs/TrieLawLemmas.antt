-- What the part on the trie says of what passes loaded.
use Rattle.std.proofs.Common.{◌≡◌, ℕ, sym, subst, ⊎_elim}
use Rattle.npf_core.specs.{declared.stage.Stage.TheVariants.Dead, History.state_of, Machine.{stage_of, IsClaimed}, Meaning.Meaning}
use Rattle.npf_core.proofs.HolderLemmas.{holders_claimed}
use Rattle.npf_cells_words.specs.declared.layout.Layout.{Layout}
use Rattle.npf_cells_leaves.{specs.Trie.{trie_words, leaf_found, IsRightLeaf}, proofs.StandLemmas.stands_published}
use Rattle.npf_cells_rule.{specs.{TrieLaw.{EndsNameHolders, LeavesAreKept, NodesAreKept}, Views.trie_side}, proofs.MetLemmas.unowned}

pub ends_name_holders : {S A R : Type 0} (m : Meaning S A R) (layout : Layout) → EndsNameHolders m layout
ends_name_holders m layout digest s kept key level p end = kept.trie.ends key level p end

pub leaves_are_kept : {S A R : Type 0} (m : Meaning S A R) (layout : Layout) → LeavesAreKept m layout
leaves_are_kept m layout digest s kept j v leaf at is =
    let stays = (kept.trie.each j v at).leaf leaf is in
    let t = trie_words layout s.words in
    let k = state_of m kept.log in
    let claimed : IsClaimed (stage_of k (record { slot = leaf.slot; inc = leaf.inc })) = ⊎_elim
    (λ (right : IsRightLeaf layout.slots k.holder t leaf.slot leaf.way). subst (λ (n : ℕ). IsClaimed (stage_of k (record { slot = leaf.slot; inc = n }))) stays.inc
    (holders_claimed m layout.slots kept.log kept.connections.legal (t.key leaf.slot leaf.way) (leaf_found t leaf.slot leaf.way) right.held))
    (λ (dead : stage_of k (record { slot = leaf.slot; inc = leaf.inc }) ≡ Dead). subst IsClaimed (sym dead) tt)
    stays.right in
    record { key = stays.key; inc = stays.inc; claimed = claimed }

pub nodes_are_kept : {S A R : Type 0} (m : Meaning S A R) (layout : Layout) → NodesAreKept m layout
nodes_are_kept m layout digest s i j node digit u v point kept mine at is there owns =
    let stood = stands_published trie_side digest layout kept.published (state_of m kept.log) s.words s.views j node digit v point kept.trie at is there in
    unowned m digest layout s kept i u node mine stood.right.exists owns stood.right.published_once
