use Rattle.npf_cells_turns.proofs.{EndKeepLemmas.may_end, NoteKeepLemmas.may_load_note, SightKeepLemmas.may_see, TurnKeepLemmas.may_take}
use Rattle.npf_cells_turns.proofs.WordKeepLemmas.{may_load_word}
use Rattle.npf_cells_turns.proofs.laws.turns_law.Goals as goal

pub returns : goal.returns
returns g c = record {
  keeps = λ layout. record {
    sees = may_see g.L.Law.meaning g.H.KeyHash.digest layout;
    loads_word = may_load_word g.L.Law.meaning g.H.KeyHash.digest layout;
    loads_note = may_load_note g.L.Law.meaning g.H.KeyHash.digest layout;
    takes = may_take g.L.Law.meaning g.H.KeyHash.digest layout;
    ends = may_end g.L.Law.meaning g.H.KeyHash.digest layout;
  };
}
