use Rattle.table_order.proofs.PhaseMirrorLemmas.{led, home_mirrors, hand_mirrors, desk_evicts}
use Rattle.table_order.proofs.laws.contents_of_a_table_mirror.Goals as goal

pub returns : goal.returns
returns c = record {
  home = λ terms s kept place content made small there home. home_mirrors terms s kept made small place content there home;
  in_hand = λ terms s kept place content made small hand. hand_mirrors terms s kept made small place content hand;
  led = λ terms place past content made there small leads. led terms made place there content past leads small;
  rising = λ terms s desk few kept is. desk_evicts terms s kept few is.0 desk is.1;
}
