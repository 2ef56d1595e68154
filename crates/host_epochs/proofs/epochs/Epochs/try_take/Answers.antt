use Rattle.std.proofs.Common.{◌≡◌, ◌∷◌, ap, sym, ◌∙◌, rules}
use Rattle.atomic_table.specs.Table.{rest}
use Rattle.host_epochs.specs.Hands.{content}
use Rattle.host_epochs.specs.Plays.{Sat}
use Rattle.host_epochs.proofs.epochs.Epochs.try_take.Goals as goal

pub exchange-content-requires : goal.exchange-content-requires
exchange-content-requires g c =
    let zero : c.try_word.result ≡ 0 = search rules in
    let held = (c.try_word.ensures.won zero).holds in
    let x = content c.try_word.new.hand in
    let out = ap (λ (m : Sat). m.1) held.me in
    (held.at, (x, out ∙ ap (λ cs. (c.args.place, x) ∷ rest cs) (sym out)))
