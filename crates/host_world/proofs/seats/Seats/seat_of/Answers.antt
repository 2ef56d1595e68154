use Rattle.std.proofs.Common.{◌≡◌, ◌<◌, ◌∙◌, List, length, get_or, ap, sym, subst, arith}
use Rattle.host_shard.specs.declared.content.Content as place
use Rattle.host_shard.specs.Content.{vacant}
use Rattle.host_shard.specs.Shown.{shown_content}
use Rattle.protection_moves.specs.Stage.{is_hot_at}
use Rattle.host_world.proofs.PlacingLemmas.{none_more}
use Rattle.host_world.proofs.WorldLemmas.{hot_read}
use Rattle.host_world.proofs.seats.Seats.seat_of.Goals as goal

pub loop-at-preserved : goal.loop-at-preserved
loop-at-preserved c =
    let xs = c.args.self.now.hot.items in
    let at = c.loop-at.at in
    let item = c.content-item.result in
    let there : at < length xs = subst (λ (ys : List place.Content). at < length ys) c.deref-content-items.ensures.value c.loop-at-test.true in
    let is : item ≡ get_or xs at item = c.content-item.is ∙ ap (λ (ys : List place.Content). get_or ys at item) c.deref-content-items.ensures.value in
    none_more shown_content (is_hot_at c.args.key) xs at item there is (sym c.is_hot_at.ensures.value ∙ c.if-is_hot_at.false) c.loop-at.invariant

pub returns-then-is_hot_at-clause-hot : goal.returns-then-is_hot_at-clause-hot
returns-then-is_hot_at-clause-hot c some =
    let xs = c.args.self.now.hot.items in
    let at = c.loop-at.at in
    let item = c.content-item.result in
    let there : at < length xs = subst (λ (ys : List place.Content). at < length ys) c.deref-content-items.ensures.value c.loop-at-test.true in
    let is : item ≡ get_or xs at item = c.content-item.is ∙ ap (λ (ys : List place.Content). get_or ys at item) c.deref-content-items.ensures.value in
    ap (is_hot_at c.args.key) (hot_read shown_content (shown_content c.args.self.now.first) xs at _ item vacant (omega arith) there is)
    ∙ sym c.is_hot_at.ensures.value ∙ c.if-is_hot_at.true
