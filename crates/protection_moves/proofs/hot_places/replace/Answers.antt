use Rattle.std.proofs.Common.{◌≡◌, ℕ, suc, ◌+◌, ◌<◌, List, length, map, subst, arith}
use Rattle.std.specs.Prelude.{slice_set}
use Rattle.std.specs.Option.{option_copied}
use Rattle.host_shard.specs.Shown.{shown_content}
use Rattle.host_shard.specs.declared.content.Content.{Content}
use Rattle.host_shard.specs.Content.{Content as Seen}
use Rattle.protection_moves.specs.Places.{content_of}
use Rattle.protection_moves.proofs.PlaceLemmas.{replaced_front, replaced_step, replaced_end}
use Rattle.protection_moves.proofs.hot_places.replace.Goals as goal

pub loop-content-preserved : goal.loop-content-preserved
loop-content-preserved c =
    let key : ℕ = c.args.key in
    let new : Seen = content_of (option_copied c.args.new) in
    let i : ℕ = c.loop-content.content-index in
    let now : List Content = c.loop-content.places in
    let old : List Content = c.args.places.now in
    let within : i < length now = omega (arith, c.loop-content-test.true, c.loop-content.auto.places) in
    let next : suc i ≡ i + 1 = omega arith in
    subst (λ (n : ℕ). map shown_content (slice_set now i c.replace_at.new.content) ≡ replaced_front n key new (map shown_content old)) next
    (replaced_step shown_content key new i now old c.content-item.result c.replace_at.new.content c.loop-content.invariant within
    c.replace_at.ensures.replaced)

pub returns : goal.returns
returns c = record {
  replaced = replaced_end shown_content c.args.key (content_of (option_copied c.args.new)) c.loop-content.content-index c.loop-content.places c.args.places.now
      c.loop-content.invariant (omega (arith, c.loop-content-test.false));
}
