use Rattle.std.proofs.Common.{◌∙◌, length, ap, sym, ◌-◌}
use Rattle.std.specs.Prelude.{slice_get}
use Rattle.seals.proofs.RowLaws.{so_far-start, so_far-fault, so_far-stop, so_far-next, so_far-end}
use Rattle.seals.proofs.item.read_row.Goals as goal

pub items-init : goal.items-init
items-init g c = so_far-start _ _ _ _ _ c.new-items.ensures.items

pub returns-in-Err : goal.returns-in-Err
returns-in-Err g c = record { reads = so_far-fault _ _ _ _ _ _ _ _ c.items.invariant c.items-test.true c.in-Err.ensures.takes }

pub returns-then-not-may_follow : goal.returns-then-not-may_follow
returns-then-not-may_follow g c =
    let follows = g.T.Item.may_follow c.args.bounds.now in
    let last = c.last.ensures.value ∙ ap (λ xs. slice_get xs (length xs - 1)) c.deref.ensures.value in
    let fails = ap (λ o. follows o c.in-Ok.item) (sym last) ∙ (sym c.may_follow.ensures.value ∙ c.if-not-may_follow.true) in
    record { reads = so_far-stop _ _ _ _ _ _ _ _ _ c.items.invariant c.items-test.true c.in-Ok.ensures.takes fails }

pub items-preserved : goal.items-preserved
items-preserved g c =
    let follows = g.T.Item.may_follow c.args.bounds.now in
    let last = c.last.ensures.value ∙ ap (λ xs. slice_get xs (length xs - 1)) c.deref.ensures.value in
    let passes = ap (λ o. follows o c.in-Ok.item) (sym last) ∙ (sym c.may_follow.ensures.value ∙ c.if-not-may_follow.false) in
    so_far-next _ _ _ _ _ _ _ _ _ _ c.items.invariant c.items-test.true c.in-Ok.ensures.takes passes c.in_ok-push.ensures.items

pub returns : goal.returns
returns g c = record { reads = so_far-end _ _ _ _ _ _ _ c.items.invariant c.items-test.false }
