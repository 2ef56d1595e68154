use Rattle.std.proofs.Common.{List, length, sym, ◌∙◌, ap, subst}
use Rattle.record_text.specs.declared.operation.Operation.{Operation}
use Rattle.stamp_order.specs.Merged.{merged}
use Rattle.stamp_order.specs.Operations.{moment_of}
use Rattle.stamp_order.specs.Lists.{all_of, AreMerged}
use Rattle.stamp_order.specs.Places.{left_at, StandByStart}
use Rattle.stamp_order.proofs.PlaceLemmas.{all-left, all-counted}
use Rattle.stamp_order.proofs.merger.Merger.new.Goals as goal

pub invariant_of-result : goal.invariant_of-result
invariant_of-result c =
    let same = c.in_ok-lists.ensures.same in
    let read = c.deref-2.ensures.value in
    record {
      in_order = subst AreMerged (sym same) c.requires.in_order;
      by_start = subst (λ (lists : List (List Operation)). StandByStart lists c.in_ok-places.places.items) read c.in_ok-places.ensures.standing;
      count =
          c.in_ok-left.ensures.count
          ∙ ap (λ (lists : List (List Operation)). length (all_of lists)) (c.deref.ensures.value ∙ sym same ∙ sym read)
          ∙ sym (all-counted c.deref-2.result.now c.in_ok-places.places.items c.in_ok-places.ensures.all)
          ∙ ap (λ (lists : List (List Operation)). length (left_at lists c.in_ok-places.places.items)) read;
    }

pub returns : goal.returns
returns c = record {
  all =
      ap (λ (lists : List (List Operation)). left_at lists c.in_ok-places.places.items) (sym c.deref-2.ensures.value)
      ∙ all-left c.deref-2.result.now c.in_ok-places.places.items c.in_ok-places.ensures.all
      ∙ ap (λ (lists : List (List Operation)). merged moment_of (all_of lists)) (c.deref-2.ensures.value ∙ c.in_ok-lists.ensures.same);
}
