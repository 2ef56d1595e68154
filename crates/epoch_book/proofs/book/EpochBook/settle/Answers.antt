use Rattle.std.proofs.Common.{◌≡◌, ◌∙◌, Bool, if◌then◌else◌, ap, sym}
use Rattle.epoch_gather.specs.declared.outcome.Verdict.TheVariants.{Balanced, Unbalanced}
use Rattle.epoch_gather.specs.Parts.{total}
use Rattle.epoch_book.specs.Passes.{parts_of}
use Rattle.epoch_book.specs.Settled.{first_without, settled}
use Rattle.epoch_book.proofs.SettledLemmas.{settled-missing, settled-compared, settled-verdict_of}
use Rattle.epoch_book.proofs.book.EpochBook.settle.Goals as goal

pub returns-in-Some : goal.returns-in-Some
returns-in-Some c =
    let is = sym (c.in-Some.ensures.first ∙ ap first_without c.deref.ensures.value) in
    let verdict = sym (settled-missing c.args.passes.items c.in-Some.verifier is) in record {
      verdict = verdict;
      epoch = λ epoch all. verdict ∙ settled-verdict_of _ c.args.passes.items c.requires.all.count (λ k pass at. (c.requires.all.each k pass at).0) epoch all;
    }

pub returns-then-halves_agree : goal.returns-then-halves_agree
returns-then-halves_agree c =
    let is = sym (c.in_default.ensures.first ∙ ap first_without c.deref.ensures.value) in
    let compared = settled-compared c.args.passes.items c.totals-totals.result is c.totals-totals.ensures.count c.totals-totals.ensures.totals in
    let parts = parts_of c.args.passes.items in
    let verdict : Balanced ≡ settled c.args.passes.items =
    ap (λ (b : Bool). if b then Balanced else Unbalanced (total (λ part. part.added) parts) (total (λ part. part.evicted) parts)) c.if-halves_agree.ensures.value ∙ sym compared in record {
      verdict = verdict;
      epoch = λ epoch all. verdict ∙ settled-verdict_of _ c.args.passes.items c.requires.all.count (λ k pass at. (c.requires.all.each k pass at).0) epoch all;
    }

pub returns-else-halves_agree : goal.returns-else-halves_agree
returns-else-halves_agree c =
    let is = sym (c.in_default.ensures.first ∙ ap first_without c.deref.ensures.value) in
    let compared = settled-compared c.args.passes.items c.totals-totals.result is c.totals-totals.ensures.count c.totals-totals.ensures.totals in
    let parts = parts_of c.args.passes.items in
    let added = c.joined-added.ensures.added ∙ ap (λ passes. total (λ part. part.added) (parts_of passes)) c.deref-2.ensures.value in
    let evicted = c.joined-added.ensures.evicted ∙ ap (λ passes. total (λ part. part.evicted) (parts_of passes)) c.deref-2.ensures.value in
    let verdict : Unbalanced c.joined-added.result.0 c.joined-added.result.1 ≡ settled c.args.passes.items =
    ap (λ s. Unbalanced s c.joined-added.result.1) added
    ∙ ap (λ s. Unbalanced (total (λ part. part.added) parts) s) evicted
    ∙ ap (λ (b : Bool). if b then Balanced else Unbalanced (total (λ part. part.added) parts) (total (λ part. part.evicted) parts)) c.if-halves_agree.ensures.value
    ∙ sym compared in record {
      verdict = verdict;
      epoch = λ epoch all. verdict ∙ settled-verdict_of _ c.args.passes.items c.requires.all.count (λ k pass at. (c.requires.all.each k pass at).0) epoch all;
    }
