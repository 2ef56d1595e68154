use Rattle.std.proofs.Common.{◌≡◌, ◌<◌, length, get_or, ◌∙◌, arith}
use Rattle.epoch_book.specs.declared.book.EpochBook.{EpochBook}
use Rattle.epoch_book.specs.Passes.{verifiers_of}
use Rattle.host_rounds.specs.WithPasses.{passes_in}
use Rattle.host_rounds.proofs.HalvesLemmas.{first-of}
use Rattle.host_rounds.proofs.ChangedLemmas.{more-length, all-more}
use Rattle.host_rounds.proofs.DealingLemmas.{more-new}
use Rattle.host_rounds.proofs.SettlingLemmas.{new-pass}
use Rattle.host_rounds.proofs.books.open_books.Goals as goal

pub loop-preserved : goal.loop-preserved
loop-preserved c =
    let so_far = c.loop.invariant in
    let books = c.loop.books.items in
    let later = c.push.new.self.items in
    let book = c.in_ok-book.book in
    let passes = c.in_ok-book.passes.items in
    let dealt = c.in_ok-book.ensures.passes in
    let more = c.in_ok-push.ensures.items in
    let verifiers : verifiers_of book ≡ length c.args.all.now = omega (arith, dealt.0, so_far.len, c.requires.some) in
    record {
      count = let size = more-length later books book more in omega (arith, size, so_far.count);
      len = c.in_ok-deal.ensures.len ∙ so_far.len;
      verifiers = all-more (λ (b : EpochBook). verifiers_of b ≡ length c.args.all.now) later books book so_far.verifiers more verifiers;
      passes = λ i one there.
          let here : i < length passes = omega (arith, there, verifiers, dealt.1.count) in
          let pass = first-of passes i here in
          more-new books later book i (passes_in (get_or c.loop.all i one)) (passes_in (get_or c.deal.new.all i one)) (get_or passes i pass) (so_far.passes i one there) more
          (c.in_ok-deal.ensures.dealt i one pass (omega (arith, there, so_far.len))) (new-pass book passes i pass dealt.1 c.in_ok-book.ensures.empty here);
      runs = c.in_ok-deal.ensures.runs ∙ so_far.runs;
    }
