use Rattle.std.proofs.Common.{◌++◌, ◌∙◌, ap, sym, subst, Ok, Result, arith}
use Rattle.base_words.specs.declared.memory.Memory.{Memory}
use Rattle.check_core.specs.declared.batch.Filled.{Filled}
use Rattle.check_core.specs.Batch.{bytes_of, HasFilled}
use Rattle.check_core.proofs.BatchLemmas.{filled_more, handed_on, on_ok_never}
use Rattle.check_core.proofs.FeedingLemmas.{read_more, room_of_all, room_behind, room_within}
use Rattle.check_core.proofs.passing.pass_batch.Goals as goal

pub returns-in_err-filled-2 : goal.returns-in_err-filled-2
returns-in_err-filled-2 g c =
    let first = c.fill.ensures.filled in
    let rest = c.feed_and_fill.ensures.filled in
    let whole = c.in_ok-filled.was ∙ ap Ok c.in-Whole.is in
    let memory = c.in_err-filled-2.field-0.0 in
    let is = handed_on c.from_residual-in_err-filled-2.result memory c.from_residual-in_err-filled-2.ensures.1 in
    let frames = c.fill.new.self ++ c.feed_and_fill.new.rest in
    record {
      passed = (
        frames,
        subst (λ (result : Result Filled Memory). HasFilled 64 frames result c.args.reader.now c.feed_and_fill.new.reader
            (g.S.Source.left c.args.source.now) (g.S.Source.left c.feed_and_fill.new.source) (g.S.Source.faults c.args.source.now) (g.S.Source.faults c.feed_and_fill.new.source))
            (c.in_err-filled-2.was ∙ sym is)
            (filled_more 16 48 c.fill.new.self c.feed_and_fill.new.rest c.fill.result c.feed_and_fill.result c.args.reader.now c.fill.new.reader c.feed_and_fill.new.reader _ _ _ _ _ _ whole first rest),
        on_ok_never _ c.from_residual-in_err-filled-2.result memory is,
      );
    }

pub feed_batch-requires-clause-room : goal.feed_batch-requires-clause-room
feed_batch-requires-clause-room g c κs within =
    let functions = g.D.Digests.functions c.args.d.now in
    let first = c.fill.ensures.filled in
    let filled = c.feed_and_fill.ensures.filled in
    let front = c.in_ok-filled.ensures.filled.goes_on in
    let on = c.in_ok-filled-2.ensures.filled.goes_on in
    room_within c.feed_and_fill.new.runs (bytes_of c.feed_and_fill.new.rest) c.feed_and_fill.new.reader.progress.offset
    (omega (arith, filled.split, filled.within, filled.same_limit, first.same_limit, c.requires.limit))
    (room_behind c.feed_and_fill.new.runs (bytes_of c.feed_and_fill.new.rest) c.fill.new.reader.progress.offset _ on.bytes
    (room_of_all functions 0 c.fill.new.self c.fill.new.reader.progress.offset c.args.runs.now c.feed_and_fill.new.runs c.feed_and_fill.ensures.taken
    (room_behind c.args.runs.now (bytes_of c.fill.new.self) c.args.reader.now.progress.offset _ front.bytes c.requires.weights)))

pub returns-in-Whole : goal.returns-in-Whole
returns-in-Whole g c =
    let functions = g.D.Digests.functions c.args.d.now in
    let whole = c.in_ok-filled.was ∙ ap Ok c.in-Whole.is in
    let first = c.fill.new.self in
    let rest = c.feed_and_fill.new.rest in
    record {
      passed = (
        first ++ rest,
        filled_more 16 48 first rest c.fill.result _ c.args.reader.now c.fill.new.reader c.feed_and_fill.new.reader _ _ _ _ _ _ whole c.fill.ensures.filled c.in_ok-filled-2.ensures.filled,
        read_more functions 0 first rest c.args.runs.now c.feed_and_fill.new.runs c.feed_batch.new.runs c.feed_and_fill.ensures.taken c.feed_batch.ensures.taken,
      );
    }

pub feed_batch-requires-2-clause-room : goal.feed_batch-requires-2-clause-room
feed_batch-requires-2-clause-room g c κs within =
    let filled = c.fill.ensures.filled in
    let on = c.in_ok-filled.ensures.filled.goes_on in
    room_within c.args.runs.now (bytes_of c.fill.new.self) c.fill.new.reader.progress.offset
    (omega (arith, filled.split, filled.within, filled.same_limit, c.requires.limit))
    (room_behind c.args.runs.now (bytes_of c.fill.new.self) c.args.reader.now.progress.offset _ on.bytes c.requires.weights)
