use Rattle.std.proofs.Common.{length, ◌≡◌, ◌⊎◌, ◌<◌, ℕ, Result, Ok, Err, is_ok, true≢false, refl, sym, ap, subst, ◌∙◌, arith}
use Rattle.std.specs.List.{AllByRecursion}
use Rattle.fv_outside.specs.declared.failure.Failure.{Failure}
use Rattle.fv_outside.specs.declared.failure.Failure.TheVariants as failures
use Rattle.bundle_frames.specs.Bundle.{IsFrame, Frame}
use Rattle.bundle_frames.specs.Progress.{position}
use Rattle.bundle_frames.specs.Reading.{Reading}
use Rattle.bundle_frames.proofs.ReadingLaws.{HasRead-then, ReadsAs-then, ReadsAs-kept, ReadsAs-back, near-then}
use Rattle.base_words.specs.declared.memory.Memory.{Memory}
use Rattle.check_core.specs.declared.batch.Filled.{Filled}
use Rattle.check_core.specs.declared.batch.Filled.TheVariants.{Stopped}
use Rattle.check_core.specs.Batch.{HasFilled}
use Rattle.check_core.proofs.BatchLemmas.{handed_on, memory_not_ok, bytes_kept, more_kept, count_kept, all_kept, known_frame, known_bounded, no_header, frame_not_end, frame_keeps, end_keeps, end_adds_none, whole_not_end, stopped_not_end, stopped_not_whole, end_not_stopped, stop_is, by_source, handed_over, reads_frame, reads_none}
use Rattle.report_text.proofs.AnsweringLaws.{rose_before}
use Rattle.check_core.proofs.batch.Batch.fill.Goals as goal

-- a batch that was read up to where reading stopped
abbrev stopped : Failure → Result Filled Memory
stopped stop = Ok (Stopped stop)

pub returns-in-Err : goal.returns-in-Err
returns-in-Err g c =
    let last = c.frames.invariant in
    let next = c.in-Err.ensures in
    let stop = c.in-Err.stop in
    record {
      filled = record {
        goes_on = record {
          means = ReadsAs-then _ _ _ _ _ _ _ _ last.having_read last.means
              (reads_none _ _ c.frames.self c.frames.reader c.next.new.self (Err stop) next.means (λ rest. refl)) (omega (arith, next.rises, last.rises));
          extent = ReadsAs-then _ _ _ _ _ _ _ _ last.having_read last.extent next.extent (omega (arith, next.rises, last.rises));
          header = next.header ∙ last.header;
          bytes = omega (arith, last.bytes, next.onward);
        };
        ranges = last.frames;
        whole = λ is. absurd (stopped_not_whole _ is);
        having_read = λ other.
            let apart = λ (is : stop ≡ failures.InputLimit). other (ap stopped is) in
            HasRead-then _ _ _ _ _ _ last.having_read (next.took (λ is. apart cc)) (omega (arith, next.rises, last.rises));
        limit = λ is. HasRead-then _ _ _ _ _ _ last.having_read (next.limit (ap Err (stop_is stop failures.InputLimit is)))
            (omega (arith, next.rises, next.within, last.rises));
        full = λ is. next.full (ap Err (stop_is stop failures.InputLimit is));
        rises = omega (arith, next.rises, last.rises);
        within = next.within;
        same_limit = next.same_limit ∙ last.limit;
        split = next.split;
        near = near-then _ _ _ _ _ _ _ _ _ last.having_read last.extent next.rises refl last.near next.near;
        beyond = λ is. ReadsAs-back (λ (end : ℕ). c.next.new.self.limit < end) _ _ _ _ _ last.having_read last.extent
            (next.beyond (ap Err (stop_is stop failures.InputLimit is)));
        end = λ is. absurd (end_not_stopped _ is);
        reached = λ is. absurd (end_not_stopped _ is);
        spent = λ other. next.stopped;
        due = λ is. absurd (stopped_not_whole _ is);
        stopped = λ failure is. subst (λ (s : Failure). (s ≡ failures.ReadFault) ⊎ (s ≡ failures.InputLimit)) (stop_is stop failure is) (by_source stop next.failure);
        fault = λ is. rose_before _ _ _ last.faults (next.fault (ap Err (stop_is stop failures.ReadFault is)));
        never_falls = omega (arith, last.faults, next.never_falls);
      };
    }

pub returns-in-End : goal.returns-in-End
returns-in-End g c =
    let last = c.frames.invariant in
    let next = c.in-Ok.ensures in
    let ended = ap Ok c.in-End.is in
    record {
      filled = record {
        goes_on = record {
          means = ReadsAs-then _ _ _ _ _ _ _ _ last.having_read last.means
              (reads_none _ _ c.frames.self c.frames.reader c.next.new.self (Ok c.in-Ok.next) next.means
              (end_adds_none _ _ c.in-End.is)) (omega (arith, next.rises, last.rises));
          extent = ReadsAs-then _ _ _ _ _ _ _ _ last.having_read last.extent next.extent (omega (arith, next.rises, last.rises));
          header = next.header ∙ end_keeps _ _ c.in-End.is ∙ last.header;
          bytes = omega (arith, last.bytes, next.onward);
        };
        ranges = last.frames;
        whole = λ is. absurd (whole_not_end is);
        having_read = λ other. HasRead-then _ _ _ _ _ _ last.having_read (next.took (λ is. true≢false (ap is_ok is))) (omega (arith, next.rises, last.rises));
        limit = λ is. absurd (stopped_not_end _ is);
        full = λ is. absurd (stopped_not_end _ is);
        rises = omega (arith, next.rises, last.rises);
        within = next.within;
        same_limit = next.same_limit ∙ last.limit;
        split = next.split;
        near = near-then _ _ _ _ _ _ _ _ _ last.having_read last.extent next.rises refl last.near next.near;
        beyond = λ is. absurd (stopped_not_end _ is);
        end = λ is. next.end ended;
        reached = λ is. next.reached ended;
        spent = λ other. next.ended ended;
        due = λ is. absurd (whole_not_end is);
        stopped = λ failure is. absurd (stopped_not_end _ is);
        fault = λ is. absurd (stopped_not_end _ is);
        never_falls = omega (arith, last.faults, next.never_falls);
      };
    }

pub returns : goal.returns
returns g c =
    let last = c.frames.invariant in
    let many : length c.frames.self ≡ c.args.most = omega (arith, c.frames-test.ensures.full refl, last.count) in
    let read = last.read (omega (arith, many, c.requires.some)) in
    record {
      filled = record {
        goes_on = record {
          means = last.means;
          extent = last.extent;
          header = last.header;
          bytes = last.bytes;
        };
        ranges = last.frames;
        whole = λ is. many;
        having_read = λ other. last.having_read;
        limit = λ is. absurd (stopped_not_whole _ (sym is));
        full = λ is. absurd (stopped_not_whole _ (sym is));
        rises = last.rises;
        within = read.0;
        same_limit = last.limit;
        split = read.1;
        near = last.near;
        beyond = λ is. absurd (stopped_not_whole _ (sym is));
        end = λ is. absurd (whole_not_end (sym is));
        reached = λ is. absurd (whole_not_end (sym is));
        spent = λ other. absurd (other refl);
        due = λ is. last.due;
        stopped = λ failure is. absurd (stopped_not_whole _ (sym is));
        fault = λ is. absurd (stopped_not_whole _ (sym is));
        never_falls = last.faults;
      };
    }

pub returns-in_err-keep-in-Frame : goal.returns-in_err-keep-in-Frame
returns-in_err-keep-in-Frame g c =
    let last = c.frames.invariant in
    let next = c.in-Ok.ensures in
    let r : Reading = c.next.new.self in
    let same = c.in_err-keep-in-Frame.ensures.reader in
    let taken = ap (λ (r : Reading). r.taken) same in
    let limit = ap (λ (r : Reading). r.limit) same in
    let split = ap (λ (r : Reading). position r.progress) same in
    let memory = c.in_err-keep-in-Frame.field-0.0 in
    record {
      filled = subst (λ (result : Result Filled Memory). HasFilled c.args.most c.keep.new.self result c.args.reader.now c.keep.new.reader
          (g.S.Source.left c.args.source.now) (g.S.Source.left c.next.new.source) (g.S.Source.faults c.args.source.now) (g.S.Source.faults c.next.new.source))
          (sym (handed_on c.from_residual.result memory c.from_residual.ensures.1))
          (record {
            goes_on = tt;
            ranges = λ header known. subst (AllByRecursion (IsFrame header.verifiers)) (sym c.in_err-keep-in-Frame.ensures.same) (last.frames header known);
            whole = λ is. absurd (memory_not_ok memory _ is);
            having_read = λ other. HasRead-then _ _ _ _ _ _ last.having_read (next.took (λ is. true≢false (ap is_ok is))) (omega (arith, taken, next.rises, last.rises));
            limit = λ is. absurd (memory_not_ok memory _ is);
            full = λ is. absurd (memory_not_ok memory _ is);
            rises = omega (arith, taken, next.rises, last.rises);
            within = omega (arith, taken, limit, next.within);
            same_limit = limit ∙ next.same_limit ∙ last.limit;
            split = omega (arith, taken, split, next.split);
            near = near-then _ _ _ _ _ _ _ _ _ last.having_read last.extent next.rises taken last.near next.near;
            beyond = λ is. absurd (memory_not_ok memory _ is);
            end = λ is. absurd (memory_not_ok memory _ is);
            reached = λ is. absurd (memory_not_ok memory _ is);
            spent = tt;
            due = λ is. absurd (memory_not_ok memory _ is);
            stopped = λ failure is. absurd (memory_not_ok memory _ is);
            fault = λ is. absurd (memory_not_ok memory _ is);
            never_falls = omega (arith, last.faults, next.never_falls);
          });
    }

pub keep-requires-clause-body : goal.keep-requires-clause-body
keep-requires-clause-body g c = known_bounded c.in-Frame.verifier _ _ (c.in-Ok.ensures.frame c.in-Frame.verifier (ap Ok c.in-Frame.is))

pub frames-preserved : goal.frames-preserved
frames-preserved g c =
    let last = c.frames.invariant in
    let next = c.in-Ok.ensures in
    let due = next.due (λ is. frame_not_end _ _ c.in-Frame.is is) in
    let came = ap Ok c.in-Frame.is in
    let new : Reading = c.next.new.self in
    let kept = c.in_ok-keep-in-Frame.ensures.kept in
    let handed = c.in_ok-keep-in-Frame.ensures.handed in
    let same = handed_over new c.keep.new.reader handed in
    let frame : Frame = record { verifier = c.in-Frame.verifier; body = new.progress.body } in
    record {
      count = count_kept _ _ _ _ kept (c.frames-test.ensures.room refl);
      due = same.due due;
      header = same.header ∙ next.header ∙ frame_keeps _ _ _ c.in-Frame.is ∙ last.header;
      limit = same.limit ∙ next.same_limit ∙ last.limit;
      rises = omega (arith, same.taken, next.rises, last.rises);
      read = λ some. (omega (arith, same.taken, same.limit, next.within), omega (arith, same.taken, next.split, same.position));
      having_read = HasRead-then _ _ _ _ _ _ last.having_read (next.took (λ is. true≢false (ap is_ok is))) (omega (arith, same.taken, next.rises, last.rises));
      means = ReadsAs-then _ _ _ _ _ _ _ _ last.having_read last.means
          (reads_frame _ _ c.frames.self c.keep.new.self c.in-Frame.verifier c.frames.reader new c.keep.new.reader (Ok c.in-Ok.next) next.means came handed kept)
          (omega (arith, same.taken, next.rises, last.rises));
      extent = ReadsAs-kept _ _ _ _ _ (ReadsAs-then _ _ _ _ _ _ _ _ last.having_read last.extent next.extent (omega (arith, same.taken, next.rises, last.rises))) same.extent;
      near = near-then _ _ _ _ _ _ _ _ _ last.having_read last.extent next.rises same.taken last.near next.near;
      bytes =
          let all = bytes_kept c.frames.self c.keep.new.self frame kept in
          omega (arith, all, last.bytes, next.bytes c.in-Frame.verifier came, same.offset);
      frames = λ header known. all_kept (IsFrame header.verifiers) c.frames.self c.keep.new.self frame kept (last.frames header known)
          (known_frame c.in-Frame.verifier _ _ header (last.header ∙ known) (next.frame c.in-Frame.verifier came));
      faults = omega (arith, last.faults, next.never_falls);
    }

pub frames-smaller : goal.frames-smaller
frames-smaller g c = more_kept _ _ _ _ c.in_ok-keep-in-Frame.ensures.kept (c.frames-test.ensures.room refl)

pub returns-in-Head : goal.returns-in-Head
returns-in-Head g c = absurd (no_header _ _ c.frames.invariant.header c.requires.header (c.in-Ok.ensures.head _ (ap Ok c.in-Head.is)).0)
