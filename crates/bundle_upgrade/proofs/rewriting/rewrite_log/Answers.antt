use Rattle.std.proofs.Common.{◌≡◌, ◌+◌, ◌-◌, ◌++◌, List, ℕ, drop, length, Ok, sym, ◌∙◌, ap, arith}
use Rattle.std.specs.Prelude.{slice_range}
use Rattle.std.proofs.lemmas.List.{drop-drop, length-drop, drop_all, take_all}
use Rattle.record_text.specs.Format.{format_of}
use Rattle.log_codec.specs.LogCommand.{command_at}
use Rattle.bundle_upgrade.proofs.RewritingLemmas.{writes-command, writes-end, writes-fault}
use Rattle.bundle_upgrade.proofs.rewriting.rewrite_log.Goals.{else-loop-at-test, then-loop-at-test+in-Err}
use Rattle.bundle_upgrade.proofs.rewriting.rewrite_log.Goals as goal

-- the bytes that are left of a log, as they are handed on
rest_whole : (log : List ℕ) (at : ℕ) → slice_range log at (length log) ≡ drop at log
rest_whole log at = take_all (length log - at) (drop at log) (omega (arith, length-drop at log))

pub loop-at-preserved : goal.loop-at-preserved
loop-at-preserved c =
    let log = c.args.log.now in
    let format = format_of c.args.header.now in
    let whole = rest_whole log c.loop-at.at in
    record {
      within = omega (arith, c.in-Ok.ensures.within, c.loop-at-test.true, length-drop c.loop-at.at log);
      writes =
          writes-command format c.loop-at.text.items c.extend_from_slice.new.self.items c.loop-at.writer c.write_command.new.writer
          c.read_command_into.new.place (drop c.loop-at.at log) (drop (c.loop-at.at + c.in-Ok.taken) log) _ c.loop-at.invariant.writes
          (ap (command_at format) (sym whole)
          ∙ c.in-Ok.ensures.read
          ∙ ap (λ (rest : List ℕ). Ok (c.read_command_into.new.place, rest)) (ap (drop c.in-Ok.taken) whole ∙ drop-drop c.in-Ok.taken c.loop-at.at log))
          (c.in_ok-extend_from_slice-in-Ok.ensures.items
          ∙ ap (λ (piece : List ℕ). c.loop-at.text.items ++ piece) (c.as_slice.ensures.value ∙ c.write_command.ensures.written))
          c.write_command.ensures.after;
    }

pub returns : goal.returns
returns c =
    let log = c.args.log.now in
    let format = format_of c.args.header.now in
    record {
      text =
          elim c.loop-at-test.branch [
            | else-loop-at-test w ↦ writes-end format c.loop-at.text.items c.loop-at.writer (drop c.loop-at.at log) _
                (drop_all c.loop-at.at log (omega (arith, w.loop-at-test.false))) c.loop-at.invariant.writes
            | then-loop-at-test+in-Err w ↦ writes-fault format c.loop-at.text.items c.loop-at.writer (drop c.loop-at.at log) _ _
                (omega (arith, w.loop-at-test.true, length-drop c.loop-at.at log)) (ap (command_at format) (sym (rest_whole log c.loop-at.at)) ∙ w.in-Err.ensures.fault)
                c.loop-at.invariant.writes
          ];
    }
