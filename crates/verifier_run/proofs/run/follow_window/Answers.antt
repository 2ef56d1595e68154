use Rattle.std.proofs.Common.{◌≡◌, ℕ, ◌+◌, suc, List, length, drop, slice_index_or, sym, ap, subst, ◌∙◌, arith}
use Rattle.std.proofs.lemmas.List.{drop-drop}
use Rattle.lamport_clocks.specs.declared.header.Header.{Header}
use Rattle.record_text.specs.Format.{format_of}
use Rattle.command_window.specs.declared.read_command.ReadCommand.{ReadCommand}
use Rattle.command_window.specs.Window.{IsReadOf, AreReadOf}
use Rattle.command_window.proofs.WindowLaws.{read_at}
use Rattle.merkle_records.specs.Scheme.{scheme_of}
use Rattle.verifier_run.specs.Course.{after_command}
use Rattle.verifier_run.proofs.FollowLemmas.{none_taken, window_taken, none_told}
use Rattle.verifier_run.proofs.run.follow_window.Goals as goal

pub loop-place-init : goal.loop-place-init
loop-place-init g c = record {
  so_far = none_taken g.T.Kept.keeps (scheme_of (g.D.Digests.functions c.args.d.now) c.args.tracer.now.machine.header) c.args.tracer.now c.args.bytes.now;
  read = c.requires.read;
  some = λ none. none;
  going = λ first. c.requires.going;
}

pub loop-place-preserved : goal.loop-place-preserved
loop-place-preserved g c =
    let functions = g.D.Digests.functions c.args.d.now in
    let start = c.args.tracer.now in
    let scheme = scheme_of functions start.machine.header in
    let so_far = c.loop-place.invariant.so_far in
    let read = c.index-commands-place.result in
    let none = none_told c.loop-place.tracer.refused c.refused.result c.is_some.result c.refused.ensures.value c.is_some.ensures c.if-is_some.false in
    let commands = c.commands.ensures.value in
    let ends = ap length c.commands-place-end.ensures.value in
    let there = read_at (format_of start.machine.header) (drop c.loop-place.taken c.args.bytes.now) c.args.window.now.commands c.loop-place.place read
    (omega (arith, c.loop-place-test.true, c.loop-place.auto.place-end, ends)) c.loop-place.invariant.read in
    let is_read : slice_index_or c.args.window.now.commands c.loop-place.place read ≡ read =
    sym (c.index-commands-place.is ∙ ap (λ (reads : List ReadCommand). slice_index_or reads c.loop-place.place read) commands) in
    let next : suc c.loop-place.place ≡ c.loop-place.place + 1 = omega arith in
    let some = subst (λ (r : ReadCommand). IsReadOf (format_of start.machine.header) (drop c.loop-place.taken c.args.bytes.now) r) is_read there.0 in
    record {
      so_far = window_taken g.T.Kept.keeps scheme start c.args.bytes.now c.loop-place.taken c.loop-place.tracer c.apply.new.self read so_far none
          some
          (c.in-Ok.ensures.ok
          ∙ (ap (λ d. after_command g.T.Kept.keeps (scheme_of (g.D.Digests.functions d) c.loop-place.tracer.machine.header) c.loop-place.tracer read.command) c.known.ensures.others
          ∙ ap (λ (h : Header). after_command g.T.Kept.keeps (scheme_of functions h) c.loop-place.tracer read.command) so_far.header)) c.in-Ok.ensures.count;
      read = subst (λ (rest : List ℕ). AreReadOf (format_of start.machine.header) rest (drop (c.loop-place.place + 1) c.args.window.now.commands)) (drop-drop read.len c.loop-place.taken c.args.bytes.now)
          (subst (λ (n : ℕ). AreReadOf (format_of start.machine.header) (drop read.len (drop c.loop-place.taken c.args.bytes.now)) (drop n c.args.window.now.commands)) next
          (subst (λ (r : ReadCommand). AreReadOf (format_of start.machine.header) (drop r.len (drop c.loop-place.taken c.args.bytes.now)) (drop (suc c.loop-place.place) c.args.window.now.commands)) is_read there.1));
      some = λ first. omega (arith, some.some);
      going = λ first. absurd (omega (arith, first));
    }
