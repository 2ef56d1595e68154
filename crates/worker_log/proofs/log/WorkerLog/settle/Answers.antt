use Rattle.std.proofs.Common.{◌≡◌, ◌+◌, ◌++◌, List, [], ◌∷◌, length, get_or, map, ◌∙◌, ap, subst, sym, arith}
use Rattle.log_codec.specs.declared.command.Command.{Command}
use Rattle.std.specs.declared.snapshot.Snapshot.{Snapshot}
use Rattle.worker_log.specs.Logged.{AreWritten}
use Rattle.worker_log.proofs.LogLemmas.{written-next, waits-less, shown-joined}
use Rattle.worker_log.proofs.log.WorkerLog.settle.Goals as goal

pub loop-self-preserved : goal.loop-self-preserved
loop-self-preserved c =
    let inv = c.loop-self.invariant in
    let now = c.loop-self.self-inside in
    let value : Snapshot Command → Command = λ command. command.value in
    let command = c.index-as_slice-self.result in
    let joined : c.push_reserved.new.self.items ≡ now.written.items ++ c.of.result ∷ [] =
    c.push_reserved.ensures.items ∙ ap (λ items. items ++ c.of.result ∷ []) c.in_ok-reserve.ensures.items in
    record {
      first = inv.first;
      waiting = inv.waiting;
      written = subst (λ (written : List Command). AreWritten c.self.inside.first.value c.write_behind.new.writer written c.write_behind.new.bytes c.write_behind.new.text.items)
          (sym (shown-joined value now.written.items c.push_reserved.new.self.items c.of.result command joined c.of.ensures))
          (written-next c.self.inside.first.value now.writer c.write_behind.new.writer (map value now.written.items) command now.bytes now.text.items
          c.write_behind.new.bytes c.write_behind.new.text.items inv.written
          c.in_ok-write_behind.ensures.bytes c.in_ok-write_behind.ensures.text c.in_ok-write_behind.ensures.writer);
      commands =
          waits-less value now.written.items c.push_reserved.new.self.items c.of.result now.waiting now.next (now.next + 1) command joined c.of.ensures
          (omega arith) (omega (arith, c.loop-self-test.true, ap length c.as_slice.ensures.commands))
          (c.index-as_slice-self.is ∙ ap (λ (xs : List Command). get_or xs now.next command) c.as_slice-in-loop-self.ensures.commands)
          ∙ inv.commands;
    }
