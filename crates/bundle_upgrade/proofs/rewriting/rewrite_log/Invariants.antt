use Rattle.std.proofs.Common.{◌≤◌, ◌-◌, length, drop}
use Rattle.record_text.specs.Format.{format_of}
use Rattle.log_codec.specs.Log.{read_log}
use Rattle.slot_rewriting.specs.Writing.{written_log}
use Rattle.bundle_upgrade.specs.Upgraded.{upgraded_header, path_commands}
use Rattle.bundle_upgrade.proofs.RewritingLemmas.{WritesOn}
use Rattle.bundle_upgrade.proofs.rewriting.rewrite_log.Given as goal

-- what was written, and what is to be written of the bytes that are left, is the whole text
abbrev pub invariant-loop-at : goal.invariant-loop-at
invariant-loop-at l = record {
  within : l.at ≤ length l.log;
  writes : WritesOn (format_of l.header) l.text.items l.writer (drop l.at l.log)
      (written_log (upgraded_header l.header) l.number (path_commands (read_log (format_of l.header) l.log).commands));
}

abbrev pub decreases-loop-at : goal.decreases-loop-at
decreases-loop-at l = length l.log - l.at
