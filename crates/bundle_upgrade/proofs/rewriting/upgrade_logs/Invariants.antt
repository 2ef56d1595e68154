use Rattle.std.proofs.Common.{◌≡◌, ◌<◌, map, take, vec_len}
use Rattle.std.specs.List.{All, AllByRecursion}
use Rattle.bundle_upgrade.proofs.RewritingLemmas.{front_upgraded}
use Rattle.bundle_upgrade.proofs.rewriting.upgrade_logs.Given as goal

-- the logs of the verifiers so far are upgraded, and the others are as they were; those so far held bytes
abbrev pub invariant-loop-number : goal.invariant-loop-number
invariant-loop-number l = record {
  count : vec_len l.logs ≡ vec_len l.fn.logs;
  front : map (λ log. log.items) l.logs.items ≡ front_upgraded l.header 0 l.number (map (λ log. log.items) l.fn.logs.items);
  bytes : AllByRecursion (All (λ byte. byte < 256)) (take l.number (map (λ log. log.items) l.fn.logs.items));
}
