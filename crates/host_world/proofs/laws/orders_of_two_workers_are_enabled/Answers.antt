use Rattle.std.proofs.Common.{true, refl}
use Rattle.tree_keys.specs.Bits as bits
use Rattle.record_hash.specs.Functions.{DigestFunctions}
use Rattle.record_text.specs.declared.request.Request.{Request}
use Rattle.host_core.specs.Host.{Host}
use Rattle.host_core.specs.World.{set_up}
use Rattle.host_shard.specs.Content.{Content}
use Rattle.shipped_host.specs.ShippedHost.{shipped_host}
use Rattle.host_world.specs.Worked.{two_shards, most, two_at_five, between_events, before_events, behind_events}
use Rattle.host_world.proofs.EnabledLemmas.{are_enabled}
use Rattle.host_world.proofs.laws.orders_of_two_workers_are_enabled.Goals as goal

abbrev host : DigestFunctions → Host Content Request
host functions = shipped_host functions (two_shards 2 most) two_at_five

pub returns : goal.returns
unfolding bits.number_of bits.bits_of
returns c = record {
  between = λ functions. are_enabled (host functions) (set_up (host functions)) between_events (
    refl,
    (
      (refl, refl, (0, refl, refl)),
      (
        (refl, (true, refl)),
        (
          refl,
          (
            (refl, refl, (0, refl, refl)),
            (
              (refl, (true, refl)),
              (
                refl,
                (
                  (refl, refl, (0, refl, refl)),
                  (
                    (refl, (true, refl)),
                    (refl, (refl, (refl, (refl, (refl, (refl, tt)))))),
                  ),
                ),
              ),
            ),
          ),
        ),
      ),
    ),
  );
  before = λ functions. are_enabled (host functions) (set_up (host functions)) before_events (
    refl,
    (
      (refl, refl, (0, refl, refl)),
      (
        (refl, (true, refl)),
        (
          refl,
          (
            (refl, refl, (0, refl, refl)),
            (
              (refl, (true, refl)),
              (
                refl,
                (
                  (refl, refl, (0, refl, refl)),
                  (
                    (refl, (true, refl)),
                    (refl, (refl, (refl, (refl, (refl, (refl, tt)))))),
                  ),
                ),
              ),
            ),
          ),
        ),
      ),
    ),
  );
  behind = λ functions. are_enabled (host functions) (set_up (host functions)) behind_events (
    refl,
    (
      (refl, refl, (0, refl, refl)),
      (
        (refl, (true, refl)),
        (
          refl,
          (
            (refl, refl, (0, refl, refl)),
            (
              (refl, (true, refl)),
              (
                refl,
                (
                  (refl, refl, (0, refl, refl)),
                  (
                    (refl, (true, refl)),
                    (refl, (refl, (refl, (refl, (refl, (refl, tt)))))),
                  ),
                ),
              ),
            ),
          ),
        ),
      ),
    ),
  );
}
