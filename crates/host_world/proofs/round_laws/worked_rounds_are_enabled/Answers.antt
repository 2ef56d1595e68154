use Rattle.std.proofs.Common.{true, false, refl}
use Rattle.tree_keys.specs.Bits as bits
use Rattle.host_core.specs.World.{set_up}
use Rattle.shipped_host.specs.ShippedHost.{shipped_host}
use Rattle.host_world.specs.Worked.{most, two_at_five, between_events, before_events, behind_events}
use Rattle.host_world.specs.WorkedRounds.{rolling, two_epochs_settings, two_epochs_script, two_epochs_events, unasked_settings, unasked_script, unasked_events, three_workers_settings, three_workers_script, three_workers_events, no_line_settings, no_line_script, no_line_events, one_line_settings, one_line_script, one_line_events, above_settings, above_script, above_events, beside_settings, beside_script, beside_events, last_epoch_settings, last_epoch_script, last_epoch_events, past_last_settings, past_last_script, past_last_events, ending_scan_settings, ending_scan_script, ending_scan_events}
use Rattle.host_world.proofs.EnabledLemmas.{are_enabled}
use Rattle.host_world.proofs.round_laws.worked_rounds_are_enabled.Goals as goal

pub returns : goal.returns
unfolding bits.number_of bits.bits_of
returns c = record {
  two_epochs = λ functions. are_enabled (shipped_host functions two_epochs_settings two_epochs_script) (set_up (shipped_host functions two_epochs_settings two_epochs_script)) two_epochs_events
      (refl, ((refl, refl, (0, refl, refl)), ((refl, (true, refl)), (refl, ((refl, refl, (0, refl, refl)), ((refl, (true, refl)), (refl, (refl, (refl, ((refl, refl), ((refl, (true, refl)), (refl, ((refl, refl), ((refl, (true, refl)), (refl, (refl, ((refl, refl, (1, refl, refl)), ((refl, (true, refl)), (refl, (refl, (refl, (refl, tt))))))))))))))))))))));
  unasked = λ functions. are_enabled (shipped_host functions unasked_settings unasked_script) (set_up (shipped_host functions unasked_settings unasked_script)) unasked_events
      (refl, (refl, (refl, ((refl, refl), ((refl, (true, refl)), (refl, (refl, (refl, ((refl, refl), ((refl, (true, refl)), (refl, (refl, (refl, (refl, (refl, (refl, (refl, tt)))))))))))))))));
  three_workers = λ functions. are_enabled (shipped_host functions three_workers_settings three_workers_script) (set_up (shipped_host functions three_workers_settings three_workers_script)) three_workers_events
      (refl, (refl, (refl, (refl, ((refl, refl), ((refl, (true, refl)), (refl, ((refl, refl), ((refl, (true, refl)), (refl, (refl, (refl, (refl, (refl, (refl, (refl, (refl, (refl, (refl, ((refl, refl), ((refl, (true, refl)), (refl, ((refl, refl), ((refl, (true, refl)), (refl, (refl, (refl, (refl, (refl, (refl, (refl, (refl, (refl, (refl, tt))))))))))))))))))))))))))))))))));
  no_line = λ functions. are_enabled (shipped_host functions no_line_settings no_line_script) (set_up (shipped_host functions no_line_settings no_line_script)) no_line_events
      (refl, (refl, ((refl, refl, (0, refl, refl)), ((refl, (true, refl)), (refl, (refl, (refl, (refl, tt))))))));
  one_line = λ functions. are_enabled (shipped_host functions one_line_settings one_line_script) (set_up (shipped_host functions one_line_settings one_line_script)) one_line_events
      (refl, (refl, (refl, ((refl, refl), ((refl, (true, refl)), (refl, ((refl, refl), ((refl, (true, refl)), (refl, (refl, (refl, (refl, (refl, tt)))))))))))));
  above = λ functions. are_enabled (shipped_host functions above_settings above_script) (set_up (shipped_host functions above_settings above_script)) above_events
      (refl, ((refl, refl, (0, refl, refl)), ((refl, (true, refl)), (refl, (refl, (refl, ((refl, refl), ((refl, (true, refl)), (refl, (refl, ((refl, refl, (1, refl, refl)), ((refl, (true, refl)), (refl, (refl, (refl, (refl, (refl, (refl, (refl, (refl, tt))))))))))))))))))));
  beside = λ functions. are_enabled (shipped_host functions beside_settings beside_script) (set_up (shipped_host functions beside_settings beside_script)) beside_events
      (refl, (refl, (refl, ((refl, refl), ((refl, (true, refl)), (refl, (refl, ((refl, refl, (0, refl, refl)), ((refl, (true, refl)), (refl, (refl, ((refl, refl, (0, refl, refl)), ((refl, (true, refl)), (refl, ((refl, refl), ((refl, (true, refl)), (refl, (refl, ((refl, refl, (1, refl, refl)), ((refl, (true, refl)), (refl, (refl, (refl, (refl, (refl, (refl, tt))))))))))))))))))))))))));
  last_epoch = λ functions. are_enabled (shipped_host functions last_epoch_settings last_epoch_script) (set_up (shipped_host functions last_epoch_settings last_epoch_script)) last_epoch_events
      (refl, (refl, (refl, ((refl, refl), ((refl, (true, refl)), (refl, ((refl, refl), ((refl, (true, refl)), (refl, (refl, ((refl, refl, (1, refl, refl)), ((refl, (true, refl)), (refl, tt)))))))))))));
  past_last = λ functions. are_enabled (shipped_host functions past_last_settings past_last_script) (set_up (shipped_host functions past_last_settings past_last_script)) past_last_events
      (refl, ((refl, refl, (0, refl, refl)), ((refl, (true, refl)), (refl, tt))));
  ending_scan = λ functions. are_enabled (shipped_host functions ending_scan_settings ending_scan_script) (set_up (shipped_host functions ending_scan_settings ending_scan_script)) ending_scan_events
      (refl, (refl, (refl, ((refl, refl), ((refl, (true, refl)), (refl, ((refl, refl), ((refl, (false, refl)), tt))))))));
  between = λ functions. are_enabled (shipped_host functions (rolling 2 0 most) two_at_five) (set_up (shipped_host functions (rolling 2 0 most) two_at_five)) between_events
      (refl, ((refl, refl, (0, refl, refl)), ((refl, (true, refl)), (refl, ((refl, refl, (0, refl, refl)), ((refl, (true, refl)), (refl, ((refl, refl, (0, refl, refl)), ((refl, (true, refl)), (refl, (refl, (refl, (refl, (refl, (refl, tt)))))))))))))));
  before = λ functions. are_enabled (shipped_host functions (rolling 2 0 most) two_at_five) (set_up (shipped_host functions (rolling 2 0 most) two_at_five)) before_events
      (refl, ((refl, refl, (0, refl, refl)), ((refl, (true, refl)), (refl, ((refl, refl, (0, refl, refl)), ((refl, (true, refl)), (refl, ((refl, refl, (0, refl, refl)), ((refl, (true, refl)), (refl, (refl, (refl, (refl, (refl, (refl, tt)))))))))))))));
  behind = λ functions. are_enabled (shipped_host functions (rolling 2 0 most) two_at_five) (set_up (shipped_host functions (rolling 2 0 most) two_at_five)) behind_events
      (refl, ((refl, refl, (0, refl, refl)), ((refl, (true, refl)), (refl, ((refl, refl, (0, refl, refl)), ((refl, (true, refl)), (refl, ((refl, refl, (0, refl, refl)), ((refl, (true, refl)), (refl, (refl, (refl, (refl, (refl, (refl, tt)))))))))))))));
}
