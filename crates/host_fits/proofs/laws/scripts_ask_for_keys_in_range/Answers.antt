use Rattle.shipped_host.proofs.RangeLaws.{script_keys, script_values}
use Rattle.host_fits.proofs.laws.scripts_ask_for_keys_in_range.Goals as goal

pub returns : goal.returns
returns c = record { keys = script_keys; values = script_values }
