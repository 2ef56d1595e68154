use Rattle.std.proofs.Common.{◌≡◌, Bool, true, false, refl}
use Rattle.verifier_cache.specs.declared.entry.Entry.{Entry}
use Rattle.verifier_cache.specs.Entry.{kid_of, kid_after, set_kid}
use Rattle.verifier_cache.proofs.laws.setting_a_kid_bit_keeps_the_other.Goals as goal

kid_of-set_kid : (entry : Entry) (side on which : Bool) → kid_of (set_kid entry side on) which ≡ kid_after entry side on which
kid_of-set_kid entry side on false = refl
kid_of-set_kid entry side on true = refl

pub returns : goal.returns
returns c = record { kids = kid_of-set_kid }
