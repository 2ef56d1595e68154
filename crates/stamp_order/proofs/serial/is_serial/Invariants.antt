use Rattle.std.proofs.Common.{◌↔◌, drop}
use Rattle.stamp_order.specs.Serial.{IsSerial, IsSerialFrom}
use Rattle.stamp_order.specs.PlainMap.{value_at}
use Rattle.stamp_order.proofs.serial.is_serial.Given as goal

abbrev pub invariant-loop-operation : goal.invariant-loop-operation
invariant-loop-operation l = IsSerial l.operations ↔ IsSerialFrom (value_at l.map) (drop l.operation-index l.operations)
