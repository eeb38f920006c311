-- Why there are no revisions between.
use Rattle.mirror_log.specs.declared.bridge_refusal.BridgeNo.{BridgeNo}
use Rattle.mirror_log.specs.declared.bridge_refusal.BridgeNo.TheVariants.{OtherLog, Memory}
use Rattle.mirror_log.specs.declared.slots.SlotNo.{SlotNo}
use Rattle.mirror_log.specs.declared.slots.SlotNo.TheVariants as slot

-- where no slot has room, the changes are of another log
abbrev pub slot_refusal : SlotNo → BridgeNo
slot_refusal slot.Full = OtherLog
slot_refusal slot.Memory = Memory
