use Rattle.std.proofs.Common.{refl}
use Rattle.sess_serve.proofs.Ending.{refusal-stops, stops-silent}
use Rattle.sess_serve.specs.declared.ends.SessionEnd.TheVariants.{CutShort, ReadFault, Memory}
use Rattle.sess_serve.proofs.serve.stop.Goals as goal

pub returns-in-CutShort : goal.returns-in-CutShort
returns-in-CutShort g c = stops-silent c.args.fault _ CutShort _ _ _ c.in-CutShort.is (refl, refl) refl

pub returns-in-ReadFault : goal.returns-in-ReadFault
returns-in-ReadFault g c = stops-silent c.args.fault _ ReadFault _ _ _ c.in-ReadFault.is (refl, refl) refl

pub returns-in-Memory : goal.returns-in-Memory
returns-in-Memory g c = stops-silent c.args.fault _ Memory _ _ _ c.in-Memory.is (refl, refl) refl

pub returns-in_default : goal.returns-in_default
returns-in_default g c =
    refusal-stops c.args.fault c.send_request_refusal.result c.end_of_refusal.result _ c.end_of_refusal.ensures
    c.in_default.not-CutShort c.in_default.not-ReadFault c.in_default.not-Memory c.send_request_refusal.ensures
