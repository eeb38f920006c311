use Rattle.std.proofs.Common.{refl}
use Rattle.load_gen.proofs.LoadLemmas.{of_no_texts}
use Rattle.load_gen.proofs.run.whole_list.Goals as goal

pub returns : goal.returns
returns c = record {
  selection_is = of_no_texts c.in_ok-ns.ns c.in-Ok.selection c.in_ok-ns.ensures c.in-Ok.ensures.only;
  meaning_is = refl;
  limit_is = refl;
  after_is = refl;
}
