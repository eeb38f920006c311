use Rattle.std.proofs.Common.{refl, subst, sym, arith}
use Rattle.std.specs.Prelude.{IfOk}
use Rattle.select_all.specs.declared.selection.Meaning.TheVariants.{Exact}
use Rattle.up_api.specs.Sections.{log_of}
use Rattle.cached_client.specs.Serving.{IsServed}
use Rattle.local_client.proofs.telling.SoleCachesReads.older.Goals as goal
use Rattle.local_client.proofs.telling.SoleCachesReads.older.Goals.{in-Ok+in_ok-made-in-Ok, in-Err-Compacted, in-Err-Memory}

pub returns-clause-served : goal.returns-clause-served
returns-clause-served g c =
    let base = g.N.LogFacts.base in
    let q = c.old_state.new.told in
    elim c.match-old_state.branch [
      | in-Ok+in_ok-made-in-Ok w ↦
          let e = w.in-Ok.ensures in
          subst (λ r. IfOk r (IsServed base c.args.resource (Exact c.args.at) 0 q c.args.at)) (sym w.result-is)
          (record { state = w.in_ok-made-in-Ok.ensures (log_of base q) c.args.resource c.args.at e.state; seen = omega (arith, e.served.1, e.section); serves = (refl, e.served.0) })
      | in-Err-Compacted w ↦ subst (λ r. IfOk r (IsServed base c.args.resource (Exact c.args.at) 0 q c.args.at)) (sym w.result-is) tt
      | in-Err-Memory w ↦ subst (λ r. IfOk r (IsServed base c.args.resource (Exact c.args.at) 0 q c.args.at)) (sym w.result-is) tt
    ]
